-- What is gathered grows step by step.
use Rattle.std.proofs.Common.{◌≡◌, ◌⊎◌, inl, inr, ℕ, ◌+◌, ◌<◌, ◌≤◌, List, length, get_or, Some, refl, sym, subst, ◌∙◌, arith}
use Rattle.std.specs.Prelude.{slice_get}
use Rattle.std.proofs.lemmas.Option.{same_Some, slice_get_read}
use Rattle.or_geom.proofs.ListLaws.{contained_at}
use Rattle.cell_chains.specs.Ordered.{AreAllBelow}
use Rattle.cell_hierarchy.specs.Below.{SomeBelow}
use Rattle.cell_hierarchy.specs.Things.{Thing, GatheredGrows}
use Rattle.cell_hierarchy.specs.declared.gathered.Gathered.{Gathered}
use Rattle.cell_hierarchy.proofs.BelowLaws.{step_to, step_from}

pub grows_none : (gathered : Gathered) (P : Thing → Type 0) → ((x : Thing) → P x → ⊥) → GatheredGrows gathered gathered P
grows_none gathered P none = record { only = λ x h. inl h; stays = λ x h. h; each = λ x h. absurd (none x h) }

pub grows_both : (a b c : Gathered) (P Q : Thing → Type 0) → GatheredGrows a b P → GatheredGrows b c Q → GatheredGrows a c (λ x. P x ⊎ Q x)
grows_both a b c P Q f g = record {
  only = λ x h. elim (g.only x h) [
    | inl old ↦ elim (f.only x old) [ inl older ↦ inl older | inr p ↦ inr (inl p) ]
    | inr q ↦ inr (inr q)
  ];
  stays = λ x h. g.stays x (f.stays x h);
  each = λ x h. elim h [ inl p ↦ g.stays x (f.each x p) | inr q ↦ g.each x q ];
}

pub grows_as : (a b : Gathered) (P Q : Thing → Type 0) → ((x : Thing) → P x → Q x) → ((x : Thing) → Q x → P x) → GatheredGrows a b P → GatheredGrows a b Q
grows_as a b P Q to from f = record {
  only = λ x h. elim (f.only x h) [ inl old ↦ inl old | inr p ↦ inr (to x p) ];
  stays = f.stays;
  each = λ x h. f.each x (from x h);
}

pub grows_begin : (gathered : Gathered) (P : ℕ → Thing → Type 0) → GatheredGrows gathered gathered (SomeBelow P 0)
grows_begin gathered P = grows_none gathered (SomeBelow P 0) (λ x b. let lt = b.below in omega arith)

pub grows_on : (P : ℕ → Thing → Type 0) (n : ℕ) (old now next : Gathered) → GatheredGrows old now (SomeBelow P n) → GatheredGrows now next (P n) → GatheredGrows old next (SomeBelow P (n + 1))
grows_on P n old now next f g = grows_as old next (λ x. SomeBelow P n x ⊎ P n x) (SomeBelow P (n + 1)) (step_to P n) (step_from P n) (grows_both old now next (SomeBelow P n) (P n) f g)

-- P of the number to which the index i of the list leads
pub record AtListed (P : ℕ → Thing → Type 0) (list : List ℕ) (i : ℕ) (x : Thing) : Type 0 where
  pub n : ℕ
  pub is : slice_get list i ≡ Some n
  pub has : P n x

pub listed_at : (list : List ℕ) (i n : ℕ) → i < length list → n ≡ get_or list i n → slice_get list i ≡ Some n
listed_at list i n lt read = slice_get_read list _ i n refl lt read

pub listed_below : (count : ℕ) (list : List ℕ) (i n : ℕ) → slice_get list i ≡ Some n → AreAllBelow count list → n < count
listed_below count list i n at all = (all n).0 (contained_at list i n at)

pub grows_listed : (P : ℕ → Thing → Type 0) (list : List ℕ) (i n : ℕ) (old now next : Gathered) → slice_get list i ≡ Some n → GatheredGrows old now (SomeBelow (AtListed P list) i) → GatheredGrows now next (P n)
    → GatheredGrows old next (SomeBelow (AtListed P list) (i + 1))
grows_listed P list i n old now next at f g =
    grows_on (AtListed P list) i old now next f
    (grows_as now next (P n) (AtListed P list i) (λ x h. record { n = n; is = at; has = h }) (λ x h. subst (λ (m : ℕ). P m x) (same_Some h.n n (sym h.is ∙ at)) h.has) g)

pub grows_all : (P : ℕ → Thing → Type 0) (list : List ℕ) (count i : ℕ) (old new : Gathered) → length list ≤ i → AreAllBelow count list → GatheredGrows old new (SomeBelow (AtListed P list) i) → GatheredGrows old new (SomeBelow P count)
grows_all P list count i old new over all f =
    grows_as old new (SomeBelow (AtListed P list) i) (SomeBelow P count)
    (λ x b. record { index = b.has.n; below = (all b.has.n).0 (contained_at list b.index b.has.n b.has.is); has = b.has.has })
    (λ x b.
    let h = (all b.index).1 b.below in
    let lt = h.1 in
    record { index = h.0; below = omega (arith, lt, over); has = record { n = b.index; is = slice_get_read list _ h.0 b.index refl lt (sym h.2); has = b.has } }) f
