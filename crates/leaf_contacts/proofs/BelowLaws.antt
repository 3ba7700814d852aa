-- Lists that grow by stands one reference below a chain.
use Rattle.std.proofs.Common.{◌≡◌, ◌⊎◌, inl, inr, ℕ, ◌+◌, ◌≤◌, List, [], ◌∷◌, ◌++◌, sym, subst, arith}
use Rattle.std.specs.Prelude.{Contains}
use Rattle.std.proofs.lemmas.List.Elements.{Contains-append_left, Contains-push, Contains-push_cases}
use Rattle.std.proofs.lemmas.Bool.{cases_lt}
use Rattle.cell_hierarchy.specs.Below.{SomeBelow}
use Rattle.leaf_contacts.specs.declared.cells.ReachedCells.{ReachedCells}
use Rattle.leaf_contacts.specs.declared.stand.Stand.{Stand}
use Rattle.leaf_contacts.specs.Chains.{Reference}
use Rattle.leaf_contacts.specs.Stands.{AddsBelow, IsStandOf}

pub below_none : (tree : ReachedCells) (chain : List Reference) (P : Reference → Type 0) (xs : List Stand) → ((r : Reference) → P r → ⊥) → AddsBelow tree chain P xs xs
below_none tree chain P xs none = record {
  only = λ stand h. inl h;
  stays = λ stand h. h;
  each = λ r p. absurd (none r p);
}

pub below_one : (tree : ReachedCells) (chain : List Reference) (P : Reference → Type 0) (xs ys : List Stand) (r : Reference) (made : Stand) → ys ≡ xs ++ made ∷ [] → IsStandOf tree (chain ++ r ∷ []) made → ((q : Reference) → P q → q ≡ r)
    → AddsBelow tree chain P xs ys
below_one tree chain P xs ys r made is stands once = record {
  only = λ stand h. elim (Contains-push_cases xs made stand (subst (λ (l : List Stand). Contains l stand) is h)) [
    | inl old ↦ inl old
    | inr same ↦ inr (record { reference = r; is = subst (IsStandOf tree (chain ++ r ∷ [])) same stands })
  ];
  stays = λ stand h. subst (λ (l : List Stand). Contains l stand) (sym is) (Contains-append_left xs (made ∷ []) stand h);
  each = λ q has. record {
    stand = made;
    listed = subst (λ (l : List Stand). Contains l made) (sym is) (Contains-push xs made);
    is = subst (λ (t : Reference). IsStandOf tree (chain ++ t ∷ []) made) (sym (once q has)) stands;
  };
}

pub below_then : (tree : ReachedCells) (chain : List Reference) (P Q R : Reference → Type 0) (xs ys zs : List Stand) → AddsBelow tree chain P xs ys → AddsBelow tree chain Q ys zs → ((r : Reference) → R r → P r ⊎ Q r)
    → AddsBelow tree chain R xs zs
below_then tree chain P Q R xs ys zs a b to = record {
  only = λ stand h. elim (b.only stand h) [
    | inl middle ↦ a.only stand middle
    | inr new ↦ inr new
  ];
  stays = λ stand h. b.stays stand (a.stays stand h);
  each = λ r has. elim (to r has) [
    | inl p ↦ let s = a.each r p in record { stand = s.stand; listed = b.stays s.stand s.listed; is = s.is }
    | inr q ↦ b.each r q
  ];
}

pub below_as : (tree : ReachedCells) (chain : List Reference) (P Q : Reference → Type 0) (xs ys : List Stand) → ((r : Reference) → Q r → P r) → AddsBelow tree chain P xs ys → AddsBelow tree chain Q xs ys
below_as tree chain P Q xs ys from a = record { only = a.only; stays = a.stays; each = λ r has. a.each r (from r has) }

-- of the numbers below one more, one is below, or it is the last
some_more : (P : ℕ → Reference → Type 0) (n : ℕ) (r : Reference) → SomeBelow P (n + 1) r → SomeBelow P n r ⊎ P n r
some_more P n r h = elim (cases_lt h.index n) [
  | inl less ↦ inl (record { index = h.index; below = less; has = h.has })
  | inr ge ↦ let below = h.below in let e : h.index ≡ n = omega (arith, below, ge) in inr (subst (λ (k : ℕ). P k r) e h.has)
]

pub below_start : (tree : ReachedCells) (chain : List Reference) (P : ℕ → Reference → Type 0) (xs : List Stand) → AddsBelow tree chain (SomeBelow P 0) xs xs
below_start tree chain P xs = below_none tree chain (SomeBelow P 0) xs (λ r h. let below = h.below in absurd (omega (arith, below)))

-- by those of one number more
pub below_step : (tree : ReachedCells) (chain : List Reference) (P : ℕ → Reference → Type 0) (n : ℕ) (xs ys zs : List Stand) → AddsBelow tree chain (SomeBelow P n) xs ys → AddsBelow tree chain (P n) ys zs → AddsBelow tree chain (SomeBelow P (n + 1)) xs zs
below_step tree chain P n xs ys zs a b = below_then tree chain (SomeBelow P n) (P n) (SomeBelow P (n + 1)) xs ys zs a b (λ r h. some_more P n r h)

pub below_end : (tree : ReachedCells) (chain : List Reference) (P : ℕ → Reference → Type 0) (n m : ℕ) (xs ys : List Stand) → n ≤ m → m ≤ n → AddsBelow tree chain (SomeBelow P n) xs ys → AddsBelow tree chain (SomeBelow P m) xs ys
below_end tree chain P n m xs ys le ge a = let e : n ≡ m = omega (arith, le, ge) in subst (λ (k : ℕ). AddsBelow tree chain (SomeBelow P k) xs ys) e a
