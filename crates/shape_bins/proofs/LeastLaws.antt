-- The least of places.
use Rattle.std.proofs.Common.{◌≡◌, ◌⊎◌, inl, inr, ℕ, ◌+◌, ◌≤◌, List, Option, None, Some, refl, sym, ap, subst, ◌∙◌, arith}
use Rattle.std.specs.Prelude.{IfSome, slice_get}
use Rattle.std.proofs.lemmas.Option.{same_Some}
use Rattle.shape_bins.specs.Least.{IsAtMost, IsLeastWith, IsLesser}
use Rattle.shape_bins.specs.Places.{AllAtLeast, HasBetween}
use Rattle.shape_bins.proofs.PlaceLaws.{between_split, between_first, between_second, between_one, at_between}

at_most_less : (found : Option ℕ) (less other : ℕ) → IsAtMost found less → less ≤ other → IsAtMost found other
at_most_less None less other h le = absurd h
at_most_less (Some place) less other h le = omega (arith, h, le)

at_most_more : (found next : Option ℕ) (other : ℕ) → ((place : ℕ) → found ≡ Some place → IsAtMost next place) → IsAtMost found other → IsAtMost next other
at_most_more None next other on h = absurd h
at_most_more (Some place) next other on h = at_most_less next place other (on place refl) h

pub least_begins : (P : ℕ → Type 0) (before : Option ℕ) → ((place : ℕ) → P place → ⊥) → IsLeastWith before P before
least_begins P before none = record {
  one = λ place e. inl e;
  below = λ other e. subst (λ (o : Option ℕ). IsAtMost o other) (sym e) (omega arith);
  least = λ other p. absurd (none other p);
}

pub least_more : (P Q R : ℕ → Type 0) (before found next : Option ℕ) → ((place : ℕ) → R place → P place ⊎ Q place) → ((place : ℕ) → P place → R place) → ((place : ℕ) → Q place → R place) → IsLeastWith before P found → IsLeastWith found Q next
    → IsLeastWith before R next
least_more P Q R before found next split first second a b = record {
  one = λ place e. elim (b.one place e) [
    | inl f ↦ elim (a.one place f) [ inl g ↦ inl g | inr p ↦ inr (first place p) ]
    | inr q ↦ inr (second place q)
  ];
  below = λ other e. at_most_more found next other b.below (a.below other e);
  least = λ other r. elim (split other r) [ inl p ↦ at_most_more found next other b.below (a.least other p) | inr q ↦ b.least other q ];
}

lesser_before : (found : Option ℕ) (lesser other : ℕ) → IfSome found (λ (k : ℕ). lesser ≤ k) → found ≡ Some other → lesser ≤ other
lesser_before None lesser other h e = absurd cc
lesser_before (Some place) lesser other h e = subst (λ (k : ℕ). lesser ≤ k) (same_Some place other e) h

pub least_one : (found : Option ℕ) (place lesser : ℕ) → IsLesser found place lesser → IsLeastWith found (λ (k : ℕ). k ≡ place) (Some lesser)
least_one found place lesser l = record {
  one = λ k e.
      let same : lesser ≡ k = same_Some lesser k e in
      elim l.one [ inl here ↦ inr (sym same ∙ here) | inr there ↦ inl (there ∙ ap (λ (j : ℕ). Some j) same) ];
  below = λ other e. lesser_before found lesser other l.before e;
  least = λ other e. subst (λ (k : ℕ). lesser ≤ k) (sym e) l.below;
}

-- the least of those that stand up to a position, and of those that stand further on
pub least_between : (P : ℕ → Type 0) (places : List ℕ) (first mid end : ℕ) (before found next : Option ℕ) → first ≤ mid → mid ≤ end → IsLeastWith before (HasBetween P places first mid) found → IsLeastWith found (HasBetween P places mid end) next
    → IsLeastWith before (HasBetween P places first end) next
least_between P places first mid end before found next above below a b = least_more (HasBetween P places first mid) (HasBetween P places mid end) (HasBetween P places first end) before found next
    (λ k h. between_split P places first mid end k h) (λ k h. between_first P places first mid end k below h) (λ k h. between_second P places first mid end k above h) a b

pub least_no_more : (P : ℕ → Type 0) (places : List ℕ) (first mid end : ℕ) (before found : Option ℕ) → first ≤ mid → mid ≤ end → ((place : ℕ) → HasBetween P places mid end place → ⊥) → IsLeastWith before (HasBetween P places first mid) found
    → IsLeastWith before (HasBetween P places first end) found
least_no_more P places first mid end before found above below none a = least_between P places first mid end before found found above below a (least_begins (HasBetween P places mid end) found none)

pub least_place : (P : ℕ → Type 0) (places : List ℕ) (first at place : ℕ) (before found : Option ℕ) (lesser : ℕ) → first ≤ at → slice_get places at ≡ Some place → P place → IsLesser found place lesser → IsLeastWith before (HasBetween P places first at) found
    → IsLeastWith before (HasBetween P places first (at + 1)) (Some lesser)
least_place P places first at place before found lesser above there p l a = least_more (HasBetween P places first at) (λ k. k ≡ place) (HasBetween P places first (at + 1)) before found (Some lesser)
    (λ k h. elim (between_split P places first at (at + 1) k h) [ inl x ↦ inl x | inr x ↦ inr (between_one P places at place k there x) ])
    (λ k h. between_first P places first at (at + 1) k (omega arith) h)
    (λ k e. between_second P places first at (at + 1) k above (subst (λ (j : ℕ). HasBetween P places at (at + 1) j) (sym e) (at_between P places at place there p)))
    a (least_one found place lesser l)

pub least_skip : (P : ℕ → Type 0) (places : List ℕ) (first at place : ℕ) (before found : Option ℕ) → first ≤ at → slice_get places at ≡ Some place → (P place → ⊥) → IsLeastWith before (HasBetween P places first at) found
    → IsLeastWith before (HasBetween P places first (at + 1)) found
least_skip P places first at place before found above there none a =
    least_no_more P places first at (at + 1) before found above (omega arith) (λ k h. none (subst P (between_one P places at place k there h) h.1)) a

-- no place further on is less than the one found
pub least_enough : (P : ℕ → Type 0) (places : List ℕ) (first mid end least : ℕ) (before found : Option ℕ) → first ≤ mid → mid ≤ end → IsAtMost found least → AllAtLeast least places mid end → IsLeastWith before (HasBetween P places first mid) found
    → IsLeastWith before (HasBetween P places first end) found
least_enough P places first mid end least before found above below enough all a = least_between P places first mid end before found found above below a (record {
  one = λ place e. inl e;
  below = λ other e. subst (λ (o : Option ℕ). IsAtMost o other) (sym e) (omega arith);
  least = λ other h. at_most_less found least other enough (all h.0.at other h.0.from h.0.to h.0.there);
})
