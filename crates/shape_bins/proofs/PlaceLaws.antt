-- What stands in a list of places from one position up to another.
use Rattle.std.proofs.Common.{◌≡◌, ◌⊎◌, inl, inr, ℕ, ◌+◌, ◌≤◌, List, [], ◌∷◌, ◌++◌, Some, sym, subst, ◌∙◌, arith}
use Rattle.std.specs.Prelude.{slice_get}
use Rattle.std.proofs.lemmas.Bool.{cases_lt}
use Rattle.std.proofs.lemmas.Option.{same_Some}
use Rattle.or_geom.specs.Adds.{Adds}
use Rattle.or_geom.proofs.AddsLaws.{adds_none, adds_one, adds_both, adds_as}
use Rattle.shape_bins.specs.Places.{AllBetween, HasBetween}

pub between_none : (P : ℕ → Type 0) (places : List ℕ) (first end : ℕ) → end ≤ first → (place : ℕ) → HasBetween P places first end place → ⊥
between_none P places first end short place h =
    let from = h.0.from in
    let to = h.0.to in
    omega (arith, from, to, short)

pub between_split : (P : ℕ → Type 0) (places : List ℕ) (first mid end place : ℕ) → HasBetween P places first end place → HasBetween P places first mid place ⊎ HasBetween P places mid end place
between_split P places first mid end place h = elim (cases_lt h.0.at mid) [
  | inl lt ↦ inl (record { at = h.0.at; from = h.0.from; to = lt; there = h.0.there }, h.1)
  | inr ge ↦ inr (record { at = h.0.at; from = ge; to = h.0.to; there = h.0.there }, h.1)
]

pub between_first : (P : ℕ → Type 0) (places : List ℕ) (first mid end place : ℕ) → mid ≤ end → HasBetween P places first mid place → HasBetween P places first end place
between_first P places first mid end place le h = let to = h.0.to in (record { at = h.0.at; from = h.0.from; to = omega (arith, to, le); there = h.0.there }, h.1)

pub between_second : (P : ℕ → Type 0) (places : List ℕ) (first mid end place : ℕ) → first ≤ mid → HasBetween P places mid end place → HasBetween P places first end place
between_second P places first mid end place le h = let from = h.0.from in (record { at = h.0.at; from = omega (arith, from, le); to = h.0.to; there = h.0.there }, h.1)

-- what stands at one position
pub between_one : (P : ℕ → Type 0) (places : List ℕ) (at place other : ℕ) → slice_get places at ≡ Some place → HasBetween P places at (at + 1) other → other ≡ place
between_one P places at place other there h =
    let from = h.0.from in
    let to = h.0.to in
    let same : h.0.at ≡ at = omega (arith, from, to) in
    same_Some other place (sym h.0.there ∙ (subst (λ (k : ℕ). slice_get places k ≡ Some place) (sym same) there))

pub at_between : (P : ℕ → Type 0) (places : List ℕ) (at place : ℕ) → slice_get places at ≡ Some place → P place → HasBetween P places at (at + 1) place
at_between P places at place there p = (record { at = at; from = omega arith; to = omega arith; there = there }, p)

pub adds_between : (P : ℕ → Type 0) (places : List ℕ) (first mid end : ℕ) (old now new : List ℕ) → first ≤ mid → mid ≤ end → Adds old now (HasBetween P places first mid) → Adds now new (HasBetween P places mid end)
    → Adds old new (HasBetween P places first end)
adds_between P places first mid end old now new above below a b =
    adds_as old new (λ x. HasBetween P places first mid x ⊎ HasBetween P places mid end x) (HasBetween P places first end)
    (λ x h. elim h [ inl l ↦ between_first P places first mid end x below l | inr r ↦ between_second P places first mid end x above r ])
    (λ x h. between_split P places first mid end x h)
    (adds_both old now new (HasBetween P places first mid) (HasBetween P places mid end) a b)

-- nothing that has P stands further on
pub adds_no_more : (P : ℕ → Type 0) (places : List ℕ) (first mid end : ℕ) (old now : List ℕ) → first ≤ mid → mid ≤ end → ((place : ℕ) → HasBetween P places mid end place → ⊥) → Adds old now (HasBetween P places first mid)
    → Adds old now (HasBetween P places first end)
adds_no_more P places first mid end old now above below none a = adds_between P places first mid end old now now above below a (adds_none now (HasBetween P places mid end) none)

pub adds_place : (P : ℕ → Type 0) (places : List ℕ) (first at place : ℕ) (old now new : List ℕ) → first ≤ at → slice_get places at ≡ Some place → P place → new ≡ now ++ place ∷ [] → Adds old now (HasBetween P places first at)
    → Adds old new (HasBetween P places first (at + 1))
adds_place P places first at place old now new above there p is a =
    adds_between P places first at (at + 1) old now new above (omega arith) a
    (adds_one now new place (HasBetween P places at (at + 1)) is (at_between P places at place there p) (λ x h. between_one P places at place x there h))

pub skips_place : (P : ℕ → Type 0) (places : List ℕ) (first at place : ℕ) (old now : List ℕ) → first ≤ at → slice_get places at ≡ Some place → (P place → ⊥) → Adds old now (HasBetween P places first at)
    → Adds old now (HasBetween P places first (at + 1))
skips_place P places first at place old now above there none a =
    adds_no_more P places first at (at + 1) old now above (omega arith) (λ x h. none (subst P (between_one P places at place x there h) h.1)) a

-- one that has no P, for walks that look for one
pub none_more : (P : ℕ → Type 0) (places : List ℕ) (first mid end : ℕ) → ((place : ℕ) → HasBetween P places first mid place → ⊥) → ((place : ℕ) → HasBetween P places mid end place → ⊥) → (place : ℕ) → HasBetween P places first end place → ⊥
none_more P places first mid end a b place h = elim (between_split P places first mid end place h) [ inl l ↦ a place l | inr r ↦ b place r ]

pub none_here : (P : ℕ → Type 0) (places : List ℕ) (first at place : ℕ) → slice_get places at ≡ Some place → (P place → ⊥) → ((other : ℕ) → HasBetween P places first at other → ⊥) → (other : ℕ) → HasBetween P places first (at + 1) other → ⊥
none_here P places first at place there none before =
    none_more P places first at (at + 1) before (λ x h. none (subst P (between_one P places at place x there h) h.1))

pub all_more : (P : ℕ → Type 0) (places : List ℕ) (first mid end : ℕ) → AllBetween P places first mid → AllBetween P places mid end → AllBetween P places first end
all_more P places first mid end a b at place above below there = elim (cases_lt at mid) [ inl lt ↦ a at place above lt there | inr ge ↦ b at place ge below there ]

pub all_here : (P : ℕ → Type 0) (places : List ℕ) (first at place : ℕ) → slice_get places at ≡ Some place → P place → AllBetween P places first at → AllBetween P places first (at + 1)
all_here P places first at place there p before k other above below other_there = elim (cases_lt k at) [
  | inl lt ↦ before k other above lt other_there
  | inr ge ↦
      let same : k ≡ at = omega (arith, ge, below) in
      subst P (same_Some place other (sym there ∙ subst (λ (j : ℕ). slice_get places j ≡ Some other) same other_there)) p
]
