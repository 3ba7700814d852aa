-- The first of some violations.
use Rattle.std.proofs.Common.{◌≡◌, ◌≢◌, ◌⊎◌, inl, inr, ℕ, ◌+◌, ◌<◌, ◌≤◌, false, List, length, get_or, Option, Some, None, refl, sym, ap, subst, ◌∙◌, arith}
use Rattle.std.specs.Prelude.{Contains, slice_get}
use Rattle.std.specs.Ordering.{is_gt, nat_cmp, ordering_reverse, ordering_then}
use Rattle.std.specs.Option.{option_cmp}
use Rattle.std.specs.declared.cmp.Ordering.{Ordering}
use Rattle.std.specs.declared.cmp.Ordering.TheVariants.{Less, Equal, Greater}
use Rattle.std.proofs.lemmas.Cmp.{nat_cmp_total, tied_itself, upto}
use Rattle.std.proofs.lemmas.Option.{same_Some, slice_get_read, slice_get_within}
use Rattle.or_geom.specs.declared.shape.Shape.{Shape}
use Rattle.or_geom.specs.ShapeOrder.{shape_order}
use Rattle.or_geom.proofs.ListLaws.{contained_at}
use Rattle.cell_hierarchy.specs.Below.{SomeBelow}
use Rattle.cell_hierarchy.proofs.BelowLaws.{step_from, step_to}
use Rattle.tile_checker.specs.declared.violation.Violation.{Violation}
use Rattle.tile_checker.specs.Earliest.{AreNotEarlier, IsEarliestOf, IsEarliestWith, IsKeptOr, IsOfFirst, IsOfRule, StandsAt}
use Rattle.tile_checker.specs.RuleReport.{violation_order}
use Rattle.tile_checker.proofs.OneReportLaws.{violation_total}
use Rattle.tile_checker.proofs.PlaceLaws.{place_of}

not_greater : (o : Ordering) → o ≢ Greater → is_gt o ≡ false
not_greater Less h = refl
not_greater Equal h = refl
not_greater Greater h = absurd (h refl)

is_not_greater : (o : Ordering) → is_gt o ≡ false → o ≢ Greater
is_not_greater Less h e = absurd cc
is_not_greater Equal h e = absurd cc
is_not_greater Greater h e = absurd cc

pub up_to : (u v w : Violation) → violation_order u v ≢ Greater → violation_order v w ≢ Greater → violation_order u w ≢ Greater
up_to u v w a b = is_not_greater (violation_order u w) (upto violation_total u v w (not_greater (violation_order u v) a) (not_greater (violation_order v w) b))

itself : (v : Violation) → violation_order v v ≢ Greater
itself v e = let same : ◌≡◌ {A = Ordering} Equal Greater = sym (tied_itself violation_total v) ∙ e in cc

turned : (v w : Violation) → violation_order v w ≡ Greater → violation_order w v ≢ Greater
turned v w e f = let less : ◌≡◌ {A = Ordering} Greater Less = sym f ∙ (violation_total.antisymm w v ∙ ap ordering_reverse e) in cc

less_is : (o : Ordering) → o ≡ Less → o ≢ Greater
less_is o e g = let both : ◌≡◌ {A = Ordering} Less Greater = sym e ∙ g in cc

equal_is : (o : Ordering) → o ≡ Equal → o ≢ Greater
equal_is o e g = let both : ◌≡◌ {A = Ordering} Equal Greater = sym e ∙ g in cc

-- what is kept stays the first, if none of the others comes before it
pub stays_first : (kept : Option Violation) (P : Violation → Type 0) → AreNotEarlier kept P → IsEarliestWith kept P kept
stays_first None P behind = absurd behind
stays_first (Some v) P behind = record {
  has = inl refl;
  first = λ w h. elim h [ inl e ↦ subst (λ (u : Violation). violation_order v u ≢ Greater) (same_Some v w e) (itself v) | inr p ↦ behind w p ];
}

-- or if there are no others
pub none_first : (kept : Option Violation) (P : Violation → Type 0) → ((v : Violation) → P v → ⊥) → IsEarliestWith kept P kept
none_first None P none = λ v h. elim h [ inl e ↦ let both : ◌≡◌ {A = Option Violation} None (Some v) = e in absurd cc | inr p ↦ none v p ]
none_first (Some v) P none = stays_first (Some v) P (λ w p. absurd (none w p))

-- one other
pub one_alone : (kept : Option Violation) (w : Violation) → kept ≡ None → IsEarliestWith kept (λ u. w ≡ u) (Some w)
one_alone kept w none = record {
  has = inr refl;
  first = λ u h. elim h [
    | inl e ↦ let both : ◌≡◌ {A = Option Violation} None (Some u) = sym none ∙ e in absurd cc
    | inr same ↦ subst (λ (x : Violation). violation_order w x ≢ Greater) same (itself w)
  ];
}

stays_before : (kept : Option Violation) (v w : Violation) → kept ≡ Some v → violation_order v w ≢ Greater → IsEarliestWith kept (λ u. w ≡ u) (Some v)
stays_before kept v w is before =
    subst (λ (k : Option Violation). IsEarliestWith k (λ u. w ≡ u) (Some v)) (sym is)
    (stays_first (Some v) (λ u. w ≡ u) (λ u same. subst (λ (x : Violation). violation_order v x ≢ Greater) same before))

pub less_stays : (kept : Option Violation) (v w : Violation) → kept ≡ Some v → violation_order v w ≡ Less → IsEarliestWith kept (λ u. w ≡ u) (Some v)
less_stays kept v w is o = stays_before kept v w is (less_is (violation_order v w) o)

pub equal_stays : (kept : Option Violation) (v w : Violation) → kept ≡ Some v → violation_order v w ≡ Equal → IsEarliestWith kept (λ u. w ≡ u) (Some v)
equal_stays kept v w is o = stays_before kept v w is (equal_is (violation_order v w) o)

pub greater_goes : (kept : Option Violation) (v w : Violation) → kept ≡ Some v → violation_order v w ≡ Greater → IsEarliestWith kept (λ u. w ≡ u) (Some w)
greater_goes kept v w is o = record {
  has = inr refl;
  first = λ u h. elim h [
    | inl same ↦ subst (λ (x : Violation). violation_order w x ≢ Greater) (same_Some v u (sym is ∙ same)) (turned v w o)
    | inr same ↦ subst (λ (x : Violation). violation_order w x ≢ Greater) same (itself w)
  ];
}

-- those of Q after those of P
pub first_then : (kept now next : Option Violation) (P Q : Violation → Type 0) → IsEarliestWith kept P now → IsEarliestWith now Q next → IsEarliestWith kept (λ v. P v ⊎ Q v) next
first_then kept None None P Q a b = λ v h. elim h [ inl e ↦ a v (inl e) | inr k ↦ elim k [ inl p ↦ a v (inr p) | inr q ↦ b v (inr q) ] ]
first_then kept None (Some w) P Q a b = record {
  has = elim b.has [ inl e ↦ let both : ◌≡◌ {A = Option Violation} None (Some w) = e in absurd cc | inr q ↦ inr (inr q) ];
  first = λ v h. elim h [ inl e ↦ absurd (a v (inl e)) | inr k ↦ elim k [ inl p ↦ absurd (a v (inr p)) | inr q ↦ b.first v (inr q) ] ];
}
first_then kept (Some u) None P Q a b = absurd (b u (inl refl))
first_then kept (Some u) (Some w) P Q a b = record {
  has = elim b.has [
    | inl e ↦ subst (λ (x : Violation). IsKeptOr kept (λ v. P v ⊎ Q v) x) (same_Some u w e) (elim a.has [ inl same ↦ inl same | inr p ↦ inr (inl p) ])
    | inr q ↦ inr (inr q)
  ];
  first = λ v h. elim h [
    | inl e ↦ up_to w u v (b.first u (inl refl)) (a.first v (inl e))
    | inr k ↦ elim k [ inl p ↦ up_to w u v (b.first u (inl refl)) (a.first v (inr p)) | inr q ↦ b.first v (inr q) ]
  ];
}

-- other words for the same violations
pub first_as : (found : Option Violation) (P Q : Violation → Type 0) → ((v : Violation) → P v → Q v) → ((v : Violation) → Q v → P v) → IsEarliestOf P found → IsEarliestOf Q found
first_as None P Q to from a = λ v q. a v (from v q)
first_as (Some w) P Q to from a = record { has = to w a.has; first = λ v q. a.first v (from v q) }

pub first_with_as : (kept found : Option Violation) (P Q : Violation → Type 0) → ((v : Violation) → P v → Q v) → ((v : Violation) → Q v → P v) → IsEarliestWith kept P found → IsEarliestWith kept Q found
first_with_as kept found P Q to from a =
    first_as found (IsKeptOr kept P) (IsKeptOr kept Q) (λ v h. elim h [ inl e ↦ inl e | inr p ↦ inr (to v p) ]) (λ v h. elim h [ inl e ↦ inl e | inr q ↦ inr (from v q) ]) a

-- where nothing was kept
pub first_alone : (found : Option Violation) (P : Violation → Type 0) → IsEarliestWith None P found → IsEarliestOf P found
first_alone found P a =
    first_as found (IsKeptOr None P) P (λ v h. elim h [ inl e ↦ let both : ◌≡◌ {A = Option Violation} None (Some v) = e in absurd cc | inr p ↦ p ]) (λ v p. inr p) a

-- Loops over numbers.
pub below_begins : (kept : Option Violation) (P : ℕ → Violation → Type 0) → IsEarliestWith kept (SomeBelow P 0) kept
below_begins kept P = none_first kept (SomeBelow P 0) (λ v b. omega (arith, b.below))

pub below_goes_on : (kept now next : Option Violation) (P : ℕ → Violation → Type 0) (n : ℕ) → IsEarliestWith kept (SomeBelow P n) now → IsEarliestWith now (P n) next → IsEarliestWith kept (SomeBelow P (n + 1)) next
below_goes_on kept now next P n a b =
    first_with_as kept next (λ v. SomeBelow P n v ⊎ P n v) (SomeBelow P (n + 1)) (step_to P n) (step_from P n) (first_then kept now next (SomeBelow P n) (P n) a b)

-- a list of violations
pub read_one : (list : List Violation) (n : ℕ) (v : Violation) (now next : Option Violation) → n < length list → v ≡ get_or list n v → IsEarliestWith now (λ u. v ≡ u) next → IsEarliestWith now (StandsAt list n) next
read_one list n v now next lt is first =
    let there : slice_get list n ≡ Some v = slice_get_read list (length list) n v refl lt is in
    first_with_as now next (λ u. v ≡ u) (StandsAt list n) (λ u same. there ∙ ap (λ (x : Violation). Some x) same) (λ u h. same_Some v u (sym there ∙ h)) first

-- what another found
pub some_found : (kept other : Option Violation) (w : Violation) (next : Option Violation) → other ≡ Some w → IsEarliestWith kept (λ u. w ≡ u) next → IsEarliestWith kept (λ v. other ≡ Some v) next
some_found kept other w next is first =
    first_with_as kept next (λ u. w ≡ u) (λ u. other ≡ Some u) (λ u same. is ∙ ap (λ (x : Violation). Some x) same) (λ u h. same_Some w u (sym is ∙ h)) first

pub none_found : (kept other : Option Violation) → other ≡ None → IsEarliestWith kept (λ v. other ≡ Some v) kept
none_found kept other is = none_first kept (λ v. other ≡ Some v) (λ v h. let both : ◌≡◌ {A = Option Violation} None (Some v) = sym is ∙ h in cc)

pub stands_all : (list : List Violation) (n : ℕ) (kept now : Option Violation) → length list ≤ n → IsEarliestWith kept (SomeBelow (StandsAt list) n) now → IsEarliestWith kept (Contains list) now
stands_all list n kept now le a =
    first_with_as kept now (SomeBelow (StandsAt list) n) (Contains list) (λ v b. contained_at list b.index v b.has)
    (λ v h. let p = place_of list v h in record { index = p.0; below = omega (arith, le, slice_get_within list p.0 v p.1); has = p.1 }) a

-- what is kept comes before all of a later rule
before_rule : (m n : ℕ) (o : Ordering) → m < n → ordering_then (nat_cmp m n) o ≡ Less
before_rule m n o lt = grind arith

pub rule_behind : (v : Violation) (number : ℕ) → v.rule < number → AreNotEarlier (Some v) (IsOfRule number)
rule_behind v number lt w of = less_is (violation_order v w) (before_rule v.rule w.rule (ordering_then (shape_order v.first w.first) (option_cmp shape_order v.second w.second)) (subst (λ (n : ℕ). v.rule < n) (sym of) lt))

-- and all of a later first shape
before_first : (m n : ℕ) (o p : Ordering) → m ≡ n → o ≡ Less → ordering_then (nat_cmp m n) (ordering_then o p) ≡ Less
before_first m n o p same less =
    let equal : nat_cmp m n ≡ Equal = subst (λ (k : ℕ). nat_cmp m k ≡ Equal) same (tied_itself nat_cmp_total m) in
    ap (λ (q : Ordering). ordering_then q (ordering_then o p)) equal ∙ ap (λ (q : Ordering). ordering_then q p) less

pub first_behind : (v : Violation) (number : ℕ) (shape : Shape) → v.rule ≡ number → shape_order v.first shape ≡ Less → AreNotEarlier (Some v) (IsOfFirst number shape)
first_behind v number shape same less w of =
    less_is (violation_order v w) (before_first v.rule w.rule (shape_order v.first w.first) (option_cmp shape_order v.second w.second) (same ∙ sym of.0) (subst (λ (s : Shape). shape_order v.first s ≡ Less) (sym of.1) less))

pub behind_as : (kept : Option Violation) (P Q : Violation → Type 0) → ((v : Violation) → Q v → P v) → AreNotEarlier kept P → AreNotEarlier kept Q
behind_as None P Q from behind = behind
behind_as (Some v) P Q from behind = λ w q. behind w (from w q)
