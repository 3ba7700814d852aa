-- Nets that go with one another agree.
use Rattle.std.proofs.Common.{◌≡◌, inl, inr, ℕ, ◌+◌, Bool, true, false, cond, List, Option, Some, None, refl, sym, ap, subst, ◌∙◌, arith}
use Rattle.std.specs.Prelude.{slice_get}
use Rattle.std.specs.BTreeMap.{get, is_at}
use Rattle.std.specs.Ordering.{nat_cmp, is_eq}
use Rattle.std.specs.FinMap.{nat_cmp-IsAntisymmetric}
use Rattle.std.specs.Cmp.{Equal-is, nat_cmp_is}
use Rattle.std.specs.declared.cmp.Ordering.TheVariants.{Equal}
use Rattle.std.proofs.lemmas.Bool.{cases_lt}
use Rattle.or_geom.proofs.ListLaws.{one_at}
use Rattle.net_extractor.specs.declared.conflicts.Matching.{Matching}
use Rattle.net_extractor.specs.declared.pins.PinNet.{PinNet}
use Rattle.net_extractor.specs.Conflicts.{AgreeOn, AgreeBefore}
use Rattle.net_extractor.specs.Matching.{AreMatched, GoTogether, IsPut}

-- a pin whose nets are matched, and one whose nets go together
agree_with : (layout rows its_layout its_rows : Option ℕ) (a net : PinNet) → GoTogether layout rows net → its_layout ≡ Some a.layout → its_rows ≡ Some a.rows → (a.rows ≡ net.rows → layout ≡ its_layout) → (a.layout ≡ net.layout → rows ≡ its_rows) → AgreeOn a net
agree_with None None its_layout its_rows a net together l r by_rows by_layout = (
  λ e. let clash : ◌≡◌ {A = Option ℕ} None (Some a.rows) = by_layout e ∙ r in absurd cc,
  λ e. let clash : ◌≡◌ {A = Option ℕ} None (Some a.layout) = by_rows e ∙ l in absurd cc,
)
agree_with None (Some y) its_layout its_rows a net together l r by_rows by_layout = absurd together
agree_with (Some x) None its_layout its_rows a net together l r by_rows by_layout = absurd together
agree_with (Some x) (Some y) its_layout its_rows a net together l r by_rows by_layout = (
  λ e. let same : ◌≡◌ {A = Option ℕ} (Some y) (Some a.rows) = by_layout e ∙ r in let one : y ≡ a.rows = cc in sym one ∙ together.1,
  λ e. let same : ◌≡◌ {A = Option ℕ} (Some x) (Some a.layout) = by_rows e ∙ l in let one : x ≡ a.layout = cc in sym one ∙ together.0,
)

pub matched_agree : (nets : List PinNet) (place : ℕ) (matching : Matching) (net : PinNet) (layout rows : Option ℕ) → AreMatched nets place matching → slice_get nets place ≡ Some net → layout ≡ get nat_cmp matching.layouts net.rows
    → rows ≡ get nat_cmp matching.rows net.layout → GoTogether layout rows net → AgreeBefore nets place place
matched_agree nets place matching net layout rows m here is_layout is_rows together k a b lt at_k at_place =
    let same : net ≡ b = one_at nets place net b here at_place in
    subst (λ (n : PinNet). AgreeOn a n) same
    (agree_with layout rows (get nat_cmp matching.layouts a.rows) (get nat_cmp matching.rows a.layout) a net together (m.layouts k a lt at_k) (m.rows k a lt at_k)
    (λ e. is_layout ∙ ap (λ (q : ℕ). get nat_cmp matching.layouts q) (sym e)) (λ e. is_rows ∙ ap (λ (q : ℕ). get nat_cmp matching.rows q) (sym e)))

equal_is : (x y : ℕ) → is_eq (nat_cmp x y) ≡ true → x ≡ y
equal_is x y e = nat_cmp-IsAntisymmetric x y ((Equal-is (nat_cmp x y)).0 e)

-- what was put in, and what was there
put_keeps : (key value q x : ℕ) (old : Option ℕ) → old ≡ Some x → (key ≡ q → value ≡ x) → cond (is_at (nat_cmp key) q) (Some value) old ≡ Some x
put_keeps key value q x old is same = go (is_at (nat_cmp key) q) refl
  where
    go : (b : Bool) → is_at (nat_cmp key) q ≡ b → cond b (Some value) old ≡ Some x
    go true e = ap (λ (n : ℕ). Some n) (same (equal_is key q e))
    go false e = is

self_at : (key : ℕ) → is_at (nat_cmp key) key ≡ true
self_at key = (Equal-is (nat_cmp key key)).1 (sym (nat_cmp_is key key Equal refl))

put_gives : (key value : ℕ) (old : Option ℕ) → cond (is_at (nat_cmp key) key) (Some value) old ≡ Some value
put_gives key value old = ap (λ (b : Bool). cond b (Some value) old) (self_at key)

pub matched_begins : (nets : List PinNet) (matching : Matching) → AreMatched nets 0 matching
matched_begins nets matching = record { layouts = λ k a lt at_k. absurd (omega (arith, lt)); rows = λ k a lt at_k. absurd (omega (arith, lt)) }

pub matched_more : (nets : List PinNet) (place : ℕ) (net : PinNet) (old new : Matching) → slice_get nets place ≡ Some net → AgreeBefore nets place place → IsPut net old new → AreMatched nets place old → AreMatched nets (place + 1) new
matched_more nets place net old new here agree put m = record {
  layouts = λ k a lt at_k. put.layouts a.rows ∙ elim (cases_lt k place) [
    | inl less ↦ put_keeps net.rows net.layout a.rows a.layout (get nat_cmp old.layouts a.rows) (m.layouts k a less at_k) (λ e. sym ((agree k a net less at_k here).1 (sym e)))
    | inr ge ↦
        let e : k ≡ place = omega (arith, lt, ge) in
        let same : net ≡ a = one_at nets place net a here (subst (λ (j : ℕ). slice_get nets j ≡ Some a) e at_k) in
        subst (λ (n : PinNet). cond (is_at (nat_cmp net.rows) n.rows) (Some net.layout) (get nat_cmp old.layouts n.rows) ≡ Some n.layout) same (put_gives net.rows net.layout (get nat_cmp old.layouts net.rows))
  ];
  rows = λ k a lt at_k. put.rows a.layout ∙ elim (cases_lt k place) [
    | inl less ↦ put_keeps net.layout net.rows a.layout a.rows (get nat_cmp old.rows a.layout) (m.rows k a less at_k) (λ e. sym ((agree k a net less at_k here).0 (sym e)))
    | inr ge ↦
        let e : k ≡ place = omega (arith, lt, ge) in
        let same : net ≡ a = one_at nets place net a here (subst (λ (j : ℕ). slice_get nets j ≡ Some a) e at_k) in
        subst (λ (n : PinNet). cond (is_at (nat_cmp net.layout) n.layout) (Some net.rows) (get nat_cmp old.rows n.layout) ≡ Some n.rows) same (put_gives net.layout net.rows (get nat_cmp old.rows net.layout))
  ];
}
