-- The greatest distance by which shapes pass an outline.
use Rattle.std.proofs.Common.{◌≡◌, ◌⊎◌, inl, inr, ℕ, suc, ◌+◌, ◌<◌, ◌≤◌, ℤ, to_z, of_z, w64, pos, ◌≤ℤ◌, ◌+ℤ◌, ◌-ℤ◌, ◌^◌, List, [], ◌∷◌, length, Some, refl, sym, ap, subst, ◌∙◌, arith}
use Rattle.std.specs.Prelude.{slice_get, Contains, All}
use Rattle.std.specs.Int.{int_max}
use Rattle.std.proofs.lemmas.Int.{ints, clamps, by_lt_z}
use Rattle.std.proofs.lemmas.Option.{same_Some}
use Rattle.or_geom.specs.declared.shape.Rect.{Rect}
use Rattle.or_geom.specs.declared.shape.Shape.{Shape}
use Rattle.or_geom.specs.Distance.{IsReachable}
use Rattle.or_geom.proofs.ListLaws.{contained_at, one_at}
use Rattle.leaf_tables.specs.NearLeaf.{IsLeafLength}
use Rattle.tech_rules.specs.declared.tech.Layer.{Layer}
use Rattle.tech_rules.specs.declared.tech.Rule.{Rule}
use Rattle.tech_rules.specs.declared.tech.Rule.TheVariants.{Width, Space, Enclose}
use Rattle.tech_rules.specs.Facts.{IsRule}
use Rattle.cell_roles.specs.declared.role.Role.{Role}
use Rattle.cell_roles.specs.Roles.{all_roles}
use Rattle.std.proofs.lemmas.Bool.{cases_lt}
use Rattle.cell_hierarchy.specs.FlatLists.{AreFlatLists}
use Rattle.cell_hierarchy.specs.Plain.{FlatLists}
use Rattle.cell_hierarchy.proofs.OneListsLaws.{one_pair}
use Rattle.leaf_shapes.proofs.PlaceLaws.{EachBefore, each_more, each_contained}
use Rattle.leaf_tables.specs.declared.kit.Kit.{Kit}
use Rattle.leaf_tables.specs.declared.kit.Leaf.{Leaf}
use Rattle.leaf_tables.specs.Alignment.{leaf_in, role_number}
use Rattle.leaf_tables.proofs.RoleLaws.{role_there, few_roles}
use Rattle.kit_rules.specs.Layout.{IsFlatLeaf}
use Rattle.kit_rules.specs.Reach.{IsGreatest, IsNearLength, IsOverhang, IsOverhangWith, PassesOutline, PassesBy, passed_by, minimum_of, greatest_minimum}

pub at_least_left : (a b c : ℤ) → c ≡ int_max a b → a ≤ℤ c
at_least_left a b c e = omega (arith, ints, clamps, e)

at_least_right : (a b c : ℤ) → c ≡ int_max a b → b ≤ℤ c
at_least_right a b c e = omega (arith, ints, clamps, e)

greater_below : (a b n : ℤ) → a ≤ℤ n → b ≤ℤ n → int_max a b ≤ℤ n
greater_below a b n p q = omega (arith, ints, clamps, p, q)

one_of_both : (a b c : ℤ) → c ≡ int_max a b → (c ≡ a) ⊎ (c ≡ b)
one_of_both a b c e = by_lt_z a b (λ lt. inr (omega (arith, ints, clamps, e, lt))) (λ ge. inl (omega (arith, ints, clamps, e, ge)))

pub at_most : (a b c : ℤ) → a ≤ℤ b → b ≤ℤ c → a ≤ℤ c
at_most a b c p q = omega (arith, ints, p, q)

pub max_as : (c a b p q : ℤ) → c ≡ int_max a b → a ≡ p → b ≡ q → c ≡ int_max p q
max_as c a b p q is x y = is ∙ (ap (λ (z : ℤ). int_max z b) x ∙ ap (int_max p) y)

pub most_of : (a b c n : ℤ) → c ≡ int_max a b → a ≤ℤ n → b ≤ℤ n → c ≤ℤ n
most_of a b c n is p q = subst (λ (z : ℤ). z ≤ℤ n) (sym is) (greater_below a b n p q)

pub near_more : (a b c : ℤ) → IsNearLength a → IsNearLength b → c ≡ int_max a b → IsNearLength c
near_more a b c p q is = record {
  above = at_most (pos 0) a c p.above (at_least_left a b c is);
  below = most_of a b c (pos (2 ^ 42)) is p.below q.below;
}

-- lengths that are not far are read as they are
pub read_back : (z : ℤ) → pos 0 ≤ℤ (z +ℤ pos (2 ^ 42)) → z ≤ℤ pos (2 ^ 42) → to_z w64 (of_z w64 z) ≡ z
read_back z p q = omega (arith, ints, p, q)

pub read_near : (z : ℤ) → IsNearLength z → to_z w64 (of_z w64 z) ≡ z
read_near z near = let a = near.above in let b = near.below in omega (arith, ints, a, b)

pub floor_of : (x z : ℤ) → (pos 0 -ℤ x) ≤ℤ z → x ≤ℤ pos (2 ^ 40) → pos 0 ≤ℤ (z +ℤ pos (2 ^ 42))
floor_of x z p q = omega (arith, ints, p, q)

-- the distance by which a rectangle passes an outline, step by step
pub passed_is : (width height : ℤ) (r : Rect) (low high inner result : ℤ) → low ≡ int_max (pos 0 -ℤ r.x1) (pos 0 -ℤ r.y1) → high ≡ int_max (r.x2 -ℤ width) (r.y2 -ℤ height) → inner ≡ int_max low high → result ≡ int_max (pos 0) inner
    → result ≡ passed_by width height r
passed_is width height r low high inner result is_low is_high is_inner is =
    is ∙ ap (int_max (pos 0)) (is_inner ∙ (ap (λ (a : ℤ). int_max a high) is_low ∙ ap (int_max (int_max (pos 0 -ℤ r.x1) (pos 0 -ℤ r.y1))) is_high))

-- it is small where the rectangle lies near the origin
pub passed_near : (width height : ℤ) (r : Rect) (result : ℤ) → IsLeafLength width → IsLeafLength height → IsReachable r → result ≡ passed_by width height r → IsNearLength result
passed_near width height r result w h near is =
    let xa = near.x1.above in
    let ya = near.y1.above in
    let xb = near.x2.below in
    let yb = near.y2.below in
    let a = w.above in
    let b = h.above in
    record {
      above = at_least_left (pos 0) (int_max (int_max (pos 0 -ℤ r.x1) (pos 0 -ℤ r.y1)) (int_max (r.x2 -ℤ width) (r.y2 -ℤ height))) result is;
      below = subst (λ (z : ℤ). z ≤ℤ pos (2 ^ 42)) (sym is) (greater_below (pos 0) _ (pos (2 ^ 42)) (omega (arith, ints))
          (greater_below _ _ (pos (2 ^ 42)) (greater_below (pos 0 -ℤ r.x1) (pos 0 -ℤ r.y1) (pos (2 ^ 42)) (omega (arith, ints, xa)) (omega (arith, ints, ya)))
          (greater_below (r.x2 -ℤ width) (r.y2 -ℤ height) (pos (2 ^ 42)) (omega (arith, ints, xb, a)) (omega (arith, ints, yb, b)))));
    }

-- so many of the shapes are looked at
pub record GreatestSoFar (width height : ℤ) (shapes : List Shape) (i : ℕ) (least greatest : ℤ) : Type 0 where
  pub near : IsNearLength greatest
  pub least_of : least ≤ℤ greatest
  pub most : EachBefore (λ (s : Shape). passed_by width height s.rect ≤ℤ greatest) shapes i
  pub reached : (greatest ≡ least) ⊎ ((shape : Shape) × Contains shapes shape × (passed_by width height shape.rect ≡ greatest))

pub greatest_as : (width width' height height' : ℤ) (shapes : List Shape) (i : ℕ) (least least' greatest greatest' : ℤ) → width ≡ width' → height ≡ height' → least ≡ least' → greatest ≡ greatest' → GreatestSoFar width height shapes i least greatest
    → GreatestSoFar width' height' shapes i least' greatest'
greatest_as width width' height height' shapes i least least' greatest greatest' w h l g far =
    subst (λ (x : ℤ). GreatestSoFar width' height' shapes i least' x) g (subst (λ (x : ℤ). GreatestSoFar width' height' shapes i x greatest) l (subst (λ (x : ℤ). GreatestSoFar width' x shapes i least greatest) h (subst (λ (x : ℤ). GreatestSoFar x height shapes i least greatest) w far)))

pub greatest_begins : (width height : ℤ) (shapes : List Shape) (least : ℤ) → IsNearLength least → GreatestSoFar width height shapes 0 least least
greatest_begins width height shapes least near = record { near = near; least_of = omega (arith, ints); most = λ k s lt there. absurd (omega (arith, lt)); reached = inl refl }

pub greatest_more : (width height : ℤ) (shapes : List Shape) (i : ℕ) (s : Shape) (least greatest next : ℤ) → slice_get shapes i ≡ Some s → IsNearLength next → next ≡ int_max greatest (passed_by width height s.rect)
    → GreatestSoFar width height shapes i least greatest → GreatestSoFar width height shapes (i + 1) least next
greatest_more width height shapes i s least greatest next here near is far = record {
  near = near;
  least_of = at_most least greatest next far.least_of (at_least_left greatest _ next is);
  most = each_more (λ (t : Shape). passed_by width height t.rect ≤ℤ next) shapes i s here (at_least_right greatest _ next is)
      (λ k t lt there. at_most _ greatest next (far.most k t lt there) (at_least_left greatest _ next is));
  reached = elim (one_of_both greatest _ next is) [
    | inl same ↦ elim far.reached [ inl first ↦ inl (same ∙ first) | inr some ↦ inr (some.0, some.1, some.2 ∙ sym same) ]
    | inr this ↦ inr (s, contained_at shapes i s here, sym this)
  ];
}

pub is_greatest_as : (width width' height height' : ℤ) (shapes : List Shape) (least least' greatest : ℤ) → width ≡ width' → height ≡ height' → least ≡ least' → IsGreatest width height shapes least greatest → IsGreatest width' height' shapes least' greatest
is_greatest_as width width' height height' shapes least least' greatest w h l is =
    subst (λ (x : ℤ). IsGreatest width' height' shapes x greatest) l (subst (λ (x : ℤ). IsGreatest width' x shapes least greatest) h (subst (λ (x : ℤ). IsGreatest x height shapes least greatest) w is))

pub greatest_ends : (width height : ℤ) (shapes : List Shape) (i : ℕ) (least greatest : ℤ) → length shapes ≤ i → GreatestSoFar width height shapes i least greatest → IsGreatest width height shapes least greatest
greatest_ends width height shapes i least greatest over far = record {
  least_of = far.least_of;
  most = each_contained (λ (s : Shape). passed_by width height s.rect ≤ℤ greatest) shapes i over far.most;
  reached = far.reached;
}

-- the role's leaf cell has these shapes and no others
pub overhang_with : (kit : Kit) (role : Role) (leaf : Leaf) (cell : List ℕ) (lists : FlatLists) (least greatest : ℤ) → leaf_in kit.leaves role ≡ Some leaf → IsFlatLeaf kit role cell lists → IsGreatest leaf.width leaf.height lists.shapes least greatest
    → IsOverhangWith kit role least greatest
overhang_with kit role leaf cell lists least greatest there flat is = record {
  least_of = is.least_of;
  most = λ distance p.
      let same_leaf = same_Some p.leaf leaf (sym p.there ∙ there) in
      let same_cell = same_Some p.cell cell (sym p.flat.plays ∙ flat.plays) in
      let same_lists = one_pair kit.tech.layers kit.lib.structs cell p.lists lists (subst (λ (n : List ℕ). AreFlatLists kit.tech.layers kit.lib.structs n p.lists) same_cell p.flat.flat) flat.flat in
      let listed : Contains lists.shapes p.shape = subst (λ (l : FlatLists). Contains l.shapes p.shape) same_lists p.listed in
      subst (λ (d : ℤ). d ≤ℤ greatest) (subst (λ (l : Leaf). passed_by l.width l.height p.shape.rect ≡ distance) same_leaf p.by) (is.most p.shape listed);
  reached = elim is.reached [
    | inl first ↦ inl first
    | inr some ↦ inr (record { leaf = leaf; there = there; cell = cell; lists = lists; flat = flat; shape = some.0; listed = some.1; by = some.2 })
  ];
}

-- so many of the roles are looked at
pub record OverhangSoFar (kit : Kit) (i : ℕ) (greatest : ℤ) : Type 0 where
  pub near : IsNearLength greatest
  pub most : (place : ℕ) (role : Role) (distance : ℤ) → place < i → slice_get all_roles place ≡ Some role → PassesBy kit role distance → distance ≤ℤ greatest
  pub reached : (greatest ≡ pos 0) ⊎ PassesOutline kit greatest

pub overhang_begins : (kit : Kit) → OverhangSoFar kit 0 (pos 0)
overhang_begins kit = record { near = record { above = omega (arith, ints); below = omega (arith, ints) }; most = λ place role distance lt there p. absurd (omega (arith, lt)); reached = inl refl }

pub overhang_more : (kit : Kit) (i : ℕ) (role : Role) (greatest next : ℤ) → slice_get all_roles i ≡ Some role → IsNearLength next → IsOverhangWith kit role greatest next → OverhangSoFar kit i greatest → OverhangSoFar kit (i + 1) next
overhang_more kit i role greatest next here near is far = record {
  near = near;
  most = λ place other distance lt there p. elim (cases_lt place i) [
    | inl less ↦ at_most distance greatest next (far.most place other distance less there p) is.least_of
    | inr ge ↦
        let e : place ≡ i = omega (arith, lt, ge) in
        let same : other ≡ role = one_at all_roles i other role (subst (λ (k : ℕ). slice_get all_roles k ≡ Some other) e there) here in
        is.most distance (subst (λ (r : Role). PassesBy kit r distance) same p)
  ];
  reached = elim is.reached [
    | inl same ↦ elim far.reached [ inl none ↦ inl (same ∙ none) | inr some ↦ inr (subst (PassesOutline kit) (sym same) some) ]
    | inr some ↦ inr (record { role = role; by = some })
  ];
}

pub overhang_ends : (kit : Kit) (i : ℕ) (greatest : ℤ) → 14 ≤ i → OverhangSoFar kit i greatest → IsOverhang kit greatest
overhang_ends kit i greatest over far = record {
  most = λ distance p. let few = few_roles p.role in far.most (role_number p.role) p.role distance (omega (arith, few, over)) (role_there p.role) p.by;
  reached = far.reached;
}

-- Minima of rules are small.
pub record IsSmallMinimum (z : ℤ) : Type 0 where
  pub above : pos 1 ≤ℤ z
  pub below : z ≤ℤ pos 1048576

minimum_small : (layers : List Layer) (rule : Rule) → IsRule layers rule → IsSmallMinimum (minimum_of rule)
minimum_small layers (Width layer min) is = record { above = let m = is.min.from in omega (arith, ints, m); below = let m = is.min.to in omega (arith, ints, m) }
minimum_small layers (Space layer other min) is = record { above = let m = is.min.from in omega (arith, ints, m); below = let m = is.min.to in omega (arith, ints, m) }
minimum_small layers (Enclose layer by min) is = record { above = let m = is.min.from in omega (arith, ints, m); below = let m = is.min.to in omega (arith, ints, m) }

greater_small : (a b : ℤ) → IsSmallMinimum a → IsSmallMinimum b → IsSmallMinimum (int_max a b)
greater_small a b p q =
    let x = p.above in
    let y = p.below in
    let v = q.above in
    let w = q.below in
    record { above = omega (arith, ints, clamps, x, y, v, w); below = omega (arith, ints, clamps, x, y, v, w) }

pub greatest_small : (layers : List Layer) (rules : List Rule) → All (IsRule layers) rules → IsSmallMinimum (greatest_minimum rules)
greatest_small layers [] all = record { above = omega (arith, ints); below = omega (arith, ints) }
greatest_small layers (rule ∷ rules) all = greater_small (minimum_of rule) (greatest_minimum rules) (minimum_small layers rule (all 0 rule (omega arith))) (greatest_small layers rules (λ k d lt. all (suc k) d (omega (arith, lt))))
