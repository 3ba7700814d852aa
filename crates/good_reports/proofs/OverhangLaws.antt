-- A kit has an overhang: the greatest distance by which a shape of a leaf cell passes its outline.
use Rattle.std.proofs.Common.{◌≡◌, ◌⊎◌, inl, inr, ℤ, pos, ◌≤ℤ◌, ◌<ℤ◌, List, [], ◌∷◌, refl, sym, subst, arith}
use Rattle.std.specs.Prelude.{Contains}
use Rattle.std.proofs.lemmas.Int.{ints}
use Rattle.or_geom.specs.declared.shape.Shape.{Shape}
use Rattle.or_geom.proofs.ListLaws.{contains_none, contains_cases, contains_first, contains_later, contained_at}
use Rattle.cell_roles.specs.declared.role.Role.{Role}
use Rattle.cell_roles.specs.Roles.{all_roles}
use Rattle.channel_router.proofs.TrackLaws.{cases_int}
use Rattle.leaf_tables.specs.declared.kit.Kit.{Kit}
use Rattle.leaf_tables.specs.Alignment.{role_number}
use Rattle.leaf_tables.specs.Kits.{IsKit}
use Rattle.leaf_tables.proofs.RoleLaws.{role_there}
use Rattle.kit_rules.specs.Reach.{passed_by, PassesBy, PassesOutline, IsOverhang, IsGreatest, IsOverhangWith}
use Rattle.kit_rules.proofs.ReachLaws.{overhang_with}
use Rattle.view_cover.proofs.RoleLaws.{role_leaf}

-- of shapes

greatest_there : (width height : ℤ) (shapes : List Shape) (least : ℤ) → (g : ℤ) × IsGreatest width height shapes least g
greatest_there width height [] least = (least, record { least_of = omega (arith, ints); most = λ shape has. absurd (contains_none shape has); reached = inl refl })
greatest_there width height (s ∷ ss) least = elim (cases_int (passed_by width height s.rect) (greatest_there width height ss least).0) [
  | inl e ↦ kept (greatest_there width height ss least) (omega (arith, ints, e))
  | inr (inl less) ↦ kept (greatest_there width height ss least) (omega (arith, ints, less))
  | inr (inr more) ↦ raised (greatest_there width height ss least) more
] where
  kept : (r : (g : ℤ) × IsGreatest width height ss least g) → passed_by width height s.rect ≤ℤ r.0 → (g : ℤ) × IsGreatest width height (s ∷ ss) least g
  kept r le = (
    r.0,
    record {
      least_of = r.1.least_of;
      most = λ shape has. elim (contains_cases s ss shape has) [ inl e ↦ subst (λ (t : Shape). passed_by width height t.rect ≤ℤ r.0) (sym e) le | inr later ↦ r.1.most shape later ];
      reached = elim r.1.reached [ inl e ↦ inl e | inr some ↦ inr (some.0, contains_later s ss some.0 some.1, some.2) ];
    },
  )

  raised : (r : (g : ℤ) × IsGreatest width height ss least g) → r.0 <ℤ passed_by width height s.rect → (g : ℤ) × IsGreatest width height (s ∷ ss) least g
  raised r lt = (
    passed_by width height s.rect,
    record {
      least_of = up_to r.1.least_of lt;
      most = λ shape has. elim (contains_cases s ss shape has) [
        | inl e ↦ subst (λ (t : Shape). passed_by width height t.rect ≤ℤ passed_by width height s.rect) (sym e) (same (passed_by width height s.rect))
        | inr later ↦ up_to (r.1.most shape later) lt
      ];
      reached = inr (s, contains_first s ss, refl);
    },
  ) where
    up_to : {a b c : ℤ} → a ≤ℤ b → b <ℤ c → a ≤ℤ c
    up_to {a} {b} {c} le lt = omega (arith, ints, le, lt)

    same : (a : ℤ) → a ≤ℤ a
    same a = omega (arith, ints)

-- of roles

record IsMostOf (kit : Kit) (roles : List Role) (greatest : ℤ) : Type 0 where
  most : (role : Role) → Contains roles role → (distance : ℤ) → PassesBy kit role distance → distance ≤ℤ greatest
  reached : (greatest ≡ pos 0) ⊎ PassesOutline kit greatest

most_there : (kit : Kit) → IsKit kit → (roles : List Role) → (greatest : ℤ) × IsMostOf kit roles greatest
most_there kit is [] = (pos 0, record { most = λ role has. absurd (contains_none role has); reached = inl refl })
most_there kit is (r ∷ rs) =
    let before = most_there kit is rs in
    let l = role_leaf kit is r in
    let g = greatest_there l.leaf.width l.leaf.height l.has.lists.shapes before.0 in
    with_role before g.0 (overhang_with kit r l.leaf l.has.cell l.has.lists before.0 g.0 l.there (record { plays = l.has.sized.flat.plays; flat = l.has.sized.flat.flat }) g.1)
  where
    up_to : {a b c : ℤ} → a ≤ℤ b → b ≤ℤ c → a ≤ℤ c
    up_to {a} {b} {c} le more = omega (arith, ints, le, more)

    with_role : (before : (greatest : ℤ) × IsMostOf kit rs greatest) (g : ℤ) → IsOverhangWith kit r before.0 g → (greatest : ℤ) × IsMostOf kit (r ∷ rs) greatest
    with_role before g over = (
      g,
      record {
        most = λ role has distance passes. elim (contains_cases r rs role has) [
          | inl e ↦ over.most distance (subst (λ (q : Role). PassesBy kit q distance) e passes)
          | inr later ↦ up_to (before.1.most role later distance passes) over.least_of
        ];
        reached = elim over.reached [
          | inl e ↦ elim before.1.reached [ inl none ↦ inl (let n = none in omega (arith, ints, e, n)) | inr some ↦ inr (subst (PassesOutline kit) (sym e) some) ]
          | inr passes ↦ inr (record { role = r; by = passes })
        ];
      },
    )

pub overhang_there : (kit : Kit) → IsKit kit → (overhang : ℤ) × IsOverhang kit overhang
overhang_there kit is = by (most_there kit is all_roles) where
  by : (m : (greatest : ℤ) × IsMostOf kit all_roles greatest) → (overhang : ℤ) × IsOverhang kit overhang
  by m = (m.0, record { most = λ distance passes. m.1.most passes.role (contained_at all_roles (role_number passes.role) passes.role (role_there passes.role)) distance passes.by; reached = m.1.reached })
