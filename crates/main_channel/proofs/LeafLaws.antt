-- The leaf cells of a kit, and where their pins begin.
use Rattle.std.proofs.Common.{◌≡◌, ℕ, ◌<◌, ℤ, to_z, of_z, w64, List, length, get_or, Some, Option, refl, ap, sym, subst, ◌∙◌, arith}
use Rattle.std.specs.Prelude.{slice_get, option_and_then}
use Rattle.std.proofs.lemmas.Int.{ints}
use Rattle.std.proofs.lemmas.Option.{slice_get_read, slice_get_within}
use Rattle.or_geom.specs.declared.shape.Rect.{Rect}
use Rattle.cell_roles.specs.declared.role.Role.{Role}
use Rattle.cell_roles.specs.Roles.{all_roles}
use Rattle.leaf_shapes.specs.declared.pins.LeafPin.{LeafPin}
use Rattle.leaf_shapes.specs.Demands.{role_demands}
use Rattle.leaf_tables.specs.declared.kit.Kit.{Kit}
use Rattle.leaf_tables.specs.declared.kit.Leaf.{Leaf}
use Rattle.leaf_tables.specs.Alignment.{role_number, leaf_in}
use Rattle.leaf_tables.specs.Kits.{IsKit}
use Rattle.floorplan.specs.LayoutOfKit.{layout_kit}
use Rattle.leaf_tables.proofs.RoleLaws.{role_there, pins_in_kit}
use Rattle.floorplan.specs.Demanded.{IsDemandOf}
use Rattle.floorplan.proofs.DemandLaws.{left_in_kit, pin_is, seven_in_kit}
use Rattle.leaf_tables.specs.NearLeaf.{IsLeafLength}
use Rattle.main_channel.specs.Leaves.{begin_of, pin_begin}
use Rattle.main_channel.proofs.ListLaws.{exists_in}

begin_in : (kit : Kit) (role : Role) (leaf : Leaf) (k : ℕ) (pin : LeafPin) → leaf_in kit.leaves role ≡ Some leaf → slice_get leaf.pins k ≡ Some pin → pin_begin kit role k ≡ pin.rect.x1
begin_in kit role leaf k pin there at = ap (λ (o : Option Leaf). begin_of (option_and_then (λ (l : Leaf). slice_get l.pins k) o)) there ∙ ap begin_of at

kept : (z : ℤ) → IsLeafLength z → to_z w64 (of_z w64 z) ≡ z
kept z near = let above = near.above in let below = near.below in omega (arith, ints, above, below)

-- where a pin begins, as it is read
pub record IsBeginRead (kit : Kit) (role : Role) (k : ℕ) (z : ℤ) : Type 0 where
  pub is : z ≡ pin_begin kit role k
  pub near : IsLeafLength z

pub begin_read : (kit : Kit) (role : Role) (leaf : Leaf) (k : ℕ) (pins : List LeafPin) (pin : LeafPin) → IsKit kit → leaf_in kit.leaves role ≡ Some leaf → pins ≡ leaf.pins → k < length (role_demands role) → pin ≡ get_or pins k pin
    → IsBeginRead kit role k (to_z w64 (of_z w64 (get_or pins k pin).rect.x1))
begin_read kit role leaf k pins pin is there same below read =
    let sized = pins_in_kit kit role leaf is there in
    let long = ap length same in
    let at = subst (λ (l : List LeafPin). slice_get l k ≡ Some pin) same (slice_get_read pins (length pins) k pin refl (omega (arith, sized, long, below)) read) in
    let near = left_in_kit kit role leaf is there k pin at in
    let z = subst (λ (q : LeafPin). to_z w64 (of_z w64 q.rect.x1) ≡ pin.rect.x1) read (kept pin.rect.x1 near) in
    record { is = z ∙ sym (begin_in kit role leaf k pin there at); near = subst IsLeafLength (sym z) near }

-- A port's shape begins where the pin of its demand does.
pub begins_as_stated : (kit : Kit) → IsKit kit → (role : Role) (port metal k : ℕ) → IsDemandOf role port metal k → pin_begin kit role k ≡ ((layout_kit kit).pin role port metal).x1
begins_as_stated kit is role port metal k d =
    let below = slice_get_within all_roles (role_number role) role (role_there role) in
    let sized = is.leaves.sized in
    let leaf = exists_in kit.leaves (role_number role) (omega (arith, below, sized)) in
    let count = pins_in_kit kit role leaf.0 is leaf.1 in
    let there = d.there in
    let pin = exists_in leaf.0.pins k (omega (arith, count, there)) in
    begin_in kit role leaf.0 k pin.0 leaf.1 pin.1 ∙ ap (λ (r : Rect). r.x1) (pin_is kit is (seven_in_kit kit is) role leaf.0 leaf.1 k pin.0 pin.1 port metal d)
