-- The pins of a leaf cell, as they are read.
use Rattle.std.proofs.Common.{◌≡◌, ℕ, ◌<◌, List, length, get_or, Some, refl, ap, subst, arith, to_z, of_z, w64}
use Rattle.std.specs.Prelude.{slice_get}
use Rattle.std.proofs.lemmas.Option.{slice_get_read}
use Rattle.cell_roles.specs.declared.role.Role.{Role}
use Rattle.leaf_shapes.specs.declared.pins.LeafPin.{LeafPin}
use Rattle.leaf_shapes.specs.Demands.{role_demands}
use Rattle.leaf_tables.specs.declared.kit.Kit.{Kit}
use Rattle.leaf_tables.specs.declared.kit.Leaf.{Leaf}
use Rattle.leaf_tables.specs.Alignment.{leaf_in}
use Rattle.leaf_tables.specs.Kits.{IsKit}
use Rattle.leaf_tables.specs.NearLeaf.{IsLeafLength}
use Rattle.leaf_tables.proofs.RoleLaws.{pins_in_kit}
use Rattle.port_data.proofs.FormulaLaws.{kept}

-- what is read at a demand's index
pub pin_there : (kit : Kit) (role : Role) (leaf : Leaf) (k : ℕ) (pins : List LeafPin) (pin : LeafPin) → IsKit kit → leaf_in kit.leaves role ≡ Some leaf → pins ≡ leaf.pins → k < length (role_demands role) → pin ≡ get_or pins k pin → slice_get leaf.pins k ≡ Some pin
pin_there kit role leaf k pins pin is there same below read =
    let sized = pins_in_kit kit role leaf is there in
    let long = ap length same in
    subst (λ (l : List LeafPin). slice_get l k ≡ Some pin) same (slice_get_read pins (length pins) k pin refl (omega (arith, sized, long, below)) read)

-- its left end, as it is read
pub left_read : (pins : List LeafPin) (k : ℕ) (pin : LeafPin) → pin ≡ get_or pins k pin → IsLeafLength pin.rect.x1 → to_z w64 (of_z w64 (get_or pins k pin).rect.x1) ≡ pin.rect.x1
left_read pins k pin read near = subst (λ (q : LeafPin). to_z w64 (of_z w64 q.rect.x1) ≡ pin.rect.x1) read (kept pin.rect.x1 near)
