-- The bitcell of a kit, and its cells that hold fixed bits, draw within the bitcell's sides.
use Rattle.std.proofs.Common.{◌≡◌, ℕ, List, Bool, Some, subst, ◌∙◌, sym}
use Rattle.std.proofs.lemmas.Option.{same_Some}
use Rattle.cell_roles.specs.declared.role.Role.TheVariants.{Bitcell}
use Rattle.cell_roles.specs.declared.leaf_role.LeafRole.TheVariants as leaf_role
use Rattle.tech_rules.specs.declared.tech.Wire.{Wire}
use Rattle.sram_netlist.specs.Organization.{Organization}
use Rattle.sram_netlist.specs.BitCells.{fixed_bit}
use Rattle.port_lists.specs.Held.Held.{Stored, Fixed}
use Rattle.port_lists.specs.Contents.{held_cells}
use Rattle.leaf_tables.specs.declared.kit.Kit.{Kit}
use Rattle.leaf_tables.specs.Kits.{IsKit, source_of}
use Rattle.floorplan.specs.LeafSides.{leaf_width, leaf_height}
use Rattle.rom_leaves.specs.declared.side.SharedSide.TheVariants.{Width, Height}
use Rattle.rom_leaves.specs.RomLeaves.{HasRomLeaves}
use Rattle.rom_leaves.proofs.RomLeafLaws.{leaves_are_leaves, stand_as_bitcells}
use Rattle.view_cover.specs.Bits.{AreBitsInside}
use Rattle.view_cover.proofs.RoleLaws.{HasSides, role_leaf, kit_sides, width_is, height_is, drawn_inside}
use Rattle.view_cover.proofs.KitLaws.{same_wire}

-- where bits are stored
pub stored_inside : (kit : Kit) (wire : Wire) (plan : Organization) → IsKit kit → kit.tech.wire ≡ Some wire → AreBitsInside kit wire plan (held_cells kit.tech.roles plan Stored)
stored_inside kit wire plan is wired =
    let l = role_leaf kit is Bitcell in
    subst (λ (w : Wire). AreBitsInside kit w plan (held_cells kit.tech.roles plan Stored)) (same_wire kit wire is wired)
    (λ r c row column. drawn_inside kit is.wire (leaf_role.Common Bitcell) (leaf_width kit Bitcell) (leaf_height kit Bitcell) (kit_sides kit is Bitcell l.leaf l.there))

fixed_sides : (kit : Kit) (wire : Wire) (bit : Bool) → IsKit kit → kit.tech.wire ≡ Some wire → HasRomLeaves kit → HasSides (source_of kit wire) (leaf_role.Fixed bit) (leaf_width kit Bitcell) (leaf_height kit Bitcell)
fixed_sides kit wire bit is wired has = record {
  leaf = has.leaf bit;
  is = leaves_are_leaves kit has wire wired bit;
  width = width_is kit is Bitcell has.bitcell has.there ∙ sym (same_Some (has.leaf bit).width has.bitcell.width (stand_as_bitcells kit has bit Width));
  height = height_is kit is Bitcell has.bitcell has.there ∙ sym (same_Some (has.leaf bit).height has.bitcell.height (stand_as_bitcells kit has bit Height));
}

-- where they are fixed
pub fixed_inside : (kit : Kit) (wire : Wire) (plan : Organization) (words : List ℕ) → IsKit kit → kit.tech.wire ≡ Some wire → HasRomLeaves kit → AreBitsInside kit wire plan (held_cells kit.tech.roles plan (Fixed words))
fixed_inside kit wire plan words is wired has r c row column =
    let bit = fixed_bit plan words r c in
    drawn_inside kit wire (leaf_role.Fixed bit) (leaf_width kit Bitcell) (leaf_height kit Bitcell) (fixed_sides kit wire bit is wired has)
