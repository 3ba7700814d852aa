-- What a kit with the leaf cells of a read-only memory gives of each.
use Rattle.std.specs.Prelude.{◌≡◌, Some, Bool}
use Rattle.cell_roles.specs.declared.leaf_role.LeafRole.TheVariants.{Fixed}
use Rattle.tech_rules.specs.declared.tech.Wire.{Wire}
use Rattle.leaf_tables.specs.declared.kit.Kit.{Kit}
use Rattle.leaf_tables.specs.Kits.{source_of}
use Rattle.leaf_tables.specs.Leaves.{IsLeaf}
use Rattle.rom_leaves.specs.declared.side.SharedSide.{SharedSide}
use Rattle.rom_leaves.specs.RomLeaves.{HasRomLeaves}
use Rattle.rom_leaves.specs.Shared.{measure_of}

-- Its cell is named by the technology, drawn by the library and wired by the deck, with the bitcell's ports and shapes of pins.
abbrev pub RomLeavesAreLeaves : Type 0
RomLeavesAreLeaves = (kit : Kit) (has : HasRomLeaves kit) (wire : Wire) → kit.tech.wire ≡ Some wire → (bit : Bool) → IsLeaf (source_of kit wire) (Fixed bit) (has.leaf bit)

-- It is as high and as wide as the bitcell, and its pins begin where the bitcell's do.
abbrev pub RomLeavesStandAsBitcells : Type 0
RomLeavesStandAsBitcells = (kit : Kit) (has : HasRomLeaves kit) (bit : Bool) (side : SharedSide) → measure_of side (has.leaf bit) ≡ measure_of side has.bitcell
