-- A kit has the leaf cells of a read-only memory, or one fault of them.
use Rattle.std.specs.Prelude.{◌≡◌, ◌≢◌}
use Rattle.leaf_tables.specs.declared.kit.Kit.{Kit}
use Rattle.leaf_tables.specs.declared.fault.KitFault.{KitFault}
use Rattle.leaf_tables.specs.declared.fault.KitFault.TheVariants as kit_fault
use Rattle.leaf_tables.specs.Kits.{IsKit}
use Rattle.rom_leaves.specs.RomLeaves.{HasRomLeaves, IsRomLeafFault}

-- two faults of these cells are one, out of memory aside
abbrev pub RomLeafFaultsAreUnique : Type 0
RomLeafFaultsAreUnique = (kit : Kit) (f g : KitFault) → IsKit kit → f ≢ kit_fault.Memory → g ≢ kit_fault.Memory → IsRomLeafFault kit f → IsRomLeafFault kit g → f ≡ g

-- and there is none where the kit has them
abbrev pub RomLeafFaultsExcludeRomLeaves : Type 0
RomLeafFaultsExcludeRomLeaves = (kit : Kit) (f : KitFault) → IsKit kit → f ≢ kit_fault.Memory → IsRomLeafFault kit f → HasRomLeaves kit → ⊥
