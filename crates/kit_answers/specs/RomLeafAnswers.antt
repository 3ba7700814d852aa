-- A kit has the leaf cells of a read-only memory, or a fault of them.
use Rattle.std.specs.Prelude.{◌≢◌, ◌⊎◌}
use Rattle.leaf_tables.specs.declared.fault.KitFault.{KitFault}
use Rattle.leaf_tables.specs.declared.fault.KitFault.TheVariants as kit_fault
use Rattle.leaf_tables.specs.declared.kit.Kit.{Kit}
use Rattle.leaf_tables.specs.Kits.{IsKit}
use Rattle.rom_leaves.specs.RomLeaves.{HasRomLeaves, IsRomLeafFault}

-- it has them, or this is wrong with them, and it is no want of memory
abbrev pub RomLeavesOrFault : Kit → Type 0
RomLeavesOrFault kit = HasRomLeaves kit ⊎ ((fault : KitFault) × (fault ≢ kit_fault.Memory) × IsRomLeafFault kit fault)

abbrev pub RomLeavesAnswer : Type 0
RomLeavesAnswer = (kit : Kit) → IsKit kit → RomLeavesOrFault kit
