-- Files are a kit, or have a fault.
use Rattle.std.specs.Prelude.{◌≢◌, ◌⊎◌, ℕ, List}
use Rattle.gds_records.specs.Bytes.{AreBytes}
use Rattle.tech_rules.specs.declared.tech.Tech.{Tech}
use Rattle.tech_rules.specs.Facts.{IsTech}
use Rattle.leaf_tables.specs.declared.fault.KitFault.{KitFault}
use Rattle.leaf_tables.specs.declared.fault.KitFault.TheVariants as kit_fault
use Rattle.leaf_tables.specs.declared.kit.Kit.{Kit}
use Rattle.leaf_tables.specs.Faults.{IsKitFault, IsSpelled}
use Rattle.leaf_tables.specs.Kits.{IsKitOf}

-- they are a kit, or this is wrong with them, and it is no want of memory
abbrev pub KitOrFault : Tech → List ℕ → List ℕ → Type 0
KitOrFault tech gds sp = ((kit : Kit) × IsKitOf tech gds sp kit) ⊎ ((fault : KitFault) × (fault ≢ kit_fault.Memory) × IsKitFault tech gds sp fault)

-- a technology, the bytes of a library and a text are so, whatever the text
abbrev pub KitsAnswer : Type 0
KitsAnswer = (tech : Tech) (gds sp : List ℕ) → IsTech tech → AreBytes gds → IsSpelled gds → KitOrFault tech gds sp
