-- Files are one kit, or have one fault.
use Rattle.std.specs.Prelude.{◌≡◌, ◌≢◌, ℕ, ◌≤◌, ◌^◌, List, length}
use Rattle.gds_records.specs.Bytes.{AreBytes}
use Rattle.tech_rules.specs.declared.tech.Tech.{Tech}
use Rattle.leaf_tables.specs.declared.kit.Kit.{Kit}
use Rattle.leaf_tables.specs.declared.fault.KitFault.{KitFault}
use Rattle.leaf_tables.specs.declared.fault.KitFault.TheVariants as kit_fault
use Rattle.leaf_tables.specs.Faults.{IsKitFault}
use Rattle.leaf_tables.specs.Kits.{IsKitOf}

-- two kits of a technology and of the same files are one
abbrev pub KitsAreUnique : Type 0
KitsAreUnique = (tech : Tech) (gds sp : List ℕ) (a b : Kit) → length gds ≤ 2 ^ 64 → IsKitOf tech gds sp a → IsKitOf tech gds sp b → a ≡ b

-- two faults of these are one, out of memory aside
abbrev pub KitFaultsAreUnique : Type 0
KitFaultsAreUnique = (tech : Tech) (gds sp : List ℕ) (f g : KitFault) → AreBytes gds → length gds ≤ 2 ^ 64 → f ≢ kit_fault.Memory → g ≢ kit_fault.Memory
    → IsKitFault tech gds sp f → IsKitFault tech gds sp g → f ≡ g

-- and there is none where they are a kit
abbrev pub KitFaultsExcludeKits : Type 0
KitFaultsExcludeKits = (tech : Tech) (gds sp : List ℕ) (kit : Kit) (f : KitFault) → AreBytes gds → length gds ≤ 2 ^ 64 → f ≢ kit_fault.Memory
    → IsKitFault tech gds sp f → IsKitOf tech gds sp kit → ⊥
