-- What a macro's library and its subcircuits never lack.
use Rattle.std.specs.Prelude.{◌≢◌, ℕ, List, ◌++◌}
use Rattle.spice_netlist.specs.declared.fault.FlatFault.{FlatFault}
use Rattle.spice_netlist.specs.declared.fault.FlatFault.TheVariants as flat_fault
use Rattle.spice_netlist.specs.Faults.{IsFlatFault}
use Rattle.port_lists.specs.Held.{Held}
use Rattle.sram_netlist.specs.Numbers.{ArePlanNumbers}
use Rattle.sram_plan.specs.declared.numbers.Plan.{Plan}
use Rattle.sram_plan.specs.PlanNumbers.{numbers_of}
use Rattle.leaf_tables.specs.declared.kit.Kit.{Kit}
use Rattle.leaf_tables.specs.Kits.{IsKit}
use Rattle.macro_layout.specs.Sound.{IsSoundWithin}
use Rattle.sram_macro.specs.declared.assembly.Macro.{Macro}
use Rattle.sram_macro.specs.Leaves.{IsHeld, leaf_names}
use Rattle.sram_macro.specs.Macro.{IsMacro}

-- All that a macro reaches is in its library, nothing that it reaches reaches itself, and its chains have at most four references
-- more than the 32 that a leaf cell may have.
abbrev pub MacrosAreWhole : Type 0
MacrosAreWhole = (kit : Kit) (plan : Plan) (held : Held) (name : List ℕ) (m : Macro) → IsKit kit → ArePlanNumbers (numbers_of plan) → IsHeld kit plan held → IsMacro kit plan held name m → IsSoundWithin 36 m.lib.structs name

-- The kit's subcircuits and behind them the macro's, with the cells of the roles and of the bits as leaves, have flat rows under the macro's name.
abbrev pub MacrosHaveRows : Type 0
MacrosHaveRows = (kit : Kit) (plan : Plan) (held : Held) (name : List ℕ) (m : Macro) → ArePlanNumbers (numbers_of plan) → IsMacro kit plan held name m
    → (fault : FlatFault) → fault ≢ flat_fault.Memory → IsFlatFault (kit.deck.subckts ++ m.deck.subckts) name (leaf_names kit held) fault → ⊥
