-- A kit, a plan and what is held have one macro under a name, or one fault of a part.
use Rattle.std.specs.Prelude.{◌≡◌, ◌≢◌, ℕ, List}
use Rattle.leaf_tables.specs.declared.kit.Kit.{Kit}
use Rattle.leaf_tables.specs.declared.part.PartFault.{PartFault}
use Rattle.leaf_tables.specs.declared.part.PartFault.TheVariants as part_fault
use Rattle.leaf_tables.specs.Kits.{IsKit}
use Rattle.sram_plan.specs.declared.numbers.Plan.{Plan}
use Rattle.port_lists.specs.Held.{Held}
use Rattle.sram_macro.specs.declared.assembly.Macro.{Macro}
use Rattle.sram_macro.specs.Macro.{IsMacro, IsMacroFault}

-- two macros of them, of one name, are one
abbrev pub MacrosAreUnique : Type 0
MacrosAreUnique = (kit : Kit) (plan : Plan) (held : Held) (name : List ℕ) (a b : Macro) → IsKit kit → IsMacro kit plan held name a → IsMacro kit plan held name b → a ≡ b

-- two faults are one, out of memory aside
abbrev pub MacroFaultsAreUnique : Type 0
MacroFaultsAreUnique = (kit : Kit) (plan : Plan) (held : Held) (name : List ℕ) (f g : PartFault) → IsKit kit → f ≢ part_fault.Memory → g ≢ part_fault.Memory
    → IsMacroFault kit plan held name f → IsMacroFault kit plan held name g → f ≡ g

-- and there is none where there is a macro
abbrev pub MacroFaultsExcludeMacros : Type 0
MacroFaultsExcludeMacros = (kit : Kit) (plan : Plan) (held : Held) (name : List ℕ) (f : PartFault) (m : Macro) → IsKit kit → f ≢ part_fault.Memory
    → IsMacroFault kit plan held name f → IsMacro kit plan held name m → ⊥
