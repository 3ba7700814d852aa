-- What assembling a macro answers where its view and its tracks are given up.
use Rattle.std.specs.Prelude.{◌≡◌, ◌≢◌, ℕ, List, Result, Ok, Err}
use Rattle.gds_library.specs.declared.library.Library.{Library}
use Rattle.netlist.specs.declared.deck.Deck.{Deck}
use Rattle.leaf_tables.specs.declared.kit.Kit.{Kit}
use Rattle.leaf_tables.specs.declared.part.PartFault.{PartFault}
use Rattle.leaf_tables.specs.declared.part.PartFault.TheVariants as part_fault
use Rattle.port_lists.specs.Held.Held.{Stored}
use Rattle.sram_plan.specs.declared.numbers.Plan.{Plan}
use Rattle.sram_macro.specs.declared.assembly.Macro.{Macro}
use Rattle.sram_macro.specs.Macro.{IsMacro, IsMacroFault}

-- the library and the subcircuits of a macro of the kit and the plan under this name, whose bits are stored, or why there is none; want of memory aside
abbrev pub IsAssembled : Kit → Plan → List ℕ → Result (Library × Deck) PartFault → Type 0
IsAssembled kit plan name (Ok made) = (m : Macro) × IsMacro kit plan Stored name m × (made ≡ (m.lib, m.deck))
IsAssembled kit plan name (Err fault) = (fault ≢ part_fault.Memory) × IsMacroFault kit plan Stored name fault
