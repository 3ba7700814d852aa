-- That a macro's netlist is a memory.
use Rattle.std.specs.Prelude.{◌≡◌, ℕ, ◌<◌, List, ◌++◌, map, Bool}
use Rattle.sram_netlist.specs.Nets.{Net}
use Rattle.sram_netlist.specs.Organization.{Organization, IsWritten}
use Rattle.memory_laws.specs.NetlistCircuit.{circuit}
use Rattle.memory_laws.specs.Phase.{State}
use Rattle.memory_laws.specs.Laws.{EachObeys}
use Rattle.memory_laws.specs.Run.{MemoryCommand, num_words, IsStartState, IsCommandRun, AreInRange}
use Rattle.memory_laws.specs.NumberArray.{NumberCommand, command_bits, HaveAddresses, run_answers, array_answers, numbers_after_all, word_at}
use Rattle.sram_plan.specs.declared.numbers.Plan.{Plan}
use Rattle.sram_plan.specs.PlanNumbers.{organization}
use Rattle.sram_rows.specs.Rows.{DeckIsNetlist}
use Rattle.port_lists.specs.Cells.{cell_in}
use Rattle.port_lists.specs.Held.Held.{Stored}
use Rattle.leaf_tables.specs.declared.kit.Kit.{Kit}
use Rattle.sram_macro.specs.declared.assembly.Macro.{Macro}
use Rattle.sram_macro.specs.Leaves.{leaf_names}
use Rattle.sram_macro.specs.Macro.{macro_bits}

-- from each state each list of commands has a run
abbrev pub HasRuns : Organization → Type 0
HasRuns plan = (s : State) (cs : List MemoryCommand) → (vs : List (Net → Bool)) × (end : State) × IsCommandRun (circuit plan) s cs vs end

-- each run from a start gives the answers of an array that begins with the start's words, and ends with the array's words
abbrev pub AnswersAsArray : Organization → Type 0
AnswersAsArray plan = (s : State) (cs : List NumberCommand) (vs : List (Net → Bool)) (end : State)
    → IsStartState (circuit plan) s → HaveAddresses plan cs → IsCommandRun (circuit plan) s (map command_bits cs) vs end
    → (run_answers plan cs vs ≡ array_answers plan cs (word_at plan s))
    × ((a : ℕ) → a < num_words plan → word_at plan end a ≡ numbers_after_all plan cs (word_at plan s) a)

-- in each run from a start the nets say at each command, phase by phase, which column choice, word line and enable is on
abbrev pub ObeysCommands : Organization → Type 0
ObeysCommands plan = (s : State) (cs : List MemoryCommand) (vs : List (Net → Bool)) (end : State)
    → IsStartState (circuit plan) s → AreInRange plan cs → (run : IsCommandRun (circuit plan) s cs vs end) → EachObeys plan s cs vs end run

-- the reference netlist of the organisation is a memory
pub record IsMemory (plan : Organization) : Type 0 where
  pub runs : HasRuns plan
  pub answers : AnswersAsArray plan
  pub obeys : ObeysCommands plan

-- The kit's subcircuits and behind them the macro's have flat rows, which are those of the reference netlist; and that is a memory.
pub record IsMacroMemory (kit : Kit) (plan : Plan) (name : List ℕ) (m : Macro) : Type 0 where
  pub netlist : DeckIsNetlist (organization plan) (cell_in kit.tech.roles) (macro_bits kit plan Stored) (leaf_names kit Stored) (kit.deck.subckts ++ m.deck.subckts) name
  pub memory : IsWritten (organization plan) → IsMemory (organization plan)
