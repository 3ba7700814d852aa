-- The netlist of a macro is the reference netlist, and that is a memory.
use Rattle.std.proofs.Common.{◌≡◌, ℕ, List, ◌++◌, refl, sym, ap, subst}
use Rattle.netlist.specs.declared.deck.Deck.{Deck}
use Rattle.netlist.specs.declared.deck.Subckt.{Subckt}
use Rattle.sram_netlist.specs.Numbers.{ArePlanNumbers}
use Rattle.sram_netlist.specs.Organization.{IsWritten}
use Rattle.memory_laws.specs.Laws.{RunsExist, RunsObey}
use Rattle.memory_laws.specs.NumberArray.{RunsAnswerNumbers}
use Rattle.sram_deck.specs.Deck.{written_subckts}
use Rattle.sram_plan.specs.declared.numbers.Plan.{Plan}
use Rattle.sram_plan.specs.PlanNumbers.{numbers_of, organization}
use Rattle.sram_rows.specs.Rows.{RowsEqualNetlist, DeckIsNetlist}
use Rattle.leaf_tables.specs.declared.kit.Kit.{Kit}
use Rattle.port_lists.specs.Cells.{cell_in}
use Rattle.port_lists.specs.Held.{Held}
use Rattle.port_lists.specs.Held.Held.{Stored}
use Rattle.sram_macro.specs.declared.assembly.Macro.{Macro}
use Rattle.sram_macro.specs.Leaves.{leaf_names}
use Rattle.sram_macro.specs.Macro.{IsMacro, macro_bits}
use Rattle.sram_macro.specs.Memory.{IsMemory, IsMacroMemory}

pub subckts_are : (kit : Kit) (plan : Plan) (held : Held) (name : List ℕ) (m : Macro) → IsMacro kit plan held name m
    → m.deck.subckts ≡ written_subckts (organization plan) (cell_in kit.tech.roles) (macro_bits kit plan held) name
subckts_are kit plan held name m is = ap (λ (d : Deck). d.subckts) is.deck

-- the subcircuits of the kit and of the macro are the reference netlist
pub netlist_of : RowsEqualNetlist → (kit : Kit) (plan : Plan) (held : Held) (name : List ℕ) (m : Macro) → ArePlanNumbers (numbers_of plan) → IsMacro kit plan held name m
    → DeckIsNetlist (organization plan) (cell_in kit.tech.roles) (macro_bits kit plan held) (leaf_names kit held) (kit.deck.subckts ++ m.deck.subckts) name
netlist_of law kit plan held name m numbers is =
    subst (λ (l : List Subckt). DeckIsNetlist (organization plan) (cell_in kit.tech.roles) (macro_bits kit plan held) (leaf_names kit held) (kit.deck.subckts ++ l) name) (sym (subckts_are kit plan held name m is))
    (law (organization plan) (cell_in kit.tech.roles) (macro_bits kit plan held) (leaf_names kit held) kit.deck.subckts name name numbers.plan is.leaves refl).0

-- a plan in which something is written
pub memory_of : RunsExist → RunsAnswerNumbers → RunsObey → (plan : Plan) → ArePlanNumbers (numbers_of plan) → IsWritten (organization plan) → IsMemory (organization plan)
memory_of exist answer obey plan numbers written = record {
  runs = λ s cs. exist (organization plan) s cs numbers.plan written;
  answers = λ s cs vs end. answer (organization plan) s cs vs end numbers.plan written;
  obeys = λ s cs vs end. obey (organization plan) s cs vs end numbers.plan written;
}

pub macro_memory : RowsEqualNetlist → RunsExist → RunsAnswerNumbers → RunsObey → (kit : Kit) (plan : Plan) (name : List ℕ) (m : Macro) → ArePlanNumbers (numbers_of plan) → IsMacro kit plan Stored name m → IsMacroMemory kit plan name m
macro_memory rows exist answer obey kit plan name m numbers is = record {
  netlist = netlist_of rows kit plan Stored name m numbers is;
  memory = memory_of exist answer obey plan numbers;
}
