-- What is assembled is what is asked of a maker.
use Rattle.std.proofs.Common.{ℕ, List, Result, Ok, Err, sym, subst}
use Rattle.gds_library.specs.declared.library.Library.{Library}
use Rattle.gds_library.specs.declared.library.Structure.{Structure}
use Rattle.netlist.specs.declared.deck.Deck.{Deck}
use Rattle.netlist.specs.declared.deck.Subckt.{Subckt}
use Rattle.sram_netlist.specs.Numbers.{ArePlanNumbers}
use Rattle.port_lists.specs.Held.Held.{Stored}
use Rattle.sram_plan.specs.declared.numbers.Plan.{Plan}
use Rattle.sram_plan.specs.PlanNumbers.{numbers_of}
use Rattle.leaf_tables.specs.declared.kit.Kit.{Kit}
use Rattle.leaf_tables.specs.declared.part.PartFault.{PartFault}
use Rattle.leaf_tables.specs.Kits.{IsKit}
use Rattle.sram_macro.specs.declared.assembly.Macro.{Macro}
use Rattle.sram_macro.specs.Macro.{IsMacro, IsMacroFault}
use Rattle.macro_facts.specs.Unused.{IsUnusedName, UnusedNamesAreFree}
use Rattle.macro_facts.specs.Whole.{MacrosAreWhole, MacrosHaveRows}
use Rattle.kit_check.specs.FreeName.{IsFreeName}
use Rattle.kit_check.specs.Makers.{IsGoodMacro, IsGoodAnswer, IsGoodMaker}
use Rattle.kit_check.specs.Windows.{plan_of}
use Rattle.kit_check.proofs.WindowLaws.{are_planned}
use Rattle.macro_maker.specs.Assembled.{IsAssembled}

unused : (kit : Kit) (name : List ℕ) → IsFreeName kit name → IsUnusedName kit name
unused kit name free = record {
  structs = λ (s : Structure) rest c e. free.structs s c (record { rest = rest; is = e });
  subckts = λ (s : Subckt) rest c e. free.subckts s c (record { rest = rest; is = e });
}

-- a macro can be written and flattened, and has rows
good_macro : MacrosAreWhole → MacrosHaveRows → (kit : Kit) (plan : Plan) (name : List ℕ) (m : Macro) → IsKit kit → ArePlanNumbers (numbers_of plan) → IsMacro kit plan Stored name m → IsGoodMacro kit name m.lib m.deck
good_macro whole rows kit plan name m is_kit numbers is =
    let sound = whole kit plan Stored name m is_kit numbers (record { fit = tt; cells = tt }) is in
    record {
      writable = is.writable;
      there = λ missing fault. sound.there missing fault.has;
      acyclic = λ cyclic fault. sound.acyclic cyclic fault.1.has;
      rows = rows kit plan Stored name m numbers is;
    }

good_answer : MacrosAreWhole → MacrosHaveRows → UnusedNamesAreFree → (kit : Kit) (plan : Plan) (name : List ℕ) (answer : Result (Library × Deck) PartFault) → IsKit kit → ArePlanNumbers (numbers_of plan) → IsFreeName kit name
    → IsAssembled kit plan name answer → IsGoodAnswer kit name answer
good_answer whole rows untaken kit plan name (Ok made) is numbers free (m, macro, same) =
    subst (λ (both : Library × Deck). IsGoodMacro kit name both.0 both.1) (sym same) (good_macro whole rows kit plan name m is numbers macro)
good_answer whole rows untaken kit plan name (Err fault) is numbers free (some, p) =
    λ taken e. untaken kit plan Stored name taken is (unused kit name free) (subst (IsMacroFault kit plan Stored name) e p)

-- So assembling is a good maker of every kit.
pub assembling_is_good : MacrosAreWhole → MacrosHaveRows → UnusedNamesAreFree → (kit : Kit) → IsKit kit → IsGoodMaker IsAssembled kit
assembling_is_good whole rows untaken kit is w name answer listed free made = good_answer whole rows untaken kit (plan_of w) name answer is (are_planned w listed) free made
