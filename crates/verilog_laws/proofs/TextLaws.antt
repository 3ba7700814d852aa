-- A memory's text spells a memory.
use Rattle.std.proofs.Common.{ℕ, List, refl, sym, subst}
use Rattle.std.specs.Prelude.{nat_lt}
use Rattle.sram_netlist.specs.Numbers.{ArePlanNumbers}
use Rattle.sram_netlist.specs.Organization.{IsWritten}
use Rattle.sram_plan.specs.declared.numbers.Plan.{Plan}
use Rattle.sram_plan.specs.PlanNumbers.{numbers_of, organization}
use Rattle.macro_views.specs.Verilog.{verilog_text}
use Rattle.verilog_modules.specs.Tree.{Module}
use Rattle.verilog_modules.proofs.TreeLaws.{one_tree}
use Rattle.verilog_laws.specs.Memory.{memory_module}
use Rattle.verilog_laws.specs.Behaviour.{IsMemoryModule}
use Rattle.verilog_laws.specs.Laws.{TextsSpell, TextsAreMemories}
use Rattle.verilog_laws.proofs.NameLaws.{name_word, output_named}
use Rattle.verilog_laws.proofs.NamedLaws.{named}
use Rattle.verilog_laws.proofs.LegalLaws.{memories_are_legal}
use Rattle.verilog_laws.proofs.SpellLaws.{has_tokens}
use Rattle.verilog_laws.proofs.CycleLaws.{memories_answer}
use Rattle.verilog_laws.proofs.AgreeLaws.{memories_run, memories_agree}

pub texts_spell : TextsSpell
texts_spell plan name is good =
    let given = output_named name good in record {
      named = named (nat_lt 0 plan.masks) plan name refl is given;
      tokens = has_tokens plan name (name_word name given);
    }

memory_is : (plan : Plan) (name : List ℕ) → ArePlanNumbers (numbers_of plan) → IsWritten (organization plan) → IsMemoryModule (organization plan) (memory_module plan name)
memory_is plan name is some = record {
  legal = memories_are_legal plan name is some;
  runs = memories_run plan name;
  answers = memories_answer plan name is some;
  agrees = memories_agree plan name is some;
}

pub texts_are_memories : TextsAreMemories
texts_are_memories plan name is some good = record {
  some = (memory_module plan name, texts_spell plan name is good);
  each = λ m spelled.
      subst (λ (x : Module). IsMemoryModule (organization plan) x) (sym (one_tree m (memory_module plan name) (verilog_text plan name) spelled (texts_spell plan name is good))) (memory_is plan name is some);
}
