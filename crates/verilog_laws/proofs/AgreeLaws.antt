-- Runs of a memory's module exist, and answer as those of its netlist.
use Rattle.std.proofs.Common.{List, [], ◌∷◌, Bool, Some, codes, refl, sym, ap, ◌∙◌}
use Rattle.sram_plan.specs.PlanNumbers.{organization}
use Rattle.sram_netlist.specs.Organization.{Organization}
use Rattle.sram_netlist.specs.Nets.{Net}
use Rattle.memory_laws.specs.Run.{MemoryCommand, Words, words_after, contents, AnswersEachRead}
use Rattle.memory_laws.proofs.Plans.{runs_answer}
use Rattle.verilog_modules.specs.Tree.{Module, Rising, Falling}
use Rattle.verilog_modules.specs.Meaning.{ModuleState}
use Rattle.verilog_modules.proofs.EdgeLaws.{edges_end}
use Rattle.verilog_laws.specs.Memory.{memory_module}
use Rattle.verilog_laws.specs.Runs.{command_inputs, IsModuleRun}
use Rattle.verilog_laws.specs.Laws.{MemoriesRun, MemoriesAgree}
use Rattle.verilog_laws.specs.Behaviour.{AnswersCommands, SameAnswers}
use Rattle.verilog_laws.proofs.CycleLaws.{memories_answer}

pub runs_there : (m : Module) (s : ModuleState) (cs : List MemoryCommand) → (ends : List ModuleState) × (end : ModuleState) × IsModuleRun m s cs ends end
runs_there m s [] = ([], s, (refl, refl))
runs_there m s (c ∷ cs) =
    let rise = edges_end m Rising (codes "clk0") (command_inputs c) s in let fall = edges_end m Falling (codes "clk0") (command_inputs c) rise.0 in
    let rest = runs_there m fall.0 cs in
    (fall.0 ∷ rest.0, rest.1, (record { mid = rise.0; rise = rise.1; fall = fall.1 }, rest.2))

pub memories_run : MemoriesRun
memories_run plan name = runs_there (memory_module plan name)

-- two that answer alike
pub same_answers : (org : Organization) (cs : List MemoryCommand) (words : Words) (vs : List (Net → Bool)) (s : ModuleState) (ends : List ModuleState)
    → AnswersEachRead org cs words vs → AnswersCommands org cs words s ends → SameAnswers org cs vs ends
same_answers org [] words vs s ends a b = tt
same_answers org (c ∷ cs) words [] s ends a b = tt
same_answers org (c ∷ cs) words (v ∷ vs) s [] a b = tt
same_answers org (c ∷ cs) words (v ∷ vs) s (e ∷ ends) a b = (
  λ f g i few. b.0.read f g i few ∙ sym (ap (λ (t : Bool). Some t) (a.0 f g i few)),
  same_answers org cs (words_after org c words) vs e ends a.1 b.1,
)

pub memories_agree : MemoriesAgree
memories_agree plan name is some n s cs vs last ends end range start has netlist run =
    let org = organization plan in
    same_answers org cs (contents org n) vs s ends (runs_answer org n cs vs last is.plan some start range netlist).0
    (memories_answer plan name is some s (contents org n) cs ends end range has run).0
