-- A read-only memory's text spells a read-only memory.
use Rattle.std.proofs.Common.{◌≡◌, ℕ, List, [], ◌∷◌, map, Bool, true, false, cond, Some, refl, sym, ap, subst, ◌∙◌}
use Rattle.std.specs.Prelude.{slice_index}
use Rattle.sram_netlist.specs.Organization.{Organization}
use Rattle.sram_netlist.specs.Numbers.{ArePlanNumbers}
use Rattle.sram_netlist.specs.Nets.{Net, Dout}
use Rattle.sram_plan.specs.declared.numbers.Plan.{Plan}
use Rattle.sram_plan.specs.PlanNumbers.{numbers_of, organization}
use Rattle.memory_laws.specs.NumberArray.{number}
use Rattle.memory_laws.specs.Run.{bit_of, Words}
use Rattle.memory_laws.proofs.NumberArrayLaws.{number_bit}
use Rattle.rom_laws.specs.RomRun.{IsRomPlan, AreWordsFor, RomCommand, read_command, rom_answers, rom_run_answers}
use Rattle.rom_laws.proofs.Selects.{roms_hold_words}
use Rattle.rom_data.specs.RomVerilog.{rom_text}
use Rattle.verilog_modules.specs.Tree.{Module}
use Rattle.verilog_modules.specs.Meaning.{ModuleState}
use Rattle.verilog_modules.proofs.TreeLaws.{one_tree}
use Rattle.verilog_laws.specs.Behaviour.{AnswersCommands, SameAnswers}
use Rattle.verilog_laws.proofs.AgreeLaws.{runs_there}
use Rattle.verilog_laws.proofs.NameLaws.{name_word, output_named}
use Rattle.rom_verilog_laws.specs.Rom.{rom_module}
use Rattle.rom_verilog_laws.specs.Behaviour.{fixed_words, IsRomModule}
use Rattle.rom_verilog_laws.specs.Laws.{RomTextsSpell, RomTextsAreMemories}
use Rattle.rom_verilog_laws.proofs.SpellLaws.{has_tokens}
use Rattle.rom_verilog_laws.proofs.NamedLaws.{rom_named, rom_legal}
use Rattle.rom_verilog_laws.proofs.StartLaws.{roms_start}
use Rattle.rom_verilog_laws.proofs.RunLaws.{run_is, same_words}

pub rom_texts_spell : RomTextsSpell
rom_texts_spell plan name words is good =
    let given = output_named name good in record { named = rom_named plan name words is given; tokens = has_tokens plan name words (name_word name given) }

same_first : (x y : ℕ) (xs ys : List ℕ) → x ∷ xs ≡ y ∷ ys → x ≡ y
same_first x y xs ys e = cc

same_rest : (x y : ℕ) (xs ys : List ℕ) → x ∷ xs ≡ y ∷ ys → xs ≡ ys
same_rest x y xs ys e = cc

-- the numbers at the netlist's outputs are the words, and so are the bits at dout0
same_answers : (org : Organization) (words : List ℕ) (cs : List RomCommand) (vs : List (Net → Bool)) (s : ModuleState) (ends : List ModuleState)
    → rom_run_answers org cs vs ≡ rom_answers words cs → AnswersCommands org (map read_command cs) (fixed_words words) s ends → SameAnswers org (map read_command cs) vs ends
same_answers org words [] vs s ends same answers = tt
same_answers org words (c ∷ cs) [] s ends same answers = tt
same_answers org words (c ∷ cs) (v ∷ vs) s [] same answers = tt
same_answers org words (c ∷ cs) (v ∷ vs) s (e ∷ ends) same answers =
    by c.csb refl same
    (λ eq. same_answers org words cs vs e ends eq (subst (λ (w : Words). AnswersCommands org (map read_command cs) w e ends) (same_words org c.csb c.addr (fixed_words words)) answers.1)) where
      by : (b : Bool) → c.csb ≡ b
          → cond b (rom_run_answers org cs vs) (number (λ i. v (Dout i)) org.word_size ∷ rom_run_answers org cs vs) ≡ cond b (rom_answers words cs) (slice_index words c.addr ∷ rom_answers words cs)
          → (rom_run_answers org cs vs ≡ rom_answers words cs → SameAnswers org (map read_command cs) vs ends) → SameAnswers org (map read_command (c ∷ cs)) (v ∷ vs) (e ∷ ends)
      by true idle eq rest = (λ reads web i few. absurd (let both : true ≡ false = sym idle ∙ reads in cc), rest eq)
      by false reading eq rest = (
        λ reads web i few.
            answers.0.read reads web i few
            ∙ ap (λ (t : Bool). Some t)
            (ap (λ (k : ℕ). bit_of k i) (sym (same_first (number (λ j. v (Dout j)) org.word_size) (slice_index words c.addr) (rom_run_answers org cs vs) (rom_answers words cs) eq))
            ∙ number_bit (λ j. v (Dout j)) org.word_size i few),
        rest (same_rest (number (λ j. v (Dout j)) org.word_size) (slice_index words c.addr) (rom_run_answers org cs vs) (rom_answers words cs) eq),
      )

rom_is : (plan : Plan) (name words : List ℕ) → ArePlanNumbers (numbers_of plan) → IsRomPlan (organization plan) → AreWordsFor (organization plan) words → IsRomModule (organization plan) words (rom_module plan name words)
rom_is plan name words is rom fit =
    let starts = roms_start plan name words is fit in record {
      legal = rom_legal plan name words is fit;
      starts = starts;
      runs = runs_there (rom_module plan name words);
      answers = λ s cs ends end start range run. (run_is plan name words is cs (fixed_words words) s ends end range (starts.each s start) run).0;
      agrees = λ n s cs vs last ends end begun start range netlist run.
          same_answers (organization plan) words cs vs s ends ((roms_hold_words (organization plan) words rom fit).answers n cs vs last begun range netlist)
          (run_is plan name words is cs (fixed_words words) s ends end range (starts.each s start) run).0;
    }

pub rom_texts_are_memories : RomTextsAreMemories
rom_texts_are_memories plan name words is rom fit good = record {
  some = (rom_module plan name words, rom_texts_spell plan name words is good);
  each = λ m spelled.
      subst (λ (x : Module). IsRomModule (organization plan) words x) (sym (one_tree m (rom_module plan name words) (rom_text plan name words) spelled (rom_texts_spell plan name words is good))) (rom_is plan name words is rom fit);
}
