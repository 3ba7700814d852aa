-- What is held fits the kit and the plan, and netlist and Verilog answer with it.
use Rattle.std.proofs.Common.{◌≡◌, ℕ, ◌*◌, ◌<◌, List, sym, ap, subst, ◌∙◌, arith}
use Rattle.std.specs.Prelude.{IsTrue, slice_index}
use Rattle.sram_netlist.specs.Organization.{Organization, power_of_two, bank_rows, words_per_row}
use Rattle.sram_netlist.specs.Numbers.{ArePlanNumbers}
use Rattle.memory_laws.specs.Laws.{RunsExist, RunsObey}
use Rattle.memory_laws.specs.NumberArray.{RunsAnswerNumbers}
use Rattle.memory_laws.specs.Run.{num_words}
use Rattle.memory_laws.proofs.Decode.{twice_power}
use Rattle.rom_laws.specs.Laws.{RomsHoldWords}
use Rattle.rom_laws.specs.RomRun.{IsRomPlan, AreWordsFor}
use Rattle.sram_plan.specs.declared.numbers.Plan.{Plan}
use Rattle.sram_plan.specs.Config.{is_output_name}
use Rattle.sram_plan.specs.PlanNumbers.{numbers_of, organization}
use Rattle.verilog_laws.specs.Laws.{TextsAreMemories}
use Rattle.rom_verilog_laws.specs.Laws.{RomTextsAreMemories}
use Rattle.leaf_tables.specs.declared.kit.Kit.{Kit}
use Rattle.port_lists.specs.Held.{Held}
use Rattle.port_lists.specs.Held.Held.{Stored, Fixed}
use Rattle.port_lists.proofs.NumberLaws.{banks_are, rows_are, words_are}
use Rattle.sram_macro.specs.Leaves.{HasCellsFor, IsHeld}
use Rattle.sram_macro.proofs.MemoryLaws.{memory_of}
use Rattle.macro_build.specs.Memory.{AnswersFrom, AreFixedWords, FitsPlan}
use Rattle.macro_build.specs.Verilog.{SpellsHeld, verilog_of}

all_words_are : (plan : Plan) → ArePlanNumbers (numbers_of plan) → plan.num_words ≡ num_words (organization plan)
all_words_are plan numbers =
    let n = numbers_of plan in
    let banks = banks_are n numbers in
    let rows = rows_are n numbers in
    let words = words_are n numbers in
    numbers.words ∙ (λ i. banks i * (rows i * words i))

one_bank : (plan : Organization) → plan.bank_bits ≡ 0 → num_words plan ≡ bank_rows plan * words_per_row plan
one_bank plan e =
    let same : num_words plan ≡ 1 * (bank_rows plan * words_per_row plan) = ap (λ (b : ℕ). power_of_two b * (bank_rows plan * words_per_row plan)) e in
    omega (arith, same)

-- a bank holds the fixed words
pub is_held : (kit : Kit) (plan : Plan) (held : Held) → ArePlanNumbers (numbers_of plan) → FitsPlan plan held → HasCellsFor kit held → IsHeld kit plan held
is_held kit plan Stored numbers fit cells = record { fit = tt; cells = tt }
is_held kit plan (Fixed words) numbers fit cells = record { fit = fit.are.count ∙ all_words_are plan numbers ∙ one_bank (organization plan) fit.one_bank; cells = cells }

rom_plan : (plan : Plan) (words : List ℕ) → ArePlanNumbers (numbers_of plan) → AreFixedWords plan words → IsRomPlan (organization plan)
rom_plan plan words numbers fit = record { buildable = numbers.plan; read_only = fit.read_only; one_bank = fit.one_bank; whole = fit.whole }

words_for : (plan : Plan) (words : List ℕ) → ArePlanNumbers (numbers_of plan) → AreFixedWords plan words → AreWordsFor (organization plan) words
words_for plan words numbers fit =
    let same = all_words_are plan numbers in
    record {
      count = fit.are.count ∙ same;
      fit = λ a lt. subst (λ (k : ℕ). slice_index words a < k) (sym (twice_power plan.word_size)) (fit.are.fit a (subst (λ (k : ℕ). a < k) (sym same) lt));
    }

pub answers_from : RunsExist → RunsAnswerNumbers → RunsObey → RomsHoldWords → (plan : Plan) (held : Held) → ArePlanNumbers (numbers_of plan) → FitsPlan plan held → AnswersFrom (organization plan) held
answers_from exist answer obey hold plan Stored numbers written = memory_of exist answer obey plan numbers written
answers_from exist answer obey hold plan (Fixed words) numbers fit = hold (organization plan) words (rom_plan plan words numbers fit) (words_for plan words numbers fit)

pub spells_held : TextsAreMemories → RomTextsAreMemories → (plan : Plan) (held : Held) (name text : List ℕ) → ArePlanNumbers (numbers_of plan) → FitsPlan plan held → IsTrue (is_output_name name)
    → text ≡ verilog_of plan held name → SpellsHeld (organization plan) held text
spells_held memories roms plan held name text numbers fit good same = subst (SpellsHeld (organization plan) held) (sym same) (by held fit) where
  by : (h : Held) → FitsPlan plan h → SpellsHeld (organization plan) h (verilog_of plan h name)
  by Stored written = memories plan name numbers written good
  by (Fixed words) fixed = roms plan name words numbers (rom_plan plan words numbers fixed) (words_for plan words numbers fixed) good
