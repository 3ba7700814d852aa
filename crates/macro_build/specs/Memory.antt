-- That a netlist is a memory, which is written and read, or holds fixed words.
use Rattle.std.specs.Prelude.{◌≡◌, ℕ, ◌≤◌, List}
use Rattle.sram_netlist.specs.Organization.{Organization, IsWritten}
use Rattle.rom_laws.specs.Laws.{HoldsWords}
use Rattle.rom_data.specs.Words.{AreRomWords}
use Rattle.port_lists.specs.Held.{Held}
use Rattle.port_lists.specs.Held.Held.{Stored, Fixed}
use Rattle.sram_plan.specs.declared.numbers.Plan.{Plan}
use Rattle.sram_plan.specs.PlanNumbers.{organization}
use Rattle.sram_macro.specs.Memory.{IsMemory}

-- The reference netlist answers as it has to: as an array of words, or each read with one of these words.
abbrev pub AnswersFrom : Organization → Held → Type 0
AnswersFrom plan Stored = IsMemory plan
AnswersFrom plan (Fixed words) = HoldsWords plan words

-- nothing is written, in one bank, and there is a word for each address, of 64 bits at most
pub record AreFixedWords (plan : Plan) (words : List ℕ) : Type 0 where
  pub read_only : plan.write_size ≡ 0
  pub whole : plan.masks ≡ 0
  pub one_bank : plan.bank_bits ≡ 0
  pub few_bits : plan.word_size ≤ 64
  pub are : AreRomWords plan words

-- bits that are stored are written, and fixed words are those of a read-only plan
abbrev pub FitsPlan : Plan → Held → Type 0
FitsPlan plan Stored = IsWritten (organization plan)
FitsPlan plan (Fixed words) = AreFixedWords plan words
