-- Bytes are the words of a plan, or have a fault.
use Rattle.std.specs.Prelude.{◌≢◌, ◌⊎◌, ℕ, List}
use Rattle.sram_plan.specs.declared.numbers.Plan.{Plan}
use Rattle.rom_data.specs.declared.fault.RomFault.{RomFault}
use Rattle.rom_data.specs.declared.fault.RomFault.TheVariants.{Memory}
use Rattle.rom_data.specs.Words.{AreWordsOf, IsRomFault}

-- they are these words, or this is wrong with them, and it is no want of memory
abbrev pub WordsOrFault : Plan → List ℕ → Type 0
WordsOrFault plan bytes = ((words : List ℕ) × AreWordsOf plan bytes words) ⊎ ((fault : RomFault) × (fault ≢ Memory) × IsRomFault plan bytes fault)

abbrev pub WordsAnswer : Type 0
WordsAnswer = (plan : Plan) (bytes : List ℕ) → WordsOrFault plan bytes
