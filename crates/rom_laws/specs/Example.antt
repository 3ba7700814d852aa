-- A read-only memory, and what its runs answer.
use Rattle.std.specs.Prelude.{◌≡◌, ℕ, List, [], ◌∷◌, map, Bool, false}
use Rattle.sram_netlist.specs.Organization.{Organization}
use Rattle.sram_netlist.specs.Nets.{Net}
use Rattle.memory_laws.specs.Phase.{State}
use Rattle.memory_laws.specs.Run.{IsStartState, IsCommandRun}
use Rattle.rom_laws.specs.RomRun.{IsRomPlan, RomCommand, read_command, rom_circuit, AreWordsFor, rom_run_answers}

-- 16 words of 2 bits, the word at each address being the address modulo 4
abbrev pub example_plan : Organization
example_plan = record { word_size = 2; write_size = 0; masks = 0; bank_bits = 0; col_bits = 0; groups = 2 ∷ 2 ∷ [] }

abbrev pub example_words : List ℕ
example_words = 0 ∷ 1 ∷ 2 ∷ 3 ∷ 0 ∷ 1 ∷ 2 ∷ 3 ∷ 0 ∷ 1 ∷ 2 ∷ 3 ∷ 0 ∷ 1 ∷ 2 ∷ 3 ∷ []

abbrev pub read_at : ℕ → RomCommand
read_at addr = record { csb = false; addr = addr }

abbrev pub example_commands : List RomCommand
example_commands = read_at 5 ∷ read_at 11 ∷ []

pub record RomExampleAnswers : Type 0 where
  pub stands : IsRomPlan example_plan
  pub words : AreWordsFor example_plan example_words
  pub answers : (s : State) (vs : List (Net → Bool)) (end : State) → IsStartState (rom_circuit example_plan example_words) s
      → IsCommandRun (rom_circuit example_plan example_words) s (map read_command example_commands) vs end → rom_run_answers example_plan example_commands vs ≡ 1 ∷ 3 ∷ []
