-- Three memories, and what their runs answer.
use Rattle.std.specs.Prelude.{◌≡◌, ℕ, List, [], ◌∷◌, map, Bool, true, false}
use Rattle.sram_netlist.specs.Organization.{Organization, IsBuildable}
use Rattle.sram_netlist.specs.Nets.{Net}
use Rattle.memory_laws.specs.NetlistCircuit.{circuit}
use Rattle.memory_laws.specs.Phase.{State}
use Rattle.memory_laws.specs.Run.{IsStartState, IsCommandRun}
use Rattle.memory_laws.specs.NumberArray.{NumberCommand, command_bits, run_answers, word_at}

-- 32 words of 2 bits, two in each of 16 rows
abbrev pub plain_memory : Organization
plain_memory = record { word_size = 2; write_size = 2; masks = 0; bank_bits = 0; col_bits = 1; groups = 2 ∷ 2 ∷ [] }

-- 16 words of 4 bits with two masks
abbrev pub masked_memory : Organization
masked_memory = record { word_size = 4; write_size = 2; masks = 2; bank_bits = 0; col_bits = 0; groups = 2 ∷ 2 ∷ [] }

-- 32 words of 2 bits in two banks
abbrev pub banked_memory : Organization
banked_memory = record { word_size = 2; write_size = 2; masks = 0; bank_bits = 1; col_bits = 0; groups = 2 ∷ 2 ∷ [] }

-- a write of a word at an address with a mask, and a read
abbrev pub put : ℕ → ℕ → ℕ → NumberCommand
put word addr mask = record { csb = false; web = false; wmask = mask; addr = addr; din = word }

abbrev pub get : ℕ → NumberCommand
get addr = record { csb = false; web = true; wmask = 0; addr = addr; din = 0 }

-- every run of these commands from a start has these answers
abbrev pub AnswerAlways : Organization → List NumberCommand → List ℕ → Type 0
AnswerAlways plan cs answers = (s : State) (vs : List (Net → Bool)) (end : State) → IsStartState (circuit plan) s → IsCommandRun (circuit plan) s (map command_bits cs) vs end → run_answers plan cs vs ≡ answers

pub record ExamplesAnswer : Type 0 where
  pub plain_stands : IsBuildable plain_memory
  pub masked_stands : IsBuildable masked_memory
  pub banked_stands : IsBuildable banked_memory
  -- from a start with 2 at address 5 and 3 at address 30, which shares its row with 31
  pub plain_answers : (s : State) (vs : List (Net → Bool)) (end : State) → IsStartState (circuit plain_memory) s → word_at plain_memory s 5 ≡ 2 → word_at plain_memory s 30 ≡ 3
      → IsCommandRun (circuit plain_memory) s (map command_bits (get 5 ∷ put 1 31 0 ∷ get 31 ∷ get 30 ∷ [])) vs end → run_answers plain_memory (get 5 ∷ put 1 31 0 ∷ get 31 ∷ get 30 ∷ []) vs ≡ 2 ∷ 1 ∷ 3 ∷ []
  -- 15 is written at 3, then 0 with the lower mask alone
  pub masked_answers : AnswerAlways masked_memory (put 15 3 3 ∷ put 0 3 1 ∷ get 3 ∷ []) (12 ∷ [])
  -- a write without a mask changes nothing
  pub unmasked_answers : AnswerAlways masked_memory (put 15 3 3 ∷ put 0 3 0 ∷ get 3 ∷ []) (15 ∷ [])
  -- 1 is written at 3, and 2 at 19, which is the same place of the other bank
  pub banked_answers : AnswerAlways banked_memory (put 1 3 0 ∷ put 2 19 0 ∷ get 3 ∷ get 19 ∷ []) (1 ∷ 2 ∷ [])
