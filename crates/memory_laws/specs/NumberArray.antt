-- The array of words as numbers: what a memory is to its user.
use Rattle.std.specs.Prelude.{◌≡◌, ℕ, zero, suc, ◌+◌, ◌*◌, ◌<◌, List, [], ◌∷◌, map, Bool, ◌&&◌, not, nat_eq, if◌then◌else◌}
use Rattle.sram_netlist.specs.Organization.{Organization, IsBuildable, IsWritten}
use Rattle.sram_netlist.specs.Nets.{Net, Dout}
use Rattle.memory_laws.specs.NetlistCircuit.{circuit}
use Rattle.memory_laws.specs.Phase.{State}
use Rattle.memory_laws.specs.Run.{MemoryCommand, bit_of, IsStartState, IsCommandRun, num_words, contents, is_masked_in}

-- a command with mask, address and data as numbers; csb and web are active low
pub record NumberCommand : Type 0 where
  pub csb : Bool
  pub web : Bool
  pub wmask : ℕ
  pub addr : ℕ
  pub din : ℕ

-- its bits
abbrev pub command_bits : NumberCommand → MemoryCommand
command_bits c = record { csb = c.csb; web = c.web; wmask = bit_of c.wmask; addr = c.addr; din = bit_of c.din }

abbrev pub is_read_command : NumberCommand → Bool
is_read_command c = not c.csb && c.web

-- the number that the lowest n bits make
abbrev pub number : (ℕ → Bool) → ℕ → ℕ
number f zero = 0
number f (suc n) = (if f 0 then 1 else 0) + 2 * number (λ j. f (suc j)) n

-- a word after a write: the bits that the mask lets through are new
abbrev pub merged : Organization → NumberCommand → ℕ → ℕ
merged plan c word = number (λ i. if is_masked_in plan.masks plan.write_size (command_bits c) i then bit_of c.din i else bit_of word i) plan.word_size

-- the words after a command, by address
abbrev pub numbers_after : Organization → NumberCommand → (ℕ → ℕ) → ℕ → ℕ
numbers_after plan c words a = if not c.csb && (not c.web && nat_eq a c.addr) then merged plan c (words a) else words a

abbrev pub numbers_after_all : Organization → List NumberCommand → (ℕ → ℕ) → ℕ → ℕ
numbers_after_all plan [] words = words
numbers_after_all plan (c ∷ cs) words = numbers_after_all plan cs (numbers_after plan c words)

-- the answers of an array of words to its reads
abbrev pub array_answers : Organization → List NumberCommand → (ℕ → ℕ) → List ℕ
array_answers plan [] words = []
array_answers plan (c ∷ cs) words =
    if is_read_command c then words c.addr ∷ array_answers plan cs (numbers_after plan c words) else array_answers plan cs (numbers_after plan c words)

-- the answers of a run: at each read the number on the data outputs
abbrev pub run_answers : Organization → List NumberCommand → List (Net → Bool) → List ℕ
run_answers plan (c ∷ cs) (v ∷ vs) = if is_read_command c then number (λ i. v (Dout i)) plan.word_size ∷ run_answers plan cs vs else run_answers plan cs vs
run_answers plan cs vs = []

-- the word that a state holds at an address
abbrev pub word_at : Organization → State → ℕ → ℕ
word_at plan s a = number (contents plan s a) plan.word_size

abbrev pub HaveAddresses : Organization → List NumberCommand → Type 0
HaveAddresses plan [] = Unit {0}
HaveAddresses plan (c ∷ cs) = (c.addr < num_words plan) × HaveAddresses plan cs

-- every run of a written memory from a start gives the answers of the array that begins with the start's words, and ends with the array's words
abbrev pub RunsAnswerNumbers : Type 0
RunsAnswerNumbers = (plan : Organization) (s : State) (cs : List NumberCommand) (vs : List (Net → Bool)) (end : State) → IsBuildable plan → IsWritten plan
    → IsStartState (circuit plan) s → HaveAddresses plan cs → IsCommandRun (circuit plan) s (map command_bits cs) vs end
    → (run_answers plan cs vs ≡ array_answers plan cs (word_at plan s)) × ((a : ℕ) → a < num_words plan → word_at plan end a ≡ numbers_after_all plan cs (word_at plan s) a)
