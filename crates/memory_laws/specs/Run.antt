-- Commands, runs over three phases each, and the array of words.
use Rattle.std.specs.Prelude.{◌≡◌, ℕ, zero, suc, ◌+◌, ◌*◌, ◌/◌, ◌%◌, ◌<◌, List, [], ◌∷◌, Bool, true, false, ◌&&◌, not, nat_eq, if◌then◌else◌}
use Rattle.sram_netlist.specs.Organization.{bank_rows, Organization, words_per_row, banks_of}
use Rattle.sram_netlist.specs.Nets.{Net, Dout}
use Rattle.sram_netlist.specs.Instances.{LeafInstance, BitAt}
use Rattle.sram_netlist.specs.Netlist.{lowest_bit, high_bits}
use Rattle.cell_roles.specs.declared.role.Role.TheVariants.{Dff}
use Rattle.cell_roles.specs.declared.leaf_role.LeafRole.TheVariants.{Common}
use Rattle.memory_laws.specs.Phase.{Circuit, State, PortInputs, IsPhase}

pub record MemoryCommand : Type 0 where
  pub csb : Bool
  pub web : Bool
  pub wmask : ℕ → Bool
  pub addr : ℕ
  pub din : ℕ → Bool

abbrev pub bit_of : ℕ → ℕ → Bool
bit_of a j = lowest_bit (high_bits j a)

abbrev pub port_values : Bool → MemoryCommand → PortInputs
port_values clk c = record { clk = clk; csb = c.csb; web = c.web; wmask = c.wmask; addr = bit_of c.addr; din = c.din }

-- a command takes the state to another, with these values at its end
pub record IsCycle (circuit : Circuit) (s : State) (c : MemoryCommand) (v : Net → Bool) (end : State) : Type 0 where
  pub first : Net → Bool
  pub second : Net → Bool
  pub s1 : State
  pub s2 : State
  pub fetch : IsPhase circuit s (port_values true c) first s1
  pub select : IsPhase circuit s1 (port_values false c) second s2
  pub finish : IsPhase circuit s2 (port_values false c) v end

-- each flip-flop has seen the clock low
abbrev pub IsStartState : Circuit → State → Type 0
IsStartState circuit s = (leaf : LeafInstance) → circuit.has leaf → circuit.role leaf ≡ Common Dff → s.p leaf ≡ false

-- a list of commands takes the state to another, with these values at each end
abbrev pub IsCommandRun : Circuit → State → List MemoryCommand → List (Net → Bool) → State → Type 0
IsCommandRun circuit s [] vs end = (vs ≡ []) × (end ≡ s)
IsCommandRun circuit s (c ∷ cs) [] end = ⊥
IsCommandRun circuit s (c ∷ cs) (v ∷ vs) end = (mid : State) × IsCycle circuit s c v mid × IsCommandRun circuit mid cs vs end

-- words by address and bit
abbrev pub Words : Type 0
Words = ℕ → ℕ → Bool

-- the words of all banks, and of one
abbrev pub num_words : Organization → ℕ
num_words plan = banks_of plan * (bank_rows plan * words_per_row plan)

abbrev pub bank_words : Organization → ℕ
bank_words plan = num_words plan / banks_of plan

-- the place of an address: its bank, its row, and the column of its bit i
abbrev pub bank_of : Organization → ℕ → ℕ
bank_of plan a = a / bank_words plan

abbrev pub row_of : Organization → ℕ → ℕ
row_of plan a = a % bank_words plan / words_per_row plan

abbrev pub choice_of : Organization → ℕ → ℕ
choice_of plan a = a % bank_words plan % words_per_row plan

abbrev pub contents : Organization → State → Words
contents plan s a i = s.q (BitAt (bank_of plan a) (row_of plan a) (i * words_per_row plan + choice_of plan a))

-- a write may change bit i
abbrev pub is_masked_in : ℕ → ℕ → MemoryCommand → ℕ → Bool
is_masked_in zero z c i = true
is_masked_in (suc k) z c i = c.wmask (i / z)

abbrev pub words_after : Organization → MemoryCommand → Words → Words
words_after plan c words a i = if not c.csb && (not c.web && (nat_eq a c.addr && is_masked_in plan.masks plan.write_size c i)) then c.din i else words a i

abbrev pub words_after_all : Organization → List MemoryCommand → Words → Words
words_after_all plan [] words = words
words_after_all plan (c ∷ cs) words = words_after_all plan cs (words_after plan c words)

-- the words agree on the plan's addresses and bits
abbrev pub SameWords : Organization → Words → Words → Type 0
SameWords plan x y = (a i : ℕ) → a < num_words plan → i < plan.word_size → x a i ≡ y a i

abbrev pub AnswersRead : Organization → MemoryCommand → Words → (Net → Bool) → Type 0
AnswersRead plan c words v = c.csb ≡ false → c.web ≡ true → (i : ℕ) → i < plan.word_size → v (Dout i) ≡ words c.addr i

-- each read answers the word that the array has
abbrev pub AnswersEachRead : Organization → List MemoryCommand → Words → List (Net → Bool) → Type 0
AnswersEachRead plan (c ∷ cs) words (v ∷ vs) = AnswersRead plan c words v × AnswersEachRead plan cs (words_after plan c words) vs
AnswersEachRead plan cs words vs = Unit {0}

abbrev pub AreInRange : Organization → List MemoryCommand → Type 0
AreInRange plan [] = Unit {0}
AreInRange plan (c ∷ cs) = (c.addr < num_words plan) × AreInRange plan cs
