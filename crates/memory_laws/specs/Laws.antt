-- What is proved of phases and runs.
use Rattle.std.specs.Prelude.{◌≡◌, ℕ, ◌/◌, ◌%◌, ◌<◌, List, [], ◌∷◌, Bool, true, false, ◌&&◌, not, nat_eq, length}
use Rattle.sram_netlist.specs.Organization.{Organization, power_of_two, bank_rows, columns_of, words_per_row, banks_of, IsBuildable, IsWritten}
use Rattle.sram_netlist.specs.Nets.{Net, Control, Wen, Sen, Line, Wl, Bl, Br}
use Rattle.sram_netlist.specs.Instances.{LeafInstance}
use Rattle.sram_netlist.specs.Membership.{HasLeafNet, HasLeafInstance}
use Rattle.memory_laws.specs.NetlistCircuit.{circuit}
use Rattle.sram_netlist.specs.Netlist.{low_bits, high_bits, role, ports, sen_at, enable_at, enable_count, mask_of}
use Rattle.memory_laws.specs.Phase.{State, PortInputs, IsPhase}
use Rattle.cell_roles.specs.Roles.{role_ports}
use Rattle.memory_laws.specs.Run.{num_words, IsCycle, MemoryCommand, IsStartState, IsCommandRun, AreInRange, AnswersEachRead, contents, SameWords, words_after_all, bank_of, row_of, choice_of, is_masked_in}

-- a phase of a written memory has one value for each net
abbrev pub PhasesAgree : Type 0
PhasesAgree = (plan : Organization) (s : State) (i : PortInputs) (v u : Net → Bool) (next other : State) → IsBuildable plan → IsWritten plan
    → IsPhase (circuit plan) s i v next → IsPhase (circuit plan) s i u other → (x : Net) → HasLeafNet plan x → v x ≡ u x

-- every run of a written memory answers as the array
abbrev pub RunsAnswer : Type 0
RunsAnswer = (plan : Organization) (s : State) (cs : List MemoryCommand) (vs : List (Net → Bool)) (end : State) → IsBuildable plan → IsWritten plan → IsStartState (circuit plan) s
    → AreInRange plan cs → IsCommandRun (circuit plan) s cs vs end
    → AnswersEachRead plan cs (contents plan s) vs × SameWords plan (contents plan end) (words_after_all plan cs (contents plan s))

-- and a run exists from every state
abbrev pub RunsExist : Type 0
RunsExist = (plan : Organization) (s : State) (cs : List MemoryCommand) → IsBuildable plan → IsWritten plan → (vs : List (Net → Bool)) × (end : State) × IsCommandRun (circuit plan) s cs vs end

-- a value in each of the three phases
abbrev pub InPhases : (Net → Bool) → (Net → Bool) → (Net → Bool) → Net → Bool → Bool → Bool → Type 0
InPhases first second last x a b c = (first x ≡ a) × ((second x ≡ b) × (last x ≡ c))

-- the command does something in this bank
abbrev pub is_addressed : Organization → MemoryCommand → ℕ → Bool
is_addressed plan c bank = not c.csb && nat_eq bank (bank_of plan c.addr)

-- the command writes bit i in this bank
abbrev pub is_written : Organization → MemoryCommand → ℕ → ℕ → Bool
is_written plan c bank i = is_addressed plan c bank && (not c.web && is_masked_in plan.masks plan.write_size c i)

-- what the nets say of selecting and reading, in the three phases of a command
pub record SelectFacts (plan : Organization) (c : MemoryCommand) (first second last : Net → Bool) : Type 0 where
  -- one column choice is on
  pub choice : (k : ℕ) → k < words_per_row plan → 0 < plan.col_bits → InPhases first second last (Line 0 plan.col_bits k) (nat_eq k (choice_of plan c.addr)) (nat_eq k (choice_of plan c.addr)) (nat_eq k (choice_of plan c.addr))
  pub charged : (bank k : ℕ) → bank < banks_of plan → k < columns_of plan → (first (Bl bank k) ≡ true) × (first (Br bank k) ≡ true)
  -- the word line of the word's cells is on, and no other
  pub rows : (bank r : ℕ) → bank < banks_of plan → r < bank_rows plan → InPhases first second last (Wl bank r) false (is_addressed plan c bank && nat_eq r (row_of plan c.addr)) (is_addressed plan c bank && nat_eq r (row_of plan c.addr))
  pub sen : InPhases first second last (Control Sen) false false (not c.csb && c.web)
  -- the sense enable of each bank
  pub sens : (bank : ℕ) → bank < banks_of plan → InPhases first second last (sen_at plan.bank_bits bank) false false (is_addressed plan c bank && c.web)

-- and of writing
pub record CycleFacts (plan : Organization) (c : MemoryCommand) (first second last : Net → Bool) : Type 0 where
  pub select : SelectFacts plan c first second last
  pub wen : InPhases first second last (Control Wen) false (not c.csb && not c.web) (not c.csb && not c.web)
  -- the write enables of each bank
  pub wens : (bank i : ℕ) → bank < banks_of plan → i < plan.word_size → InPhases first second last (enable_at plan.bank_bits plan.masks bank (mask_of plan.masks plan.write_size i)) false
      (is_written plan c bank i) (is_written plan c bank i)
  -- a bank that isn't addressed has no word line and no enable on
  pub idle : (bank : ℕ) → bank < banks_of plan → (bank ≡ bank_of plan c.addr → ⊥)
      → ((r : ℕ) → r < bank_rows plan → InPhases first second last (Wl bank r) false false false)
      × (((j : ℕ) → j < enable_count plan.masks → InPhases first second last (enable_at plan.bank_bits plan.masks bank j) false false false)
      × InPhases first second last (sen_at plan.bank_bits bank) false false false)

-- each command of a written memory leaves flip-flops that have seen the clock low, and its nets say so
abbrev pub CommandsObey : Type 0
CommandsObey = (plan : Organization) (s : State) (c : MemoryCommand) (v : Net → Bool) (end : State) → IsBuildable plan → IsWritten plan → IsStartState (circuit plan) s → c.addr < num_words plan
    → (run : IsCycle (circuit plan) s c v end) → IsStartState (circuit plan) end × CycleFacts plan c run.first run.second v

-- the nets say so at each command of a run
abbrev pub EachObeys : (plan : Organization) (s : State) (cs : List MemoryCommand) (vs : List (Net → Bool)) (end : State) → IsCommandRun (circuit plan) s cs vs end → Type 0
EachObeys plan s [] vs end run = Unit {0}
EachObeys plan s (c ∷ cs) [] end run = Unit {0}
EachObeys plan s (c ∷ cs) (v ∷ vs) end run = CycleFacts plan c run.1.first run.1.second v × EachObeys plan run.0 cs vs end run.2

-- as they do in a written memory
abbrev pub RunsObey : Type 0
RunsObey = (plan : Organization) (s : State) (cs : List MemoryCommand) (vs : List (Net → Bool)) (end : State) → IsBuildable plan → IsWritten plan → IsStartState (circuit plan) s → AreInRange plan cs
    → (run : IsCommandRun (circuit plan) s cs vs end) → EachObeys plan s cs vs end run

-- row and column choice of an address
abbrev pub AddressesSplit : Type 0
AddressesSplit = (m x : ℕ) → (high_bits m x ≡ x / power_of_two m) × (low_bits m x ≡ x % power_of_two m)

-- each instance has as many nets as its role has ports
abbrev pub PortsFit : Type 0
PortsFit = (plan : Organization) (leaf : LeafInstance) → IsBuildable plan → HasLeafInstance plan leaf → length (ports plan leaf) ≡ length (role_ports (role plan leaf))
