-- Commands of a read-only memory, and what it answers.
use Rattle.std.specs.Prelude.{◌≡◌, ℕ, ◌<◌, List, [], ◌∷◌, length, Bool, true, false, slice_index, if◌then◌else◌}
use Rattle.sram_netlist.specs.Organization.{Organization, IsBuildable, power_of_two}
use Rattle.sram_netlist.specs.Nets.{Net, Dout}
use Rattle.sram_netlist.specs.LeafNetlist.{fixed_netlist}
use Rattle.memory_laws.specs.Phase.{Circuit}
use Rattle.memory_laws.specs.NetlistCircuit.{netlist_circuit}
use Rattle.memory_laws.specs.Run.{MemoryCommand, num_words}
use Rattle.memory_laws.specs.NumberArray.{number}

-- an organisation of a read-only memory, which has one bank and no masks
pub record IsRomPlan (plan : Organization) : Type 0 where
  pub buildable : IsBuildable plan
  pub read_only : plan.write_size ≡ 0
  pub one_bank : plan.bank_bits ≡ 0
  pub whole : plan.masks ≡ 0

-- the circuit of the memory that holds these words
abbrev pub rom_circuit : Organization → List ℕ → Circuit
rom_circuit plan words = netlist_circuit (fixed_netlist plan words)

-- csb is active low
pub record RomCommand : Type 0 where
  pub csb : Bool
  pub addr : ℕ

-- the command of a read-write memory that reads there
abbrev pub read_command : RomCommand → MemoryCommand
read_command c = record { csb = c.csb; web = true; wmask = λ m. false; addr = c.addr; din = λ i. false }

-- a word for each address, each of word_size bits
pub record AreWordsFor (plan : Organization) (words : List ℕ) : Type 0 where
  pub count : length words ≡ num_words plan
  pub fit : (a : ℕ) → a < num_words plan → slice_index words a < power_of_two plan.word_size

abbrev pub HaveRomAddresses : Organization → List RomCommand → Type 0
HaveRomAddresses plan [] = Unit {0}
HaveRomAddresses plan (c ∷ cs) = (c.addr < num_words plan) × HaveRomAddresses plan cs

-- the words at the addresses of the commands that read
abbrev pub rom_answers : List ℕ → List RomCommand → List ℕ
rom_answers words [] = []
rom_answers words (c ∷ cs) = if c.csb then rom_answers words cs else slice_index words c.addr ∷ rom_answers words cs

-- the answers of a run: at each read the number on the data outputs
abbrev pub rom_run_answers : Organization → List RomCommand → List (Net → Bool) → List ℕ
rom_run_answers plan (c ∷ cs) (v ∷ vs) = if c.csb then rom_run_answers plan cs vs else number (λ i. v (Dout i)) plan.word_size ∷ rom_run_answers plan cs vs
rom_run_answers plan cs vs = []
