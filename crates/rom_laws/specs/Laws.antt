-- What is proved of a read-only memory's runs.
use Rattle.std.specs.Prelude.{◌≡◌, ℕ, List, [], ◌∷◌, map, Bool}
use Rattle.sram_netlist.specs.Organization.{Organization}
use Rattle.sram_netlist.specs.Nets.{Net}
use Rattle.memory_laws.specs.Laws.{SelectFacts}
use Rattle.memory_laws.specs.Phase.{State}
use Rattle.memory_laws.specs.Run.{IsStartState, IsCommandRun}
use Rattle.rom_laws.specs.RomRun.{IsRomPlan, RomCommand, read_command, rom_circuit, AreWordsFor, HaveRomAddresses, rom_answers, rom_run_answers}

-- from each state each list of commands has a run
abbrev pub HasRomRuns : Organization → List ℕ → Type 0
HasRomRuns plan words = (s : State) (cs : List RomCommand) → (vs : List (Net → Bool)) × (end : State) × IsCommandRun (rom_circuit plan words) s (map read_command cs) vs end

-- each run from a start answers each command that selects the memory with the word at its address
abbrev pub AnswersWithWords : Organization → List ℕ → Type 0
AnswersWithWords plan words = (s : State) (cs : List RomCommand) (vs : List (Net → Bool)) (end : State) → IsStartState (rom_circuit plan words) s → HaveRomAddresses plan cs
    → IsCommandRun (rom_circuit plan words) s (map read_command cs) vs end → rom_run_answers plan cs vs ≡ rom_answers words cs

-- at each command of a run the nets say, phase by phase, which column choice and word line is on and whether the cells sense
abbrev pub EachSelects : (plan : Organization) (words : List ℕ) (s : State) (cs : List RomCommand) (vs : List (Net → Bool)) (end : State) → IsCommandRun (rom_circuit plan words) s (map read_command cs) vs end → Type 0
EachSelects plan words s [] vs end run = Unit {0}
EachSelects plan words s (c ∷ cs) [] end run = Unit {0}
EachSelects plan words s (c ∷ cs) (v ∷ vs) end run = SelectFacts plan (read_command c) run.1.first run.1.second v × EachSelects plan words run.0 cs vs end run.2

-- they do so in each run from a start
abbrev pub SelectsAddresses : Organization → List ℕ → Type 0
SelectsAddresses plan words = (s : State) (cs : List RomCommand) (vs : List (Net → Bool)) (end : State) → IsStartState (rom_circuit plan words) s → HaveRomAddresses plan cs
    → (run : IsCommandRun (rom_circuit plan words) s (map read_command cs) vs end) → EachSelects plan words s cs vs end run

-- the reference netlist of the organisation and these words is a read-only memory of the words
pub record HoldsWords (plan : Organization) (words : List ℕ) : Type 0 where
  pub runs : HasRomRuns plan words
  pub answers : AnswersWithWords plan words
  pub selects : SelectsAddresses plan words

-- and each is
abbrev pub RomsHoldWords : Type 0
RomsHoldWords = (plan : Organization) (words : List ℕ) → IsRomPlan plan → AreWordsFor plan words → HoldsWords plan words
