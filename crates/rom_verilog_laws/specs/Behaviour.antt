-- What the Verilog of a read-only memory has to do: whichever module the text spells answers each read with its word, and so as the netlist.
use Rattle.std.specs.Prelude.{ℕ, List, map, Bool, slice_index}
use Rattle.sram_netlist.specs.Organization.{Organization}
use Rattle.sram_netlist.specs.Nets.{Net}
use Rattle.memory_laws.specs.Phase.{State}
use Rattle.memory_laws.specs.Run.{Words, bit_of, IsStartState, IsCommandRun}
use Rattle.rom_laws.specs.RomRun.{RomCommand, read_command, rom_circuit, HaveRomAddresses}
use Rattle.verilog_modules.specs.Tree.{Module}
use Rattle.verilog_modules.specs.Names.{SpellsModule}
use Rattle.verilog_modules.specs.Meaning.{ModuleState, IsModuleStart}
use Rattle.verilog_modules.specs.Legal.{IsLegal}
use Rattle.verilog_laws.specs.Runs.{IsModuleRun}
use Rattle.verilog_laws.specs.Behaviour.{HasWords, AnswersCommands, SameAnswers, HasModuleRuns}

-- the words by address and bit
abbrev pub fixed_words : List ℕ → Words
fixed_words words a i = bit_of (slice_index words a) i

-- it has a start, and in each the memory has the words
pub record StartsWith (plan : Organization) (words : List ℕ) (m : Module) : Type 0 where
  pub some : (s : ModuleState) × IsModuleStart m s
  pub each : (s : ModuleState) → IsModuleStart m s → HasWords plan s (fixed_words words)

-- each run from a start answers each command that selects the memory with the word at its address
abbrev pub AnswersAsRom : Organization → List ℕ → Module → Type 0
AnswersAsRom plan words m = (s : ModuleState) (cs : List RomCommand) (ends : List ModuleState) (end : ModuleState)
    → IsModuleStart m s → HaveRomAddresses plan cs → IsModuleRun m s (map read_command cs) ends end → AnswersCommands plan (map read_command cs) (fixed_words words) s ends

-- and so it answers each as the netlist does
abbrev pub AnswersAsRomNetlist : Organization → List ℕ → Module → Type 0
AnswersAsRomNetlist plan words m = (n : State) (s : ModuleState) (cs : List RomCommand) (vs : List (Net → Bool)) (last : State) (ends : List ModuleState) (end : ModuleState)
    → IsStartState (rom_circuit plan words) n → IsModuleStart m s → HaveRomAddresses plan cs
    → IsCommandRun (rom_circuit plan words) n (map read_command cs) vs last → IsModuleRun m s (map read_command cs) ends end → SameAnswers plan (map read_command cs) vs ends

-- a module that a tool has to take, and that is a read-only memory of these words
pub record IsRomModule (plan : Organization) (words : List ℕ) (m : Module) : Type 0 where
  pub legal : IsLegal m
  pub starts : StartsWith plan words m
  pub runs : HasModuleRuns m
  pub answers : AnswersAsRom plan words m
  pub agrees : AnswersAsRomNetlist plan words m

-- the text spells a module, and whichever it spells is a read-only memory of these words
pub record SpellsRom (plan : Organization) (words text : List ℕ) : Type 0 where
  pub some : (m : Module) × SpellsModule m text
  pub each : (m : Module) → SpellsModule m text → IsRomModule plan words m
