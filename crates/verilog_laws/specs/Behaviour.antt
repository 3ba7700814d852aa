-- What the Verilog of a memory has to do: whichever module the text spells answers as the array of words, and so as the netlist.
use Rattle.std.specs.Prelude.{◌≡◌, ◌⊎◌, ℕ, ◌<◌, List, ◌∷◌, Bool, true, false, Some, codes}
use Rattle.sram_netlist.specs.Organization.{Organization}
use Rattle.sram_netlist.specs.Nets.{Net, Dout}
use Rattle.memory_laws.specs.NetlistCircuit.{circuit}
use Rattle.memory_laws.specs.Phase.{State}
use Rattle.memory_laws.specs.Run.{MemoryCommand, Words, num_words, words_after, words_after_all, AreInRange, contents, IsStartState, IsCommandRun}
use Rattle.verilog_modules.specs.Tree.{Module}
use Rattle.verilog_modules.specs.Names.{SpellsModule}
use Rattle.verilog_modules.specs.Meaning.{ModuleState}
use Rattle.verilog_modules.specs.Legal.{IsLegal}
use Rattle.verilog_laws.specs.Runs.{IsModuleRun}

-- the memory has these words
abbrev pub HasWords : Organization → ModuleState → Words → Type 0
HasWords plan s words = (a i : ℕ) → a < num_words plan → i < plan.word_size → s.mems (codes "mem") a i ≡ Some (words a i)

-- after a read dout0 is the word that the array has, after anything else what it was
pub record AnswersCommand (plan : Organization) (c : MemoryCommand) (words : Words) (before after : ModuleState) : Type 0 where
  pub read : c.csb ≡ false → c.web ≡ true → (i : ℕ) → i < plan.word_size → after.regs (codes "dout0") i ≡ Some (words c.addr i)
  pub kept : (c.csb ≡ true) ⊎ (c.web ≡ false) → after.regs (codes "dout0") ≡ before.regs (codes "dout0")

abbrev pub AnswersCommands : Organization → List MemoryCommand → Words → ModuleState → List ModuleState → Type 0
AnswersCommands plan (c ∷ cs) words s (e ∷ ends) = AnswersCommand plan c words s e × AnswersCommands plan cs (words_after plan c words) e ends
AnswersCommands plan cs words s ends = Unit {0}

-- at each read the netlist's outputs and dout0 are the same
abbrev pub SameAnswers : Organization → List MemoryCommand → List (Net → Bool) → List ModuleState → Type 0
SameAnswers plan (c ∷ cs) (v ∷ vs) (e ∷ ends) = (c.csb ≡ false → c.web ≡ true → (i : ℕ) → i < plan.word_size → e.regs (codes "dout0") i ≡ Some (v (Dout i))) × SameAnswers plan cs vs ends
SameAnswers plan cs vs ends = Unit {0}

-- from each state each list of commands has a run
abbrev pub HasModuleRuns : Module → Type 0
HasModuleRuns m = (s : ModuleState) (cs : List MemoryCommand) → (ends : List ModuleState) × (end : ModuleState) × IsModuleRun m s cs ends end

-- each run from a state that has words answers as the array that begins with them, and ends with the array's words
abbrev pub AnswersAsWords : Organization → Module → Type 0
AnswersAsWords plan m = (s : ModuleState) (words : Words) (cs : List MemoryCommand) (ends : List ModuleState) (end : ModuleState)
    → AreInRange plan cs → HasWords plan s words → IsModuleRun m s cs ends end → AnswersCommands plan cs words s ends × HasWords plan end (words_after_all plan cs words)

-- and so, begun with the words of the netlist's state, it answers each read as the netlist does
abbrev pub AnswersAsNetlist : Organization → Module → Type 0
AnswersAsNetlist plan m = (n : State) (s : ModuleState) (cs : List MemoryCommand) (vs : List (Net → Bool)) (last : State) (ends : List ModuleState) (end : ModuleState)
    → AreInRange plan cs → IsStartState (circuit plan) n → HasWords plan s (contents plan n)
    → IsCommandRun (circuit plan) n cs vs last → IsModuleRun m s cs ends end → SameAnswers plan cs vs ends

-- a module that a tool has to take, and that is a memory
pub record IsMemoryModule (plan : Organization) (m : Module) : Type 0 where
  pub legal : IsLegal m
  pub runs : HasModuleRuns m
  pub answers : AnswersAsWords plan m
  pub agrees : AnswersAsNetlist plan m

-- the text spells a module, and whichever it spells is a memory
pub record SpellsMemory (plan : Organization) (text : List ℕ) : Type 0 where
  pub some : (m : Module) × SpellsModule m text
  pub each : (m : Module) → SpellsModule m text → IsMemoryModule plan m
