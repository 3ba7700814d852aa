-- What is proved of the Verilog of memories.
use Rattle.std.specs.Prelude.{◌≡◌, ◌⊎◌, ℕ, ◌<◌, List, true, false, ◌&&◌, not, nat_eq, if◌then◌else◌, None, Some, IsTrue, codes}
use Rattle.sram_netlist.specs.Organization.{Organization, IsWritten}
use Rattle.sram_netlist.specs.Numbers.{ArePlanNumbers}
use Rattle.sram_plan.specs.declared.numbers.Plan.{Plan}
use Rattle.sram_plan.specs.Config.{is_output_name}
use Rattle.sram_plan.specs.PlanNumbers.{numbers_of, organization}
use Rattle.memory_laws.specs.Run.{MemoryCommand, num_words, is_masked_in}
use Rattle.macro_views.specs.Verilog.{verilog_text}
use Rattle.verilog_modules.specs.Tree.{Falling}
use Rattle.verilog_modules.specs.Names.{SpellsModule}
use Rattle.verilog_modules.specs.Legal.{IsLegal}
use Rattle.verilog_modules.specs.Meaning.{ModuleState, Bit, InputBits, IsEdge}
use Rattle.verilog_laws.specs.Memory.{memory_module}
use Rattle.verilog_laws.specs.Runs.{IsModuleCycle}
use Rattle.verilog_laws.specs.Behaviour.{AnswersAsWords, AnswersAsNetlist, HasModuleRuns, SpellsMemory}

-- a memory's text spells its module
abbrev pub TextsSpell : Type 0
TextsSpell = (plan : Plan) (name : List ℕ) → ArePlanNumbers (numbers_of plan) → IsTrue (is_output_name name) → SpellsModule (memory_module plan name) (verilog_text plan name)

-- which is legal
abbrev pub MemoriesAreLegal : Type 0
MemoriesAreLegal = (plan : Plan) (name : List ℕ) → ArePlanNumbers (numbers_of plan) → IsWritten (organization plan) → IsLegal (memory_module plan name)

-- has runs
abbrev pub MemoriesRun : Type 0
MemoriesRun = (plan : Plan) (name : List ℕ) → HasModuleRuns (memory_module plan name)

-- and answers as the array of words
abbrev pub MemoriesAnswer : Type 0
MemoriesAnswer = (plan : Plan) (name : List ℕ) → ArePlanNumbers (numbers_of plan) → IsWritten (organization plan) → AnswersAsWords (organization plan) (memory_module plan name)

-- and as the netlist
abbrev pub MemoriesAgree : Type 0
MemoriesAgree = (plan : Plan) (name : List ℕ) → ArePlanNumbers (numbers_of plan) → IsWritten (organization plan) → AnswersAsNetlist (organization plan) (memory_module plan name)

-- So a memory's text spells a memory, and nothing else.
abbrev pub TextsAreMemories : Type 0
TextsAreMemories = (plan : Plan) (name : List ℕ) → ArePlanNumbers (numbers_of plan) → IsWritten (organization plan) → IsTrue (is_output_name name) → SpellsMemory (organization plan) (verilog_text plan name)

-- a memory's bits after a command, where a bit may be unknown
abbrev pub bits_after : Organization → MemoryCommand → (ℕ → ℕ → Bit) → ℕ → ℕ → Bit
bits_after plan c mem a i = if not c.csb && (not c.web && (nat_eq a c.addr && is_masked_in plan.masks plan.write_size c i)) then Some (c.din i) else mem a i

-- one command, from any state
pub record StepsCommand (plan : Organization) (c : MemoryCommand) (before after : ModuleState) : Type 0 where
  pub read : c.csb ≡ false → c.web ≡ true → (i : ℕ) → i < plan.word_size → after.regs (codes "dout0") i ≡ before.mems (codes "mem") c.addr i
  pub kept : (c.csb ≡ true) ⊎ (c.web ≡ false) → after.regs (codes "dout0") ≡ before.regs (codes "dout0")
  pub mem : (a i : ℕ) → i < plan.word_size → after.mems (codes "mem") a i ≡ bits_after plan c (before.mems (codes "mem")) a i

-- From any state at all, also one of which nothing is known, each command reads or writes the bits that are there.
abbrev pub CommandsStep : Type 0
CommandsStep = (plan : Plan) (name : List ℕ) (s : ModuleState) (c : MemoryCommand) (end : ModuleState)
    → ArePlanNumbers (numbers_of plan) → IsWritten (organization plan) → c.addr < num_words (organization plan) → IsModuleCycle (memory_module plan name) s c end
    → StepsCommand (organization plan) c s end

-- A clock that comes from x to 0 falls: before the first command, while csb0_reg isn't known, this changes nothing.
abbrev pub PowerUpKeeps : Type 0
PowerUpKeeps = (plan : Plan) (name : List ℕ) (inputs : InputBits) (s end : ModuleState) → s.regs (codes "csb0_reg") 0 ≡ None → IsEdge (memory_module plan name) Falling (codes "clk0") inputs s end → end ≡ s
