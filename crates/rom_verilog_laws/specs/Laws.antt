-- What is proved of the Verilog of read-only memories.
use Rattle.std.specs.Prelude.{ℕ, List, IsTrue}
use Rattle.sram_netlist.specs.Numbers.{ArePlanNumbers}
use Rattle.sram_plan.specs.declared.numbers.Plan.{Plan}
use Rattle.sram_plan.specs.Config.{is_output_name}
use Rattle.sram_plan.specs.PlanNumbers.{numbers_of, organization}
use Rattle.rom_laws.specs.RomRun.{IsRomPlan, AreWordsFor}
use Rattle.rom_data.specs.RomVerilog.{rom_text}
use Rattle.verilog_modules.specs.Names.{SpellsModule}
use Rattle.rom_verilog_laws.specs.Rom.{rom_module}
use Rattle.rom_verilog_laws.specs.Behaviour.{StartsWith, SpellsRom}

-- a read-only memory's text spells its module
abbrev pub RomTextsSpell : Type 0
RomTextsSpell = (plan : Plan) (name words : List ℕ) → ArePlanNumbers (numbers_of plan) → IsTrue (is_output_name name) → SpellsModule (rom_module plan name words) (rom_text plan name words)

-- which starts with its words
abbrev pub RomsStart : Type 0
RomsStart = (plan : Plan) (name words : List ℕ) → ArePlanNumbers (numbers_of plan) → AreWordsFor (organization plan) words → StartsWith (organization plan) words (rom_module plan name words)

-- So the text spells a read-only memory of the words, and nothing else.
abbrev pub RomTextsAreMemories : Type 0
RomTextsAreMemories = (plan : Plan) (name words : List ℕ) → ArePlanNumbers (numbers_of plan) → IsRomPlan (organization plan) → AreWordsFor (organization plan) words → IsTrue (is_output_name name)
    → SpellsRom (organization plan) words (rom_text plan name words)
