-- The Verilog text of a macro, and what it has to do.
use Rattle.std.specs.Prelude.{ℕ, List}
use Rattle.sram_netlist.specs.Organization.{Organization}
use Rattle.macro_views.specs.Verilog.{verilog_text}
use Rattle.port_lists.specs.Held.{Held}
use Rattle.port_lists.specs.Held.Held.{Stored, Fixed}
use Rattle.rom_data.specs.RomVerilog.{rom_text}
use Rattle.rom_verilog_laws.specs.Behaviour.{SpellsRom}
use Rattle.verilog_laws.specs.Behaviour.{SpellsMemory}
use Rattle.sram_plan.specs.declared.numbers.Plan.{Plan}

-- of a memory that is written and read, or of one that holds these words
abbrev pub verilog_of : Plan → Held → List ℕ → List ℕ
verilog_of plan Stored name = verilog_text plan name
verilog_of plan (Fixed words) name = rom_text plan name words

-- Whichever module the text spells answers as it has to, and as the reference netlist: as an array of words, or each read with one of these words.
abbrev pub SpellsHeld : Organization → Held → List ℕ → Type 0
SpellsHeld plan Stored text = SpellsMemory plan text
SpellsHeld plan (Fixed words) text = SpellsRom plan words text
