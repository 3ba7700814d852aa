-- A read-only macro as the macro that it is.
use Rattle.sram_macro.specs.declared.assembly.Macro.{Macro}
use Rattle.rom_macro.specs.declared.assembly.RomMacro.{RomMacro}

abbrev pub macro_of : RomMacro → Macro
macro_of made = record { lib = made.lib; deck = made.deck; view = made.view; tracks = made.tracks }
