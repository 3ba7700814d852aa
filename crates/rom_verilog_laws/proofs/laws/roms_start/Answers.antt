use Rattle.rom_verilog_laws.proofs.StartLaws.{roms_start}
use Rattle.rom_verilog_laws.proofs.laws.roms_start.Goals as goal

pub returns : goal.returns
returns c = roms_start
