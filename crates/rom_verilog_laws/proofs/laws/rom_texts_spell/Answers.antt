use Rattle.rom_verilog_laws.proofs.TextLaws.{rom_texts_spell}
use Rattle.rom_verilog_laws.proofs.laws.rom_texts_spell.Goals as goal

pub returns : goal.returns
returns c = rom_texts_spell
