use Rattle.verilog_laws.proofs.TextLaws.{texts_spell}
use Rattle.verilog_laws.proofs.laws.texts_spell.Goals as goal

pub returns : goal.returns
returns c = texts_spell
