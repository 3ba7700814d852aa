use Rattle.sram_netlist.proofs.TextLaws.{texts_tell}
use Rattle.sram_netlist.proofs.laws.texts_tell.Goals as goal

pub returns : goal.returns
returns c = texts_tell
