use Rattle.sram_netlist.proofs.NameLaws.{nets_named}
use Rattle.sram_netlist.proofs.laws.nets_named.Goals as goal

pub returns : goal.returns
returns c = nets_named
