use Rattle.sram_netlist.proofs.InstanceLists.{lists_agree}
use Rattle.sram_netlist.proofs.laws.lists_agree.Goals as goal

pub returns : goal.returns
returns c = lists_agree
