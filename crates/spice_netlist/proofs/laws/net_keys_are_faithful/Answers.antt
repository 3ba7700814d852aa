use Rattle.spice_netlist.proofs.NetKeyLaws.{keys_are_faithful}
use Rattle.spice_netlist.proofs.laws.net_keys_are_faithful.Goals as goal

pub returns : goal.returns
returns c = keys_are_faithful
