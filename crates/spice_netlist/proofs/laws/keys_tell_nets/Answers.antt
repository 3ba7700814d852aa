use Rattle.spice_netlist.proofs.LowLaws.{keys_tell_nets}
use Rattle.spice_netlist.proofs.laws.keys_tell_nets.Goals as goal

pub returns : goal.returns
returns c = keys_tell_nets
