use Rattle.spice_netlist.proofs.WholeLaws.{whole}
use Rattle.spice_netlist.proofs.laws.walks_are_whole.Goals as goal

pub returns : goal.returns
returns c = whole c.paths_are_short.ensures.acyclic
