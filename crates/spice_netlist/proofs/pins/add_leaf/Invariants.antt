use Rattle.spice_netlist.proofs.LeafLaws.{AreLeafRows}
use Rattle.spice_netlist.proofs.pins.add_leaf.Given as goal

abbrev pub invariant-loop-port : goal.invariant-loop-port
invariant-loop-port l = AreLeafRows l.leaf l.path l.net_path l.nets l.initial.rows l.rows l.port
