-- The top stands in the order.
use Rattle.spice_netlist.proofs.FlatLaws.{top_listed}
use Rattle.spice_netlist.proofs.flat.check_ports.Goals as goal

pub bad_path-requires-clause-listed : goal.bad_path-requires-clause-listed
bad_path-requires-clause-listed c = top_listed c.args.subckts.now c.args.order.now c.args.top c.requires.order
