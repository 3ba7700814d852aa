-- The name, the ports and the instances are those that are stated.
use Rattle.port_lists.proofs.SubcktLaws.{made_same, from_none}
use Rattle.bitcell_array.proofs.array_subckts.precharge_subckt.Goals as goal

pub returns : goal.returns
returns c = made_same c.subckt_of.result _ _ _ _ _ _ c.subckt_of.ensures c.in_ok-part_name.ensures c.in_ok-ports.ensures (from_none _ _ _ c.in_ok-add_precharges.ensures c.new-instances.ensures.items)
