-- The name, the ports and the instances are those that are stated.
use Rattle.port_lists.proofs.SubcktLaws.{made_same, from_lists}
use Rattle.port_data.proofs.subckt.data_subckt.Goals as goal

pub returns : goal.returns
returns c = made_same c.subckt_of.result _ _ _ _ _ _ c.subckt_of.ensures c.in_ok-part_name.ensures c.in_ok-ports.ensures
    (from_lists _ _ _ _ _ _ _ c.new-instances.ensures.items c.in_ok-add_writes.ensures c.in_ok-add_senses.ensures c.in_ok-add_links.ensures)
