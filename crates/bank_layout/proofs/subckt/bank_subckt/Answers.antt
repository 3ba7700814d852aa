-- The name, the ports and the instances are those that are stated.
use Rattle.port_lists.proofs.SubcktLaws.{made_same, from_three}
use Rattle.bank_layout.proofs.subckt.bank_subckt.Goals as goal

pub returns : goal.returns
returns c = made_same c.subckt_of.result _ _ _ _ _ _ c.subckt_of.ensures c.in_ok-part_name.ensures c.in_ok-ports.ensures
    (from_three _ _ _ _ _ _ _ _ _ _ c.new-instances.ensures.items c.in_ok-push.ensures.items c.in_ok-push-2.ensures.items c.in_ok-push-3.ensures.items
    c.in_ok-array_instance.ensures c.in_ok-precharge_instance.ensures c.in_ok-data_instance.ensures)
