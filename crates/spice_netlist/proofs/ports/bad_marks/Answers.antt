-- What is below each node of the order stands before it.
use Rattle.std.proofs.Common.{List, Bool, is_some, length, get_or, sym, ap, subst, ◌∙◌}
use Rattle.spice_netlist.specs.Bad.{has_bad}
use Rattle.spice_netlist.specs.Tables.{HoldsForReferences}
use Rattle.spice_netlist.proofs.BadLaws.{mark_is, bad_opened}
use Rattle.spice_netlist.proofs.TableLaws.{node_inside, filled_more, filled_known, filled_all}
use Rattle.spice_netlist.proofs.WalkLaws.{walk_opens}
use Rattle.spice_netlist.proofs.ports.bad_marks.Goals as goal

pub subckt_at-requires : goal.subckt_at-requires
subckt_at-requires c = node_inside c.args.subckts.now c.args.order.now c.loop-node.node-index c.requires c.loop-node-test.true

pub bad_instance-requires-clause-known : goal.bad_instance-requires-clause-known
bad_instance-requires-clause-known c =
    subst (λ (table : List Bool). HoldsForReferences (has_bad c.args.subckts.now) table c.as_slice-instances.result.now) (sym c.deref.ensures.value)
    (filled_known (has_bad c.args.subckts.now) c.args.subckts.now c.args.order.now c.loop-node.marks.items c.loop-node.node-index c.as_slice-instances.result.now
    c.requires c.loop-node-test.true c.loop-node.invariant (c.as_slice-instances.ensures ∙ c.subckt_at.ensures.instances))

pub loop-node-preserved : goal.loop-node-preserved
loop-node-preserved c =
    filled_more (has_bad c.args.subckts.now) c.args.subckts.now c.args.order.now c.loop-node.marks.items c.loop-node.node-index c.is_some.result
    c.requires c.loop-node-test.true c.loop-node.invariant
    (c.is_some.ensures
    ∙ mark_is c.args.subckts.now c.as_slice-instances.result.now c.bad_instance.result c.bad_instance.ensures
    ∙ ap is_some (bad_opened c.args.subckts.now (get_or c.args.order.now c.loop-node.node-index 0) c.as_slice-instances.result.now (c.as_slice-instances.ensures ∙ c.subckt_at.ensures.instances)
    (walk_opens c.args.subckts.now c.args.order.now c.loop-node.node-index c.requires.bottom_up c.requires.short c.loop-node-test.true)))

pub returns-clause-table : goal.returns-clause-table
returns-clause-table c = filled_all (has_bad c.args.subckts.now) (length c.args.subckts.now) c.args.order.now c.loop-node.marks.items c.loop-node.node-index c.loop-node-test.false c.loop-node.invariant
