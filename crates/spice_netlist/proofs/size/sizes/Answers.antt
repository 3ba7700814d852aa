-- What is below each node of the order stands before it.
use Rattle.std.proofs.Common.{List, length, sym, ap, subst, ◌∙◌}
use Rattle.spice_netlist.specs.declared.resolved.ResolvedInstance.{ResolvedInstance}
use Rattle.spice_netlist.specs.Walk.{visits_by, walk_at}
use Rattle.spice_netlist.specs.Tables.{HoldsForReferences}
use Rattle.spice_netlist.proofs.WalkLaws.{walk_opens}
use Rattle.spice_netlist.proofs.TableLaws.{node_inside, filled_more, filled_known, filled_all}
use Rattle.spice_netlist.specs.declared.size.Size.{Size}
use Rattle.spice_netlist.specs.Sizes.{walk_size}
use Rattle.spice_netlist.proofs.size.sizes.Goals as goal

pub subckt_at-requires : goal.subckt_at-requires
subckt_at-requires c = node_inside c.args.subckts.now c.args.order.now c.loop-node.node-index c.requires c.loop-node-test.true

pub walk_size-requires-clause-known : goal.walk_size-requires-clause-known
walk_size-requires-clause-known c =
    subst (λ (table : List Size). HoldsForReferences (λ index. walk_size c.args.subckts.now (walk_at c.args.subckts.now index)) table c.as_slice.result.now) (sym c.deref.ensures.value)
    (filled_known (λ index. walk_size c.args.subckts.now (walk_at c.args.subckts.now index)) c.args.subckts.now c.args.order.now c.loop-node.sizes.items c.loop-node.node-index c.as_slice.result.now
    c.requires c.loop-node-test.true c.loop-node.invariant (c.as_slice.ensures ∙ c.subckt_at.ensures.instances))

pub loop-node-preserved : goal.loop-node-preserved
loop-node-preserved c =
    filled_more (λ index. walk_size c.args.subckts.now (walk_at c.args.subckts.now index)) c.args.subckts.now c.args.order.now c.loop-node.sizes.items c.loop-node.node-index c.walk_size.result
    c.requires c.loop-node-test.true c.loop-node.invariant
    (c.walk_size.ensures
    ∙ ap (λ (instances : List ResolvedInstance). walk_size c.args.subckts.now (visits_by c.args.subckts.now (walk_at c.args.subckts.now) instances)) (c.as_slice.ensures ∙ c.subckt_at.ensures.instances)
    ∙ sym (ap (walk_size c.args.subckts.now) (walk_opens c.args.subckts.now c.args.order.now c.loop-node.node-index c.requires.bottom_up c.requires.short c.loop-node-test.true)))

pub returns : goal.returns
returns c = filled_all (λ index. walk_size c.args.subckts.now (walk_at c.args.subckts.now index)) (length c.args.subckts.now) c.args.order.now c.loop-node.sizes.items c.loop-node.node-index c.loop-node-test.false c.loop-node.invariant
