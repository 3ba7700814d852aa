-- An instance adds what is below it, and itself where it is an instance of a leaf.
use Rattle.std.proofs.Common.{inl, inr, ◌<◌, ℕ, List, length, take, sym, ap, subst, ◌∙◌}
use Rattle.spice_netlist.specs.declared.resolved.ResolvedInstance.{ResolvedInstance}
use Rattle.spice_netlist.specs.Walk.{visits_by, walk_at}
use Rattle.spice_netlist.specs.Sizes.{walk_size, both}
use Rattle.spice_netlist.proofs.ListLaws.{front_at}
use Rattle.spice_netlist.proofs.ReferenceLaws.{listed}
use Rattle.spice_netlist.proofs.SizeLaws.{size_absent, size_next}
use Rattle.spice_netlist.proofs.size.walk_size.Goals as goal
use Rattle.spice_netlist.proofs.size.walk_size.Goals.{then-subckt_at, else-subckt_at}

pub loop-instance-preserved-in_default : goal.loop-instance-preserved-in_default
loop-instance-preserved-in_default c =
    c.loop-instance.invariant
    ∙ sym (size_absent c.args.subckts.now (walk_at c.args.subckts.now) c.instance-item.result (take c.loop-instance.instance-index c.args.instances.now) c.in_default.is)
    ∙ ap (λ (ps : List ResolvedInstance). walk_size c.args.subckts.now (visits_by c.args.subckts.now (walk_at c.args.subckts.now) ps)) (sym (front_at c.args.instances.now c.loop-instance.instance-index c.instance-item.result c.loop-instance-test.true c.instance-item.is))

pub subckt_at-requires : goal.subckt_at-requires
subckt_at-requires c =
    subst (λ (n : ℕ). c.in-Some.index < n) c.requires.sized
    (c.requires.known c.in-Some.index (listed c.args.instances.now c.loop-instance.instance-index c.instance-item.result c.in-Some.index c.loop-instance-test.true c.instance-item.is c.in-Some.is)).within

pub entry-requires : goal.entry-requires
entry-requires c = (c.requires.known c.in-Some.index (listed c.args.instances.now c.loop-instance.instance-index c.instance-item.result c.in-Some.index c.loop-instance-test.true c.instance-item.is c.in-Some.is)).within

pub loop-instance-preserved : goal.loop-instance-preserved
loop-instance-preserved c =
    let known = c.requires.known c.in-Some.index (listed c.args.instances.now c.loop-instance.instance-index c.instance-item.result c.in-Some.index c.loop-instance-test.true c.instance-item.is c.in-Some.is) in
    size_next c.args.subckts.now (walk_at c.args.subckts.now) c.instance-item.result (take c.loop-instance.instance-index c.args.instances.now) c.in-Some.index c.loop-instance.size c.if-subckt_at.size c.entry.result.now c.both-size-in-loop-instance.result
    c.in-Some.is c.loop-instance.invariant (sym (c.entry.ensures c.entry.result.now) ∙ known.is c.entry.result.now) c.both-size-in-loop-instance.ensures
    (elim c.if-subckt_at.branch [
      | then-subckt_at w ↦ inl (sym c.subckt_at.ensures.leaf ∙ w.if-subckt_at.true, w.size-is ∙ w.both-size.ensures ∙ ap (λ (nodes : List (List ℕ)). both c.loop-instance.size (record { leaves = 1; pins = length nodes })) w.as_slice.ensures)
      | else-subckt_at w ↦ inr (sym c.subckt_at.ensures.leaf ∙ w.if-subckt_at.false, w.size-is)
    ])
    ∙ ap (λ (ps : List ResolvedInstance). walk_size c.args.subckts.now (visits_by c.args.subckts.now (walk_at c.args.subckts.now) ps)) (sym (front_at c.args.instances.now c.loop-instance.instance-index c.instance-item.result c.loop-instance-test.true c.instance-item.is))
