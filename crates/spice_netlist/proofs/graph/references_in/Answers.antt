-- An instance whose subcircuit isn't there is passed over.
use Rattle.std.proofs.Common.{ℕ, List, [], ◌∷◌, ◌++◌, sym, ap, ◌∙◌}
use Rattle.spice_netlist.proofs.ReferenceLaws.{references_skip, references_add}
use Rattle.spice_netlist.proofs.graph.references_in.Goals as goal

pub loop-instance-preserved-in_default : goal.loop-instance-preserved-in_default
loop-instance-preserved-in_default c = c.loop-instance.invariant ∙ sym (references_skip c.args.instances.now c.loop-instance.instance-index c.instance-item.result c.loop-instance-test.true c.instance-item.is c.in_default.is)

pub loop-instance-preserved : goal.loop-instance-preserved
loop-instance-preserved c =
    c.in_ok-push.ensures.items
    ∙ ap (λ (l : List ℕ). l ++ c.in-Some.index ∷ []) c.loop-instance.invariant
    ∙ sym (references_add c.args.instances.now c.loop-instance.instance-index c.instance-item.result c.in-Some.index c.loop-instance-test.true c.instance-item.is c.in-Some.is)
