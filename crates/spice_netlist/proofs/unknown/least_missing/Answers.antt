-- An instance whose subcircuit is there is passed over, and of another the name is compared.
use Rattle.std.proofs.Common.{List, sym, subst}
use Rattle.std.proofs.lemmas.List.{take_all}
use Rattle.or_geom.proofs.ListLaws.{none_is}
use Rattle.spice_netlist.specs.declared.resolved.ResolvedInstance.{ResolvedInstance}
use Rattle.spice_netlist.specs.Least.{IsLeastOf, IsMissingIn}
use Rattle.spice_netlist.proofs.MissingLaws.{missing_none, missing_skip, missing_add, some_is}
use Rattle.spice_netlist.proofs.unknown.least_missing.Goals as goal

pub loop-instance-init : goal.loop-instance-init
loop-instance-init c = missing_none

pub loop-instance-preserved-then-is_some : goal.loop-instance-preserved-then-is_some
loop-instance-preserved-then-is_some c =
    missing_skip c.args.instances.now c.loop-instance.instance-index c.instance-item.result c.loop-instance.found c.loop-instance-test.true c.instance-item.is (some_is c.instance-item.result.index c.if-is_some.ensures) c.loop-instance.invariant

pub loop-instance-preserved : goal.loop-instance-preserved
loop-instance-preserved c =
    subst (IsLeastOf _) (sym c.in_ok-found.ensures)
    (missing_add c.args.instances.now c.loop-instance.instance-index c.instance-item.result c.loop-instance.found c.loop-instance-test.true c.instance-item.is (none_is c.instance-item.result.index c.if-is_some.ensures) c.loop-instance.invariant)

pub returns : goal.returns
returns c = subst (λ (instances : List ResolvedInstance). IsLeastOf (IsMissingIn instances) c.loop-instance.found) (take_all c.loop-instance.instance-index c.args.instances.now c.loop-instance-test.false) c.loop-instance.invariant
