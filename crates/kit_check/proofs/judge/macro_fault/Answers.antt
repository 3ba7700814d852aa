use Rattle.std.proofs.Common.{subst}
use Rattle.cell_hierarchy.specs.FlatLists.{IsFault}
use Rattle.cell_hierarchy.specs.declared.fault.FlattenFault.{FlattenFault}
use Rattle.kit_check.proofs.judge.macro_fault.Goals as goal

pub unreachable-requires-in-Err-Cycle : goal.unreachable-requires-in-Err-Cycle
unreachable-requires-in-Err-Cycle g c =
    let kit = c.args.trial.now.kit.now in
    c.requires.made.acyclic c.in-Err-Cycle.field-0-0 (subst (λ (f : FlattenFault). IsFault kit.tech.layers c.args.lib.now.structs c.args.trial.now.name.now f) c.in-Err-Cycle.field-0-is c.in-Err-Cycle.ensures.fault)
