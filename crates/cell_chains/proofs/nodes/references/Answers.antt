-- One element after another.
use Rattle.std.proofs.Common.{sym}
use Rattle.cell_chains.specs.Numbering.{texts}
use Rattle.cell_chains.proofs.ReferenceLaws.{reading_adds, reading_there}
use Rattle.cell_chains.proofs.nodes.references.Goals as goal

pub unreachable-requires : goal.unreachable-requires
unreachable-requires c =
    c.in_default-node_of.ensures.none
    (c.requires.there c.in-Some-referred.name.now
    (reading_there (texts c.args.names.now) c.args.elements.now c.loop-first.rest.now c.in-Some.others.now c.in-Some.first.now c.loop-first.nodes c.in-Some-referred.name.now c.in-Some.ensures.cases.0 (sym c.in-Some-referred.ensures)
    c.loop-first.invariant))

pub loop-first-preserved : goal.loop-first-preserved
loop-first-preserved c =
    rw c.in_ok-push.ensures.ok
    (reading_adds (texts c.args.names.now) c.args.elements.now c.loop-first.rest.now c.in-Some.others.now c.in-Some.first.now c.loop-first.nodes c.in-Some-referred.name.now c.in-Some-node_of.node c.in-Some.ensures.cases.0
    (sym c.in-Some-referred.ensures) c.in-Some-node_of.ensures.found c.loop-first.invariant)
