use Rattle.std.proofs.Common.{map, arith}
use Rattle.std.proofs.lemmas.List.{length-map}
use Rattle.cell_hierarchy.specs.Plain.{plain_label}
use Rattle.leaf_shapes.specs.Wanted.{GivesNone}
use Rattle.leaf_shapes.proofs.PlaceLaws.{each_more}
use Rattle.leaf_shapes.proofs.CandidateLaws.{plain_at, first_gives, none_give}
use Rattle.leaf_shapes.proofs.candidate.first_candidate.Goals as goal

pub returns-in-Some : goal.returns-in-Some
returns-in-Some c =
    let label = c.label_at-label.result in
    first_gives c.args.wanted c.args.bins.now c.args.pin.now (map plain_label c.args.labels.now) c.loop-index.index (plain_label label) c.in-Some.shape
    (plain_at c.args.labels.now c.loop-index.index label c.label_at-label.ensures) c.in-Some.ensures c.loop-index.invariant

pub loop-index-preserved : goal.loop-index-preserved
loop-index-preserved c =
    let label = c.label_at-label.result in
    each_more (GivesNone c.args.wanted c.args.bins.now c.args.pin.now) (map plain_label c.args.labels.now) c.loop-index.index (plain_label label)
    (plain_at c.args.labels.now c.loop-index.index label c.label_at-label.ensures) c.in_default.ensures c.loop-index.invariant

pub returns : goal.returns
returns c =
    let same = length-map c.args.labels.now plain_label in
    let done = c.loop-index-test.false in
    none_give c.args.wanted c.args.bins.now c.args.pin.now (map plain_label c.args.labels.now) c.loop-index.index (omega (arith, same, done)) c.loop-index.invariant
