use Rattle.std.proofs.Common.{refl}
use Rattle.tile_checker.specs.Candidates.{AreTrueCandidates}
use Rattle.tile_checker.proofs.CandidateLaws.{kept_are}
use Rattle.tile_checker.proofs.candidates.kept_over.Goals as goal

pub returns-in-Some-list : goal.returns-in-Some-list
returns-in-Some-list c =
    let kept : AreTrueCandidates c.args._bins.now c.in-Some.candidates = rw c.in-Some.is at c.requires in
    kept_are c.args._bins.now c.in-Some.candidates.layer c.args.layer c.in-Some.candidates.asked c.args.area c.in-Some-list.list.items _ c.if-candidates-layer.false c.deref.ensures.value (c.if-not-holds.ensures.0 refl)
    (rw c.in-Some-list.is at kept.listed)
