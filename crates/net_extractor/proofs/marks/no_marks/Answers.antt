use Rattle.std.proofs.Common.{◌≡◌, length, false, replicate, refl, rules}
use Rattle.net_extractor.proofs.MarkLaws.{marks_begin}
use Rattle.net_extractor.proofs.marks.no_marks.Goals as goal

pub returns : goal.returns
returns c = λ above.
    let none : c.in_ok-marks.marks.items ≡ replicate (length c.args.forest.nodes.now) false = search rules in
    marks_begin c.args.forest above _ (length c.args.forest.nodes.now) refl none
