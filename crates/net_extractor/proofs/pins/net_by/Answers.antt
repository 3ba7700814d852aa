use Rattle.std.proofs.Common.{refl, arith}
use Rattle.net_extractor.proofs.MixedLaws.{net_here}
use Rattle.net_extractor.proofs.pins.net_by.Goals as goal

pub returns : goal.returns
returns c =
    net_here c.args.labels.now c.args.mixed.now c.args.pin.now c.args.place c.in-Some.layout _ c.requires.mixed c.requires.first (omega (arith, c.if-labels-place.false)) (c.if-not-is_label_of.ensures.0 refl) c.in-Some.is
