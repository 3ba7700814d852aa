use Rattle.std.proofs.Common.{refl}
use Rattle.net_extractor.specs.PlainNets.{plain_net}
use Rattle.net_extractor.specs.PinNets.{IsElsewhere}
use Rattle.net_extractor.proofs.MappedLaws.{found_mapped, none_mapped}
use Rattle.net_extractor.proofs.pins.is_elsewhere.Goals as goal

pub returns-then-is_label_of : goal.returns-then-is_label_of
returns-then-is_label_of c = (
  λ _. found_mapped (IsElsewhere c.args.pin.now c.args.net) plain_net c.args.labels.now c.loop-label.label-index _ c.loop-label-test.true
      (record { of = c.if-is_label_of.ensures.0 refl; other = c.in-Some.other; on = c.in-Some.is; differ = c.if-other-net.false }),
  λ _. refl,
)

pub returns : goal.returns
returns c = (
  λ yes. absurd cc,
  λ some. absurd (none_mapped (IsElsewhere c.args.pin.now c.args.net) plain_net c.args.labels.now c.loop-label.label-index c.loop-label-test.false c.loop-label.invariant some),
)
