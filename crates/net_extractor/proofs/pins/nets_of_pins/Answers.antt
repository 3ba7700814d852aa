use Rattle.std.proofs.Common.{map, refl}
use Rattle.std.proofs.lemmas.Option.{slice_get_read}
use Rattle.net_extractor.specs.PlainNets.{plain_net}
use Rattle.net_extractor.proofs.PinLaws.{pins_more, pins_lack, match_none, match_some}
use Rattle.net_extractor.proofs.pins.nets_of_pins.Goals as goal

pub returns-in_default : goal.returns-in_default
returns-in_default c =
    pins_lack (map plain_net c.args.labels.now) c.args.pins.now c.loop-place.nets.items c.loop-place.place c.index-pins-place.result
    (slice_get_read c.args.pins.now _ c.loop-place.place c.index-pins-place.result refl c.loop-place-test.true c.index-pins-place.is)
    (match_none _ _ c.in_ok-found.found c.in_ok-found.ensures c.in_default.not-Some) c.loop-place.invariant

pub loop-place-preserved : goal.loop-place-preserved
loop-place-preserved c =
    let here = slice_get_read c.args.pins.now _ c.loop-place.place c.index-pins-place.result refl c.loop-place-test.true c.index-pins-place.is in
    pins_more (map plain_net c.args.labels.now) c.args.pins.now c.loop-place.nets.items _ c.loop-place.place c.index-pins-place.result c.in-Some.net here
    (match_some _ _ c.in_ok-found.found c.in-Some.net c.in_ok-found.ensures c.in-Some.is) c.in_ok-push.ensures.items c.loop-place.invariant
