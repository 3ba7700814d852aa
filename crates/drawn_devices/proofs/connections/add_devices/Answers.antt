use Rattle.std.proofs.Common.{◌∙◌, sym}
use Rattle.std.proofs.lemmas.List.{drop_all}
use Rattle.or_geom.proofs.AddsLaws.{adds_one}
use Rattle.or_geom.proofs.GatheringLaws.{gather_goes_on, gather_ends}
use Rattle.or_geom.proofs.ListLaws.{rest_at}
use Rattle.drawn_devices.specs.Connections.{GivesDevice}
use Rattle.drawn_devices.proofs.connections.add_devices.Goals as goal

pub loop-device-preserved : goal.loop-device-preserved
loop-device-preserved c =
    gather_goes_on GivesDevice c.args.devices.now _ _ c.device-item.result _ _ _ (rest_at c.args.devices.now c.loop-device.device-index c.device-item.result c.loop-device-test.true c.device-item.is) c.loop-device.invariant
    (adds_one _ _ _ (GivesDevice c.device-item.result) c.in_ok-push.ensures.items c.in_ok-alone_on.ensures (λ x g. g ∙ sym c.in_ok-alone_on.ensures))

pub returns : goal.returns
returns c = gather_ends _ _ _ _ _ (drop_all c.loop-device.device-index c.args.devices.now c.loop-device-test.false) c.loop-device.invariant
