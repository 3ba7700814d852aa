use Rattle.std.proofs.Common.{◌+◌, ◌∙◌, get_or, drop, sym}
use Rattle.std.proofs.lemmas.List.{drop_all}
use Rattle.std.proofs.lemmas.Option.{get_or_from_slice_get, slice_get-get_or}
use Rattle.or_geom.proofs.AddsLaws.{adds_one}
use Rattle.or_geom.proofs.GatheringLaws.{gather_goes_on, gather_ends}
use Rattle.or_geom.proofs.ListLaws.{rest_at}
use Rattle.drawn_devices.specs.Connections.{GivesAlone}
use Rattle.drawn_devices.proofs.connections.add_alone.Goals as goal

pub loop-layer-preserved : goal.loop-layer-preserved
loop-layer-preserved c =
    let layer = get_or c.args.layers.now c.loop-layer.layer-index 0 in
    let same = sym (get_or_from_slice_get c.args.layers.now c.loop-layer.layer-index layer layer (slice_get-get_or c.args.layers.now c.loop-layer.layer-index 0 c.loop-layer-test.true)) in
    gather_goes_on GivesAlone c.args.layers.now _ (drop (c.loop-layer.layer-index + 1) c.args.layers.now) layer _ _ _ (rest_at c.args.layers.now c.loop-layer.layer-index layer c.loop-layer-test.true same) c.loop-layer.invariant
    (adds_one _ _ _ (GivesAlone layer) c.in_ok-push.ensures.items c.in_ok-alone_on.ensures (λ x g. g ∙ sym c.in_ok-alone_on.ensures))

pub returns : goal.returns
returns c = gather_ends _ _ _ _ _ (drop_all c.loop-layer.layer-index c.args.layers.now c.loop-layer-test.false) c.loop-layer.invariant
