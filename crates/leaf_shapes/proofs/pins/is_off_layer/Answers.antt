use Rattle.std.proofs.Common.{map, refl, arith}
use Rattle.std.proofs.lemmas.List.{length-map}
use Rattle.or_geom.proofs.GatheringLaws.{some_has, who_has}
use Rattle.or_geom.proofs.ListLaws.{contained_at}
use Rattle.cell_hierarchy.specs.Plain.{plain_label}
use Rattle.leaf_shapes.specs.Demands.{PinDemand, plain_demand}
use Rattle.leaf_shapes.specs.Pins.{LacksLayer}
use Rattle.leaf_shapes.proofs.PinLaws.{plain_at}
use Rattle.leaf_shapes.proofs.PlaceLaws.{each_more, each_contained}
use Rattle.leaf_shapes.proofs.pins.is_off_layer.Goals as goal

pub returns-then-lacks_layer : goal.returns-then-lacks_layer
returns-then-lacks_layer c =
    let demands = c.args.demands.now in
    let d = c.demand_at.result in
    let at = plain_at demands c.loop-index.index d c.demand_at.ensures in (
      λ _. some_has (LacksLayer c.args.wire.now c.args.bins.now (map plain_label c.args.labels.now) c.args.pin.now) (map plain_demand demands) (plain_demand d)
          (contained_at (map plain_demand demands) c.loop-index.index (plain_demand d) at) (c.if-lacks_layer.ensures.0 refl),
      λ _. refl,
    )

pub loop-index-preserved : goal.loop-index-preserved
loop-index-preserved c =
    let demands = c.args.demands.now in
    let d = c.demand_at.result in
    each_more (λ (e : PinDemand). LacksLayer c.args.wire.now c.args.bins.now (map plain_label c.args.labels.now) c.args.pin.now e → ⊥) (map plain_demand demands) c.loop-index.index (plain_demand d)
    (plain_at demands c.loop-index.index d c.demand_at.ensures) (λ lacks. let yes = c.if-lacks_layer.ensures.1 lacks in absurd cc) c.loop-index.invariant

pub returns : goal.returns
returns c =
    let demands = c.args.demands.now in
    let same = length-map demands plain_demand in
    let done = c.loop-index-test.false in (
      λ yes. absurd cc,
      λ h.
          let w = who_has (LacksLayer c.args.wire.now c.args.bins.now (map plain_label c.args.labels.now) c.args.pin.now) (map plain_demand demands) h in
          absurd (each_contained (λ (e : PinDemand). LacksLayer c.args.wire.now c.args.bins.now (map plain_label c.args.labels.now) c.args.pin.now e → ⊥) (map plain_demand demands) c.loop-index.index (omega (arith, same, done)) c.loop-index.invariant w.0 w.1 w.2),
    )
