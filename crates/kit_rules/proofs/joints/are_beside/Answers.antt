use Rattle.std.proofs.Common.{refl}
use Rattle.or_geom.proofs.ListLaws.{contained_at}
use Rattle.leaf_shapes.proofs.PlaceLaws.{each_more, each_contained}
use Rattle.kit_rules.specs.Joints.{IsBeside}
use Rattle.kit_rules.proofs.joints.are_beside.Goals as goal

pub returns-then-not-is_beside : goal.returns-then-not-is_beside
returns-then-not-is_beside c = (
  (λ no. absurd cc),
  (λ all. let yes = c.if-not-is_beside.ensures.1 (all c.layer_at.result (contained_at c.args.layers.now c.loop-place.place c.layer_at.result c.layer_at.ensures)) in absurd cc),
)

pub loop-place-preserved : goal.loop-place-preserved
loop-place-preserved c =
    each_more (IsBeside c.args.wire.now c.args.index) c.args.layers.now c.loop-place.place c.layer_at.result c.layer_at.ensures (c.if-not-is_beside.ensures.0 refl) c.loop-place.invariant

pub returns : goal.returns
returns c = (
  (λ _. each_contained (IsBeside c.args.wire.now c.args.index) c.args.layers.now c.loop-place.place c.loop-place-test.false c.loop-place.invariant),
  (λ _. refl),
)
