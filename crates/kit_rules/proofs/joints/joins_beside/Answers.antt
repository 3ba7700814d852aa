use Rattle.std.proofs.Common.{refl, arith}
use Rattle.kit_rules.specs.Joints.{IsBesideAt}
use Rattle.kit_rules.proofs.PlaceLaws.{below_one_more}
use Rattle.kit_rules.proofs.joints.joins_beside.Goals as goal

pub returns-then-not-is_beside_at : goal.returns-then-not-is_beside_at
returns-then-not-is_beside_at c = (
  (λ t. absurd cc),
  (λ all. let t = c.if-not-is_beside_at.ensures.1 (all c.loop-index.index c.loop-index-test.true) in absurd cc),
)

pub loop-index-preserved : goal.loop-index-preserved
loop-index-preserved c = below_one_more (IsBesideAt c.args.wire.now c.args.connect.now) c.loop-index.index c.loop-index.invariant (c.if-not-is_beside_at.ensures.0 refl)

pub returns : goal.returns
returns c =
    let over = c.loop-index-test.false in (
      (λ _ index below. c.loop-index.invariant index (omega (arith, over, below))),
      (λ _. refl),
    )
