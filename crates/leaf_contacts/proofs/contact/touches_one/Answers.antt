use Rattle.std.proofs.Common.{refl}
use Rattle.or_geom.proofs.GatheringLaws.{among_found, among_goes_on}
use Rattle.leaf_contacts.specs.Marks.{IsTouching}
use Rattle.leaf_contacts.proofs.contact.touches_one.Goals as goal

pub returns-then-touch_or_same : goal.returns-then-touch_or_same
returns-then-touch_or_same c = (
  λ _. among_found (IsTouching c.args.connects.now c.args.other) c.args.moved.now c.loop-shape.shape-index c.shape-item.result c.loop-shape-test.true c.shape-item.is (c.if-touch_or_same.ensures.0 refl),
  λ _. refl,
)

pub loop-shape-preserved : goal.loop-shape-preserved
loop-shape-preserved c =
    among_goes_on (IsTouching c.args.connects.now c.args.other) c.args.moved.now c.loop-shape.shape-index c.shape-item.result c.loop-shape-test.true c.shape-item.is (λ h. let t = c.if-touch_or_same.ensures.1 h in absurd cc) c.loop-shape.invariant
