use Rattle.std.proofs.Common.{refl}
use Rattle.or_geom.proofs.GatheringLaws.{among_found, among_goes_on}
use Rattle.tech_rules.specs.Touch.{Joins}
use Rattle.leaf_contacts.proofs.touching.is_cut_to.Goals as goal

pub returns-then-joins : goal.returns-then-joins
returns-then-joins c = (
  λ _. among_found (Joins c.args.cut c.args.other) c.args.connections.now c.loop-connect.connect-index c.connect-item.result c.loop-connect-test.true c.connect-item.is (c.if-joins.ensures.0 refl),
  λ _. refl,
)

pub loop-connect-preserved : goal.loop-connect-preserved
loop-connect-preserved c =
    among_goes_on (Joins c.args.cut c.args.other) c.args.connections.now c.loop-connect.connect-index c.connect-item.result c.loop-connect-test.true c.connect-item.is (λ h. let t = c.if-joins.ensures.1 h in absurd cc) c.loop-connect.invariant
