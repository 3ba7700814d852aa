use Rattle.tile_checker.proofs.ReportLaws.{minimum_at}
use Rattle.tile_checker.proofs.FirstLaws.{rule_goes_on, rules_end}
use Rattle.tile_checker.proofs.share.add_of_tile.Goals as goal

pub loop-number-preserved : goal.loop-number-preserved
loop-number-preserved c = record {
  adds = rule_goes_on c.args.rules.now c.args.bins.now c.loop-number.number c.index-rules-number.result c.args.tile _ _ _ c.loop-number-test.true c.index-rules-number.is c.loop-number.invariant.adds c.in_ok-add_of_rule.ensures.adds;
  seen = c.add_of_rule.ensures.seen;
}

pub add_of_rule-requires-clause-minimum : goal.add_of_rule-requires-clause-minimum
add_of_rule-requires-clause-minimum c = minimum_at c.args.rules.now c.loop-number.number c.index-rules-number.result c.requires.minimums c.loop-number-test.true c.index-rules-number.is

pub returns-clause-adds : goal.returns-clause-adds
returns-clause-adds c = rules_end c.args.rules.now c.args.bins.now c.loop-number.number c.args.tile _ _ c.loop-number-test.false c.loop-number.invariant.adds
