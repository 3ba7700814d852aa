use Rattle.tile_checker.proofs.ReportLaws.{minimum_at}
use Rattle.tile_checker.proofs.FirstFoundLaws.{all_rules, next_rule, no_rules}
use Rattle.tile_checker.proofs.first_share.first_of_tile.Goals as goal

pub loop-number-init : goal.loop-number-init
loop-number-init c = record { first = no_rules c.args.rules.now c.args.bins.now c.args.tile c.args.kept; seen = c.requires.seen }

pub loop-number-preserved : goal.loop-number-preserved
loop-number-preserved c = record {
  first = next_rule c.args.rules.now c.args.bins.now c.loop-number.number c.index-rules-number.result c.args.tile c.args.kept c.loop-number.least _ c.loop-number-test.true c.index-rules-number.is c.loop-number.invariant.first c.in_ok-least.ensures.first;
  seen = c.first_of_rule.ensures.seen;
}

pub first_of_rule-requires-clause-minimum : goal.first_of_rule-requires-clause-minimum
first_of_rule-requires-clause-minimum c = minimum_at c.args.rules.now c.loop-number.number c.index-rules-number.result c.requires.minimums c.loop-number-test.true c.index-rules-number.is

pub returns-clause-first : goal.returns-clause-first
returns-clause-first c = all_rules c.args.rules.now c.args.bins.now c.loop-number.number c.args.tile c.args.kept c.loop-number.least c.loop-number-test.false c.loop-number.invariant.first
