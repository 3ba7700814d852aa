use Rattle.tech_rules.proofs.NameLaws.{again, no_more, all_seen}
use Rattle.tech_rules.proofs.names.are_different.Goals as goal

pub returns-then-holds : goal.returns-then-holds
returns-then-holds c = again c.args.names.now c.loop-i.i c.index-names-i.result _ c.loop-i-test.true c.index-names-i.is (rw c.as_bytes.ensures at c.if-holds.ensures) c.loop-i.invariant

pub loop-i-preserved : goal.loop-i-preserved
loop-i-preserved c = no_more c.args.names.now c.loop-i.i c.index-names-i.result _ c.loop-i-test.true c.index-names-i.is (rw c.as_bytes.ensures at c.if-holds.ensures) c.loop-i.invariant

pub returns : goal.returns
returns c = all_seen c.args.names.now c.loop-i.i _ c.loop-i-test.false c.loop-i.invariant
