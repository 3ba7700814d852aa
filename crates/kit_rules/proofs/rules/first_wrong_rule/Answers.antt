use Rattle.std.proofs.Common.{refl}
use Rattle.leaf_shapes.proofs.PlaceLaws.{each_more}
use Rattle.kit_rules.specs.WireRules.{IsWireRule}
use Rattle.kit_rules.proofs.PlaceLaws.{read_at, first_without, each_has}
use Rattle.kit_rules.proofs.rules.first_wrong_rule.Goals as goal

pub returns-then-not-is_wire_rule : goal.returns-then-not-is_wire_rule
returns-then-not-is_wire_rule c =
    first_without (IsWireRule c.args.wire.now) c.args.rules.now c.loop-index.index c.index-rules-index.result (read_at c.args.rules.now c.loop-index.index c.index-rules-index.result c.loop-index-test.true c.index-rules-index.is)
    (λ h. let yes = c.if-not-is_wire_rule.ensures.1 h in absurd cc) c.loop-index.invariant

pub loop-index-preserved : goal.loop-index-preserved
loop-index-preserved c =
    each_more (IsWireRule c.args.wire.now) c.args.rules.now c.loop-index.index c.index-rules-index.result (read_at c.args.rules.now c.loop-index.index c.index-rules-index.result c.loop-index-test.true c.index-rules-index.is)
    (c.if-not-is_wire_rule.ensures.0 refl) c.loop-index.invariant

pub returns : goal.returns
returns c = each_has (IsWireRule c.args.wire.now) c.args.rules.now c.loop-index.index c.loop-index-test.false c.loop-index.invariant
