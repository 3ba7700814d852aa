use Rattle.leaf_shapes.proofs.PlaceLaws.{EachBefore}
use Rattle.kit_rules.specs.WireRules.{IsWireRule}
use Rattle.kit_rules.proofs.rules.first_wrong_rule.Given as goal

abbrev pub invariant-loop-index : goal.invariant-loop-index
invariant-loop-index l = EachBefore (IsWireRule l.wire) l.rules l.index
