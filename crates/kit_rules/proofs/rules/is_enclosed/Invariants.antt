use Rattle.std.proofs.Common.{◌<◌, ℕ}
use Rattle.kit_rules.specs.WireRules.{IsEnclosedCut}
use Rattle.kit_rules.proofs.rules.is_enclosed.Given as goal

abbrev pub invariant-loop-index : goal.invariant-loop-index
invariant-loop-index l = (index : ℕ) → index < l.index → IsEnclosedCut l.wire l.by l.layer index → ⊥
