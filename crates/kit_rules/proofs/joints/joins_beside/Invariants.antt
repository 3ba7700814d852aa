use Rattle.std.proofs.Common.{◌<◌, ℕ}
use Rattle.kit_rules.specs.Joints.{IsBesideAt}
use Rattle.kit_rules.proofs.joints.joins_beside.Given as goal

abbrev pub invariant-loop-index : goal.invariant-loop-index
invariant-loop-index l = (index : ℕ) → index < l.index → IsBesideAt l.wire l.connect index
