use Rattle.std.proofs.Common.{arith}
use Rattle.kit_rules.proofs.rules.is_enclosed.Goals as goal

pub returns : goal.returns
returns c =
    let over = c.loop-index-test.false in (
      (λ t. absurd cc),
      (λ h. let below = h.1.below in absurd (c.loop-index.invariant h.0 (omega (arith, over, below)) h.1)),
    )
