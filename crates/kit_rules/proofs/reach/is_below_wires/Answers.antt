use Rattle.std.proofs.Common.{arith}
use Rattle.std.proofs.lemmas.Int.{ints}
use Rattle.kit_rules.proofs.reach.is_below_wires.Goals as goal

pub returns : goal.returns
returns c =
    let a = c.requires.reach.above in
    let b = c.requires.reach.below in
    let is = c.space_and_pitch.ensures.is in
    let d = c.space_and_pitch.ensures.near.above in
    let e = c.space_and_pitch.ensures.near.below in (
      (λ t. let h = c.is_at_most.ensures.0 t in omega (arith, ints, h, is, a, b, d, e)),
      (λ h. c.is_at_most.ensures.1 (omega (arith, ints, h, is, a, b, d, e))),
    )
