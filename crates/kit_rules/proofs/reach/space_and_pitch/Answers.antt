use Rattle.std.proofs.Common.{arith}
use Rattle.std.proofs.lemmas.Int.{ints}
use Rattle.kit_rules.proofs.reach.space_and_pitch.Goals as goal

pub returns-clause-is : goal.returns-clause-is
returns-clause-is c =
    let a = c.requires.width.from in
    let b = c.requires.width.to in
    let d = c.requires.space.from in
    let e = c.requires.space.to in
    omega (arith, ints, a, b, d, e)

pub returns-clause-near : goal.returns-clause-near
returns-clause-near c =
    let a = c.requires.width.from in
    let b = c.requires.width.to in
    let d = c.requires.space.from in
    let e = c.requires.space.to in
    record { above = omega (arith, ints, a, b, d, e); below = omega (arith, ints, a, b, d, e) }
