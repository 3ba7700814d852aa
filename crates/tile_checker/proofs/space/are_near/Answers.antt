use Rattle.std.proofs.Common.{arith, refl, ◌≤ℤ◌, ◌<ℤ◌}
use Rattle.std.proofs.lemmas.Int.{ints}
use Rattle.tile_checker.proofs.SpaceLaws.{at_most, below_itself}
use Rattle.tile_checker.proofs.space.are_near.Goals as goal

pub returns-then-dist2-square : goal.returns-then-dist2-square
returns-then-dist2-square c =
    let near : c.dist2.result <ℤ c.square.result = omega (arith, ints) in (
      λ yes. record {
        apart = λ j. let t = c.if-joined.ensures.1 j in absurd cc;
        distance = c.dist2.result;
        is = c.dist2.ensures;
        near = rw c.square.ensures at near;
      },
      λ n. refl,
    )

pub returns : goal.returns
returns c =
    let far : c.square.result ≤ℤ c.dist2.result = omega (arith, ints) in
    let is = c.square.ensures in
    (λ f. absurd cc, λ b. absurd (let m = at_most c.args.a c.args.b c.dist2.result b.distance c.dist2.ensures b.is in let n = b.near in below_itself _ _ _ far m (rw is n)))
