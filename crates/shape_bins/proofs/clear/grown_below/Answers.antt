use Rattle.std.proofs.Common.{arith}
use Rattle.std.proofs.lemmas.Int.{ints, to_z-of_z}
use Rattle.shape_bins.proofs.ClearLaws.{grown_meets}
use Rattle.shape_bins.proofs.clear.grown_below.Goals as goal

pub invariant_of-result : goal.invariant_of-result
invariant_of-result c = record {
  wide = let a = c.in_ok-difference.ensures in let b = c.in_ok-sum.ensures in let w = c.args.rect.wide in let r = c.if-clearance-lt1.false in grind (arith, ints, to_z-of_z, a, b, w, r);
  tall = let a = c.in_ok-difference-2.ensures in let b = c.in_ok-sum-2.ensures in let w = c.args.rect.tall in let r = c.if-clearance-lt1.false in grind (arith, ints, to_z-of_z, a, b, w, r);
}

pub returns : goal.returns
returns c = grown_meets c.args.clearance c.args.rect _
    (let e = c.in_ok-difference.ensures in grind (arith, ints, to_z-of_z, e)) (let e = c.in_ok-difference-2.ensures in grind (arith, ints, to_z-of_z, e))
    (let e = c.in_ok-sum.ensures in grind (arith, ints, to_z-of_z, e)) (let e = c.in_ok-sum-2.ensures in grind (arith, ints, to_z-of_z, e))
