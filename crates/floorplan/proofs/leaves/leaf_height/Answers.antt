-- A side is a number of nanometres.
use Rattle.std.proofs.Common.{ℤ, T, Fits, nat_abs, w32, sym, subst, arith}
use lib.Signed.{non_neg}
use Rattle.floorplan.proofs.SideLaws.{height_is, side_read, side_size, side_few, side_some}
use Rattle.floorplan.proofs.leaves.leaf_height.Goals as goal

pub overflow_cast-result : goal.overflow_cast-result
overflow_cast-result c =
    let side = height_is c.args.kit.now c.requires c.args.role c.leaf_of.result.now c.leaf_of.ensures.is in
    let few = side.few in
    subst (λ (z : ℤ). T (non_neg z) × Fits w32 (nat_abs z)) (sym (side_read _ _ side)) (tt, omega (arith, few))

pub returns-clause-is : goal.returns-clause-is
returns-clause-is c = side_size _ _ (height_is c.args.kit.now c.requires c.args.role c.leaf_of.result.now c.leaf_of.ensures.is)

pub returns-clause-few : goal.returns-clause-few
returns-clause-few c = side_few _ _ (height_is c.args.kit.now c.requires c.args.role c.leaf_of.result.now c.leaf_of.ensures.is)

pub returns-clause-some : goal.returns-clause-some
returns-clause-some c = side_some _ _ (height_is c.args.kit.now c.requires c.args.role c.leaf_of.result.now c.leaf_of.ensures.is)
