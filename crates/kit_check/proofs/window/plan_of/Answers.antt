use Rattle.std.proofs.Common.{arith}
use Rattle.kit_check.proofs.WindowLaws.{are_small}
use Rattle.kit_check.proofs.window.plan_of.Goals as goal

pub nonzero_div-masks : goal.nonzero_div-masks
nonzero_div-masks c = (are_small c.args.w.now c.requires).written

pub overflow_mul-result : goal.overflow_mul-result
overflow_mul-result c = let small = are_small c.args.w.now c.requires in let h = small.cells in omega (arith, h)

pub overflow_mul-result-2 : goal.overflow_mul-result-2
overflow_mul-result-2 c = let small = are_small c.args.w.now c.requires in let h = small.words in omega (arith, h)

pub overflow_mul-result-3 : goal.overflow_mul-result-3
overflow_mul-result-3 c = let small = are_small c.args.w.now c.requires in let h = small.columns in omega (arith, h)
