use Rattle.std.proofs.Common.{[], ◌∷◌, arith}
use Rattle.sram_plan.proofs.NearestLaws.{below_first, below_more}
use Rattle.sram_plan.proofs.choose.nearest.Goals as goal

pub returns : goal.returns
returns c =
    c.nearer.ensures.nearest (1 ∷ 2 ∷ 4 ∷ []) (below_more (2 ∷ 4 ∷ []) 1 8 (omega arith) (below_more (4 ∷ []) 2 8 (omega arith) (below_more [] 4 8 (omega arith) (below_first 8))))
    (c.nearer-nearest-3.ensures.nearest (1 ∷ 2 ∷ []) (below_more (2 ∷ []) 1 4 (omega arith) (below_more [] 2 4 (omega arith) (below_first 4)))
    (c.nearer-nearest-2.ensures.nearest (1 ∷ []) (below_more [] 1 2 (omega arith) (below_first 2))
    (c.nearer-nearest.ensures.nearest [] (below_first 1) (λ w among fits. absurd among))))
