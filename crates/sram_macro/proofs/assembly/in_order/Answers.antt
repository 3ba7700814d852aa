-- A sort and a dedup.
use Rattle.or_geom.proofs.ShapeOrderLaws.{same_shape}
use Rattle.sram_macro.proofs.assembly.in_order.Goals as goal

pub returns-clause-rises : goal.returns-clause-rises
returns-clause-rises c = c.sort_distinct.ensures.rises

pub returns-clause-same : goal.returns-clause-same
returns-clause-same c = λ s. (λ h. c.sort_distinct.ensures.adds_none s h, λ h. c.sort_distinct.ensures.keeps same_shape s h)
