use Rattle.std.proofs.Common.{refl}
use Rattle.cell_hierarchy.proofs.FarLaws.{one_far, none_far}
use Rattle.cell_hierarchy.proofs.far.far_at.Goals as goal

pub returns-then-is_short : goal.returns-then-is_short
returns-then-is_short c = none_far c.args.p (c.if-is_short.ensures.0 refl)

pub returns : goal.returns
returns c = one_far c.args.p (λ short. let yes = c.if-is_short.ensures.1 short in absurd cc)
