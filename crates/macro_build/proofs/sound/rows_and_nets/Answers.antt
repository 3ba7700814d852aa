use Rattle.std.proofs.lemmas.Result.{IfOk-weaker}
use Rattle.macro_build.proofs.sound.rows_and_nets.Goals as goal

pub returns-clause-nets : goal.returns-clause-nets
returns-clause-nets g c = IfOk-weaker c.try_join_by.result _ _ (λ found h. h.1) c.try_join_by.ensures.both
