use Rattle.std.proofs.Common.{refl}
use Rattle.std.proofs.lemmas.Result.{err_from_is_err_and}
use Rattle.sram_plan.specs.Configuration.{names_in}
use Rattle.sram_plan.proofs.read.names_in.Goals as goal

pub returns-in_err-output_name-clause-given : goal.returns-in_err-output_name-clause-given
unfolding names_in
returns-in_err-output_name-clause-given c =
    let p = err_from_is_err_and c.from_residual-in_err-output_name.result c.from_residual-in_err-output_name.ensures.1 in
    rw (p.1, p.2) (λ some. let stop = c.in_err-output_name.ensures.given some in rw (c.in_ok-tech_name.ensures.given, c.in_ok-output_path.ensures.given, stop) refl)

pub returns-clause-given : goal.returns-clause-given
unfolding names_in
returns-clause-given c = rw (c.in_ok-tech_name.ensures.given, c.in_ok-output_path.ensures.given, c.in_ok-output_name.ensures.given) refl
