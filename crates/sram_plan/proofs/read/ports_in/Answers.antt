use Rattle.std.proofs.Common.{refl}
use Rattle.std.proofs.lemmas.Result.{err_from_is_err_and}
use Rattle.sram_plan.specs.Configuration.{ports_in}
use Rattle.sram_plan.proofs.read.ports_in.Goals as goal

pub returns-in_err-_both : goal.returns-in_err-_both
unfolding ports_in
returns-in_err-_both c =
    let p = err_from_is_err_and c.from_residual.result c.from_residual.ensures.1 in
    rw (p.1, p.2) (λ some. let stop = c.in_err-_both.ensures.given some in rw stop refl)

pub returns-in_err-_reading : goal.returns-in_err-_reading
unfolding ports_in
returns-in_err-_reading c =
    let p = err_from_is_err_and c.from_residual-in_err-_reading.result c.from_residual-in_err-_reading.ensures.1 in
    rw (p.1, p.2) (λ some. let stop = c.in_err-_reading.ensures.given some in rw (c.in_ok-_both.ensures.given, stop) refl)

pub returns : goal.returns
unfolding ports_in
returns c = rw (c.in_ok-_both.ensures.given, c.in_ok-_reading.ensures.given) c.listed_or-3.ensures.given
