use Rattle.std.proofs.Common.{◌≡◌, ◌≢◌, ◌+◌, get_or, drop, arith}
use Rattle.std.proofs.lemmas.List.{drop_more, drop_all}
use Rattle.kit_check.proofs.LeastLaws.{search_goes_on, free_here, free_behind}
use Rattle.kit_check.proofs.free_name.least_free.Goals as goal

pub returns-then-number-least-clause-free : goal.returns-then-number-least-clause-free
returns-then-number-least-clause-free c =
    let numbers = c.args.numbers.now in
    let i = c.loop-number.number-index in
    let differs : get_or numbers i 0 ≢ c.loop-number.least = omega arith in
    free_here numbers (drop i numbers) (drop (i + 1) numbers) (get_or numbers i 0) c.loop-number.least (drop_more numbers i 0 c.loop-number-test.true) differs c.loop-number.invariant.1

pub loop-number-preserved : goal.loop-number-preserved
loop-number-preserved c =
    let numbers = c.args.numbers.now in
    let i = c.loop-number.number-index in
    let same : get_or numbers i 0 ≡ c.loop-number.least = omega arith in (
      omega arith,
      search_goes_on numbers (drop i numbers) (drop (i + 1) numbers) (get_or numbers i 0) c.loop-number.least (drop_more numbers i 0 c.loop-number-test.true) same c.loop-number.invariant.1,
    )

pub returns-clause-free : goal.returns-clause-free
returns-clause-free c =
    free_behind c.args.numbers.now (drop c.loop-number.number-index c.args.numbers.now) c.loop-number.least (drop_all c.loop-number.number-index c.args.numbers.now c.loop-number-test.false) c.loop-number.invariant.1
