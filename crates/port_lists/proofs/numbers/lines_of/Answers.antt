-- Twice as many, and at most 256.
use Rattle.std.proofs.Common.{arith}
use Rattle.port_lists.proofs.TabulateLaws.{twice_lines, few_lines, some_lines}
use Rattle.port_lists.proofs.numbers.lines_of.Goals as goal

pub overflow_mul-lines : goal.overflow_mul-lines
overflow_mul-lines c =
    let is = c.loop.invariant in
    let less = c.loop-test.true in
    let small = c.requires in
    let few = few_lines c.loop.counter (omega (arith, less, small)) in
    omega (arith, is, few)

pub loop-preserved : goal.loop-preserved
loop-preserved c =
    let is = c.loop.invariant in
    let twice = twice_lines c.loop.counter in
    omega (arith, is, twice)

pub returns-clause-some : goal.returns-clause-some
returns-clause-some c =
    let is = c.loop.invariant in
    let some = some_lines c.loop.counter in
    omega (arith, is, some)
