-- All is far below 2^63.
use Rattle.std.proofs.Common.{arith}
use Rattle.std.proofs.lemmas.Int.{ints}
use Rattle.sram_macro.proofs.extents.extents_behind.Goals as goal

pub overflow_add-result-2 : goal.overflow_add-result-2
overflow_add-result-2 c =
    let low = c.requires.end.above in let high = c.requires.end.below in
    let w = c.requires.sizes.width in let s = c.requires.sizes.space in
    omega (arith, ints, low, high, w.from, w.to, s.from, s.to)

pub returns-clause-width : goal.returns-clause-width
returns-clause-width c =
    let low = c.requires.end.above in let high = c.requires.end.below in
    let w = c.requires.sizes.width in let s = c.requires.sizes.space in
    omega (arith, ints, low, high, w.from, w.to, s.from, s.to)

pub returns-clause-near : goal.returns-clause-near
returns-clause-near c =
    let low = c.requires.end.above in let high = c.requires.end.below in
    let up = c.requires.height.above in let most = c.requires.height.below in
    let w = c.requires.sizes.width in let s = c.requires.sizes.space in
    record {
      power_x = record { above = omega (arith, ints, low, high, s.from, s.to); below = omega (arith, ints, low, high, s.from, s.to) };
      ground_x = record { above = omega (arith, ints, low, high, w.from, w.to, s.from, s.to); below = omega (arith, ints, low, high, w.from, w.to, s.from, s.to) };
      width = record { above = omega (arith, ints, low, high, w.from, w.to, s.from, s.to); below = omega (arith, ints, low, high, w.from, w.to, s.from, s.to) };
      height = record { above = omega (arith, ints, up, most); below = omega (arith, ints, up, most) };
    }
