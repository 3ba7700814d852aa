-- Rails, outputs and the data.
use Rattle.std.proofs.Common.{sym, ◌∙◌, arith}
use Rattle.std.proofs.lemmas.Int.{ints}
use Rattle.std.proofs.lemmas.Option.{same_Some}
use Rattle.bank_layout.proofs.EdgeListLaws.{bottom_as}
use Rattle.bank_layout.proofs.edges.bottom_edges.Goals as goal

pub add_output_edges-requires-clause-near : goal.add_output_edges-requires-clause-near
add_output_edges-requires-clause-near c =
    let x = c.columns_x-left.ensures.near in
    let left = c.pin_of.ensures.inside.left in
    let right = c.pin_of.ensures.inside.right in
    let wide = c.pin_of.result.now.rect.wide in
    record { above = omega (arith, ints, x.above, x.below, left, right, wide); below = omega (arith, ints, x.above, x.below, left, right, wide) }

pub returns : goal.returns
returns c = λ wire wired.
    let x = c.columns_x-left.ensures.near in
    let is = c.columns_x-left.ensures.is in
    let left = c.pin_of.ensures.inside.left in
    let right = c.pin_of.ensures.inside.right in
    let wide = c.pin_of.result.now.rect.wide in
    let gate = c.requires.sides_of.gate_width in
    let drive = c.requires.sides_of.driver_width in
    let lines = c.line_count.ensures.value in
    let choices = c.choice_count.ensures.value in
    record {
      pin = c.pin_of.result.now;
      is = c.pin_of.ensures.is;
      are = bottom_as _ _ _ wire _ _ _ _ _ _ _ _ _ _ _ _ _ _ _ c.new-edges.ensures.items c.in_ok-add_rail_edges.ensures c.in_ok-add_output_edges.ensures c.in_ok-add_moved_edges.ensures c.sorted_edges.ensures
          (omega (arith, lines, choices)) (same_Some c.wire_of-wire.result.now wire (sym c.wire_of-wire.ensures.is ∙ wired)) (omega (arith, ints, x.above, x.below, is, left, right, wide, gate, drive)) c.requires.sides_of.bit_width
          (omega (arith, ints, x.above, x.below, is, gate, drive));
    }
