-- Rows and columns are at most 256.
use Rattle.std.proofs.Common.{ℕ, ◌+◌, pos, ◌*ℤ◌, ap, ◌∙◌, arith}
use Rattle.std.proofs.lemmas.Int.{ints}
use Rattle.wire_drawing.specs.Drawing.{pitch}
use Rattle.sram_plan.specs.PlanNumbers.{numbers_of}
use Rattle.port_lists.proofs.NumberLaws.{rows_are, columns_are}
use Rattle.floorplan.proofs.FloorplanLaws.{next, next_channel, first_channel, next_bank, rows_high, placed, placed_near, kept, columns_within}
use Rattle.floorplan.proofs.numbers.floorplan.Goals as goal

pub extent-requires-clause-few : goal.extent-requires-clause-few
extent-requires-clause-few c = let is = rows_are (numbers_of c.args.plan.now) c.requires.plan in let few = c.requires.plan.plan.rows in omega (arith, is, few)

pub extent-requires-2-clause-few : goal.extent-requires-2-clause-few
extent-requires-2-clause-few c = let is = columns_are (numbers_of c.args.plan.now) c.requires.plan in let few = c.requires.plan.plan.columns in omega (arith, is, few)

pub returns-clause-stated : goal.returns-clause-stated
returns-clause-stated c kit are =
    let width = c.requires.sizes.width in
    let space = c.requires.sizes.space in
    let plan = numbers_of c.args.plan.now in
    let rows = rows_are plan c.requires.plan in
    let columns = columns_are plan c.requires.plan in
    record {
      logic_x = omega (arith, ints, width.from, width.to, space.from, space.to);
      row_x = kept c.pitches-row_x.result (omega arith) ∙ (c.pitches-row_x.ensures.value ∙ ap (λ (n : ℕ). pos (n + 1) *ℤ pitch c.args.wire.now) c.rail_count.ensures.value);
      write_y = first_channel c.args.sides.now.inv_height c.channel_height.result _ _ (omega arith) are.inv_height c.channel_height.ensures.value;
      sense_y = next (c.args.sides.now.inv_height + c.channel_height.result) c.args.sides.now.write_height _ (omega arith) are.write_height;
      column_y = next_channel (c.args.sides.now.inv_height + c.channel_height.result + c.args.sides.now.write_height) c.args.sides.now.sense_height c.channel_height-2.result _ _ (omega arith) are.sense_height c.channel_height-2.ensures.value;
      array_y = next (c.args.sides.now.inv_height + c.channel_height.result + c.args.sides.now.write_height + c.args.sides.now.sense_height + c.channel_height-2.result) c.args.sides.now.end_height _ (omega arith) are.end_height;
      precharge_y = next (c.args.sides.now.inv_height + c.channel_height.result + c.args.sides.now.write_height + c.args.sides.now.sense_height + c.channel_height-2.result + c.args.sides.now.end_height) c.extent.result _ (omega arith) (rows_high _ _ _ _ _ c.extent.ensures.value rows are.bit_height);
      bank_width = next_bank c.pitches-row_x.result c.args.sides.now.gate_width c.args.sides.now.driver_width c.extent-2.result _ _ _ (omega arith) are.gate_width are.driver_width (rows_high _ _ _ _ _ c.extent-2.ensures.value columns are.bit_width);
    }

pub returns-clause-near : goal.returns-clause-near
returns-clause-near c =
    let width = c.requires.sizes.width in
    let space = c.requires.sizes.space in
    record {
      logic_x = record { above = omega (arith, ints, width.from, width.to, space.from, space.to); below = omega (arith, ints, width.from, width.to, space.from, space.to) };
      row_x = placed_near _ 8388608 (omega arith) (omega arith);
      write_y = placed _ (omega arith);
      sense_y = placed _ (omega arith);
      column_y = placed _ (omega arith);
      array_y = placed _ (omega arith);
      precharge_y = placed _ (omega arith);
      bank_width = placed_near _ 33554432 (omega arith) (omega arith);
    }

pub returns-clause-columns : goal.returns-clause-columns
returns-clause-columns c = columns_within c.pitches-row_x.result c.args.sides.now.gate_width c.args.sides.now.driver_width c.extent-2.result (omega arith)
