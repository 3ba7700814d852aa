-- Two boxes, further down, or one.
use Rattle.std.proofs.Common.{◌≡◌, ◌+◌, ◌*◌, ◌-ℤ◌, refl, arith}
use Rattle.std.specs.Prelude.{slice_index}
use Rattle.std.proofs.lemmas.Int.{ints}
use Rattle.or_geom.specs.declared.shape.Shape.{Shape}
use Rattle.or_geom.specs.Adds.{Adds}
use Rattle.wire_drawing.specs.Drawing.{IsBox}
use Rattle.sram_netlist.specs.Organization.{IsWritten, columns_of}
use Rattle.sram_plan.specs.PlanNumbers.{numbers_of, organization}
use Rattle.port_lists.proofs.NumberLaws.{columns_are}
use Rattle.macro_layout.specs.Places.{bit_width, columns_x}
use Rattle.macro_layout.specs.Wires.{columns_end, IsWriteJoiner, IsCornerJoiner}
use Rattle.floorplan.specs.FloorplanNumbers.{floorplan_of}
use Rattle.floorplan.specs.Lowered.{IsLowered}
use Rattle.floorplan.proofs.FloorplanLaws.{rows_high}
use Rattle.floorplan.proofs.JoinerLaws.{lower_box, lower_both, lower_where, lower_nowhere, sunk, sunk_fits, sunk_less, apart, apart_fits, begins_at, ends_at, wide_from, wide_rows, some_columns}
use Rattle.floorplan.proofs.joiners.add_bank_joiners.Goals as goal
use Rattle.floorplan.proofs.joiners.add_bank_joiners.Goals.{then-plan-gt0+in_ok-add_box, else-plan-gt0}

pub returns : goal.returns
returns c kit are =
    let wire = c.args.wire.now in
    let plan = organization c.args.plan.now in
    let fl = floorplan_of c.args.floorplan.now in
    let row = c.requires.near.row_x in
    let far : c.extent.result ≡ columns_of plan * bit_width kit = rows_high _ _ _ _ _ c.extent.ensures.value (columns_are (numbers_of c.args.plan.now) c.requires.plan) are.bit_width in
    let left = begins_at fl.row_x c.columns_x-left.result c.args.sides.now.gate_width c.args.sides.now.driver_width _ _ row c.columns_x-left.ensures.is (omega arith) are.gate_width are.driver_width in
    let right = ends_at fl.row_x c.columns_x-left.result c.args.sides.now.gate_width c.args.sides.now.driver_width c.extent.result _ _ _ row c.columns_x-left.ensures.is (omega arith) c.extent.ensures.few are.gate_width are.driver_width far in
    let along : Shape → Type 0 = IsBox (slice_index wire.metals 0) (columns_x plan kit fl) (fl.sense_y -ℤ wire.width) (columns_end plan kit fl) fl.sense_y in
    let written : Adds c.args.shapes.now.items c.if-plan-gt0.shapes.items (IsLowered fl.write_y (IsWriteJoiner plan kit wire fl)) =
    elim c.if-plan-gt0.branch [
      | then-plan-gt0+in_ok-add_box w ↦
          rw w.shapes-is
          (lower_where fl.write_y (IsWritten plan) along _ _ w.if-plan-gt0.true
          (lower_box fl.write_y (slice_index wire.metals 0) _ _ _ _ _ _ _ _ _ _ w.in_ok-add_box.ensures left (sunk fl.sense_y fl.write_y wire.width c.requires.near.sense_y c.requires.near.write_y c.requires.sizes.width) right (apart fl.sense_y fl.write_y c.requires.near.sense_y c.requires.near.write_y)))
      | else-plan-gt0 w ↦ (let none = w.if-plan-gt0.false in rw w.shapes-is (lower_nowhere fl.write_y (IsWritten plan) along _ (λ some. omega (arith, none, some))))
    ] in
    lower_both fl.write_y (IsWriteJoiner plan kit wire fl) (IsCornerJoiner plan kit wire fl) _ _ _ written
    (lower_box fl.write_y (slice_index wire.metals 0) _ _ _ _ _ _ _ _ _ _ c.in_ok-add_box-2.ensures (omega (arith, ints)) (sunk fl.array_y fl.write_y wire.width c.requires.near.array_y c.requires.near.write_y c.requires.sizes.width) right (omega (arith, ints)))

pub extent-requires-clause-few : goal.extent-requires-clause-few
extent-requires-clause-few c = let is = columns_are (numbers_of c.args.plan.now) c.requires.plan in let few = c.requires.plan.plan.columns in omega (arith, is, few)

pub overflow_sub-along_write : goal.overflow_sub-along_write
overflow_sub-along_write c = sunk_fits _ _ _ c.requires.near.sense_y c.requires.near.write_y c.requires.sizes.width

pub overflow_sub-array : goal.overflow_sub-array
overflow_sub-array c = apart_fits _ _ c.requires.near.array_y c.requires.near.write_y

pub overflow_sub-along_ends : goal.overflow_sub-along_ends
overflow_sub-along_ends c = sunk_fits _ _ _ c.requires.near.array_y c.requires.near.write_y c.requires.sizes.width

pub invariant_of-along_write : goal.invariant_of-along_write
invariant_of-along_write c =
    let columns = some_columns (numbers_of c.args.plan.now) c.requires.plan in
    record {
      wide = wide_from c.args.floorplan.now.row_x c.columns_x-left.result c.columns_x-left.result (c.args.sides.now.gate_width + c.args.sides.now.driver_width) c.extent.result c.requires.near.row_x c.columns_x-left.ensures.is (omega arith) (c.extent.ensures.some columns c.requires.sides.bit_width.from) c.extent.ensures.few refl;
      tall = sunk_less _ _ _ c.requires.near.sense_y c.requires.near.write_y c.requires.sizes.width;
    }

pub invariant_of-along_ends : goal.invariant_of-along_ends
invariant_of-along_ends c =
    let columns = some_columns (numbers_of c.args.plan.now) c.requires.plan in
    record {
      wide = wide_rows c.args.floorplan.now.row_x c.columns_x-left.result (c.args.sides.now.gate_width + c.args.sides.now.driver_width) c.extent.result c.requires.near.row_x c.columns_x-left.ensures.is (omega arith) (c.extent.ensures.some columns c.requires.sides.bit_width.from) c.extent.ensures.few;
      tall = sunk_less _ _ _ c.requires.near.array_y c.requires.near.write_y c.requires.sizes.width;
    }
