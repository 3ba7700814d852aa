-- The trunk of vdd and its bars.
use Rattle.std.proofs.Common.{◌≡◌, ◌+◌, arith}
use Rattle.std.proofs.lemmas.Int.{ints}
use Rattle.or_geom.specs.declared.shape.Shape.{Shape}
use Rattle.or_geom.specs.Adds.{Adds}
use Rattle.sram_netlist.specs.Organization.{IsWritten, bank_rows}
use Rattle.sram_plan.specs.PlanNumbers.{numbers_of, organization}
use Rattle.port_lists.proofs.NumberLaws.{rows_are}
use Rattle.macro_layout.specs.Places.{columns_x}
use Rattle.macro_layout.specs.Wires.{IsBar}
use Rattle.floorplan.specs.FloorplanNumbers.{floorplan_of}
use Rattle.floorplan.proofs.BarLaws.{adds_where, adds_nowhere, bar_as, box_as}
use Rattle.floorplan.proofs.SupplyLaws.{power_all, power_bars, rows_as, room_logic, room_under, room_trunk, room_placed, before_trunk, rows_before, columns_before, upper_above}
use Rattle.floorplan.proofs.supplies.add_power_wires.Goals as goal
use Rattle.floorplan.proofs.supplies.add_power_wires.Goals.{then-plan-gt0+in_ok-add_bar-2, else-plan-gt0}

pub returns : goal.returns
returns c kit are at =
    let wire = c.args.wire.now in
    let plan = organization c.args.plan.now in
    let fl = floorplan_of c.args.floorplan.now in
    let rows : c.args.plan.now.rows ≡ bank_rows plan = rows_are (numbers_of c.args.plan.now) c.requires.plan in
    let left = c.columns_x-columns.ensures.is in
    let gate = are.gate_width in
    let drive = are.driver_width in
    let inv = are.inv_height in
    let sense = are.sense_height in
    let pre = are.precharge_height in
    let bar : Shape → Type 0 = IsBar wire c.args.trunk (columns_x plan kit fl) fl.write_y in
    let written : Adds c.add_bar.new.shapes.items c.if-plan-gt0.shapes.items (λ s. IsWritten plan × bar s) =
    elim c.if-plan-gt0.branch [
      | then-plan-gt0+in_ok-add_bar-2 w ↦ rw w.shapes-is (adds_where (IsWritten plan) bar _ _ w.if-plan-gt0.true (bar_as wire _ _ _ _ _ _ _ _ w.in_ok-add_bar-2.ensures (omega (arith, ints)) (omega (arith, ints, left, gate, drive)) (omega (arith, ints))))
      | else-plan-gt0 w ↦ (let none = w.if-plan-gt0.false in rw w.shapes-is (adds_nowhere (IsWritten plan) bar _ (λ some. omega (arith, none, some))))
    ] in
    power_all plan kit wire fl c.args.trunk _ _ _ at
    (box_as _ _ _ _ _ _ _ _ _ _ _ c.in_ok-add_trunk.ensures (omega (arith, ints)) (omega (arith, ints)) (omega (arith, ints)) (omega (arith, ints, pre)))
    (power_bars plan kit wire fl c.args.trunk _ _ _ _ _ _ _
    (bar_as wire _ _ _ _ _ _ _ _ c.in_ok-add_bar.ensures (omega (arith, ints)) (omega (arith, ints)) (omega (arith, ints, inv)))
    written
    (bar_as wire _ _ _ _ _ _ _ _ c.in_ok-add_bar-3.ensures (omega (arith, ints)) (omega (arith, ints, left, gate, drive)) (omega (arith, ints, sense)))
    (bar_as wire _ _ _ _ _ _ _ _ c.in_ok-add_bar-4.ensures (omega (arith, ints)) (omega (arith, ints, left, gate, drive)) (omega (arith, ints)))
    (rows_as wire _ _ _ _ _ _ _ _ _ _ _ _ _ c.in_ok-add_row_bars.ensures (omega (arith, ints)) (omega (arith, ints)) (omega (arith, ints)) are.bit_height rows)
    (bar_as wire _ _ _ _ _ _ _ _ c.in_ok-add_bar-5.ensures (omega (arith, ints)) (omega (arith, ints, left, gate, drive)) (omega (arith, ints, pre))))

pub add_trunk-requires-clause-room : goal.add_trunk-requires-clause-room
add_trunk-requires-clause-room c = room_trunk c.args.floorplan.now.logic_x c.args.trunk c.requires.near.logic_x c.requires.behind.logic c.requires.behind.near

pub add_trunk-requires-clause-tall : goal.add_trunk-requires-clause-tall
add_trunk-requires-clause-tall c = upper_above c.args.floorplan.now.precharge_y c.args.sides.now.precharge_height c.requires.near.precharge_y c.requires.sides.precharge_height.from c.requires.sides.precharge_height.to

pub add_bar-requires-clause-room_x : goal.add_bar-requires-clause-room_x
add_bar-requires-clause-room_x c = room_trunk c.args.floorplan.now.logic_x c.args.trunk c.requires.near.logic_x c.requires.behind.logic c.requires.behind.near

pub add_bar-requires-clause-before : goal.add_bar-requires-clause-before
add_bar-requires-clause-before c = before_trunk c.args.floorplan.now.logic_x c.args.trunk c.args.wire.now.width c.requires.near.logic_x c.requires.behind.logic c.requires.behind.near c.requires.sizes.width.from

pub add_bar-requires-then-plan-gt0-clause-room_x : goal.add_bar-requires-then-plan-gt0-clause-room_x
add_bar-requires-then-plan-gt0-clause-room_x c = room_trunk c.args.floorplan.now.logic_x c.args.trunk c.requires.near.logic_x c.requires.behind.logic c.requires.behind.near

pub add_bar-requires-then-plan-gt0-clause-before : goal.add_bar-requires-then-plan-gt0-clause-before
add_bar-requires-then-plan-gt0-clause-before c = columns_before c.columns_x-columns.result c.args.floorplan.now.row_x c.args.trunk c.args.wire.now.width (c.args.sides.now.gate_width + c.args.sides.now.driver_width) c.columns_x-columns.ensures.is c.requires.near.row_x c.requires.behind.columns c.requires.behind.near c.requires.sizes.width.from

pub add_bar-requires-then-plan-gt0-clause-room_y : goal.add_bar-requires-then-plan-gt0-clause-room_y
add_bar-requires-then-plan-gt0-clause-room_y c = room_placed c.args.floorplan.now.write_y c.requires.near.write_y

pub add_bar-requires-2-clause-room_x : goal.add_bar-requires-2-clause-room_x
add_bar-requires-2-clause-room_x c = room_trunk c.args.floorplan.now.logic_x c.args.trunk c.requires.near.logic_x c.requires.behind.logic c.requires.behind.near

pub add_bar-requires-2-clause-before : goal.add_bar-requires-2-clause-before
add_bar-requires-2-clause-before c = columns_before c.columns_x-columns.result c.args.floorplan.now.row_x c.args.trunk c.args.wire.now.width (c.args.sides.now.gate_width + c.args.sides.now.driver_width) c.columns_x-columns.ensures.is c.requires.near.row_x c.requires.behind.columns c.requires.behind.near c.requires.sizes.width.from

pub add_bar-requires-3-clause-room_x : goal.add_bar-requires-3-clause-room_x
add_bar-requires-3-clause-room_x c = room_trunk c.args.floorplan.now.logic_x c.args.trunk c.requires.near.logic_x c.requires.behind.logic c.requires.behind.near

pub add_bar-requires-3-clause-before : goal.add_bar-requires-3-clause-before
add_bar-requires-3-clause-before c = columns_before c.columns_x-columns.result c.args.floorplan.now.row_x c.args.trunk c.args.wire.now.width (c.args.sides.now.gate_width + c.args.sides.now.driver_width) c.columns_x-columns.ensures.is c.requires.near.row_x c.requires.behind.columns c.requires.behind.near c.requires.sizes.width.from

pub add_bar-requires-3-clause-room_y : goal.add_bar-requires-3-clause-room_y
add_bar-requires-3-clause-room_y c = room_placed c.args.floorplan.now.column_y c.requires.near.column_y

pub add_bar-requires-4-clause-room_x : goal.add_bar-requires-4-clause-room_x
add_bar-requires-4-clause-room_x c = room_trunk c.args.floorplan.now.logic_x c.args.trunk c.requires.near.logic_x c.requires.behind.logic c.requires.behind.near

pub add_bar-requires-4-clause-before : goal.add_bar-requires-4-clause-before
add_bar-requires-4-clause-before c = columns_before c.columns_x-columns.result c.args.floorplan.now.row_x c.args.trunk c.args.wire.now.width (c.args.sides.now.gate_width + c.args.sides.now.driver_width) c.columns_x-columns.ensures.is c.requires.near.row_x c.requires.behind.columns c.requires.behind.near c.requires.sizes.width.from

pub add_row_bars-requires-clause-room_x : goal.add_row_bars-requires-clause-room_x
add_row_bars-requires-clause-room_x c = room_trunk c.args.floorplan.now.logic_x c.args.trunk c.requires.near.logic_x c.requires.behind.logic c.requires.behind.near

pub add_row_bars-requires-clause-before : goal.add_row_bars-requires-clause-before
add_row_bars-requires-clause-before c = rows_before c.args.floorplan.now.row_x c.args.trunk c.args.wire.now.width (c.args.sides.now.gate_width + c.args.sides.now.driver_width) c.requires.near.row_x c.requires.behind.columns c.requires.behind.near c.requires.sizes.width.from

pub add_row_bars-requires-clause-few : goal.add_row_bars-requires-clause-few
add_row_bars-requires-clause-few c = let is = rows_are (numbers_of c.args.plan.now) c.requires.plan in let few = c.requires.plan.plan.rows in omega (arith, is, few)

pub add_bar-requires-clause-room_y : goal.add_bar-requires-clause-room_y
add_bar-requires-clause-room_y c = room_logic c.args.sides.now.inv_height c.args.wire.now.width c.requires.sides.inv_height.to c.requires.sizes.width

pub add_bar-requires-2-clause-room_y : goal.add_bar-requires-2-clause-room_y
add_bar-requires-2-clause-room_y c = room_under c.args.floorplan.now.sense_y c.args.wire.now.width c.args.sides.now.sense_height c.requires.near.sense_y c.requires.sides.sense_height.to c.requires.sizes.width

pub add_bar-requires-4-clause-room_y : goal.add_bar-requires-4-clause-room_y
add_bar-requires-4-clause-room_y c = room_under c.args.floorplan.now.precharge_y c.args.wire.now.width c.args.sides.now.precharge_height c.requires.near.precharge_y c.requires.sides.precharge_height.to c.requires.sizes.width
