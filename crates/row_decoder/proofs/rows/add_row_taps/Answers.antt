-- The inputs, and then the enable.
use Rattle.std.proofs.Common.{sym, subst, arith}
use Rattle.std.proofs.lemmas.Int.{ints}
use Rattle.or_geom.proofs.PlaceLaws.{same_point}
use Rattle.row_decoder.specs.RowTaps.{row_leaves_of}
use Rattle.leaf_tables.specs.NearLeaf.{ArePinsReachable}
use Rattle.row_decoder.proofs.TapLaws.{row_done}
use Rattle.row_decoder.proofs.rows.add_row_taps.Goals as goal

pub add_input_taps-requires-clause-pins : goal.add_input_taps-requires-clause-pins
add_input_taps-requires-clause-pins c = subst ArePinsReachable (sym c.as_slice.ensures) c.requires.gate.pins

pub returns : goal.returns
returns c =
    let width = c.requires.gate.width in
    row_done c.args.groups.now (row_leaves_of c.args.gate.now c.args.enable.now c.args.height) c.args.corner _ _ c.args.row c.line_count.result c.args.taps.now.items c.add_input_taps.new.taps.items c.push.new.self.items c.pin_tap.result
    c.as_slice.result.now c.row_place-gate_place.result c.row_place-driver_place.result _ c.in_ok-push.ensures.items c.in_ok-add_input_taps.ensures c.pin_tap.ensures c.as_slice.ensures c.line_count.ensures
    c.row_place-gate_place.ensures.is c.row_place-driver_place.ensures.is (omega (arith, ints)) (same_point _ _ (omega (arith, ints)) (omega (arith, ints))) (same_point _ _ (omega (arith, ints)) (omega (arith, ints)))
