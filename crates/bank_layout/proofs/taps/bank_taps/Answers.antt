-- The rows' taps, and then the others.
use Rattle.std.proofs.Common.{◌≡◌, ◌+◌, ℕ, ◌-ℤ◌, w64, to_z, of_z, refl, ap, subst, arith}
use Rattle.std.proofs.lemmas.Int.{ints}
use Rattle.or_geom.specs.declared.shape.Point.{Point}
use Rattle.or_geom.proofs.PlaceLaws.{same_point}
use Rattle.sram_plan.specs.PlanNumbers.{organization}
use Rattle.row_decoder.specs.RowTaps.{AreTapsOfRows}
use Rattle.floorplan.proofs.JoinerLaws.{apart}
use Rattle.bank_layout.proofs.TapLaws.{taps_are}
use Rattle.bank_layout.proofs.taps.bank_taps.Goals as goal

pub taps-requires-clause-corner : goal.taps-requires-clause-corner
taps-requires-clause-corner c =
    let near = c.requires.near in
    record {
      x_above = omega (arith, ints, near.row_x.above, near.row_x.below);
      x_below = omega (arith, ints, near.row_x.above, near.row_x.below);
      y_above = omega (arith, ints, near.array_y.above, near.array_y.below, near.write_y.above, near.write_y.below);
      y_below = omega (arith, ints, near.array_y.above, near.array_y.below, near.write_y.above, near.write_y.below);
    }

pub overflow_sub-low : goal.overflow_sub-low
overflow_sub-low c =
    let near = c.requires.near in
    omega (arith, ints, near.sense_y.above, near.sense_y.below, near.write_y.above, near.write_y.below)

pub overflow_add-low : goal.overflow_add-low
overflow_add-low c =
    let near = c.requires.near in
    let tall = c.requires.sides.sense_height.to in
    omega (arith, ints, near.sense_y.above, near.sense_y.below, near.write_y.above, near.write_y.below, tall)

pub add_choice_taps-requires-clause-low : goal.add_choice_taps-requires-clause-low
add_choice_taps-requires-clause-low c =
    let near = c.requires.near in
    let tall = c.requires.sides.sense_height.to in
    let write = c.requires.sides.write_height in
    let stands = c.requires.stands in
    record {
      above = omega (arith, ints, near.sense_y.above, near.sense_y.below, near.write_y.above, near.write_y.below, tall, write, stands);
      below = omega (arith, ints, near.sense_y.above, near.sense_y.below, near.write_y.above, near.write_y.below, tall, write, stands);
    }

pub returns : goal.returns
returns c =
    let near = c.requires.near in
    let tall = c.requires.sides.sense_height.to in
    let height = c.requires.sides_of.sense_height in
    let left : to_z w64 (of_z w64 c.args.floorplan.now.row_x) ≡ c.args.floorplan.now.row_x = omega (arith, ints, near.row_x.above, near.row_x.below) in
    let low : to_z w64 (of_z w64 (to_z w64 (of_z w64 c.args.floorplan.now.array_y) -ℤ to_z w64 (of_z w64 c.args.floorplan.now.write_y))) ≡ c.args.floorplan.now.array_y -ℤ c.args.floorplan.now.write_y = apart _ _ near.array_y near.write_y in
    let s = c.sense_tap.ensures in
    let p = c.precharge_tap.ensures in
    record {
      rows = c.in_ok-taps.taps.items;
      of_rows = subst (λ (corner : Point). AreTapsOfRows c.args.kit.now.leaves (organization c.args.plan.now) corner c.in_ok-taps.taps.items) (same_point _ _ left low) c.in_ok-taps.ensures;
      sense = s.pin;
      is_sense = s.is;
      precharge = p.pin;
      is_precharge = p.is;
      are = taps_are _ _ _ _ _ _ _ _ _ _ c.args.wire.now _ _ _ _ _ _ c.in_ok-push.ensures.items c.in_ok-push-2.ensures.items c.in_ok-add_choice_taps.ensures s.tap_is p.tap_is c.choice_count.ensures.value
          (omega (arith, ints, near.sense_y.above, near.sense_y.below, near.write_y.above, near.write_y.below, tall, height))
          (ap (λ (n : ℕ). n + 3) c.line_count-first.ensures.value) refl;
    }
