-- The last bit of the word.
use Rattle.std.proofs.Common.{◌≡◌, ◌+◌, ◌-◌, ◌*◌, ℕ, ap, ◌∙◌, arith}
use Rattle.std.proofs.lemmas.Int.{ints}
use Rattle.sram_plan.specs.PlanNumbers.{numbers_of, organization}
use Rattle.sram_netlist.specs.Organization.{words_per_row}
use Rattle.macro_layout.specs.Places.{bit_width}
use Rattle.floorplan.specs.LayoutOfKit.{layout_kit}
use Rattle.floorplan.proofs.JoinerLaws.{apart}
use Rattle.bank_layout.proofs.CountLaws.{few_columns, last_slice, words_within}
use Rattle.bank_layout.proofs.TapLaws.{leaf_tap_is}
use Rattle.bank_layout.proofs.taps.sense_tap.Goals as goal

pub overflow_sub-column : goal.overflow_sub-column
overflow_sub-column c = words_within (numbers_of c.args.plan.now) c.requires.plan

pub column_place-place-requires-clause-column : goal.column_place-place-requires-clause-column
column_place-place-requires-clause-column c = let few = few_columns (numbers_of c.args.plan.now) c.requires.plan in omega (arith, few)

pub column_place-place-requires-clause-y : goal.column_place-place-requires-clause-y
column_place-place-requires-clause-y c =
    let a = c.requires.near.sense_y in
    let b = c.requires.near.write_y in
    record { above = omega (arith, ints, a.above, a.below, b.above, b.below); below = omega (arith, ints, a.above, a.below, b.above, b.below) }

pub returns : goal.returns
returns c =
    let gate = c.requires.sides_of.gate_width in
    let drive = c.requires.sides_of.driver_width in
    let plan = organization c.args.plan.now in
    let wide : (c.args.plan.now.columns - c.args.plan.now.wpr) * c.args.sides.now.bit_width ≡ ((c.args.plan.now.word_size - 1) * words_per_row plan) * bit_width (layout_kit c.args.kit.now) =
    ap (λ (n : ℕ). n * c.args.sides.now.bit_width) (last_slice (numbers_of c.args.plan.now) c.requires.plan) ∙ ap (λ (n : ℕ). ((c.args.plan.now.word_size - 1) * words_per_row plan) * n) c.requires.sides_of.bit_width in
    record {
      pin = c.pin_of.result.now;
      is = c.pin_of.ensures.is;
      tap_is = leaf_tap_is _ _ _ _ _ _ _ c.pin_of.result.now _ c.pin_tap.ensures (ap (λ (n : ℕ). n + 1) c.line_count.ensures.value) c.column_place-place.ensures.is (omega (arith, ints, gate, drive, wide)) (apart _ _ c.requires.near.sense_y c.requires.near.write_y);
    }
