-- The last column.
use Rattle.std.proofs.Common.{◌≡◌, ◌+◌, ◌-◌, ◌*◌, ℕ, ap, ◌∙◌, arith}
use Rattle.std.proofs.lemmas.Int.{ints}
use Rattle.sram_plan.specs.PlanNumbers.{numbers_of, organization}
use Rattle.sram_netlist.specs.Organization.{columns_of}
use Rattle.macro_layout.specs.Places.{bit_width}
use Rattle.floorplan.specs.LayoutOfKit.{layout_kit}
use Rattle.port_lists.proofs.NumberLaws.{columns_are}
use Rattle.floorplan.proofs.JoinerLaws.{apart, some_columns}
use Rattle.bank_layout.proofs.CountLaws.{few_columns}
use Rattle.bank_layout.proofs.TapLaws.{leaf_tap_is}
use Rattle.bank_layout.proofs.taps.precharge_tap.Goals as goal

pub overflow_sub-plan : goal.overflow_sub-plan
overflow_sub-plan c = let some = some_columns (numbers_of c.args.plan.now) c.requires.plan in omega (arith, some)

pub column_place-place-requires-clause-column : goal.column_place-place-requires-clause-column
column_place-place-requires-clause-column c = let few = few_columns (numbers_of c.args.plan.now) c.requires.plan in omega (arith, few)

pub column_place-place-requires-clause-y : goal.column_place-place-requires-clause-y
column_place-place-requires-clause-y c =
    let a = c.requires.near.precharge_y in
    let b = c.requires.near.write_y in
    record { above = omega (arith, ints, a.above, a.below, b.above, b.below); below = omega (arith, ints, a.above, a.below, b.above, b.below) }

pub returns : goal.returns
returns c =
    let gate = c.requires.sides_of.gate_width in
    let drive = c.requires.sides_of.driver_width in
    let plan = organization c.args.plan.now in
    let wide : (c.args.plan.now.columns - 1) * c.args.sides.now.bit_width ≡ (columns_of plan - 1) * bit_width (layout_kit c.args.kit.now) =
    ap (λ (n : ℕ). (n - 1) * c.args.sides.now.bit_width) (columns_are (numbers_of c.args.plan.now) c.requires.plan) ∙ ap (λ (n : ℕ). (columns_of plan - 1) * n) c.requires.sides_of.bit_width in
    record {
      pin = c.pin_of.result.now;
      is = c.pin_of.ensures.is;
      tap_is = leaf_tap_is _ _ _ _ _ _ _ c.pin_of.result.now _ c.pin_tap.ensures (ap (λ (n : ℕ). n + 2) c.line_count.ensures.value) c.column_place-place.ensures.is (omega (arith, ints, gate, drive, wide)) (apart _ _ c.requires.near.precharge_y c.requires.near.write_y);
    }
