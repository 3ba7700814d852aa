-- An output more.
use Rattle.std.proofs.Common.{◌≡◌, ℕ, ◌*◌, ℤ, pos, ◌+ℤ◌, w64, to_z, of_z, subst, ap, ◌∙◌, arith}
use Rattle.std.proofs.lemmas.Int.{ints, to_z-of_z}
use Rattle.or_geom.specs.Adds.{Adds}
use Rattle.sram_netlist.specs.Organization.{inputs_of, words_per_row}
use Rattle.sram_plan.specs.PlanNumbers.{organization}
use Rattle.bank_layout.specs.Outputs.{IsOutputBelow}
use Rattle.bank_layout.proofs.DrawLaws.{output_more}
use Rattle.bank_layout.proofs.outputs.add_outputs.Goals as goal

pub add_output-requires-clause-near : goal.add_output-requires-clause-near
add_output-requires-clause-near c =
    let f = c.requires.near in
    let o = c.column_offset.ensures.near in
    record { above = omega (arith, ints, f.above, f.below, o.above, o.below); below = omega (arith, ints, f.above, f.below, o.above, o.below) }

pub loop-bit-preserved : goal.loop-bit-preserved
loop-bit-preserved c =
    let f = c.requires.near in
    let o = c.column_offset.ensures.near in
    let first : ℤ = to_z w64 (of_z w64 c.args.first) in
    let sum : to_z w64 (of_z w64 (to_z w64 (of_z w64 c.args.first) +ℤ to_z w64 (of_z w64 c.column_offset.result))) ≡ first +ℤ c.column_offset.result = omega (arith, ints, f.above, f.below, o.above, o.below) in
    output_more c.args.wire.now first _ (words_per_row (organization c.args.plan.now)) c.args.width _ c.loop-bit.bit _ _ _ c.loop-bit.invariant c.in_ok-add_output.ensures
    (sum ∙ ap (λ (z : ℤ). first +ℤ z) (c.column_offset.ensures.is ∙ ap (λ (n : ℕ). pos (n * c.args.width)) c.first_column.ensures.is))

pub returns : goal.returns
returns c =
    let all : c.loop-bit.bit ≡ inputs_of (organization c.args.plan.now) = omega arith in
    subst (λ (n : ℕ). Adds c.args.shapes.now.items c.loop-bit.shapes.items (IsOutputBelow c.args.wire.now c.args.first (words_per_row (organization c.args.plan.now)) c.args.width c.args.top n)) all
    (rw (to_z-of_z w64 c.args.first c.ranges.first, to_z-of_z w64 c.args.top c.ranges.top) at c.loop-bit.invariant)
