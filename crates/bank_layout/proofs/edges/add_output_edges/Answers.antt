-- An output more.
use Rattle.std.proofs.Common.{◌≡◌, ℕ, ◌*◌, ℤ, pos, ◌+ℤ◌, w64, to_z, of_z, ap, ◌∙◌, arith}
use Rattle.std.proofs.lemmas.Int.{ints, to_z-of_z}
use Rattle.port_lists.proofs.TabulateLaws.{grown_as, all_of}
use Rattle.sram_netlist.specs.Organization.{inputs_of, words_per_row}
use Rattle.sram_plan.specs.PlanNumbers.{organization}
use Rattle.part_edges.specs.PartPins.{edge_at}
use Rattle.bank_layout.specs.BankEdges.{output_edge}
use Rattle.bank_layout.proofs.edges.add_output_edges.Goals as goal

pub loop-bit-preserved : goal.loop-bit-preserved
loop-bit-preserved c =
    let f = c.requires.near in
    let o = c.column_offset.ensures.near in
    let first : ℤ = to_z w64 (of_z w64 c.args.first) in
    let sum : to_z w64 (of_z w64 (to_z w64 (of_z w64 c.args.first) +ℤ to_z w64 (of_z w64 c.column_offset.result))) ≡ first +ℤ c.column_offset.result = omega (arith, ints, f.above, f.below, o.above, o.below) in
    let at = sum ∙ ap (λ (z : ℤ). first +ℤ z) (c.column_offset.ensures.is ∙ ap (λ (n : ℕ). pos (n * c.args.width)) c.first_column.ensures.is) in
    grown_as _ _ _ _ c.loop-bit.bit (output_edge first (words_per_row (organization c.args.plan.now)) c.args.width) c.loop-bit.invariant c.in_ok-push.ensures.items
    (c.edge_at.ensures ∙ (λ i. edge_at (c.in_ok-spell.ensures i) (at i)))

pub returns : goal.returns
returns c =
    let far : c.loop-bit.bit ≡ inputs_of (organization c.args.plan.now) = omega arith in
    rw (to_z-of_z w64 c.args.first c.ranges.first) at (all_of _ _ c.loop-bit.bit (inputs_of (organization c.args.plan.now)) (output_edge (to_z w64 (of_z w64 c.args.first)) (words_per_row (organization c.args.plan.now)) c.args.width) c.loop-bit.invariant far)
