-- The lines of a group more.
use Rattle.std.proofs.Common.{ℕ, List, subst, arith}
use Rattle.std.specs.List.{AllByRecursion}
use Rattle.sram_netlist.specs.Organization.{IsGroupSize}
use Rattle.port_lists.proofs.PortLaws.{few_bits}
use Rattle.row_decoder.proofs.TapLaws.{few_in_group, count_more}
use Rattle.row_decoder.proofs.rows.line_count.Goals as goal

pub lines_of-count-requires : goal.lines_of-count-requires
lines_of-count-requires c =
    let sizes = subst (λ (l : List ℕ). AllByRecursion IsGroupSize l) c.in-Some.ensures.cases.0 c.loop-bits.invariant.sizes in
    let few = few_bits c.in-Some.bits.now sizes.0 in
    omega (arith, few)

pub overflow_add-count : goal.overflow_add-count
overflow_add-count c =
    let sizes = subst (λ (l : List ℕ). AllByRecursion IsGroupSize l) c.in-Some.ensures.cases.0 c.loop-bits.invariant.sizes in
    let lines = few_in_group c.in-Some.bits.now sizes.0 in
    let count = c.lines_of-count.ensures.value in
    let few = c.loop-bits.invariant.few in
    omega (arith, lines, count, few)

pub loop-bits-preserved : goal.loop-bits-preserved
loop-bits-preserved c =
    let sizes = subst (λ (l : List ℕ). AllByRecursion IsGroupSize l) c.in-Some.ensures.cases.0 c.loop-bits.invariant.sizes in
    let lines = few_in_group c.in-Some.bits.now sizes.0 in
    let count = c.lines_of-count.ensures.value in
    let few = c.loop-bits.invariant.few in
    let size = c.in-Some.ensures.cases.1 in
    record {
      count = count_more c.loop-bits.count _ c.lines_of-count.result c.in-Some.bits.now c.loop-bits.rest.now c.in-Some.others.now c.in-Some.ensures.cases.0 count c.loop-bits.invariant.count;
      few = omega (arith, lines, count, few, size);
      sizes = sizes.1;
    }
