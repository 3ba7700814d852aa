-- A group more.
use Rattle.std.proofs.Common.{ℕ, List, subst, arith}
use Rattle.std.specs.List.{AllByRecursion}
use Rattle.sram_netlist.specs.Organization.{IsGroupSize}
use Rattle.port_lists.proofs.PortLaws.{line_more, few_bits}
use Rattle.port_lists.proofs.names.NameList.add_row_lines.Goals as goal

pub lines_of-lines-requires : goal.lines_of-lines-requires
lines_of-lines-requires c =
    let sizes = subst (λ (l : List ℕ). AllByRecursion IsGroupSize l) c.in-Some.ensures.cases.0 c.loop-bits.invariant.sizes in
    let few = few_bits c.in-Some.bits.now sizes.0 in
    omega (arith, few)

pub loop-bits-preserved : goal.loop-bits-preserved
loop-bits-preserved c =
    let sizes = subst (λ (l : List ℕ). AllByRecursion IsGroupSize l) c.in-Some.ensures.cases.0 c.loop-bits.invariant.sizes in
    let size = c.in-Some.ensures.cases.1 in
    let group = c.loop-bits.invariant.group in
    record {
      lines = line_more _ _ _ c.loop-bits.rest.now c.in-Some.others.now c.in-Some.bits.now c.loop-bits.group c.lines_of-lines.result c.loop-bits.left c.in-Some.ensures.cases.0 c.lines_of-lines.ensures.value c.in_ok-add.ensures c.loop-bits.invariant.lines;
      group = omega (arith, size, group);
      sizes = sizes.1;
    }
