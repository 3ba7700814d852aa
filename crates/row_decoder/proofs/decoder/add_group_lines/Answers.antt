-- A group more.
use Rattle.std.proofs.Common.{refl, ℕ, List, subst, ap, sym, ◌∙◌, arith}
use Rattle.std.specs.List.{AllByRecursion}
use Rattle.sram_netlist.specs.Organization.{IsGroupSize}
use Rattle.sram_netlist.specs.Names.{line_kind_in}
use Rattle.sram_plan.specs.PlanNumbers.{organization}
use Rattle.row_decoder.specs.Gates.{logic_gate}
use Rattle.port_lists.specs.Cells.{cell_in}
use Rattle.port_lists.proofs.PortLaws.{few_bits}
use Rattle.row_decoder.proofs.KindLaws.{kind_from, group_kind, kind_behind, groups_more, few_groups}
use Rattle.row_decoder.proofs.decoder.add_group_lines.Goals as goal

pub loop-bits-init : goal.loop-bits-init
loop-bits-init c =
    let few = c.requires.numbers.plan.choices in
    record {
      gates = refl;
      kinds = λ o le. kind_from c.args.plan.now.col_bits (organization c.args.plan.now).groups o le ∙ ap (λ (gs : List ℕ). line_kind_in gs c.args.plan.now.col_bits 0 o) (sym c.requires.groups);
      sizes = subst (λ (gs : List ℕ). AllByRecursion IsGroupSize gs) (sym c.requires.groups) c.requires.numbers.plan.sizes;
      group = few_groups c.args.groups.now (organization c.args.plan.now).groups c.requires.groups c.requires.numbers.plan.groups;
      low = omega (arith, few);
    }

pub add_lines-requires-clause-low : goal.add_lines-requires-clause-low
add_lines-requires-clause-low c =
    let low = c.loop-bits.invariant.low in
    let group = c.loop-bits.invariant.group in
    omega (arith, low, group)

pub add_lines-requires-clause-bits : goal.add_lines-requires-clause-bits
add_lines-requires-clause-bits c =
    let sizes = subst (λ (l : List ℕ). AllByRecursion IsGroupSize l) c.in-Some.ensures.cases.0 c.loop-bits.invariant.sizes in
    let few = few_bits c.in-Some.bits.now sizes.0 in
    omega (arith, few)

pub add_lines-requires-clause-choice : goal.add_lines-requires-clause-choice
add_lines-requires-clause-choice c =
    c.loop-bits.invariant.kinds c.loop-bits.low (omega arith) ∙ ap (λ (gs : List ℕ). line_kind_in gs c.loop-bits.low c.loop-bits.group c.loop-bits.low) c.in-Some.ensures.cases.0
    ∙ group_kind c.in-Some.bits.now c.in-Some.others.now c.loop-bits.low c.loop-bits.group

pub overflow_add-low : goal.overflow_add-low
overflow_add-low c =
    let sizes = subst (λ (l : List ℕ). AllByRecursion IsGroupSize l) c.in-Some.ensures.cases.0 c.loop-bits.invariant.sizes in
    let few = few_bits c.in-Some.bits.now sizes.0 in
    let low = c.loop-bits.invariant.low in
    let group = c.loop-bits.invariant.group in
    omega (arith, few, low, group)

pub loop-bits-preserved : goal.loop-bits-preserved
loop-bits-preserved c =
    let front = c.in-Some.ensures.cases.0 in
    let sizes = subst (λ (l : List ℕ). AllByRecursion IsGroupSize l) front c.loop-bits.invariant.sizes in
    let few = few_bits c.in-Some.bits.now sizes.0 in
    let size = c.in-Some.ensures.cases.1 in
    let group = c.loop-bits.invariant.group in
    let low = c.loop-bits.invariant.low in
    record {
      gates = groups_more (logic_gate (organization c.args.plan.now) (cell_in c.args.roles.now)) _ _ _ c.loop-bits.rest.now c.in-Some.others.now c.in-Some.bits.now c.loop-bits.low front c.in_ok-add_lines.ensures c.loop-bits.invariant.gates;
      kinds = λ o le. c.loop-bits.invariant.kinds o (omega (arith, le)) ∙ ap (λ (gs : List ℕ). line_kind_in gs c.loop-bits.low c.loop-bits.group o) front
          ∙ kind_behind c.in-Some.bits.now c.in-Some.others.now c.loop-bits.low c.loop-bits.group o sizes.0 le;
      sizes = sizes.1;
      group = omega (arith, size, group);
      low = omega (arith, few, low);
    }
