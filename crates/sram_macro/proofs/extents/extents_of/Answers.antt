-- As the stated ends.
use Rattle.std.proofs.Common.{ℤ, pos, ◌*ℤ◌, ◌+ℤ◌, ◌∙◌, ap, sym, subst, arith}
use Rattle.std.proofs.lemmas.Int.{ints}
use Rattle.wire_drawing.specs.Drawing.{pitch}
use Rattle.sram_plan.specs.PlanNumbers.{numbers_of, organization}
use Rattle.port_lists.proofs.NumberLaws.{banks_are}
use Rattle.floorplan.specs.FloorplanNumbers.{floorplan_of, IsUpTo}
use Rattle.sram_macro.proofs.ExtentLaws.{trunk_is, bank_end_is, bank_end_near, few_banks, some_banks, first_width, kept}
use Rattle.sram_macro.proofs.extents.extents_of.Goals as goal

pub banks_end-banks-requires-clause-few : goal.banks_end-banks-requires-clause-few
banks_end-banks-requires-clause-few c = few_banks (numbers_of c.args.plan.now) c.requires.plan

pub right_end-requires-clause-banks : goal.right_end-requires-clause-banks
right_end-requires-clause-banks c =
    let few = few_banks (numbers_of c.args.plan.now) c.requires.plan in
    let is = bank_end_is _ _ _ c.banks_end-banks.ensures c.requires.near.bank_width few in
    let near = bank_end_near _ _ _ is c.requires.near.bank_width few in
    subst (IsUpTo 134217728) (sym (kept _ near (omega arith))) near

pub returns-clause-are : goal.returns-clause-are
returns-clause-are c kit of wide =
    let few = few_banks (numbers_of c.args.plan.now) c.requires.plan in
    let left = bank_end_is _ _ _ c.banks_end-banks.ensures c.requires.near.bank_width few in
    let near = bank_end_near _ _ _ left c.requires.near.bank_width few in
    let from = c.requires.near.logic_x in
    let tall = of.precharge_height in
    let low = c.requires.near.precharge_y in
    let logic = c.logic_end-logic.ensures.is in
    let upper = c.upper_edge-height.ensures.is in
    let trunk = trunk_is (organization c.args.plan.now) kit c.args.wire.now (floorplan_of c.args.floorplan.now) _ _ _ _ _ c.right_end.ensures.is (kept _ near (omega arith) ∙ left) (banks_are (numbers_of c.args.plan.now) c.requires.plan)
    (kept _ c.logic_end-logic.ensures.near (omega arith) ∙ (logic ∙ ap (λ (z : ℤ). z +ℤ pos c.args.logic_width) (kept _ from (omega arith)))) wide in
    let end = c.right_end.ensures.near in
    let same = kept _ end (omega arith) in
    record {
      power_x = c.extents_behind.ensures.power ∙ (ap (λ (z : ℤ). z +ℤ c.args.wire.now.space) same ∙ trunk);
      ground_x = c.extents_behind.ensures.ground ∙ ap (λ (z : ℤ). z +ℤ pitch c.args.wire.now) (ap (λ (z : ℤ). z +ℤ c.args.wire.now.space) same ∙ trunk);
      width = c.extents_behind.ensures.width ∙ ap (λ (z : ℤ). z +ℤ (pos 2 *ℤ pitch c.args.wire.now)) (ap (λ (z : ℤ). z +ℤ c.args.wire.now.space) same ∙ trunk);
      height = c.extents_behind.ensures.height ∙ (kept _ c.upper_edge-height.ensures.near (omega arith) ∙ (upper ∙ omega (arith, ints, low.above, low.below, tall)));
    }

pub returns-clause-power : goal.returns-clause-power
returns-clause-power c =
    let few = few_banks (numbers_of c.args.plan.now) c.requires.plan in
    let some = some_banks (numbers_of c.args.plan.now) c.requires.plan in
    let left = bank_end_is _ _ _ c.banks_end-banks.ensures c.requires.near.bank_width few in
    let near = bank_end_near _ _ _ left c.requires.near.bank_width few in
    let first = first_width _ c.args.floorplan.now.bank_width some few c.requires.near.bank_width.above in
    let banks = c.right_end.ensures.behind_banks in
    let logic = c.right_end.ensures.behind_logic in
    let from = c.requires.near.logic_x in
    let logic_is = c.logic_end-logic.ensures.is in
    let logic_near = c.logic_end-logic.ensures.near in
    let end = c.right_end.ensures.near in
    let at = c.extents_behind.ensures.power in
    let s = c.requires.sizes.space in
    let columns = c.requires.columns in
    record {
      logic = omega (arith, ints, logic, from.above, from.below, logic_is, logic_near.above, logic_near.below, end.above, end.below, at, s.from, s.to);
      columns = omega (arith, ints, banks, left, first, near.above, near.below, end.above, end.below, at, s.from, s.to, columns);
      near = omega (arith, ints, end.above, end.below, at, s.from, s.to);
    }

pub returns-clause-ground : goal.returns-clause-ground
returns-clause-ground c =
    let few = few_banks (numbers_of c.args.plan.now) c.requires.plan in
    let some = some_banks (numbers_of c.args.plan.now) c.requires.plan in
    let left = bank_end_is _ _ _ c.banks_end-banks.ensures c.requires.near.bank_width few in
    let near = bank_end_near _ _ _ left c.requires.near.bank_width few in
    let first = first_width _ c.args.floorplan.now.bank_width some few c.requires.near.bank_width.above in
    let banks = c.right_end.ensures.behind_banks in
    let logic = c.right_end.ensures.behind_logic in
    let from = c.requires.near.logic_x in
    let logic_is = c.logic_end-logic.ensures.is in
    let logic_near = c.logic_end-logic.ensures.near in
    let end = c.right_end.ensures.near in
    let at = c.extents_behind.ensures.ground in
    let s = c.requires.sizes.space in
    let w = c.requires.sizes.width in
    let columns = c.requires.columns in
    record {
      logic = omega (arith, ints, logic, from.above, from.below, logic_is, logic_near.above, logic_near.below, end.above, end.below, at, s.from, s.to, w.from, w.to);
      columns = omega (arith, ints, banks, left, first, near.above, near.below, end.above, end.below, at, s.from, s.to, w.from, w.to, columns);
      near = omega (arith, ints, end.above, end.below, at, s.from, s.to, w.from, w.to);
    }
