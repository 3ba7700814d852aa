-- The clock's rail and the precharge cells.
use Rattle.std.proofs.Common.{pos, sym, subst, ◌∙◌, arith}
use Rattle.std.specs.List.{AllByRecursion}
use Rattle.std.proofs.lemmas.Int.{ints}
use Rattle.or_geom.specs.Distance.{IsNear}
use Rattle.leaf_tables.specs.declared.part.Edge.{Edge}
use Rattle.sram_plan.specs.PlanNumbers.{organization}
use Rattle.floorplan.specs.FloorplanNumbers.{floorplan_of}
use Rattle.bank_layout.proofs.BuiltLaws.{narrow_of}
use Rattle.bank_layout.proofs.BankEdgeLaws.{columns_near}
use Rattle.bank_layout.proofs.EdgeListLaws.{top_as}
use Rattle.bank_layout.proofs.edges.top_edges.Goals as goal

pub add_moved_edges-requires-clause-near : goal.add_moved_edges-requires-clause-near
add_moved_edges-requires-clause-near c =
    let plan = organization c.args.plan.now in
    subst (AllByRecursion (λ (e : Edge). IsNear e.x)) (sym (c.deref.ensures.value ∙ c.in_ok-columns.ensures)) (columns_near c.args.kit.now plan c.args.name.now (pos c.args.sides.now.precharge_height) (narrow_of c.args.kit.now plan c.requires.kit c.requires.plan.plan.columns))

pub returns : goal.returns
returns c = λ wire wired.
    let x = c.columns_x.ensures.near in
    let is = c.columns_x.ensures.is in
    let gate = c.requires.sides_of.gate_width in
    let drive = c.requires.sides_of.driver_width in
    top_as c.args.kit.now (organization c.args.plan.now) wire (floorplan_of c.args.floorplan.now) c.args.name.now c.args.ports.now _ _ _ _ _ _ _ c.new-edges.ensures.items (c.in_ok-add_clock_edge.ensures wire wired) c.in_ok-add_moved_edges.ensures
    (c.deref.ensures.value ∙ c.in_ok-columns.ensures) c.sorted_edges.ensures c.requires.sides_of.precharge_height (omega (arith, ints, x.above, x.below, is, gate, drive))
