-- The edges of the columns are those of the pins at the sides.
use Rattle.std.proofs.Common.{◌≡◌, ◌<◌, pos, arith, to_z, of_z, w64}
use Rattle.std.proofs.lemmas.Int.{ints}
use Rattle.sram_plan.specs.PlanNumbers.{organization}
use Rattle.macro_layout.specs.Places.{bit_height}
use Rattle.floorplan.specs.LayoutOfKit.{layout_kit}
use Rattle.bitcell_array.specs.ArrayPart.{array_height}
use Rattle.bitcell_array.proofs.EdgeLaws.{top_in_order, bottom_in_order}
use Rattle.bitcell_array.proofs.part.edges_of.Goals as goal

pub returns-clause-edges : goal.returns-clause-edges
returns-clause-edges c =
    let kit = c.args.kit.now in
    let plan = organization c.args.plan.now in
    let some = c.in_ok-sides.ensures.are.bit_height.from in
    let bit = c.in_ok-sides.ensures.of.bit_height in
    let tall : 0 < bit_height (layout_kit kit) = omega (arith, some, bit) in
    let is = c.height_of.ensures.is (layout_kit kit) c.in_ok-sides.ensures.of in
    let few = c.height_of.ensures.few in
    let read = c.from-2.ensures in
    let high : to_z w64 (of_z w64 c.from-2.result) ≡ pos (array_height plan (layout_kit kit)) = omega (arith, ints, is, few, read) in
    record {
      top = top_in_order kit plan c.requires.kit tall _ _ high c.in_ok-column_edges.ensures;
      bottom = bottom_in_order kit plan c.requires.kit tall _ c.in_ok-column_edges-2.ensures;
    }

pub returns-clause-width : goal.returns-clause-width
returns-clause-width c =
    let is = c.width_of.ensures.is (layout_kit c.args.kit.now) c.in_ok-sides.ensures.of in
    let few = c.width_of.ensures.few in
    let read = c.from.ensures in
    omega (arith, ints, is, few, read)

pub returns-clause-height : goal.returns-clause-height
returns-clause-height c =
    let is = c.height_of.ensures.is (layout_kit c.args.kit.now) c.in_ok-sides.ensures.of in
    let few = c.height_of.ensures.few in
    let read = c.from-2.ensures in
    omega (arith, ints, is, few, read)
