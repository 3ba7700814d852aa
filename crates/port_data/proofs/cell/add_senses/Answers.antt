-- A bit more.
use Rattle.std.proofs.Common.{◌*◌, ap, ◌∙◌, arith, ℕ}
use Rattle.sram_netlist.specs.Organization.{words_per_row}
use Rattle.std.proofs.lemmas.Int.{ints}
use Rattle.sram_plan.specs.PlanNumbers.{organization}
use Rattle.macro_layout.specs.Cells.{sense_at}
use Rattle.floorplan.specs.LayoutOfKit.{layout_kit}
use Rattle.port_lists.proofs.TabulateLaws.{grown_as, all_of}
use Rattle.floorplan.proofs.PlaceLaws.{at_same_spot}
use Rattle.port_data.proofs.cell.add_senses.Goals as goal

pub loop-bit-preserved : goal.loop-bit-preserved
loop-bit-preserved c = λ floorplan level.
    grown_as _ _ _ _ c.loop-bit.bit (sense_at (organization c.args.plan.now) (layout_kit c.args.kit.now) floorplan) (c.loop-bit.invariant floorplan (let fits = c.ranges.y in omega (arith, ints, fits, level))) c.in_ok-push.ensures.items
    (at_same_spot _ _ _ _ _ _ _ c.in_ok-leaf_at.ensures (c.slice_x-x.ensures ∙ ap (λ (w : ℕ). (c.loop-bit.bit * words_per_row (organization c.args.plan.now)) * w) c.leaf_width-width.ensures.is) (let fits = c.ranges.y in omega (arith, ints, fits, level)))

pub returns : goal.returns
returns c = λ floorplan level. all_of _ _ c.loop-bit.bit _ (sense_at (organization c.args.plan.now) (layout_kit c.args.kit.now) floorplan) (c.loop-bit.invariant floorplan (let fits = c.ranges.y in omega (arith, ints, fits, level))) (omega arith)
