-- A bit more.
use Rattle.std.proofs.Common.{◌*◌, ap, ◌∙◌, arith, ℕ}
use Rattle.sram_netlist.specs.Organization.{words_per_row}
use Rattle.sram_plan.specs.PlanNumbers.{organization}
use Rattle.macro_layout.specs.Cells.{write_at}
use Rattle.floorplan.specs.LayoutOfKit.{layout_kit}
use Rattle.port_lists.proofs.TabulateLaws.{grown_as, all_of}
use Rattle.floorplan.proofs.PlaceLaws.{at_same}
use Rattle.port_data.proofs.cell.add_writes.Goals as goal

pub loop-bit-preserved : goal.loop-bit-preserved
loop-bit-preserved c =
    grown_as _ _ _ _ c.loop-bit.bit (write_at (organization c.args.plan.now) (layout_kit c.args.kit.now)) c.loop-bit.invariant c.in_ok-push.ensures.items
    (at_same _ _ _ _ _ _ c.in_ok-leaf_at.ensures (c.slice_x-x.ensures ∙ ap (λ (w : ℕ). (c.loop-bit.bit * words_per_row (organization c.args.plan.now)) * w) c.leaf_width-width.ensures.is))

pub returns : goal.returns
returns c = all_of _ _ c.loop-bit.bit _ (write_at (organization c.args.plan.now) (layout_kit c.args.kit.now)) c.loop-bit.invariant (omega arith)
