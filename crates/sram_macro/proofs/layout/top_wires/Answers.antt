-- The supplies are added.
use Rattle.std.proofs.Common.{ℤ, ◌∙◌, sym, subst, arith}
use Rattle.sram_plan.specs.PlanNumbers.{organization}
use Rattle.macro_layout.specs.Wires.{IsPowerWire, IsGroundWire}
use Rattle.floorplan.specs.FloorplanNumbers.{floorplan_of}
use Rattle.floorplan.specs.Trunks.{IsBehind}
use Rattle.sram_macro.proofs.ExtentLaws.{kept}
use Rattle.sram_macro.proofs.LayoutLaws.{both_added, begun_as}
use Rattle.sram_macro.proofs.layout.top_wires.Goals as goal

pub returns : goal.returns
returns c kit of ends s =
    begun_as _ _ s _ _ c.into_vec-shapes.ensures (both_added _ _ _ (IsPowerWire (organization c.args.plan.now) kit c.args.wire.now (floorplan_of c.args.floorplan.now)) (IsGroundWire (organization c.args.plan.now) kit c.args.wire.now (floorplan_of c.args.floorplan.now))
    (c.in_ok-add_power_wires.ensures kit of (kept _ c.requires.ends.power_x (omega arith) ∙ ends.power_x)) (c.in_ok-add_ground_wires.ensures kit of (kept _ c.requires.ends.ground_x (omega arith) ∙ ends.ground_x)) s)

pub add_power_wires-requires : goal.add_power_wires-requires
add_power_wires-requires c = record { plan = c.requires.plan; sides = c.requires.sides; sizes = c.requires.sizes; metals = c.requires.metals; cuts = c.requires.cuts; near = c.requires.near; behind = subst (λ (trunk : ℤ). IsBehind c.args.sides.now c.args.floorplan.now trunk) (sym (kept c.args.ends.now.power_x c.requires.ends.power_x (omega arith))) c.requires.power }

pub add_ground_wires-requires : goal.add_ground_wires-requires
add_ground_wires-requires c = record { plan = c.requires.plan; sides = c.requires.sides; sizes = c.requires.sizes; metals = c.requires.metals; cuts = c.requires.cuts; near = c.requires.near; behind = subst (λ (trunk : ℤ). IsBehind c.args.sides.now c.args.floorplan.now trunk) (sym (kept c.args.ends.now.ground_x c.requires.ends.ground_x (omega arith))) c.requires.ground }
