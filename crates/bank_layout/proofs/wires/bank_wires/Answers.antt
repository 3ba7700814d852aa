-- All wires fit.
use Rattle.std.proofs.Common.{w64, to_z, of_z, sym, subst, ◌∙◌, arith}
use Rattle.std.proofs.lemmas.Int.{ints}
use Rattle.std.proofs.lemmas.Option.{same_Some}
use Rattle.or_geom.proofs.ShapeOrderLaws.{same_shape}
use Rattle.sram_plan.specs.PlanNumbers.{organization}
use Rattle.floorplan.specs.FloorplanNumbers.{floorplan_of}
use Rattle.port_data.specs.Column.{IsColumnRouted}
use Rattle.bank_layout.specs.StatedWires.{AreWiresOfCell}
use Rattle.bank_layout.specs.BankTaps.{AreTapsApart}
use Rattle.tech_rules.specs.declared.tech.Wire.{Wire}
use Rattle.floorplan.specs.LayoutOfKit.{layout_kit}
use Rattle.bank_layout.specs.Near.{IsDrawableWire}
use Rattle.bank_layout.proofs.GivenLaws.{AreGiven, site_of, sense_above}
use Rattle.bank_layout.proofs.FinishLaws.{AreParts, all_drawable}
use Rattle.bank_layout.proofs.StatedLaws.{all_stated}
use Rattle.bank_layout.proofs.RailListLaws.{IsTapSite}
use Rattle.bank_layout.proofs.StatedTapLaws.{are_rail_lists}
use Rattle.bank_layout.proofs.wires.bank_wires.Goals as goal

pub add_output_wires-requires-clause-above : goal.add_output_wires-requires-clause-above
add_output_wires-requires-clause-above c =
    let wire = c.wire_of-wire.result.now in
    let g : AreGiven c.args.kit.now c.args.plan.now c.args.sides.now c.args.floorplan.now wire c.args.routed.now = record { is = c.requires.kit; plan_is = c.requires.plan; sides_are = c.requires.sides; sides_of = c.requires.sides_of; near = c.requires.near; wired = c.wire_of-wire.ensures.is; given = c.requires.given wire c.wire_of-wire.ensures.is } in
    (sense_above _ _ _ _ _ _ g).1

pub returns-clause-near : goal.returns-clause-near
returns-clause-near c other e s h =
    let wire = c.wire_of-wire.result.now in
    let g : AreGiven c.args.kit.now c.args.plan.now c.args.sides.now c.args.floorplan.now wire c.args.routed.now = record { is = c.requires.kit; plan_is = c.requires.plan; sides_are = c.requires.sides; sides_of = c.requires.sides_of; near = c.requires.near; wired = c.wire_of-wire.ensures.is; given = c.requires.given wire c.wire_of-wire.ensures.is } in
    let near = c.columns_x-left.ensures.near in
    let parts : AreParts c.args.kit.now c.args.plan.now c.args.floorplan.now wire c.args.routed.now (to_z w64 (of_z w64 c.columns_x-left.result)) c.as_slice.result.now _ _ _ c.add_bank_joiners.new.shapes.items = record {
      drawn = c.in_ok-shapes.ensures.drawn;
      by_near = record { above = omega (arith, ints, near.above, near.below); below = omega (arith, ints, near.above, near.below) };
      channel_is = c.as_slice.ensures;
      moved_are = c.in_ok-add_moved.ensures;
      outputs_are = c.in_ok-add_output_wires.ensures;
      joiners = c.in_ok-add_bank_joiners.ensures (layout_kit c.args.kit.now) c.requires.sides_of;
    } in
    subst (λ (w : Wire). IsDrawableWire w s) (same_Some wire other (sym c.wire_of-wire.ensures.is ∙ e)) (all_drawable _ _ _ _ wire _ g _ _ _ _ _ _ parts s (c.sort_distinct.ensures.adds_none s h))

pub returns-clause-stated : goal.returns-clause-stated
returns-clause-stated c other e column =
    let wire = c.wire_of-wire.result.now in
    let g : AreGiven c.args.kit.now c.args.plan.now c.args.sides.now c.args.floorplan.now wire c.args.routed.now = record { is = c.requires.kit; plan_is = c.requires.plan; sides_are = c.requires.sides; sides_of = c.requires.sides_of; near = c.requires.near; wired = c.wire_of-wire.ensures.is; given = c.requires.given wire c.wire_of-wire.ensures.is } in
    let near = c.columns_x-left.ensures.near in
    let parts : AreParts c.args.kit.now c.args.plan.now c.args.floorplan.now wire c.args.routed.now (to_z w64 (of_z w64 c.columns_x-left.result)) c.as_slice.result.now _ _ _ c.add_bank_joiners.new.shapes.items = record {
      drawn = c.in_ok-shapes.ensures.drawn;
      by_near = record { above = omega (arith, ints, near.above, near.below); below = omega (arith, ints, near.above, near.below) };
      channel_is = c.as_slice.ensures;
      moved_are = c.in_ok-add_moved.ensures;
      outputs_are = c.in_ok-add_output_wires.ensures;
      joiners = c.in_ok-add_bank_joiners.ensures (layout_kit c.args.kit.now) c.requires.sides_of;
    } in
    let same = same_Some wire other (sym c.wire_of-wire.ensures.is ∙ e) in
    let routed : IsColumnRouted (organization c.args.plan.now) (layout_kit c.args.kit.now) wire (floorplan_of c.args.floorplan.now) c.args.routed.now =
    subst (λ (w : Wire). IsColumnRouted (organization c.args.plan.now) (layout_kit c.args.kit.now) w (floorplan_of c.args.floorplan.now) c.args.routed.now) (sym same) column in
    let is = c.columns_x-left.ensures.is in
    let gate = c.requires.sides_of.gate_width in
    let drive = c.requires.sides_of.driver_width in
    let taps : IsTapSite c.args.kit.now (organization c.args.plan.now) wire (floorplan_of c.args.floorplan.now) c.args.routed.now = record { site = site_of _ _ _ _ _ _ g; wired = c.wire_of-wire.ensures.is; column = routed } in
    let lists = are_rail_lists _ _ _ _ _ parts.drawn.taps taps parts.drawn.are in
    let stated = subst (λ (w : Wire). AreWiresOfCell (organization c.args.plan.now) (layout_kit c.args.kit.now) w c.args.routed.now.tracks (floorplan_of c.args.floorplan.now) c.add_bank_joiners.new.shapes.items) same
    (all_stated _ _ _ _ wire _ g _ _ _ _ _ _ parts (omega (arith, ints, near.above, near.below, is, gate, drive)) routed lists) in
    λ main s. (λ h. (stated main s).0 (c.sort_distinct.ensures.adds_none s h), λ h. c.sort_distinct.ensures.keeps same_shape s ((stated main s).1 h))

pub returns-clause-rises : goal.returns-clause-rises
returns-clause-rises c = c.sort_distinct.ensures.rises

pub returns-clause-apart : goal.returns-clause-apart
returns-clause-apart c = λ other e.
    let wire = c.wire_of-wire.result.now in
    subst (λ (w : Wire). AreTapsApart c.args.kit.now.leaves (organization c.args.plan.now) (layout_kit c.args.kit.now) w (floorplan_of c.args.floorplan.now) c.args.routed.now.track) (same_Some wire other (sym c.wire_of-wire.ensures.is ∙ e)) c.in_ok-shapes.ensures.apart
