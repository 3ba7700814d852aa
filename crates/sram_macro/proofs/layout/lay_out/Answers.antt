-- The macro on its floorplan.
use Rattle.std.proofs.Common.{◌≡◌, ℕ, Result, IfOk, IfErr, inl, inr, sym, subst, ◌∙◌}
use Rattle.std.proofs.lemmas.Option.{same_Some}
use Rattle.std.proofs.lemmas.Result.{err_from_is_err_and}
use Rattle.wire_drawing.specs.declared.route.RouteFault.{RouteFault}
use Rattle.channel_router.specs.declared.channel.Routed.{Routed}
use Rattle.sram_macro.specs.Layout.{IsMainFault, IsMainRouted}
use Rattle.tech_rules.specs.declared.tech.Wire.{Wire}
use Rattle.sram_plan.specs.PlanNumbers.{organization}
use Rattle.floorplan.specs.LayoutOfKit.{layout_kit}
use Rattle.macro_layout.specs.Floorplan.{IsFloorplan}
use Rattle.floorplan.specs.FloorplanNumbers.{floorplan_of}
use Rattle.bank_layout.specs.BankTaps.{IsBankFault}
use Rattle.bank_layout.specs.Near.{IsBankGiven}
use Rattle.bank_layout.proofs.BuiltLaws.{column_near}
use Rattle.sram_macro.proofs.LayoutLaws.{some_floorplan}
use Rattle.sram_macro.proofs.layout.lay_out.Goals as goal

pub bank_wires-requires-clause-given : goal.bank_wires-requires-clause-given
bank_wires-requires-clause-given c = λ wire wired.
    let plan = organization c.args.plan.now in
    let kit = layout_kit c.args.kit.now in
    let here = c.wire_of-wire.result.now in
    let same = same_Some here wire (sym c.wire_of-wire.ensures.is ∙ wired) in
    let stands = c.floorplan-stands.ensures.stated kit c.in_ok-sides.ensures.of in
    let near = column_near c.routed_shapes_are_near.ensures c.args.kit.now.tech.layers c.args.kit.now plan here c.args.column.now c.wire_of-wire.ensures.wire c.wire_of-wire.ensures.is c.requires.column in
    subst (λ (w : Wire). IsBankGiven plan kit w (floorplan_of c.floorplan-stands.result) c.args.column.now) same (record { stands = (c.tracks_of.result, stands); near = near })

pub route_main-main-requires-clause-stands : goal.route_main-main-requires-clause-stands
route_main-main-requires-clause-stands c = (_, c.floorplan-begun.ensures.stated (layout_kit c.args.kit.now) c.in_ok-sides.ensures.of)

pub returns-in_err-sides-clause-fault : goal.returns-in_err-sides-clause-fault
returns-in_err-sides-clause-fault c =
    let plan = organization c.args.plan.now in
    let kit = layout_kit c.args.kit.now in
    let here = c.wire_of-wire.result.now in
    let track = c.args.column.now.track in
    let p = err_from_is_err_and c.from_residual.result c.from_residual.ensures.1 in
    let f = some_floorplan plan kit here (record { main = 0; column = c.args.column.now.tracks }) in
    let is = subst (IsBankFault c.args.kit.now.leaves plan kit here f.0 track) (sym p.2) tt in
    rw p.1 (here, c.wire_of-wire.ensures.is, inl (record { tracks = 0; floorplan = f.0; stands = f.1; is = is }))

pub returns-in_err-bank-clause-fault : goal.returns-in_err-bank-clause-fault
returns-in_err-bank-clause-fault c =
    let plan = organization c.args.plan.now in
    let kit = layout_kit c.args.kit.now in
    let here = c.wire_of-wire.result.now in
    let floorplan = floorplan_of c.floorplan-stands.result in
    let p = err_from_is_err_and c.from_residual-in_err-bank.result c.from_residual-in_err-bank.ensures.1 in
    let is = subst (IsBankFault c.args.kit.now.leaves plan kit here floorplan c.args.column.now.track) (sym p.2) (c.in_err-bank.ensures.fault here c.wire_of-wire.ensures.is) in
    rw p.1 (here, c.wire_of-wire.ensures.is, inl (record { tracks = c.tracks_of.result; floorplan = floorplan; stands = c.floorplan-stands.ensures.stated kit c.in_ok-sides.ensures.of; is = is }))

pub returns-in_err-main-clause-fault : goal.returns-in_err-main-clause-fault
returns-in_err-main-clause-fault c =
    let plan = organization c.args.plan.now in
    let kit = layout_kit c.args.kit.now in
    let here = c.wire_of-wire.result.now in
    let p = err_from_is_err_and c.from_residual-in_err-main.result c.from_residual-in_err-main.ensures.1 in
    let is : IsMainFault plan kit here c.in_err-main.field-0.0 = subst (λ (r : Result Routed RouteFault). IfErr r (IsMainFault plan kit here)) c.in_err-main.was c.route_main-main.ensures.fault in
    rw p.1 (here, c.wire_of-wire.ensures.is, inr (record { tracks = c.tracks_of.result; floorplan = floorplan_of c.floorplan-stands.result; stands = c.floorplan-stands.ensures.stated kit c.in_ok-sides.ensures.of; apart = c.in_ok-bank.ensures.apart here c.wire_of-wire.ensures.is; route = c.in_err-main.field-0.0; is = is; same = p.2 }))

pub returns-clause-layout : goal.returns-clause-layout
returns-clause-layout c =
    let plan = organization c.args.plan.now in
    let kit = layout_kit c.args.kit.now in
    let here = c.wire_of-wire.result.now in
    let of = c.in_ok-sides.ensures.of in
    let tracks : c.tracks_of.result ≡ c.in_ok-main.main.tracks = subst (λ (r : Result Routed RouteFault). IfOk r (λ (x : Routed). c.tracks_of.result ≡ x.tracks)) c.in_ok-main.was c.tracks_of.ensures.is in
    let on = c.floorplan-stands.ensures.stated kit of in
    record {
      wire = here;
      wired = c.wire_of-wire.ensures.is;
      sides = c.in_ok-sides.ensures.are;
      sides_of = of;
      stands = subst (λ (n : ℕ). IsFloorplan plan kit here (record { main = n; column = c.args.column.now.tracks }) (floorplan_of c.floorplan-stands.result)) tracks (c.floorplan-stands.ensures.stated kit of);
      near = c.floorplan-stands.ensures.near;
      ends = c.extents_of.ensures.are kit of (c.row_width.ensures.is plan c.requires.row);
      near_ends = c.extents_of.ensures.near;
      power = c.extents_of.ensures.power;
      ground = c.extents_of.ensures.ground;
      bank_rises = c.in_ok-bank.ensures.rises;
      bank_wires = c.in_ok-bank.ensures.stated here c.wire_of-wire.ensures.is (c.requires.column.stated here (floorplan_of c.floorplan-stands.result) c.wire_of-wire.ensures.is (record { row_x = on.row_x; sense_y = on.sense_y }));
      taps_apart = c.in_ok-bank.ensures.apart here c.wire_of-wire.ensures.is;
      bank = λ s there. c.in_ok-bank.ensures.near here c.wire_of-wire.ensures.is s there;
      main = subst (λ (r : Result Routed RouteFault). IfOk r (IsMainRouted plan kit here)) c.in_ok-main.was c.route_main-main.ensures.routed;
    }

pub row_width-requires-clause-row : goal.row_width-requires-clause-row
row_width-requires-clause-row c = (organization c.args.plan.now, c.requires.plan.plan, c.requires.row)
