-- The main channel, routed.
use Rattle.wire_drawing.specs.declared.route.RouteFault.{RouteFault}
use Rattle.sram_plan.specs.PlanNumbers.{organization}
use Rattle.floorplan.specs.LayoutOfKit.{layout_kit}
use Rattle.sram_macro.specs.Layout.{IsMainOf}
use Rattle.sram_macro.proofs.LayoutLaws.{stands_across, main_routed, main_fault, err_as}
use Rattle.sram_macro.proofs.layout.route_main.Goals as goal

pub returns-clause-routed : goal.returns-clause-routed
returns-clause-routed c =
    let plan = organization c.args.plan.now in
    let kit = layout_kit c.args.kit.now in
    let wire = c.args.wire.now in
    let is : IsMainOf plan kit wire c.in_ok-channel.channel = record {
      formula = λ tracks floorplan stands. c.in_ok-channel.ensures.formula wire floorplan c.requires.wired (stands_across plan kit wire c.requires.stands.0 tracks c.args.floorplan.now floorplan c.requires.stands.1 stands);
      stated = λ tracks floorplan stands. c.in_ok-channel.ensures.stated wire floorplan c.requires.wired (stands_across plan kit wire c.requires.stands.0 tracks c.args.floorplan.now floorplan c.requires.stands.1 stands);
      near = c.in_ok-channel.ensures.near;
      nets = c.in_ok-channel.ensures.nets;
      exits = c.in_ok-channel.ensures.exits;
      low = c.in_ok-channel.ensures.low;
    } in
    main_routed plan kit wire c.in_ok-channel.channel c.route.result c.tracks_are_few.ensures is c.in_ok-channel.ensures.few c.route.ensures.routed c.route.ensures.dense c.route.ensures.apart

pub returns-clause-fault : goal.returns-clause-fault
returns-clause-fault c =
    let plan = organization c.args.plan.now in
    let kit = layout_kit c.args.kit.now in
    let wire = c.args.wire.now in
    let is : IsMainOf plan kit wire c.in_ok-channel.channel = record {
      formula = λ tracks floorplan stands. c.in_ok-channel.ensures.formula wire floorplan c.requires.wired (stands_across plan kit wire c.requires.stands.0 tracks c.args.floorplan.now floorplan c.requires.stands.1 stands);
      stated = λ tracks floorplan stands. c.in_ok-channel.ensures.stated wire floorplan c.requires.wired (stands_across plan kit wire c.requires.stands.0 tracks c.args.floorplan.now floorplan c.requires.stands.1 stands);
      near = c.in_ok-channel.ensures.near;
      nets = c.in_ok-channel.ensures.nets;
      exits = c.in_ok-channel.ensures.exits;
      low = c.in_ok-channel.ensures.low;
    } in
    err_as c.route.result _ _ (λ (e : RouteFault) close. main_fault plan kit wire c.in_ok-channel.channel e is close) c.route.ensures.fault
