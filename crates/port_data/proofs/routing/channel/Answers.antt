-- The channel of the formula, routed.
use Rattle.std.proofs.Common.{ap, sym, subst, ◌∙◌}
use Rattle.std.proofs.lemmas.Option.{same_Some}
use Rattle.std.proofs.lemmas.Result.{err_from_is_err_and}
use Rattle.tech_rules.specs.declared.tech.Wire.{Wire}
use Rattle.tech_rules.specs.Facts.{AreSizes}
use Rattle.channel_router.specs.declared.channel.Channel.{Channel}
use Rattle.channel_router.specs.Channel.{IsChannel}
use Rattle.channel_router.specs.Routed.{HasClosePins, IsRouted, IsRouteFault}
use Rattle.sram_plan.specs.PlanNumbers.{organization}
use Rattle.floorplan.specs.LayoutOfKit.{layout_kit}
use Rattle.port_data.specs.Pins.{column_channel}
use Rattle.port_data.proofs.RoutedLaws.{column_routed, column_fault}
use Rattle.port_data.specs.Column.{IsColumnFault, IsNearColumnChannel, IsNearColumnRouted}
use Rattle.port_data.proofs.ChannelLaws.{is_channel, is_near}
use Rattle.floorplan.proofs.DemandLaws.{seven_layers}
use Rattle.port_data.proofs.KitLaws.{near_kit}
use Rattle.port_data.proofs.TrackCountLaws.{few_tracks}
use Rattle.port_data.proofs.routing.channel.Goals as goal

pub route-requires-clause-layers : goal.route-requires-clause-layers
route-requires-clause-layers c = seven_layers c.wire_of-wire.result.now c.args.kit.now.tech.layers c.wire_of-wire.ensures.wire

pub route-requires-clause-channel : goal.route-requires-clause-channel
route-requires-clause-channel c = subst IsChannel (sym c.in_ok-meant.ensures) (is_channel _ _ _ (near_kit c.args.kit.now c.args.plan.now c.wire_of-wire.result.now c.requires.kit c.requires.plan c.wire_of-wire.ensures.wire.sizes))

pub returns-clause-column : goal.returns-clause-column
returns-clause-column c =
    let here = c.wire_of-wire.result.now in
    let plan = organization c.args.plan.now in
    let kit = layout_kit c.args.kit.now in
    let routed = c.in_ok-route.field-0 in
    let by = c.in_ok-route.ensures.routed in
    let near = subst IsNearColumnChannel (sym c.in_ok-meant.ensures) (is_near _ _ _ (near_kit c.args.kit.now c.args.plan.now here c.requires.kit c.requires.plan c.wire_of-wire.ensures.wire.sizes)) in
    record {
      words = c.requires.plan.plan.words;
      few = few_tracks c.in_ok-meant.meant here by.0 routed near.nets by.1 c.in_ok-route.ensures.dense;
      each = by.1.lowest.each ∙ (by.1.nets.each ∙ ap (λ (ch : Channel). ch.nets) c.in_ok-meant.ensures);
      near = λ wire wired.
          let same = same_Some here wire (sym c.wire_of-wire.ensures.is ∙ wired) in
          subst (λ (w : Wire). IsNearColumnRouted w routed) same (record { channel = c.in_ok-meant.meant; near = near; intervals = by.0; is = by.1 });
      stated = λ wire floorplan wired bank.
          let same = same_Some here wire (sym c.wire_of-wire.ensures.is ∙ wired) in
          let is = subst (λ (ch : Channel). IsRouted ch here by.0 routed) c.in_ok-meant.ensures by.1 in
          column_routed plan kit wire floorplan by.0 routed (subst AreSizes same c.wire_of-wire.ensures.wire.sizes) bank (subst (λ (w : Wire). IsRouted (column_channel plan kit w) w by.0 routed) same is);
      apart = λ wire wired close.
          let same = same_Some here wire (sym c.wire_of-wire.ensures.is ∙ wired) in
          c.in_ok-route.ensures.apart (subst (λ (ch : Channel). HasClosePins ch here) (sym c.in_ok-meant.ensures) (subst (λ (w : Wire). HasClosePins (column_channel plan kit w) w) (sym same) close));
    }

pub returns-in_err-route-clause-fault : goal.returns-in_err-route-clause-fault
returns-in_err-route-clause-fault c =
    let here = c.wire_of-wire.result.now in
    let plan = organization c.args.plan.now in
    let kit = layout_kit c.args.kit.now in
    let p = err_from_is_err_and c.from_residual-in_err-route.result c.from_residual-in_err-route.ensures.1 in
    let is = column_fault plan kit here c.in_err-route.field-0.0 (subst (λ (ch : Channel). IsRouteFault ch here c.in_err-route.field-0.0) c.in_ok-meant.ensures c.in_err-route.ensures.fault) in
    rw p.1 (λ wire wired. subst (λ (w : Wire). IsColumnFault plan kit w p.0) (same_Some here wire (sym c.wire_of-wire.ensures.is ∙ wired)) (subst (IsColumnFault plan kit here) (sym p.2) is))
