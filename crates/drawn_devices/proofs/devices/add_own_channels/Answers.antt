use Rattle.std.proofs.Common.{◌≡◌, List, length, get_or, refl, sym, subst}
use Rattle.std.proofs.lemmas.Option.{slice_get_read}
use Rattle.or_geom.specs.declared.shape.Rect.{Rect}
use Rattle.tech_rules.specs.declared.tech.Device.{Device}
use Rattle.drawn_devices.specs.ChannelBoxes.{AreChannelBoxes, AreChannelGroups}
use Rattle.drawn_devices.specs.DrawnChannels.{IsChannelOf}
use Rattle.drawn_devices.proofs.DeviceLaws.{channels_begin, channels_next, channels_end}
use Rattle.drawn_devices.proofs.devices.add_own_channels.Goals as goal

pub loop-boxes-init : goal.loop-boxes-init
loop-boxes-init c = channels_begin c.args.cell.now c.args.index c.deref-boxes-items.result.now c.args.out.now c.requires.cut c.requires.first

pub channel_of-requires-clause-device : goal.channel_of-requires-clause-device
channel_of-requires-clause-device c =
    let device = c.index-as_slice-index.result in
    let devices = c.args.cell.now.tech.now.devices in
    slice_get_read devices (length devices) c.args.index device refl c.requires.inside (subst (λ (ds : List Device). device ≡ get_or ds c.args.index device) c.as_slice.ensures c.index-as_slice-index.is)

pub channel_of-requires-clause-boxes : goal.channel_of-requires-clause-boxes
channel_of-requires-clause-boxes c =
    let groups = c.deref-boxes-items.result.now in
    let are = subst (AreChannelGroups c.args.cell.now.shapes.now c.index-as_slice-index.result) (sym c.deref-boxes-items.ensures.value) c.in_ok-groups.ensures in
    let at = slice_get_read groups (length groups) c.loop-boxes.boxes-index c.boxes-item.result refl c.loop-boxes-test.true c.boxes-item.is in
    subst (AreChannelBoxes c.args.cell.now.shapes.now c.index-as_slice-index.result) (sym c.as_slice-in-loop-boxes.ensures) (are.each c.loop-boxes.boxes-index c.boxes-item.result at)

pub loop-boxes-preserved : goal.loop-boxes-preserved
loop-boxes-preserved c =
    let cell = c.args.cell.now in
    let groups = c.deref-boxes-items.result.now in
    let are = subst (AreChannelGroups cell.shapes.now c.index-as_slice-index.result) (sym c.deref-boxes-items.ensures.value) c.in_ok-groups.ensures in
    let at = slice_get_read groups (length groups) c.loop-boxes.boxes-index c.boxes-item.result refl c.loop-boxes-test.true c.boxes-item.is in
    let of = subst (λ (l : List Rect). IsChannelOf cell c.args.index l c.in_ok-channel_of.field-0) c.as_slice-in-loop-boxes.ensures c.in_ok-channel_of.ensures in
    channels_next cell c.args.index c.index-as_slice-index.result groups are c.loop-boxes.boxes-index c.boxes-item.result c.loop-boxes.out c.push.new.self c.in_ok-channel_of.field-0 at c.in_ok-push.ensures.ok of c.loop-boxes.invariant

pub returns : goal.returns
returns c =
    let cell = c.args.cell.now in
    let device = c.index-as_slice-index.result in
    let devices = cell.tech.now.devices in
    let are = subst (AreChannelGroups cell.shapes.now device) (sym c.deref-boxes-items.ensures.value) c.in_ok-groups.ensures in
    let is = subst (λ (ds : List Device). device ≡ get_or ds c.args.index device) c.as_slice.ensures c.index-as_slice-index.is in
    channels_end cell c.args.index device c.deref-boxes-items.result.now are c.loop-boxes.boxes-index c.loop-boxes.out (slice_get_read devices (length devices) c.args.index device refl c.requires.inside is) c.loop-boxes-test.false c.loop-boxes.invariant
