-- One pin more.
use Rattle.std.proofs.Common.{◌+ℤ◌, ℕ, pos, get_or, w64, refl, sym, arith}
use Rattle.std.specs.Prelude.{slice_index}
use Rattle.std.proofs.lemmas.Int.{ints, to_z-of_z}
use Rattle.std.proofs.lemmas.List.{drop_all}
use Rattle.std.proofs.lemmas.Option.{slice_get-get_or, get_or_from_slice_get}
use Rattle.or_geom.specs.Distance.{IsNear}
use Rattle.or_geom.proofs.ListLaws.{rest_at}
use Rattle.or_geom.proofs.GatheringLaws.{gather_goes_on, gather_ends}
use Rattle.wire_drawing.specs.Drawing.{IsBox, IsVia}
use Rattle.wire_drawing.proofs.DrawingLaws.{same_box}
use Rattle.channel_router.specs.declared.channel.ChannelPin.{ChannelPin}
use Rattle.channel_router.specs.Wires.{channel_height, track_y}
use Rattle.channel_router.proofs.WireLaws.{pin_adds, kept, y_is, y_above, x_above, room_at, room_near}
use Rattle.channel_router.proofs.wires.add_bottom.Goals as goal

pub invariant_of-rect : goal.invariant_of-rect
invariant_of-rect c =
    let none : ChannelPin = record { x = pos 0; net = 0 } in
    let pin : ChannelPin = get_or c.args.pins.now c.loop-pin.pin-index none in
    let near : IsNear pin.x = c.requires.near_pins c.loop-pin.pin-index none c.loop-pin-test.true in
    let inside = c.requires.of_nets c.loop-pin.pin-index none c.loop-pin-test.true in
    let w = c.requires.sizes.width in
    let room = c.channel_height.ensures.room in
    let x2 = x_above pin.x c.args.wire.now.width near w.from w.to in
    let x1 = kept pin.x near in
    let y2 = y_above c.args.low c.channel_height.result c.channel_height.result c.args.wire.now.width c.requires.near room refl w.from w.to in
    let y1 = kept c.args.low c.requires.near in
    record {
      wide = rw (x2, x1) (omega (arith, ints, w.from));
      tall = rw (y2, y1) (omega (arith, ints, w.from, room.above));
    }

pub via-requires-clause-room_x : goal.via-requires-clause-room_x
via-requires-clause-room_x c = room_near _ (c.requires.near_pins c.loop-pin.pin-index (record { x = pos 0; net = 0 }) c.loop-pin-test.true)

pub via-requires-clause-room_y : goal.via-requires-clause-room_y
via-requires-clause-room_y c = room_at c.args.low c.channel_height.result c.requires.near c.channel_height.ensures.room

pub loop-pin-preserved : goal.loop-pin-preserved
loop-pin-preserved c =
    let none : ChannelPin = record { x = pos 0; net = 0 } in
    let pin : ChannelPin = get_or c.args.pins.now c.loop-pin.pin-index none in
    let near : IsNear pin.x = c.requires.near_pins c.loop-pin.pin-index none c.loop-pin-test.true in
    let inside = c.requires.of_nets c.loop-pin.pin-index none c.loop-pin-test.true in
    let t : ℕ = get_or c.args.track.now pin.net 0 in
    let w = c.requires.sizes.width in
    let value = c.channel_height.ensures.value in
    let room = c.channel_height.ensures.room in
    let here = slice_get-get_or c.args.pins.now c.loop-pin.pin-index none c.loop-pin-test.true in
    let y = y_is c.args.low c.channel_height.result (channel_height c.args.wire.now t) c.requires.near room value in
    let cut = rw (kept pin.x near, y) at c.via.ensures in
    let branch : IsBox (slice_index c.args.wire.now.metals 1) pin.x c.args.low (pin.x +ℤ c.args.wire.now.width) (track_y c.args.low c.args.wire.now t +ℤ c.args.wire.now.width) _ = record {
      on = refl;
      left = kept pin.x near;
      low = kept c.args.low c.requires.near;
      right = x_above pin.x c.args.wire.now.width near w.from w.to;
      high = y_above c.args.low c.channel_height.result (channel_height c.args.wire.now t) c.args.wire.now.width c.requires.near room value w.from w.to;
    } in
    rw (to_z-of_z w64 c.args.low c.ranges.low)
    (gather_goes_on _ c.args.pins.now _ _ pin _ _ _ (rest_at c.args.pins.now c.loop-pin.pin-index pin c.loop-pin-test.true (sym (get_or_from_slice_get c.args.pins.now c.loop-pin.pin-index pin pin here))) (rw (to_z-of_z w64 c.args.low c.ranges.low) at c.loop-pin.invariant)
    (pin_adds c.args.track.now pin.net t (λ u. IsBox (slice_index c.args.wire.now.metals 1) pin.x c.args.low (pin.x +ℤ c.args.wire.now.width) (track_y c.args.low c.args.wire.now u +ℤ c.args.wire.now.width)) (λ u. IsVia c.args.wire.now 1 pin.x (track_y c.args.low c.args.wire.now u)) _ _ _ _ _ (slice_get-get_or c.args.track.now pin.net 0 inside) c.in_ok-push.ensures.items c.in_ok-push-2.ensures.items branch cut
    (λ s is. same_box _ _ _ _ _ s _ is branch) (λ s is. same_box _ _ _ _ _ s _ is cut)))

pub returns : goal.returns
returns c = rw (to_z-of_z w64 c.args.low c.ranges.low) at (gather_ends _ _ _ _ _ (drop_all c.loop-pin.pin-index c.args.pins.now c.loop-pin-test.false) c.loop-pin.invariant)
