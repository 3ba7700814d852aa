use Rattle.std.proofs.Common.{◌≡◌, ◌+◌, ◌<◌, ◌≤◌, List, ◌∷◌, length, drop, sym, subst}
use Rattle.std.proofs.lemmas.List.{drop_all}
use Rattle.std.proofs.lemmas.Option.{get_or_from_slice_get}
use Rattle.or_geom.proofs.ListLaws.{rest_at}
use Rattle.drawn_devices.specs.declared.drawn.DeviceChannel.{DeviceChannel}
use Rattle.drawn_devices.proofs.SameLayerLaws.{exists_at, same_begins, same_more, same_ends, stands_there}
use Rattle.drawn_devices.proofs.same_layers.add_same_channels.Goals as goal

pub loop-place-init : goal.loop-place-init
loop-place-init c = same_begins c.args._cell.now c.args.index c.args.other c.args.out.now c.requires.cut c.requires.first

pub loop-place-preserved : goal.loop-place-preserved
loop-place-preserved c =
    let cell = c.args._cell.now in
    let old = c.args.out.now in
    let place = c.loop-place.place in
    let channels = c.loop-place.out in
    let inside : place < length old = subst (λ (l : List DeviceChannel). place < length l) c.as_slice-place-end.ensures c.loop-place-test.true in
    let here = exists_at old place inside in
    let begins : drop place old ≡ here.0 ∷ drop (place + 1) old = rest_at old place here.0 inside (sym (get_or_from_slice_get old place here.0 here.0 here.1)) in
    let there = stands_there cell c.args.index c.args.other old place here.0 (drop place old) channels here.1 c.loop-place.invariant in
    same_more cell c.args.index c.args.other old place here.0 (drop place old) (drop (place + 1) old) channels c.add_same.new.out begins c.requires.cut c.requires.alike c.in_ok-add_same.ensures there c.loop-place.invariant

pub returns : goal.returns
returns c =
    let old = c.args.out.now in
    let past : length old ≤ c.loop-place.place = subst (λ (l : List DeviceChannel). length l ≤ c.loop-place.place) c.as_slice-place-end.ensures c.loop-place-test.false in
    same_ends c.args._cell.now c.args.index c.args.other old (drop c.loop-place.place old) c.loop-place.out (drop_all c.loop-place.place old past) c.requires.alike c.requires.first c.loop-place.invariant
