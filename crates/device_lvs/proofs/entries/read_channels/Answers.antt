use Rattle.std.proofs.Common.{◌≡◌, List, subst}
use Rattle.std.proofs.lemmas.List.{take_all}
use Rattle.std.proofs.lemmas.Option.{slice_get-get_or}
use Rattle.drawn_devices.specs.declared.drawn.DeviceChannel.{DeviceChannel}
use Rattle.device_lvs.specs.ChannelEntries.{AreEntries}
use Rattle.device_lvs.specs.Lookup.{table_names}
use Rattle.device_lvs.proofs.EntryLaws.{contained_channel, entries_more, first_nameless, none_nameless}
use Rattle.device_lvs.proofs.entries.read_channels.Goals as goal

pub read_channel-requires-clause-sound : goal.read_channel-requires-clause-sound
read_channel-requires-clause-sound c = c.requires.sound _ (contained_channel c.args.channels.now c.loop-place.place _ c.loop-place-test.true)

pub read_channel-requires-clause-there : goal.read_channel-requires-clause-there
read_channel-requires-clause-there c = c.requires.there _ (contained_channel c.args.channels.now c.loop-place.place _ c.loop-place-test.true)

pub returns-in-None : goal.returns-in-None
returns-in-None c =
    let nameless = rw c.in-None.is at c.in_ok-entry.ensures in
    first_nameless c.args.devices.now (table_names c.args.table.now) c.args.channels.now c.loop-place.entries c.loop-place.place _ (slice_get-get_or c.args.channels.now c.loop-place.place _ c.loop-place-test.true) c.loop-place.invariant nameless

pub loop-place-preserved : goal.loop-place-preserved
loop-place-preserved c =
    let of = rw c.in-Some.is at c.in_ok-entry.ensures in
    rw c.in_ok-push-in-Some.ensures.ok
    (entries_more c.args.devices.now (table_names c.args.table.now) c.args.channels.now c.loop-place.entries c.loop-place.place _ c.in-Some.entry (slice_get-get_or c.args.channels.now c.loop-place.place _ c.loop-place-test.true) c.loop-place.invariant of)

pub returns : goal.returns
returns c =
    let names = table_names c.args.table.now in
    let are : AreEntries c.args.devices.now names c.args.channels.now c.loop-place.entries =
    subst (λ (l : List DeviceChannel). AreEntries c.args.devices.now names l c.loop-place.entries) (take_all c.loop-place.place c.args.channels.now c.loop-place-test.false) c.loop-place.invariant in
    (none_nameless c.args.devices.now names c.args.channels.now c.loop-place.entries are, rw c.into_vec.ensures are)
