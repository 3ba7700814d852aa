use Rattle.std.proofs.Common.{List, IfOk, sym, subst}
use Rattle.drawn_devices.specs.declared.drawn.DeviceChannel.{DeviceChannel}
use Rattle.drawn_devices.specs.declared.drawn.NetName.{NetName}
use Rattle.device_lvs.specs.ChannelEntries.{IsNotSound, HasNoneOf}
use Rattle.device_lvs.specs.EntrySteps.{HaveDevices, AreReadAs}
use Rattle.device_lvs.specs.Lookup.{table_names}
use Rattle.device_lvs.proofs.EntryLaws.{AreSameNames, ok_moved}
use Rattle.device_lvs.proofs.entries.channel_entries.Goals as goal

pub read_channels-requires-clause-sound : goal.read_channels-requires-clause-sound
read_channels-requires-clause-sound c = subst (HasNoneOf IsNotSound) (sym c.as_slice-2.ensures) c.requires.sound

pub read_channels-requires-clause-there : goal.read_channels-requires-clause-there
read_channels-requires-clause-there c = subst (HaveDevices c.args.devices.now) (sym c.as_slice-2.ensures) c.requires.there

pub returns : goal.returns
returns c =
    let names = c.args.drawn.now.names in
    let others = table_names c.in_ok-table.table in
    let same : AreSameNames names others = subst (λ (l : List NetName). AreSameNames l others) c.as_slice.ensures c.in_ok-table.ensures.names.same in
    subst (λ (l : List DeviceChannel). IfOk c.read_channels.result (AreReadAs c.args.devices.now names l)) c.as_slice-2.ensures (ok_moved c.args.devices.now names others c.as_slice-2.result.now c.read_channels.result same c.read_channels.ensures)
