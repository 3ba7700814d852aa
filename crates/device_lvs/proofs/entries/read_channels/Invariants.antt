use Rattle.std.proofs.Common.{take}
use Rattle.device_lvs.specs.ChannelEntries.{AreEntries}
use Rattle.device_lvs.specs.Lookup.{table_names}
use Rattle.device_lvs.proofs.entries.read_channels.Given as goal

abbrev pub invariant-loop-place : goal.invariant-loop-place
invariant-loop-place l = AreEntries l.devices (table_names l.table) (take l.place l.channels) l.entries
