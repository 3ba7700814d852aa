use Rattle.std.proofs.Common.{drop}
use Rattle.or_geom.proofs.GatheringLaws.{IsGathering}
use Rattle.drawn_devices.specs.Connections.{GivesDevice}
use Rattle.drawn_devices.proofs.connections.add_devices.Given as goal

abbrev pub invariant-loop-device : goal.invariant-loop-device
invariant-loop-device l = IsGathering GivesDevice l.devices (drop l.device-index l.devices) l.fn.out.items l.out.items
