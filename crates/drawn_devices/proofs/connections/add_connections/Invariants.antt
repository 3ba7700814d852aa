use Rattle.std.proofs.Common.{drop}
use Rattle.or_geom.proofs.GatheringLaws.{IsGathering}
use Rattle.drawn_devices.specs.Connections.{GivesConnection}
use Rattle.drawn_devices.proofs.connections.add_connections.Given as goal

abbrev pub invariant-loop-connect : goal.invariant-loop-connect
invariant-loop-connect l = IsGathering (GivesConnection l.devices) l.connects (drop l.connect-index l.connects) l.fn.out.items l.out.items
