use Rattle.std.proofs.Common.{drop}
use Rattle.or_geom.proofs.GatheringLaws.{IsGathering}
use Rattle.drawn_devices.specs.Connections.{GivesAlone}
use Rattle.drawn_devices.proofs.connections.add_alone.Given as goal

abbrev pub invariant-loop-layer : goal.invariant-loop-layer
invariant-loop-layer l = IsGathering GivesAlone l.layers (drop l.layer-index l.layers) l.fn.out.items l.out.items
