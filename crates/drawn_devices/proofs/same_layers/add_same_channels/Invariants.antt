use Rattle.std.proofs.Common.{drop}
use Rattle.drawn_devices.proofs.SameLayerLaws.{AreSameTo}
use Rattle.drawn_devices.proofs.same_layers.add_same_channels.Given as goal

abbrev pub invariant-loop-place : goal.invariant-loop-place
invariant-loop-place l = AreSameTo l._cell l.index l.other l.fn.out (drop l.place l.fn.out) l.out
