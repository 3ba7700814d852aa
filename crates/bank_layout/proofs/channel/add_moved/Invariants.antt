use Rattle.std.proofs.Common.{pos, drop}
use Rattle.or_geom.specs.declared.shape.Shape.{Shape}
use Rattle.or_geom.proofs.GatheringLaws.{IsGathering}
use Rattle.macro_layout.specs.Stated.{IsShifted}
use Rattle.bank_layout.proofs.channel.add_moved.Given as goal

abbrev pub invariant-loop-shape : goal.invariant-loop-shape
invariant-loop-shape l = IsGathering (λ (from to : Shape). IsShifted l.by (pos 0) from to) l.channel (drop l.shape-index l.channel) l.fn.shapes.items l.shapes.items
