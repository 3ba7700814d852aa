use Rattle.std.proofs.Common.{[], ◌∷◌, take}
use Rattle.box_pieces.specs.Added.{AreAdded}
use Rattle.box_pieces.proofs.pieces.add_cuts.Given as goal

abbrev pub invariant-loop-rect : goal.invariant-loop-rect
invariant-loop-rect l = AreAdded (take l.rect-index l.boxes) (l.by ∷ []) l.fn.out l.out
