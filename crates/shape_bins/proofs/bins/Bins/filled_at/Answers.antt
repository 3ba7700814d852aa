use Rattle.std.proofs.Common.{pos, refl, arith}
use Rattle.std.proofs.lemmas.Int.{to_z-of_z}
use Rattle.shape_bins.proofs.ClearLaws.{clear_at}
use Rattle.shape_bins.proofs.bins.Bins.filled_at.Goals as goal

pub returns : goal.returns
returns c = rw (← c.self.view_is)
    (clear_at c.self.inside.forest.shapes.now c.self.inside.boxes.shapes.now c.self.inside.clearances.now c.args.layer c.args.cell c.in_ok-place.place c.index-self-place.result (pos 0) _ c.self.invariant.filled c.self.invariant.clear c.in_ok-place.ensures refl (grind (arith, to_z-of_z)))
