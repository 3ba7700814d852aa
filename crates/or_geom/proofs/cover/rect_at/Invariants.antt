use Rattle.or_geom.proofs.CoverLaws.{IsLeft}
use Rattle.or_geom.proofs.cover.rect_at.Given as goal

abbrev pub invariant-loop-rect : goal.invariant-loop-rect
invariant-loop-rect l = IsLeft l.rects l.rect-index l.cell
