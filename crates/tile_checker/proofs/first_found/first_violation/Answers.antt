use Rattle.std.proofs.Common.{sym, subst, List}
use Rattle.or_geom.specs.declared.shape.Rect.{Rect}
use Rattle.tile_checker.specs.Tiles.{AreTiles}
use Rattle.tile_checker.proofs.first_found.first_violation.Goals as goal

pub first_alone-requires-clause-tiles : goal.first_alone-requires-clause-tiles
first_alone-requires-clause-tiles g c =
    subst (λ (l : List Rect). AreTiles c.args.bins.now l) (sym c.deref.ensures.value) c.in_ok-tiles.ensures

pub first_by-requires-clause-tiles : goal.first_by-requires-clause-tiles
first_by-requires-clause-tiles g c = λ κs w.
    subst (λ (l : List Rect). AreTiles c.args.bins.now l) (sym c.deref-2.ensures.value) c.in_ok-tiles.ensures
