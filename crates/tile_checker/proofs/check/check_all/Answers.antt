use Rattle.std.proofs.Common.{sym, subst, List}
use Rattle.or_geom.specs.declared.shape.Rect.{Rect}
use Rattle.tile_checker.specs.Tiles.{AreTiles}
use Rattle.tile_checker.proofs.check.check_all.Goals as goal

pub report_alone-requires-clause-tiles : goal.report_alone-requires-clause-tiles
report_alone-requires-clause-tiles g c =
    subst (λ (l : List Rect). AreTiles c.args.bins.now l) (sym c.deref.ensures.value) c.in_ok-tiles.ensures

pub report_by-requires-clause-tiles : goal.report_by-requires-clause-tiles
report_by-requires-clause-tiles g c = λ κs w.
    subst (λ (l : List Rect). AreTiles c.args.bins.now l) (sym c.deref-2.ensures.value) c.in_ok-tiles.ensures
