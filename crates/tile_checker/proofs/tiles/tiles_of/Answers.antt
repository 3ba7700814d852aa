use Rattle.std.proofs.Common.{Vec, List, subst}
use Rattle.std.specs.declared.alloc.Global.{Global}
use Rattle.std.proofs.lemmas.Result.{IfOk-weaker}
use Rattle.or_geom.specs.declared.shape.Rect.{Rect}
use Rattle.or_geom.specs.declared.shape.Shape.{Shape}
use Rattle.tile_checker.specs.Tiles.{AreTiles}
use Rattle.tile_checker.proofs.tiles.tiles_of.Goals as goal

pub returns : goal.returns
returns c =
    IfOk-weaker _ _ _ (λ (list : Vec Rect Global) t.
    subst (λ (l : List Shape). AreTiles l list.items) c.shapes-shapes.ensures (let w : AreTiles c.shapes-shapes.result.now list.items = record { area = c.extent-area.result; corners = c.extent-area.ensures.corners; tiling = t } in w)) c.tiles_over.ensures
