-- Boxes that a layer covers and that have a clearance.
use Rattle.std.specs.Prelude.{List}
use Rattle.or_geom.specs.declared.shape.Shape.{Shape}
use Rattle.shape_bins.specs.Clear.{HasClearance}
use Rattle.shape_bins.specs.Layers.{IsCoveredBy}
use Rattle.tile_checker.specs.declared.clear.ClearArea.{ClearArea}

-- the box is covered by its layer and has its clearance
pub record IsClearArea (shapes : List Shape) (a : ClearArea) : Type 0 where
  pub covered : IsCoveredBy a.layer shapes a.filled.rect
  pub clear : HasClearance shapes a.layer a.filled.rect a.filled.clearance
