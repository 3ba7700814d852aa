-- Areas in which all shapes of a layer are wide enough.
use Rattle.std.specs.Prelude.{List, Option, Some, None}
use Rattle.or_geom.specs.declared.shape.Shape.{Shape}
use Rattle.shape_bins.specs.Layers.{IsCoveredBy}
use Rattle.tile_checker.specs.Breaks.{IsAsWide}
use Rattle.tile_checker.specs.declared.width.WideArea.{WideArea}

-- the area is covered by its layer and as wide as it says
pub record IsWideArea (shapes : List Shape) (a : WideArea) : Type 0 where
  pub covered : IsCoveredBy a.layer shapes a.rect
  pub as_wide : IsAsWide a.least a.rect

-- if there is one
abbrev pub IsSeen : List Shape → Option WideArea → Type 0
IsSeen shapes None = Unit {0}
IsSeen shapes (Some a) = IsWideArea shapes a
