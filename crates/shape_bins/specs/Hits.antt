-- Which shapes are found.
use Rattle.std.specs.Prelude.{◌≡◌, ℕ, ◌≤◌, List, slice_get, Some}
use Rattle.or_geom.specs.declared.shape.Rect.{Rect}
use Rattle.or_geom.specs.declared.shape.Shape.{Shape}
use Rattle.shape_bins.specs.declared.forest.Forest.{Forest}
use Rattle.shape_bins.specs.declared.forest.IndexedShape.{IndexedShape}
use Rattle.shape_bins.specs.declared.node.Node.{Node}
use Rattle.shape_bins.specs.declared.query.Query.{Query}
use Rattle.shape_bins.specs.declared.query.Query.TheVariants.{Meets}
use Rattle.shape_bins.specs.Places.{HasBetween}
use Rattle.shape_bins.specs.Query.{FitsQuery}

-- the shape at this place is of the layer, and is one that is looked for
pub record IsHit (shapes : List Shape) (layer : ℕ) (query : Query) (place : ℕ) : Type 0 where
  pub shape : Shape
  pub there : slice_get shapes place ≡ Some shape
  pub on : shape.layer ≡ layer
  pub fits : FitsQuery query shape.rect

-- the shape at its place is one that is looked for
abbrev pub IsHitOf : List Shape → ℕ → Query → IndexedShape → Type 0
IsHitOf shapes layer query found = IsHit shapes layer query found.place

-- it is such a shape, and the place is at least `from`
pub record IsHitFrom (shapes : List Shape) (layer : ℕ) (query : Query) (from : ℕ) (place : ℕ) : Type 0 where
  pub from_there : from ≤ place
  pub hit : IsHit shapes layer query place

-- the place stands between the node's positions, and the shape there is of the node's layer and is one that is looked for
abbrev pub IsHitBelow : Forest → Node → Query → ℕ → Type 0
IsHitBelow forest node query = HasBetween (IsHit forest.shapes.now node.hull.layer query) forest.places.now node.first node.end

-- and the place is at least `from`
abbrev pub IsHitBelowFrom : Forest → Node → Query → ℕ → ℕ → Type 0
IsHitBelowFrom forest node query from = HasBetween (IsHitFrom forest.shapes.now node.hull.layer query from) forest.places.now node.first node.end

-- no such place from there on
abbrev pub NoHitFrom : List Shape → ℕ → Query → ℕ → Type 0
NoHitFrom shapes layer query from = (place : ℕ) → from ≤ place → IsHit shapes layer query place → ⊥

-- the least such place from there on
pub record IsFirstHit (shapes : List Shape) (layer : ℕ) (query : Query) (from : ℕ) (place : ℕ) : Type 0 where
  pub from_there : from ≤ place
  pub hit : IsHit shapes layer query place
  pub first : (other : ℕ) → from ≤ other → IsHit shapes layer query other → place ≤ other

-- the closed box of the shape at this place, which is of the layer, meets the area
abbrev pub IsNearShape : List Shape → ℕ → Rect → ℕ → Type 0
IsNearShape shapes layer area place = IsHit shapes layer (Meets area) place
