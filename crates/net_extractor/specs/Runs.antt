-- Runs of near shapes.
use Rattle.std.specs.Prelude.{◌≡◌, ℕ, ◌<◌, List, [], ◌∷◌, ◌++◌, slice_get, Some, Contains}
use Rattle.or_geom.specs.declared.shape.Rect.{Rect}
use Rattle.or_geom.specs.declared.shape.Shape.{Shape}
use Rattle.or_geom.specs.Containing.{HoldsRect, IsAround}
use Rattle.shape_bins.specs.Places.{IsListedBetween}
use Rattle.net_extractor.specs.declared.run.NearRun.{NearRun}
use Rattle.net_extractor.specs.declared.run.RunShape.{RunShape}

-- the shape stands at its place, on the run's layer, and lies in its hull
pub record IsOfRun (shapes : List Shape) (run : NearRun) (own : RunShape) : Type 0 where
  pub there : slice_get shapes own.place ≡ Some (record { layer = run.layer; rect = own.rect })
  pub held : HoldsRect run.hull own.rect

abbrev pub AreOfRun : List Shape → NearRun → List RunShape → Type 0
AreOfRun shapes run own = (shape : RunShape) → Contains own shape → IsOfRun shapes run shape

-- one of these shapes stands at the place
pub record HasPlace (own : List RunShape) (place : ℕ) : Type 0 where
  pub shape : RunShape
  pub listed : Contains own shape
  pub is : shape.place ≡ place

-- the run has the shapes at the places that stand in the order from one position up to its end, and no others
pub record IsNearRun (shapes : List Shape) (order : List ℕ) (begin : ℕ) (run : NearRun) (own : List RunShape) : Type 0 where
  pub beyond : begin < run.end
  pub all : AreOfRun shapes run own
  pub placed : (shape : RunShape) → Contains own shape → IsListedBetween order begin run.end shape.place
  pub each : (place : ℕ) → IsListedBetween order begin run.end place → HasPlace own place

-- the shape is of the run's layer, and the hull is the one around the run's and the shape
pub record IsWider (run : NearRun) (shape : Shape) (hull : Rect) : Type 0 where
  pub on : shape.layer ≡ run.layer
  pub around : IsAround run.hull shape.rect hull

-- a shape was added to those of a run
abbrev pub IsShapeAdded : ℕ → Rect → List RunShape → List RunShape → Type 0
IsShapeAdded place rect old new = new ≡ old ++ record { place = place; rect = rect } ∷ []
