-- The shapes that may come second in a pair, as they are kept.
use Rattle.std.specs.Prelude.{◌≡◌, ◌↔◌, ℕ, List, Contains, slice_get, Some, IfSome}
use Rattle.or_geom.specs.declared.shape.Rect.{Rect}
use Rattle.or_geom.specs.declared.shape.Shape.{Shape}
use Rattle.or_geom.specs.Containing.{HoldsRect}
use Rattle.shape_bins.specs.Meets.{Meet}
use Rattle.tile_checker.specs.declared.candidates.Candidate.{Candidate}
use Rattle.tile_checker.specs.declared.candidates.KeptCandidates.{KeptCandidates}

-- the shape at this place, with the place
pub record IsCandidateAt (shapes : List Shape) (place : ℕ) (candidate : Candidate) : Type 0 where
  pub shape : Shape
  pub there : slice_get shapes place ≡ Some shape
  pub is : candidate ≡ record { place = place; rect = shape.rect }

-- a shape of the layer that meets the area, with its place
pub record IsCandidate (shapes : List Shape) (layer : ℕ) (area : Rect) (candidate : Candidate) : Type 0 where
  pub shape : Shape
  pub there : slice_get shapes candidate.place ≡ Some shape
  pub on : shape.layer ≡ layer
  pub is : candidate.rect ≡ shape.rect
  pub meets : Meet shape.rect area

-- all such shapes, and no others
abbrev pub AreCandidates : List Shape → ℕ → Rect → List Candidate → Type 0
AreCandidates shapes layer area candidates = (candidate : Candidate) → Contains candidates candidate ↔ IsCandidate shapes layer area candidate

-- those of an area that holds this one
pub record AreCandidatesOver (shapes : List Shape) (layer : ℕ) (area : Rect) (candidates : List Candidate) : Type 0 where
  pub asked : Rect
  pub holds : HoldsRect asked area
  pub are : AreCandidates shapes layer asked candidates

-- what is kept, if it isn't too much, are those that it says
pub record AreTrueCandidates (shapes : List Shape) (kept : KeptCandidates) : Type 0 where
  pub listed : IfSome kept.list (λ candidates. AreCandidates shapes kept.layer kept.asked candidates.items)

-- the place of one that meets the area
pub record MeetsAt (area : Rect) (candidate : Candidate) (place : ℕ) : Type 0 where
  pub is : place ≡ candidate.place
  pub meets : Meet candidate.rect area
