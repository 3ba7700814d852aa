-- Which pairs of places are joined: those of a run with those of a leaf.
use Rattle.std.specs.Prelude.{◌≡◌, ℕ, ◌<◌, List, slice_get, Some, Contains}
use Rattle.or_geom.specs.declared.shape.Rect.{Rect}
use Rattle.or_geom.specs.declared.shape.Shape.{Shape}
use Rattle.or_geom.specs.Gathering.{SomeHas}
use Rattle.or_geom.specs.Joined.{AreJoined}
use Rattle.tech_rules.specs.Touch.{ShareArea}
use Rattle.net_extractor.specs.declared.contacts.Contact.{Contact}
use Rattle.net_extractor.specs.declared.contacts.Contact.TheVariants.{Joined, Overlapping}
use Rattle.net_extractor.specs.declared.run.RunShape.{RunShape}
use Rattle.net_extractor.specs.Sets.{AreThesePlaces}

-- the places of these shapes are less than the bound
abbrev pub ArePlacesBelow : ℕ → List RunShape → Type 0
ArePlacesBelow count run = (own : RunShape) → Contains run own → own.place < count

-- the rectangles are in contact
abbrev pub AreInContact : Contact → Rect → Rect → Type 0
AreInContact Joined a b = AreJoined a b
AreInContact Overlapping a b = ShareArea a b

-- the shape is in contact with the rectangle, and these are its place and that one
pub record IsInContactTo (contact : Contact) (place : ℕ) (rect : Rect) (own : RunShape) (a b : ℕ) : Type 0 where
  pub so : AreInContact contact own.rect rect
  pub pair : AreThesePlaces own.place place a b

-- so stands one of the run's shapes to the shape at the place
pub record IsInContactAt (contact : Contact) (shapes : List Shape) (run : List RunShape) (place a b : ℕ) : Type 0 where
  pub shape : Shape
  pub there : slice_get shapes place ≡ Some shape
  pub some : SomeHas (λ (own : RunShape). IsInContactTo contact place shape.rect own a b) run
