-- The nets of the shapes over an area.
use Rattle.std.specs.Prelude.{◌≡◌, ℕ, List, Contains, slice_get, Some}
use Rattle.or_geom.specs.declared.shape.Rect.{Rect}
use Rattle.or_geom.specs.declared.shape.Shape.{Shape}
use Rattle.tech_rules.specs.Touch.{ShareArea}

-- the shape at this index is one of the layer that shares area with the area
pub record IsOverAt (shapes : List Shape) (layer : ℕ) (area : Rect) (index : ℕ) (shape : Shape) : Type 0 where
  pub there : slice_get shapes index ≡ Some shape
  pub on : shape.layer ≡ layer
  pub over : ShareArea shape.rect area

abbrev pub NoNetOver : List Shape → ℕ → Rect → Type 0
NoNetOver shapes layer area = (index : ℕ) (shape : Shape) → IsOverAt shapes layer area index shape → ⊥

-- one of them has this number
pub record IsNetOver (shapes : List Shape) (nets : List ℕ) (layer : ℕ) (area : Rect) (net : ℕ) : Type 0 where
  pub index : ℕ
  pub shape : Shape
  pub over : IsOverAt shapes layer area index shape
  pub has : slice_get nets index ≡ Some net

-- the shape at the index has it, if it is one of them
abbrev pub HasNetIfOver : List Shape → List ℕ → ℕ → Rect → ℕ → ℕ → Type 0
HasNetIfOver shapes nets layer area net index = (shape : Shape) → IsOverAt shapes layer area index shape → slice_get nets index ≡ Some net

-- so have those at the indices of a list
abbrev pub HaveNetIfOver : List Shape → List ℕ → ℕ → Rect → ℕ → List ℕ → Type 0
HaveNetIfOver shapes nets layer area net near = (index : ℕ) → Contains near index → HasNetIfOver shapes nets layer area net index

-- all of them have it
abbrev pub IsNetOfAll : List Shape → List ℕ → ℕ → Rect → ℕ → Type 0
IsNetOfAll shapes nets layer area net = (index : ℕ) (shape : Shape) → IsOverAt shapes layer area index shape → slice_get nets index ≡ Some net
