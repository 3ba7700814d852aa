-- Boxes that shapes of one layer fill.
use Rattle.std.specs.Prelude.{◌≡◌, ◌+◌, ◌≤◌, ℤ, ◌≤ℤ◌, List, [], ◌∷◌, length, All}
use Rattle.or_geom.specs.declared.shape.Rect.{Rect}
use Rattle.or_geom.specs.declared.shape.Shape.{Shape}
use Rattle.or_geom.specs.Covered.{IsCovered}
use Rattle.shape_bins.specs.declared.filled.Filled.{Filled}
use Rattle.shape_bins.specs.declared.forest.Forest.{Forest}
use Rattle.shape_bins.specs.Clear.{AreClear}
use Rattle.shape_bins.specs.Forest.{IsForest}
use Rattle.shape_bins.specs.Layers.{IsCoveredBy}

-- the box is covered by the shapes of its layer
abbrev pub IsFilledBox : List Shape → Shape → Type 0
IsFilledBox shapes box = IsCoveredBy box.layer shapes box.rect

abbrev pub AreFilledBoxes : List Shape → List Shape → Type 0
AreFilledBoxes shapes boxes = All (IsFilledBox shapes) boxes

-- as wide as each other, and no gap between them
pub record AreStacked (a b : Rect) : Type 0 where
  pub left : a.x1 ≡ b.x1
  pub right : a.x2 ≡ b.x2
  pub over : b.y1 ≤ℤ a.y2
  pub under : a.y1 ≤ℤ b.y2

-- as tall as each other, and no gap between them
pub record AreBeside (a b : Rect) : Type 0 where
  pub low : a.y1 ≡ b.y1
  pub high : a.y2 ≡ b.y2
  pub after : b.x1 ≤ℤ a.x2
  pub before : a.x1 ≤ℤ b.x2

-- two boxes of one layer cover the third
pub record AreJoinedTo (a b joint : Filled) : Type 0 where
  pub first : a.shape.layer ≡ joint.shape.layer
  pub second : b.shape.layer ≡ joint.shape.layer
  pub covered : IsCovered joint.shape.rect (a.shape.rect ∷ b.shape.rect ∷ [])

abbrev pub IsFilledBy : List Shape → Filled → Type 0
IsFilledBy shapes f = IsFilledBox shapes f.shape

-- what fills all of these and the boxes of before fills the boxes of now
abbrev pub AddsBoxes : List Filled → List Shape → List Shape → Type 0
AddsBoxes filled old new = (shapes : List Shape) → All (IsFilledBy shapes) filled → AreFilledBoxes shapes old → AreFilledBoxes shapes new

-- a box was added, perhaps joined with another: what the shapes fill stays filled
pub record AddsFilled (filled : Filled) (old new : List Filled) : Type 0 where
  pub few : length new ≤ length old + 1
  pub kept : (shapes : List Shape) → All (IsFilledBy shapes) old → IsFilledBy shapes filled → All (IsFilledBy shapes) new

-- no more boxes than before, which what filled those before fills
pub record AreJoinedOf (old new : List Filled) : Type 0 where
  pub few : length new ≤ length old
  pub kept : (shapes : List Shape) → All (IsFilledBy shapes) old → All (IsFilledBy shapes) new

-- no more boxes than shapes, which fill them
pub record AreJoinedFrom (shapes : List Shape) (new : List Filled) : Type 0 where
  pub few : length new ≤ length shapes
  pub filled : All (IsFilledBy shapes) new

-- trees over the shapes, and trees over boxes that they fill, with the boxes' clearances
pub record AreBins (all boxes : Forest) (clearances : List ℤ) : Type 0 where
  pub forest : IsForest all
  pub box_forest : IsForest boxes
  pub filled : AreFilledBoxes all.shapes.now boxes.shapes.now
  pub clear : AreClear all.shapes.now boxes.shapes.now clearances
