-- The unit cells of boxes, of what they have in common, and of their pieces.
use Rattle.std.specs.Prelude.{◌⊎◌, ◌↔◌, ℤ, ◌≤ℤ◌, ◌<ℤ◌, List, Contains}
use Rattle.or_geom.specs.declared.shape.Rect.{Rect}
use Rattle.or_geom.specs.Containing.{HoldsRect}
use Rattle.or_geom.specs.Covered.{HasCell, HasCellInSome}

-- no unit cell lies in both
abbrev pub ShareNoCell : Rect → Rect → Type 0
ShareNoCell a b = (x y : ℤ) → HasCell a x y → HasCell b x y → ⊥

-- the rectangle has the unit cells that lie in both
pub record IsIntersection (a b r : Rect) : Type 0 where
  pub only : (x y : ℤ) → HasCell r x y → HasCell a x y × HasCell b x y
  pub each : (x y : ℤ) → HasCell a x y → HasCell b x y → HasCell r x y

-- the parts have the unit cells of the area that lie in one of the boxes
pub record AreParts (area : Rect) (boxes parts : List Rect) : Type 0 where
  pub only : (x y : ℤ) → HasCellInSome parts x y → HasCell area x y × HasCellInSome boxes x y
  pub each : (x y : ℤ) → HasCell area x y → HasCellInSome boxes x y → HasCellInSome parts x y

-- no unit cell lies in one of the boxes
abbrev pub HaveNone : List Rect → Type 0
HaveNone boxes = (x y : ℤ) → HasCellInSome boxes x y → ⊥

-- all unit cells of the boxes lie in the area
abbrev pub HoldsAll : List Rect → Rect → Type 0
HoldsAll boxes area = (x y : ℤ) → HasCellInSome boxes x y → HasCell area x y

-- the least rectangle that has all unit cells of the boxes
pub record IsBoundOf (boxes : List Rect) (area : Rect) : Type 0 where
  pub holds : HoldsAll boxes area
  pub least : (r : Rect) → HoldsAll boxes r → HoldsRect r area

-- the rectangle has exactly the unit cells of the boxes
abbrev pub HasSameCells : List Rect → Rect → Type 0
HasSameCells boxes r = (x y : ℤ) → HasCell r x y ↔ HasCellInSome boxes x y

-- no rectangle does
abbrev pub IsNoRectangle : List Rect → Type 0
IsNoRectangle boxes = (r : Rect) → HasSameCells boxes r → ⊥

-- each of the rectangles has all unit cells of the boxes
abbrev pub AllHold : List Rect → List Rect → Type 0
AllHold by boxes = (r : Rect) → Contains by r → HoldsAll boxes r

-- boxes were added that have exactly the unit cells with P
pub record AddsCells (old new : List Rect) (P : ℤ → ℤ → Type 0) : Type 0 where
  pub kept : (x y : ℤ) → HasCellInSome old x y → HasCellInSome new x y
  pub only : (x y : ℤ) → HasCellInSome new x y → HasCellInSome old x y ⊎ P x y
  pub each : (x y : ℤ) → P x y → HasCellInSome new x y

-- a unit cell of the area that has P
pub record IsInArea (area : Rect) (P : ℤ → ℤ → Type 0) (x y : ℤ) : Type 0 where
  pub within : HasCell area x y
  pub has : P x y

-- a unit cell of some box that lies in one of the others
pub record IsCellInside (boxes by : List Rect) (x y : ℤ) : Type 0 where
  pub among : HasCellInSome boxes x y
  pub some : HasCellInSome by x y

-- a unit cell of some box that lies in none of the others
pub record IsCellOutside (boxes by : List Rect) (x y : ℤ) : Type 0 where
  pub among : HasCellInSome boxes x y
  pub none : HasCellInSome by x y → ⊥

-- a unit cell between four sides
pub record IsBetweenSides (x1 y1 x2 y2 x y : ℤ) : Type 0 where
  pub left : x1 ≤ℤ x
  pub right : x <ℤ x2
  pub low : y1 ≤ℤ y
  pub high : y <ℤ y2

-- a unit cell of the one rectangle that isn't one of the other
pub record IsCellAround (rect part : Rect) (x y : ℤ) : Type 0 where
  pub within : HasCell rect x y
  pub out : HasCell part x y → ⊥
