-- The nets of shapes as roots: one place of each net stands for it.
use Rattle.std.specs.Prelude.{◌≡◌, ◌↔◌, ◌⊎◌, ℕ, ◌<◌, List, length, slice_get, Some}
use Rattle.or_geom.specs.declared.shape.Shape.{Shape}
use Rattle.tech_rules.specs.declared.tech.Connect.{Connect}
use Rattle.tech_rules.specs.Net.{AreOnOneNet}
use Rattle.tech_rules.specs.Touch.{TouchByCut, TouchOnLayer}

-- Under these connections: for each shape, in order, the place of a shape. Two are equal exactly where the shapes are on
-- one net.
pub record AreNetRoots (connections : List Connect) (shapes : List Shape) (roots : List ℕ) : Type 0 where
  pub sized : length roots ≡ length shapes
  pub inside : (place root : ℕ) → slice_get roots place ≡ Some root → root < length shapes
  pub same : (i j m n : ℕ) (s t : Shape) → slice_get shapes i ≡ Some s → slice_get shapes j ≡ Some t → slice_get roots i ≡ Some m → slice_get roots j ≡ Some n → (m ≡ n) ↔ AreOnOneNet connections shapes s t

-- the shapes at the two places stand so to each other
pub record AreShapesAt (P : Shape → Shape → Type 0) (shapes : List Shape) (a b : ℕ) : Type 0 where
  pub one : Shape
  pub other : Shape
  pub first : slice_get shapes a ≡ Some one
  pub second : slice_get shapes b ≡ Some other
  pub so : P one other

-- they touch on one layer
abbrev pub IsLayerPair : List Connect → List Shape → ℕ → ℕ → Type 0
IsLayerPair connections shapes a b = AreShapesAt (TouchOnLayer connections) shapes a b

-- the first is on a cut layer and touches the other by it
abbrev pub IsCutPair : List Connect → List Shape → ℕ → ℕ → Type 0
IsCutPair connections shapes a b = AreShapesAt (TouchByCut connections) shapes a b

abbrev pub IsTouchPair : List Connect → List Shape → ℕ → ℕ → Type 0
IsTouchPair connections shapes a b = IsLayerPair connections shapes a b ⊎ IsCutPair connections shapes a b
