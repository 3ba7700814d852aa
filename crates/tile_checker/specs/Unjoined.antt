-- The width rule where no shapes are joined.
use Rattle.std.specs.Prelude.{◌≡◌, ◌↔◌, ℕ, ℤ, List, Contains}
use Rattle.or_geom.specs.declared.shape.Shape.{Shape}
use Rattle.or_geom.specs.Joined.{AreJoined}
use Rattle.tile_checker.specs.Breaks.{IsAsWide, BreaksWidth}

-- of the shapes of one layer, only a shape and itself are joined
abbrev pub AreUnjoined : List Shape → Type 0
AreUnjoined shapes = (a b : Shape) → Contains shapes a → Contains shapes b → a.layer ≡ b.layer → AreJoined a.rect b.rect → b ≡ a

-- there a shape breaks the width rule exactly where one of its own sides is below the minimum
abbrev pub WidthOfUnjoinedShapes : Type 0
WidthOfUnjoinedShapes =
    (shapes : List Shape) (layer : ℕ) (min : ℤ) (a : Shape) → AreUnjoined shapes → Contains shapes a → a.layer ≡ layer
    → BreaksWidth layer min shapes a ↔ (IsAsWide min a.rect → ⊥)
