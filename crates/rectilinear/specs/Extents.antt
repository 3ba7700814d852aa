-- Closed boxes that may be empty.
use Rattle.std.specs.Prelude.{◌≡◌, ◌≤ℤ◌, List, [], ◌∷◌}
use Rattle.or_geom.specs.declared.shape.Point.{Point}
use Rattle.rectilinear.specs.declared.ring.RingSide.{RingSide}
use Rattle.rectilinear.specs.declared.simple.Extent.{Extent}
use Rattle.rectilinear.specs.Simple.{LiesOnSide}

pub record IsWithinExtent (e : Extent) (p : Point) : Type 0 where
  pub left : e.low.x ≤ℤ p.x
  pub right : p.x ≤ℤ e.high.x
  pub low : e.low.y ≤ℤ p.y
  pub high : p.y ≤ℤ e.high.y

pub record IsExtentOf (s : RingSide) (e : Extent) : Type 0 where
  pub each : (p : Point) → LiesOnSide s p → IsWithinExtent e p
  pub only : (p : Point) → IsWithinExtent e p → LiesOnSide s p

pub record IsCommon (e f both : Extent) : Type 0 where
  pub each : (p : Point) → IsWithinExtent e p → IsWithinExtent f p → IsWithinExtent both p
  pub first : (p : Point) → IsWithinExtent both p → IsWithinExtent e p
  pub second : (p : Point) → IsWithinExtent both p → IsWithinExtent f p

abbrev pub IsAtMostPoint : Extent → Point → Type 0
IsAtMostPoint e p = (q : Point) → IsWithinExtent e q → q ≡ p

-- no point lies within
abbrev pub IsEmpty : Extent → Type 0
IsEmpty e = (p : Point) → IsWithinExtent e p → ⊥

-- what lies within one of two lies within the box
pub record IsExtentAround (e f both : Extent) : Type 0 where
  pub first : (p : Point) → IsWithinExtent e p → IsWithinExtent both p
  pub second : (p : Point) → IsWithinExtent f p → IsWithinExtent both p

-- each point of each side lies within
abbrev pub HoldsSides : Extent → List RingSide → Type 0
HoldsSides e [] = Unit {0}
HoldsSides e (s ∷ ss) = ((p : Point) → LiesOnSide s p → IsWithinExtent e p) × HoldsSides e ss
