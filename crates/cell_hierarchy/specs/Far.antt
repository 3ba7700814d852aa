-- The first far point of some shapes and points of labels.
use Rattle.std.specs.Prelude.{◌≡◌, ◌≢◌, ◌⊎◌, ℕ, List, Contains, Option, Some, None, slice_get}
use Rattle.std.specs.declared.cmp.Ordering.{Ordering}
use Rattle.std.specs.declared.cmp.Ordering.TheVariants.{Less, Equal, Greater}
use Rattle.or_geom.specs.declared.shape.Point.{Point}
use Rattle.or_geom.specs.declared.shape.Rect.{Rect}
use Rattle.or_geom.specs.declared.shape.Shape.{Shape}
use Rattle.gds_records.specs.Values.{IsShort}
use Rattle.cell_hierarchy.specs.FlatSet.{IsCorner}
use Rattle.cell_hierarchy.specs.FlatLists.{point_order}

-- p is the first of the points that have P
pub record IsFirst (P : Point → Type 0) (p : Point) : Type 0 where
  pub has : P p
  pub first : (q : Point) → P q → point_order p q ≢ Greater

-- the first of the points that have P, if there is one
abbrev pub IsFirstOf : (Point → Type 0) → Option Point → Type 0
IsFirstOf P None = (q : Point) → P q → ⊥
IsFirstOf P (Some p) = IsFirst P p

-- of p and q the one that comes first, where o is how they compare
abbrev pub earlier : Ordering → Point → Point → Point
earlier Less p q = p
earlier Equal p q = p
earlier Greater p q = q

abbrev pub first_of : Option Point → Option Point → Option Point
first_of None b = b
first_of (Some p) None = Some p
first_of (Some p) (Some q) = Some (earlier (point_order p q) p q)

-- two corners of a rectangle
abbrev pub upper_left : Rect → Point
upper_left r = record { x = r.x1; y = r.y2 }

abbrev pub lower_right : Rect → Point
lower_right r = record { x = r.x2; y = r.y1 }

-- q is p, and lies outside 32 bits
pub record IsFarAt (p q : Point) : Type 0 where
  pub is : p ≡ q
  pub far : IsShort q → ⊥

pub record IsFarCorner (s : Shape) (p : Point) : Type 0 where
  pub corner : IsCorner s p
  pub far : IsShort p → ⊥

pub record HasFarCorner (shapes : List Shape) (p : Point) : Type 0 where
  pub shape : Shape
  pub among : Contains shapes shape
  pub is : IsFarCorner shape p

pub record HasFarPoint (points : List Point) (p : Point) : Type 0 where
  pub own : Point
  pub among : Contains points own
  pub is : IsFarAt own p

-- a far corner of the shape at place k
pub record IsFarCornerAt (shapes : List Shape) (k : ℕ) (p : Point) : Type 0 where
  pub shape : Shape
  pub stands : slice_get shapes k ≡ Some shape
  pub is : IsFarCorner shape p

-- the far point at index k
pub record IsFarPointAt (points : List Point) (k : ℕ) (p : Point) : Type 0 where
  pub own : Point
  pub stands : slice_get points k ≡ Some own
  pub is : IsFarAt own p

abbrev pub IsFarIn : List Shape → List Point → Point → Type 0
IsFarIn shapes points p = HasFarCorner shapes p ⊎ HasFarPoint points p
