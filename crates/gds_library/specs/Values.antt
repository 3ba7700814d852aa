-- What the data of the records of a library means.
use Rattle.std.specs.Prelude.{◌≡◌, ◌≤◌, ◌+◌, ◌%◌, ℕ, ℤ, pos, ◌+ℤ◌, ◌*ℤ◌, List, [], ◌∷◌, length, Option, Some, None, Bool, true, false, ◌&&◌, if◌then◌else◌, ◌==◌, nat_le, int_le}
use Rattle.std.specs.Int.{w16, w64, from_be_bytes, cast_signed}
use Rattle.std.specs.Ordering.{int_eq}
use Rattle.std.specs.Str.{bytes_eq}
use Rattle.or_geom.specs.declared.shape.Point.{Point}
use Rattle.or_geom.specs.declared.place.Orient.{Orient}
use Rattle.or_geom.specs.declared.place.Orient.TheVariants.{R0, R90, R180, R270, MX, MX90, MX180, MX270}
use Rattle.gds_records.specs.Values.{points_from, int32_of}
use Rattle.rectilinear.specs.declared.ring.RingSide.{RingSide}
use Rattle.rectilinear.specs.Corners.{corners_of}
use Rattle.rectilinear.specs.Simple.{AllStraight, IsSimple}
use Rattle.gds_library.specs.declared.limits.TheConstants.{NANOMETRE_EXPONENT, NANOMETRE, ROUNDING, MIRRORED}
use Rattle.gds_library.specs.declared.transform.Turn.{Turn}
use Rattle.gds_library.specs.declared.transform.Turn.TheVariants.{Zero, Quarter, Half, ThreeQuarters}

-- the mantissa of one nanometre, but for rounding
abbrev pub is_near_nanometre : ℕ → Bool
is_near_nanometre n = nat_le n (NANOMETRE + ROUNDING) && nat_le NANOMETRE (n + ROUNDING)

-- the second real is one nanometre, but for rounding: its first byte is the exponent, and its other seven are near
abbrev pub is_unit : List ℕ → Bool
is_unit (z ∷ y ∷ x ∷ w ∷ v ∷ u ∷ t ∷ s ∷ first ∷ a ∷ b ∷ c ∷ d ∷ e ∷ f ∷ g ∷ []) =
    (first == NANOMETRE_EXPONENT) && is_near_nanometre (from_be_bytes w64 (0 ∷ a ∷ b ∷ c ∷ d ∷ e ∷ f ∷ g ∷ []))
is_unit content = false

abbrev pub units_of : List ℕ → Option (Unit {0})
units_of content = if is_unit content then Some tt else None

abbrev pub is_same_point : Point → Point → Bool
is_same_point p q = int_eq p.x q.x && int_eq p.y q.y

-- the last of some points
abbrev pub last_point : Point → List Point → Point
last_point p [] = p
last_point p (q ∷ qs) = last_point q qs

-- the last point is the first again
abbrev pub IsClosed : List Point → Type 0
IsClosed [] = ⊥
IsClosed (p ∷ ps) = last_point p ps ≡ p

-- The ring of a boundary: repeated points and points inside straight runs are dropped, and what remains has four corners
-- or more, sides parallel to the axes, and no two sides that meet except neighbours at their corner.
pub record IsOutline (corners : List Point) (content : List ℕ) : Type 0 where
  pub points : List Point
  pub means : points_from content ≡ Some points
  pub closed : IsClosed points
  pub dropped : corners_of points ≡ corners
  pub simple : IsSimple corners

-- the segments of a path
abbrev pub segments_from : Point → List Point → List RingSide
segments_from p [] = []
segments_from p (q ∷ qs) = record { a = p; b = q } ∷ segments_from q qs

abbrev pub segments : List Point → List RingSide
segments [] = []
segments (p ∷ ps) = segments_from p ps

-- two points or more, and segments that are parallel to an axis and longer than zero
pub record IsSpine (points : List Point) (content : List ℕ) : Type 0 where
  pub means : points_from content ≡ Some points
  pub two : 2 ≤ length points
  pub straight : AllStraight (segments points)

-- flush ends (0), or ends longer by half the width (2)
abbrev pub path_kind_of : List ℕ → Option ℤ
path_kind_of (a ∷ b ∷ []) = if (a == 0)
    && (b == 0) then Some (pos 0) else (if (a == 0) && (b == 2) then Some (pos 2) else None)
path_kind_of content = None

-- a positive even number of four bytes
abbrev pub width_of : List ℕ → Option ℤ
width_of (a ∷ b ∷ c ∷ d ∷ []) = if int_le (pos 1) (int32_of a b c d)
    && (d % 2 == 0) then Some (int32_of a b c d) else None
width_of content = None

-- STRANS: reflected or not, and no other bit
abbrev pub mirror_of : List ℕ → Option Bool
mirror_of (a ∷ b ∷ []) = if (a == 0)
    && (b == 0) then Some false else (if (a == MIRRORED) && (b == 0) then Some true else None)
mirror_of content = None

-- MAG: 1
abbrev pub upright_of : List ℕ → Option (Unit {0})
upright_of content = if bytes_eq content (0x41 ∷ 0x10 ∷ 0 ∷ 0 ∷ 0 ∷ 0 ∷ 0 ∷ 0 ∷ []) then Some tt else None

abbrev pub is_zero_angle : List ℕ → Bool
is_zero_angle [] = false
is_zero_angle (first ∷ others) = bytes_eq others (0 ∷ 0 ∷ 0 ∷ 0 ∷ 0 ∷ 0 ∷ 0 ∷ [])

-- ANGLE: 90, 180 or 270 degrees, or any real whose last seven bytes are zero, which is 0
abbrev pub turn_of : List ℕ → Option Turn
turn_of content =
    if bytes_eq content (0x42 ∷ 0x5A ∷ 0 ∷ 0 ∷ 0 ∷ 0 ∷ 0 ∷ 0 ∷ []) then Some Quarter
    else (if bytes_eq content (0x42 ∷ 0xB4 ∷ 0 ∷ 0 ∷ 0 ∷ 0 ∷ 0 ∷ 0 ∷ []) then Some Half
    else (if bytes_eq content (0x43 ∷ 0x10 ∷ 0xE0 ∷ 0 ∷ 0 ∷ 0 ∷ 0 ∷ 0 ∷ []) then Some ThreeQuarters
    else (if is_zero_angle content then Some Zero else None)))

abbrev pub is_mirrored : Orient → Bool
is_mirrored R0 = false
is_mirrored R90 = false
is_mirrored R180 = false
is_mirrored R270 = false
is_mirrored MX = true
is_mirrored MX90 = true
is_mirrored MX180 = true
is_mirrored MX270 = true

abbrev pub turn_in : Orient → Turn
turn_in R0 = Zero
turn_in R90 = Quarter
turn_in R180 = Half
turn_in R270 = ThreeQuarters
turn_in MX = Zero
turn_in MX90 = Quarter
turn_in MX180 = Half
turn_in MX270 = ThreeQuarters

abbrev pub int16_in : ℕ → ℕ → ℤ
int16_in a b = cast_signed w16 (from_be_bytes w16 (a ∷ b ∷ []))

-- COLROW: columns and rows, one or more of each
abbrev pub counts_of : List ℕ → Option (ℤ × ℤ)
counts_of (a ∷ b ∷ c ∷ d ∷ []) = if int_le (pos 1) (int16_in a b)
    && int_le (pos 1) (int16_in c d) then Some (int16_in a b, int16_in c d) else None
counts_of content = None

-- the point displaced so many times
abbrev pub displaced : Point → ℤ → Point → Point
displaced p n pitch = record { x = p.x +ℤ n *ℤ pitch.x; y = p.y +ℤ n *ℤ pitch.y }

-- an origin and the pitches of columns and rows
abbrev pub Lattice : Type 0
Lattice = Point × (Point × Point)

-- XY of an array: the origin, and the origin displaced by the columns and by the rows
abbrev pub IsLattice : ℤ × ℤ → Lattice → List ℕ → Type 0
IsLattice counts lattice content =
    points_from content ≡ Some (lattice.0 ∷ displaced lattice.0 counts.0 lattice.1.0
    ∷ displaced lattice.0 counts.1 lattice.1.1 ∷ [])
