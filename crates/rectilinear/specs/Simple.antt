-- Rings whose sides are parallel to the axes and meet only at their corners.
use Rattle.std.specs.Prelude.{◌≡◌, ◌≢◌, ◌⊎◌, ℤ, ◌≤ℤ◌, ◌≤◌, List, [], ◌∷◌, length}
use Rattle.or_geom.specs.declared.shape.Point.{Point}
use Rattle.rectilinear.specs.declared.ring.RingSide.{RingSide}
use Rattle.rectilinear.specs.Ring.{sides_of}

abbrev pub LiesBetween : ℤ → ℤ → ℤ → Type 0
LiesBetween a z b = ((a ≤ℤ z) × (z ≤ℤ b)) ⊎ ((b ≤ℤ z) × (z ≤ℤ a))

-- the point lies on the side, which is parallel to an axis
pub record LiesOnSide (s : RingSide) (p : Point) : Type 0 where
  pub in_x : LiesBetween s.a.x p.x s.b.x
  pub in_y : LiesBetween s.a.y p.y s.b.y

-- the side is parallel to one axis, and longer than zero
abbrev pub IsStraight : RingSide → Type 0
IsStraight s = ((s.a.x ≡ s.b.x) × (s.a.y ≢ s.b.y)) ⊎ ((s.a.y ≡ s.b.y) × (s.a.x ≢ s.b.x))

-- nothing lies on both, but for the corner where the first ends and the second begins
abbrev pub MeetAtMostThere : RingSide → RingSide → Type 0
MeetAtMostThere s t = (p : Point) → LiesOnSide s p → LiesOnSide t p → (p ≡ s.b) × (p ≡ t.a)

-- the sides don't meet, or they are neighbours and meet at their corner
abbrev pub MeetAsNeighbours : RingSide → RingSide → Type 0
MeetAsNeighbours s t = MeetAtMostThere s t ⊎ MeetAtMostThere t s

abbrev pub AllMeet : RingSide → List RingSide → Type 0
AllMeet s [] = Unit {0}
AllMeet s (t ∷ ts) = MeetAsNeighbours s t × AllMeet s ts

-- each of some sides and each of others
abbrev pub MeetAcross : List RingSide → List RingSide → Type 0
MeetAcross [] ts = Unit {0}
MeetAcross (s ∷ ss) ts = AllMeet s ts × MeetAcross ss ts

-- of each two sides
abbrev pub PairsMeet : List RingSide → Type 0
PairsMeet [] = Unit {0}
PairsMeet (s ∷ ss) = AllMeet s ss × PairsMeet ss

abbrev pub AllStraight : List RingSide → Type 0
AllStraight [] = Unit {0}
AllStraight (s ∷ ss) = IsStraight s × AllStraight ss

pub record IsSimple (corners : List Point) : Type 0 where
  pub four : 4 ≤ length corners
  pub straight : AllStraight (sides_of corners)
  pub meet : PairsMeet (sides_of corners)
