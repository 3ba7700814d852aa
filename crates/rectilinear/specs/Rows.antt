-- The ends of the stretches of a row.
use Rattle.std.specs.Prelude.{◌≡◌, ℕ, zero, suc, ℤ, pos, ◌-ℤ◌, ◌≤ℤ◌, ◌<ℤ◌, List, [], ◌∷◌, Bool, true, false, not, int_le, ◌<◌, length, get_or}
use Rattle.rectilinear.specs.declared.ends.End.{End}
use Rattle.or_geom.specs.declared.shape.Rect.{Rect}
use Rattle.rectilinear.specs.declared.ring.RingSide.{RingSide}
use Rattle.rectilinear.specs.Slabs.{xor, passes, is_odd_left}

-- an odd number of the ends lie at or left of x
abbrev pub is_odd_to : List End → ℤ → Bool
is_odd_to [] x = false
is_odd_to (e ∷ es) x = xor (int_le e.x x) (is_odd_to es x)

abbrev pub is_odd : List End → Bool
is_odd [] = false
is_odd (e ∷ es) = not (is_odd es)

-- an odd number of the sides pass the row
abbrev pub is_odd_passed : List RingSide → ℤ → Bool
is_odd_passed [] y = false
is_odd_passed (s ∷ ss) y = xor (passes s y) (is_odd_passed ss y)

-- the ends rise, the first above low
abbrev pub RiseAbove : ℤ → List End → Type 0
RiseAbove low [] = Unit {0}
RiseAbove low (e ∷ es) = (low <ℤ e.x) × RiseAbove e.x es

abbrev pub Rise : List End → Type 0
Rise [] = Unit {0}
Rise (e ∷ es) = RiseAbove e.x es

-- each of the sides' ends in the row where the inside begins or ends, in order
pub record AreEnds (sides : List RingSide) (y : ℤ) (ends : List End) : Type 0 where
  pub rise : Rise ends
  pub even : is_odd ends ≡ is_odd_passed sides y
  pub same : (x : ℤ) → is_odd_to ends x ≡ is_odd_left sides x y

-- the boxes lie between the heights, and their sides are the ends in pairs
abbrev pub ArePairs : List End → ℤ → ℤ → List Rect → Type 0
ArePairs [] low high [] = Unit {0}
ArePairs [] low high (r ∷ rs) = ⊥
ArePairs (a ∷ []) low high rs = ⊥
ArePairs (a ∷ b ∷ es) low high [] = ⊥
ArePairs (a ∷ b ∷ es) low high (r ∷ rs) = ((r.x1 ≡ a.x) × (r.x2 ≡ b.x) × (r.y1 ≡ low) × (r.y2 ≡ high)) × ArePairs es low high rs

-- the box's row is a maximal stretch on which an odd number of ends lie to the left
pub record IsStretch (ends : List End) (low high : ℤ) (r : Rect) : Type 0 where
  pub low_is : r.y1 ≡ low
  pub high_is : r.y2 ≡ high
  pub inside : (x : ℤ) → r.x1 ≤ℤ x → x <ℤ r.x2 → is_odd_to ends x ≡ true
  pub left_end : is_odd_to ends (r.x1 -ℤ pos 1) ≡ false
  pub right_end : is_odd_to ends r.x2 ≡ false

-- n of the ends lie left of the one given
abbrev pub IsPlace : List End → End → ℕ → Type 0
IsPlace [] end n = n ≡ 0
IsPlace (e ∷ es) end zero = end.x ≤ℤ e.x
IsPlace (e ∷ es) end (suc n) = (e.x <ℤ end.x) × IsPlace es end n

-- the ends rise again, and one more or one less lies at or left of all that is right of the one given
pub record IsToggled (old : List End) (end : End) (new : List End) : Type 0 where
  pub rise : Rise new
  pub odd : is_odd new ≡ not (is_odd old)
  pub same : (x : ℤ) → is_odd_to new x ≡ xor (int_le end.x x) (is_odd_to old x)

-- the end stands at this place
abbrev pub HasAt : List End → ℕ → End → Type 0
HasAt es n end = (e : End) × (n < length es) × (e ≡ get_or es n e) × (e.x ≡ end.x)
