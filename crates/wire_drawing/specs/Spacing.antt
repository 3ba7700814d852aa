-- Numbers of a list that are nearer to each other than a pitch.
use Rattle.std.specs.Prelude.{◌≡◌, ◌≢◌, ◌⊎◌, ℕ, ℤ, ◌+ℤ◌, ◌≤ℤ◌, ◌<ℤ◌, List, Option, None, Some, slice_get}
use Rattle.std.specs.List.{All}
use Rattle.or_geom.specs.Distance.{IsNear}

-- the list has the two at different places
pub record AreTwoOf {X : Type 0} (xs : List X) (x y : X) : Type 0 where
  pub i : ℕ
  pub j : ℕ
  pub differ : i ≢ j
  pub first : slice_get xs i ≡ Some x
  pub second : slice_get xs j ≡ Some y

-- the list has the two, the second less than the pitch above the first or at the same place
pub record AreCloseTwo (pitch : ℤ) (xs : List ℤ) (first second : ℤ) : Type 0 where
  pub two : AreTwoOf xs first second
  pub above : first ≤ℤ second
  pub close : second <ℤ (first +ℤ pitch)

-- they are close, and no two that are close begin lower, or begin at the same and end lower
pub record AreFirstClose (pitch : ℤ) (xs : List ℤ) (first second : ℤ) : Type 0 where
  pub close : AreCloseTwo pitch xs first second
  pub lowest : (x y : ℤ) → AreCloseTwo pitch xs x y → (first <ℤ x) ⊎ ((first ≡ x) × (second ≤ℤ y))

-- two of the list are close
abbrev pub AreClose : ℤ → List ℤ → Type 0
AreClose pitch xs = (x : ℤ) × (y : ℤ) × AreCloseTwo pitch xs x y

-- the first two that are close, or none where no two are
abbrev pub IsFirstClose : ℤ → List ℤ → Option (ℤ × ℤ) → Type 0
IsFirstClose pitch xs None = AreClose pitch xs → ⊥
IsFirstClose pitch xs (Some two) = AreFirstClose pitch xs two.0 two.1

-- all lie within 2^40
abbrev pub AreNearNumbers : List ℤ → Type 0
AreNearNumbers = All IsNear
