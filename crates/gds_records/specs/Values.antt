-- What the data of a record means.
use Rattle.std.specs.Prelude.{FitsSigned, ◌≡◌, ℕ, ℤ, List, [], ◌∷◌, Option, Some, None}
use Rattle.std.specs.Int.{w16, w32, cast_signed, from_be_bytes}
use Rattle.or_geom.specs.declared.shape.Point.{Point}
use Rattle.gds_records.specs.Record.{unpadded}

-- the data means x by f
abbrev pub Means : {X : Type 0} → (List ℕ → Option X) → X → List ℕ → Type 0
Means f x content = f content ≡ Some x

-- two bytes, in two's complement, the high one first
abbrev pub int16_of : List ℕ → Option ℤ
int16_of (a ∷ b ∷ []) = Some (cast_signed w16 (from_be_bytes w16 (a ∷ b ∷ [])))
int16_of content = None

abbrev pub string_of : List ℕ → Option (List ℕ)
string_of content = Some (unpadded content)

abbrev pub int32_of : ℕ → ℕ → ℕ → ℕ → ℤ
int32_of a b c d = cast_signed w32 (from_be_bytes w32 (a ∷ b ∷ c ∷ d ∷ []))

abbrev pub point_of : List ℕ → Option Point
point_of (a ∷ b ∷ c ∷ d ∷ e ∷ f ∷ g ∷ h ∷ []) = Some (record { x = int32_of a b c d; y = int32_of e f g h })
point_of content = None

abbrev pub with_point : Point → Option (List Point) → Option (List Point)
with_point p (Some ps) = Some (p ∷ ps)
with_point p None = None

-- eight bytes a point
unfoldable pub points_from : List ℕ → Option (List Point)
points_from [] = Some []
points_from (a ∷ b ∷ c ∷ d ∷ e ∷ f ∷ g ∷ h ∷ rest) =
    with_point (record { x = int32_of a b c d; y = int32_of e f g h }) (points_from rest)
points_from content = None

unfoldable pub first_point_of : List ℕ → Option (Point × List ℕ)
first_point_of (a ∷ b ∷ c ∷ d ∷ e ∷ f ∷ g ∷ h ∷ rest) =
    Some (record { x = int32_of a b c d; y = int32_of e f g h }, rest)
first_point_of content = None

-- both coordinates fit 32 bits
pub record IsShort (p : Point) : Type 0 where
  pub x : FitsSigned w32 p.x
  pub y : FitsSigned w32 p.y
