-- What is written of values.
use Rattle.std.specs.Prelude.{ℕ, ℤ, ◌%◌, List, [], ◌∷◌, ◌++◌, true, length, ◌==◌, if◌then◌else◌, flat_map}
use Rattle.std.specs.Int.{w16, w32, to_be_bytes, cast_unsigned}
use Rattle.or_geom.specs.declared.shape.Point.{Point}
use Rattle.gds_records.specs.Record.{StreamRecord, record_of}

-- numbers in two's complement, the high byte first
abbrev pub int16_bytes : ℤ → List ℕ
int16_bytes z = to_be_bytes w16 (cast_unsigned w16 z)

abbrev pub int32_bytes : ℤ → List ℕ
int32_bytes z = to_be_bytes w32 (cast_unsigned w32 z)

abbrev pub point_bytes : Point → List ℕ
point_bytes p = int32_bytes p.x ++ int32_bytes p.y

abbrev pub points_bytes : List Point → List ℕ
points_bytes points = flat_map point_bytes points

-- a text, with one zero byte after it where its length is odd
abbrev pub text_bytes : List ℕ → List ℕ
text_bytes text = if length text % 2 == 0 then text else text ++ 0 ∷ []

-- a record of this code
abbrev pub record_with : ℕ → List ℕ → StreamRecord
record_with code content = record_of true code content
