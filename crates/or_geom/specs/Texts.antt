-- The letters of words, and the printed text of a rectangle.
use Rattle.std.specs.Prelude.{ℕ, List, [], ◌∷◌, ◌++◌, Bool, ◌||◌, ◌&&◌, nat_le, nat_eq}
use Rattle.std.specs.Fmt.{signed_decimal}
use Rattle.or_geom.specs.declared.shape.Rect.{Rect}

-- a letter, a digit or an underscore
abbrev pub is_word_byte : ℕ → Bool
is_word_byte b = (nat_le 97 b && nat_le b 122) || ((nat_le 65 b && nat_le b 90) || ((nat_le 48 b && nat_le b 57) || nat_eq b 95))

-- four numbers, separated by single spaces
abbrev pub rect_text : Rect → List ℕ
rect_text r = signed_decimal r.x1 ++ (32 ∷ [] ++ (signed_decimal r.y1 ++ (32 ∷ [] ++ (signed_decimal r.x2 ++ (32 ∷ [] ++ signed_decimal r.y2)))))
