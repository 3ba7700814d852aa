-- Shapes and violations as words.
use Rattle.std.specs.Prelude.{ℕ, List, [], ◌∷◌, ◌++◌, slice_get, Option, Some, None}
use Rattle.std.specs.Option.{option_map_or}
use Rattle.std.specs.Fmt.{decimal, signed_decimal}
use Rattle.or_geom.specs.declared.shape.Shape.{Shape}
use Rattle.tech_rules.specs.declared.tech.Layer.{Layer}
use Rattle.tile_checker.specs.declared.violation.Violation.{Violation}

-- the name of a layer, by its index
abbrev pub layer_name : List Layer → ℕ → List ℕ
layer_name layers index = option_map_or (λ (l : Layer). l.name) (slice_get layers index) []

-- a shape: its layer's name and four numbers
abbrev pub shape_words : List Layer → Shape → List (List ℕ)
shape_words layers s = layer_name layers s.layer ∷ (signed_decimal s.rect.x1 ∷ (signed_decimal s.rect.y1 ∷ (signed_decimal s.rect.x2 ∷ (signed_decimal s.rect.y2 ∷ []))))

abbrev pub second_words : List Layer → Option Shape → List (List ℕ)
second_words layers None = []
second_words layers (Some s) = shape_words layers s

-- a violation: the rule's number, the first shape and, where there is one, the second
abbrev pub violation_words : List Layer → Violation → List (List ℕ)
violation_words layers v = decimal v.rule ∷ (shape_words layers v.first ++ second_words layers v.second)
