-- The labels of a cell's own elements, on the layers of a technology.
use Rattle.std.specs.Prelude.{ℕ, ℤ, List, [], ◌∷◌, Option, Some, None, position, Bool, ◌&&◌}
use Rattle.std.specs.Ordering.{int_eq}
use Rattle.or_geom.specs.declared.shape.Point.{Point}
use Rattle.or_geom.specs.Place.{IsWithin}
use Rattle.gds_library.specs.declared.library.Element.{Element}
use Rattle.gds_library.specs.declared.library.Element.TheVariants.{Boundary, Path, Sref, Aref, Text}
use Rattle.tech_rules.specs.declared.tech.Layer.{Layer}
use Rattle.element_drawing.specs.PlainLabel.{PlainLabel}

abbrev pub has_text_numbers : ℤ → ℤ → Layer → Bool
has_text_numbers number texttype layer = int_eq layer.text_number number && int_eq layer.texttype texttype

-- the place of the first layer whose labels have these numbers
abbrev pub text_place_of : List Layer → ℤ → ℤ → Option ℕ
text_place_of layers number texttype = position (has_text_numbers number texttype) layers

-- a label of the cell itself has an empty path
abbrev pub with_label : Option ℕ → List ℕ → Point → List PlainLabel → List PlainLabel
with_label None name at labels = labels
with_label (Some layer) name at labels = record { path = []; name = name; layer = layer; at = at } ∷ labels

abbrev pub own_labels : List Layer → List Element → List PlainLabel
own_labels layers [] = []
own_labels layers (Boundary layer datatype points props ∷ es) = own_labels layers es
own_labels layers (Path layer datatype kind width points props ∷ es) = own_labels layers es
own_labels layers (Sref name place props ∷ es) = own_labels layers es
own_labels layers (Aref name place columns rows across down props ∷ es) = own_labels layers es
own_labels layers (Text layer texttype at string props ∷ es) = with_label (text_place_of layers layer texttype) string at (own_labels layers es)

abbrev pub IsLabelWithin : ℕ → PlainLabel → Type 0
IsLabelWithin n label = IsWithin n label.at
