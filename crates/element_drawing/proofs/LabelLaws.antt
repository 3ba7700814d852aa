-- The labels of elements, one element after another.
use Rattle.std.proofs.Common.{◌≡◌, ℕ, ℤ, List, [], ◌∷◌, ◌++◌, Option, Some, None, ap, sym, ◌∙◌}
use Rattle.std.proofs.lemmas.List.{append-nil}
use Rattle.or_geom.specs.declared.shape.Point.{Point}
use Rattle.gds_library.specs.declared.library.Element.{Element}
use Rattle.gds_library.specs.declared.library.Element.TheVariants.{Text}
use Rattle.gds_library.specs.declared.library.Prop.{Prop}
use Rattle.tech_rules.specs.declared.tech.Layer.{Layer}
use Rattle.element_drawing.specs.PlainLabel.{PlainLabel}
use Rattle.element_drawing.specs.OwnLabels.{own_labels, with_label, text_place_of}

pub label_none : (layers : List Layer) (layer texttype : ℤ) (at : Point) (string : List ℕ) (props : List Prop) → None ≡ text_place_of layers layer texttype → [] ≡ own_labels layers (Text layer texttype at string props ∷ [])
label_none layers layer texttype at string props none = ap (λ (place : Option ℕ). with_label place string at []) none

pub label_some : (layers : List Layer) (layer texttype : ℤ) (at : Point) (string : List ℕ) (props : List Prop) (place : ℕ) (path name : List ℕ) → Some place ≡ text_place_of layers layer texttype → path ≡ [] → name ≡ string
    → record { path = path; name = name; layer = place; at = at } ∷ [] ≡ own_labels layers (Text layer texttype at string props ∷ [])
label_some layers layer texttype at string props place path name some path_is name_is =
    (λ i. record { path = path_is i; name = name_is i; layer = place; at = at } ∷ []) ∙ ap (λ (o : Option ℕ). with_label o string at []) some

pub labels_all : (layers : List Layer) (elements rest : List Element) (labels : List PlainLabel) → rest ≡ [] → labels ++ own_labels layers rest ≡ own_labels layers elements → labels ≡ own_labels layers elements
labels_all layers elements rest labels over all = sym (append-nil labels) ∙ (ap (λ (es : List Element). labels ++ own_labels layers es) (sym over) ∙ all)
