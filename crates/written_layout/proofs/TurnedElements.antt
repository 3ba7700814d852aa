-- Structures with their boundaries turned draw the same and refer to the same.
use Rattle.std.proofs.Common.{◌≡◌, ◌⊎◌, inl, inr, ℕ, suc, List, [], ◌∷◌, map, true, false, cond, Option, Some, None, ◌↔◌, refl, sym, ap, subst}
use Rattle.std.specs.List.{AllByRecursion}
use Rattle.std.specs.Str.{bytes_eq}
use Rattle.or_geom.specs.declared.shape.Rect.{Rect}
use Rattle.or_geom.specs.declared.shape.Shape.{Shape}
use Rattle.rectilinear.specs.Slabs.{IsSlabList}
use Rattle.gds_library.specs.declared.library.Element.{Element}
use Rattle.gds_library.specs.declared.library.Element.TheVariants.{Boundary, Path, Sref, Aref, Text}
use Rattle.gds_library.specs.declared.library.Structure.{Structure}
use Rattle.gds_library.specs.Writable.{IsWritableElement, IsWritableCell}
use Rattle.gds_stream.specs.Turned.{turned_ring, turned_element, turned_structure}
use Rattle.tech_rules.specs.declared.tech.Layer.{Layer}
use Rattle.element_drawing.specs.PlainLabel.{PlainLabel}
use Rattle.element_drawing.specs.OwnShapes.{layer_with_numbers, AreOn, AreShapesOf, AreOwnShapes}
use Rattle.element_drawing.specs.OwnLabels.{text_place_of, with_label, own_labels}
use Rattle.cell_chains.specs.Instances.{Item}
use Rattle.cell_chains.specs.Chains.{elements_of, IsThere, IsItemFrom}
use Rattle.cell_hierarchy.specs.Counts.{Total, IsBelow, IsTotalWithin}
use Rattle.written_layout.proofs.TurnedSlabs.{turned_slabs}
use Rattle.written_layout.proofs.SameChains.{Same}

same : {A : Type 0} → A ↔ A
same = (λ a. a, λ a. a)

keep_left : {A B C : Type 0} → B ↔ C → (A ⊎ B) ↔ (A ⊎ C)
keep_left e = (λ h. elim h [ inl a ↦ inl a | inr b ↦ inr (e.0 b) ], λ h. elim h [ inl a ↦ inl a | inr c ↦ inr (e.1 c) ])

-- shapes

same_on : (layer : Option ℕ) (P Q : List Rect → Type 0) → ((rects : List Rect) → P rects ↔ Q rects)
    → (shapes : List Shape)
    → AreOn layer P shapes ↔ AreOn layer Q shapes
same_on None P Q each shapes = same
same_on (Some layer) P Q each shapes = (λ h. (h.0, (each h.0).0 h.1, h.2), λ h. (h.0, (each h.0).1 h.1, h.2))

turned_drawing : (layers : List Layer) (e : Element) → IsWritableElement e → (shapes : List Shape)
    → AreShapesOf layers (turned_element e) shapes ↔ AreShapesOf layers e shapes
turned_drawing layers (Boundary layer datatype points props) w shapes =
    same_on (layer_with_numbers layers layer datatype) (IsSlabList (turned_ring points)) (IsSlabList points)
    (λ rects. turned_slabs points rects w.body) shapes
turned_drawing layers (Path layer datatype kind width points props) w shapes = same
turned_drawing layers (Sref name place props) w shapes = same
turned_drawing layers (Aref name place columns rows across down props) w shapes = same
turned_drawing layers (Text layer texttype at string props) w shapes = same

turned_shapes : (layers : List Layer) (es : List Element) → AllByRecursion IsWritableElement es → (shapes : List Shape)
    → AreOwnShapes layers (map turned_element es) shapes ↔ AreOwnShapes layers es shapes
turned_shapes layers [] w shapes = same
turned_shapes layers (e ∷ es) w shapes = (
  λ h. (h.0, h.1, (turned_drawing layers e w.0 h.0).0 h.2, (turned_shapes layers es w.1 h.1).0 h.3, h.4),
  λ h. (h.0, h.1, (turned_drawing layers e w.0 h.0).1 h.2, (turned_shapes layers es w.1 h.1).1 h.3, h.4),
)

-- labels

turned_labels : (layers : List Layer) (es : List Element)
    → own_labels layers (map turned_element es) ≡ own_labels layers es
turned_labels layers [] = refl
turned_labels layers (Boundary layer datatype points props ∷ es) = turned_labels layers es
turned_labels layers (Path layer datatype kind width points props ∷ es) = turned_labels layers es
turned_labels layers (Sref name place props ∷ es) = turned_labels layers es
turned_labels layers (Aref name place columns rows across down props ∷ es) = turned_labels layers es
turned_labels layers (Text layer texttype at string props ∷ es) =
    ap (λ (l : List PlainLabel). with_label (text_place_of layers layer texttype) string at l) (turned_labels layers es)

-- references

turned_items : (n : ℕ) (es : List Element) (item : Item)
    → IsItemFrom n (map turned_element es) item ↔ IsItemFrom n es item
turned_items n [] item = same
turned_items n (Boundary layer datatype points props ∷ es) item = keep_left (turned_items (suc n) es item)
turned_items n (Path layer datatype kind width points props ∷ es) item = keep_left (turned_items (suc n) es item)
turned_items n (Sref name place props ∷ es) item = keep_left (turned_items (suc n) es item)
turned_items n (Aref name place columns rows across down props ∷ es) item = keep_left (turned_items (suc n) es item)
turned_items n (Text layer texttype at string props ∷ es) item = keep_left (turned_items (suc n) es item)

turned_below : (P Q : List ℕ → Total → Type 0) → ((name : List ℕ) (total : Total) → P name total ↔ Q name total)
    → (es : List Element) (total : Total)
    → IsBelow P (map turned_element es) total ↔ IsBelow Q es total
turned_below P Q each [] total = same
turned_below P Q each (Boundary layer datatype points props ∷ es) total = turned_below P Q each es total
turned_below P Q each (Path layer datatype kind width points props ∷ es) total = turned_below P Q each es total
turned_below P Q each (Sref name place props ∷ es) total = (
  λ h. (h.0, h.1, (each name h.0).0 h.2, (turned_below P Q each es h.1).0 h.3, h.4),
  λ h. (h.0, h.1, (each name h.0).1 h.2, (turned_below P Q each es h.1).1 h.3, h.4),
)
turned_below P Q each (Aref name place columns rows across down props ∷ es) total = (
  λ h. (h.0, h.1, (each name h.0).0 h.2, (turned_below P Q each es h.1).0 h.3, h.4),
  λ h. (h.0, h.1, (each name h.0).1 h.2, (turned_below P Q each es h.1).1 h.3, h.4),
)
turned_below P Q each (Text layer texttype at string props ∷ es) total = turned_below P Q each es total

-- structures

turned_there : (structs : List Structure) (name : List ℕ)
    → IsThere (map turned_structure structs) name ↔ IsThere structs name
turned_there [] name = same
turned_there (s ∷ ss) name = keep_left (turned_there ss name)

turned_elements : (structs : List Structure) (name : List ℕ)
    → elements_of (map turned_structure structs) name ≡ map turned_element (elements_of structs name)
turned_elements [] name = refl
turned_elements (s ∷ ss) name =
    elim (bytes_eq s.name name) as
    (λ b. cond b (map turned_element s.elements) (elements_of (map turned_structure ss) name)
    ≡ map turned_element (cond b s.elements (elements_of ss name))) [
      | true ↦ refl
      | false ↦ turned_elements ss name
    ]

writable_elements : (structs : List Structure) (name : List ℕ) → AllByRecursion IsWritableCell structs
    → AllByRecursion IsWritableElement (elements_of structs name)
writable_elements [] name w = tt
writable_elements (s ∷ ss) name w =
    elim (bytes_eq s.name name) as (λ b. AllByRecursion IsWritableElement (cond b s.elements (elements_of ss name))) [
      | true ↦ w.0.elements
      | false ↦ writable_elements ss name w.1
    ]

pub turned_same : (layers : List Layer) (structs : List Structure) → AllByRecursion IsWritableCell structs
    → Same layers (map turned_structure structs) structs
turned_same layers structs w = record {
  there = turned_there structs;
  items = λ name item. subst
      (λ (es : List Element). IsItemFrom 0 es item ↔ IsItemFrom 0 (elements_of structs name) item)
      (sym (turned_elements structs name)) (turned_items 0 (elements_of structs name) item);
  drawn = λ name shapes. subst
      (λ (es : List Element). AreOwnShapes layers es shapes ↔ AreOwnShapes layers (elements_of structs name) shapes)
      (sym (turned_elements structs name))
      (turned_shapes layers (elements_of structs name) (writable_elements structs name w) shapes);
  labels = λ name. subst (λ (es : List Element). own_labels layers es ≡ own_labels layers (elements_of structs name))
      (sym (turned_elements structs name)) (turned_labels layers (elements_of structs name));
  below = λ depth each name total.
      subst (λ (es : List Element). IsBelow (IsTotalWithin depth layers (map turned_structure structs)) es total
      ↔ IsBelow (IsTotalWithin depth layers structs) (elements_of structs name) total)
      (sym (turned_elements structs name))
      (turned_below (IsTotalWithin depth layers (map turned_structure structs))
      (IsTotalWithin depth layers structs) each (elements_of structs name) total);
}
