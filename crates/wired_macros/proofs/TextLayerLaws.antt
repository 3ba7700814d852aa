-- The second and the third metal are the first layers whose labels have their numbers, because pins were found there.
use Rattle.std.proofs.Common.{◌≡◌, inl, inr, ℕ, ℤ, List, [], ◌∷◌, true, Contains, Option, None, Some, refl, sym, ap, subst, ◌∙◌, arith}
use Rattle.std.specs.Ordering.{int_eq}
use Rattle.std.specs.Prelude.{slice_get, slice_index}
use Rattle.std.proofs.lemmas.Bool.{and_parts}
use Rattle.std.proofs.lemmas.Bool.Decides.{Decides-int_eq}
use Rattle.std.proofs.lemmas.List.Quantifiers.{position-Some}
use Rattle.std.proofs.lemmas.Option.{get_or_from_slice_get}
use Rattle.or_geom.specs.declared.shape.Point.{Point}
use Rattle.or_geom.proofs.ListLaws.{contains_none, contains_cases}
use Rattle.gds_library.specs.declared.library.Element.{Element}
use Rattle.gds_library.specs.declared.library.Element.TheVariants.{Boundary, Path, Sref, Aref, Text}
use Rattle.gds_library.specs.declared.library.Structure.{Structure}
use Rattle.cell_roles.specs.declared.role.Role.{Role}
use Rattle.cell_roles.specs.declared.role.Role.TheVariants.{Bitcell, Precharge}
use Rattle.tech_rules.specs.declared.tech.Layer.{Layer}
use Rattle.tech_rules.specs.declared.tech.Tech.{Tech}
use Rattle.element_drawing.specs.PlainLabel.{PlainLabel}
use Rattle.element_drawing.specs.OwnLabels.{has_text_numbers, text_place_of, with_label, own_labels}
use Rattle.cell_chains.specs.Chains.{elements_of}
use Rattle.cell_chains.specs.Instances.{Item}
use Rattle.cell_hierarchy.specs.Plain.{FlatLists}
use Rattle.cell_hierarchy.specs.FlatSet.{IsLabelBy}
use Rattle.leaf_shapes.specs.declared.demand.Metal.{Metal}
use Rattle.leaf_shapes.specs.declared.demand.Metal.TheVariants.{M2, M3}
use Rattle.leaf_shapes.specs.declared.fit.Fit.{Fit}
use Rattle.leaf_shapes.specs.declared.fit.Fit.TheVariants.{TopAndBottom, Anywhere}
use Rattle.leaf_shapes.specs.Demands.{metal_layer}
use Rattle.leaf_shapes.specs.FirstLayers.{IsFirstLayer}
use Rattle.kit_nets.specs.RolePins.{IsDemand}
use Rattle.kit_nets.specs.StatedParts.{Source}
use Rattle.supply_nets.specs.LaidMacro.{IsLaidMacro}
use Rattle.wired_macros.specs.Texts.{IsFirstTextLayer, AreFirstTextLayers}

-- labels with some numbers are on the layer
record IsTextLayer (layers : List Layer) (index : ℕ) : Type 0 where
  number : ℤ
  texttype : ℤ
  found : text_place_of layers number texttype ≡ Some index

named_by : (layers : List Layer) (number texttype : ℤ) (o : Option ℕ) (name : List ℕ) (at : Point) (rest : List PlainLabel) (label : PlainLabel) → text_place_of layers number texttype ≡ o → (Contains rest label → IsTextLayer layers label.layer) → Contains (with_label o name at rest) label → IsTextLayer layers label.layer
named_by layers number texttype None name at rest label e later listed = later listed
named_by layers number texttype (Some layer) name at rest label e later listed = elim (contains_cases _ rest label listed) [
  | inl same ↦ let on : label.layer ≡ layer = ap (λ (l : PlainLabel). l.layer) same in record { number = number; texttype = texttype; found = e ∙ ap (λ (k : ℕ). Some k) (sym on) }
  | inr there ↦ later there
]

own_text : (layers : List Layer) (es : List Element) (label : PlainLabel) → Contains (own_labels layers es) label → IsTextLayer layers label.layer
own_text layers [] label listed = absurd (contains_none label listed)
own_text layers (Boundary layer datatype points props ∷ es) label listed = own_text layers es label listed
own_text layers (Path layer datatype kind width points props ∷ es) label listed = own_text layers es label listed
own_text layers (Sref name place props ∷ es) label listed = own_text layers es label listed
own_text layers (Aref name place columns rows across down props ∷ es) label listed = own_text layers es label listed
own_text layers (Text number texttype at string props ∷ es) label listed = named_by layers number texttype (text_place_of layers number texttype) string at (own_labels layers es) label refl (own_text layers es label) listed

flat_text : (layers : List Layer) (structs : List Structure) (name : List ℕ) (chain : List Item) (label : PlainLabel) → IsLabelBy layers structs name chain label → IsTextLayer layers label.layer
flat_text layers structs name [] label stands = own_text layers (elements_of structs name) label stands
flat_text layers structs name (item ∷ items) label stands = subst (IsTextLayer layers) (sym stands.3.layer) (flat_text layers structs item.cell items stands.1 stands.2)

-- a layer on which there is a label is the first with its numbers
own_numbers : (layers : List Layer) (index : ℕ) → IsTextLayer layers index → (layer : Layer) → slice_get layers index ≡ Some layer → IsFirstTextLayer layers index
own_numbers layers index text layer there =
    let found = position-Some (has_text_numbers text.number text.texttype) layers index layer text.found in
    let has : has_text_numbers text.number text.texttype layer ≡ true = subst (λ (l : Layer). has_text_numbers text.number text.texttype l ≡ true) (get_or_from_slice_get layers index layer layer there) found.1 in
    let both = and_parts (int_eq layer.text_number text.number) (int_eq layer.texttype text.texttype) has in
    let number = (Decides-int_eq layer.text_number text.number).0 both.0 in
    let texttype = (Decides-int_eq layer.texttype text.texttype).0 both.1 in
    record { layer = layer; there = there; first = ap (λ (n : ℤ). text_place_of layers n layer.texttype) number ∙ (ap (λ (t : ℤ). text_place_of layers text.number t) texttype ∙ text.found) }

module _ (tech : Tech) (s : Source) (flat : FlatLists) (k : IsLaidMacro tech s flat) where
  -- a metal on which a role's pin is demanded
  of_pin : (role : Role) (port : ℕ) (on : Metal) (fit : Fit) (index : ℕ) → IsDemand role port on fit → metal_layer s.wire on ≡ index → IsFirstLayer s.layers index → IsFirstTextLayer s.layers index
  of_pin role port on fit index demand same first =
      let binds = (k.pins.drawn role port on fit demand).bound.binds in
      let is = ((k.by.flat_cells role).labels_exact binds.label).0 binds.listed in
      let text = flat_text s.layers s.structs (s.kit.cell role) is.chain binds.label is.stands in
      own_numbers s.layers index (subst (IsTextLayer s.layers) (sym binds.binds.under.on ∙ same) text) first.layer first.there

  -- They are.
  pub first_texts : AreFirstTextLayers s.layers s.wire
  first_texts = record {
    second = of_pin Bitcell 0 M2 TopAndBottom (slice_index s.wire.metals 1) (record { place = 0; name = _; there = refl; named = refl }) refl (k.first.there (slice_index s.wire.metals 1) (inl (k.first.metals 1 (omega arith))));
    third = of_pin Precharge 2 M3 Anywhere (slice_index s.wire.metals 2) (record { place = 2; name = _; there = refl; named = refl }) refl (k.first.there (slice_index s.wire.metals 2) (inl (k.first.metals 2 (omega arith))));
  }
