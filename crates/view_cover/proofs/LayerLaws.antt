-- The metals and cuts of a kit are the first layers with their numbers.
use Rattle.std.proofs.Common.{◌≡◌, inl, inr, ℕ, zero, suc, ◌<◌, ℤ, List, [], ◌∷◌, map, take, length, get_or, Bool, true, false, Option, None, Some, refl, sym, ap, subst, ◌∙◌, arith}
use Rattle.std.specs.Prelude.{slice_get, slice_index, Contains, ◌||◌, find, not, if◌then◌else◌, unwrap_or, option_map}
use Rattle.std.specs.List.{list_any}
use Rattle.std.specs.Option.{option_or}
use Rattle.std.specs.Ordering.{int_eq}
use Rattle.std.proofs.lemmas.Bool.{and_parts, and_from, cases_lt}
use Rattle.std.proofs.lemmas.Bool.Decides.{Decides-int_eq}
use Rattle.std.proofs.lemmas.List.{get_or-take, length-take-le}
use Rattle.std.proofs.lemmas.List.Elements.{Contains-append_cases}
use Rattle.std.proofs.lemmas.List.Folds.{list_any_at}
use Rattle.std.proofs.lemmas.List.Quantifiers.{position-Some}
use Rattle.std.proofs.lemmas.Option.{same_Some, get_or_from_slice_get, slice_get_within}
use Rattle.or_geom.specs.declared.shape.Rect.{Rect}
use Rattle.or_geom.specs.declared.shape.Shape.{Shape}
use Rattle.or_geom.proofs.ListLaws.{contains_none, contains_cases}
use Rattle.gds_library.specs.declared.library.Element.{Element}
use Rattle.gds_library.specs.declared.library.Element.TheVariants.{Boundary, Path, Sref, Aref, Text}
use Rattle.gds_library.specs.declared.library.Structure.{Structure}
use Rattle.tech_rules.specs.declared.tech.Layer.{Layer}
use Rattle.tech_rules.specs.declared.tech.Tech.{Tech}
use Rattle.tech_rules.specs.declared.tech.Wire.{Wire}
use Rattle.tech_rules.specs.WireRules.{has_numbers, is_hidden, is_bad_metal, breaks_cut_rules, joins, first_bad_cut, first_bad_index}
use Rattle.element_drawing.specs.Drawing.{IsDrawing}
use Rattle.element_drawing.specs.OwnShapes.{layer_with_numbers, on_layer, AreOn, AreShapesOf, AreOwnShapes}
use Rattle.cell_chains.specs.Chains.{elements_of}
use Rattle.cell_chains.specs.Instances.{Item}
use Rattle.cell_hierarchy.specs.FlatSet.{IsShapeBy, IsFlatShape}

-- no other layer is the first with the numbers of the layer at the index
abbrev pub IsFirst : List Layer → ℕ → Type 0
IsFirst layers index = (layer : Layer) (other : ℕ) → slice_get layers index ≡ Some layer → layer_with_numbers layers layer.number layer.datatype ≡ Some other → other ≡ index

-- it is the first with some numbers
pub record IsNumbered (layers : List Layer) (index : ℕ) : Type 0 where
  pub number : ℤ
  pub datatype : ℤ
  pub first : layer_with_numbers layers number datatype ≡ Some index

-- the layer of a flat shape is numbered

layers_same : (layer : ℕ) (rects : List Rect) (s : Shape) → Contains (map (on_layer layer) rects) s → s.layer ≡ layer
layers_same layer [] s there = absurd (contains_none s there)
layers_same layer (r ∷ rs) s there = elim (contains_cases (on_layer layer r) (map (on_layer layer) rs) s there) [
  | inl e ↦ ap (λ (t : Shape). t.layer) e
  | inr later ↦ layers_same layer rs s later
]

drawn_on : (place : Option ℕ) (IsDrawn : List Rect → Type 0) (shapes : List Shape) (s : Shape) → AreOn place IsDrawn shapes → Contains shapes s → place ≡ Some s.layer
drawn_on None IsDrawn shapes s are there = absurd (contains_none s (subst (λ (l : List Shape). Contains l s) are there))
drawn_on (Some layer) IsDrawn shapes s are there = ap Some (sym (layers_same layer are.0 s (subst (λ (l : List Shape). Contains l s) are.2 there)))

drawn_numbered : (layers : List Layer) (e : Element) (shapes : List Shape) (s : Shape) → AreShapesOf layers e shapes → Contains shapes s → IsNumbered layers s.layer
drawn_numbered layers (Boundary layer datatype points props) shapes s are there = record { number = layer; datatype = datatype; first = drawn_on (layer_with_numbers layers layer datatype) (IsDrawing (Boundary layer datatype points props)) shapes s are there }
drawn_numbered layers (Path layer datatype kind width points props) shapes s are there = record { number = layer; datatype = datatype; first = drawn_on (layer_with_numbers layers layer datatype) (IsDrawing (Path layer datatype kind width points props)) shapes s are there }
drawn_numbered layers (Sref name place props) shapes s are there = absurd (contains_none s (subst (λ (l : List Shape). Contains l s) are there))
drawn_numbered layers (Aref name place columns rows across down props) shapes s are there = absurd (contains_none s (subst (λ (l : List Shape). Contains l s) are there))
drawn_numbered layers (Text layer texttype at string props) shapes s are there = absurd (contains_none s (subst (λ (l : List Shape). Contains l s) are there))

own_numbered : (layers : List Layer) (es : List Element) (shapes : List Shape) (s : Shape) → AreOwnShapes layers es shapes → Contains shapes s → IsNumbered layers s.layer
own_numbered layers [] shapes s are there = absurd (contains_none s (subst (λ (l : List Shape). Contains l s) are there))
own_numbered layers (e ∷ es) shapes s are there = elim (Contains-append_cases are.0 are.1 s (subst (λ (l : List Shape). Contains l s) are.4 there)) [
  | inl first ↦ drawn_numbered layers e are.0 s are.2 first
  | inr rest ↦ own_numbered layers es are.1 s are.3 rest
]

shape_numbered : (layers : List Layer) (structs : List Structure) (name : List ℕ) (chain : List Item) (s : Shape) → IsShapeBy layers structs name chain s → IsNumbered layers s.layer
shape_numbered layers structs name [] s by = own_numbered layers (elements_of structs name) by.shapes s by.drawn by.among
shape_numbered layers structs name (item ∷ items) s by = subst (IsNumbered layers) (sym by.3.layer) (shape_numbered layers structs item.cell items by.1 by.2)

pub flat_numbered : (layers : List Layer) (structs : List Structure) (name : List ℕ) (s : Shape) → IsFlatShape layers structs name s → IsNumbered layers s.layer
flat_numbered layers structs name s flat = shape_numbered layers structs name flat.chain s flat.stands

-- a layer that is numbered is the first with its numbers
pub numbered_first : (layers : List Layer) (index : ℕ) → IsNumbered layers index → IsFirst layers index
numbered_first layers index n layer other at is =
    let found = position-Some (has_numbers n.number n.datatype) layers index layer n.first in
    let here = subst (λ (l : Layer). has_numbers n.number n.datatype l ≡ true) (get_or_from_slice_get layers index layer layer at) found.1 in
    let both = and_parts (int_eq layer.number n.number) (int_eq layer.datatype n.datatype) here in
    let number = (Decides-int_eq layer.number n.number).0 both.0 in
    let datatype = (Decides-int_eq layer.datatype n.datatype).0 both.1 in
    same_Some other index (sym is ∙ ((λ i. layer_with_numbers layers (number i) (datatype i)) ∙ n.first))

-- cuts aren't hidden

own_numbers : (layer : Layer) → has_numbers layer.number layer.datatype layer ≡ true
own_numbers layer = and_from (int_eq layer.number layer.number) (int_eq layer.datatype layer.datatype) ((Decides-int_eq layer.number layer.number).1 refl) ((Decides-int_eq layer.datatype layer.datatype).1 refl)

not_both : (b : Bool) → b ≡ true → b ≡ false → ⊥
not_both true t f = absurd cc
not_both false t f = absurd cc

seen : (layers : List Layer) (index : ℕ) (layer : Layer) → slice_get layers index ≡ Some layer → is_hidden layers index ≡ list_any (has_numbers layer.number layer.datatype) (take index layers)
seen layers index layer at = ap (λ (o : Option Layer). unwrap_or (option_map (λ (l : Layer). list_any (has_numbers l.number l.datatype) (take index layers)) o) false) at

no_earlier : (layers : List Layer) (index other : ℕ) (layer : Layer) → is_hidden layers index ≡ false → slice_get layers index ≡ Some layer → has_numbers layer.number layer.datatype (get_or layers other layer) ≡ true → other < index → ⊥
no_earlier layers index other layer shown at has lt =
    let within = slice_get_within layers index layer at in
    let long = length-take-le index layers (omega (arith, within)) in
    let p = has_numbers layer.number layer.datatype in
    let among : p (get_or (take index layers) other layer) ≡ true = ap p (get_or-take index layers other layer lt) ∙ has in
    not_both (list_any p (take index layers)) (list_any_at p (take index layers) other layer (omega (arith, long, lt)) among) (sym (seen layers index layer at) ∙ shown)

no_later : (layers : List Layer) (index other : ℕ) (layer : Layer) → slice_get layers index ≡ Some layer → ((k : ℕ) → k < other → has_numbers layer.number layer.datatype (get_or layers k layer) ≡ false) → index < other → ⊥
no_later layers index other layer at before lt =
    not_both (has_numbers layer.number layer.datatype layer) (own_numbers layer) (sym (ap (has_numbers layer.number layer.datatype) (get_or_from_slice_get layers index layer layer at)) ∙ before index lt)

pub shown_first : (layers : List Layer) (index : ℕ) → is_hidden layers index ≡ false → IsFirst layers index
shown_first layers index shown layer other at is =
    let found = position-Some (has_numbers layer.number layer.datatype) layers other layer is in
    elim (cases_lt other index) [
      | inl lt ↦ absurd (no_earlier layers index other layer shown at found.1 lt)
      | inr ge ↦ elim (cases_lt index other) [
        | inl lt ↦ absurd (no_later layers index other layer at found.2 lt)
        | inr le ↦ omega (arith, ge, le)
      ]
    ]

neither : (a b c : Bool) (x : ℕ) (rest : Option ℕ) → (if (a || b) || c then Some x else rest) ≡ None → (a ≡ false) × (rest ≡ None)
neither true b c x rest none = absurd cc
neither false true c x rest none = absurd cc
neither false false true x rest none = absurd cc
neither false false false x rest none = (refl, none)

neither_or : (a b : Option ℕ) → option_or a b ≡ None → b ≡ None
neither_or None b none = none
neither_or (Some x) b none = absurd cc

-- no cut of the three is hidden
pub cuts_shown : (tech : Tech) (wire : Wire) (cuts metals : List ℕ) → length cuts ≡ 3 → length metals ≡ 4 → first_bad_cut tech wire cuts metals ≡ None → (k : ℕ) → k < 3 → is_hidden tech.layers (slice_index cuts k) ≡ false
cuts_shown tech wire [] metals three four none k lt = absurd (omega (arith, three))
cuts_shown tech wire (a ∷ []) metals three four none k lt = absurd (omega (arith, three))
cuts_shown tech wire (a ∷ b ∷ []) metals three four none k lt = absurd (omega (arith, three))
cuts_shown tech wire (a ∷ b ∷ c ∷ d ∷ cuts) metals three four none k lt = absurd (omega (arith, three))
cuts_shown tech wire (a ∷ b ∷ c ∷ []) [] three four none k lt = absurd (omega (arith, four))
cuts_shown tech wire (a ∷ b ∷ c ∷ []) (m ∷ []) three four none k lt = absurd (omega (arith, four))
cuts_shown tech wire (a ∷ b ∷ c ∷ []) (m ∷ n ∷ []) three four none k lt = absurd (omega (arith, four))
cuts_shown tech wire (a ∷ b ∷ c ∷ []) (m ∷ n ∷ o ∷ []) three four none k lt = absurd (omega (arith, four))
cuts_shown tech wire (a ∷ b ∷ c ∷ []) (m ∷ n ∷ o ∷ p ∷ metals) three four none k lt =
    let one = neither (is_hidden tech.layers a) (breaks_cut_rules tech wire a) (not (list_any (joins a m n) tech.connects)) a (first_bad_cut tech wire (b ∷ c ∷ []) (n ∷ o ∷ p ∷ metals)) none in
    let two = neither (is_hidden tech.layers b) (breaks_cut_rules tech wire b) (not (list_any (joins b n o) tech.connects)) b (first_bad_cut tech wire (c ∷ []) (o ∷ p ∷ metals)) one.1 in
    let three_is = neither (is_hidden tech.layers c) (breaks_cut_rules tech wire c) (not (list_any (joins c o p) tech.connects)) c (first_bad_cut tech wire [] (p ∷ metals)) two.1 in
    at k lt one.0 two.0 three_is.0
  where
    at : (k : ℕ) → k < 3 → is_hidden tech.layers a ≡ false → is_hidden tech.layers b ≡ false → is_hidden tech.layers c ≡ false → is_hidden tech.layers (slice_index (a ∷ b ∷ c ∷ []) k) ≡ false
    at zero below x y z = x
    at (suc zero) below x y z = y
    at (suc (suc zero)) below x y z = z
    at (suc (suc (suc k))) below x y z = absurd (omega (arith, below))

pub cut_first : (tech : Tech) (wire : Wire) → length wire.cuts ≡ 3 → length wire.metals ≡ 4 → first_bad_index tech wire ≡ None → (k : ℕ) → k < 3 → IsFirst tech.layers (slice_index wire.cuts k)
cut_first tech wire three four none k lt =
    shown_first tech.layers (slice_index wire.cuts k) (cuts_shown tech wire wire.cuts wire.metals three four (neither_or (find (is_bad_metal tech wire) wire.metals) (first_bad_cut tech wire wire.cuts wire.metals) none) k lt)
