-- What stands below the top is among the flat shapes, on the layers of the technology.
use Rattle.std.proofs.Common.{◌≡◌, inl, inr, ℕ, ℤ, ◌<◌, List, [], ◌∷◌, length, Option, Some, None, refl, sym, ap, subst, arith}
use Rattle.std.specs.Prelude.{Contains}
use Rattle.std.proofs.lemmas.Option.{slice_get_within}
use Rattle.std.proofs.lemmas.List.Elements.{Contains-append_cases}
use Rattle.std.proofs.lemmas.List.Quantifiers.{position-Some}
use Rattle.or_geom.specs.declared.shape.Rect.{Rect}
use Rattle.or_geom.specs.declared.shape.Shape.{Shape}
use Rattle.or_geom.specs.Gathering.{SomeHas}
use Rattle.or_geom.proofs.GatheringLaws.{some_has}
use Rattle.or_geom.proofs.ListLaws.{contains_none}
use Rattle.gds_library.specs.declared.library.Element.{Element}
use Rattle.gds_library.specs.declared.library.Element.TheVariants.{Boundary, Path, Sref, Aref, Text}
use Rattle.gds_library.specs.declared.library.Structure.{Structure}
use Rattle.tech_rules.specs.declared.tech.Layer.{Layer}
use Rattle.tech_rules.specs.declared.tech.Tech.{Tech}
use Rattle.tech_rules.specs.WireRules.{has_numbers}
use Rattle.element_drawing.specs.Drawing.{IsDrawing}
use Rattle.element_drawing.specs.OwnShapes.{AreOn, AreOwnShapes, element_layer, layer_with_numbers, on_layer}
use Rattle.cell_chains.specs.Chains.{elements_of, IsSound}
use Rattle.cell_chains.proofs.MemberLaws.{image_from}
use Rattle.cell_hierarchy.specs.FlatLists.{AreFlatShapes}
use Rattle.leaf_nets.specs.declared.leaves.LooseLeaf.{LooseLeaf}
use Rattle.leaf_contacts.specs.Contact.{HasLooseContact}
use Rattle.leaf_contacts.specs.declared.cells.ReachedCells.{ReachedCells}
use Rattle.leaf_contacts.specs.declared.stand.Stand.{Stand}
use Rattle.leaf_contacts.specs.Marks.{AreEntriesIn, AreStandsIn, IsStandIn, ShapeEntry}
use Rattle.leaf_contacts.specs.Stands.{AreReachedCells, AreStandsBelow}
use Rattle.leaf_contacts.proofs.CellLaws.{elements_are, has_summary}
use Rattle.leaf_contacts.proofs.EntryLaws.{IsEntered, entry_stands, moved_along}
use Rattle.leaf_contacts.proofs.ItemLaws.{chain_short, stands_flat}
use Rattle.leaf_contacts.proofs.LevelLaws.{stand_near}

layer_within : (layers : List Layer) (number datatype : ℤ) (layer : ℕ) → layer_with_numbers layers number datatype ≡ Some layer → layer < length layers
layer_within [] number datatype layer is = absurd cc
layer_within (l ∷ layers) number datatype layer is = (position-Some (has_numbers number datatype) (l ∷ layers) layer l is).0

layer_below : (layers : List Layer) (e : Element) (layer : ℕ) → element_layer layers e ≡ Some layer → layer < length layers
layer_below layers (Boundary number datatype points props) layer is = layer_within layers number datatype layer is
layer_below layers (Path number datatype kind width points props) layer is = layer_within layers number datatype layer is
layer_below layers (Sref name place props) layer is = absurd cc
layer_below layers (Aref name place columns rows across down props) layer is = absurd cc
layer_below layers (Text number texttype at string props) layer is = absurd cc

drawn_on : (layers : List Layer) (o : Option ℕ) (IsDrawn : List Rect → Type 0) (shapes : List Shape) (s : Shape) → ((layer : ℕ) → o ≡ Some layer → layer < length layers) → AreOn o IsDrawn shapes → Contains shapes s → s.layer < length layers
drawn_on layers None IsDrawn shapes s below on h = absurd (contains_none s (subst (λ (l : List Shape). Contains l s) on h))
drawn_on layers (Some layer) IsDrawn shapes s below on h =
    let image = image_from (on_layer layer) on.0 s (subst (λ (l : List Shape). Contains l s) on.2 h) in
    subst (λ (n : ℕ). n < length layers) (ap (λ (t : Shape). t.layer) image.is) (below layer refl)

-- what elements draw is on a layer of the technology
own_on_layer : (layers : List Layer) (es : List Element) (shapes : List Shape) (s : Shape) → AreOwnShapes layers es shapes → Contains shapes s → s.layer < length layers
own_on_layer layers [] shapes s own h = absurd (contains_none s (subst (λ (l : List Shape). Contains l s) own h))
own_on_layer layers (e ∷ es) shapes s own h = elim (Contains-append_cases own.0 own.1 s (subst (λ (l : List Shape). Contains l s) own.4 h)) [
  | inl first ↦ drawn_on layers (element_layer layers e) (IsDrawing e) own.0 s (layer_below layers e) own.2 first
  | inr rest ↦ own_on_layer layers es own.1 s own.3 rest
]

-- the entries are of flat shapes
pub entries_flat : (tree : ReachedCells) (stands : List Stand) (entries : List ShapeEntry) (shapes : List Shape) → IsEntered tree stands entries → AreFlatShapes tree.layers.now tree.structs.now tree.top.now shapes
    → AreEntriesIn (length tree.layers.now) shapes entries
entries_flat tree stands entries shapes all flat = record {
  listed = λ e h. let f = entry_stands tree stands entries e all h in (flat.exact e.shape).1 (stands_flat tree.layers.now tree.structs.now tree.top.now f.chain e.shape f.stands);
  on = λ e h.
      let f = entry_stands tree stands entries e all h in
      let on = own_on_layer tree.layers.now (elements_of tree.structs.now f.stands.end) f.stands.own.shapes f.stands.inner f.stands.own.drawn f.stands.own.among in
      subst (λ (n : ℕ). n < length tree.layers.now) (sym f.stands.moved.layer) on;
}

-- what cells draw where they stand is flat
pub stands_in : (tree : ReachedCells) (stands : List Stand) (shapes : List Shape) → AreReachedCells tree → IsSound tree.structs.now tree.top.now → AreStandsBelow tree 33 stands → AreFlatShapes tree.layers.now tree.structs.now tree.top.now shapes
    → AreStandsIn tree shapes stands
stands_in tree stands shapes are sound below flat stand h =
    let c = below.each stand h in
    let is = c.1 in
    let short = chain_short tree.structs.now tree.top.now c.0 is.name sound is.leads in
    let p = has_summary tree stand.cell is.name are is.cell in
    record {
      near = stand_near tree c.0 stand short is;
      summary = p.summary;
      there = p.there;
      listed = λ inner s among moved. (flat.exact s).1 (stands_flat tree.layers.now tree.structs.now tree.top.now c.0 s (record {
        end = is.name;
        leads = is.leads;
        inner = inner;
        own = record { shapes = p.summary.shapes.items; drawn = subst (λ (es : List Element). AreOwnShapes tree.layers.now es p.summary.shapes.items) (sym (elements_are tree stand.cell is.name are is.cell)) p.is.shapes; among = among };
        moved = moved_along tree c.0 stand inner s is moved;
      }));
    }

-- a contact is one of a leaf cell with a loose shape
pub some_loose : (tech : Tech) (structs : List Structure) (top : List ℕ) (leaves : List LooseLeaf) → HasLooseContact tech structs top leaves → SomeHas (λ (leaf : LooseLeaf). leaf.shapes ≡ [] → ⊥) leaves
some_loose tech structs top leaves h =
    let l = h.loose in
    some_has (λ (leaf : LooseLeaf). leaf.shapes ≡ [] → ⊥) leaves l.leaf l.listed (λ none. contains_none l.inner (subst (λ (shapes : List Shape). Contains shapes l.inner) none l.loose))

pub stand_cell_in : (tree : ReachedCells) (shapes : List Shape) (stand : Stand) → AreReachedCells tree → IsStandIn tree shapes stand → stand.cell < length tree.cells.now
stand_cell_in tree shapes stand are is =
    let within = slice_get_within tree.summaries.now stand.cell is.summary is.there in
    let sized = are.summaries.sized in
    omega (arith, within, sized)
