-- The flat shapes and labels of a drawn cell.
use Rattle.std.proofs.Common.{◌≡◌, ◌⊎◌, inl, inr, ◌↔◌, ℕ, zero, suc, ◌<◌, pos, List, [], ◌∷◌, ◌++◌, map, length, Option, Some, None, refl, sym, ap, subst, ◌∙◌, append_assoc, arith}
use Rattle.std.specs.Prelude.{Contains, slice_get}
use Rattle.std.specs.List.{AllByRecursion}
use Rattle.std.specs.List.Sorted.{IsPermutation}
use Rattle.std.proofs.lemmas.List.Sorted.{IsPermutation-sym, Contains-permutation}
use Rattle.std.proofs.lemmas.List.Elements.{Contains-append_left, Contains-append_right, Contains-append_cases}
use Rattle.or_geom.specs.declared.shape.Point.{Point}
use Rattle.or_geom.specs.declared.shape.Rect.{Rect}
use Rattle.or_geom.specs.declared.shape.Shape.{Shape}
use Rattle.or_geom.proofs.ListLaws.{contains_none, contains_cases, contains_here, contains_first, contains_later}
use Rattle.gds_library.specs.declared.library.Element.{Element}
use Rattle.gds_library.specs.declared.library.Structure.{Structure}
use Rattle.rectilinear.specs.Slabs.{IsSlabList}
use Rattle.tech_rules.specs.declared.tech.Layer.{Layer}
use Rattle.element_drawing.specs.PlainLabel.{PlainLabel}
use Rattle.element_drawing.specs.Drawing.{IsDrawing}
use Rattle.element_drawing.specs.OwnShapes.{element_layer, on_layer, AreOn, AreShapesOf, AreOwnShapes}
use Rattle.element_drawing.specs.OwnLabels.{own_labels, with_label, text_place_of}
use Rattle.cell_chains.specs.Instances.{Item, HasItem}
use Rattle.cell_chains.specs.Chains.{elements_of, IsItemFrom}
use Rattle.cell_hierarchy.specs.FlatSet.{IsOwnShape, IsShapeBy, IsFlatShape, IsLabelBy, IsFlatLabel}
use Rattle.cell_hierarchy.proofs.BelowLaws.{same_item}
use Rattle.cell_builder.specs.declared.cell.PlacedInstance.{PlacedInstance}
use Rattle.cell_builder.specs.declared.cell.PlacedLabel.{PlacedLabel}
use Rattle.cell_builder.specs.declared.cell.DrawnCell.{DrawnCell}
use Rattle.cell_builder.specs.Structures.{ring, instance_element, boundary_on, wire_element, text_on, label_element, cell_elements}
use Rattle.cell_builder.specs.Finish.{IsInOrder}
use Rattle.cell_builder.specs.Flat.{IsShapeTaken, IsLabelTaken, item_of, IsOwnWire, IsOwnLabel, IsTakenOver, HasLayers, IsDrawn, CellsAreFlat, LabelsAreFlat}
use Rattle.cell_builder.proofs.RingLaws.{slab_is, ring_slabs}

-- an item at a place of a list
record IsFound {X : Type 0} (xs : List X) (k : ℕ) : Type 0 where
  item : X
  is : slice_get xs k ≡ Some item

found : {X : Type 0} (xs : List X) (k : ℕ) → k < length xs → IsFound xs k
found [] k lt = absurd (omega arith)
found (x ∷ xs) zero lt = record { item = x; is = refl }
found (x ∷ xs) (suc k) lt = let f = found xs k (omega arith) in record { item = f.item; is = f.is }

all_at : {X : Type 0} (P : X → Type 0) (xs : List X) (x : X) → AllByRecursion P xs → Contains xs x → P x
all_at P [] x all c = absurd (contains_none x c)
all_at P (y ∷ ys) x all c = elim (contains_cases y ys x c) [ inl e ↦ subst P (sym e) all.0 | inr later ↦ all_at P ys x all.1 later ]

all_by_each : {X : Type 0} (P : X → Type 0) (xs : List X) → ((x : X) → Contains xs x → P x) → AllByRecursion P xs
all_by_each P [] f = tt
all_by_each P (x ∷ xs) f = (f x (contains_first x xs), all_by_each P xs (λ y c. f y (contains_later x xs y c)))

pub all_permuted : {X : Type 0} (P : X → Type 0) (xs ys : List X) → IsPermutation xs ys → AllByRecursion P xs → AllByRecursion P ys
all_permuted P xs ys same all = all_by_each P ys (λ y c. all_at P xs y all (Contains-permutation ys xs y (IsPermutation-sym xs ys same) c))

-- what a wire draws

abbrev own_on : Option ℕ → Rect → List Shape
own_on None r = []
own_on (Some k) r = on_layer k r ∷ []

abbrev own_wires : List Layer → List Shape → List Shape
own_wires layers [] = []
own_wires layers (w ∷ ws) = own_on (element_layer layers (wire_element layers w)) w.rect ++ own_wires layers ws

ring_drawing : (o : Option Layer) (r : Rect) → IsDrawing (boundary_on o (ring r)) (r ∷ [])
ring_drawing None r = ring_slabs r
ring_drawing (Some layer) r = ring_slabs r

are_on : (place : Option ℕ) (D : List Rect → Type 0) (r : Rect) → D (r ∷ []) → AreOn place D (own_on place r)
are_on None D r d = refl
are_on (Some k) D r d = (r ∷ [], d, refl)

wires_draw : (layers : List Layer) (ws : List Shape) (es : List Element) (rest : List Shape) → AreOwnShapes layers es rest → AreOwnShapes layers (map (wire_element layers) ws ++ es) (own_wires layers ws ++ rest)
wires_draw layers [] es rest h = h
wires_draw layers (w ∷ ws) es rest h = (
  own_on (element_layer layers (wire_element layers w)) w.rect,
  own_wires layers ws ++ rest,
  are_on (element_layer layers (wire_element layers w)) (IsDrawing (wire_element layers w)) w.rect (ring_drawing (slice_get layers w.layer) w.rect),
  wires_draw layers ws es rest h,
  append_assoc (own_on (element_layer layers (wire_element layers w)) w.rect) (own_wires layers ws) rest,
)

instances_draw : (layers : List Layer) (is : List PlacedInstance) (es : List Element) (rest : List Shape) → AreOwnShapes layers es rest → AreOwnShapes layers (map instance_element is ++ es) rest
instances_draw layers [] es rest h = h
instances_draw layers (i ∷ is) es rest h = ([], rest, refl, instances_draw layers is es rest h, refl)

text_draws : (layers : List Layer) (o : Option Layer) (at : Point) (text : List ℕ) → AreShapesOf layers (text_on o at text) []
text_draws layers None at text = refl
text_draws layers (Some layer) at text = refl

labels_draw : (layers : List Layer) (ls : List PlacedLabel) → AreOwnShapes layers (map (label_element layers) ls) []
labels_draw layers [] = refl
labels_draw layers (l ∷ ls) = ([], [], text_draws layers (slice_get layers l.layer) l.at l.text, labels_draw layers ls, refl)

cell_draws : (layers : List Layer) (cell : DrawnCell) → AreOwnShapes layers (cell_elements layers cell) (own_wires layers cell.wires ++ [])
cell_draws layers cell = instances_draw layers cell.instances _ _ (wires_draw layers cell.wires _ [] (labels_draw layers cell.labels))

-- a wire is drawn

own_has : (p : Option ℕ) (r : Rect) (s : Shape) → p ≡ Some s.layer → s.rect ≡ r → Contains (own_on p r) s
own_has p r s e f = subst (λ (q : Option ℕ). Contains (own_on q r) s) (sym e) (contains_here (on_layer s.layer r) [] s (λ i. record { layer = s.layer; rect = f i }))

wire_among : (layers : List Layer) (ws : List Shape) (s w : Shape) → Contains ws w → element_layer layers (wire_element layers w) ≡ Some s.layer → s.rect ≡ w.rect → Contains (own_wires layers ws) s
wire_among layers [] s w c e f = absurd (contains_none w c)
wire_among layers (v ∷ vs) s w c e f = elim (contains_cases v vs w c) [
  | inl is ↦ Contains-append_left (own_on (element_layer layers (wire_element layers v)) v.rect) (own_wires layers vs) s
      (own_has (element_layer layers (wire_element layers v)) v.rect s (ap (λ (u : Shape). element_layer layers (wire_element layers u)) (sym is) ∙ e) (f ∙ ap (λ (u : Shape). u.rect) is))
  | inr later ↦ Contains-append_right (own_on (element_layer layers (wire_element layers v)) v.rect) (own_wires layers vs) s (wire_among layers vs s w later e f)
]

pub wire_is_own : (layers : List Layer) (cell : DrawnCell) (s : Shape) → IsOwnWire layers cell.wires s → IsOwnShape layers (cell_elements layers cell) s
wire_is_own layers cell s w = record {
  shapes = own_wires layers cell.wires ++ [];
  drawn = cell_draws layers cell;
  among = Contains-append_left (own_wires layers cell.wires) [] s
      (wire_among layers cell.wires s w.wire w.among (ap (λ (o : Option Layer). element_layer layers (boundary_on o (ring w.wire.rect))) w.on ∙ w.first) w.rect);
}

-- what is drawn is a wire

mapped : (k : ℕ) (r : Rect) (rects : List Rect) (s : Shape) → ((t : Rect) → Contains rects t → t ≡ r) → Contains (map (on_layer k) rects) s → (Some k ≡ Some s.layer) × (s.rect ≡ r)
mapped k r [] s f c = absurd (contains_none s c)
mapped k r (t ∷ ts) s f c = elim (contains_cases (on_layer k t) (map (on_layer k) ts) s c) [
  | inl e ↦ (ap (λ (z : Shape). Some z.layer) (sym e), ap (λ (z : Shape). z.rect) e ∙ f t (contains_first t ts))
  | inr later ↦ mapped k r ts s (λ u h. f u (contains_later t ts u h)) later
]

on_ring : (p : Option ℕ) (r : Rect) (first : List Shape) (s : Shape) → AreOn p (IsSlabList (ring r)) first → Contains first s → (p ≡ Some s.layer) × (s.rect ≡ r)
on_ring None r first s e c = absurd (contains_none s (subst (λ (l : List Shape). Contains l s) e c))
on_ring (Some k) r first s h c = mapped k r h.0 s (λ t in_rects. slab_is r t ((h.1.exact t).0 in_rects)) (subst (λ (l : List Shape). Contains l s) h.2 c)

drawn_wire : (layers : List Layer) (ws : List Shape) (w s : Shape) (first : List Shape) → Contains ws w → w.layer < length layers → AreShapesOf layers (wire_element layers w) first → Contains first s → IsOwnWire layers ws s
drawn_wire layers ws w s first among lt h c =
    let f = found layers w.layer lt in
    let g : AreShapesOf layers (boundary_on (Some f.item) (ring w.rect)) first = subst (λ (o : Option Layer). AreShapesOf layers (boundary_on o (ring w.rect)) first) f.is h in
    let r = on_ring _ w.rect first s g c in
    record { wire = w; among = among; layer = f.item; on = f.is; first = r.0; rect = r.1 }

nothing_drawn : (layers : List Layer) (ls : List PlacedLabel) (shapes : List Shape) → AreOwnShapes layers (map (label_element layers) ls) shapes → shapes ≡ []
nothing_drawn layers [] shapes h = h
nothing_drawn layers (l ∷ ls) shapes h =
    let first : h.0 ≡ [] = text_none layers (slice_get layers l.layer) l.at l.text h.0 h.2 in
    h.4 ∙ ((λ i. first i ++ h.1) ∙ nothing_drawn layers ls h.1 h.3)
  where
    text_none : (layers : List Layer) (o : Option Layer) (at : Point) (text : List ℕ) (shapes : List Shape) → AreShapesOf layers (text_on o at text) shapes → shapes ≡ []
    text_none layers None at text shapes h = h
    text_none layers (Some layer) at text shapes h = h

drawn_wires : (layers : List Layer) (all ws : List Shape) (ls : List PlacedLabel) (shapes : List Shape) (s : Shape) → ((w : Shape) → Contains ws w → Contains all w) → AllByRecursion (λ (w : Shape). w.layer < length layers) ws
    → AreOwnShapes layers (map (wire_element layers) ws ++ map (label_element layers) ls) shapes → Contains shapes s → IsOwnWire layers all s
drawn_wires layers all [] ls shapes s sub lts h c = absurd (contains_none s (subst (λ (l : List Shape). Contains l s) (nothing_drawn layers ls shapes h) c))
drawn_wires layers all (w ∷ ws) ls shapes s sub lts h c = elim (Contains-append_cases h.0 h.1 s (subst (λ (l : List Shape). Contains l s) h.4 c)) [
  | inl here ↦ drawn_wire layers all w s h.0 (sub w (contains_first w ws)) lts.0 h.2 here
  | inr later ↦ drawn_wires layers all ws ls h.1 s (λ v d. sub v (contains_later w ws v d)) lts.1 h.3 later
]

without_instances : (layers : List Layer) (is : List PlacedInstance) (es : List Element) (shapes : List Shape) → AreOwnShapes layers (map instance_element is ++ es) shapes → AreOwnShapes layers es shapes
without_instances layers [] es shapes h = h
without_instances layers (i ∷ is) es shapes h =
    let same : h.1 ≡ shapes = sym (h.4 ∙ (λ k. h.2 k ++ h.1)) in
    subst (AreOwnShapes layers es) same (without_instances layers is es h.1 h.3)

own_is_wire : (layers : List Layer) (cell : DrawnCell) (s : Shape) → HasLayers layers cell → IsOwnShape layers (cell_elements layers cell) s → IsOwnWire layers cell.wires s
own_is_wire layers cell s has own =
    drawn_wires layers cell.wires cell.wires cell.labels own.shapes s (λ w c. c) has.wires (without_instances layers cell.instances _ own.shapes own.drawn) own.among

-- the items of a drawn cell

no_wire_item : (o : Option Layer) (corners : List Point) (n : ℕ) (item : Item) → HasItem n (boundary_on o corners) item → ⊥
no_wire_item None corners n item h = h
no_wire_item (Some layer) corners n item h = h

no_text_item : (o : Option Layer) (at : Point) (text : List ℕ) (n : ℕ) (item : Item) → HasItem n (text_on o at text) item → ⊥
no_text_item None at text n item h = h
no_text_item (Some layer) at text n item h = h

no_label_items : (layers : List Layer) (n : ℕ) (ls : List PlacedLabel) (item : Item) → IsItemFrom n (map (label_element layers) ls) item → ⊥
no_label_items layers n [] item h = h
no_label_items layers n (l ∷ ls) item (inl h) = no_text_item (slice_get layers l.layer) l.at l.text n item h
no_label_items layers n (l ∷ ls) item (inr h) = no_label_items layers (suc n) ls item h

no_wire_items : (layers : List Layer) (n : ℕ) (ws : List Shape) (ls : List PlacedLabel) (item : Item) → IsItemFrom n (map (wire_element layers) ws ++ map (label_element layers) ls) item → ⊥
no_wire_items layers n [] ls item h = no_label_items layers n ls item h
no_wire_items layers n (w ∷ ws) ls item (inl h) = no_wire_item (slice_get layers w.layer) (ring w.rect) n item h
no_wire_items layers n (w ∷ ws) ls item (inr h) = no_wire_items layers (suc n) ws ls item h

pub record IsItemOfSome (is : List PlacedInstance) (item : Item) : Type 0 where
  pub instance : PlacedInstance
  pub among : Contains is instance
  pub same : item ≡ item_of instance

item_of_some : (n : ℕ) (is : List PlacedInstance) (es : List Element) (item : Item) → ((m : ℕ) → IsItemFrom m es item → ⊥) → IsItemFrom n (map instance_element is ++ es) item → IsItemOfSome is item
item_of_some n [] es item none h = absurd (none n h)
item_of_some n (i ∷ is) es item none (inl h) = record { instance = i; among = contains_first i is; same = same_item item (item_of i) h.named h.cell h.placed }
item_of_some n (i ∷ is) es item none (inr h) = let r = item_of_some (suc n) is es item none h in record { instance = r.instance; among = contains_later i is r.instance r.among; same = r.same }

-- an item of a cell that the library draws is one of its instances
pub item_of_cell : (layers : List Layer) (structs : List Structure) (cell : DrawnCell) (item : Item) → IsDrawn layers structs cell → IsItemFrom 0 (elements_of structs cell.name) item → IsItemOfSome cell.instances item
item_of_cell layers structs cell item drawn h =
    let d = drawn.sorted in
    let r = item_of_some 0 d.instances _ item (λ m. no_wire_items layers m d.wires d.labels item) (subst (λ (es : List Element). IsItemFrom 0 es item) drawn.is h) in
    subst (λ (is : List PlacedInstance). IsItemOfSome is item) drawn.order.instances r

some_item : (n : ℕ) (is : List PlacedInstance) (es : List Element) (j : PlacedInstance) → Contains is j → IsItemFrom n (map instance_element is ++ es) (item_of j)
some_item n [] es j c = absurd (contains_none j c)
some_item n (i ∷ is) es j c = elim (contains_cases i is j c) [
  | inl e ↦ inl (subst (λ (k : PlacedInstance). HasItem n (instance_element i) (item_of k)) (sym e) (record { named = refl; cell = refl; placed = refl }))
  | inr later ↦ inr (some_item (suc n) is es j later)
]

-- The flat shapes

shape_cases : (layers : List Layer) (structs : List Structure) (name : List ℕ) (cell : DrawnCell) (s : Shape) → elements_of structs name ≡ cell_elements layers cell → HasLayers layers cell → (chain : List Item) → IsShapeBy layers structs name chain s
    → IsOwnWire layers cell.wires s ⊎ IsTakenOver IsShapeTaken (IsFlatShape layers structs) cell.instances s
shape_cases layers structs name cell s is has [] h = inl (own_is_wire layers cell s has (subst (λ (es : List Element). IsOwnShape layers es s) is h))
shape_cases layers structs name cell s is has (item ∷ items) h =
    let r = item_of_some 0 cell.instances _ item (λ m. no_wire_items layers m cell.wires cell.labels item) (subst (λ (es : List Element). IsItemFrom 0 es item) is h.0) in
    let here : IsShapeTaken item (IsFlatShape layers structs item.cell) s = record { inner = h.1; has = record { chain = items; stands = h.2 }; moved = h.3 } in
    inr (record { instance = r.instance; among = r.among; taken = subst (λ (j : Item). IsShapeTaken j (IsFlatShape layers structs j.cell) s) r.same here })

flat_in_order : (layers : List Layer) (structs : List Structure) (name : List ℕ) (cell : DrawnCell) → elements_of structs name ≡ cell_elements layers cell → HasLayers layers cell
    → (s : Shape) → IsFlatShape layers structs name s ↔ (IsOwnWire layers cell.wires s ⊎ IsTakenOver IsShapeTaken (IsFlatShape layers structs) cell.instances s)
flat_in_order layers structs name cell is has s = (
  λ flat. shape_cases layers structs name cell s is has flat.chain flat.stands,
  λ either. elim either [
    | inl wire ↦ record { chain = []; stands = subst (λ (es : List Element). IsOwnShape layers es s) (sym is) (wire_is_own layers cell s wire) }
    | inr t ↦ record {
      chain = item_of t.instance ∷ t.taken.has.chain;
      stands = (subst (λ (es : List Element). IsItemFrom 0 es (item_of t.instance)) (sym is) (some_item 0 cell.instances _ t.instance t.among), t.taken.inner, t.taken.has.stands, t.taken.moved);
    }
  ],
)

-- The flat labels

boundary_names_nothing : (layers : List Layer) (o : Option Layer) (corners : List Point) (es : List Element) → own_labels layers (boundary_on o corners ∷ es) ≡ own_labels layers es
boundary_names_nothing layers None corners es = refl
boundary_names_nothing layers (Some layer) corners es = refl

wires_name_nothing : (layers : List Layer) (ws : List Shape) (es : List Element) → own_labels layers (map (wire_element layers) ws ++ es) ≡ own_labels layers es
wires_name_nothing layers [] es = refl
wires_name_nothing layers (w ∷ ws) es = boundary_names_nothing layers (slice_get layers w.layer) (ring w.rect) (map (wire_element layers) ws ++ es) ∙ wires_name_nothing layers ws es

instances_name_nothing : (layers : List Layer) (is : List PlacedInstance) (es : List Element) → own_labels layers (map instance_element is ++ es) ≡ own_labels layers es
instances_name_nothing layers [] es = refl
instances_name_nothing layers (i ∷ is) es = instances_name_nothing layers is es

cell_names : (layers : List Layer) (cell : DrawnCell) → own_labels layers (cell_elements layers cell) ≡ own_labels layers (map (label_element layers) cell.labels)
cell_names layers cell = instances_name_nothing layers cell.instances _ ∙ wires_name_nothing layers cell.wires _

named_by : (place : Option ℕ) (at : Point) (text : List ℕ) (rest : List PlainLabel) (label : PlainLabel) → place ≡ Some label.layer → label.path ≡ [] → label.name ≡ text → label.at ≡ at → Contains (with_label place text at rest) label
named_by place at text rest label e path name at_is =
    subst (λ (p : Option ℕ). Contains (with_label p text at rest) label) (sym e)
    (contains_here (record { path = []; name = text; layer = label.layer; at = at }) rest label (λ i. record { path = path i; name = name i; layer = label.layer; at = at_is i }))

named_later : (place : Option ℕ) (at : Point) (text : List ℕ) (rest : List PlainLabel) (label : PlainLabel) → Contains rest label → Contains (with_label place text at rest) label
named_later None at text rest label c = c
named_later (Some k) at text rest label c = contains_later _ rest label c

text_names : (layers : List Layer) (o : Option Layer) (at : Point) (text : List ℕ) (es : List Element) (label : PlainLabel) (layer : Layer) → o ≡ Some layer → text_place_of layers layer.text_number layer.texttype ≡ Some label.layer → label.path ≡ []
    → label.name ≡ text → label.at ≡ at → Contains (own_labels layers (text_on o at text ∷ es)) label
text_names layers o at text es label layer on first path name at_is =
    subst (λ (p : Option Layer). Contains (own_labels layers (text_on p at text ∷ es)) label) (sym on) (named_by _ at text (own_labels layers es) label first path name at_is)

text_goes_on : (layers : List Layer) (o : Option Layer) (at : Point) (text : List ℕ) (es : List Element) (label : PlainLabel) → Contains (own_labels layers es) label → Contains (own_labels layers (text_on o at text ∷ es)) label
text_goes_on layers None at text es label c = named_later (text_place_of layers (pos 0) (pos 0)) at text (own_labels layers es) label c
text_goes_on layers (Some layer) at text es label c = named_later (text_place_of layers layer.text_number layer.texttype) at text (own_labels layers es) label c

label_among : (layers : List Layer) (ls all : List PlacedLabel) (label : PlainLabel) (o : IsOwnLabel layers all label) → Contains ls o.text → Contains (own_labels layers (map (label_element layers) ls)) label
label_among layers [] all label o c = absurd (contains_none o.text c)
label_among layers (l ∷ ls) all label o c = elim (contains_cases l ls o.text c) [
  | inl e ↦ text_names layers (slice_get layers l.layer) l.at l.text _ label o.layer (ap (λ (m : PlacedLabel). slice_get layers m.layer) (sym e) ∙ o.on) o.first o.path (o.name ∙ ap (λ (m : PlacedLabel). m.text) e) (o.at ∙ ap (λ (m : PlacedLabel). m.at) e)
  | inr later ↦ text_goes_on layers (slice_get layers l.layer) l.at l.text _ label (label_among layers ls all label o later)
]

-- the label is the one, on the layer, or one of the rest
record IsNamed (place : Option ℕ) (at : Point) (text : List ℕ) (label : PlainLabel) : Type 0 where
  first : place ≡ Some label.layer
  path : label.path ≡ []
  name : label.name ≡ text
  is_at : label.at ≡ at

named_cases : (place : Option ℕ) (at : Point) (text : List ℕ) (rest : List PlainLabel) (label : PlainLabel) → Contains (with_label place text at rest) label → IsNamed place at text label ⊎ Contains rest label
named_cases None at text rest label c = inr c
named_cases (Some k) at text rest label c = elim (contains_cases (record { path = []; name = text; layer = k; at = at }) rest label c) [
  | inl e ↦ inl (record { first = ap (λ (l : PlainLabel). Some l.layer) (sym e); path = ap (λ (l : PlainLabel). l.path) e; name = ap (λ (l : PlainLabel). l.name) e; is_at = ap (λ (l : PlainLabel). l.at) e })
  | inr later ↦ inr later
]

labels_named : (layers : List Layer) (all ls : List PlacedLabel) (label : PlainLabel) → ((l : PlacedLabel) → Contains ls l → Contains all l) → AllByRecursion (λ (l : PlacedLabel). l.layer < length layers) ls → Contains (own_labels layers (map (label_element layers) ls)) label
    → IsOwnLabel layers all label
labels_named layers all [] label sub lts c = absurd (contains_none label c)
labels_named layers all (l ∷ ls) label sub lts c =
    let f = found layers l.layer lts.0 in
    let rest = map (label_element layers) ls in
    let d : Contains (own_labels layers (text_on (Some f.item) l.at l.text ∷ rest)) label = subst (λ (o : Option Layer). Contains (own_labels layers (text_on o l.at l.text ∷ rest)) label) f.is c in
    elim (named_cases (text_place_of layers f.item.text_number f.item.texttype) l.at l.text (own_labels layers rest) label d) [
      | inl n ↦ record { text = l; among = sub l (contains_first l ls); layer = f.item; on = f.is; first = n.first; path = n.path; name = n.name; at = n.is_at }
      | inr later ↦ labels_named layers all ls label (λ m e. sub m (contains_later l ls m e)) lts.1 later
    ]

label_cases : (layers : List Layer) (structs : List Structure) (name : List ℕ) (cell : DrawnCell) (label : PlainLabel) → elements_of structs name ≡ cell_elements layers cell → HasLayers layers cell → (chain : List Item)
    → IsLabelBy layers structs name chain label → IsOwnLabel layers cell.labels label ⊎ IsTakenOver IsLabelTaken (IsFlatLabel layers structs) cell.instances label
label_cases layers structs name cell label is has [] h =
    let own = subst (λ (es : List Element). Contains (own_labels layers es) label) is h in
    inl (labels_named layers cell.labels cell.labels label (λ l c. c) has.labels (subst (λ (l : List PlainLabel). Contains l label) (cell_names layers cell) own))
label_cases layers structs name cell label is has (item ∷ items) h =
    let r = item_of_some 0 cell.instances _ item (λ m. no_wire_items layers m cell.wires cell.labels item) (subst (λ (es : List Element). IsItemFrom 0 es item) is h.0) in
    let here : IsLabelTaken item (IsFlatLabel layers structs item.cell) label = record { inner = h.1; has = record { chain = items; stands = h.2 }; moved = h.3 } in
    inr (record { instance = r.instance; among = r.among; taken = subst (λ (j : Item). IsLabelTaken j (IsFlatLabel layers structs j.cell) label) r.same here })

labels_in_order : (layers : List Layer) (structs : List Structure) (name : List ℕ) (cell : DrawnCell) → elements_of structs name ≡ cell_elements layers cell → HasLayers layers cell
    → (label : PlainLabel) → IsFlatLabel layers structs name label ↔ (IsOwnLabel layers cell.labels label ⊎ IsTakenOver IsLabelTaken (IsFlatLabel layers structs) cell.instances label)
labels_in_order layers structs name cell is has label = (
  λ flat. label_cases layers structs name cell label is has flat.chain flat.stands,
  λ either. elim either [
    | inl own ↦
        let among = label_among layers cell.labels cell.labels label own own.among in
        record { chain = []; stands = subst (λ (es : List Element). Contains (own_labels layers es) label) (sym is) (subst (λ (l : List PlainLabel). Contains l label) (sym (cell_names layers cell)) among) }
    | inr t ↦ record {
      chain = item_of t.instance ∷ t.taken.has.chain;
      stands = (subst (λ (es : List Element). IsItemFrom 0 es (item_of t.instance)) (sym is) (some_item 0 cell.instances _ t.instance t.among), t.taken.inner, t.taken.has.stands, t.taken.moved);
    }
  ],
)

-- In whatever order wires and labels stand

layers_in_order : (layers : List Layer) (cell sorted : DrawnCell) → IsInOrder cell sorted → HasLayers layers cell → HasLayers layers sorted
layers_in_order layers cell sorted order has = record {
  wires = all_permuted (λ (s : Shape). s.layer < length layers) cell.wires sorted.wires order.wires_same has.wires;
  labels = all_permuted (λ (l : PlacedLabel). l.layer < length layers) cell.labels sorted.labels order.labels_same has.labels;
}

pub wire_as : (layers : List Layer) (xs ys : List Shape) (s : Shape) → IsPermutation xs ys → IsOwnWire layers xs s → IsOwnWire layers ys s
wire_as layers xs ys s same w = record { wire = w.wire; among = Contains-permutation xs ys w.wire same w.among; layer = w.layer; on = w.on; first = w.first; rect = w.rect }

own_as : (layers : List Layer) (xs ys : List PlacedLabel) (label : PlainLabel) → IsPermutation xs ys → IsOwnLabel layers xs label → IsOwnLabel layers ys label
own_as layers xs ys label same o = record { text = o.text; among = Contains-permutation xs ys o.text same o.among; layer = o.layer; on = o.on; first = o.first; path = o.path; name = o.name; at = o.at }

pub cells_are_flat : CellsAreFlat
cells_are_flat layers structs cell drawn has s =
    let o = drawn.order in
    let flat = flat_in_order layers structs cell.name drawn.sorted drawn.is (layers_in_order layers cell drawn.sorted o has) s in (
      λ f. elim (flat.0 f) [
        | inl w ↦ inl (wire_as layers drawn.sorted.wires cell.wires s (IsPermutation-sym cell.wires drawn.sorted.wires o.wires_same) w)
        | inr t ↦ inr (subst (λ (is : List PlacedInstance). IsTakenOver IsShapeTaken (IsFlatShape layers structs) is s) o.instances t)
      ],
      λ either. flat.1 (elim either [
        | inl w ↦ inl (wire_as layers cell.wires drawn.sorted.wires s o.wires_same w)
        | inr t ↦ inr (subst (λ (is : List PlacedInstance). IsTakenOver IsShapeTaken (IsFlatShape layers structs) is s) (sym o.instances) t)
      ]),
    )

pub labels_are_flat : LabelsAreFlat
labels_are_flat layers structs cell drawn has label =
    let o = drawn.order in
    let flat = labels_in_order layers structs cell.name drawn.sorted drawn.is (layers_in_order layers cell drawn.sorted o has) label in (
      λ f. elim (flat.0 f) [
        | inl w ↦ inl (own_as layers drawn.sorted.labels cell.labels label (IsPermutation-sym cell.labels drawn.sorted.labels o.labels_same) w)
        | inr t ↦ inr (subst (λ (is : List PlacedInstance). IsTakenOver IsLabelTaken (IsFlatLabel layers structs) is label) o.instances t)
      ],
      λ either. flat.1 (elim either [
        | inl w ↦ inl (own_as layers cell.labels drawn.sorted.labels label o.labels_same w)
        | inr t ↦ inr (subst (λ (is : List PlacedInstance). IsTakenOver IsLabelTaken (IsFlatLabel layers structs) is label) (sym o.instances) t)
      ]),
    )
