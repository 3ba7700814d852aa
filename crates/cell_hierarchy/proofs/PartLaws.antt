-- What a cell draws itself, and which of its references lead to something.
use Rattle.std.proofs.Common.{◌≡◌, inl, inr, ℕ, ◌+◌, ◌^◌, ◌<◌, ◌≤◌, Bool, true, false, List, [], ◌∷◌, ◌++◌, length, get_or, nat_lt, map, Some, Option, None, refl, sym, ap, subst, ◌∙◌, ◌↔◌, arith}
use Rattle.std.specs.Prelude.{Contains, slice_get, slice_index, IsTrue, not}
use Rattle.std.specs.Str.{IsAscii}
use Rattle.std.specs.List.{AllByRecursion}
use Rattle.std.specs.List.Sorted.{IsPermutation}
use Rattle.std.proofs.lemmas.List.Sorted.{All-permutation, Contains-permutation, IsPermutation-sym}
use Rattle.std.proofs.lemmas.Option.{same_Some, slice_get_within, slice_get_read}
use Rattle.std.proofs.lemmas.Bool.{ltb-true, ltb-false}
use Rattle.or_geom.specs.declared.shape.Point.{Point}
use Rattle.or_geom.specs.declared.shape.Shape.{Shape}
use Rattle.or_geom.specs.Place.{IsNearPoint, low_corner, high_corner}
use Rattle.or_geom.specs.Reachable.{AreReachable}
use Rattle.or_geom.proofs.ListLaws.{contains_none, contains_cases, contains_here, contains_map, below_or}
use Rattle.std.proofs.lemmas.List.Elements.{All-from_recursion, recursion_from_All, Contains-append_left, Contains-append_right, Contains-append_cases}
use Rattle.gds_library.specs.declared.library.Element.{Element}
use Rattle.gds_library.specs.declared.library.Element.TheVariants.{Boundary, Path, Sref, Aref, Text}
use Rattle.gds_library.specs.declared.library.Structure.{Structure}
use Rattle.gds_library.specs.Writable.{IsWritableElement, IsWritableCell}
use Rattle.tech_rules.specs.declared.tech.Layer.{Layer}
use Rattle.element_drawing.specs.PlainLabel.{PlainLabel}
use Rattle.element_drawing.specs.ElementLabels.{pathless}
use Rattle.element_drawing.specs.OwnShapes.{AreOwnShapes, IsShapeWithin}
use Rattle.element_drawing.specs.OwnLabels.{own_labels, with_label, text_place_of, IsLabelWithin}
use Rattle.element_drawing.specs.declared.label.ElementLabel.{ElementLabel}
use Rattle.cell_chains.specs.declared.cell.Cell.{Cell}
use Rattle.cell_chains.specs.Chains.{elements_of}
use Rattle.cell_chains.specs.Hierarchy.{IsTarget, referred_name}
use Rattle.cell_chains.proofs.ChainLaws.{refers_for}
use Rattle.cell_chains.proofs.MemberLaws.{image_from}
use Rattle.cell_hierarchy.specs.Plain.{plain_label}
use Rattle.cell_hierarchy.specs.Things.{Thing, IsOwnThing, DrawsThing, IsFlatThing}
use Rattle.cell_hierarchy.specs.Things.Thing.{AShape, ALabel, APoint}
use Rattle.cell_hierarchy.specs.Drawings.{kept_labels, IsDrawingOf, IsBlank, IsSomeAt, LeadsToSome, IsLiveOf, IsCellPart, IsPartOf, AreCellParts, AreAllCells}
use Rattle.cell_hierarchy.specs.declared.flat.Label.{Label}
use Rattle.cell_hierarchy.specs.declared.drawing.OwnDrawing.{OwnDrawing}
use Rattle.cell_hierarchy.specs.declared.parts.CellPart.{CellPart}
use Rattle.cell_hierarchy.proofs.NearLaws.{near_point, further}
use Rattle.cell_hierarchy.proofs.OneSetLaws.{one_set}
use Rattle.cell_hierarchy.proofs.ThingLaws.{flat_thing_cases, item_in}
use Rattle.cell_hierarchy.proofs.CellLaws.{there_at, after_push, length_pushed, first_is, writable_at}
use Rattle.cell_hierarchy.proofs.NameLaws.{printable_ascii}

-- the names of own labels are ASCII
with_ascii : (place : Option ℕ) (name : List ℕ) (at : Point) (labels : List PlainLabel) → IsAscii name → AllByRecursion (λ (l : PlainLabel). IsAscii l.name) labels → AllByRecursion (λ (l : PlainLabel). IsAscii l.name) (with_label place name at labels)
with_ascii None name at labels a all = all
with_ascii (Some layer) name at labels a all = (a, all)

with_bare : (place : Option ℕ) (name : List ℕ) (at : Point) (labels : List PlainLabel) → AllByRecursion (λ (l : PlainLabel). l.path ≡ []) labels → AllByRecursion (λ (l : PlainLabel). l.path ≡ []) (with_label place name at labels)
with_bare None name at labels all = all
with_bare (Some layer) name at labels all = (refl, all)

pub own_ascii : (layers : List Layer) (es : List Element) → AllByRecursion IsWritableElement es → AllByRecursion (λ (l : PlainLabel). IsAscii l.name) (own_labels layers es)
own_ascii layers [] w = tt
own_ascii layers (Boundary layer datatype points props ∷ es) w = own_ascii layers es w.1
own_ascii layers (Path layer datatype kind width points props ∷ es) w = own_ascii layers es w.1
own_ascii layers (Sref name place props ∷ es) w = own_ascii layers es w.1
own_ascii layers (Aref name place columns rows across down props ∷ es) w = own_ascii layers es w.1
own_ascii layers (Text layer texttype at string props ∷ es) w =
    with_ascii (text_place_of layers layer texttype) string at (own_labels layers es) (printable_ascii string w.0.body.text.printable) (own_ascii layers es w.1)

pub all_map : {X Y : Type 0} (P : Y → Type 0) (f : X → Y) (xs : List X) → AllByRecursion P (map f xs) → AllByRecursion (λ x. P (f x)) xs
all_map P f [] all = tt
all_map P f (x ∷ xs) all = (all.0, all_map P f xs all.1)

pub own_bare : (layers : List Layer) (es : List Element) → AllByRecursion (λ (l : PlainLabel). l.path ≡ []) (own_labels layers es)
own_bare layers [] = tt
own_bare layers (Boundary layer datatype points props ∷ es) = own_bare layers es
own_bare layers (Path layer datatype kind width points props ∷ es) = own_bare layers es
own_bare layers (Sref name place props ∷ es) = own_bare layers es
own_bare layers (Aref name place columns rows across down props ∷ es) = own_bare layers es
own_bare layers (Text layer texttype at string props ∷ es) = with_bare (text_place_of layers layer texttype) string at (own_labels layers es) (own_bare layers es)

map_map : {X Y Z : Type 0} (f : X → Y) (g : Y → Z) (xs : List X) → map (λ x. g (f x)) xs ≡ map g (map f xs)
map_map f g [] = refl
map_map f g (x ∷ xs) = ap (λ (l : List _). g (f x) ∷ l) (map_map f g xs)

near_shapes : (ss : List Shape) → AllByRecursion (IsShapeWithin (2 ^ 32)) ss → AreReachable ss
near_shapes [] all = tt
near_shapes (s ∷ ss) all =
    let low = near_point (low_corner s.rect) (further (2 ^ 32) (2 ^ 39) (low_corner s.rect) (omega arith) all.0.low) in
    let high = near_point (high_corner s.rect) (further (2 ^ 32) (2 ^ 39) (high_corner s.rect) (omega arith) all.0.high) in
    (record { x1 = low.x; y1 = low.y; x2 = high.x; y2 = high.y }, near_shapes ss all.1)

near_labels : (ls : List PlainLabel) → AllByRecursion (IsLabelWithin (2 ^ 32)) ls → AllByRecursion (λ (l : PlainLabel). IsNearPoint l.at) ls
near_labels [] all = tt
near_labels (l ∷ ls) all = (near_point l.at (further (2 ^ 32) (2 ^ 39) l.at (omega arith) all.0), near_labels ls all.1)

map_all : {X Y : Type 0} (P : Y → Type 0) (f : X → Y) (xs : List X) → AllByRecursion (λ x. P (f x)) xs → AllByRecursion P (map f xs)
map_all P f [] all = tt
map_all P f (x ∷ xs) all = (all.0, map_all P f xs all.1)

kept_all : (P : PlainLabel → Type 0) (kept : Bool) (ls : List PlainLabel) → AllByRecursion P ls → AllByRecursion P (kept_labels kept ls)
kept_all P true ls all = all
kept_all P false ls all = tt

-- what holds of each holds of each in another order
all_moved : {X : Type 0} (P : X → Type 0) (xs ys : List X) → IsPermutation xs ys → AllByRecursion P xs → AllByRecursion P ys
all_moved P xs ys moved all = recursion_from_All P ys (All-permutation P xs ys moved (All-from_recursion P xs all))

-- a drawing that was made of the elements' shapes and labels
pub made_drawing : (layers : List Layer) (kept : Bool) (es : List Element) (drawing : OwnDrawing) (texts : List ElementLabel) → AreOwnShapes layers es drawing.shapes.items → AllByRecursion (IsShapeWithin (2 ^ 32)) drawing.shapes.items
    → map pathless texts ≡ own_labels layers es → AllByRecursion (IsLabelWithin (2 ^ 32)) (map pathless texts) → IsPermutation (kept_labels kept (map pathless texts)) (map plain_label drawing.labels.items)
    → drawing.points.items ≡ map (λ (text : ElementLabel). text.at) texts → IsDrawingOf layers kept es drawing
made_drawing layers kept es drawing texts shapes shapes_near are near labels points =
    let whole = subst (λ (ls : List PlainLabel). IsPermutation (kept_labels kept ls) (map plain_label drawing.labels.items)) are labels in
    let near_all = near_labels (map pathless texts) near in
    record {
      shapes = shapes;
      labels = whole;
      points = points ∙ (map_map pathless (λ (l : PlainLabel). l.at) texts ∙ ap (map (λ (l : PlainLabel). l.at)) are);
      near = record {
        shapes = near_shapes drawing.shapes.items shapes_near;
        labels = all_map (λ (l : PlainLabel). IsNearPoint l.at) plain_label drawing.labels.items
            (all_moved (λ (l : PlainLabel). IsNearPoint l.at) _ _ labels (kept_all (λ (l : PlainLabel). IsNearPoint l.at) kept (map pathless texts) near_all));
        bare = all_map (λ (l : PlainLabel). l.path ≡ []) plain_label drawing.labels.items
            (all_moved (λ (l : PlainLabel). l.path ≡ []) _ _ whole (kept_all (λ (l : PlainLabel). l.path ≡ []) kept (own_labels layers es) (own_bare layers es)));
        points = subst (AllByRecursion IsNearPoint) (sym points) (map_all IsNearPoint (λ (text : ElementLabel). text.at) texts (all_map (λ (l : PlainLabel). IsNearPoint l.at) pathless texts near_all));
      };
    }

-- what a drawing of elements has is what they draw themselves
kept_contains : (kept : Bool) (labels : List PlainLabel) (l : PlainLabel) → Contains (kept_labels kept labels) l ↔ ((kept ≡ true) × Contains labels l)
kept_contains true labels l = (λ h. (refl, h), λ h. h.1)
kept_contains false labels l = (λ h. absurd (contains_none l h), λ h. absurd (let e : false ≡ true = h.0 in cc))

own_there : (layers : List Layer) (kept : Bool) (es : List Element) (drawing : OwnDrawing) (x : Thing) → IsDrawingOf layers kept es drawing → DrawsThing drawing x → IsOwnThing layers kept es x
own_there layers kept es drawing (AShape s) d h = record { shapes = drawing.shapes.items; drawn = d.shapes; among = h }
own_there layers kept es drawing (ALabel l) d h = (kept_contains kept (own_labels layers es) l).0 (Contains-permutation _ _ l (IsPermutation-sym _ _ d.labels) h)
own_there layers kept es drawing (APoint p) d h =
    let i = image_from (λ (label : PlainLabel). label.at) (own_labels layers es) p (subst (λ (ps : List Point). Contains ps p) d.points h) in
    record { text = i.item; among = i.stands; is = i.is }

own_back : (layers : List Layer) (kept : Bool) (es : List Element) (drawing : OwnDrawing) (x : Thing) → AllByRecursion IsWritableElement es → IsDrawingOf layers kept es drawing → IsOwnThing layers kept es x → DrawsThing drawing x
own_back layers kept es drawing (AShape s) w d h = one_set layers es h.shapes drawing.shapes.items w h.drawn d.shapes s h.among
own_back layers kept es drawing (ALabel l) w d h = Contains-permutation _ _ l d.labels ((kept_contains kept (own_labels layers es) l).1 h)
own_back layers kept es drawing (APoint p) w d h =
    subst (λ (ps : List Point). Contains ps p) (sym d.points)
    (subst (λ (q : Point). Contains (map (λ (label : PlainLabel). label.at) (own_labels layers es)) q) h.is (contains_map (λ (label : PlainLabel). label.at) (own_labels layers es) h.text h.among))

pub own_is : (layers : List Layer) (kept : Bool) (es : List Element) (drawing : OwnDrawing) → AllByRecursion IsWritableElement es → IsDrawingOf layers kept es drawing → (x : Thing) → DrawsThing drawing x ↔ IsOwnThing layers kept es x
own_is layers kept es drawing w d x = (own_there layers kept es drawing x d, own_back layers kept es drawing x w d)

-- a blank cell has nothing flat
blank_has : (part : CellPart) (x : Thing) → IsBlank part → DrawsThing part.own x → ⊥
blank_has part (AShape s) b h = contains_none s (subst (λ (ss : List Shape). Contains ss s) b.shapes h)
blank_has part (ALabel l) b h = contains_none l (subst (λ (ls : List Label). Contains (map plain_label ls) l) b.labels h)
blank_has part (APoint p) b h = contains_none p (subst (λ (ps : List Point). Contains ps p) b.points h)

pub blank_none : (layers : List Layer) (kept : Bool) (structs : List Structure) (structure : Structure) (part : CellPart) (x : Thing) → AllByRecursion IsWritableElement structure.elements → elements_of structs structure.name ≡ structure.elements
    → IsPartOf layers kept structs structure part → IsBlank part → IsFlatThing layers kept structs structure.name x → ⊥
blank_none layers kept structs structure part x w first p b f =
    elim (flat_thing_cases layers kept structs structure.name x f.chain f.stands) [
      | inl own ↦ blank_has part x b (own_back layers kept structure.elements part.own x w p.drawn (subst (λ (es : List Element). IsOwnThing layers kept es x) first own))
      | inr t ↦
          let i = item_in (elements_of structs structure.name) t.item t.stands in
          let at : slice_get structure.elements i.index ≡ Some i.element = subst (λ (es : List Element). slice_get es i.index ≡ Some i.element) first i.there in
          let among = p.live.all i.index i.element t.item t.inner at i.has t.is_there in
          contains_none i.index (subst (λ (ns : List ℕ). Contains ns i.index) b.live among)
    ]

-- what stands at an index of a list
pub got : {Y : Type 0} (ys : List Y) (i : ℕ) (y : Y) → true ≡ nat_lt i (length ys) → y ≡ get_or ys i y → slice_get ys i ≡ Some y
got ys i y lt is = slice_get_read ys (length ys) i y refl (ltb-true i (length ys) (sym lt)) is

pub not_got : {Y : Type 0} (ys : List Y) (i : ℕ) (y : Y) → false ≡ nat_lt i (length ys) → slice_get ys i ≡ Some y → ⊥
not_got ys i y no_more is =
    let lt = slice_get_within ys i y is in
    let le = ltb-false i (length ys) (sym no_more) in
    omega arith

not_false : (b : Bool) (P : Type 0) → IsTrue b ↔ P → IsTrue (not b) → P → ⊥
not_false true P both t p = absurd cc
not_false false P both t p = let f = both.1 p in absurd cc

is_not : (b : Bool) (P : Type 0) → IsTrue b ↔ P → (P → ⊥) → IsTrue (not b)
is_not true P both none = absurd (none (both.0 refl))
is_not false P both none = refl

pub some_is : (parts : List CellPart) (index : ℕ) (part : CellPart) (b : Bool) → slice_get parts index ≡ Some part → IsTrue b ↔ IsBlank part → IsTrue (not b) ↔ IsSomeAt parts index
some_is parts index part b is both = (
  λ t. record { part = part; is = is; some = not_false b (IsBlank part) both t },
  λ s. is_not b (IsBlank part) both (λ blank. s.some (subst IsBlank (same_Some part s.part (sym is ∙ s.is)) blank)),
)

-- the references that count are those that lead to parts that aren't blank
leads_to : (e : Element) (name : List ℕ) (target : ℕ) (parts : List CellPart) → referred_name e ≡ Some name → IsSomeAt parts target → LeadsToSome e target parts
leads_to (Boundary layer datatype points props) name target parts refers s = absurd (let e : ◌≡◌ {A = Option (List ℕ)} None (Some name) = refers in cc)
leads_to (Path layer datatype kind width points props) name target parts refers s = absurd (let e : ◌≡◌ {A = Option (List ℕ)} None (Some name) = refers in cc)
leads_to (Sref other place props) name target parts refers s = s
leads_to (Aref other place columns rows across down props) name target parts refers s = s
leads_to (Text layer texttype at string props) name target parts refers s = absurd (let e : ◌≡◌ {A = Option (List ℕ)} None (Some name) = refers in cc)

some_at : (layers : List Layer) (kept : Bool) (structs : List Structure) (cells : List Cell) (parts : List CellPart) (k height target : ℕ) (name : List ℕ) (x : Thing) → AllByRecursion IsWritableCell structs → AreAllCells structs cells
    → AreCellParts layers kept structs cells k parts → IsTarget structs cells k height target name → IsFlatThing layers kept structs name x → IsSomeAt parts target
some_at layers kept structs cells parts k height target name x w all p t f =
    let lt = t.before in
    let sized = p.sized in
    let there = there_at parts target (omega (arith, lt, sized)) in
    record {
      part = there.item;
      is = there.is;
      some = λ b. blank_none layers kept structs t.structure there.item x (writable_at structs t.cell.structure t.structure w t.stands) (first_is structs cells target t.cell t.structure (all.each target t.cell t.is) t.stands)
          (p.each target t.cell t.structure there.item t.is t.stands there.is) b (subst (λ (n : List ℕ). IsFlatThing layers kept structs n x) (sym t.named) f);
    }

pub part_is : (layers : List Layer) (kept : Bool) (structs : List Structure) (cells : List Cell) (parts : List CellPart) (k : ℕ) (cell : Cell) (part : CellPart) → AllByRecursion IsWritableCell structs → AreAllCells structs cells
    → slice_get cells k ≡ Some cell → AreCellParts layers kept structs cells k parts → (c : IsCellPart layers kept structs cell parts part) → IsPartOf layers kept structs c.structure part
part_is layers kept structs cells parts k cell part w all at p c = record {
  drawn = c.drawn;
  live = record {
    inside = c.live.inside;
    all = λ n e item x there has f.
        let is = all.each k cell at in
        let one : is.structure ≡ c.structure = same_Some is.structure c.structure (sym is.stands ∙ c.stands) in
        let refers = refers_for n e item has in
        let target = is.each n e item.cell (subst (λ (s : Structure). slice_get s.elements n ≡ Some e) (sym one) there) refers in
        c.live.all n e there (leads_to e item.cell (slice_index cell.targets n) parts refers (some_at layers kept structs cells parts k cell.height (slice_index cell.targets n) item.cell x w all p target f));
  };
}

pub parts_begin : (layers : List Layer) (kept : Bool) (structs : List Structure) (cells : List Cell) (none : List CellPart) → none ≡ [] → AreCellParts layers kept structs cells 0 none
parts_begin layers kept structs cells none is = record {
  sized = ap (λ (l : List CellPart). length l) is;
  each = λ j other s d at_j at_s is_j. let nothing : ◌≡◌ {A = Option CellPart} None (Some d) = ap (λ (l : List CellPart). slice_get l j) (sym is) ∙ is_j in absurd cc;
}

pub parts_go_on : (layers : List Layer) (kept : Bool) (structs : List Structure) (cells : List Cell) (parts next : List CellPart) (k : ℕ) (cell : Cell) (part : CellPart) → AllByRecursion IsWritableCell structs → AreAllCells structs cells
    → slice_get cells k ≡ Some cell → AreCellParts layers kept structs cells k parts → IsCellPart layers kept structs cell parts part → next ≡ parts ++ part ∷ [] → AreCellParts layers kept structs cells (k + 1) next
parts_go_on layers kept structs cells parts next k cell part w all at p c pushed = record {
  sized = length_pushed parts part next pushed ∙ ap (λ n. n + 1) p.sized;
  each = λ j other s d at_j at_s is_j. elim (after_push parts part j d (ap (λ (l : List CellPart). slice_get l j) (sym pushed) ∙ is_j)) [
    | inl old ↦ p.each j other s d at_j at_s old
    | inr last ↦
        let same : other ≡ cell = same_Some other cell (sym at_j ∙ (ap (slice_get cells) (last.place ∙ p.sized) ∙ at)) in
        let one : c.structure ≡ s = same_Some c.structure s (sym c.stands ∙ (ap (λ (o : Cell). slice_get structs o.structure) (sym same) ∙ at_s)) in
        let here = subst (λ (t : Structure). IsPartOf layers kept structs t part) one (part_is layers kept structs cells parts k cell part w all at p c) in
        subst (λ (e : CellPart). IsPartOf layers kept structs s e) (sym last.is) here
  ];
}

-- so far in a loop over the elements
pub record IsLiveTo (elements : List Element) (targets : List ℕ) (parts : List CellPart) (done : ℕ) (live : List ℕ) : Type 0 where
  pub inside : (n : ℕ) → Contains live n → n < length elements
  pub all : (n : ℕ) (e : Element) → n < done → slice_get elements n ≡ Some e → LeadsToSome e (slice_index targets n) parts → Contains live n

pub live_all : (elements : List Element) (targets : List ℕ) (parts : List CellPart) (done : ℕ) (live : List ℕ) → length elements ≤ done → IsLiveTo elements targets parts done live → IsLiveOf elements targets parts live
live_all elements targets parts done live le l = record { inside = l.inside; all = λ n e at leads. let lt = slice_get_within elements n e at in l.all n e (omega (arith, lt, le)) at leads }

pub live_more : (elements : List Element) (targets : List ℕ) (parts : List CellPart) (n : ℕ) (live next : List ℕ) → n < length elements → next ≡ live ++ n ∷ [] → IsLiveTo elements targets parts n live → IsLiveTo elements targets parts (n + 1) next
live_more elements targets parts n live next lt pushed l = record {
  inside = λ m h. elim (Contains-append_cases live (n ∷ []) m (subst (λ (ns : List ℕ). Contains ns m) pushed h)) [
    | inl old ↦ l.inside m old
    | inr new ↦ elim (contains_cases n [] m new) [ inl e ↦ subst (λ (k : ℕ). k < length elements) (sym e) lt | inr none ↦ absurd (contains_none m none) ]
  ];
  all = λ m e below at leads. subst (λ (ns : List ℕ). Contains ns m) (sym pushed) (elim (below_or m n below) [
    | inl less ↦ Contains-append_left live (n ∷ []) m (l.all m e less at leads)
    | inr same ↦ Contains-append_right live (n ∷ []) m (contains_here n [] m same)
  ]);
}

pub live_skip : (elements : List Element) (targets : List ℕ) (parts : List CellPart) (n : ℕ) (live : List ℕ) (d : Element) (b : Bool) → n < length elements → d ≡ get_or elements n d → b ≡ false → IsTrue b ↔ LeadsToSome d (slice_index targets n) parts
    → IsLiveTo elements targets parts n live → IsLiveTo elements targets parts (n + 1) live
live_skip elements targets parts n live d b lt read off both l = record {
  inside = l.inside;
  all = λ m e below at leads. elim (below_or m n below) [
    | inl less ↦ l.all m e less at leads
    | inr same ↦
        let got_d = slice_get_read elements _ n d refl lt read in
        let one : e ≡ d = same_Some e d (sym at ∙ (ap (slice_get elements) same ∙ got_d)) in
        let there = subst (λ (k : ℕ). LeadsToSome d (slice_index targets k) parts) same (subst (λ (f : Element). LeadsToSome f (slice_index targets m) parts) one leads) in
        let yes : b ≡ true = both.1 there in
        absurd (let none : false ≡ true = sym off ∙ yes in cc)
  ];
}

-- and so do those that stand in another order
pub live_moved : (elements : List Element) (targets : List ℕ) (parts : List CellPart) (live moved : List ℕ) → IsPermutation live moved → IsLiveOf elements targets parts live → IsLiveOf elements targets parts moved
live_moved elements targets parts live moved p l = record {
  inside = λ n h. l.inside n (Contains-permutation moved live n (IsPermutation-sym live moved p) h);
  all = λ n e at leads. Contains-permutation live moved n p (l.all n e at leads);
}
