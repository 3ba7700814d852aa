-- Flat things, one reference after another, and what they are as shapes, labels and points.
use Rattle.std.proofs.Common.{◌≡◌, ◌⊎◌, inl, inr, ℕ, zero, suc, ◌+◌, Bool, true, List, [], ◌∷◌, refl, sym, ap, subst, ◌∙◌, ◌↔◌, arith}
use Rattle.std.specs.Prelude.{Some, slice_get}
use Rattle.or_geom.specs.declared.shape.Point.{Point}
use Rattle.or_geom.specs.declared.shape.Shape.{Shape}
use Rattle.or_geom.specs.Place.{placed}
use Rattle.gds_library.specs.declared.library.Element.{Element}
use Rattle.gds_library.specs.declared.library.Structure.{Structure}
use Rattle.tech_rules.specs.declared.tech.Layer.{Layer}
use Rattle.element_drawing.specs.PlainLabel.{PlainLabel}
use Rattle.cell_chains.specs.Instances.{Item, HasItem}
use Rattle.cell_chains.specs.Chains.{elements_of, IsItemFrom, IsItemOf}
use Rattle.cell_hierarchy.specs.FlatSet.{IsMoved, IsLabelMoved, IsShapeBy, IsFlatShape, IsLabelBy, IsFlatLabel, IsPointOfLabel, path_under}
use Rattle.cell_hierarchy.specs.Below.{IsTaken}
use Rattle.cell_hierarchy.specs.Things.{Thing, IsOwnThing, MovesThing, IsThingBy, IsFlatThing}
use Rattle.cell_hierarchy.specs.Things.Thing.{AShape, ALabel, APoint}

-- the first reference of a chain
pub flat_thing_cases : (layers : List Layer) (kept : Bool) (structs : List Structure) (name : List ℕ) (x : Thing) (chain : List Item) → IsThingBy layers kept structs name chain x
    → IsOwnThing layers kept (elements_of structs name) x ⊎ IsTaken MovesThing (IsFlatThing layers kept structs) 0 (elements_of structs name) x
flat_thing_cases layers kept structs name x [] h = inl h
flat_thing_cases layers kept structs name x (item ∷ items) h =
    inr (record { item = item; stands = h.0; inner = h.1; is_there = record { chain = items; stands = h.2 }; moved = h.3 })

pub taken_thing_is_flat : (layers : List Layer) (kept : Bool) (structs : List Structure) (name : List ℕ) (item : Item) (inner x : Thing) → IsItemOf structs name item
    → IsFlatThing layers kept structs item.cell inner → MovesThing item inner x → IsFlatThing layers kept structs name x
taken_thing_is_flat layers kept structs name item inner x stands flat moved = record { chain = item ∷ flat.chain; stands = (stands, inner, flat.stands, moved) }

-- where an item of the elements stands
record IsItemAt (n : ℕ) (es : List Element) (item : Item) : Type 0 where
  index : ℕ
  element : Element
  there : slice_get es index ≡ Some element
  has : HasItem (n + index) element item

item_at : (n : ℕ) (es : List Element) (item : Item) → IsItemFrom n es item → IsItemAt n es item
item_at n [] item h = absurd h
item_at n (e ∷ es) item (inl h) = let z : n ≡ n + 0 = omega arith in record { index = 0; element = e; there = refl; has = subst (λ (m : ℕ). HasItem m e item) z h }
item_at n (e ∷ es) item (inr h) =
    let r = item_at (suc n) es item h in
    let z : suc n + r.index ≡ n + suc r.index = omega arith in
    record { index = suc r.index; element = r.element; there = r.there; has = subst (λ (m : ℕ). HasItem m r.element item) z r.has }

item_from : (n k : ℕ) (es : List Element) (e : Element) (item : Item) → slice_get es k ≡ Some e → HasItem (n + k) e item → IsItemFrom n es item
item_from n k [] e item at has = absurd cc
item_from n zero (d ∷ es) e item at has =
    let z : n + 0 ≡ n = omega arith in
    let same : e ≡ d = cc in
    inl (subst (λ (f : Element). HasItem n f item) same (subst (λ (m : ℕ). HasItem m e item) z has))
item_from n (suc k) (d ∷ es) e item at has =
    let z : n + suc k ≡ suc n + k = omega arith in
    inr (item_from (suc n) k es e item at (subst (λ (m : ℕ). HasItem m e item) z has))

-- the same of all elements of a structure
pub record IsItemIn (es : List Element) (item : Item) : Type 0 where
  pub index : ℕ
  pub element : Element
  pub there : slice_get es index ≡ Some element
  pub has : HasItem index element item

pub item_in : (es : List Element) (item : Item) → IsItemFrom 0 es item → IsItemIn es item
item_in es item h =
    let a = item_at 0 es item h in
    let zeroed : 0 + a.index ≡ a.index = omega arith in
    record { index = a.index; element = a.element; there = a.there; has = subst (λ (m : ℕ). HasItem m a.element item) zeroed a.has }

pub in_from : (k : ℕ) (es : List Element) (e : Element) (item : Item) → slice_get es k ≡ Some e → HasItem k e item → IsItemFrom 0 es item
in_from k es e item at has = let zeroed : k ≡ 0 + k = omega arith in item_from 0 k es e item at (subst (λ (m : ℕ). HasItem m e item) zeroed has)

-- shapes
shape_step : (By : Thing → Type 0) (ByShape : Shape → Type 0) (item : Item) (s : Shape) (inner : Thing) → ((a : Shape) → By (AShape a) → ByShape a) → By inner → MovesThing item inner (AShape s)
    → (a : Shape) × ByShape a × IsMoved item.place a s
shape_step By ByShape item s (AShape a) f by m = (a, f a by, m)
shape_step By ByShape item s (ALabel a) f by m = absurd m
shape_step By ByShape item s (APoint a) f by m = absurd m

shape_by : (layers : List Layer) (kept : Bool) (structs : List Structure) (name : List ℕ) (chain : List Item) (s : Shape) → IsThingBy layers kept structs name chain (AShape s) → IsShapeBy layers structs name chain s
shape_by layers kept structs name [] s h = h
shape_by layers kept structs name (item ∷ items) s h =
    let r = shape_step (IsThingBy layers kept structs item.cell items) (IsShapeBy layers structs item.cell items) item s h.1 (λ a b. shape_by layers kept structs item.cell items a b) h.2 h.3 in
    (h.0, r.0, r.1, r.2)

by_shape : (layers : List Layer) (kept : Bool) (structs : List Structure) (name : List ℕ) (chain : List Item) (s : Shape) → IsShapeBy layers structs name chain s → IsThingBy layers kept structs name chain (AShape s)
by_shape layers kept structs name [] s h = h
by_shape layers kept structs name (item ∷ items) s h = (h.0, AShape h.1, by_shape layers kept structs item.cell items h.1 h.2, h.3)

pub flat_shape_is : (layers : List Layer) (kept : Bool) (structs : List Structure) (name : List ℕ) (s : Shape) → IsFlatThing layers kept structs name (AShape s) ↔ IsFlatShape layers structs name s
flat_shape_is layers kept structs name s = (
  λ f. record { chain = f.chain; stands = shape_by layers kept structs name f.chain s f.stands },
  λ f. record { chain = f.chain; stands = by_shape layers kept structs name f.chain s f.stands },
)

-- labels
label_step : (By : Thing → Type 0) (ByLabel : PlainLabel → Type 0) (item : Item) (l : PlainLabel) (inner : Thing) → ((a : PlainLabel) → By (ALabel a) → ByLabel a) → By inner → MovesThing item inner (ALabel l)
    → (a : PlainLabel) × ByLabel a × IsLabelMoved item a l
label_step By ByLabel item l (AShape a) f by m = absurd m
label_step By ByLabel item l (ALabel a) f by m = (a, f a by, m)
label_step By ByLabel item l (APoint a) f by m = absurd m

label_by : (layers : List Layer) (kept : Bool) (structs : List Structure) (name : List ℕ) (chain : List Item) (l : PlainLabel) → IsThingBy layers kept structs name chain (ALabel l)
    → (kept ≡ true) × IsLabelBy layers structs name chain l
label_by layers kept structs name [] l h = h
label_by layers kept structs name (item ∷ items) l h =
    let r = label_step (IsThingBy layers kept structs item.cell items) (λ a. (kept ≡ true) × IsLabelBy layers structs item.cell items a) item l h.1 (λ a b. label_by layers kept structs item.cell items a b) h.2 h.3 in
    (r.1.0, (h.0, r.0, r.1.1, r.2))

by_label : (layers : List Layer) (kept : Bool) (structs : List Structure) (name : List ℕ) (chain : List Item) (l : PlainLabel) → kept ≡ true → IsLabelBy layers structs name chain l → IsThingBy layers kept structs name chain (ALabel l)
by_label layers kept structs name [] l keeps h = (keeps, h)
by_label layers kept structs name (item ∷ items) l keeps h = (h.0, ALabel h.1, by_label layers kept structs item.cell items h.1 keeps h.2, h.3)

pub flat_label_is : (layers : List Layer) (kept : Bool) (structs : List Structure) (name : List ℕ) (l : PlainLabel) → IsFlatThing layers kept structs name (ALabel l) ↔ ((kept ≡ true) × IsFlatLabel layers structs name l)
flat_label_is layers kept structs name l = (
  λ f. let h = label_by layers kept structs name f.chain l f.stands in (h.0, record { chain = f.chain; stands = h.1 }),
  λ f. record { chain = f.1.chain; stands = by_label layers kept structs name f.1.chain l f.0 f.1.stands },
)

-- points
point_step : (By : Thing → Type 0) (ByPoint : Point → Type 0) (item : Item) (p : Point) (inner : Thing) → ((a : Point) → By (APoint a) → ByPoint a) → By inner → MovesThing item inner (APoint p)
    → (a : Point) × ByPoint a × (p ≡ placed item.place a)
point_step By ByPoint item p (AShape a) f by m = absurd m
point_step By ByPoint item p (ALabel a) f by m = absurd m
point_step By ByPoint item p (APoint a) f by m = (a, f a by, m)

-- the point of a label at the end of the chain
record IsPointBy (layers : List Layer) (structs : List Structure) (name : List ℕ) (chain : List Item) (p : Point) : Type 0 where
  label : PlainLabel
  stands : IsLabelBy layers structs name chain label
  is : label.at ≡ p

point_by : (layers : List Layer) (kept : Bool) (structs : List Structure) (name : List ℕ) (chain : List Item) (p : Point) → IsThingBy layers kept structs name chain (APoint p) → IsPointBy layers structs name chain p
point_by layers kept structs name [] p h = record { label = h.text; stands = h.among; is = h.is }
point_by layers kept structs name (item ∷ items) p h =
    let r = point_step (IsThingBy layers kept structs item.cell items) (IsPointBy layers structs item.cell items) item p h.1 (λ a b. point_by layers kept structs item.cell items a b) h.2 h.3 in
    let l = r.1.label in
    record {
      label = record { path = path_under item.name l.path; name = l.name; layer = l.layer; at = placed item.place l.at };
      stands = (h.0, l, r.1.stands, record { path = refl; name = refl; layer = refl; at = refl });
      is = ap (placed item.place) r.1.is ∙ sym r.2;
    }

by_point : (layers : List Layer) (kept : Bool) (structs : List Structure) (name : List ℕ) (chain : List Item) (l : PlainLabel) → IsLabelBy layers structs name chain l → IsThingBy layers kept structs name chain (APoint l.at)
by_point layers kept structs name [] l h = record { text = l; among = h; is = refl }
by_point layers kept structs name (item ∷ items) l h = (h.0, APoint h.1.at, by_point layers kept structs item.cell items h.1 h.2, h.3.at)

pub flat_point_is : (layers : List Layer) (kept : Bool) (structs : List Structure) (name : List ℕ) (p : Point) → IsFlatThing layers kept structs name (APoint p) ↔ IsPointOfLabel layers structs name p
flat_point_is layers kept structs name p = (
  λ f. let r = point_by layers kept structs name f.chain p f.stands in record { label = r.label; flat = record { chain = f.chain; stands = r.stands }; is = r.is },
  λ f. subst (λ (q : Point). IsFlatThing layers kept structs name (APoint q)) f.is (record { chain = f.flat.chain; stands = by_point layers kept structs name f.flat.chain f.label f.flat.stands }),
)
