-- A flat shape stands at the end of a chain of references.
use Rattle.std.proofs.Common.{◌≡◌, inl, inr, ◌∙◌, ℕ, suc, ◌+◌, List, [], ◌∷◌, ◌++◌, Some, refl, sym, ap, subst, arith}
use Rattle.std.specs.Prelude.{slice_get}
use Rattle.or_geom.specs.declared.shape.Point.{Point}
use Rattle.or_geom.specs.declared.shape.Rect.{Rect}
use Rattle.or_geom.specs.declared.shape.Shape.{Shape}
use Rattle.or_geom.specs.declared.place.Place.{Place}
use Rattle.or_geom.specs.Place.{placed, IsImage, low_corner, high_corner}
use Rattle.gds_library.specs.declared.library.Structure.{Structure}
use Rattle.gds_library.specs.declared.library.Element.{Element}
use Rattle.gds_library.specs.declared.library.Element.TheVariants.{Boundary, Path, Sref, Aref, Text}
use Rattle.tech_rules.specs.declared.tech.Layer.{Layer}
use Rattle.cell_chains.specs.Instances.{Item, HasItem}
use Rattle.cell_chains.specs.Chains.{elements_of, IsItemFrom, IsChain}
use Rattle.cell_hierarchy.specs.FlatSet.{IsMoved, IsFlatShape}
use Rattle.cell_hierarchy.specs.Along.{placed_along}
use Rattle.cell_hierarchy.proofs.AlongLaws.{shapes_are_images}
use Rattle.cell_hierarchy.proofs.ComposeLaws.{same_between}
use Rattle.leaf_contacts.specs.Chains.{Reference, IsReferenceOf, Leads, point_along, StandsAtEnd, IsInstance}
use Rattle.leaf_contacts.proofs.ItemLaws.{image_as}

-- a reference for an item
record HasReference (structs : List Structure) (from : List ℕ) (item : Item) : Type 0 where
  reference : Reference
  of : IsReferenceOf structs from reference
  cell : reference.cell ≡ item.cell
  place : reference.place ≡ item.place

record IsElementThere (n : ℕ) (es : List Element) (item : Item) : Type 0 where
  index : ℕ
  element : Element
  there : slice_get es index ≡ Some element
  has : HasItem (n + index) element item

element_of : (n : ℕ) (es : List Element) (item : Item) → IsItemFrom n es item → IsElementThere n es item
element_of n [] item is = absurd is
element_of n (e ∷ es) item (inl here) = record { index = 0; element = e; there = refl; has = subst (λ (k : ℕ). HasItem k e item) (same n) here } where
  same : (n : ℕ) → n ≡ n + 0
  same n = omega arith
element_of n (e ∷ es) item (inr later) = let r = element_of (suc n) es item later in record { index = suc r.index; element = r.element; there = r.there; has = subst (λ (k : ℕ). HasItem k r.element item) (same n r.index) r.has } where
  same : (n i : ℕ) → suc n + i ≡ n + suc i
  same n i = omega arith

refers : (structs : List Structure) (from : List ℕ) (index n : ℕ) (e : Element) (item : Item) → slice_get (elements_of structs from) index ≡ Some e → HasItem n e item → HasReference structs from item
refers structs from index n (Boundary layer datatype points props) item at has = absurd has
refers structs from index n (Path layer datatype kind width points props) item at has = absurd has
refers structs from index n (Sref name place props) item at has = record {
  reference = record { element = index; column = 0; row = 0; cell = item.cell; place = item.place };
  of = record { element = Sref name place props; there = at; refers = (refl, refl, has.cell, has.placed) };
  cell = refl;
  place = refl;
}
refers structs from index n (Aref name place columns rows across down props) item at has = record {
  reference = record { element = index; column = has.column; row = has.row; cell = item.cell; place = item.place };
  of = record { element = Aref name place columns rows across down props; there = at; refers = (has.in_columns, has.in_rows, has.cell, has.placed) };
  cell = refl;
  place = refl;
}
refers structs from index n (Text layer texttype at_ string props) item at has = absurd has

-- a chain of references beside one of items
pub record HasReferences (structs : List Structure) (from : List ℕ) (items : List Item) (to : List ℕ) : Type 0 where
  pub chain : List Reference
  pub leads : Leads structs from chain to
  pub along : (p : Point) → point_along chain p ≡ placed_along items p

pub has_references : (structs : List Structure) (from : List ℕ) (items : List Item) (to : List ℕ) → IsChain structs from items to → HasReferences structs from items to
has_references structs from [] to leads = record { chain = []; leads = leads; along = λ p. refl }
has_references structs from (item ∷ items) to leads =
    let e = element_of 0 (elements_of structs from) item leads.0 in
    let r = refers structs from e.index (0 + e.index) e.element item e.there e.has in
    let rest = has_references structs item.cell items to leads.1 in
    record {
      chain = r.reference ∷ rest.chain;
      leads = (r.of, subst (λ (n : List ℕ). Leads structs n rest.chain to) (sym r.cell) rest.leads);
      along = λ p. λ i. placed (r.place i) (rest.along p i);
    }

-- chains one behind the other
pub leads_on : (structs : List Structure) (from middle to : List ℕ) (chain rest : List Reference) → Leads structs from chain middle → Leads structs middle rest to → Leads structs from (chain ++ rest) to
leads_on structs from middle to [] rest a b = subst (λ (n : List ℕ). Leads structs n rest to) a b
leads_on structs from middle to (r ∷ chain) rest a b = (a.0, leads_on structs r.cell middle to chain rest a.1 b)

pub point_on : (chain rest : List Reference) (p : Point) → point_along (chain ++ rest) p ≡ point_along chain (point_along rest p)
point_on [] rest p = refl
point_on (r ∷ chain) rest p = ap (placed r.place) (point_on chain rest p)

pub instance_leads : (cells : List (List ℕ)) (structs : List Structure) (from to : List ℕ) (chain : List Reference) → IsInstance cells structs from chain to → Leads structs from chain to
instance_leads cells structs from to [] is = is.0
instance_leads cells structs from to (r ∷ chain) is = (is.1, instance_leads cells structs r.cell to chain is.2)

-- an image of an image
image_on : (place : Place) (f : Point → Point) (r s t : Rect) → IsImage f r s → IsImage (placed place) s t → IsImage (λ p. placed place (f p)) r t
image_on place f r s t inner outer =
    let w = same_between place.orient place.at (f (low_corner r)) (f (high_corner r)) s inner in
    record { x1 = outer.x1 ∙ w.x1; y1 = outer.y1 ∙ w.y1; x2 = outer.x2 ∙ w.x2; y2 = outer.y2 ∙ w.y2 }

-- What is flat in a cell, at an instance of it, stands at the end of a chain that goes on from the instance's.
pub below_instance : (layers : List Layer) (structs : List Structure) (top cell : List ℕ) (chain : List Reference) (place : Place) (inner shape : Shape) → Leads structs top chain cell → ((p : Point) → point_along chain p ≡ placed place p) → IsFlatShape layers structs cell inner → IsMoved place inner shape
    → (rest : List Reference) × StandsAtEnd layers structs top (chain ++ rest) shape
below_instance layers structs top cell chain place inner shape leads at flat moved =
    let along = (shapes_are_images layers structs cell flat.chain inner).0 flat.stands in
    let refs = has_references structs cell flat.chain along.end along.leads in
    let own = image_as (point_along refs.chain) (placed_along flat.chain) along.inner.rect inner.rect refs.along along.image in
    let both = image_on place (point_along refs.chain) along.inner.rect inner.rect shape.rect own moved.image in (
      refs.chain,
      record {
        end = along.end;
        leads = leads_on structs top cell along.end chain refs.chain leads refs.leads;
        inner = along.inner;
        own = along.own;
        moved = record {
          layer = moved.layer ∙ along.layer;
          image = image_as (point_along (chain ++ refs.chain)) (λ p. placed place (point_along refs.chain p)) along.inner.rect shape.rect (λ p. point_on chain refs.chain p ∙ at (point_along refs.chain p)) both;
        };
      },
    )
