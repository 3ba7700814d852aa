-- Chains told by places as chains of named instances, and what stands at their ends as flat shapes.
use Rattle.std.proofs.Common.{◌≡◌, ℕ, ◌≤◌, List, [], ◌∷◌, length, refl, sym, subst, arith}
use Rattle.or_geom.specs.declared.shape.Point.{Point}
use Rattle.or_geom.specs.declared.shape.Rect.{Rect}
use Rattle.or_geom.specs.declared.shape.Shape.{Shape}
use Rattle.or_geom.specs.Place.{placed, IsImage, IsBetween, low_corner, high_corner}
use Rattle.gds_library.specs.declared.library.Element.{Element}
use Rattle.gds_library.specs.declared.library.Element.TheVariants.{Boundary, Path, Sref, Aref, Text}
use Rattle.gds_library.specs.declared.library.Structure.{Structure}
use Rattle.tech_rules.specs.declared.tech.Layer.{Layer}
use Rattle.cell_chains.specs.Instances.{Item, HasItem, reference_name, array_name}
use Rattle.cell_chains.specs.Chains.{elements_of, IsChain, IsSound}
use Rattle.cell_hierarchy.specs.FlatSet.{IsFlatShape}
use Rattle.cell_hierarchy.specs.Along.{placed_along}
use Rattle.cell_hierarchy.proofs.AlongLaws.{shapes_are_images}
use Rattle.cell_hierarchy.proofs.ThingLaws.{in_from}
use Rattle.leaf_contacts.specs.Chains.{Reference, Refers, Leads, point_along, StandsAtEnd}

-- an item of an element, to the reference's structure and at its place
record HasSame (element : Element) (r : Reference) : Type 0 where
  item : Item
  has : HasItem r.element element item
  cell : item.cell ≡ r.cell
  place : item.place ≡ r.place

as_item : (e : Element) (r : Reference) → Refers e r → HasSame e r
as_item (Boundary layer datatype points props) r a = absurd a
as_item (Path layer datatype kind width points props) r a = absurd a
as_item (Sref name place props) r a = record {
  item = record { name = reference_name r.element props; cell = r.cell; place = r.place };
  has = record { named = refl; cell = a.2; placed = a.3 };
  cell = refl;
  place = refl;
}
as_item (Aref name place columns rows across down props) r a = record {
  item = record { name = array_name r.element r.column r.row; cell = r.cell; place = r.place };
  has = record { column = r.column; row = r.row; in_columns = a.0; in_rows = a.1; named = refl; cell = a.2; placed = a.3 };
  cell = refl;
  place = refl;
}
as_item (Text layer texttype at string props) r a = absurd a

-- a chain of instances beside one of references
pub record HasItems (structs : List Structure) (from : List ℕ) (chain : List Reference) (to : List ℕ) : Type 0 where
  pub items : List Item
  pub leads : IsChain structs from items to
  pub long : length items ≡ length chain
  pub along : (p : Point) → placed_along items p ≡ point_along chain p

pub has_items : (structs : List Structure) (from : List ℕ) (chain : List Reference) (to : List ℕ) → Leads structs from chain to → HasItems structs from chain to
has_items structs from [] to leads = record { items = []; leads = leads; long = refl; along = λ p. refl }
has_items structs from (r ∷ chain) to leads =
    let one = as_item leads.0.element r leads.0.refers in
    let rest = has_items structs r.cell chain to leads.1 in
    let l = rest.long in
    record {
      items = one.item ∷ rest.items;
      leads = (in_from r.element (elements_of structs from) leads.0.element one.item leads.0.there one.has, subst (λ (n : List ℕ). IsChain structs n rest.items to) (sym one.cell) rest.leads);
      long = omega (arith, l);
      along = λ p. λ i. placed (one.place i) (rest.along p i);
    }

-- no chain has more than 32 references
pub chain_short : (structs : List Structure) (top : List ℕ) (chain : List Reference) (to : List ℕ) → IsSound structs top → Leads structs top chain to → length chain ≤ 32
chain_short structs top chain to sound leads =
    let same = has_items structs top chain to leads in
    let short = sound.short same.items to same.leads in
    let long = same.long in
    omega (arith, short, long)

-- images by the same points are the same
pub image_as : (f g : Point → Point) (r s : Rect) → ((p : Point) → f p ≡ g p) → IsImage g r s → IsImage f r s
image_as f g r s same image =
    subst (λ (q : Point). IsBetween (f (low_corner r)) q s) (sym (same (high_corner r))) (subst (λ (q : Point). IsBetween q (g (high_corner r)) s) (sym (same (low_corner r))) image)

-- what stands at the end of a chain is a flat shape
pub stands_flat : (layers : List Layer) (structs : List Structure) (top : List ℕ) (chain : List Reference) (s : Shape) → StandsAtEnd layers structs top chain s → IsFlatShape layers structs top s
stands_flat layers structs top chain s stands =
    let same = has_items structs top chain stands.end stands.leads in
    record {
      chain = same.items;
      stands = (shapes_are_images layers structs top same.items s).1 (record {
        end = stands.end;
        leads = same.leads;
        inner = stands.inner;
        own = stands.own;
        layer = stands.moved.layer;
        image = image_as (placed_along same.items) (point_along chain) stands.inner.rect s.rect same.along stands.moved.image;
      });
    }
