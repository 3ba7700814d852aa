-- Flat lists have no more shapes than stand below their structure.
use Rattle.std.proofs.Common.{◌≡◌, ℕ, ℤ, List, [], ◌∷◌, map, length, refl, sym, subst, ◌∙◌, arith}
use Rattle.std.specs.Prelude.{Contains}
use Rattle.std.specs.Int.{int_max, int_min}
use Rattle.std.specs.Ordering.{ordering_then, int_cmp, nat_cmp}
use Rattle.std.specs.List.{AllByRecursion}
use Rattle.std.specs.declared.cmp.Ordering.{Ordering}
use Rattle.std.specs.declared.cmp.Ordering.TheVariants.{Less}
use Rattle.std.proofs.lemmas.List.{length-map}
use Rattle.or_geom.specs.declared.shape.Point.{Point}
use Rattle.or_geom.specs.declared.shape.Shape.{Shape}
use Rattle.or_geom.specs.Place.{placed}
use Rattle.or_geom.proofs.ListLaws.{contains_map}
use Rattle.or_geom.proofs.ShapeOrderLaws.{shape_total}
use Rattle.or_geom.proofs.OneListLaws.{not_both}
use Rattle.gds_library.specs.declared.library.Structure.{Structure}
use Rattle.gds_library.specs.Writable.{IsWritableCell}
use Rattle.tech_rules.specs.declared.tech.Layer.{Layer}
use Rattle.or_geom.specs.ShapeOrder.{shape_order}
use Rattle.cell_chains.specs.Instances.{Item}
use Rattle.cell_chains.specs.Chains.{elements_of, IsChain, IsItemOf}
use Rattle.cell_chains.proofs.ChainLaws.{writable_elements}
use Rattle.cell_hierarchy.specs.OneSet.{AreOneSet}
use Rattle.cell_hierarchy.specs.Counts.{Total, IsOwnTotal}
use Rattle.cell_hierarchy.specs.FlatSet.{IsShapeBy, IsOwnShape}
use Rattle.cell_hierarchy.specs.Bounds.{FlatShapesAreFew}
use Rattle.cell_hierarchy.proofs.ListedLaws.{IsListed, at_most_listed}
use Rattle.cell_hierarchy.proofs.BoundedBelowLaws.{IsNumber, IsBelowItem, IsByChains, IsWithinDepth, within_listed}
use Rattle.cell_hierarchy.proofs.FlatLaws.{chain_end}

-- the numbers of a shape
record ShapeNumbers : Type 0 where
  layer : ℕ
  x1 : ℤ
  y1 : ℤ
  x2 : ℤ
  y2 : ℤ

abbrev numbers_of : Shape → ShapeNumbers
numbers_of s = record { layer = s.layer; x1 = s.rect.x1; y1 = s.rect.y1; x2 = s.rect.x2; y2 = s.rect.y2 }

-- they are those of a shape at the end of the chain
record IsNumbersBy (layers : List Layer) (structs : List Structure) (name : List ℕ) (chain : List Item) (n : ShapeNumbers) : Type 0 where
  shape : Shape
  stands : IsShapeBy layers structs name chain shape
  is : n ≡ numbers_of shape

abbrev shapes_of : Total → ℕ
shapes_of total = total.shapes

shapes_add : IsNumber shapes_of
shapes_add = record { of_none = refl; of_sum = λ a b. refl; of_times = λ n a. refl }

-- the numbers of the shape as an item moves it
abbrev moved_numbers : Item → ShapeNumbers → ShapeNumbers
moved_numbers item n =
    let a : Point = placed item.place (record { x = n.x1; y = n.y1 }) in
    let b : Point = placed item.place (record { x = n.x2; y = n.y2 }) in
    record { layer = n.layer; x1 = int_min a.x b.x; y1 = int_min a.y b.y; x2 = int_max a.x b.x; y2 = int_max a.y b.y }

same_numbers : (m n : ShapeNumbers) → m.layer ≡ n.layer → m.x1 ≡ n.x1 → m.y1 ≡ n.y1 → m.x2 ≡ n.x2 → m.y2 ≡ n.y2 → m ≡ n
same_numbers m n layer x1 y1 x2 y2 = λ i. record { layer = layer i; x1 = x1 i; y1 = y1 i; x2 = x2 i; y2 = y2 i }

own_numbers : AreOneSet → (layers : List Layer) (structs : List Structure) → AllByRecursion IsWritableCell structs → (name : List ℕ) (total : Total) → IsOwnTotal layers (elements_of structs name) total
    → IsListed ShapeNumbers total.shapes (IsNumbersBy layers structs name [])
own_numbers one layers structs w name total own = record {
  items = map numbers_of own.shapes;
  size = length-map own.shapes numbers_of ∙ sym own.shape_count;
  holds = λ n h.
      let o : IsOwnShape layers (elements_of structs name) h.shape = h.stands in
      let among = one layers (elements_of structs name) o.shapes own.shapes (writable_elements structs name w) o.drawn own.drawn h.shape o.among in
      subst (λ (m : ShapeNumbers). Contains (map numbers_of own.shapes) m) (sym h.is) (contains_map numbers_of own.shapes h.shape among);
}

below_numbers : (layers : List Layer) (structs : List Structure) (name : List ℕ) (item : Item) (items : List Item) (n : ShapeNumbers) (shape : Shape) → IsShapeBy layers structs name (item ∷ items) shape → n ≡ numbers_of shape
    → IsBelowItem ShapeNumbers moved_numbers (λ cell. IsNumbersBy layers structs cell items) (λ i. (i ≡ item) × IsItemOf structs name i) n
below_numbers layers structs name item items n shape h is = record {
  item = item;
  among = (refl, h.0);
  inner = numbers_of h.1;
  has = record { shape = h.1; stands = h.2; is = refl };
  is = is ∙ same_numbers (numbers_of shape) (moved_numbers item (numbers_of h.1)) h.3.layer h.3.image.x1 h.3.image.y1 h.3.image.x2 h.3.image.y2;
}

numbers_by_chains : AreOneSet → (layers : List Layer) (structs : List Structure) → AllByRecursion IsWritableCell structs → IsByChains layers structs ShapeNumbers (IsNumbersBy layers structs) shapes_of moved_numbers
numbers_by_chains one layers structs w = record {
  adds = shapes_add;
  own = own_numbers one layers structs w;
  below = λ name item items n h. below_numbers layers structs name item items n h.shape h.stands h.is;
}

shape_chain : (layers : List Layer) (structs : List Structure) (name : List ℕ) (chain : List Item) (shape : Shape) → IsShapeBy layers structs name chain shape → IsChain structs name chain (chain_end name chain)
shape_chain layers structs name [] shape h = refl
shape_chain layers structs name (item ∷ items) shape h = (h.0, shape_chain layers structs item.cell items h.1 h.2)

-- the order looks at the numbers alone
abbrev numbers_order : ShapeNumbers → ShapeNumbers → Ordering
numbers_order m n =
    ordering_then (nat_cmp m.layer n.layer)
    (ordering_then (int_cmp m.x1 n.x1) (ordering_then (int_cmp m.y1 n.y1) (ordering_then (int_cmp m.x2 n.x2) (int_cmp m.y2 n.y2))))

shapes_apart : (a b : Shape) → shape_order a b ≡ Less → numbers_of a ≡ numbers_of b → ⊥
shapes_apart a b less same = let self : shape_order b b ≡ Less = subst (λ (n : ShapeNumbers). numbers_order n (numbers_of b) ≡ Less) same less in not_both shape_order shape_total b b self self

pub shapes_are_few : AreOneSet → FlatShapesAreFew
shapes_are_few one layers structs top shapes w flat =
    let total = flat.few.total in
    let listed : IsListed ShapeNumbers (shapes_of total) (IsWithinDepth ShapeNumbers (IsNumbersBy layers structs) 32 top) =
    within_listed layers structs ShapeNumbers (IsNumbersBy layers structs) shapes_of moved_numbers (numbers_by_chains one layers structs w) 32 top total flat.few.is in
    let kept : (shape : Shape) → Contains shapes shape → Contains listed.items (numbers_of shape) = λ shape c.
    let f = (flat.exact shape).0 c in
    listed.holds (numbers_of shape) (record {
      chain = f.chain;
      short = flat.sound.short f.chain (chain_end top f.chain) (shape_chain layers structs top f.chain shape f.stands);
      stands = record { shape = shape; stands = f.stands; is = refl };
    }) in
    let most = at_most_listed Shape ShapeNumbers numbers_of shape_order shapes_apart shapes listed.items flat.rise kept in
    let size : length listed.items ≡ total.shapes = listed.size in
    let few = flat.few.few.shapes in
    omega (arith, most, size, few)
