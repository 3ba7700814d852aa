-- An instance in an instance.
use Rattle.std.proofs.Common.{◌≡◌, ℕ, List, [], ◌∷◌, refl, sym, ap, ◌∙◌, append_assoc}
use Rattle.std.specs.Int.{int_min, int_max}
use Rattle.or_geom.specs.declared.shape.Point.{Point}
use Rattle.or_geom.specs.declared.shape.Rect.{Rect}
use Rattle.or_geom.specs.declared.shape.Shape.{Shape}
use Rattle.or_geom.specs.declared.place.Place.{Place}
use Rattle.or_geom.specs.Place.{placed, low_corner, high_corner, IsImage}
use Rattle.or_geom.proofs.PlaceLaws.{corners_differ}
use Rattle.element_drawing.specs.PlainLabel.{PlainLabel}
use Rattle.cell_chains.specs.Instances.{Item}
use Rattle.cell_hierarchy.specs.FlatSet.{path_under}
use Rattle.cell_hierarchy.proofs.ComposeLaws.{same_between, has_between}
use Rattle.cell_builder.specs.Flat.{IsShapeTaken, IsLabelTaken, IsNested, ItemsCompose}

image_in_image : (outer inner both : Place) (r s t : Rect) → ((p : Point) → placed both p ≡ placed outer (placed inner p)) → IsImage (placed inner) r s → IsImage (placed outer) s t → IsImage (placed both) r t
image_in_image outer inner both r s t same a b =
    let w = same_between outer.orient outer.at (placed inner (low_corner r)) (placed inner (high_corner r)) s a in
    let low = same (low_corner r) in
    let high = same (high_corner r) in
    record {
      x1 = b.x1 ∙ (w.x1 ∙ sym (λ i. int_min (low i).x (high i).x));
      y1 = b.y1 ∙ (w.y1 ∙ sym (λ i. int_min (low i).y (high i).y));
      x2 = b.x2 ∙ (w.x2 ∙ sym (λ i. int_max (low i).x (high i).x));
      y2 = b.y2 ∙ (w.y2 ∙ sym (λ i. int_max (low i).y (high i).y));
    }

image_of_image : (outer inner both : Place) (r s t : Rect) → ((p : Point) → placed both p ≡ placed outer (placed inner p)) → IsImage (placed inner) r s → IsImage (placed both) r t → IsImage (placed outer) s t
image_of_image outer inner both r s t same a b =
    let w = same_between outer.orient outer.at (placed inner (low_corner r)) (placed inner (high_corner r)) s a in
    let low = same (low_corner r) in
    let high = same (high_corner r) in
    record {
      x1 = b.x1 ∙ ((λ i. int_min (low i).x (high i).x) ∙ sym w.x1);
      y1 = b.y1 ∙ ((λ i. int_min (low i).y (high i).y) ∙ sym w.y1);
      x2 = b.x2 ∙ ((λ i. int_max (low i).x (high i).x) ∙ sym w.x2);
      y2 = b.y2 ∙ ((λ i. int_max (low i).y (high i).y) ∙ sym w.y2);
    }

-- a path below a path
path_in_path : (outer inner path : List ℕ) → (inner ≡ [] → ⊥) → path_under outer (path_under inner path) ≡ path_under (path_under outer inner) path
path_in_path outer [] path some = absurd (some refl)
path_in_path outer (b ∷ bs) [] some = refl
path_in_path outer (b ∷ bs) (c ∷ cs) some = sym (append_assoc outer (47 ∷ b ∷ bs) (47 ∷ c ∷ cs))

nested_path : (outer inner both : Item) (path : List ℕ) → IsNested outer inner both → path_under outer.name (path_under inner.name path) ≡ path_under both.name path
nested_path outer inner both path n = path_in_path outer.name inner.name path n.some ∙ sym (ap (λ (name : List ℕ). path_under name path) n.name)

pub compose : ItemsCompose
compose outer inner both n = record {
  shapes = λ x z. (
    λ two. record { layer = two.second.layer ∙ two.first.layer; image = image_in_image outer.place inner.place both.place x.rect two.between.rect z.rect n.place two.first.image two.second.image },
    λ m.
        let d = corners_differ inner.place x.rect in
        let b = has_between (placed inner.place (low_corner x.rect)) (placed inner.place (high_corner x.rect)) d.0 d.1 in
        record {
          between = record { layer = x.layer; rect = b.rect };
          first = record { layer = refl; image = b.is };
          second = record { layer = m.layer; image = image_of_image outer.place inner.place both.place x.rect b.rect z.rect n.place b.is m.image };
        },
  );
  labels = λ x z. (
    λ two. record {
      path = two.second.path ∙ (ap (path_under outer.name) two.first.path ∙ nested_path outer inner both x.path n);
      name = two.second.name ∙ two.first.name;
      layer = two.second.layer ∙ two.first.layer;
      at = two.second.at ∙ (ap (placed outer.place) two.first.at ∙ sym (n.place x.at));
    },
    λ m. record {
      between = record { path = path_under inner.name x.path; name = x.name; layer = x.layer; at = placed inner.place x.at };
      first = record { path = refl; name = refl; layer = refl; at = refl };
      second = record { path = m.path ∙ sym (nested_path outer inner both x.path n); name = m.name; layer = m.layer; at = m.at ∙ n.place x.at };
    },
  );
}

-- what stands at an item of an item's cell
pub at_both : (P : Shape → Type 0) (outer inner both : Item) (s : Shape) → IsNested outer inner both → IsShapeTaken outer (IsShapeTaken inner P) s → IsShapeTaken both P s
at_both P outer inner both s n a =
    record { inner = a.has.inner; has = a.has.has; moved = ((compose outer inner both n).shapes a.has.inner s).0 (record { between = a.inner; first = a.has.moved; second = a.moved }) }

pub both_at : (P : Shape → Type 0) (outer inner both : Item) (s : Shape) → IsNested outer inner both → IsShapeTaken both P s → IsShapeTaken outer (IsShapeTaken inner P) s
both_at P outer inner both s n a =
    let m = ((compose outer inner both n).shapes a.inner s).1 a.moved in
    record { inner = m.between; has = record { inner = a.inner; has = a.has; moved = m.first }; moved = m.second }

pub label_at_both : (P : PlainLabel → Type 0) (outer inner both : Item) (label : PlainLabel) → IsNested outer inner both → IsLabelTaken outer (IsLabelTaken inner P) label → IsLabelTaken both P label
label_at_both P outer inner both label n a =
    record { inner = a.has.inner; has = a.has.has; moved = ((compose outer inner both n).labels a.has.inner label).0 (record { between = a.inner; first = a.has.moved; second = a.moved }) }

pub both_label_at : (P : PlainLabel → Type 0) (outer inner both : Item) (label : PlainLabel) → IsNested outer inner both → IsLabelTaken both P label → IsLabelTaken outer (IsLabelTaken inner P) label
both_label_at P outer inner both label n a =
    let m = ((compose outer inner both n).labels a.inner label).1 a.moved in
    record { inner = m.between; has = record { inner = a.inner; has = a.has; moved = m.first }; moved = m.second }

pub at_as : (P Q : Shape → Type 0) (item : Item) (s : Shape) → ((t : Shape) → P t → Q t) → IsShapeTaken item P s → IsShapeTaken item Q s
at_as P Q item s f a = record { inner = a.inner; has = f a.inner a.has; moved = a.moved }

pub label_at_as : (P Q : PlainLabel → Type 0) (item : Item) (label : PlainLabel) → ((t : PlainLabel) → P t → Q t) → IsLabelTaken item P label → IsLabelTaken item Q label
label_at_as P Q item label f a = record { inner = a.inner; has = f a.inner a.has; moved = a.moved }
