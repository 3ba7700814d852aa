-- A shape at the end of a chain is the image by the composition of the places.
use Rattle.std.proofs.Common.{◌≡◌, ℕ, ℤ, ◌<ℤ◌, List, [], ◌∷◌, refl, sym, subst, ◌∙◌, arith}
use Rattle.std.proofs.lemmas.Int.{ints, clamps}
use Rattle.std.specs.Int.{int_min, int_max}
use Rattle.or_geom.specs.declared.shape.Rect.{Rect}
use Rattle.or_geom.specs.declared.shape.Shape.{Shape}
use Rattle.or_geom.specs.Place.{placed, low_corner, high_corner, IsImage}
use Rattle.or_geom.proofs.PlaceLaws.{corners_differ, same_rect}
use Rattle.gds_library.specs.declared.library.Structure.{Structure}
use Rattle.tech_rules.specs.declared.tech.Layer.{Layer}
use Rattle.cell_chains.specs.Instances.{Item}
use Rattle.cell_chains.specs.Chains.{elements_of}
use Rattle.cell_hierarchy.specs.FlatSet.{IsOwnShape, IsShapeBy}
use Rattle.cell_hierarchy.specs.Along.{placed_along, IsShapeAlong, FlatShapesAreImages}
use Rattle.cell_hierarchy.proofs.ComposeLaws.{same_between, has_between}

least_is : (a b : ℤ) → a <ℤ b → a ≡ int_min a b
least_is a b lt = omega (arith, ints, clamps, lt)

greatest_is : (a b : ℤ) → a <ℤ b → b ≡ int_max a b
greatest_is a b lt = omega (arith, ints, clamps, lt)

itself : (r : Rect) → IsImage (placed_along []) r r
itself r = record { x1 = least_is r.x1 r.x2 r.wide; y1 = least_is r.y1 r.y2 r.tall; x2 = greatest_is r.x1 r.x2 r.wide; y2 = greatest_is r.y1 r.y2 r.tall }

itself_only : (r s : Rect) → IsImage (placed_along []) r s → s ≡ r
itself_only r s i = let o = itself r in same_rect s r (i.x1 ∙ sym o.x1) (i.y1 ∙ sym o.y1) (i.x2 ∙ sym o.x2) (i.y2 ∙ sym o.y2)

-- each rectangle has an image along a chain
record HasAlong (chain : List Item) (r : Rect) : Type 0 where
  rect : Rect
  is : IsImage (placed_along chain) r rect

has_along : (chain : List Item) (r : Rect) → HasAlong chain r
has_along [] r = record { rect = r; is = itself r }
has_along (item ∷ items) r =
    let m = has_along items r in
    let d = corners_differ item.place m.rect in
    let b = has_between (placed item.place (low_corner m.rect)) (placed item.place (high_corner m.rect)) d.0 d.1 in
    let w = same_between item.place.orient item.place.at (placed_along items (low_corner r)) (placed_along items (high_corner r)) m.rect m.is in
    record { rect = b.rect; is = record { x1 = b.is.x1 ∙ w.x1; y1 = b.is.y1 ∙ w.y1; x2 = b.is.x2 ∙ w.x2; y2 = b.is.y2 ∙ w.y2 } }

along : (layers : List Layer) (structs : List Structure) (name : List ℕ) (chain : List Item) (s : Shape) → IsShapeBy layers structs name chain s → IsShapeAlong layers structs name chain s
along layers structs name [] s h = record { end = name; leads = refl; inner = s; own = h; layer = refl; image = itself s.rect }
along layers structs name (item ∷ items) s h =
    let a = along layers structs item.cell items h.1 h.2 in
    let m = h.3 in
    let w = same_between item.place.orient item.place.at (placed_along items (low_corner a.inner.rect)) (placed_along items (high_corner a.inner.rect)) h.1.rect a.image in
    record {
      end = a.end;
      leads = (h.0, a.leads);
      inner = a.inner;
      own = a.own;
      layer = m.layer ∙ a.layer;
      image = record { x1 = m.image.x1 ∙ w.x1; y1 = m.image.y1 ∙ w.y1; x2 = m.image.x2 ∙ w.x2; y2 = m.image.y2 ∙ w.y2 };
    }

by_steps : (layers : List Layer) (structs : List Structure) (name : List ℕ) (chain : List Item) (s : Shape) → IsShapeAlong layers structs name chain s → IsShapeBy layers structs name chain s
by_steps layers structs name [] s a =
    let rect = itself_only a.inner.rect s.rect a.image in
    let layer = a.layer in
    let same : s ≡ a.inner = λ i. record { layer = layer i; rect = rect i } in
    subst (λ (t : Shape). IsOwnShape layers (elements_of structs name) t) (sym same) (subst (λ (n : List ℕ). IsOwnShape layers (elements_of structs n) a.inner) a.leads a.own)
by_steps layers structs name (item ∷ items) s a =
    let m = has_along items a.inner.rect in
    let middle : Shape = record { layer = a.inner.layer; rect = m.rect } in
    let w = same_between item.place.orient item.place.at (placed_along items (low_corner a.inner.rect)) (placed_along items (high_corner a.inner.rect)) m.rect m.is in (
      a.leads.0,
      middle,
      by_steps layers structs item.cell items middle (record { end = a.end; leads = a.leads.1; inner = a.inner; own = a.own; layer = refl; image = m.is }),
      record { layer = a.layer; image = record { x1 = a.image.x1 ∙ sym w.x1; y1 = a.image.y1 ∙ sym w.y1; x2 = a.image.x2 ∙ sym w.x2; y2 = a.image.y2 ∙ sym w.y2 } },
    )

pub shapes_are_images : FlatShapesAreImages
shapes_are_images layers structs name chain s = (along layers structs name chain s, by_steps layers structs name chain s)
