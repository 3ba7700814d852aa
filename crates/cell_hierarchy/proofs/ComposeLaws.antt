-- Things of a cell at an item of a cell that stands somewhere.
use Rattle.std.proofs.Common.{◌≡◌, ◌≢◌, ℕ, ℤ, pos, ◌+ℤ◌, ◌-ℤ◌, ◌<ℤ◌, Bool, true, List, [], ◌∷◌, refl, sym, ap, subst, ◌∙◌, append_assoc, arith}
use Rattle.std.proofs.lemmas.Int.{ints, clamps, by_lt_z}
use Rattle.std.specs.Int.{int_min, int_max}
use Rattle.or_geom.specs.declared.shape.Point.{Point}
use Rattle.or_geom.specs.declared.shape.Rect.{Rect}
use Rattle.or_geom.specs.declared.place.Place.{Place}
use Rattle.or_geom.specs.declared.place.Orient.{Orient}
use Rattle.or_geom.specs.declared.place.Orient.TheVariants.{R0, R90, R180, R270, MX, MX90, MX180, MX270}
use Rattle.or_geom.specs.Place.{placed, low_corner, high_corner, IsBetween, IsImage}
use Rattle.or_geom.proofs.PlaceLaws.{corners_differ}
use Rattle.gds_library.specs.declared.library.Structure.{Structure}
use Rattle.tech_rules.specs.declared.tech.Layer.{Layer}
use Rattle.element_drawing.specs.PlainLabel.{PlainLabel}
use Rattle.cell_chains.specs.Instances.{Item}
use Rattle.cell_hierarchy.specs.FlatSet.{path_under}
use Rattle.cell_hierarchy.specs.Things.{Thing, MovesThing, IsFlatThing}
use Rattle.cell_hierarchy.specs.Things.Thing.{AShape, ALabel, APoint}
use Rattle.cell_hierarchy.specs.Placed.{path_join, IsThingAt, IsOfCell, IsOfItem, IsPlacedBelow}
use Rattle.cell_hierarchy.specs.declared.placement.Placement.{Placement}
use Rattle.cell_hierarchy.proofs.ThingLaws.{flat_label_is}

-- the least and the greatest of two numbers, both moved, or both turned over and moved
least_of : (a b l h d : ℤ) → l ≡ int_min a b → h ≡ int_max a b → int_min (l +ℤ d) (h +ℤ d) ≡ int_min (a +ℤ d) (b +ℤ d)
least_of a b l h d e f = omega (arith, ints, clamps, e, f)

greatest_of : (a b l h d : ℤ) → l ≡ int_min a b → h ≡ int_max a b → int_max (l +ℤ d) (h +ℤ d) ≡ int_max (a +ℤ d) (b +ℤ d)
greatest_of a b l h d e f = omega (arith, ints, clamps, e, f)

least_over : (a b l h d : ℤ) → l ≡ int_min a b → h ≡ int_max a b → int_min ((pos 0 -ℤ l) +ℤ d) ((pos 0 -ℤ h) +ℤ d) ≡ int_min ((pos 0 -ℤ a) +ℤ d) ((pos 0 -ℤ b) +ℤ d)
least_over a b l h d e f = omega (arith, ints, clamps, e, f)

greatest_over : (a b l h d : ℤ) → l ≡ int_min a b → h ≡ int_max a b → int_max ((pos 0 -ℤ l) +ℤ d) ((pos 0 -ℤ h) +ℤ d) ≡ int_max ((pos 0 -ℤ a) +ℤ d) ((pos 0 -ℤ b) +ℤ d)
greatest_over a b l h d e f = omega (arith, ints, clamps, e, f)

-- the four sides of what lies between two points, after a place
pub record SameBetween (place : Place) (p q a b : Point) : Type 0 where
  pub x1 : int_min (placed place a).x (placed place b).x ≡ int_min (placed place p).x (placed place q).x
  pub y1 : int_min (placed place a).y (placed place b).y ≡ int_min (placed place p).y (placed place q).y
  pub x2 : int_max (placed place a).x (placed place b).x ≡ int_max (placed place p).x (placed place q).x
  pub y2 : int_max (placed place a).y (placed place b).y ≡ int_max (placed place p).y (placed place q).y

pub same_between : (o : Orient) (at p q : Point) (r : Rect) → IsBetween p q r → SameBetween (record { orient = o; at = at }) p q (low_corner r) (high_corner r)
same_between R0 at p q r b = record { x1 = least_of p.x q.x r.x1 r.x2 at.x b.x1 b.x2; y1 = least_of p.y q.y r.y1 r.y2 at.y b.y1 b.y2; x2 = greatest_of p.x q.x r.x1 r.x2 at.x b.x1 b.x2; y2 = greatest_of p.y q.y r.y1 r.y2 at.y b.y1 b.y2 }
same_between R90 at p q r b = record { x1 = least_over p.y q.y r.y1 r.y2 at.x b.y1 b.y2; y1 = least_of p.x q.x r.x1 r.x2 at.y b.x1 b.x2; x2 = greatest_over p.y q.y r.y1 r.y2 at.x b.y1 b.y2; y2 = greatest_of p.x q.x r.x1 r.x2 at.y b.x1 b.x2 }
same_between R180 at p q r b = record { x1 = least_over p.x q.x r.x1 r.x2 at.x b.x1 b.x2; y1 = least_over p.y q.y r.y1 r.y2 at.y b.y1 b.y2; x2 = greatest_over p.x q.x r.x1 r.x2 at.x b.x1 b.x2; y2 = greatest_over p.y q.y r.y1 r.y2 at.y b.y1 b.y2 }
same_between R270 at p q r b = record { x1 = least_of p.y q.y r.y1 r.y2 at.x b.y1 b.y2; y1 = least_over p.x q.x r.x1 r.x2 at.y b.x1 b.x2; x2 = greatest_of p.y q.y r.y1 r.y2 at.x b.y1 b.y2; y2 = greatest_over p.x q.x r.x1 r.x2 at.y b.x1 b.x2 }
same_between MX at p q r b = record { x1 = least_of p.x q.x r.x1 r.x2 at.x b.x1 b.x2; y1 = least_over p.y q.y r.y1 r.y2 at.y b.y1 b.y2; x2 = greatest_of p.x q.x r.x1 r.x2 at.x b.x1 b.x2; y2 = greatest_over p.y q.y r.y1 r.y2 at.y b.y1 b.y2 }
same_between MX90 at p q r b = record { x1 = least_of p.y q.y r.y1 r.y2 at.x b.y1 b.y2; y1 = least_of p.x q.x r.x1 r.x2 at.y b.x1 b.x2; x2 = greatest_of p.y q.y r.y1 r.y2 at.x b.y1 b.y2; y2 = greatest_of p.x q.x r.x1 r.x2 at.y b.x1 b.x2 }
same_between MX180 at p q r b = record { x1 = least_over p.x q.x r.x1 r.x2 at.x b.x1 b.x2; y1 = least_of p.y q.y r.y1 r.y2 at.y b.y1 b.y2; x2 = greatest_over p.x q.x r.x1 r.x2 at.x b.x1 b.x2; y2 = greatest_of p.y q.y r.y1 r.y2 at.y b.y1 b.y2 }
same_between MX270 at p q r b = record { x1 = least_over p.y q.y r.y1 r.y2 at.x b.y1 b.y2; y1 = least_over p.x q.x r.x1 r.x2 at.y b.x1 b.x2; x2 = greatest_over p.y q.y r.y1 r.y2 at.x b.y1 b.y2; y2 = greatest_over p.x q.x r.x1 r.x2 at.y b.x1 b.x2 }

-- there is a rectangle between two points that differ in both directions
pub record HasBetween (p q : Point) : Type 0 where
  pub rect : Rect
  pub is : IsBetween p q rect

least_greatest : (a b : ℤ) → a ≢ b → int_min a b <ℤ int_max a b
least_greatest a b ne = by_lt_z a b (λ less. omega (arith, ints, clamps, less)) (λ le. by_lt_z b a (λ less. omega (arith, ints, clamps, less)) (λ ge. absurd (ne (omega (arith, ints, le, ge)))))

pub has_between : (p q : Point) → p.x ≢ q.x → p.y ≢ q.y → HasBetween p q
has_between p q x y = record {
  rect = record { x1 = int_min p.x q.x; y1 = int_min p.y q.y; x2 = int_max p.x q.x; y2 = int_max p.y q.y; wide = least_greatest p.x q.x x; tall = least_greatest p.y q.y y };
  is = record { x1 = refl; y1 = refl; x2 = refl; y2 = refl };
}

image_in_image : (outer inner both : Place) (r s t : Rect) → ((p : Point) → placed both p ≡ placed outer (placed inner p)) → IsImage (placed inner) r s → IsImage (placed outer) s t → IsImage (placed both) r t
image_in_image outer inner both r s t same a b =
    let w = same_between outer.orient outer.at (placed inner (low_corner r)) (placed inner (high_corner r)) s a in
    let low = same (low_corner r) in
    let high = same (high_corner r) in
    record {
      x1 = b.x1 ∙ (w.x1 ∙ sym (λ i. int_min (low i).x (high i).x));
      y1 = b.y1 ∙ (w.y1 ∙ sym (λ i. int_min (low i).y (high i).y));
      x2 = b.x2 ∙ (w.x2 ∙ sym (λ i. int_max (low i).x (high i).x));
      y2 = b.y2 ∙ (w.y2 ∙ sym (λ i. int_max (low i).y (high i).y));
    }

image_of_image : (outer inner both : Place) (r s t : Rect) → ((p : Point) → placed both p ≡ placed outer (placed inner p)) → IsImage (placed inner) r s → IsImage (placed both) r t → IsImage (placed outer) s t
image_of_image outer inner both r s t same a b =
    let w = same_between outer.orient outer.at (placed inner (low_corner r)) (placed inner (high_corner r)) s a in
    let low = same (low_corner r) in
    let high = same (high_corner r) in
    record {
      x1 = b.x1 ∙ ((λ i. int_min (low i).x (high i).x) ∙ sym w.x1);
      y1 = b.y1 ∙ ((λ i. int_min (low i).y (high i).y) ∙ sym w.y1);
      x2 = b.x2 ∙ ((λ i. int_max (low i).x (high i).x) ∙ sym w.x2);
      y2 = b.y2 ∙ ((λ i. int_max (low i).y (high i).y) ∙ sym w.y2);
    }

-- a path below a path
path_in_path : (outer name path : List ℕ) → (name ≡ [] → ⊥) → path_join outer (path_under name path) ≡ path_join (path_join outer name) path
path_in_path outer [] path some = absurd (some refl)
path_in_path [] (b ∷ bs) [] some = refl
path_in_path [] (b ∷ bs) (c ∷ cs) some = refl
path_in_path (a ∷ as_) (b ∷ bs) [] some = refl
path_in_path (a ∷ as_) (b ∷ bs) (c ∷ cs) some = sym (ap (λ (l : List ℕ). a ∷ l) (append_assoc as_ (47 ∷ b ∷ bs) (47 ∷ c ∷ cs)))

-- where an item of a cell stands that stands somewhere
pub record IsItemBelow (kept : Bool) (outer : Placement) (item : Item) (made : Placement) : Type 0 where
  pub below : IsPlacedBelow kept outer item.name item.place made
  pub some : item.name ≡ [] → ⊥

record HasMiddle (outer : Placement) (item : Item) (inner x : Thing) : Type 0 where
  middle : Thing
  moved : MovesThing item inner middle
  stands : IsThingAt outer.path.now outer.place middle x

thing_above : (kept : Bool) (outer : Placement) (item : Item) (made : Placement) (inner x : Thing) → IsItemBelow kept outer item made → ((l : PlainLabel) → inner ≡ ALabel l → kept ≡ true)
    → IsThingAt made.path.now made.place inner x → HasMiddle outer item inner x
thing_above kept outer item made (AShape a) (AShape c) i named m =
    let d = corners_differ item.place a.rect in
    let b = has_between (placed item.place (low_corner a.rect)) (placed item.place (high_corner a.rect)) d.0 d.1 in
    record {
      middle = AShape (record { layer = a.layer; rect = b.rect });
      moved = record { layer = refl; image = b.is };
      stands = record { layer = m.layer; image = image_of_image outer.place item.place made.place a.rect b.rect c.rect i.below.applied b.is m.image };
    }
thing_above kept outer item made (AShape a) (ALabel c) i named m = absurd m
thing_above kept outer item made (AShape a) (APoint c) i named m = absurd m
thing_above kept outer item made (ALabel a) (AShape c) i named m = absurd m
thing_above kept outer item made (ALabel a) (ALabel c) i named m =
    record {
      middle = ALabel (record { path = path_under item.name a.path; name = a.name; layer = a.layer; at = placed item.place a.at });
      moved = record { path = refl; name = refl; layer = refl; at = refl };
      stands = record {
        path_is = m.path_is ∙ (ap (λ (p : List ℕ). path_join p a.path) (i.below.path (named a refl)) ∙ sym (path_in_path outer.path.now item.name a.path i.some));
        name = m.name;
        layer = m.layer;
        at = m.at ∙ i.below.applied a.at;
      };
    }
thing_above kept outer item made (ALabel a) (APoint c) i named m = absurd m
thing_above kept outer item made (APoint a) (AShape c) i named m = absurd m
thing_above kept outer item made (APoint a) (ALabel c) i named m = absurd m
thing_above kept outer item made (APoint a) (APoint c) i named m = record { middle = APoint (placed item.place a); moved = refl; stands = m ∙ i.below.applied a }

thing_below : (kept : Bool) (outer : Placement) (item : Item) (made : Placement) (inner middle x : Thing) → IsItemBelow kept outer item made → ((l : PlainLabel) → inner ≡ ALabel l → kept ≡ true)
    → MovesThing item inner middle → IsThingAt outer.path.now outer.place middle x → IsThingAt made.path.now made.place inner x
thing_below kept outer item made (AShape a) (AShape b) (AShape c) i named m s =
    record { layer = s.layer ∙ m.layer; image = image_in_image outer.place item.place made.place a.rect b.rect c.rect i.below.applied m.image s.image }
thing_below kept outer item made (AShape a) (AShape b) (ALabel c) i named m s = absurd s
thing_below kept outer item made (AShape a) (AShape b) (APoint c) i named m s = absurd s
thing_below kept outer item made (AShape a) (ALabel b) x i named m s = absurd m
thing_below kept outer item made (AShape a) (APoint b) x i named m s = absurd m
thing_below kept outer item made (ALabel a) (AShape b) x i named m s = absurd m
thing_below kept outer item made (ALabel a) (ALabel b) (AShape c) i named m s = absurd s
thing_below kept outer item made (ALabel a) (ALabel b) (ALabel c) i named m s = record {
  path_is = s.path_is ∙ (ap (path_join outer.path.now) m.path ∙ (path_in_path outer.path.now item.name a.path i.some ∙ sym (ap (λ (p : List ℕ). path_join p a.path) (i.below.path (named a refl)))));
  name = s.name ∙ m.name;
  layer = s.layer ∙ m.layer;
  at = s.at ∙ (ap (placed outer.place) m.at ∙ sym (i.below.applied a.at));
}
thing_below kept outer item made (ALabel a) (ALabel b) (APoint c) i named m s = absurd s
thing_below kept outer item made (ALabel a) (APoint b) x i named m s = absurd m
thing_below kept outer item made (APoint a) (AShape b) x i named m s = absurd m
thing_below kept outer item made (APoint a) (ALabel b) x i named m s = absurd m
thing_below kept outer item made (APoint a) (APoint b) (AShape c) i named m s = absurd s
thing_below kept outer item made (APoint a) (APoint b) (ALabel c) i named m s = absurd s
thing_below kept outer item made (APoint a) (APoint b) (APoint c) i named m s = s ∙ (ap (placed outer.place) m ∙ sym (i.below.applied a))

-- a flat label is one that is kept
flat_named : (layers : List Layer) (kept : Bool) (structs : List Structure) (name : List ℕ) (inner : Thing) → IsFlatThing layers kept structs name inner → (l : PlainLabel) → inner ≡ ALabel l → kept ≡ true
flat_named layers kept structs name inner f l is = ((flat_label_is layers kept structs name l).0 (subst (λ (t : Thing). IsFlatThing layers kept structs name t) is f)).0

-- what a cell has at an item is what the item takes over
pub item_of_cell : (layers : List Layer) (kept : Bool) (structs : List Structure) (outer : Placement) (item : Item) (made : Placement) (x : Thing) → IsItemBelow kept outer item made
    → IsOfCell layers kept structs made item.cell x → IsOfItem layers kept structs outer item x
item_of_cell layers kept structs outer item made x i c =
    let m = thing_above kept outer item made c.inner x i (flat_named layers kept structs item.cell c.inner c.flat) c.stands in
    record { inner = c.inner; flat = c.flat; middle = m.middle; moved = m.moved; stands = m.stands }

pub cell_of_item : (layers : List Layer) (kept : Bool) (structs : List Structure) (outer : Placement) (item : Item) (made : Placement) (x : Thing) → IsItemBelow kept outer item made
    → IsOfItem layers kept structs outer item x → IsOfCell layers kept structs made item.cell x
cell_of_item layers kept structs outer item made x i t =
    record { inner = t.inner; flat = t.flat; stands = thing_below kept outer item made t.inner t.middle x i (flat_named layers kept structs item.cell t.inner t.flat) t.moved t.stands }
