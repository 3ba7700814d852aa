-- What the top draws, where it stands at the origin.
use Rattle.std.proofs.Common.{◌≡◌, inl, inr, ℕ, ◌-◌, ◌*◌, ◌^◌, ℤ, pos, ◌+ℤ◌, ◌<ℤ◌, List, [], length, map, refl, sym, ap, subst, ◌∙◌, ◌↔◌, arith}
use Rattle.std.specs.Prelude.{Contains, Some, slice_get}
use Rattle.std.specs.Str.{IsAscii}
use Rattle.std.specs.Int.{int_min, int_max}
use Rattle.std.proofs.lemmas.Int.{ints, clamps}
use Rattle.std.proofs.lemmas.Str.Ascii.{IsAscii-nil}
use Rattle.or_geom.specs.declared.shape.Point.{Point}
use Rattle.or_geom.specs.declared.shape.Rect.{Rect}
use Rattle.or_geom.specs.declared.shape.Shape.{Shape}
use Rattle.or_geom.specs.declared.place.Place.{Place}
use Rattle.or_geom.specs.declared.place.Orient.TheVariants.{R0}
use Rattle.or_geom.specs.Place.{IsWithin, placed, IsImage}
use Rattle.or_geom.proofs.ListLaws.{contains_none}
use Rattle.or_geom.proofs.PlaceLaws.{same_point, same_rect}
use Rattle.cell_chains.specs.Hierarchy.{AreCells, IsCellOf}
use Rattle.cell_hierarchy.specs.Plain.{plain_label}
use Rattle.cell_hierarchy.specs.Things.{Thing, IsFlatThing, HasThing, GatheredGrows}
use Rattle.cell_hierarchy.specs.Things.Thing.{AShape, ALabel, APoint}
use Rattle.cell_hierarchy.specs.Placed.{IsThingAt}
use Rattle.cell_hierarchy.specs.Parts.{IsPlacedAt, IsOfCellIn}
use Rattle.cell_hierarchy.specs.Settled.{IsTopDrawing}
use Rattle.cell_hierarchy.specs.declared.flat.Label.{Label}
use Rattle.cell_hierarchy.specs.declared.gathered.Gathered.{Gathered}
use Rattle.cell_hierarchy.specs.declared.placement.Placement.{Placement}
use Rattle.cell_hierarchy.specs.declared.tree.Tree.{Tree}
use Rattle.cell_hierarchy.proofs.ThingLaws.{flat_shape_is, flat_label_is, flat_point_is}

-- nothing is turned or moved
abbrev pub home : Place
home = record { orient = R0; at = record { x = pos 0; y = pos 0 } }

home_point : (p : Point) → placed home p ≡ p
home_point p = same_point (placed home p) p (omega (arith, ints)) (omega (arith, ints))

least_is : (a b : ℤ) → a <ℤ b → int_min (a +ℤ pos 0) (b +ℤ pos 0) ≡ a
least_is a b lt = omega (arith, ints, clamps, lt)

greatest_is : (a b : ℤ) → a <ℤ b → int_max (a +ℤ pos 0) (b +ℤ pos 0) ≡ b
greatest_is a b lt = omega (arith, ints, clamps, lt)

home_rect : (r s : Rect) → IsImage (placed home) r s → s ≡ r
home_rect r s i = same_rect s r (i.x1 ∙ least_is r.x1 r.x2 r.wide) (i.y1 ∙ least_is r.y1 r.y2 r.tall) (i.x2 ∙ greatest_is r.x1 r.x2 r.wide) (i.y2 ∙ greatest_is r.y1 r.y2 r.tall)

home_image : (r : Rect) → IsImage (placed home) r r
home_image r = record { x1 = sym (least_is r.x1 r.x2 r.wide); y1 = sym (least_is r.y1 r.y2 r.tall); x2 = sym (greatest_is r.x1 r.x2 r.wide); y2 = sym (greatest_is r.y1 r.y2 r.tall) }

-- what stands at home is what it is
at_home : (inner x : Thing) → IsThingAt [] home inner x → x ≡ inner
at_home (AShape a) (AShape b) m = let layer = m.layer in let rect = home_rect a.rect b.rect m.image in λ i. AShape (record { layer = layer i; rect = rect i })
at_home (AShape a) (ALabel b) m = absurd m
at_home (AShape a) (APoint b) m = absurd m
at_home (ALabel a) (AShape b) m = absurd m
at_home (ALabel a) (ALabel b) m =
    let path = m.path_is in
    let name = m.name in
    let layer = m.layer in
    let at = m.at ∙ home_point a.at in
    λ i. ALabel (record { path = path i; name = name i; layer = layer i; at = at i })
at_home (ALabel a) (APoint b) m = absurd m
at_home (APoint a) (AShape b) m = absurd m
at_home (APoint a) (ALabel b) m = absurd m
at_home (APoint a) (APoint b) m = ap APoint (m ∙ home_point a)

home_is : (x : Thing) → IsThingAt [] home x x
home_is (AShape a) = record { layer = refl; image = home_image a.rect }
home_is (ALabel a) = record { path_is = refl; name = refl; layer = refl; at = sym (home_point a.at) }
home_is (APoint a) = sym (home_point a)

pub top_placed : (tree : Tree) (top : List ℕ) (at : Placement) (last : ℕ) → AreCells tree.structs.now top tree.cells.now → last ≡ length tree.cells.now - 1 → at.place ≡ home → at.path.now ≡ [] → IsPlacedAt tree last at
top_placed tree top at last c is there bare =
    let count = c.count in
    let same : c.before ≡ last = omega (arith, count, is) in
    record {
      cell = c.last.cell;
      is = subst (λ (k : ℕ). slice_get tree.cells.now k ≡ Some c.last.cell) same c.last.is;
      near = subst (λ (p : Place). IsWithin ((32 - c.last.cell.height) * 2 ^ 33) p.at) (sym there)
          (record { x_above = omega (arith, ints); x_below = omega (arith, ints); y_above = omega (arith, ints); y_below = omega (arith, ints) });
      ascii = subst IsAscii (sym bare) IsAscii-nil;
    }

pub top_named : (tree : Tree) (top : List ℕ) (last : ℕ) → AreCells tree.structs.now top tree.cells.now → last ≡ length tree.cells.now - 1 → IsCellOf tree.structs.now tree.cells.now last top
top_named tree top last c is =
    let count = c.count in
    let same : c.before ≡ last = omega (arith, count, is) in
    subst (λ (k : ℕ). IsCellOf tree.structs.now tree.cells.now k top) same c.last

-- what is gathered from nothing on is exactly what is flat
nothing_has : (nothing : Gathered) (x : Thing) → nothing.shapes.items ≡ [] → nothing.labels.items ≡ [] → nothing.points.items ≡ [] → HasThing nothing x → ⊥
nothing_has nothing (AShape s) a b c h = contains_none s (subst (λ (ss : List Shape). Contains ss s) a h)
nothing_has nothing (ALabel l) a b c h = contains_none l (subst (λ (ls : List Label). Contains (map plain_label ls) l) b h)
nothing_has nothing (APoint p) a b c h = contains_none p (subst (λ (ps : List Point). Contains ps p) c h)

pub top_has : (tree : Tree) (top : List ℕ) (at : Placement) (nothing gathered : Gathered) → nothing.shapes.items ≡ [] → nothing.labels.items ≡ [] → nothing.points.items ≡ [] → at.place ≡ home → at.path.now ≡ []
    → GatheredGrows nothing gathered (IsOfCellIn tree at top) → (x : Thing) → HasThing gathered x ↔ IsFlatThing tree.layers.now tree.keeps_labels tree.structs.now top x
top_has tree top at nothing gathered a b c there bare g x = (
  λ h. elim (g.only x h) [
    | inl old ↦ absurd (nothing_has nothing x a b c old)
    | inr f ↦
        let stands : IsThingAt [] home f.inner x = subst (λ (p : Place). IsThingAt [] p f.inner x) there (subst (λ (q : List ℕ). IsThingAt q at.place f.inner x) bare f.stands) in
        subst (λ (t : Thing). IsFlatThing tree.layers.now tree.keeps_labels tree.structs.now top t) (sym (at_home f.inner x stands)) f.flat
  ],
  λ f. g.each x (record {
    inner = x;
    flat = f;
    stands = subst (λ (q : List ℕ). IsThingAt q at.place x x) (sym bare) (subst (λ (p : Place). IsThingAt [] p x x) (sym there) (home_is x));
  }),
)

pub top_drawing_is : (tree : Tree) (top : List ℕ) (gathered : Gathered) → ((x : Thing) → HasThing gathered x ↔ IsFlatThing tree.layers.now tree.keeps_labels tree.structs.now top x) → IsTopDrawing tree.layers.now tree.keeps_labels tree.structs.now top gathered
top_drawing_is tree top gathered is = record {
  shapes = λ s. (λ h. (flat_shape_is tree.layers.now tree.keeps_labels tree.structs.now top s).0 ((is (AShape s)).0 h), λ f. (is (AShape s)).1 ((flat_shape_is tree.layers.now tree.keeps_labels tree.structs.now top s).1 f));
  labels = λ l. (λ h. (flat_label_is tree.layers.now tree.keeps_labels tree.structs.now top l).0 ((is (ALabel l)).0 h), λ f. (is (ALabel l)).1 ((flat_label_is tree.layers.now tree.keeps_labels tree.structs.now top l).1 f));
  points = λ p. (λ h. (flat_point_is tree.layers.now tree.keeps_labels tree.structs.now top p).0 ((is (APoint p)).0 h), λ f. (is (APoint p)).1 ((flat_point_is tree.layers.now tree.keeps_labels tree.structs.now top p).1 f));
}
