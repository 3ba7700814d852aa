-- When a shape has a width.
use Rattle.std.proofs.Common.{◌≡◌, ◌≤ℤ◌, ◌+ℤ◌, ℕ, ℤ, List, Option, None, subst, sym, arith}
use Rattle.std.specs.Prelude.{Contains, IfSome}
use Rattle.std.specs.Int.{int_max}
use Rattle.std.proofs.lemmas.Int.{ints, clamps}
use Rattle.or_geom.specs.declared.shape.Point.{Point}
use Rattle.or_geom.specs.declared.shape.Rect.{Rect}
use Rattle.or_geom.specs.declared.shape.Shape.{Shape}
use Rattle.or_geom.specs.Covered.{IsCovered}
use Rattle.or_geom.proofs.CoverLaws.{cell_among}
use Rattle.shape_bins.specs.Layers.{rects_on}
use Rattle.or_geom.specs.Containing.{HoldsRect}
use Rattle.tile_checker.specs.ClearArea.{IsClearArea}
use Rattle.tile_checker.specs.Seen.{AreTrueNotes}
use Rattle.tile_checker.specs.Candidates.{AreTrueCandidates}
use Rattle.tile_checker.specs.declared.candidates.KeptCandidates.{KeptCandidates}
use Rattle.tile_checker.specs.WideArea.{IsWideArea, IsSeen}
use Rattle.tile_checker.specs.declared.clear.ClearArea.{ClearArea}
use Rattle.tile_checker.specs.declared.notes.Notes.{Notes}
use Rattle.tile_checker.specs.declared.width.WideArea.{WideArea}
use Rattle.tile_checker.specs.Breaks.{HasWidth, IsAsWide}
use Rattle.tile_checker.specs.Frame.{IsFrame, point, HasBoxAt}
use Rattle.tile_checker.specs.Strips.{HaveCell}
use Rattle.tile_checker.specs.declared.frame.Frame.{Frame}
use Rattle.tile_checker.proofs.FrameLaws.{shrunk}

-- a rectangle with both sides long enough is its own box
pub own_width : (rects : List Rect) (min : ℤ) (r : Rect) → Contains rects r → IsAsWide min r → HasWidth rects min r
own_width rects min r own wide = record {
  box = r;
  holds = record { left = omega (arith, ints); right = omega (arith, ints); low = omega (arith, ints); high = omega (arith, ints) };
  as_wide = wide;
  covered = λ x y h. cell_among rects r x y own h;
}

-- all boxes that hold the rectangle hold its lower left cell
pub have_cell : (min : ℤ) (r : Rect) (f : Frame) → IsFrame min r f → HaveCell f
have_cell min r f is = record {
  across = omega (arith, ints, clamps, is.width, is.low_x, is.high_x);
  upward = omega (arith, ints, clamps, is.height, is.low_y, is.high_y);
  wide = omega (arith, ints, clamps, r.wide, is.low_x, is.high_x);
  tall = omega (arith, ints, clamps, r.tall, is.low_y, is.high_y);
}

-- without a covered box in the frame there is no width
pub no_width : (rects : List Rect) (f : Frame) (min : ℤ) (r : Rect) → IsFrame min r f → ((corner : Point) → HasBoxAt rects f corner → ⊥) → HasWidth rects min r → ⊥
no_width rects f min r is none h = none (point (int_max h.box.x1 f.low.x) (int_max h.box.y1 f.low.y)) (shrunk rects f min r is h)

-- a shape in a covered area that is as wide has the width
pub seen_width : (shapes : List Shape) (layer : ℕ) (min : ℤ) (r : Rect) (a : WideArea) → IsWideArea shapes a → a.layer ≡ layer → min ≤ℤ a.least → HoldsRect a.rect r → HasWidth (rects_on layer shapes) min r
seen_width shapes layer min r a is on wide holds = record {
  box = a.rect;
  holds = holds;
  as_wide = record { wide = omega (arith, ints, is.as_wide.wide, wide); tall = omega (arith, ints, is.as_wide.tall, wide) };
  covered = subst (λ (l : ℕ). IsCovered a.rect (rects_on l shapes)) on is.covered;
}

-- nothing is seen at first
pub nothing_seen : (shapes : List Shape) (notes : Notes) → notes.wide ≡ None → notes.clear ≡ None → notes.candidates ≡ None → AreTrueNotes shapes notes
nothing_seen shapes notes wide clear candidates = record {
  wide = subst (λ (a : Option WideArea). IsSeen shapes a) (sym wide) tt;
  clear = subst (λ (a : Option ClearArea). IfSome a (IsClearArea shapes)) (sym clear) tt;
  candidates = subst (λ (k : Option KeptCandidates). IfSome k (AreTrueCandidates shapes)) (sym candidates) tt;
}

-- a covered box of the frame is such an area
pub area_stands : (shapes : List Shape) (f : Frame) (corner : Point) (min : ℤ) (a : WideArea) → min ≤ℤ f.width → min ≤ℤ f.height → a.least ≡ min → a.rect.x1 ≡ corner.x → a.rect.y1 ≡ corner.y → a.rect.x2 ≡ corner.x +ℤ f.width → a.rect.y2 ≡ corner.y +ℤ f.height
    → HasBoxAt (rects_on a.layer shapes) f corner → IsWideArea shapes a
area_stands shapes f corner min a wide tall least x1 y1 x2 y2 b = record {
  covered = λ x y h. b.covered x y (omega (arith, ints, x1, h.left)) (omega (arith, ints, x2, h.right)) (omega (arith, ints, y1, h.low)) (omega (arith, ints, y2, h.high));
  as_wide = record { wide = omega (arith, ints, least, wide, x1, x2); tall = omega (arith, ints, least, tall, y1, y2) };
}
