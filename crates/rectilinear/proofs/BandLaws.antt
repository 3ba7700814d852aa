-- The slabs between two neighbouring heights.
use Rattle.std.proofs.Common.{◌≡◌, List, ℤ, pos, ◌-ℤ◌, ◌≤ℤ◌, ◌<ℤ◌, sym, subst, ◌∙◌, arith}
use Rattle.std.proofs.lemmas.Int.{ints}
use Rattle.std.proofs.lemmas.Bool.{false_from_ne_true}
use Rattle.or_geom.specs.declared.shape.Point.{Point}
use Rattle.rectilinear.specs.declared.ends.End.{End}
use Rattle.or_geom.specs.declared.shape.Rect.{Rect}
use Rattle.rectilinear.specs.Ring.{sides_of}
use Rattle.rectilinear.specs.Slabs.{is_odd_left, HasHeight, AreNeighbours, IsSlab}
use Rattle.rectilinear.specs.Rows.{is_odd_to, AreEnds, ArePairs, IsStretch}
use Rattle.rectilinear.specs.Heights.{IsNext, AreSlabsFrom}
use Rattle.rectilinear.proofs.RingLaws.{row_is_uniform}
use Rattle.rectilinear.proofs.RowLaws.{stretches_are_pairs, pairs_distinct, true_not_false}

same_high : (corners : List Point) (low high high2 : ℤ) → AreNeighbours corners low high → AreNeighbours corners low high2 → high2 ≡ high
same_high corners low high high2 a b =
    let le = a.none high2 b.has_high b.below in let ge = b.none high a.has_high a.below in omega (arith, ints, le, ge)

-- the number to the left in the rows of the band
in_band : (corners : List Point) (low high : ℤ) (ends : List End) (x y : ℤ) → AreNeighbours corners low high → AreEnds (sides_of corners) low ends → low ≤ℤ y → y <ℤ high → is_odd_left (sides_of corners) x y ≡ is_odd_to ends x
in_band corners low high ends x y near are ge lt = row_is_uniform corners low high x y near ge lt ∙ sym (are.same x)

slab_of : (corners : List Point) (low high : ℤ) (ends : List End) (r : Rect) → AreNeighbours corners low high → AreEnds (sides_of corners) low ends → IsStretch ends low high r → IsSlab corners r
slab_of corners low high ends r near are s =
    let e1 = s.low_is in let e2 = s.high_is in
    let here : AreNeighbours corners r.y1 r.y2 = subst (λ (z : ℤ). AreNeighbours corners r.y1 z) (sym e2) (subst (λ (z : ℤ). AreNeighbours corners z high) (sym e1) near) in
    record {
      heights = here;
      inside = λ x y h. in_band corners low high ends x y near are (omega (arith, ints, h.low, e1)) (omega (arith, ints, h.high, e2)) ∙ s.inside x h.left h.right;
      left_end = λ y ge lt yes. true_not_false _ yes (in_band corners low high ends (r.x1 -ℤ pos 1) y near are (omega (arith, ints, ge, e1)) (omega (arith, ints, lt, e2)) ∙ s.left_end);
      right_end = λ y ge lt yes. true_not_false _ yes (in_band corners low high ends r.x2 y near are (omega (arith, ints, ge, e1)) (omega (arith, ints, lt, e2)) ∙ s.right_end);
    }

stretch_of : (corners : List Point) (low high : ℤ) (ends : List End) (r : Rect) → AreNeighbours corners low high → AreEnds (sides_of corners) low ends → IsSlab corners r → r.y1 ≡ low → IsStretch ends low high r
stretch_of corners low high ends r near are s e1 =
    let tall : r.y1 <ℤ r.y2 = r.tall in
    let e2 : r.y2 ≡ high = same_high corners low high r.y2 near (subst (λ (z : ℤ). AreNeighbours corners z r.y2) e1 s.heights) in
    let row = λ (x : ℤ). in_band corners low high ends x r.y1 near are (omega (arith, ints, e1)) (omega (arith, ints, tall, e2)) in
    record {
      low_is = e1;
      high_is = e2;
      inside = λ x ge lt. sym (row x) ∙ s.inside x r.y1 (record { left = ge; right = lt; low = omega (arith, ints); high = tall });
      left_end = false_from_ne_true _ (λ yes. s.left_end r.y1 (omega (arith, ints)) tall (row (r.x1 -ℤ pos 1) ∙ yes));
      right_end = false_from_ne_true _ (λ yes. s.right_end r.y1 (omega (arith, ints)) tall (row r.x2 ∙ yes));
    }

pub band_slabs : (corners : List Point) (low high : ℤ) (ends : List End) (rects : List Rect) → HasHeight corners low → IsNext corners low high → AreEnds (sides_of corners) low ends → ArePairs ends low high rects → AreSlabsFrom corners low rects
band_slabs corners low high ends rects has next are pairs =
    let near : AreNeighbours corners low high = record { has_low = has; has_high = next.has; below = next.above; none = next.none } in
    let law = stretches_are_pairs ends low high rects are.rise pairs in
    record {
      only = λ r one. slab_of corners low high ends r near are ((law r).0 one);
      each = λ r slab at. (law r).1 (stretch_of corners low high ends r near are slab at);
      level = λ r one. let s = (law r).0 one in s.low_is;
      distinct = pairs_distinct ends low high rects are.rise pairs;
    }
