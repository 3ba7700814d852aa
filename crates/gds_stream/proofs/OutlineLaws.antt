-- A ring with its first corner again is its outline.
use Rattle.std.proofs.Common.{◌≡◌, ◌≤◌, List, [], ◌∷◌, ◌++◌, length, Bool, true, cond, refl, ap, ◌∙◌, arith}
use Rattle.or_geom.specs.declared.shape.Point.{Point}
use Rattle.rectilinear.specs.declared.ring.RingSide.{RingSide}
use Rattle.rectilinear.specs.Ring.{sides_on, side}
use Rattle.rectilinear.specs.Corners.{is_zero, steps, turns, corners_of}
use Rattle.gds_records.specs.Values.{IsShort}
use Rattle.gds_library.specs.Values.{last_point, IsOutline}
use Rattle.gds_library.specs.Writable.{IsWritableRing}
use Rattle.gds_records.specs.Writing.{points_bytes}
use Rattle.gds_stream.specs.Canonical.{closed_ring}
use Rattle.gds_library.proofs.RingLaws.{zero_side}
use Rattle.gds_stream.proofs.RotationLaws.{sides_more, all_more}
use Rattle.gds_stream.proofs.WrittenValues.{points_back}

last_again : (q : Point) (ps : List Point) (p : Point) → last_point q (ps ++ p ∷ []) ≡ p
last_again q [] p = refl
last_again q (r ∷ ps) p = last_again r ps p

-- a side that goes nowhere is dropped
steps_more : (ss : List RingSide) (s : RingSide) → is_zero s ≡ true → steps (ss ++ s ∷ []) ≡ steps ss
steps_more [] s zero = ap (λ (b : Bool). cond b [] (s ∷ [])) zero
steps_more (t ∷ ts) s zero = ap (λ (l : List RingSide). cond (is_zero t) l (t ∷ l)) (steps_more ts s zero)

same_corners : (p : Point) (ps : List Point) → corners_of (closed_ring (p ∷ ps)) ≡ corners_of (p ∷ ps)
same_corners p ps =
    ap (λ (l : List RingSide). turns (steps l)) (sides_more p ps p p)
    ∙ ap turns (steps_more (sides_on p ps p) (side p p) (zero_side p))

pub closed_outline : (ring : List Point) → IsWritableRing ring → IsOutline ring (points_bytes (closed_ring ring))
closed_outline [] w = absurd (omega (arith, w.simple.four))
closed_outline (p ∷ ps) w = record {
  points = closed_ring (p ∷ ps);
  means = points_back (closed_ring (p ∷ ps)) (w.short.0, all_more IsShort ps p w.short.1 w.short.0);
  closed = last_again p ps p;
  dropped = same_corners p ps ∙ w.turning;
  simple = w.simple;
}

pub closed_some : (ring : List Point) → IsWritableRing ring → 1 ≤ length (closed_ring ring)
closed_some [] w = absurd (omega (arith, w.simple.four))
closed_some (p ∷ ps) w = omega arith
