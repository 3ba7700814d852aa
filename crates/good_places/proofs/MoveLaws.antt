-- Images at places that are moved.
use Rattle.std.proofs.Common.{◌≡◌, ◌∙◌, ℤ, pos, ◌+ℤ◌, refl, sym, ap, arith}
use Rattle.std.specs.Int.{int_max, int_min}
use Rattle.std.proofs.lemmas.Int.{ints, clamps}
use Rattle.or_geom.specs.declared.shape.Rect.{Rect}
use Rattle.or_geom.specs.declared.shape.Shape.{Shape}
use Rattle.or_geom.specs.declared.place.Place.{Place}
use Rattle.or_geom.specs.Place.{placed, turned, low_corner, high_corner, IsImage}
use Rattle.cell_hierarchy.specs.FlatSet.{IsMoved}
use Rattle.local_report.specs.Moved as moved
use Rattle.local_report.specs.Moved.{AreAlikeIn}
use Rattle.local_report.proofs.MovedLaws.{moved_rect}
use Rattle.good_places.specs.Beside.{moved_place}

least_moved : (a b x d s m : ℤ) → s ≡ int_min (a +ℤ x) (b +ℤ x) → m ≡ s +ℤ d → m ≡ int_min (a +ℤ (x +ℤ d)) (b +ℤ (x +ℤ d))
least_moved a b x d s m p q = omega (arith, ints, clamps, p, q)

most_moved : (a b x d s m : ℤ) → s ≡ int_max (a +ℤ x) (b +ℤ x) → m ≡ s +ℤ d → m ≡ int_max (a +ℤ (x +ℤ d)) (b +ℤ (x +ℤ d))
most_moved a b x d s m p q = omega (arith, ints, clamps, p, q)

-- the image at a moved place is the moved image
pub moved_image : (dx dy : ℤ) (place : Place) (r s m : Rect) → IsImage (placed place) r s → moved.IsMovedBy dx dy s m → IsImage (placed (moved_place dx dy place)) r m
moved_image dx dy place r s m is at = record {
  x1 = least_moved (turned place.orient (low_corner r)).x (turned place.orient (high_corner r)).x place.at.x dx s.x1 m.x1 is.x1 at.x1;
  y1 = least_moved (turned place.orient (low_corner r)).y (turned place.orient (high_corner r)).y place.at.y dy s.y1 m.y1 is.y1 at.y1;
  x2 = most_moved (turned place.orient (low_corner r)).x (turned place.orient (high_corner r)).x place.at.x dx s.x2 m.x2 is.x2 at.x2;
  y2 = most_moved (turned place.orient (low_corner r)).y (turned place.orient (high_corner r)).y place.at.y dy s.y2 m.y2 is.y2 at.y2;
}

-- a shape, so much further right and up
pub moved_shape : (dx dy : ℤ) (s : Shape) → (m : Shape) × (m.layer ≡ s.layer) × moved.IsMovedBy dx dy s.rect m.rect
moved_shape dx dy s = let m = moved_rect dx dy s.rect in (record { layer = s.layer; rect = m.0 }, refl, m.1)

pub moved_taken : (dx dy : ℤ) (place : Place) (inner s m : Shape) → IsMoved place inner s → m.layer ≡ s.layer → moved.IsMovedBy dx dy s.rect m.rect → IsMoved (moved_place dx dy place) inner m
moved_taken dx dy place inner s m is layer at = record { layer = layer ∙ is.layer; image = moved_image dx dy place inner.rect s.rect m.rect is.image at }

-- what is moved looks alike everywhere
pub moved_alike : (frame : Rect) (dx dy : ℤ) (s m : Rect) → moved.IsMovedBy dx dy s m → AreAlikeIn frame dx dy s m
moved_alike frame dx dy s m at = record {
  left = ap (λ (z : ℤ). int_max z frame.x1) (sym at.x1);
  low = ap (λ (z : ℤ). int_max z frame.y1) (sym at.y1);
  right = ap (λ (z : ℤ). int_min z frame.x2) (sym at.x2);
  high = ap (λ (z : ℤ). int_min z frame.y2) (sym at.y2);
}

-- so does what is moved back
pub back_alike : (frame : Rect) (dx dy ex ey : ℤ) (s m : Rect) → dx +ℤ ex ≡ pos 0 → dy +ℤ ey ≡ pos 0 → moved.IsMovedBy ex ey s m → AreAlikeIn frame dx dy m s
back_alike frame dx dy ex ey s m zx zy at = moved_alike frame dx dy m s (record {
  x1 = let e = at.x1 in omega (arith, ints, e, zx);
  y1 = let e = at.y1 in omega (arith, ints, e, zy);
  x2 = let e = at.x2 in omega (arith, ints, e, zx);
  y2 = let e = at.y2 in omega (arith, ints, e, zy);
})
