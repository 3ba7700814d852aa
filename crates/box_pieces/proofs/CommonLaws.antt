-- What rectangles have in common, and what lies around it.
use Rattle.std.proofs.Common.{◌≡◌, ◌⊎◌, inl, inr, true, ℤ, pos, ◌≤ℤ◌, ◌-ℤ◌, arith}
use Rattle.std.specs.Int.{int_max, int_min}
use Rattle.std.specs.Int.Signed.{le_z, le_z_yes}
use Rattle.std.proofs.lemmas.Float.{T_from_true}
use Rattle.std.proofs.lemmas.Int.{ints, clamps, by_lt_z}
use Rattle.or_geom.specs.declared.shape.Rect.{Rect}
use Rattle.or_geom.specs.Covered.{HasCell}
use Rattle.or_geom.specs.Containing.{HoldsRect}
use Rattle.box_pieces.specs.Cells.{ShareNoCell, IsIntersection, IsBetweenSides, IsCellAround}

-- the rectangle has the greater of the lower sides and the lesser of the higher
pub is_common : (a b r : Rect) → r.x1 ≡ int_max a.x1 b.x1 → r.y1 ≡ int_max a.y1 b.y1 → r.x2 ≡ int_min a.x2 b.x2 → r.y2 ≡ int_min a.y2 b.y2 → IsIntersection a b r
is_common a b r left low right high = record {
  only = λ x y h. (
    record { left = omega (arith, ints, clamps, h.left); right = omega (arith, ints, clamps, h.right); low = omega (arith, ints, clamps, h.low); high = omega (arith, ints, clamps, h.high) },
    record { left = omega (arith, ints, clamps, h.left); right = omega (arith, ints, clamps, h.right); low = omega (arith, ints, clamps, h.low); high = omega (arith, ints, clamps, h.high) },
  );
  each = λ x y f g. record {
    left = omega (arith, ints, clamps, f.left, g.left);
    right = omega (arith, ints, clamps, f.right, g.right);
    low = omega (arith, ints, clamps, f.low, g.low);
    high = omega (arith, ints, clamps, f.high, g.high);
  };
}

pub none_across : (a b : Rect) (x1 x2 : ℤ) → le_z x2 x1 ≡ true → x1 ≡ int_max a.x1 b.x1 → x2 ≡ int_min a.x2 b.x2 → ShareNoCell a b
none_across a b x1 x2 test is_x1 is_x2 x y f g = let none : x2 ≤ℤ x1 = le_z_yes (T_from_true (le_z x2 x1) test) in omega (arith, ints, clamps, f.left, f.right, g.left, g.right)

pub none_upward : (a b : Rect) (y1 y2 : ℤ) → le_z y2 y1 ≡ true → y1 ≡ int_max a.y1 b.y1 → y2 ≡ int_min a.y2 b.y2 → ShareNoCell a b
none_upward a b y1 y2 test is_y1 is_y2 x y f g = let none : y2 ≤ℤ y1 = le_z_yes (T_from_true (le_z y2 y1) test) in omega (arith, ints, clamps, f.low, f.high, g.low, g.high)

pub is_part : (rect part : Rect) → ((x y : ℤ) → HasCell part x y → HasCell rect x y) → HoldsRect rect part
is_part rect part all =
    let wide = part.wide in
    let tall = part.tall in
    let first : HasCell part part.x1 part.y1 = record { left = omega (arith, ints); right = omega (arith, ints); low = omega (arith, ints); high = omega (arith, ints) } in
    let last : HasCell part (part.x2 -ℤ pos 1) (part.y2 -ℤ pos 1) = record { left = omega (arith, ints); right = omega (arith, ints); low = omega (arith, ints); high = omega (arith, ints) } in
    let f = all part.x1 part.y1 first in
    let l = all (part.x2 -ℤ pos 1) (part.y2 -ℤ pos 1) last in
    record { left = omega (arith, ints, f.left); right = omega (arith, ints, l.right); low = omega (arith, ints, f.low); high = omega (arith, ints, l.high) }

-- a unit cell below, above, left or right of the part
abbrev pub IsBeside : Rect → Rect → ℤ → ℤ → Type 0
IsBeside rect part x y = ((IsBetweenSides rect.x1 rect.y1 rect.x2 part.y1 x y ⊎ IsBetweenSides rect.x1 part.y2 rect.x2 rect.y2 x y) ⊎ IsBetweenSides rect.x1 part.y1 part.x1 part.y2 x y) ⊎ IsBetweenSides part.x2 part.y1 rect.x2 part.y2 x y

pub beside_around : (rect part : Rect) → HoldsRect rect part → (x y : ℤ) → IsBeside rect part x y → IsCellAround rect part x y
beside_around rect part p x y (inl (inl (inl b))) = let wide = part.wide in let tall = part.tall in record {
  within = record { left = b.left; right = b.right; low = b.low; high = omega (arith, ints, b.high, p.high) };
  out = λ h. omega (arith, ints, h.low, b.high);
}
beside_around rect part p x y (inl (inl (inr b))) = let wide = part.wide in let tall = part.tall in record {
  within = record { left = b.left; right = b.right; low = omega (arith, ints, b.low, p.low); high = b.high };
  out = λ h. omega (arith, ints, h.high, b.low);
}
beside_around rect part p x y (inl (inr b)) = let wide = part.wide in let tall = part.tall in record {
  within = record { left = b.left; right = omega (arith, ints, b.right, p.right); low = omega (arith, ints, b.low, p.low); high = omega (arith, ints, b.high, p.high) };
  out = λ h. omega (arith, ints, h.left, b.right);
}
beside_around rect part p x y (inr b) = let wide = part.wide in let tall = part.tall in record {
  within = record { left = omega (arith, ints, b.left, p.left); right = b.right; low = omega (arith, ints, b.low, p.low); high = omega (arith, ints, b.high, p.high) };
  out = λ h. omega (arith, ints, h.right, b.left);
}

pub around_beside : (rect part : Rect) (x y : ℤ) → IsCellAround rect part x y → IsBeside rect part x y
around_beside rect part x y a =
    let w = a.within in
    by_lt_z y part.y1 (λ under. inl (inl (inl (record { left = w.left; right = w.right; low = w.low; high = under }))))
    (λ from. by_lt_z y part.y2
    (λ to. by_lt_z x part.x1 (λ before. inl (inr (record { left = w.left; right = before; low = from; high = to })))
    (λ after. by_lt_z x part.x2 (λ in_it. absurd (a.out (record { left = after; right = in_it; low = from; high = to })))
    (λ behind. inr (record { left = behind; right = w.right; low = from; high = to }))))
    (λ over. inl (inl (inr (record { left = w.left; right = w.right; low = over; high = w.high })))))
