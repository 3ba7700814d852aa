-- Strips of covered columns, and windows of them.
use Rattle.std.proofs.Common.{◌≡◌, ◌⊎◌, inl, inr, ℤ, pos, ◌<◌, ◌≤ℤ◌, ◌<ℤ◌, ◌+ℤ◌, ◌-ℤ◌, List, refl, subst, sym, arith}
use Rattle.std.specs.Prelude.{unsigned_abs}
use Rattle.std.proofs.lemmas.Int.{ints, clamps, by_lt_z}
use Rattle.or_geom.specs.declared.shape.Point.{Point}
use Rattle.or_geom.specs.declared.shape.Rect.{Rect}
use Rattle.or_geom.specs.Covered.{HasCell, HasCellInSome}
use Rattle.or_geom.specs.Row.{IsFound}
use Rattle.tile_checker.specs.declared.frame.Frame.{Frame}
use Rattle.tile_checker.specs.declared.strip.Strip.{Strip}
use Rattle.tile_checker.specs.Strips.{IsFrameHull, HaveCell, IsRaisedBy, IsLoweredBy, HasCommonRows, IsStripThrough, IsUpwardStrip, IsDownward, CoversColumns, IsStripAt, IsWindow}

-- a cell with the same coordinates
pub cell_moved : (rects : List Rect) (x y u v : ℤ) → x ≡ u → y ≡ v → HasCellInSome rects x y → HasCellInSome rects u v
cell_moved rects x y u v on at h = subst (λ (z : ℤ). HasCellInSome rects z v) on (subst (λ (z : ℤ). HasCellInSome rects x z) at h)

-- what rises towards a bound, and what falls towards one
pub rises_less : (a b bound : ℤ) → a <ℤ b → b ≤ℤ bound → unsigned_abs (bound -ℤ b) < unsigned_abs (bound -ℤ a)
rises_less a b bound more within = omega (arith, ints, more, within)

pub falls_less : (a b bound : ℤ) → b <ℤ a → bound ≤ℤ b → unsigned_abs (b -ℤ bound) < unsigned_abs (a -ℤ bound)
falls_less a b bound less within = omega (arith, ints, less, within)

-- a strip goes on up by what covers the cell above it
pub raised_along : (rects : List Rect) (hull : Rect) (x : ℤ) (old new : Strip) (cell : Point) (r : Rect) → IsStripThrough rects hull x old → cell.x ≡ x → cell.y ≡ old.top → old.top <ℤ hull.y2 → IsFound rects cell r → IsRaisedBy hull old r new
    → IsStripThrough rects hull x new
raised_along rects hull x old new cell r a at_x at_y more f e = record {
  left = omega (arith, ints, clamps, a.left, e.left);
  before = omega (arith, ints, clamps, a.before, e.left, f.holds.left);
  after = omega (arith, ints, clamps, a.after, e.right, f.holds.right);
  right = omega (arith, ints, clamps, a.right, e.right);
  low = omega (arith, ints, a.low, e.bottom);
  order = omega (arith, ints, clamps, a.order, e.bottom, e.top, f.holds.high);
  high = omega (arith, ints, clamps, e.top);
  clear = λ i j l u b t.
      by_lt_z j old.top
      (λ lt. a.clear i j (omega (arith, ints, clamps, e.left, l)) (omega (arith, ints, clamps, e.right, u)) (omega (arith, ints, e.bottom, b)) lt)
      (λ ge. f.covered i j
      (record { left = omega (arith, ints, clamps, e.left, l); right = omega (arith, ints, clamps, e.right, u); low = omega (arith, ints, f.holds.low, ge); high = omega (arith, ints, clamps, e.top, t) }));
}

-- and down by what covers the cell below it
pub lowered_along : (rects : List Rect) (hull : Rect) (x : ℤ) (old new : Strip) (cell : Point) (r : Rect) → IsStripThrough rects hull x old → cell.x ≡ x → cell.y ≡ old.bottom -ℤ pos 1 → hull.y1 <ℤ old.bottom → IsFound rects cell r → IsLoweredBy hull old r new
    → IsStripThrough rects hull x new
lowered_along rects hull x old new cell r a at_x at_y more f e = record {
  left = omega (arith, ints, clamps, a.left, e.left);
  before = omega (arith, ints, clamps, a.before, e.left, f.holds.left);
  after = omega (arith, ints, clamps, a.after, e.right, f.holds.right);
  right = omega (arith, ints, clamps, a.right, e.right);
  low = omega (arith, ints, clamps, e.bottom);
  order = omega (arith, ints, clamps, a.order, e.bottom, e.top, f.holds.low);
  high = omega (arith, ints, a.high, e.top);
  clear = λ i j l u b t.
      by_lt_z j old.bottom
      (λ lt. f.covered i j
      (record { left = omega (arith, ints, clamps, e.left, l); right = omega (arith, ints, clamps, e.right, u); low = omega (arith, ints, clamps, e.bottom, b); high = omega (arith, ints, f.holds.high, lt) }))
      (λ ge. a.clear i j (omega (arith, ints, clamps, e.left, l)) (omega (arith, ints, clamps, e.right, u)) ge (omega (arith, ints, e.top, t)));
}

pub lower : (hull : Rect) (old new : Strip) (cell : Point) (r : Rect) → cell.y ≡ old.bottom -ℤ pos 1 → hull.y1 <ℤ old.bottom → HasCell r cell.x cell.y → IsLoweredBy hull old r new → new.bottom <ℤ old.bottom
lower hull old new cell r at_y more h e = omega (arith, ints, clamps, e.bottom, h.low)

-- what goes up and down from the high corner has all rows that a covered box has there
pub strip_found : (rects : List Rect) (f : Frame) (hull : Rect) (x : ℤ) (cell : Point) (up s : Strip) → HaveCell f → IsFrameHull f hull → cell.x ≡ x → cell.y ≡ f.high.y → IsUpwardStrip rects hull cell up → IsDownward rects hull x up s → IsStripAt rects f x s
strip_found rects f hull x cell up s have is on at u d = record {
  left = omega (arith, ints, is.left, d.along.left);
  before = d.along.before;
  after = d.along.after;
  right = omega (arith, ints, is.right, d.along.right);
  low = omega (arith, ints, is.low, d.along.low);
  high = omega (arith, ints, at, u.from, d.lower);
  clear = d.along.clear;
  most = λ y low high covers. (
    by_lt_z y s.bottom
        (λ lt. absurd (d.ends (omega (arith, ints, is.low, low, lt))
        (covers x (s.bottom -ℤ pos 1) (omega (arith, ints)) (omega (arith, ints)) (omega (arith, ints, lt)) (omega (arith, ints, at, u.from, d.lower, have.tall, low)))))
        (λ ge. ge),
    by_lt_z s.top (y +ℤ f.height)
        (λ lt. absurd (u.ends (omega (arith, ints, is.high, high, lt, d.top))
        (cell_moved rects x up.top cell.x up.top (sym on) refl
        (covers x up.top (omega (arith, ints)) (omega (arith, ints)) (omega (arith, ints, high, at, u.from, u.along.order)) (omega (arith, ints, d.top, lt))))))
        (λ ge. ge),
  );
}

pub along_at : (rects : List Rect) (hull : Rect) (x z : ℤ) (s : Strip) → x ≡ z → IsStripThrough rects hull x s → IsStripThrough rects hull z s
along_at rects hull x z s e a = subst (λ (at : ℤ). IsStripThrough rects hull at s) e a

pub down_at : (rects : List Rect) (hull : Rect) (x z : ℤ) (old new : Strip) → x ≡ z → IsDownward rects hull x old new → IsDownward rects hull z old new
down_at rects hull x z old new e d = subst (λ (at : ℤ). IsDownward rects hull at old new) e d

-- no columns
pub window_begins : (rects : List Rect) (f : Frame) (from to bottom top : ℤ) → HaveCell f → from ≡ to → bottom ≡ f.low.y → top ≡ f.high.y +ℤ f.height → IsWindow rects f from to bottom top
window_begins rects f from to bottom top have same low high = record {
  low = omega (arith, ints, low);
  high = omega (arith, ints, low, have.upward);
  clear = λ i j l r b t. absurd (omega (arith, ints, same, l, r));
  most = λ y above below covers. (omega (arith, ints, low, above), omega (arith, ints, high, below));
}

-- a window and a strip give a wider one
pub window_wider : (rects : List Rect) (f : Frame) (from to x left right : ℤ) (a s both : Strip) → IsWindow rects f from to a.bottom a.top → IsStripAt rects f x s → HasCommonRows a s both → left ≤ℤ from → to ≤ℤ right → left ≤ℤ x → x <ℤ right
    → ((i : ℤ) → left ≤ℤ i → i <ℤ right → ((from ≤ℤ i) × (i <ℤ to)) ⊎ ((s.left ≤ℤ i) × (i <ℤ s.right))) → IsWindow rects f left right both.bottom both.top
window_wider rects f from to x left right a s both w st e lf tr lx xr each = record {
  low = omega (arith, ints, clamps, e.bottom, w.low);
  high = omega (arith, ints, clamps, e.bottom, w.high, st.high);
  clear = λ i j l r b t. elim (each i l r) [
    | inl at ↦ w.clear i j at.0 at.1 (omega (arith, ints, clamps, e.bottom, b)) (omega (arith, ints, clamps, e.top, t))
    | inr at ↦ st.clear i j at.0 at.1 (omega (arith, ints, clamps, e.bottom, b)) (omega (arith, ints, clamps, e.top, t))
  ];
  most = λ y low high covers.
      let p = w.most y low high (λ i j l r b t. covers i j (omega (arith, ints, lf, l)) (omega (arith, ints, tr, r)) b t) in
      let q = st.most y low high (λ i j l r b t. covers i j (omega (arith, ints, lx, l)) (omega (arith, ints, xr, r)) b t) in
      (omega (arith, ints, clamps, e.bottom, p.0, q.0), omega (arith, ints, clamps, e.top, p.1, q.1));
}

-- where the rows that both have are too few for a box, none is covered over both
pub no_room : (rects : List Rect) (f : Frame) (from to x left right y : ℤ) (a s both : Strip) → IsWindow rects f from to a.bottom a.top → IsStripAt rects f x s → HasCommonRows a s both → both.top <ℤ (both.bottom +ℤ f.height)
    → left ≤ℤ from → to ≤ℤ right → left ≤ℤ x → x <ℤ right → f.low.y ≤ℤ y → y ≤ℤ f.high.y → CoversColumns rects f left right y → ⊥
no_room rects f from to x left right y a s both w st e few lf tr lx xr low high covers =
    let p = w.most y low high (λ i j l r b t. covers i j (omega (arith, ints, lf, l)) (omega (arith, ints, tr, r)) b t) in
    let q = st.most y low high (λ i j l r b t. covers i j (omega (arith, ints, lx, l)) (omega (arith, ints, xr, r)) b t) in
    omega (arith, ints, clamps, e.bottom, e.top, few, p.0, p.1, q.0, q.1)
