-- Boxes of unit cells: each is connected by sides, and boxes are joined where they have a cell in common or cells that share a
-- side.
use Rattle.std.proofs.Common.{◌≡◌, ◌≢◌, ◌⊎◌, inl, inr, ℕ, zero, suc, ◌+◌, ℤ, pos, ◌+ℤ◌, ◌-ℤ◌, ◌≤ℤ◌, ◌<ℤ◌, refl, sym, ap, subst, arith}
use Rattle.std.proofs.lemmas.Int.{by_lt_z, ints}
use borrow.Author.Differences.{up, down}
use Rattle.or_geom.specs.declared.shape.Point.{Point}
use Rattle.or_geom.specs.declared.shape.Rect.{Rect}
use Rattle.or_geom.specs.Covered.{HasCell}
use Rattle.or_geom.specs.Joined.{IsIn, AreJoined}
use Rattle.or_geom.proofs.PlaceLaws.{same_point}
use Rattle.tech_rules.specs.Linked.{AreLinked}
use Rattle.tech_rules.proofs.LinkedLaws.{linked_itself, linked_on, linked_next, linked_back}
use Rattle.drawn_devices.specs.Cells.{IsNextAcross, IsNextUpward, ShareSide}

-- the box has the cell
abbrev pub Has : Rect → Point → Type 0
Has r p = HasCell r p.x p.y

pub side_back : (a b : Point) → ShareSide a b → ShareSide b a
side_back a b (inl (inl s)) = inl (inr s)
side_back a b (inl (inr s)) = inl (inl s)
side_back a b (inr (inl s)) = inr (inr s)
side_back a b (inr (inr s)) = inr (inl s)

module _ (P : Point → Type 0) (r : Rect) (all : (p : Point) → Has r p → P p) where
  same_linked : (a b : Point) → b.x ≡ a.x → b.y ≡ a.y → AreLinked P ShareSide a b
  same_linked a b across upward = subst (AreLinked P ShareSide a) (same_point a b (sym across) (sym upward)) (linked_itself P ShareSide a)

  -- along a row, at most so many cells further
  right_linked : (n : ℕ) (a b : Point) → b.y ≡ a.y → a.x ≤ℤ b.x → b.x ≤ℤ (a.x +ℤ pos n) → Has r a → Has r b → AreLinked P ShareSide a b
  right_linked zero a b level from to in_a in_b = same_linked a b (omega (arith, ints, from, to)) level
  right_linked (suc n) a b level from to in_a in_b =
      by_lt_z a.x b.x
      (λ less.
      let next : Point = record { x = a.x +ℤ pos 1; y = a.y } in
      let inside : Has r next = record { left = omega (arith, ints, in_a.left); right = omega (arith, ints, less, in_b.right); low = in_a.low; high = in_a.high } in
      let step : ShareSide a next = inl (inl (record { x = refl; y = refl })) in
      linked_on P ShareSide a next b (linked_next P ShareSide a next (all next inside) step)
      (right_linked n next b level (omega (arith, ints, less)) (omega (arith, ints, to)) inside in_b))
      (λ most. same_linked a b (omega (arith, ints, from, most)) level)

  up_linked : (n : ℕ) (a b : Point) → b.x ≡ a.x → a.y ≤ℤ b.y → b.y ≤ℤ (a.y +ℤ pos n) → Has r a → Has r b → AreLinked P ShareSide a b
  up_linked zero a b level from to in_a in_b = same_linked a b level (omega (arith, ints, from, to))
  up_linked (suc n) a b level from to in_a in_b =
      by_lt_z a.y b.y
      (λ less.
      let next : Point = record { x = a.x; y = a.y +ℤ pos 1 } in
      let inside : Has r next = record { left = in_a.left; right = in_a.right; low = omega (arith, ints, in_a.low); high = omega (arith, ints, less, in_b.high) } in
      let step : ShareSide a next = inr (inl (record { x = refl; y = refl })) in
      linked_on P ShareSide a next b (linked_next P ShareSide a next (all next inside) step)
      (up_linked n next b level (omega (arith, ints, less)) (omega (arith, ints, to)) inside in_b))
      (λ most. same_linked a b level (omega (arith, ints, from, most)))

  row_linked : (a b : Point) → b.y ≡ a.y → Has r a → Has r b → AreLinked P ShareSide a b
  row_linked a b level in_a in_b =
      by_lt_z a.x b.x
      (λ less. right_linked (up b.x + down a.x) a b level (omega (arith, ints, less)) (omega (arith, ints)) in_a in_b)
      (λ most. linked_back P ShareSide side_back b a (all b in_b) (right_linked (up a.x + down b.x) b a (sym level) most (omega (arith, ints)) in_b in_a))

  column_linked : (a b : Point) → b.x ≡ a.x → Has r a → Has r b → AreLinked P ShareSide a b
  column_linked a b level in_a in_b =
      by_lt_z a.y b.y
      (λ less. up_linked (up b.y + down a.y) a b level (omega (arith, ints, less)) (omega (arith, ints)) in_a in_b)
      (λ most. linked_back P ShareSide side_back b a (all b in_b) (up_linked (up a.y + down b.y) b a (sym level) most (omega (arith, ints)) in_b in_a))

  -- a box whose cells have P is connected
  pub box_linked : (a b : Point) → Has r a → Has r b → AreLinked P ShareSide a b
  box_linked a b in_a in_b =
      let corner : Point = record { x = b.x; y = a.y } in
      let inside : Has r corner = record { left = in_b.left; right = in_b.right; low = in_a.low; high = in_a.high } in
      linked_on P ShareSide a corner b (row_linked a corner refl in_a inside) (column_linked corner b refl inside in_b)

-- the cells are one, or share a side
abbrev pub Meets : Point → Point → Type 0
Meets a b = (a ≡ b) ⊎ ShareSide a b

-- a cell of each of the boxes, which meet
pub record HaveMeeting (r s : Rect) : Type 0 where
  pub a : Point
  pub b : Point
  pub in_r : Has r a
  pub in_s : Has s b
  pub meet : Meets a b

meeting_back : (r s : Rect) → HaveMeeting s r → HaveMeeting r s
meeting_back r s m = record { a = m.b; b = m.a; in_r = m.in_s; in_s = m.in_r; meet = elim m.meet [ inl same ↦ inl (sym same) | inr side ↦ inr (side_back m.a m.b side) ] }

-- a coordinate from which both spans go on
record IsCommonLow (first second low : ℤ) : Type 0 where
  from_first : first ≤ℤ low
  from_second : second ≤ℤ low
  one : (low ≡ first) ⊎ (low ≡ second)

common_low : (first second : ℤ) → (low : ℤ) × IsCommonLow first second low
common_low first second =
    by_lt_z first second
    (λ less. (second, record { from_first = omega (arith, ints, less); from_second = omega (arith, ints); one = inr refl }))
    (λ most. (first, record { from_first = omega (arith, ints); from_second = most; one = inl refl }))

-- where two spans have more than a point in common, the cell at their common low end lies in both
low_below : (first second low a b : ℤ) → IsCommonLow first second low → first <ℤ a → second <ℤ a → low <ℤ a
low_below first second low a b c one two = elim c.one [ inl e ↦ subst (λ (z : ℤ). z <ℤ a) (sym e) one | inr e ↦ subst (λ (z : ℤ). z <ℤ a) (sym e) two ]

-- different points on one vertical line have different heights
apart_upward : (p q : Point) → p ≢ q → p.x ≡ q.x → p.y ≢ q.y
apart_upward p q differ level same = differ (same_point p q level same)

-- the first box ends where the second begins
beside : (r s : Rect) → AreJoined r s → r.x2 ≤ℤ s.x1 → HaveMeeting r s
beside r s j ends =
    let level : j.p.x ≡ j.q.x = omega (arith, ints, ends, j.p_in_a.right, j.p_in_b.left, j.q_in_a.right, j.q_in_b.left) in
    let apart = apart_upward j.p j.q j.differ level in
    let low = common_low r.y1 s.y1 in
    let first : r.y1 <ℤ s.y2 = by_lt_z r.y1 s.y2 (λ h. h) (λ h. absurd (apart (omega (arith, ints, h, j.p_in_a.low, j.p_in_b.high, j.q_in_a.low, j.q_in_b.high)))) in
    let second : s.y1 <ℤ r.y2 = by_lt_z s.y1 r.y2 (λ h. h) (λ h. absurd (apart (omega (arith, ints, h, j.p_in_b.low, j.p_in_a.high, j.q_in_b.low, j.q_in_a.high)))) in
    record {
      a = record { x = r.x2 -ℤ pos 1; y = low.0 };
      b = record { x = s.x1; y = low.0 };
      in_r = record { left = omega (arith, ints, r.wide); right = omega (arith, ints); low = low.1.from_first; high = low_below r.y1 s.y1 low.0 r.y2 s.y2 low.1 r.tall second };
      in_s = record { left = omega (arith, ints); right = s.wide; low = low.1.from_second; high = low_below r.y1 s.y1 low.0 s.y2 s.y2 low.1 first s.tall };
      meet = inr (inl (inl (record { x = omega (arith, ints, ends, j.p_in_a.right, j.p_in_b.left); y = refl })));
    }

-- the first box ends below the second, and they have a stretch in common
below : (r s : Rect) → AreJoined r s → r.y2 ≤ℤ s.y1 → r.x1 <ℤ s.x2 → s.x1 <ℤ r.x2 → HaveMeeting r s
below r s j ends first second =
    let low = common_low r.x1 s.x1 in
    record {
      a = record { x = low.0; y = r.y2 -ℤ pos 1 };
      b = record { x = low.0; y = s.y1 };
      in_r = record { left = low.1.from_first; right = low_below r.x1 s.x1 low.0 r.x2 s.x2 low.1 r.wide second; low = omega (arith, ints, r.tall); high = omega (arith, ints) };
      in_s = record { left = low.1.from_second; right = low_below r.x1 s.x1 low.0 s.x2 s.x2 low.1 first s.wide; low = omega (arith, ints); high = s.tall };
      meet = inr (inr (inl (record { x = refl; y = omega (arith, ints, ends, j.p_in_a.high, j.p_in_b.low) })));
    }

joined_back : (r s : Rect) → AreJoined r s → AreJoined s r
joined_back r s j = record { p = j.p; q = j.q; differ = j.differ; p_in_a = j.p_in_b; p_in_b = j.p_in_a; q_in_a = j.q_in_b; q_in_b = j.q_in_a }

-- they share area
common : (r s : Rect) → r.x1 <ℤ s.x2 → s.x1 <ℤ r.x2 → r.y1 <ℤ s.y2 → s.y1 <ℤ r.y2 → HaveMeeting r s
common r s left right under over =
    let x = common_low r.x1 s.x1 in
    let y = common_low r.y1 s.y1 in
    let cell : Point = record { x = x.0; y = y.0 } in
    record {
      a = cell;
      b = cell;
      in_r = record { left = x.1.from_first; right = low_below r.x1 s.x1 x.0 r.x2 s.x2 x.1 r.wide right; low = y.1.from_first; high = low_below r.y1 s.y1 y.0 r.y2 s.y2 y.1 r.tall over };
      in_s = record { left = x.1.from_second; right = low_below r.x1 s.x1 x.0 s.x2 s.x2 x.1 left s.wide; low = y.1.from_second; high = low_below r.y1 s.y1 y.0 s.y2 s.y2 y.1 under s.tall };
      meet = inl refl;
    }

-- boxes that are joined have cells that are one or share a side
pub joined_meeting : (r s : Rect) → AreJoined r s → HaveMeeting r s
joined_meeting r s j =
    by_lt_z r.x1 s.x2
    (λ left.
    by_lt_z s.x1 r.x2
    (λ right.
    by_lt_z r.y1 s.y2
    (λ under. by_lt_z s.y1 r.y2 (λ over. common r s left right under over) (λ ends. below r s j ends left right))
    (λ ends. meeting_back r s (below s r (joined_back r s j) ends right left)))
    (λ ends. beside r s j ends))
    (λ ends. meeting_back r s (beside s r (joined_back r s j) ends))

up_differ : (x : ℤ) → x ≢ (x +ℤ pos 1)
up_differ x e = omega (arith, ints, e)

-- the point is a corner of the cell
record IsCorner (cell p : Point) : Type 0 where
  left : cell.x ≤ℤ p.x
  right : p.x ≤ℤ (cell.x +ℤ pos 1)
  low : cell.y ≤ℤ p.y
  high : p.y ≤ℤ (cell.y +ℤ pos 1)

corner_in : (r : Rect) (cell p : Point) → Has r cell → IsCorner cell p → IsIn r p
corner_in r cell p has corner = record {
  left = omega (arith, ints, has.left, corner.left);
  right = omega (arith, ints, has.right, corner.right);
  low = omega (arith, ints, has.low, corner.low);
  high = omega (arith, ints, has.high, corner.high);
}

join_at : (r s : Rect) (a b p q : Point) → Has r a → Has s b → p ≢ q → IsCorner a p → IsCorner b p → IsCorner a q → IsCorner b q → AreJoined r s
join_at r s a b p q in_r in_s differ pa pb qa qb = record { p = p; q = q; differ = differ; p_in_a = corner_in r a p in_r pa; p_in_b = corner_in s b p in_s pb; q_in_a = corner_in r a q in_r qa; q_in_b = corner_in s b q in_s qb }

low_corner : (c : Point) → IsCorner c c
low_corner c = record { left = omega (arith, ints); right = omega (arith, ints); low = omega (arith, ints); high = omega (arith, ints) }

high_corner : (c : Point) → IsCorner c (record { x = c.x +ℤ pos 1; y = c.y +ℤ pos 1 })
high_corner c = record { left = omega (arith, ints); right = omega (arith, ints); low = omega (arith, ints); high = omega (arith, ints) }

across_join : (r s : Rect) (a b : Point) → Has r a → Has s b → IsNextAcross a b → AreJoined r s
across_join r s a b in_r in_s next =
    let p : Point = record { x = b.x; y = b.y } in
    let q : Point = record { x = b.x; y = b.y +ℤ pos 1 } in
    let x = next.x in
    let y = next.y in
    join_at r s a b p q in_r in_s (λ e. up_differ b.y (ap (λ (z : Point). z.y) e))
    (record { left = omega (arith, ints, x); right = omega (arith, ints, x); low = omega (arith, ints, y); high = omega (arith, ints, y) })
    (record { left = omega (arith, ints); right = omega (arith, ints); low = omega (arith, ints); high = omega (arith, ints) })
    (record { left = omega (arith, ints, x); right = omega (arith, ints, x); low = omega (arith, ints, y); high = omega (arith, ints, y) })
    (record { left = omega (arith, ints); right = omega (arith, ints); low = omega (arith, ints); high = omega (arith, ints) })

upward_join : (r s : Rect) (a b : Point) → Has r a → Has s b → IsNextUpward a b → AreJoined r s
upward_join r s a b in_r in_s next =
    let p : Point = record { x = b.x; y = b.y } in
    let q : Point = record { x = b.x +ℤ pos 1; y = b.y } in
    let x = next.x in
    let y = next.y in
    join_at r s a b p q in_r in_s (λ e. up_differ b.x (ap (λ (z : Point). z.x) e))
    (record { left = omega (arith, ints, x); right = omega (arith, ints, x); low = omega (arith, ints, y); high = omega (arith, ints, y) })
    (record { left = omega (arith, ints); right = omega (arith, ints); low = omega (arith, ints); high = omega (arith, ints) })
    (record { left = omega (arith, ints, x); right = omega (arith, ints, x); low = omega (arith, ints, y); high = omega (arith, ints, y) })
    (record { left = omega (arith, ints); right = omega (arith, ints); low = omega (arith, ints); high = omega (arith, ints) })

-- boxes with cells that are one or share a side are joined
pub meeting_joined : (r s : Rect) (a b : Point) → Has r a → Has s b → Meets a b → AreJoined r s
meeting_joined r s a b in_r in_s (inl same) =
    let high : Point = record { x = a.x +ℤ pos 1; y = a.y +ℤ pos 1 } in
    let here : Has s a = subst (Has s) (sym same) in_s in
    join_at r s a a a high in_r here (λ e. up_differ a.x (ap (λ (z : Point). z.x) e)) (low_corner a) (low_corner a) (high_corner a) (high_corner a)
meeting_joined r s a b in_r in_s (inr (inl (inl next))) = across_join r s a b in_r in_s next
meeting_joined r s a b in_r in_s (inr (inl (inr next))) = joined_back s r (across_join s r b a in_s in_r next)
meeting_joined r s a b in_r in_s (inr (inr (inl next))) = upward_join r s a b in_r in_s next
meeting_joined r s a b in_r in_s (inr (inr (inr next))) = joined_back s r (upward_join s r b a in_s in_r next)
