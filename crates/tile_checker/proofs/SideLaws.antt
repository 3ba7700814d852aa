-- Strips to the right of a frame's high corner, and the boxes over them.
use Rattle.std.proofs.Common.{◌≡◌, inl, inr, ℤ, pos, ◌≤ℤ◌, ◌<ℤ◌, ◌+ℤ◌, ◌-ℤ◌, List, [], ◌∷◌, ◌++◌, subst, sym, refl, ◌∙◌, arith}
use Rattle.std.specs.Int.{int_min}
use Rattle.std.proofs.lemmas.Int.{ints, clamps, by_lt_z}
use Rattle.or_geom.specs.declared.shape.Point.{Point}
use Rattle.or_geom.specs.declared.shape.Rect.{Rect}
use Rattle.tile_checker.specs.declared.frame.Frame.{Frame}
use Rattle.tile_checker.specs.declared.strip.Strip.{Strip}
use Rattle.tile_checker.specs.Frame.{HasBoxAt, point}
use Rattle.tile_checker.specs.Strips.{HaveCell, HasCommonRows, CoversColumns, IsStripAt, IsWindow, IsLink, AreStripsUpTo, AreRights, EndsBefore, NoBoxAt}
use Rattle.tile_checker.proofs.FrameLaws.{box_moved}
use Rattle.tile_checker.proofs.StripLaws.{window_wider, no_room}

pub chain_begins : (rects : List Rect) (f : Frame) (from to : ℤ) (strips : List Strip) → strips ≡ [] → from ≡ to → AreStripsUpTo rects f from strips to
chain_begins rects f from to strips e same = subst (λ (ss : List Strip). AreStripsUpTo rects f from ss to) (sym e) same

pub chain_push : (rects : List Rect) (f : Frame) (from to : ℤ) (ss : List Strip) (s : Strip) → AreStripsUpTo rects f from ss to → IsLink rects f to s → AreStripsUpTo rects f from (ss ++ (s ∷ [])) s.right
chain_push rects f from to [] s e link = (subst (λ (x : ℤ). IsLink rects f x s) (sym e) link, refl)
chain_push rects f from to (t ∷ ts) s c link = (c.0, chain_push rects f t.right to ts s c.1 link)

-- what the last of some strips says
record IsLast (rects : List Rect) (f : Frame) (from to : ℤ) (rest : List Strip) (last : Strip) : Type 0 where
  pub chain : AreStripsUpTo rects f from rest last.left
  pub each : (x : ℤ) → last.left <ℤ x → x ≤ℤ last.right → IsWindow rects f f.high.x x last.bottom last.top
  pub end : last.right ≡ to

last_of : (rects : List Rect) (f : Frame) (from to : ℤ) (rest : List Strip) (last : Strip) → AreStripsUpTo rects f from (rest ++ (last ∷ [])) to → IsLast rects f from to rest last
last_of rects f from to [] last c = record { chain = sym c.0.left; each = c.0.each; end = c.1 }
last_of rects f from to (t ∷ ts) last c = let l = last_of rects f t.right to ts last c.1 in record { chain = (c.0, l.chain); each = l.each; end = l.end }

-- what ends the right strips
pub rights_full : (rects : List Rect) (f : Frame) (strips : List Strip) (reach limit : ℤ) → AreStripsUpTo rects f f.high.x strips reach → limit ≤ℤ reach → AreRights rects f strips limit
rights_full rects f strips reach limit chain full = record { reach = reach; chain = chain; ends = λ to y further within low high covers. omega (arith, ints, full, further, within) }

pub rights_end : (rects : List Rect) (f : Frame) (strips : List Strip) (limit : ℤ) (window s both : Strip) → AreStripsUpTo rects f f.high.x strips window.right → f.high.x ≤ℤ window.right → IsWindow rects f f.high.x window.right window.bottom window.top
    → IsStripAt rects f window.right s → HasCommonRows window s both → both.top <ℤ (both.bottom +ℤ f.height) → AreRights rects f strips limit
rights_end rects f strips limit window s both chain after w st e few = record {
  reach = window.right;
  chain = chain;
  ends = λ to y further within low high covers.
      no_room rects f f.high.x window.right window.right f.high.x to y window s both w st e few (omega (arith, ints)) (omega (arith, ints, further)) after further low high covers;
}

-- one strip more
pub link_of : (rects : List Rect) (f : Frame) (window s both next : Strip) → f.high.x ≤ℤ window.right → IsWindow rects f f.high.x window.right window.bottom window.top → IsStripAt rects f window.right s → HasCommonRows window s both
    → next.left ≡ window.right → next.right ≡ both.right → next.bottom ≡ both.bottom → next.top ≡ both.top → IsLink rects f window.right next
link_of rects f window s both next after w st e left right bottom top = record {
  left = left;
  longer = omega (arith, ints, left, right, e.right, st.after);
  each = λ to more most.
      subst (λ (b : ℤ). IsWindow rects f f.high.x to b next.top) (sym bottom)
      (subst (λ (t : ℤ). IsWindow rects f f.high.x to both.bottom t) (sym top)
      (window_wider rects f f.high.x window.right window.right f.high.x to window s both w st e (omega (arith, ints)) (omega (arith, ints, left, more)) after (omega (arith, ints, left, more))
      (λ i l r. by_lt_z i window.right (λ lt. inl (l, lt)) (λ ge. inr (omega (arith, ints, st.before, ge), omega (arith, ints, r, most, right, e.right))))));
}

-- strips without a last one that begins no earlier than this column
pub rights_less : (rects : List Rect) (f : Frame) (strips rest : List Strip) (last : Strip) (to : ℤ) → AreRights rects f strips to → strips ≡ rest ++ (last ∷ []) → to ≤ℤ last.left → AreRights rects f rest to
rights_less rects f strips rest last to a e behind =
    let l = last_of rects f f.high.x a.reach rest last (subst (λ (ss : List Strip). AreStripsUpTo rects f f.high.x ss a.reach) e a.chain) in
    rights_full rects f rest last.left to l.chain behind

pub rights_sooner : (rects : List Rect) (f : Frame) (strips : List Strip) (to sooner : ℤ) → sooner ≤ℤ to → AreRights rects f strips to → AreRights rects f strips sooner
rights_sooner rects f strips to sooner le a = record { reach = a.reach; chain = a.chain; ends = λ x y further within low high covers. a.ends x y further (omega (arith, ints, within, le)) low high covers }

pub rights_moved : (rects : List Rect) (f : Frame) (strips kept : List Strip) (to sooner : ℤ) → kept ≡ strips → sooner ≤ℤ to → AreRights rects f strips to → AreRights rects f kept sooner
rights_moved rects f strips kept to sooner e le a = rights_sooner rects f kept to sooner le (subst (λ (ss : List Strip). AreRights rects f ss to) (sym e) a)

pub strip_moved : (rects : List Rect) (f : Frame) (x z : ℤ) (s : Strip) → x ≡ z → IsStripAt rects f x s → IsStripAt rects f z s
strip_moved rects f x z s e st = subst (λ (at : ℤ). IsStripAt rects f at s) e st

none_last : (rest : List Strip) (last : Strip) → [] ≡ rest ++ (last ∷ []) → ⊥
none_last [] last e = cc
none_last (r ∷ rs) last e = cc

tail_same : (xs ys : List Strip) (x y : Strip) → x ∷ xs ≡ y ∷ ys → xs ≡ ys
tail_same xs ys x y e = cc

-- a list has one last item
last_once : (xs ys : List Strip) (x y : Strip) → xs ++ (x ∷ []) ≡ ys ++ (y ∷ []) → x ≡ y
last_once [] [] x y e = cc
last_once [] (b ∷ bs) x y e = absurd (none_last bs y (tail_same [] (bs ++ (y ∷ [])) x b e))
last_once (a ∷ xs) [] x y e = absurd (none_last xs x (sym (tail_same (xs ++ (x ∷ [])) [] a y e)))
last_once (a ∷ xs) (b ∷ bs) x y e = last_once xs bs x y (tail_same (xs ++ (x ∷ [])) (bs ++ (y ∷ [])) a b e)

pub before_last : (strips rest : List Strip) (last : Strip) (to : ℤ) → strips ≡ rest ++ (last ∷ []) → last.left <ℤ to → EndsBefore strips to
before_last strips rest last to e lt more other is = subst (λ (s : Strip). s.left <ℤ to) (last_once rest more last other (sym e ∙ is)) lt

pub ends_empty : (strips : List Strip) (to : ℤ) → strips ≡ [] → EndsBefore strips to
ends_empty strips to e rest last is = absurd (none_last rest last (sym e ∙ is))

-- a covered box covers its columns
columns_of : (rects : List Rect) (f : Frame) (x y left right : ℤ) → HasBoxAt rects f (point x y) → x ≤ℤ left → right ≤ℤ (x +ℤ f.width) → CoversColumns rects f left right y
columns_of rects f x y left right b l r i j from to low high = b.covered i j (omega (arith, ints, l, from)) (omega (arith, ints, r, to)) low high

-- why no box stands at the window's left side
pub none_reach : (rects : List Rect) (f : Frame) (strips : List Strip) (left : ℤ) → HaveCell f → f.low.x ≤ℤ left → left ≤ℤ f.high.x → AreRights rects f strips (left +ℤ f.width) → strips ≡ [] → NoBoxAt rects f left
none_reach rects f strips left have from to a e y b =
    let reach : f.high.x ≡ a.reach = subst (λ (ss : List Strip). AreStripsUpTo rects f f.high.x ss a.reach) e a.chain in
    a.ends (left +ℤ f.width) y (omega (arith, ints, reach, have.wide, from)) (omega (arith, ints)) b.low b.high (columns_of rects f left y f.high.x (left +ℤ f.width) b to (omega (arith, ints)))

pub none_further : (rects : List Rect) (f : Frame) (strips rest : List Strip) (last : Strip) (left : ℤ) → left ≤ℤ f.high.x → AreRights rects f strips (left +ℤ f.width) → strips ≡ rest ++ (last ∷ []) → last.right <ℤ (left +ℤ f.width) → NoBoxAt rects f left
none_further rects f strips rest last left to a e short y b =
    let l = last_of rects f f.high.x a.reach rest last (subst (λ (ss : List Strip). AreStripsUpTo rects f f.high.x ss a.reach) e a.chain) in
    a.ends (left +ℤ f.width) y (omega (arith, ints, l.end, short)) (omega (arith, ints)) b.low b.high (columns_of rects f left y f.high.x (left +ℤ f.width) b to (omega (arith, ints)))

pub right_window : (rects : List Rect) (f : Frame) (strips rest : List Strip) (last : Strip) (to : ℤ) → AreRights rects f strips to → strips ≡ rest ++ (last ∷ []) → EndsBefore strips to → to ≤ℤ last.right → IsWindow rects f f.high.x to last.bottom last.top
right_window rects f strips rest last to a e before within =
    let l = last_of rects f f.high.x a.reach rest last (subst (λ (ss : List Strip). AreStripsUpTo rects f f.high.x ss a.reach) e a.chain) in
    l.each to (before rest last e) within

pub none_between : (rects : List Rect) (f : Frame) (strips rest : List Strip) (last window both : Strip) → HaveCell f → f.low.x ≤ℤ window.left → window.left ≤ℤ f.high.x → IsWindow rects f window.left f.high.x window.bottom window.top
    → AreRights rects f strips (window.left +ℤ f.width) → strips ≡ rest ++ (last ∷ []) → EndsBefore strips (window.left +ℤ f.width) → (window.left +ℤ f.width) ≤ℤ last.right → HasCommonRows window last both
    → both.top <ℤ (both.bottom +ℤ f.height) → NoBoxAt rects f window.left
none_between rects f strips rest last window both have from to w a e before within is few y b =
    let r = right_window rects f strips rest last (window.left +ℤ f.width) a e before within in
    let p = w.most y b.low b.high (columns_of rects f window.left y window.left f.high.x b (omega (arith, ints)) (omega (arith, ints, have.wide, from))) in
    let q = r.most y b.low b.high (columns_of rects f window.left y f.high.x (window.left +ℤ f.width) b to (omega (arith, ints))) in
    omega (arith, ints, clamps, is.bottom, is.top, few, p.0, p.1, q.0, q.1)

pub both_low : (rects : List Rect) (f : Frame) (strips rest : List Strip) (last window both : Strip) → IsWindow rects f window.left f.high.x window.bottom window.top → AreRights rects f strips (window.left +ℤ f.width) → strips ≡ rest ++ (last ∷ [])
    → EndsBefore strips (window.left +ℤ f.width) → (window.left +ℤ f.width) ≤ℤ last.right → HasCommonRows window last both → both.bottom ≤ℤ f.high.y
both_low rects f strips rest last window both w a e before within is =
    let r = right_window rects f strips rest last (window.left +ℤ f.width) a e before within in
    omega (arith, ints, clamps, is.bottom, w.high, r.high)

pub within_low : (rects : List Rect) (f : Frame) (from to x : ℤ) (a s both : Strip) → IsWindow rects f from to a.bottom a.top → IsStripAt rects f x s → HasCommonRows a s both → both.bottom ≤ℤ f.high.y
within_low rects f from to x a s both w st e = omega (arith, ints, clamps, e.bottom, w.high, st.high)

-- and the box that does
pub box_stands : (rects : List Rect) (f : Frame) (strips rest : List Strip) (last window both : Strip) (corner : Point) → f.low.x ≤ℤ window.left → window.left ≤ℤ f.high.x → IsWindow rects f window.left f.high.x window.bottom window.top
    → AreRights rects f strips (window.left +ℤ f.width) → strips ≡ rest ++ (last ∷ []) → EndsBefore strips (window.left +ℤ f.width) → (window.left +ℤ f.width) ≤ℤ last.right → HasCommonRows window last both
    → (both.bottom +ℤ f.height) ≤ℤ both.top → corner.x ≡ window.left → corner.y ≡ int_min f.high.y (both.top -ℤ f.height) → HasBoxAt rects f corner
box_stands rects f strips rest last window both corner from to w a e before within is room x y =
    let r = right_window rects f strips rest last (window.left +ℤ f.width) a e before within in
    record {
      left = omega (arith, ints, x, from);
      right = omega (arith, ints, x, to);
      low = omega (arith, ints, clamps, y, is.bottom, room, w.low, w.high);
      high = omega (arith, ints, clamps, y);
      covered = λ i j l u b t.
          let above : both.bottom ≤ℤ j = omega (arith, ints, clamps, y, is.bottom, room, b, w.high, r.high) in
          let below : j <ℤ both.top = omega (arith, ints, clamps, y, t) in
          by_lt_z i f.high.x
          (λ lt. w.clear i j (omega (arith, ints, x, l)) lt (omega (arith, ints, clamps, is.bottom, above)) (omega (arith, ints, clamps, is.top, below)))
          (λ ge. r.clear i j ge (omega (arith, ints, x, u)) (omega (arith, ints, clamps, is.bottom, above)) (omega (arith, ints, clamps, is.top, below)));
    }

here_box : (rects : List Rect) (f : Frame) (corner : Point) (x : ℤ) → HasBoxAt rects f corner → corner.x ≡ x → HasBoxAt rects f (point x corner.y)
here_box rects f corner x b e = box_moved rects f corner (point x corner.y) e refl b

-- a covered box of the frame that stands no further right than this
pub record HasBoxTo (rects : List Rect) (f : Frame) (x : ℤ) : Type 0 where
  pub corner : Point
  pub box : HasBoxAt rects f corner
  pub within : corner.x ≤ℤ x

-- where the window grew to the left, a box that stands left of where it began may slide to its new left side
pub slides : (rects : List Rect) (f : Frame) (window s both : Strip) → HaveCell f → window.left ≤ℤ f.high.x → IsStripAt rects f (window.left -ℤ pos 1) s → HasCommonRows window s both → NoBoxAt rects f window.left → HasBoxTo rects f window.left → HasBoxTo rects f both.left
slides rects f window s both have to st e none h =
    let b = h.box in
    let c = h.corner in
    by_lt_z both.left c.x
    (λ lt.
    by_lt_z c.x window.left
    (λ before.
    let m = st.most c.y b.low b.high (λ i j l r d t. b.covered i j (omega (arith, ints, before, l)) (omega (arith, ints, r, b.left, have.wide, to)) d t) in
    record {
      corner = point both.left c.y;
      box = record {
        left = omega (arith, ints, e.left, st.left);
        right = omega (arith, ints, lt, b.right);
        low = b.low;
        high = b.high;
        covered = λ i j l r d t.
            by_lt_z i c.x
            (λ outside. st.clear i j (omega (arith, ints, e.left, l)) (omega (arith, ints, outside, before, st.after)) (omega (arith, ints, d, m.0)) (omega (arith, ints, t, m.1)))
            (λ inside. b.covered i j inside (omega (arith, ints, r, lt)) d t);
      };
      within = omega (arith, ints);
    })
    (λ ge. absurd (none c.y (here_box rects f c window.left b (omega (arith, ints, ge, h.within))))))
    (λ ge. record { corner = c; box = b; within = ge })

-- so none is there if none stands further left
pub none_left : (rects : List Rect) (f : Frame) (x : ℤ) → x ≤ℤ f.low.x → NoBoxAt rects f x → HasBoxTo rects f x → ⊥
none_left rects f x le none h = none h.corner.y (here_box rects f h.corner x h.box (omega (arith, ints, le, h.within, h.box.left)))

pub none_there : (rects : List Rect) (f : Frame) (window s both : Strip) → HaveCell f → window.left ≤ℤ f.high.x → IsWindow rects f window.left f.high.x window.bottom window.top → IsStripAt rects f (window.left -ℤ pos 1) s → HasCommonRows window s both
    → both.top <ℤ (both.bottom +ℤ f.height) → NoBoxAt rects f window.left → HasBoxTo rects f window.left → ⊥
none_there rects f window s both have to w st e few none h =
    let b = h.box in
    let c = h.corner in
    by_lt_z c.x window.left
    (λ before.
    no_room rects f window.left f.high.x (window.left -ℤ pos 1) (window.left -ℤ pos 1) f.high.x c.y window s both w st e few (omega (arith, ints)) (omega (arith, ints)) (omega (arith, ints)) (omega (arith, ints, to)) b.low b.high
    (λ i j l r d t. b.covered i j (omega (arith, ints, before, l)) (omega (arith, ints, r, b.left, have.wide)) d t))
    (λ ge. none c.y (here_box rects f c window.left b (omega (arith, ints, ge, h.within))))

-- the window grew to the left
pub window_left : (rects : List Rect) (f : Frame) (window s both : Strip) → window.left ≤ℤ f.high.x → IsWindow rects f window.left f.high.x window.bottom window.top → IsStripAt rects f (window.left -ℤ pos 1) s → HasCommonRows window s both
    → IsWindow rects f both.left f.high.x both.bottom both.top
window_left rects f window s both to w st e =
    window_wider rects f window.left f.high.x (window.left -ℤ pos 1) both.left f.high.x window s both w st e (omega (arith, ints, e.left, st.before)) (omega (arith, ints)) (omega (arith, ints, e.left, st.before)) (omega (arith, ints, to))
    (λ i l r. by_lt_z i window.left (λ lt. inr (omega (arith, ints, e.left, l), omega (arith, ints, lt, st.after))) (λ ge. inl (ge, r)))
