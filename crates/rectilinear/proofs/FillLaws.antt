-- Slabs have exactly the cells inside.
use Rattle.std.proofs.Common.{◌≡◌, ◌⊎◌, inl, inr, List, [], ◌∷◌, ℤ, ◌≤ℤ◌, ◌<ℤ◌, Bool, true, false, ◌&&◌, refl, sym, ◌∙◌, arith}
use Rattle.std.specs.Prelude.{int_le, Contains}
use Rattle.std.proofs.lemmas.Int.{ints, by_lt_z}
use Rattle.or_geom.specs.declared.shape.Point.{Point}
use Rattle.rectilinear.specs.declared.ends.End.{End}
use Rattle.rectilinear.specs.declared.ring.RingSide.{RingSide}
use Rattle.or_geom.specs.declared.shape.Rect.{Rect}
use Rattle.or_geom.specs.Covered.{HasCellInSome}
use Rattle.or_geom.proofs.ListLaws.{contains_first, contains_later}
use Rattle.or_geom.proofs.CoverLaws.{cell_among}
use Rattle.rectilinear.specs.Heights.{IsNext}
use Rattle.rectilinear.specs.Ring.{sides_on, sides_of}
use Rattle.rectilinear.specs.Slabs.{xor, is_below, passes, is_odd_left, IsInside, HasHeight, AreNeighbours, IsSlab, IsSlabList}
use Rattle.rectilinear.specs.Laws.{SlabsFill}
use Rattle.rectilinear.specs.Rows.{is_odd_to, is_odd, Rise, AreEnds, ArePairs}
use Rattle.rectilinear.proofs.RingLaws.{ring_is_closed, row_is_uniform, xor_same}
use Rattle.rectilinear.proofs.RowLaws.{past_pair, before_pair, rises, true_not_false, at_or_left, not_left}
use Rattle.rectilinear.proofs.ToggleLaws.{toggle_some, twice_not}
use Rattle.rectilinear.proofs.BandLaws.{band_slabs}
use Rattle.rectilinear.proofs.LoopLaws.{AreEndsBut, ends_none, ends_pass, ends_take, ends_all}

by_bool : {P : Type 0} (b : Bool) → (b ≡ true → P) → (b ≡ false → P) → P
by_bool true f g = f refl
by_bool false f g = g refl

-- a row has its ends
ends_after : (sides rest : List RingSide) (y : ℤ) (ends : List End) → AreEndsBut sides rest y ends → (new : List End) × AreEnds sides y new
ends_after sides [] y ends but = (ends, ends_all sides y ends but)
ends_after sides (s ∷ rest) y ends but = by_bool (passes s y)
    (λ e. let t = toggle_some ends (record { x = s.a.x }) but.rise in ends_after sides rest y t.0 (ends_take sides (s ∷ rest) rest s (record { x = s.a.x }) y ends t.0 refl e refl t.1 but))
    (λ e. ends_after sides rest y ends (ends_pass sides (s ∷ rest) rest s y ends refl e but))

pairs_some : (es : List End) (low high : ℤ) → low <ℤ high → Rise es → is_odd es ≡ false → (rects : List Rect) × ArePairs es low high rects
pairs_some [] low high lt rise even = ([], tt)
pairs_some (a ∷ []) low high lt rise even = true_not_false true refl even
pairs_some (a ∷ b ∷ es) low high lt rise even =
    let more = pairs_some es low high lt (rises b.x es rise.1) (twice_not (is_odd es) ∙ even) in
    (record { x1 = a.x; y1 = low; x2 = b.x; y2 = high; wide = rise.0; tall = lt } ∷ more.0, ((refl, refl, refl, refl), more.1))

-- the box that the cell lies in
record HasColumn (rects : List Rect) (low high x : ℤ) : Type 0 where
  pub box : Rect
  pub one : Contains rects box
  pub left : box.x1 ≤ℤ x
  pub right : x <ℤ box.x2
  pub low_is : box.y1 ≡ low
  pub high_is : box.y2 ≡ high

pair_at : (es : List End) (low high : ℤ) (rects : List Rect) (x : ℤ) → Rise es → ArePairs es low high rects → is_odd_to es x ≡ true → HasColumn rects low high x
pair_at [] low high rects x rise pairs odd = true_not_false false odd refl
pair_at (a ∷ []) low high rects x rise pairs odd = absurd pairs
pair_at (a ∷ b ∷ es) low high [] x rise pairs odd = absurd pairs
pair_at (a ∷ b ∷ es) low high (r ∷ rs) x rise pairs odd =
    by_lt_z x b.x
    (λ under. by_lt_z x a.x
    (λ before. true_not_false _ odd (before_pair a b es x rise.0 rise.1 before))
    (λ ge. record { box = r; one = contains_first r rs; left = omega (arith, ints, pairs.0.0); right = omega (arith, ints, pairs.0.1); low_is = pairs.0.2; high_is = pairs.0.3 }))
    (λ past. let more = pair_at es low high rs x (rises b.x es rise.1) pairs.1 (sym (past_pair a b es x rise.0 past) ∙ odd) in
    record { box = more.box; one = contains_later r rs more.box more.one; left = more.left; right = more.right; low_is = more.low_is; high_is = more.high_is })

record IsGreatest (ps : List Point) (y l : ℤ) : Type 0 where
  pub has : HasHeight ps l
  pub le : l ≤ℤ y
  pub most : (h : ℤ) → HasHeight ps h → h ≤ℤ y → h ≤ℤ l

greatest : (ps : List Point) (y : ℤ) → ((h : ℤ) → HasHeight ps h → y <ℤ h) ⊎ ((l : ℤ) × IsGreatest ps y l)
greatest [] y = inl (λ h has. absurd has)
greatest (p ∷ ps) y = by_lt_z y p.y
    (λ above. elim (greatest ps y) [
      | inl none ↦ inl (λ h has. elim has [ inl e ↦ omega (arith, ints, e, above) | inr later ↦ none h later ])
      | inr some ↦ let g = some.1 in inr (some.0, record { has = inr g.has; le = g.le; most = λ h has le. elim has [ inl e ↦ absurd (omega (arith, ints, e, above, le)) | inr later ↦ g.most h later le ] })
    ])
    (λ under. elim (greatest ps y) [
      | inl none ↦ inr (p.y, record { has = inl refl; le = under; most = λ h has le. elim has [ inl e ↦ omega (arith, ints, e) | inr later ↦ let n = none h later in absurd (omega (arith, ints, n, le)) ] })
      | inr some ↦ let g = some.1 in by_lt_z some.0 p.y
          (λ lt. inr (p.y, record { has = inl refl; le = under; most = λ h has le. elim has [ inl e ↦ omega (arith, ints, e) | inr later ↦ let n = g.most h later le in omega (arith, ints, n, lt) ] }))
          (λ ge. inr (some.0, record { has = inr g.has; le = g.le; most = λ h has le. elim has [ inl e ↦ omega (arith, ints, e, ge) | inr later ↦ g.most h later le ] }))
    ])

least : (ps : List Point) (y : ℤ) → ((h : ℤ) → HasHeight ps h → h ≤ℤ y) ⊎ ((u : ℤ) × IsNext ps y u)
least [] y = inl (λ h has. absurd has)
least (p ∷ ps) y = by_lt_z y p.y
    (λ above. elim (least ps y) [
      | inl none ↦ inr (p.y, record { has = inl refl; above = above; none = λ h has lt. elim has [ inl e ↦ omega (arith, ints, e) | inr later ↦ let n = none h later in absurd (omega (arith, ints, n, lt)) ] })
      | inr some ↦ let g = some.1 in by_lt_z p.y some.0
          (λ less. inr (p.y, record { has = inl refl; above = above; none = λ h has lt. elim has [ inl e ↦ omega (arith, ints, e) | inr later ↦ let n = g.none h later lt in omega (arith, ints, n, less) ] }))
          (λ ge. inr (some.0, record { has = inr g.has; above = g.above; none = λ h has lt. elim has [ inl e ↦ omega (arith, ints, e, ge) | inr later ↦ g.none h later lt ] }))
    ])
    (λ under. elim (least ps y) [
      | inl none ↦ inl (λ h has. elim has [ inl e ↦ omega (arith, ints, e, under) | inr later ↦ none h later ])
      | inr some ↦ let g = some.1 in inr (some.0, record { has = inr g.has; above = g.above; none = λ h has lt. elim has [ inl e ↦ absurd (omega (arith, ints, e, under, lt)) | inr later ↦ g.none h later lt ] })
    ])

neighbours : (corners : List Point) (y l u : ℤ) → IsGreatest corners y l → IsNext corners y u → AreNeighbours corners l u
neighbours corners y l u g m = record {
  has_low = g.has;
  has_high = m.has;
  below = omega (arith, ints, g.le, m.above);
  none = λ h has lt. by_lt_z y h (λ above. m.none h has above) (λ under. let n = g.most h has under in absurd (omega (arith, ints, n, lt)));
}

none_pass : (p : Point) (qs : List Point) (last : Point) (x y : ℤ) (b : Bool) → is_below p y ≡ b → ((h : ℤ) → HasHeight qs h → int_le h y ≡ b) → is_below last y ≡ b → is_odd_left (sides_on p qs last) x y ≡ false
none_pass p [] last x y b e all f = (λ i. xor (xor (e i) (f i) && int_le p.x x) false) ∙ (λ i. xor (xor_same b i && int_le p.x x) false)
none_pass p (q ∷ qs) last x y b e all f =
    let at : is_below q y ≡ b = all q.y (inl refl) in
    (λ i. xor (xor (e i) (at i) && int_le p.x x) (none_pass q qs last x y b at (λ h has. all h (inr has)) f i)) ∙ (λ i. xor (xor_same b i && int_le p.x x) false)

slabs_fill_each : (corners : List Point) (rects : List Rect) (x y : ℤ) → ((r : Rect) → Contains rects r → IsSlab corners r) → HasCellInSome rects x y → IsInside corners x y
slabs_fill_each corners [] x y are has = absurd has
slabs_fill_each corners (r ∷ rs) x y are (inl here) = (are r (contains_first r rs)).inside x y here
slabs_fill_each corners (r ∷ rs) x y are (inr there) = slabs_fill_each corners rs x y (λ s one. are s (contains_later r rs s one)) there

ring_none : (corners : List Point) (x y : ℤ) (b : Bool) → ((h : ℤ) → HasHeight corners h → int_le h y ≡ b) → is_odd_left (sides_of corners) x y ≡ false
ring_none [] x y b all = refl
ring_none (p ∷ ps) x y b all = none_pass p ps p x y b (all p.y (inl refl)) (λ h has. all h (inr has)) (all p.y (inl refl))

in_slab : (corners : List Point) (rects : List Rect) (x y l u : ℤ) → IsSlabList corners rects → IsGreatest corners y l → IsNext corners y u → IsInside corners x y → HasCellInSome rects x y
in_slab corners rects x y l u are g m odd =
    let near = neighbours corners y l u g m in
    let es = ends_after (sides_of corners) (sides_of corners) l [] (ends_none (sides_of corners) l) in
    let e = es.1 in
    let pairs = pairs_some es.0 l u near.below e.rise (e.even ∙ ring_is_closed corners l) in
    let at = pair_at es.0 l u pairs.0 x e.rise pairs.1 (e.same x ∙ sym (row_is_uniform corners l u x y near g.le m.above) ∙ odd) in
    let slab = (band_slabs corners l u es.0 pairs.0 g.has (record { has = m.has; above = near.below; none = near.none }) e pairs.1).only at.box at.one in
    cell_among rects at.box x y ((are.exact at.box).1 slab) (record { left = at.left; right = at.right; low = omega (arith, ints, at.low_is, g.le); high = omega (arith, ints, at.high_is, m.above) })

in_some_slab : (corners : List Point) (rects : List Rect) (x y : ℤ) → IsSlabList corners rects → IsInside corners x y → HasCellInSome rects x y
in_some_slab corners rects x y are odd = elim (greatest corners y) [
  | inl above ↦ true_not_false _ odd (ring_none corners x y false (λ h has. not_left h y (above h has)))
  | inr low ↦ elim (least corners y) [
    | inl below ↦ true_not_false _ odd (ring_none corners x y true (λ h has. at_or_left h y (below h has)))
    | inr high ↦ in_slab corners rects x y low.0 high.0 are low.1 high.1 odd
  ]
]

pub slabs_fill : SlabsFill
slabs_fill corners rects are x y = (slabs_fill_each corners rects x y (λ r one. (are.exact r).0 one), in_some_slab corners rects x y are)
