-- The order of cells, and of shapes by their corners.
use Rattle.std.proofs.Common.{◌≡◌, ◌≢◌, ◌⊎◌, inl, inr, ℕ, ℤ, ◌≤ℤ◌, ◌<ℤ◌, refl, sym, subst, arith}
use Rattle.std.specs.Ordering.{ordering_then, int_cmp, nat_cmp, MatchOrdering}
use Rattle.std.specs.declared.cmp.Ordering.{Ordering}
use Rattle.std.specs.declared.cmp.Ordering.TheVariants.{Less, Equal, Greater}
use Rattle.std.proofs.lemmas.Cmp.{int_ranked, nat_cmp_total, tied_itself}
use Rattle.std.proofs.lemmas.Int.{by_lt_z, ints}
use Rattle.or_geom.specs.declared.shape.Point.{Point}
use Rattle.or_geom.specs.declared.shape.Rect.{Rect}
use Rattle.or_geom.specs.declared.shape.Shape.{Shape}
use Rattle.or_geom.specs.ShapeOrder.{rect_order, shape_order}
use Rattle.cell_hierarchy.specs.FlatLists.{point_order}
use Rattle.drawn_devices.specs.ChannelBoxes.{low_cell}

-- what the answer of a comparison says of two integers
ranked_as : (x y : ℤ) (o : Ordering) → int_cmp x y ≡ o → MatchOrdering o (x <ℤ y) (x ≡ y) (y <ℤ x)
ranked_as x y o is = int_ranked x y o (sym is)

-- the first cell isn't behind the second
pub record IsUpTo (p q : Point) : Type 0 where
  pub order : (p.x <ℤ q.x) ⊎ ((p.x ≡ q.x) × (p.y ≤ℤ q.y))

then_greater : (a b : Ordering) → ordering_then a b ≡ Greater → (a ≡ Greater) ⊎ ((a ≡ Equal) × (b ≡ Greater))
then_greater Less b e = absurd cc
then_greater Equal b e = inr (refl, e)
then_greater Greater b e = inl refl

pub not_behind : (p q : Point) → IsUpTo p q → point_order p q ≢ Greater
not_behind p q up behind = elim (then_greater (int_cmp p.x q.x) (int_cmp p.y q.y) behind) [
  | inl over ↦
      let gt = ranked_as p.x q.x Greater over in
      elim up.order [ inl lt ↦ omega (arith, ints, lt, gt) | inr same ↦ let e = same.0 in omega (arith, ints, e, gt) ]
  | inr tied ↦
      let e = ranked_as p.x q.x Equal tied.0 in
      let gt = ranked_as p.y q.y Greater tied.1 in
      elim up.order [ inl lt ↦ omega (arith, ints, lt, e) | inr same ↦ let le = same.1 in omega (arith, ints, le, gt) ]
]

then_less : (a b : Ordering) → (a ≡ Less) ⊎ ((a ≡ Equal) × (b ≡ Less)) → ordering_then a b ≡ Less
then_less a b (inl is) = subst (λ (o : Ordering). ordering_then o b ≡ Less) (sym is) refl
then_less a b (inr is) = subst (λ (o : Ordering). ordering_then o b ≡ Less) (sym is.0) is.1

less_is : (x y : ℤ) (o : Ordering) → int_cmp x y ≡ o → x <ℤ y → o ≡ Less
less_is x y Less is lt = refl
less_is x y Equal is lt = let e = ranked_as x y Equal is in absurd (omega (arith, ints, lt, e))
less_is x y Greater is lt = let gt = ranked_as x y Greater is in absurd (omega (arith, ints, lt, gt))

equal_is : (x y : ℤ) (o : Ordering) → int_cmp x y ≡ o → x ≡ y → o ≡ Equal
equal_is x y Less is e = let lt = ranked_as x y Less is in absurd (omega (arith, ints, lt, e))
equal_is x y Equal is e = refl
equal_is x y Greater is e = let gt = ranked_as x y Greater is in absurd (omega (arith, ints, gt, e))

-- a cell that comes before another
pub comes_before : (p q : Point) → (p.x <ℤ q.x) ⊎ ((p.x ≡ q.x) × (p.y <ℤ q.y)) → point_order p q ≡ Less
comes_before p q (inl lt) = then_less (int_cmp p.x q.x) (int_cmp p.y q.y) (inl (less_is p.x q.x (int_cmp p.x q.x) refl lt))
comes_before p q (inr same) = then_less (int_cmp p.x q.x) (int_cmp p.y q.y) (inr (equal_is p.x q.x (int_cmp p.x q.x) refl same.0, less_is p.y q.y (int_cmp p.y q.y) refl same.1))

then_first : (a b c : Ordering) → ordering_then a (ordering_then b c) ≡ Less → (a ≡ Less) ⊎ ((a ≡ Equal) × (b ≢ Greater))
then_first Less b c e = inl refl
then_first Equal b c e = inr (refl, λ behind. let clash : ordering_then Greater c ≡ Less = subst (λ (o : Ordering). ordering_then o c ≡ Less) behind e in cc)
then_first Greater b c e = absurd cc

at_most : (y z : ℤ) (o : Ordering) → int_cmp y z ≡ o → o ≢ Greater → y ≤ℤ z
at_most y z Less is most = let lt = ranked_as y z Less is in omega (arith, ints, lt)
at_most y z Equal is most = let e = ranked_as y z Equal is in omega (arith, ints, e)
at_most y z Greater is most = absurd (most refl)

-- of rectangles in order, the corner of the first isn't behind that of the second
rects_up : (r s : Rect) → rect_order r s ≡ Less → IsUpTo (low_cell r) (low_cell s)
rects_up r s less = record {
  order = elim (then_first (int_cmp r.x1 s.x1) (int_cmp r.y1 s.y1) (ordering_then (int_cmp r.x2 s.x2) (int_cmp r.y2 s.y2)) less) [
    | inl before ↦ inl (ranked_as r.x1 s.x1 Less before)
    | inr tied ↦ inr (ranked_as r.x1 s.x1 Equal tied.0, at_most r.y1 s.y1 (int_cmp r.y1 s.y1) refl tied.1)
  ];
}

one_layer : (l m : ℕ) (o : Ordering) → l ≡ m → ordering_then (nat_cmp l m) o ≡ Less → o ≡ Less
one_layer l m o same less =
    let tied : nat_cmp l m ≡ Equal = subst (λ (k : ℕ). nat_cmp l k ≡ Equal) same (tied_itself nat_cmp_total l) in
    subst (λ (a : Ordering). ordering_then a o ≡ Less) tied less

-- so of shapes on one layer
pub shapes_up : (s t : Shape) → s.layer ≡ t.layer → shape_order s t ≡ Less → IsUpTo (low_cell s.rect) (low_cell t.rect)
shapes_up s t same less = rects_up s.rect t.rect (one_layer s.layer t.layer (rect_order s.rect t.rect) same less)

later : (p q : Point) (r : Rect) → p.x ≡ r.x1 → p.y ≤ℤ r.y1 → r.x1 ≤ℤ q.x → r.y1 ≤ℤ q.y → (p.x <ℤ q.x) ⊎ ((p.x ≡ q.x) × (p.y ≤ℤ q.y))
later p q r same up left low = by_lt_z p.x q.x (λ lt. inl lt) (λ ge. inr (omega (arith, ints, same, left, ge), omega (arith, ints, up, low)))

-- a rectangle's corner isn't behind its cells
pub corner_up : (r : Rect) (p q : Point) → IsUpTo p (low_cell r) → r.x1 ≤ℤ q.x → r.y1 ≤ℤ q.y → IsUpTo p q
corner_up r p q up left low = record {
  order = elim up.order [
    | inl lt ↦ inl (omega (arith, ints, lt, left))
    | inr same ↦ later p q r same.0 same.1 left low
  ];
}

up_by : (p q : Point) (across upward : Ordering) → int_cmp p.x q.x ≡ across → int_cmp p.y q.y ≡ upward → ordering_then across upward ≢ Greater → IsUpTo p q
up_by p q Less upward is over most = record { order = inl (ranked_as p.x q.x Less is) }
up_by p q Equal upward is over most = record { order = inr (ranked_as p.x q.x Equal is, at_most p.y q.y upward over most) }
up_by p q Greater upward is over most = absurd (most refl)

pub up_from : (p q : Point) → point_order p q ≢ Greater → IsUpTo p q
up_from p q most = up_by p q (int_cmp p.x q.x) (int_cmp p.y q.y) refl refl most
