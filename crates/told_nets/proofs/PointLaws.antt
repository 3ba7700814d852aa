-- Boxes that hold one point: they are joined, or lie opposite each other at it.
use Rattle.std.proofs.Common.{◌≡◌, ◌≢◌, ◌⊎◌, inl, inr, ℕ, ℤ, ◌<ℤ◌, ◌+ℤ◌, ◌-ℤ◌, pos, refl, ap, sym, subst, arith}
use Rattle.std.specs.Ordering.{ordering_then, int_cmp, nat_cmp}
use Rattle.std.specs.declared.cmp.Ordering.{Ordering}
use Rattle.std.specs.declared.cmp.Ordering.TheVariants.{Less, Equal, Greater}
use Rattle.std.proofs.lemmas.Cmp.{int_ranked, nat_cmp_total, tied_itself}
use Rattle.std.proofs.lemmas.Int.{by_lt_z, ints}
use Rattle.or_geom.specs.declared.shape.Point.{Point}
use Rattle.or_geom.specs.declared.shape.Rect.{Rect}
use Rattle.or_geom.specs.declared.shape.Shape.{Shape}
use Rattle.or_geom.specs.Joined.{IsIn, AreJoined}
use Rattle.or_geom.specs.ShapeOrder.{rect_order, shape_order}
use Rattle.or_geom.proofs.PlaceLaws.{same_point}

-- boxes that have a point and the one beside it, or above it, are joined
joined_by : (a b : Rect) (p q : Point) → p ≢ q → IsIn a p → IsIn b p → IsIn a q → IsIn b q → AreJoined a b
joined_by a b p q differ p_in_a p_in_b q_in_a q_in_b = record { p = p; q = q; differ = differ; p_in_a = p_in_a; p_in_b = p_in_b; q_in_a = q_in_a; q_in_b = q_in_b }

-- Order

less_is : (x y : ℤ) (o : Ordering) → int_cmp x y ≡ o → x <ℤ y → o ≡ Less
less_is x y Less is lt = refl
less_is x y Equal is lt = let e : x ≡ y = int_ranked x y Equal (sym is) in absurd (omega (arith, ints, lt, e))
less_is x y Greater is lt = let gt : y <ℤ x = int_ranked x y Greater (sym is) in absurd (omega (arith, ints, lt, gt))

-- what begins further west on a layer comes first
pub west_first : (a b : Shape) → a.layer ≡ b.layer → a.rect.x1 <ℤ b.rect.x1 → shape_order a b ≡ Less
west_first a b same lt =
    let tied : nat_cmp a.layer b.layer ≡ Equal = subst (λ (k : ℕ). nat_cmp a.layer k ≡ Equal) same (tied_itself nat_cmp_total a.layer) in
    let less = less_is a.rect.x1 b.rect.x1 (int_cmp a.rect.x1 b.rect.x1) refl lt in
    subst (λ (o : Ordering). ordering_then o (rect_order a.rect b.rect) ≡ Less) (sym tied)
    (subst (λ (o : Ordering). ordering_then o (ordering_then (int_cmp a.rect.y1 b.rect.y1) (ordering_then (int_cmp a.rect.x2 b.rect.x2) (int_cmp a.rect.y2 b.rect.y2))) ≡ Less) (sym less) refl)

-- Boxes that both go on in one direction are joined

pub both_west : (a b : Rect) (p : Point) → IsIn a p → IsIn b p → a.x1 <ℤ p.x → b.x1 <ℤ p.x → AreJoined a b
both_west a b p in_a in_b s t = joined_by a b p (record { x = p.x -ℤ pos 1; y = p.y }) (λ e. let same : p.x ≡ p.x -ℤ pos 1 = ap (λ (q : Point). q.x) e in omega (arith, ints)) in_a in_b
    (record { left = omega (arith, ints); right = (let r = in_a.right in omega (arith, ints)); low = in_a.low; high = in_a.high }) (record { left = omega (arith, ints); right = (let r = in_b.right in omega (arith, ints)); low = in_b.low; high = in_b.high })

pub both_east : (a b : Rect) (p : Point) → IsIn a p → IsIn b p → p.x <ℤ a.x2 → p.x <ℤ b.x2 → AreJoined a b
both_east a b p in_a in_b s t = joined_by a b p (record { x = p.x +ℤ pos 1; y = p.y }) (λ e. let same : p.x ≡ p.x +ℤ pos 1 = ap (λ (q : Point). q.x) e in omega (arith, ints)) in_a in_b
    (record { left = (let r = in_a.left in omega (arith, ints)); right = omega (arith, ints); low = in_a.low; high = in_a.high }) (record { left = (let r = in_b.left in omega (arith, ints)); right = omega (arith, ints); low = in_b.low; high = in_b.high })

pub both_south : (a b : Rect) (p : Point) → IsIn a p → IsIn b p → a.y1 <ℤ p.y → b.y1 <ℤ p.y → AreJoined a b
both_south a b p in_a in_b s t = joined_by a b p (record { x = p.x; y = p.y -ℤ pos 1 }) (λ e. let same : p.y ≡ p.y -ℤ pos 1 = ap (λ (q : Point). q.y) e in omega (arith, ints)) in_a in_b
    (record { left = in_a.left; right = in_a.right; low = omega (arith, ints); high = (let r = in_a.high in omega (arith, ints)) }) (record { left = in_b.left; right = in_b.right; low = omega (arith, ints); high = (let r = in_b.high in omega (arith, ints)) })

pub both_north : (a b : Rect) (p : Point) → IsIn a p → IsIn b p → p.y <ℤ a.y2 → p.y <ℤ b.y2 → AreJoined a b
both_north a b p in_a in_b s t = joined_by a b p (record { x = p.x; y = p.y +ℤ pos 1 }) (λ e. let same : p.y ≡ p.y +ℤ pos 1 = ap (λ (q : Point). q.y) e in omega (arith, ints)) in_a in_b
    (record { left = in_a.left; right = in_a.right; low = (let r = in_a.low in omega (arith, ints)); high = omega (arith, ints) }) (record { left = in_b.left; right = in_b.right; low = (let r = in_b.low in omega (arith, ints)); high = omega (arith, ints) })

-- Opposite boxes

-- the first ends below the point and the second begins above it, or the other way round
abbrev pub AreAcross : Rect → Rect → Point → Type 0
AreAcross a b p = ((a.y2 ≡ p.y) × (b.y1 ≡ p.y)) ⊎ ((b.y2 ≡ p.y) × (a.y1 ≡ p.y))

-- the one ends, west of the point, where the other begins, east of it; and they are opposite in y too
pub record AreOpposite (a b : Rect) (p : Point) : Type 0 where
  pub west : a.x2 ≡ p.x
  pub east : b.x1 ≡ p.x
  pub across : AreAcross a b p

across_x : (a b : Rect) (p : Point) → IsIn a p → IsIn b p → AreJoined a b ⊎ (((a.x2 ≡ p.x) × (b.x1 ≡ p.x)) ⊎ ((b.x2 ≡ p.x) × (a.x1 ≡ p.x)))
across_x a b p in_a in_b =
    let wide_a : a.x1 <ℤ a.x2 = a.wide in
    let wide_b : b.x1 <ℤ b.x2 = b.wide in
    let la = in_a.left in
    let ra = in_a.right in
    let lb = in_b.left in
    let rb = in_b.right in
    by_lt_z a.x1 p.x
    (λ wa. by_lt_z b.x1 p.x (λ wb. inl (both_west a b p in_a in_b wa wb)) (λ nb. by_lt_z p.x a.x2 (λ ea. inl (both_east a b p in_a in_b ea (omega (arith, ints)))) (λ na. inr (inl (omega (arith, ints), omega (arith, ints))))))
    (λ na. by_lt_z p.x b.x2 (λ eb. inl (both_east a b p in_a in_b (omega (arith, ints)) eb)) (λ nb. inr (inr (omega (arith, ints), omega (arith, ints)))))

across_y : (a b : Rect) (p : Point) → IsIn a p → IsIn b p → AreJoined a b ⊎ AreAcross a b p
across_y a b p in_a in_b =
    let tall_a : a.y1 <ℤ a.y2 = a.tall in
    let tall_b : b.y1 <ℤ b.y2 = b.tall in
    let la = in_a.low in
    let ra = in_a.high in
    let lb = in_b.low in
    let rb = in_b.high in
    by_lt_z a.y1 p.y
    (λ wa. by_lt_z b.y1 p.y (λ wb. inl (both_south a b p in_a in_b wa wb)) (λ nb. by_lt_z p.y a.y2 (λ ea. inl (both_north a b p in_a in_b ea (omega (arith, ints)))) (λ na. inr (inl (omega (arith, ints), omega (arith, ints))))))
    (λ na. by_lt_z p.y b.y2 (λ eb. inl (both_north a b p in_a in_b (omega (arith, ints)) eb)) (λ nb. inr (inr (omega (arith, ints), omega (arith, ints)))))

turn_y : (a b : Rect) (p : Point) → AreAcross a b p → AreAcross b a p
turn_y a b p (inl y) = inr y
turn_y a b p (inr y) = inl y

-- joined, or opposite in one order or the other
pub meet : (a b : Rect) (p : Point) → IsIn a p → IsIn b p → AreJoined a b ⊎ (AreOpposite a b p ⊎ AreOpposite b a p)
meet a b p in_a in_b = elim (across_x a b p in_a in_b) [
  | inl joined ↦ inl joined
  | inr x ↦ elim (across_y a b p in_a in_b) [
    | inl joined ↦ inl joined
    | inr y ↦ elim x [
      | inl first ↦ inr (inl (record { west = first.0; east = first.1; across = y }))
      | inr second ↦ inr (inr (record { west = second.0; east = second.1; across = turn_y a b p y }))
    ]
  ]
]

-- opposite boxes aren't joined
pub opposite_apart : (a b : Rect) (p : Point) → AreOpposite a b p → AreJoined a b → ⊥
opposite_apart a b p o j =
    let w = o.west in
    let e = o.east in
    let same_x : j.p.x ≡ j.q.x = omega (arith, ints, w, e, j.p_in_a.right, j.p_in_b.left, j.q_in_a.right, j.q_in_b.left) in
    let same_y : j.p.y ≡ j.q.y = elim o.across [
      | inl y ↦ let u = y.0 in let v = y.1 in omega (arith, ints, u, v, j.p_in_a.high, j.p_in_b.low, j.q_in_a.high, j.q_in_b.low)
      | inr y ↦ let u = y.0 in let v = y.1 in omega (arith, ints, u, v, j.p_in_b.high, j.p_in_a.low, j.q_in_b.high, j.q_in_a.low)
    ] in
    j.differ (same_point j.p j.q same_x same_y)
