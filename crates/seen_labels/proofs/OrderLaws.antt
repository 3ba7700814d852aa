-- Shapes that are moved together keep their order.
use Rattle.std.proofs.Common.{◌≡◌, ℤ, ◌+ℤ◌, ◌<ℤ◌, refl, sym, ◌∙◌, arith}
use Rattle.std.specs.Ordering.{ordering_then, int_cmp, nat_cmp}
use Rattle.std.specs.declared.cmp.Ordering.{Ordering}
use Rattle.std.specs.declared.cmp.Ordering.TheVariants.{Less, Equal, Greater}
use Rattle.std.proofs.lemmas.Cmp.{int_ranked}
use Rattle.std.proofs.lemmas.Int.{by_lt_z, ints}
use Rattle.or_geom.specs.declared.shape.Shape.{Shape}
use Rattle.or_geom.specs.ShapeOrder.{shape_order}
use Rattle.local_report.specs.Moved as moved

less_is : (x y : ℤ) (o : Ordering) → int_cmp x y ≡ o → x <ℤ y → o ≡ Less
less_is x y Less is lt = refl
less_is x y Equal is lt = let e : x ≡ y = int_ranked x y Equal (sym is) in absurd (omega (arith, ints, lt, e))
less_is x y Greater is lt = let gt : y <ℤ x = int_ranked x y Greater (sym is) in absurd (omega (arith, ints, lt, gt))

greater_is : (x y : ℤ) (o : Ordering) → int_cmp x y ≡ o → y <ℤ x → o ≡ Greater
greater_is x y Greater is gt = refl
greater_is x y Equal is gt = let e : x ≡ y = int_ranked x y Equal (sym is) in absurd (omega (arith, ints, gt, e))
greater_is x y Less is gt = let lt : x <ℤ y = int_ranked x y Less (sym is) in absurd (omega (arith, ints, lt, gt))

equal_is : (x y : ℤ) (o : Ordering) → int_cmp x y ≡ o → x ≡ y → o ≡ Equal
equal_is x y Equal is e = refl
equal_is x y Less is e = let lt : x <ℤ y = int_ranked x y Less (sym is) in absurd (omega (arith, ints, lt, e))
equal_is x y Greater is e = let gt : y <ℤ x = int_ranked x y Greater (sym is) in absurd (omega (arith, ints, gt, e))

cmp_moved : (x y u v d : ℤ) → u ≡ x +ℤ d → v ≡ y +ℤ d → int_cmp u v ≡ int_cmp x y
cmp_moved x y u v d p q =
    by_lt_z x y (λ lt. less_is u v (int_cmp u v) refl (omega (arith, ints, p, q, lt)) ∙ sym (less_is x y (int_cmp x y) refl lt))
    (λ ge. by_lt_z y x (λ gt. greater_is u v (int_cmp u v) refl (omega (arith, ints, p, q, gt)) ∙ sym (greater_is x y (int_cmp x y) refl gt))
    (λ le. equal_is u v (int_cmp u v) refl (omega (arith, ints, p, q, ge, le)) ∙ sym (equal_is x y (int_cmp x y) refl (omega (arith, ints, ge, le)))))

pub order_moved : (dx dy : ℤ) (a b c d : Shape) → c.layer ≡ a.layer → d.layer ≡ b.layer → moved.IsMovedBy dx dy a.rect c.rect → moved.IsMovedBy dx dy b.rect d.rect → shape_order c d ≡ shape_order a b
order_moved dx dy a b c d one two m n =
    let x1 = cmp_moved a.rect.x1 b.rect.x1 c.rect.x1 d.rect.x1 dx m.x1 n.x1 in
    let y1 = cmp_moved a.rect.y1 b.rect.y1 c.rect.y1 d.rect.y1 dy m.y1 n.y1 in
    let x2 = cmp_moved a.rect.x2 b.rect.x2 c.rect.x2 d.rect.x2 dx m.x2 n.x2 in
    let y2 = cmp_moved a.rect.y2 b.rect.y2 c.rect.y2 d.rect.y2 dy m.y2 n.y2 in
    λ t. ordering_then (nat_cmp (one t) (two t)) (ordering_then (x1 t) (ordering_then (y1 t) (ordering_then (x2 t) (y2 t))))
