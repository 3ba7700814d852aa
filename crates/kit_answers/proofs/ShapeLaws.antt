-- Whether shapes are the same, lie under a label, and lie as they have to.
use Rattle.std.proofs.Common.{◌≡◌, inl, inr, ℤ, pos, ◌-ℤ◌, ◌≤ℤ◌, List, refl, ap}
use Rattle.std.specs.Prelude.{Contains}
use Rattle.std.specs.declared.cmp.Ordering.{Ordering}
use Rattle.std.specs.declared.cmp.Ordering.TheVariants.{Less, Equal, Greater}
use Rattle.std.proofs.lemmas.Bool.{cases_eq}
use Rattle.or_geom.specs.declared.shape.Point.{Point}
use Rattle.or_geom.specs.declared.shape.Rect.{Rect}
use Rattle.or_geom.specs.declared.shape.Shape.{Shape}
use Rattle.or_geom.specs.Containing.{HoldsRect}
use Rattle.or_geom.specs.Joined.{IsIn}
use Rattle.or_geom.specs.ShapeOrder.{shape_order}
use Rattle.or_geom.proofs.ListLaws.{contained_at}
use Rattle.or_geom.proofs.PlaceLaws.{same_rect}
use Rattle.label_binding.specs.declared.anchor.Anchor.{Anchor}
use Rattle.label_binding.specs.Binding.{Binds, IsUnder}
use Rattle.leaf_shapes.specs.declared.fit.CellSize.{CellSize}
use Rattle.leaf_shapes.specs.declared.fit.Fit.{Fit}
use Rattle.leaf_shapes.specs.declared.fit.Fit.TheVariants.{Top, Bottom, TopAndBottom, Left, Right, LeftAndRight, Anywhere, LowerRail, UpperRail}
use Rattle.leaf_shapes.specs.Fits.{FitsCell, IsAcross, IsWireHigh, Spans}
use Rattle.kit_answers.proofs.DecidingLaws.{Decided, all_or_first, decide_at_most, decide_both, decide_int, decide_like, good_contained, turned}

-- four facts that each hold or not
decide_four : (P Q R S : Type 0) → Decided P → Decided Q → Decided R → Decided S → Decided (P × (Q × (R × S)))
decide_four P Q R S p q r s = decide_both P (Q × (R × S)) p (decide_both Q (R × S) q (decide_both R S r s))

decide_rect : (a b : Rect) → Decided (a ≡ b)
decide_rect a b =
    let Sides : Type 0 = (a.x1 ≡ b.x1) × ((a.y1 ≡ b.y1) × ((a.x2 ≡ b.x2) × (a.y2 ≡ b.y2))) in
    decide_like Sides (a ≡ b) (λ s. same_rect a b s.0 s.1.0 s.1.1.0 s.1.1.1)
    (λ e. (ap (λ (r : Rect). r.x1) e, (ap (λ (r : Rect). r.y1) e, (ap (λ (r : Rect). r.x2) e, ap (λ (r : Rect). r.y2) e))))
    (decide_four (a.x1 ≡ b.x1) (a.y1 ≡ b.y1) (a.x2 ≡ b.x2) (a.y2 ≡ b.y2) (decide_int a.x1 b.x1) (decide_int a.y1 b.y1) (decide_int a.x2 b.x2)
    (decide_int a.y2 b.y2))

pub decide_shape : (s t : Shape) → Decided (s ≡ t)
decide_shape s t =
    decide_like ((s.layer ≡ t.layer) × (s.rect ≡ t.rect)) (s ≡ t) (λ e. λ i. record { layer = e.0 i; rect = e.1 i })
    (λ e. (ap (λ (u : Shape). u.layer) e, ap (λ (u : Shape). u.rect) e))
    (decide_both (s.layer ≡ t.layer) (s.rect ≡ t.rect) (cases_eq s.layer t.layer) (decide_rect s.rect t.rect))

decide_in : (r : Rect) (p : Point) → Decided (IsIn r p)
decide_in r p =
    decide_like ((r.x1 ≤ℤ p.x) × ((p.x ≤ℤ r.x2) × ((r.y1 ≤ℤ p.y) × (p.y ≤ℤ r.y2)))) (IsIn r p)
    (λ s. record { left = s.0; right = s.1.0; low = s.1.1.0; high = s.1.1.1 })
    (λ h. (h.left, (h.right, (h.low, h.high))))
    (decide_four (r.x1 ≤ℤ p.x) (p.x ≤ℤ r.x2) (r.y1 ≤ℤ p.y) (p.y ≤ℤ r.y2) (decide_at_most r.x1 p.x) (decide_at_most p.x r.x2)
    (decide_at_most r.y1 p.y) (decide_at_most p.y r.y2))

pub decide_holds : (outer inner : Rect) → Decided (HoldsRect outer inner)
decide_holds o r =
    decide_like ((o.x1 ≤ℤ r.x1) × ((r.x2 ≤ℤ o.x2) × ((o.y1 ≤ℤ r.y1) × (r.y2 ≤ℤ o.y2)))) (HoldsRect o r)
    (λ s. record { left = s.0; right = s.1.0; low = s.1.1.0; high = s.1.1.1 })
    (λ h. (h.left, (h.right, (h.low, h.high))))
    (decide_four (o.x1 ≤ℤ r.x1) (r.x2 ≤ℤ o.x2) (o.y1 ≤ℤ r.y1) (r.y2 ≤ℤ o.y2) (decide_at_most o.x1 r.x1) (decide_at_most r.x2 o.x2)
    (decide_at_most o.y1 r.y1) (decide_at_most r.y2 o.y2))

decide_under : (label : Anchor) (shape : Shape) → Decided (IsUnder label shape)
decide_under label shape =
    decide_like ((shape.layer ≡ label.layer) × IsIn shape.rect label.at) (IsUnder label shape) (λ u. record { on = u.0; holds = u.1 })
    (λ u. (u.on, u.holds))
    (decide_both (shape.layer ≡ label.layer) (IsIn shape.rect label.at) (cases_eq shape.layer label.layer) (decide_in shape.rect label.at))

is_less : (o : Ordering) → Decided (o ≡ Less)
is_less Less = inl refl
is_less Equal = inr (λ e. absurd (cc))
is_less Greater = inr (λ e. absurd (cc))

-- whether a label binds the shape, which is one of the list
pub decide_binds : (shapes : List Shape) (label : Anchor) (shape : Shape) → Contains shapes shape → Decided (Binds shapes label shape)
decide_binds shapes label shape listed =
    let Before : Shape → Type 0 = λ other. IsUnder label other × (shape_order other shape ≡ Less) in
    elim (decide_under label shape) [
      | inr out ↦ inr (λ b. out b.under)
      | inl under ↦
          elim (all_or_first (λ (other : Shape). Before other → ⊥) Before shapes
          (λ k other there. turned (Before other)
          (decide_both (IsUnder label other) (shape_order other shape ≡ Less) (decide_under label other) (is_less (shape_order other shape))))) [
            | inl none ↦
                inl (record {
                  listed = listed;
                  under = under;
                  first = λ other h below less. good_contained
                      (λ (o : Shape). Before o → ⊥) shapes none other h (below, less);
                })
            | inr first ↦ inr (λ b. b.first first.item (contained_at shapes first.place first.item first.there) first.bad.0 first.bad.1)
          ]
    ]

-- whether a rectangle lies in its cell as it has to
decide_across : (wire : ℤ) (r : Rect) → Decided (IsAcross wire r)
decide_across wire r = decide_int (r.x2 -ℤ r.x1) wire

decide_upward : (wire : ℤ) (r : Rect) → Decided (IsWireHigh wire r)
decide_upward wire r = decide_int (r.y2 -ℤ r.y1) wire

decide_spans : (size : CellSize) (r : Rect) → Decided (Spans size r)
decide_spans size r = decide_both (r.x1 ≡ pos 0) (r.x2 ≡ size.width) (decide_int r.x1 (pos 0)) (decide_int r.x2 size.width)

-- three facts that each hold or not
decide_three : (P Q R : Type 0) → Decided P → Decided Q → Decided R → Decided (P × Q × R)
decide_three P Q R p q r =
    decide_like (P × (Q × R)) (P × Q × R) (λ s. (s.0, s.1.0, s.1.1)) (λ s. (s.0, (s.1, s.2))) (decide_both P (Q × R) p (decide_both Q R q r))

pub decide_fits : (fit : Fit) (wire : ℤ) (size : CellSize) (r : Rect) → Decided (FitsCell fit wire size r)
decide_fits Top wire size r = decide_both (r.y2 ≡ size.height) (IsAcross wire r) (decide_int r.y2 size.height) (decide_across wire r)
decide_fits Bottom wire size r = decide_both (r.y1 ≡ pos 0) (IsAcross wire r) (decide_int r.y1 (pos 0)) (decide_across wire r)
decide_fits TopAndBottom wire size r =
    decide_three (r.y2 ≡ size.height) (r.y1 ≡ pos 0) (IsAcross wire r) (decide_int r.y2 size.height) (decide_int r.y1 (pos 0)) (decide_across wire r)
decide_fits Left wire size r = decide_both (r.x1 ≡ pos 0) (IsWireHigh wire r) (decide_int r.x1 (pos 0)) (decide_upward wire r)
decide_fits Right wire size r = decide_both (r.x2 ≡ size.width) (IsWireHigh wire r) (decide_int r.x2 size.width) (decide_upward wire r)
decide_fits LeftAndRight wire size r = decide_both (Spans size r) (IsWireHigh wire r) (decide_spans size r) (decide_upward wire r)
decide_fits Anywhere wire size r = decide_upward wire r
decide_fits LowerRail wire size r =
    decide_three (Spans size r) (r.y1 ≡ pos 0) (r.y2 ≡ wire) (decide_spans size r) (decide_int r.y1 (pos 0)) (decide_int r.y2 wire)
decide_fits UpperRail wire size r =
    decide_three (Spans size r) (r.y1 ≡ size.height -ℤ wire) (r.y2 ≡ size.height) (decide_spans size r) (decide_int r.y1 (size.height -ℤ wire))
    (decide_int r.y2 size.height)
