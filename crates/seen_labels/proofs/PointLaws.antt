-- Shapes of one layer that hold a point: which of them a label there binds, and when they touch.
use Rattle.std.proofs.Common.{◌≡◌, inl, ℤ, ◌≤ℤ◌, ◌<ℤ◌, List, Contains, sym, ◌∙◌, arith}
use Rattle.std.proofs.lemmas.Int.{by_lt_z, ints}
use Rattle.or_geom.specs.declared.shape.Point.{Point}
use Rattle.or_geom.specs.declared.shape.Shape.{Shape}
use Rattle.or_geom.specs.Joined.{IsIn}
use Rattle.tech_rules.specs.declared.tech.Connect.{Connect}
use Rattle.tech_rules.specs.Touch.{IsConductor, Touch}
use Rattle.label_binding.specs.declared.anchor.Anchor.{Anchor}
use Rattle.label_binding.specs.Binding.{IsUnder, Binds}
use Rattle.told_nets.proofs.PointLaws.{west_first, both_west, both_east}

-- What a label binds begins no further east than whatever lies under it.
pub begins_first : (shapes : List Shape) (label : Anchor) (u v : Shape) → Binds shapes label u → Contains shapes v → IsUnder label v → u.rect.x1 ≤ℤ v.rect.x1
begins_first shapes label u v binds listed under = by_lt_z v.rect.x1 u.rect.x1 (λ lt. absurd (binds.first v listed under (west_first v u (under.on ∙ sym binds.under.on) lt))) (λ le. le)

-- Shapes on one conductor touch that both go on west of a point which they hold,
pub touch_west : (connections : List Connect) (a b : Shape) (p : Point) → a.layer ≡ b.layer → IsConductor connections a.layer → IsIn a.rect p → IsIn b.rect p → a.rect.x1 <ℤ p.x → b.rect.x1 <ℤ p.x → Touch connections a b
touch_west connections a b p same conductor in_a in_b west also = inl (record { one_layer = same; conductor = conductor; joined = both_west a.rect b.rect p in_a in_b west also })

-- and so do shapes that begin there.
pub touch_east : (connections : List Connect) (a b : Shape) (p : Point) → a.layer ≡ b.layer → IsConductor connections a.layer → IsIn a.rect p → IsIn b.rect p → p.x ≤ℤ a.rect.x1 → p.x ≤ℤ b.rect.x1 → Touch connections a b
touch_east connections a b p same conductor in_a in_b from also = inl (record { one_layer = same; conductor = conductor; joined = both_east a.rect b.rect p in_a in_b (ends a.rect.x1 a.rect.x2 from a.rect.wide) (ends b.rect.x1 b.rect.x2 also b.rect.wide) }) where
  ends : (x1 x2 : ℤ) → p.x ≤ℤ x1 → x1 <ℤ x2 → p.x <ℤ x2
  ends x1 x2 le lt = omega (arith, ints, le, lt)
