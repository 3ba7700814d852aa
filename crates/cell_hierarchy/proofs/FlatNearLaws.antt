-- Shapes whose corners fit 32 bits lie near the origin.
use Rattle.std.proofs.Common.{◌≡◌, ◌^◌, ℕ, ℤ, pos, ◌+ℤ◌, ◌≤ℤ◌, List, [], ◌∷◌, Bool, true, false, refl, inl, inr, arith}
use Rattle.std.specs.Prelude.{FitsSigned, int_le, Contains}
use Rattle.std.specs.Int.{w32}
use Rattle.std.proofs.lemmas.Int.{ints}
use Rattle.or_geom.specs.declared.shape.Point.{Point}
use Rattle.or_geom.specs.declared.shape.Shape.{Shape}
use Rattle.or_geom.specs.Distance.{IsNear, IsReachable}
use Rattle.gds_records.specs.Values.{IsShort}
use Rattle.tech_rules.specs.declared.tech.Layer.{Layer}
use Rattle.gds_library.specs.declared.library.Structure.{Structure}
use Rattle.or_geom.specs.Reachable.{AreReachable}
use Rattle.or_geom.proofs.ListLaws.{contains_first, contains_later}
use Rattle.cell_hierarchy.specs.FlatLists.{AreFlatShapes}
use Rattle.cell_hierarchy.specs.FlatSet.{IsCorner}

abbrev pub IsNotFar : ℤ → Type 0
IsNotFar z = (FitsSigned w32 z → ⊥) → ⊥

above_if : (z : ℤ) (test : Bool) → int_le (pos 0) (z +ℤ pos (2 ^ 40)) ≡ test → IsNotFar z → pos 0 ≤ℤ (z +ℤ pos (2 ^ 40))
above_if z true is near = grind (arith, ints)
above_if z false is near = absurd (near (λ fits. grind (arith, ints)))

below_if : (z : ℤ) (test : Bool) → int_le z (pos (2 ^ 40)) ≡ test → IsNotFar z → z ≤ℤ pos (2 ^ 40)
below_if z true is near = grind (arith, ints)
below_if z false is near = absurd (near (λ fits. grind (arith, ints)))

near_of : (z : ℤ) → IsNotFar z → IsNear z
near_of z near = record { above = above_if z _ refl near; below = below_if z _ refl near }

abbrev pub IsNotFarPoint : Point → Type 0
IsNotFarPoint p = (IsShort p → ⊥) → ⊥

x_near : (p : Point) → IsNotFarPoint p → IsNear p.x
x_near p near = near_of p.x (λ far. near (λ short. far short.x))

y_near : (p : Point) → IsNotFarPoint p → IsNear p.y
y_near p near = near_of p.y (λ far. near (λ short. far short.y))

shape_near : (s : Shape) → ((p : Point) → IsCorner s p → IsNotFarPoint p) → IsReachable s.rect
shape_near s near =
    let low = near (record { x = s.rect.x1; y = s.rect.y1 }) (record { x = inl refl; y = inl refl }) in
    let high = near (record { x = s.rect.x2; y = s.rect.y2 }) (record { x = inr refl; y = inr refl }) in
    record { x1 = x_near _ low; y1 = y_near _ low; x2 = x_near _ high; y2 = y_near _ high }

all_near : (shapes : List Shape) → ((s : Shape) → Contains shapes s → IsReachable s.rect) → AreReachable shapes
all_near [] near = tt
all_near (s ∷ ss) near = (near s (contains_first s ss), all_near ss (λ t h. near t (contains_later s ss t h)))

pub flat_near : (layers : List Layer) (structs : List Structure) (top : List ℕ) (shapes : List Shape) → AreFlatShapes layers structs top shapes → AreReachable shapes
flat_near layers structs top shapes flat =
    all_near shapes (λ s h. shape_near s (λ p corner far. flat.near p (record { stands = inl (record { shape = s; flat = (flat.exact s).0 h; corner = corner }); far = far })))
