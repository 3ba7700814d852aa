-- Shapes that are added.
use Rattle.std.proofs.Common.{◌≡◌, ◌⊎◌, inl, inr, ℕ, ◌+◌, ℤ, pos, ◌+ℤ◌, List, [], ◌∷◌, ◌++◌, subst, arith}
use Rattle.or_geom.specs.declared.shape.Shape.{Shape}
use Rattle.or_geom.specs.Adds.{Adds}
use Rattle.or_geom.proofs.AddsLaws.{adds_both, adds_as, adds_one}
use Rattle.or_geom.proofs.ListLaws.{below_or}
use Rattle.tech_rules.specs.declared.tech.Wire.{Wire}
use Rattle.wire_drawing.specs.Drawing.{IsBox}
use Rattle.wire_drawing.proofs.DrawingLaws.{same_box}
use Rattle.macro_layout.specs.Stated.{IsShifted}
use Rattle.bank_layout.specs.Outputs.{output_x, IsOutputAt, IsOutputBelow}

box_of : (dx : ℤ) (from to : Shape) → IsShifted dx (pos 0) from to → IsBox from.layer (from.rect.x1 +ℤ dx) (from.rect.y1 +ℤ pos 0) (from.rect.x2 +ℤ dx) (from.rect.y2 +ℤ pos 0) to
box_of dx from to is = record { on = is.layer; left = is.x1; low = is.y1; right = is.x2; high = is.y2 }

-- one shape moved
pub moved_adds : (dx : ℤ) (from to : Shape) (now new : List Shape) → new ≡ now ++ to ∷ [] → IsShifted dx (pos 0) from to → Adds now new (λ s. IsShifted dx (pos 0) from s)
moved_adds dx from to now new grown is = adds_one now new to (λ s. IsShifted dx (pos 0) from s) grown is (λ s other. same_box _ _ _ _ _ s to (box_of dx from s other) (box_of dx from to is))

-- one box
pub box_adds : (layer : ℕ) (x1 y1 x2 y2 : ℤ) (now new : List Shape) (s : Shape) → new ≡ now ++ s ∷ [] → s.layer ≡ layer → s.rect.x1 ≡ x1 → s.rect.y1 ≡ y1 → s.rect.x2 ≡ x2 → s.rect.y2 ≡ y2 → Adds now new (IsBox layer x1 y1 x2 y2)
box_adds layer x1 y1 x2 y2 now new s grown on left low right high =
    let is : IsBox layer x1 y1 x2 y2 s = record { on = on; left = left; low = low; right = right; high = high } in
    adds_one now new s (IsBox layer x1 y1 x2 y2) grown is (λ t other. same_box layer x1 y1 x2 y2 t s other is)

-- an output more
pub output_more : (wire : Wire) (x z : ℤ) (words width : ℕ) (top : ℤ) (n : ℕ) (old now new : List Shape) → Adds old now (IsOutputBelow wire x words width top n) → Adds now new (IsOutputAt wire z top) → z ≡ output_x x words width n → Adds old new (IsOutputBelow wire x words width top (n + 1))
output_more wire x z words width top n old now new before here at =
    let there : Adds now new (IsOutputAt wire (output_x x words width n) top) = subst (λ (u : ℤ). Adds now new (IsOutputAt wire u top)) at here in
    adds_as old new (λ s. IsOutputBelow wire x words width top n s ⊎ IsOutputAt wire (output_x x words width n) top s) (IsOutputBelow wire x words width top (n + 1))
    (λ s is. elim is [ inl below ↦ (let lt = below.1 in (below.0, omega (arith, lt), below.2)) | inr one ↦ (n, omega arith, one) ])
    (λ s is. elim (below_or is.0 n is.1) [ inl lt ↦ inl (is.0, lt, is.2) | inr same ↦ inr (subst (λ (k : ℕ). IsOutputAt wire (output_x x words width k) top s) same is.2) ])
    (adds_both old now new (IsOutputBelow wire x words width top n) (IsOutputAt wire (output_x x words width n) top) before there)
