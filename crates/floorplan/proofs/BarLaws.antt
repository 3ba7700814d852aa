-- Bars, and bars along every second row.
use Rattle.std.proofs.Common.{◌≡◌, ◌⊎◌, inl, inr, ℕ, ◌+◌, ℤ, ◌+ℤ◌, List, ◌∷◌, [], ◌++◌, subst, arith}
use Rattle.std.specs.Prelude.{slice_index}
use Rattle.or_geom.specs.declared.shape.Shape.{Shape}
use Rattle.or_geom.specs.Adds.{Adds}
use Rattle.or_geom.proofs.AddsLaws.{adds_both, adds_as, adds_none, adds_one}
use Rattle.or_geom.proofs.ListLaws.{below_or}
use Rattle.tech_rules.specs.declared.tech.Wire.{Wire}
use Rattle.wire_drawing.specs.Drawing.{IsBox, IsVia}
use Rattle.wire_drawing.proofs.DrawingLaws.{same_box}
use Rattle.macro_layout.specs.Wires.{IsBar}
use Rattle.floorplan.specs.Bars.{IsBarOfRow, IsRowBar}

-- the same box, where its sides are computed otherwise
pub box_as : (layer : ℕ) (a b c d x1 y1 x2 y2 : ℤ) (old now : List Shape) → Adds old now (IsBox layer a b c d) → a ≡ x1 → b ≡ y1 → c ≡ x2 → d ≡ y2 → Adds old now (IsBox layer x1 y1 x2 y2)
box_as layer a b c d x1 y1 x2 y2 old now adds left low right high =
    subst (λ (z : ℤ). Adds old now (IsBox layer x1 y1 x2 z)) high
    (subst (λ (z : ℤ). Adds old now (IsBox layer x1 y1 z d)) right
    (subst (λ (z : ℤ). Adds old now (IsBox layer x1 z c d)) low
    (subst (λ (z : ℤ). Adds old now (IsBox layer z b c d)) left adds)))

pub via_adds : (wire : Wire) (a b x y : ℤ) (now new : List Shape) (cut : Shape) → new ≡ now ++ cut ∷ [] → IsVia wire 0 a b cut → a ≡ x → b ≡ y → Adds now new (IsVia wire 0 x y)
via_adds wire a b x y now new cut grown is left low =
    subst (λ (z : ℤ). Adds now new (IsVia wire 0 x z)) low
    (subst (λ (z : ℤ). Adds now new (IsVia wire 0 z b)) left
    (adds_one now new cut (IsVia wire 0 a b) grown is (λ s other. same_box _ _ _ _ _ s cut other is)))

pub bar_adds : (wire : Wire) (trunk x y : ℤ) (old now new : List Shape) → Adds old now (IsBox (slice_index wire.metals 0) x y (trunk +ℤ wire.width) (y +ℤ wire.width)) → Adds now new (IsVia wire 0 trunk y) → Adds old new (IsBar wire trunk x y)
bar_adds wire trunk x y old now new bar cut = adds_both old now new (IsBox (slice_index wire.metals 0) x y (trunk +ℤ wire.width) (y +ℤ wire.width)) (IsVia wire 0 trunk y) bar cut

-- the same bar
pub bar_as : (wire : Wire) (a b c trunk x y : ℤ) (old now : List Shape) → Adds old now (IsBar wire a b c) → a ≡ trunk → b ≡ x → c ≡ y → Adds old now (IsBar wire trunk x y)
bar_as wire a b c trunk x y old now adds behind left low =
    subst (λ (z : ℤ). Adds old now (IsBar wire trunk x z)) low
    (subst (λ (z : ℤ). Adds old now (IsBar wire trunk z c)) left
    (subst (λ (z : ℤ). Adds old now (IsBar wire z b c)) behind adds))

-- what is drawn where P holds
pub adds_where : (P : Type 0) (Q : Shape → Type 0) (old now : List Shape) → P → Adds old now Q → Adds old now (λ s. P × Q s)
adds_where P Q old now holds adds = adds_as old now Q (λ s. P × Q s) (λ s is. (holds, is)) (λ s is. is.1) adds

pub adds_nowhere : (P : Type 0) (Q : Shape → Type 0) (old : List Shape) → (P → ⊥) → Adds old old (λ s. P × Q s)
adds_nowhere P Q old other = adds_none old (λ s. P × Q s) (λ s is. other is.0)

-- a row more
pub row_more : (wire : Wire) (trunk x y : ℤ) (height odd k : ℕ) (old now new : List Shape) → Adds old now (IsRowBar wire trunk x y height odd k) → Adds now new (IsBarOfRow wire trunk x y height odd k) → Adds old new (IsRowBar wire trunk x y height odd (k + 1))
row_more wire trunk x y height odd k old now new before here =
    adds_as old new (λ s. IsRowBar wire trunk x y height odd k s ⊎ IsBarOfRow wire trunk x y height odd k s) (IsRowBar wire trunk x y height odd (k + 1))
    (λ s is. elim is [ inl below ↦ (let lt = below.1 in (below.0, omega (arith, lt), below.2)) | inr bar ↦ (k, omega arith, bar) ])
    (λ s is. elim (below_or is.0 k is.1) [ inl lt ↦ inl (is.0, lt, is.2) | inr same ↦ inr (subst (λ (r : ℕ). IsBarOfRow wire trunk x y height odd r s) same is.2) ])
    (adds_both old now new (IsRowBar wire trunk x y height odd k) (IsBarOfRow wire trunk x y height odd k) before here)

-- no row yet
pub no_rows : (wire : Wire) (trunk x y : ℤ) (height odd : ℕ) (now : List Shape) → Adds now now (IsRowBar wire trunk x y height odd 0)
no_rows wire trunk x y height odd now = adds_none now (IsRowBar wire trunk x y height odd 0) (λ s is. let lt = is.1 in absurd (omega (arith, lt)))
