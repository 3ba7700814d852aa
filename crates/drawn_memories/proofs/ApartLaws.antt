-- Pins of a channel, of which no two are close, are one or a pitch apart; so are taps.
use Rattle.std.proofs.Common.{◌≡◌, ◌⊎◌, inl, inr, ◌∙◌, ℕ, ℤ, ◌+ℤ◌, ◌≤ℤ◌, List, Some, sym, ap, map, arith}
use Rattle.std.specs.Prelude.{◌≢◌, slice_get, Contains, option_map}
use Rattle.std.proofs.lemmas.Bool.{cases_order}
use Rattle.std.proofs.lemmas.Int.{ints}
use Rattle.std.proofs.lemmas.Option.{same_Some, slice_get-get_or, slice_get-map}
use Rattle.tech_rules.specs.declared.tech.Wire.{Wire}
use Rattle.wire_drawing.specs.Drawing.{pitch}
use Rattle.wire_drawing.specs.Spacing.{AreClose}
use Rattle.channel_router.specs.declared.channel.ChannelPin.{ChannelPin}
use Rattle.channel_router.specs.Routed.{pin_xs}
use Rattle.channel_router.proofs.TrackLaws.{cases_int}
use Rattle.good_wires.specs.Channels.{ArePinsApart}

pub place_of : {X : Type 0} (xs : List X) (x : X) → Contains xs x → (k : ℕ) × (slice_get xs k ≡ Some x)
place_of {X} xs x h = (h.0, slice_get-get_or xs h.0 x h.1 ∙ ap (λ (z : X). Some z) h.2)

mapped : {X Y : Type 0} (f : X → Y) (xs : List X) (k : ℕ) (x : X) → slice_get xs k ≡ Some x → slice_get (map f xs) k ≡ Some (f x)
mapped f xs k x e = slice_get-map f xs k ∙ ap (option_map f) e

-- numbers at different places of a list of which no two are close
apart_at : (p : ℤ) (xs : List ℤ) (i j : ℕ) (x y : ℤ) → (AreClose p xs → ⊥) → i ≢ j → slice_get xs i ≡ Some x → slice_get xs j ≡ Some y → ((x +ℤ p) ≤ℤ y) ⊎ ((y +ℤ p) ≤ℤ x)
apart_at p xs i j x y none differ at there = elim (cases_int y (x +ℤ p)) [
  | inl e ↦ inl (omega (arith, ints, e))
  | inr (inr above) ↦ inl (omega (arith, ints, above))
  | inr (inl near) ↦ elim (cases_int x (y +ℤ p)) [
    | inl e ↦ inr (omega (arith, ints, e))
    | inr (inr above) ↦ inr (omega (arith, ints, above))
    | inr (inl close) ↦ elim (cases_int y x) [
      | inl e ↦ absurd (none (x, y, record { two = record { i = i; j = j; differ = differ; first = at; second = there }; above = omega (arith, ints, e); close = near }))
      | inr (inl less) ↦ absurd (none (y, x, record { two = record { i = j; j = i; differ = λ e. differ (sym e); first = there; second = at }; above = omega (arith, ints, less); close = close }))
      | inr (inr more) ↦ absurd (none (x, y, record { two = record { i = i; j = j; differ = differ; first = at; second = there }; above = omega (arith, ints, more); close = near }))
    ]
  ]
]

-- Items of a list with such numbers are one, or so far apart.
pub items_apart : {X : Type 0} (p : ℤ) (f : X → ℤ) (xs : List X) (x y : X) → (AreClose p (map f xs) → ⊥) → Contains xs x → Contains xs y → (x ≡ y) ⊎ (((f x +ℤ p) ≤ℤ f y) ⊎ ((f y +ℤ p) ≤ℤ f x))
items_apart {X} p f xs x y none here there =
    let a = place_of xs x here in
    let b = place_of xs y there in
    elim (cases_order a.0 b.0) [
      | inl same ↦ inl (same_Some x y (sym a.1 ∙ (ap (slice_get xs) same ∙ b.1)))
      | inr (inl lt) ↦ inr (apart_at p (map f xs) a.0 b.0 (f x) (f y) none (λ e. omega (arith, e, lt)) (mapped f xs a.0 x a.1) (mapped f xs b.0 y b.1))
      | inr (inr gt) ↦ inr (apart_at p (map f xs) a.0 b.0 (f x) (f y) none (λ e. omega (arith, e, gt)) (mapped f xs a.0 x a.1) (mapped f xs b.0 y b.1))
    ]

pub pins_apart : (wire : Wire) (pins : List ChannelPin) → (AreClose (pitch wire) (pin_xs pins) → ⊥) → ArePinsApart wire pins
pins_apart wire pins none n m x y p q = elim (items_apart (pitch wire) (λ (pin : ChannelPin). pin.x) pins p.pin q.pin none p.listed q.listed) [
  | inl same ↦ inl (sym p.of_net ∙ (ap (λ (pin : ChannelPin). pin.net) same ∙ q.of_net), sym p.at_x ∙ (ap (λ (pin : ChannelPin). pin.x) same ∙ q.at_x))
  | inr (inl before) ↦ inr (inl (let a = p.at_x in let b = q.at_x in omega (arith, ints, before, a, b)))
  | inr (inr after) ↦ inr (inr (let a = p.at_x in let b = q.at_x in omega (arith, ints, after, a, b)))
]
