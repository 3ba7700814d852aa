-- The channels and taps that are tried meet what the routers ask.
use Rattle.std.proofs.Common.{◌≡◌, ◌⊎◌, inl, inr, ℕ, zero, suc, ◌<◌, ℤ, pos, ◌≤ℤ◌, ◌+ℤ◌, List, [], ◌∷◌, ◌++◌, refl, sym, ap, subst, ◌∙◌, arith}
use Rattle.std.specs.Prelude.{All, Some, slice_get, slice_index}
use Rattle.std.proofs.lemmas.Int.{ints}
use mir.Syntax.{w64}
use mir.Val.{to_z, of_z}
use Rattle.std.proofs.lemmas.List.Elements.{All-cons, All-nil}
use Rattle.std.proofs.lemmas.Option.{same_Some}
use Rattle.or_geom.specs.Distance.{IsNear}
use Rattle.or_geom.proofs.ListLaws.{contains_cases, contains_first, contains_none}
use Rattle.wire_drawing.specs.declared.route.Tap.{Tap}
use Rattle.channel_router.specs.declared.channel.ChannelPin.{ChannelPin}
use Rattle.channel_router.specs.Apart.{AreSevenLayers}
use Rattle.channel_router.specs.Channel.{AreInChannel, IsChannel, IsPinOf}
use Rattle.rail_bus.specs.Rails.{IsNearTap, AreNearTaps, AreOfRails, EndBeyondRails, AreTapped}
use Rattle.layer_tests.specs.Routes.{two_pins, tried_wire, tap_at, two_taps}

-- a number that is passed to a call
abbrev pub passed : ℤ → ℤ
passed z = to_z w64 (of_z w64 z)

pub passed_same : (z : ℤ) → IsNear z → passed z ≡ z
passed_same z near = omega (arith, ints)

pub passed_near : (z : ℤ) → IsNear z → IsNear (passed z)
passed_near z near = subst IsNear (sym (passed_same z near)) near

pub passed_above : (z : ℤ) → IsNear z → pos 0 ≤ℤ z → pos 0 ≤ℤ passed z
passed_above z near above = subst (λ (y : ℤ). pos 0 ≤ℤ y) (sym (passed_same z near)) above

passed_pins : (net : ℕ) (a b : ℤ) (pins : List ChannelPin) → pins ≡ two_pins net (passed a) (passed b) → IsNear a → IsNear b → pins ≡ two_pins net a b
passed_pins net a b pins is p q = is ∙ (ap (λ (z : ℤ). two_pins net z (passed b)) (passed_same a p) ∙ ap (λ (z : ℤ). two_pins net a z) (passed_same b q))

two_all : {X : Type 0} (P : X → Type 0) (a b : X) → P a → P b → All P (a ∷ b ∷ [])
two_all P a b p q = All-cons P a (b ∷ []) p (All-cons P b [] q (All-nil P))

metal_at : (i : ℕ) → i < 4 → slice_index tried_wire.metals i ≡ i
metal_at zero lt = refl
metal_at (suc zero) lt = refl
metal_at (suc (suc zero)) lt = refl
metal_at (suc (suc (suc zero))) lt = refl
metal_at (suc (suc (suc (suc i)))) lt = absurd (omega (arith, lt))

cut_at : (i : ℕ) → i < 3 → slice_index tried_wire.cuts i ≡ suc (suc (suc (suc i)))
cut_at zero lt = refl
cut_at (suc zero) lt = refl
cut_at (suc (suc zero)) lt = refl
cut_at (suc (suc (suc i))) lt = absurd (omega (arith, lt))

-- the seven layers of the wires differ
pub seven_layers : AreSevenLayers tried_wire
seven_layers = record {
  metals = λ i j below lt e. let first : slice_index tried_wire.metals i ≡ i = metal_at i (omega arith) in let second : slice_index tried_wire.metals j ≡ j = metal_at j lt in omega (arith, e);
  cuts = λ i j below lt e. let first : slice_index tried_wire.cuts i ≡ suc (suc (suc (suc i))) = cut_at i (omega arith) in let second : slice_index tried_wire.cuts j ≡ suc (suc (suc (suc j))) = cut_at j lt in omega (arith, e);
  others = λ i j below lt e. let first : slice_index tried_wire.cuts i ≡ suc (suc (suc (suc i))) = cut_at i below in let second : slice_index tried_wire.metals j ≡ j = metal_at j lt in omega (arith, e);
}

in_channel : (net : ℕ) (a b : ℤ) → net < 2 → IsNear a → IsNear b → AreInChannel 2 (two_pins net a b)
in_channel net a b lt p q = record {
  of_nets = two_all (λ (pin : ChannelPin). pin.net < 2) (record { x = a; net = net }) (record { x = b; net = net }) lt lt;
  near = two_all (λ (pin : ChannelPin). IsNear pin.x) (record { x = a; net = net }) (record { x = b; net = net }) p q;
}

near_zero : IsNear (pos 0)
near_zero = record { above = omega (arith, ints); below = omega (arith, ints) }

two_nets_of : (a b c d : ℤ) → IsNear a → IsNear b → IsNear c → IsNear d → IsChannel (record { low = pos 0; top = two_pins 0 a b; bottom = two_pins 1 c d; exits = []; nets = 2 })
two_nets_of a b c d near_a near_b near_c near_d = record {
  low = near_zero;
  top = in_channel 0 a b (omega arith) near_a near_b;
  bottom = in_channel 1 c d (omega arith) near_c near_d;
  exits = record { of_nets = All-nil (λ (pin : ChannelPin). pin.net < 2); near = All-nil (λ (pin : ChannelPin). IsNear pin.x) };
  met = met;
} where
  met : (net : ℕ) → net < 2 → (x : ℤ) × IsPinOf (two_pins 0 a b ++ two_pins 1 c d ++ []) net x
  met zero lt = (a, record { pin = record { x = a; net = 0 }; listed = (0, omega arith, refl); at_x = refl; of_net = refl })
  met (suc zero) lt = (c, record { pin = record { x = c; net = 1 }; listed = (2, omega arith, refl); at_x = refl; of_net = refl })
  met (suc (suc n)) lt = absurd (omega (arith, lt))

-- a channel with net 0 at the top and net 1 at the bottom
pub two_nets : (a b c d : ℤ) (top bottom exits : List ChannelPin) → top ≡ two_pins 0 (passed a) (passed b) → bottom ≡ two_pins 1 (passed c) (passed d) → exits ≡ [] → IsNear a → IsNear b → IsNear c → IsNear d → IsChannel (record { low = pos 0; top = top; bottom = bottom; exits = exits; nets = 2 })
two_nets a b c d top bottom exits is_top is_bottom is_none near_a near_b near_c near_d =
    let at_top : top ≡ two_pins 0 a b = passed_pins 0 a b top is_top near_a near_b in
    let at_bottom : bottom ≡ two_pins 1 c d = passed_pins 1 c d bottom is_bottom near_c near_d in
    rw (at_top, at_bottom, is_none) (two_nets_of a b c d near_a near_b near_c near_d)

near_twenty : IsNear (pos 20)
near_twenty = record { above = omega (arith, ints); below = omega (arith, ints) }

pub near_taps : (a b : ℤ) → IsNear a → IsNear b → AreNearTaps (two_taps a b)
near_taps a b p q = two_all IsNearTap (tap_at a) (tap_at b) (record { y = p; end = near_twenty }) (record { y = q; end = near_twenty })

pub of_rails : (a b : ℤ) → AreOfRails (pos 8 ∷ []) (two_taps a b)
of_rails a b = two_all (λ (tap : Tap). tap.rail < 1) (tap_at a) (tap_at b) (omega arith) (omega arith)

ends_at : (y : ℤ) (tap : Tap) (x : ℤ) → tap ≡ tap_at y → slice_get (pos 8 ∷ []) tap.rail ≡ Some x → (x +ℤ pos 4) ≤ℤ tap.end
ends_at y tap x e is =
    let rail : tap.rail ≡ 0 = ap (λ (t : Tap). t.rail) e in
    let end : tap.end ≡ pos 20 = ap (λ (t : Tap). t.end) e in
    let got : Some (pos 8) ≡ Some x = subst (λ (r : ℕ). slice_get (pos 8 ∷ []) r ≡ Some x) rail is in
    let eight : pos 8 ≡ x = same_Some (pos 8) x got in omega (arith, ints)

pub end_beyond : (a b : ℤ) → EndBeyondRails (pos 8 ∷ []) (two_taps a b) tried_wire
end_beyond a b tap x listed is = elim (contains_cases (tap_at a) (tap_at b ∷ []) tap listed) [
  | inl e ↦ ends_at a tap x e is
  | inr later ↦ elim (contains_cases (tap_at b) [] tap later) [
    | inl e ↦ ends_at b tap x e is
    | inr none ↦ absurd (contains_none tap none)
  ]
]

pub are_tapped : (a b : ℤ) → pos 0 ≤ℤ a → AreTapped (pos 0) (pos 8 ∷ []) (two_taps a b)
are_tapped a b above zero lt = (a, record { tap = tap_at a; listed = contains_first (tap_at a) (tap_at b ∷ []); of_rail = refl; at_y = refl }, above)
are_tapped a b above (suc r) lt = absurd (omega (arith, lt))
