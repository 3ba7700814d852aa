-- Channels and taps that are tried.
use Rattle.std.specs.Prelude.{ℕ, ℤ, pos, List, [], ◌∷◌}
use Rattle.wire_drawing.specs.declared.route.Tap.{Tap}
use Rattle.tech_rules.specs.declared.tech.Wire.{Wire}
use Rattle.channel_router.specs.declared.channel.ChannelPin.{ChannelPin}

-- wires of width 4 at a pitch of 8
abbrev pub tried_wire : Wire
tried_wire = record { width = pos 4; space = pos 4; cut = pos 2; metals = 0 ∷ 1 ∷ 2 ∷ 3 ∷ []; cuts = 4 ∷ 5 ∷ 6 ∷ [] }

-- two pins of one net
abbrev pub two_pins : ℕ → ℤ → ℤ → List ChannelPin
two_pins net first second = record { x = first; net = net } ∷ record { x = second; net = net } ∷ []

-- a tap of the first rail that ends at 20
abbrev pub tap_at : ℤ → Tap
tap_at y = record { rail = 0; y = y; end = pos 20 }

abbrev pub two_taps : ℤ → ℤ → List Tap
two_taps first second = tap_at first ∷ tap_at second ∷ []
