-- Wires of different nets and of one net, where the cuts join the wires' metals and nothing else.
use Rattle.std.specs.Prelude.{◌≡◌, ◌≢◌, ℕ, ◌+◌, ◌<◌, List, [], ◌∷◌, slice_index}
use Rattle.or_geom.specs.declared.shape.Shape.{Shape}
use Rattle.tech_rules.specs.declared.tech.Connect.{Connect}
use Rattle.tech_rules.specs.declared.tech.Tech.{Tech}
use Rattle.tech_rules.specs.declared.tech.Wire.{Wire}
use Rattle.tech_rules.specs.Touch.{Touch}
use Rattle.tech_rules.specs.Net.{AreOnOneNet}
use Rattle.channel_router.specs.declared.channel.Channel.{Channel}
use Rattle.channel_router.specs.declared.channel.Interval.{Interval}
use Rattle.channel_router.specs.Wires.{IsOfNet}

-- a cut joins the metal at its place and the next
abbrev pub wire_connect : Wire → ℕ → Connect
wire_connect wire i = record { cut = slice_index wire.cuts i; to = slice_index wire.metals i ∷ slice_index wire.metals (i + 1) ∷ [] }

-- the three connections of the wires
abbrev pub wire_connects : Wire → List Connect
wire_connects wire = wire_connect wire 0 ∷ wire_connect wire 1 ∷ wire_connect wire 2 ∷ []

-- the wires' seven layers differ
pub record AreSevenLayers (wire : Wire) : Type 0 where
  pub metals : (i j : ℕ) → i < j → j < 4 → slice_index wire.metals i ≢ slice_index wire.metals j
  pub cuts : (i j : ℕ) → i < j → j < 3 → slice_index wire.cuts i ≢ slice_index wire.cuts j
  pub others : (i j : ℕ) → i < 3 → j < 4 → slice_index wire.cuts i ≢ slice_index wire.metals j

-- under these connections alone, wires of different nets don't touch, and those of one net are one net of touching shapes
pub record AreChannelNets (ch : Channel) (wire : Wire) (intervals : List Interval) (track : List ℕ) (tracks : ℕ) (shapes : List Shape) : Type 0 where
  pub apart : (tech : Tech) (i j : ℕ) (s u : Shape) → tech.connects ≡ wire_connects wire → i ≢ j → IsOfNet ch wire intervals track tracks i s → IsOfNet ch wire intervals track tracks j u → Touch tech.connects s u → ⊥
  pub one : (tech : Tech) (net : ℕ) (s u : Shape) → tech.connects ≡ wire_connects wire → IsOfNet ch wire intervals track tracks net s → IsOfNet ch wire intervals track tracks net u → AreOnOneNet tech.connects shapes s u
