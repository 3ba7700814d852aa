-- The shapes of trunks and of the pins of one side, where each net's track is known.
use Rattle.std.specs.Prelude.{◌≡◌, ℕ, ◌<◌, ℤ, List, slice_get, Some}
use Rattle.or_geom.specs.declared.shape.Shape.{Shape}
use Rattle.tech_rules.specs.declared.tech.Wire.{Wire}
use Rattle.channel_router.specs.declared.channel.ChannelPin.{ChannelPin}
use Rattle.channel_router.specs.declared.channel.Interval.{Interval}
use Rattle.channel_router.specs.Tracks.{HasTrack}
use Rattle.channel_router.specs.Wires.{IsTrunk, IsTopBranch, IsBottomBranch}

-- the trunk of a net below n
abbrev pub IsTrunkBelow : ℤ → Wire → List Interval → List ℕ → ℕ → Shape → Type 0
IsTrunkBelow low wire intervals track n shape = (net : ℕ) × (net < n) × (interval : Interval) × (t : ℕ) × HasTrack intervals track net interval t × IsTrunk low wire interval t shape

-- a shape of a pin of the top
abbrev pub IsOfTopPin : ℤ → Wire → List ℕ → ℕ → ChannelPin → Shape → Type 0
IsOfTopPin low wire track tracks pin shape = (t : ℕ) × (slice_get track pin.net ≡ Some t) × IsTopBranch low wire tracks t pin.x shape

-- a shape of a pin of the bottom
abbrev pub IsOfBottomPin : ℤ → Wire → List ℕ → ChannelPin → Shape → Type 0
IsOfBottomPin low wire track pin shape = (t : ℕ) × (slice_get track pin.net ≡ Some t) × IsBottomBranch low wire t pin.x shape
