-- Wires that lie near the origin, on the layers of wires.
use Rattle.std.specs.Prelude.{◌≡◌, ◌≤◌, ◌<◌, ◌^◌, ℕ, List, Contains, Some, slice_get, length}
use Rattle.or_geom.specs.declared.shape.Rect.{Rect}
use Rattle.or_geom.specs.declared.shape.Shape.{Shape}
use Rattle.or_geom.specs.Place.{IsWithin, low_corner, high_corner}
use Rattle.cell_builder.specs.Writable.{IsWritableWire}
use Rattle.tech_rules.specs.declared.tech.Wire.{Wire}
use Rattle.channel_router.specs.declared.channel.Routed.{Routed}
use Rattle.leaf_shapes.specs.Outline.{IsWireLayer}
use Rattle.sram_netlist.specs.Organization.{Organization}
use Rattle.macro_layout.specs.LayoutKit.{LayoutKit}
use Rattle.macro_layout.specs.Places.{Floorplan}
use Rattle.macro_layout.specs.Floorplan.{IsFloorplan, choice_count}

-- both corners lie within n
pub record AreCornersWithin (n : ℕ) (r : Rect) : Type 0 where
  pub low : IsWithin n (low_corner r)
  pub high : IsWithin n (high_corner r)

-- on a metal or a cut, with both corners within n
pub record IsWireWithin (n : ℕ) (wire : Wire) (s : Shape) : Type 0 where
  pub layer : IsWireLayer wire s.layer
  pub corners : AreCornersWithin n s.rect

-- on a metal or a cut, with corners that fit 32 bits
pub record IsDrawableWire (wire : Wire) (s : Shape) : Type 0 where
  pub layer : IsWireLayer wire s.layer
  pub writable : IsWritableWire s

-- each of so many nets has a track, and tracks are below 1024
pub record HasTracks (count : ℕ) (track : List ℕ) : Type 0 where
  pub each : count ≤ length track
  pub few : (number t : ℕ) → slice_get track number ≡ Some t → t < 1024

-- The shapes of the routed channel lie within 2^30, and its first nets, the column choices, have tracks.
pub record IsNearRouted (wire : Wire) (choices : ℕ) (routed : Routed) : Type 0 where
  pub shapes : (s : Shape) → Contains routed.shapes s → IsWireWithin (2 ^ 30) wire s
  pub tracks : HasTracks choices routed.track

-- the floorplan of a macro whose column channel has so many tracks
abbrev pub IsFloorplanOver : Organization → LayoutKit → Wire → ℕ → Floorplan → Type 0
IsFloorplanOver plan kit wire tracks floorplan = (main : ℕ) × IsFloorplan plan kit wire (record { main = main; column = tracks }) floorplan

-- the macro's floorplan has the routed channel's tracks, and the channel lies near
pub record IsBankGiven (plan : Organization) (kit : LayoutKit) (wire : Wire) (floorplan : Floorplan) (routed : Routed) : Type 0 where
  pub stands : IsFloorplanOver plan kit wire routed.tracks floorplan
  pub near : IsNearRouted wire (choice_count plan.col_bits) routed
