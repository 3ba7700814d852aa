-- The hubs of nets outside of the array: trunks.
use Rattle.std.specs.Prelude.{◌≡◌, ℕ, Some, slice_get}
use Rattle.or_geom.specs.declared.shape.Shape.{Shape}
use Rattle.channel_router.specs.Wires.{IsOfNet}
use Rattle.sram_netlist.specs.Nets.{Net, Vdd, Gnd}
use Rattle.macro_layout.specs.Pins.{main_nets}
use Rattle.macro_layout.specs.Channels.{IsMainChannel}
use Rattle.macro_layout.specs.Wires.{trunk_x, ground_x, IsSupplyTrunk}
use Rattle.kit_nets.specs.DrawnChannels.{IsDrawnChannel}
use Rattle.kit_nets.specs.StatedParts.{Source}

-- those of the supplies, and for each net of the main channel a wire of it
pub record AreOuterHubs (s : Source) (m : IsDrawnChannel (IsMainChannel s.plan s.kit s.wire s.floorplan) s.wire s.tracks.main) (outer : Net → Shape) : Type 0 where
  pub power : IsSupplyTrunk s.kit s.wire s.floorplan (trunk_x s.plan s.kit s.wire s.floorplan) (outer Vdd)
  pub ground : IsSupplyTrunk s.kit s.wire s.floorplan (ground_x s.plan s.kit s.wire s.floorplan) (outer Gnd)
  pub main : (number : ℕ) (net : Net) → slice_get (main_nets s.plan) number ≡ Some net → IsOfNet m.channel s.wire m.intervals m.track s.tracks.main number (outer net)
