-- The abstract view of a macro that stands on a floorplan.
use Rattle.std.specs.Prelude.{◌≡◌, ◌<◌, ℕ, length, ℤ, pos, ◌+ℤ◌, ◌*ℤ◌, Contains}
use Rattle.tech_rules.specs.declared.tech.Wire.{Wire}
use Rattle.wire_drawing.specs.Drawing.{pitch}
use Rattle.sram_netlist.specs.Organization.{Organization}
use Rattle.sram_plan.specs.declared.view.Abstract.{Abstract}
use Rattle.sram_plan.specs.declared.view.SignalPin.{SignalPin}
use Rattle.macro_layout.specs.LayoutKit.{LayoutKit}
use Rattle.macro_layout.specs.Places.{Floorplan}
use Rattle.macro_layout.specs.Floorplan.{Tracks, upper_y}
use Rattle.macro_layout.specs.Pins.{port_nets}
use Rattle.macro_layout.specs.Channels.{IsMainChannel, IsTrunkAt}
use Rattle.macro_layout.specs.Wires.{trunk_x}

-- The view's numbers are those of the wires and of the macro's supply trunks, and each signal port has a pin at the lower edge
-- of its trunk in the main channel.
pub record IsViewOf (plan : Organization) (kit : LayoutKit) (wire : Wire) (tracks : Tracks) (floorplan : Floorplan) (view : Abstract) : Type 0 where
  pub width : view.width ≡ trunk_x plan kit wire floorplan +ℤ (pos 2 *ℤ pitch wire)
  pub height : view.height ≡ upper_y kit floorplan
  pub pitch_is : view.pitch ≡ pitch wire
  pub supply_x : view.supply_x ≡ trunk_x plan kit wire floorplan
  pub space : view.space ≡ wire.space
  pub wire_is : view.wire ≡ wire.width
  pub signals : (number : ℕ) (y : ℤ) → number < length (port_nets plan) → IsTrunkAt (IsMainChannel plan kit wire floorplan) wire tracks.main number y → (pin : SignalPin) × Contains view.signals pin × (pin.y ≡ y)
