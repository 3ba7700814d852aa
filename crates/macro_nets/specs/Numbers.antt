-- Nets that have a number in the main channel.
use Rattle.std.specs.Prelude.{◌≡◌, ℕ, Some, slice_get}
use Rattle.sram_netlist.specs.Organization.{Organization}
use Rattle.sram_netlist.specs.Nets.{Net}
use Rattle.macro_layout.specs.Pins.{main_nets}

pub record HasMainNumber (plan : Organization) (net : Net) : Type 0 where
  pub number : ℕ
  pub named : slice_get (main_nets plan) number ≡ Some net
