-- The channels by formula are the same whatever shapes stand for pins that aren't demanded.
use Rattle.std.specs.Prelude.{◌≡◌}
use Rattle.tech_rules.specs.declared.tech.Wire.{Wire}
use Rattle.sram_netlist.specs.Organization.{Organization, IsBuildable}
use Rattle.macro_layout.specs.LayoutKit.{LayoutKit}
use Rattle.macro_layout.specs.Places.{Floorplan}
use Rattle.port_data.specs.Pins.{column_channel}
use Rattle.main_channel.specs.Formula.{main_channel}
use Rattle.asked_pins.specs.Layouts.{PinShapes, AreAlikeWhereDemanded, with_pins}

-- both channels are the same by both kits
pub record AreSameChannels (plan : Organization) (kit other : LayoutKit) (wire : Wire) (floorplan : Floorplan) : Type 0 where
  pub main : main_channel plan kit wire floorplan ≡ main_channel plan other wire floorplan
  pub column : column_channel plan kit wire ≡ column_channel plan other wire

-- Channels by formula ask for demanded pins alone.
abbrev pub ChannelsAskForDemandedPins : Type 0
ChannelsAskForDemandedPins =
    (plan : Organization) (kit : LayoutKit) (shapes others : PinShapes) (wire : Wire) (floorplan : Floorplan)
    → IsBuildable plan → AreAlikeWhereDemanded shapes others
    → AreSameChannels plan (with_pins kit shapes) (with_pins kit others) wire floorplan
