-- What the main channel of a macro is, as its pins are placed.
use Rattle.std.specs.Prelude.{◌≡◌, pos, ◌≤ℤ◌, All, Some}
use Rattle.tech_rules.specs.declared.tech.Wire.{Wire}
use Rattle.channel_router.specs.declared.channel.Channel.{Channel}
use Rattle.channel_router.specs.declared.channel.ChannelPin.{ChannelPin}
use Rattle.leaf_tables.specs.declared.kit.Kit.{Kit}
use Rattle.sram_netlist.specs.Organization.{Organization}
use Rattle.macro_layout.specs.Places.{Floorplan}
use Rattle.macro_layout.specs.Channels.{IsMainChannel}
use Rattle.floorplan.specs.LayoutOfKit.{layout_kit}
use Rattle.floorplan.specs.declared.numbers.FloorplanNumbers.{FloorplanNumbers}
use Rattle.main_channel.specs.Formula.{main_channel}
use Rattle.main_channel.specs.Pins.{IsMacroCoordinate}

-- all pins and exits lie in the macro, and the row below is at most as high as a cell may be
pub record IsNearMainChannel (ch : Channel) : Type 0 where
  pub top : All (λ (pin : ChannelPin). IsMacroCoordinate pin.x) ch.top
  pub bottom : All (λ (pin : ChannelPin). IsMacroCoordinate pin.x) ch.bottom
  pub exits : All (λ (pin : ChannelPin). IsMacroCoordinate pin.x) ch.exits
  pub above : pos 0 ≤ℤ ch.low
  pub below : ch.low ≤ℤ pos 65536

-- the floorplan has these numbers from left to right; heights are left open
pub record StandsAcross (numbers : FloorplanNumbers) (floorplan : Floorplan) : Type 0 where
  pub logic_x : floorplan.logic_x ≡ numbers.logic_x
  pub row_x : floorplan.row_x ≡ numbers.row_x
  pub bank_width : floorplan.bank_width ≡ numbers.bank_width

-- The channel is the stated one of each floorplan that has these numbers from left to right.
abbrev pub IsMainChannelAcross : Kit → Organization → FloorplanNumbers → Channel → Type 0
IsMainChannelAcross kit plan numbers ch =
    (wire : Wire) (floorplan : Floorplan) → kit.tech.wire ≡ Some wire → StandsAcross numbers floorplan → IsMainChannel plan (layout_kit kit) wire floorplan ch

-- It is the one by formula, so that each pin stands as often as its net meets the channel there.
abbrev pub IsMainChannelByFormula : Kit → Organization → FloorplanNumbers → Channel → Type 0
IsMainChannelByFormula kit plan numbers ch =
    (wire : Wire) (floorplan : Floorplan) → kit.tech.wire ≡ Some wire → StandsAcross numbers floorplan → ch ≡ main_channel plan (layout_kit kit) wire floorplan
