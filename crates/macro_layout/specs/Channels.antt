-- The two channels of a macro: which nets meet them where, and what is drawn in them.
use Rattle.std.specs.Prelude.{◌≡◌, ◌⊎◌, ◌↔◌, ◌<◌, ℕ, ℤ, pos, List, length, slice_get, Some}
use Rattle.or_geom.specs.declared.shape.Rect.{Rect}
use Rattle.or_geom.specs.declared.shape.Shape.{Shape}
use Rattle.cell_roles.specs.declared.role.Role.TheVariants.{Inv}
use Rattle.tech_rules.specs.declared.tech.Wire.{Wire}
use Rattle.wire_drawing.specs.Drawing.{pitch}
use Rattle.channel_router.specs.declared.channel.Channel.{Channel}
use Rattle.channel_router.specs.declared.channel.ChannelPin.{ChannelPin}
use Rattle.channel_router.specs.declared.channel.Interval.{Interval}
use Rattle.channel_router.specs.Channel.{IsPinOf}
use Rattle.channel_router.specs.Intervals.{AreIntervals}
use Rattle.channel_router.specs.Tracks.{HasTrack, IsLowest, IsTrackCount}
use Rattle.channel_router.specs.Wires.{IsOfNet, track_y}
use Rattle.sram_netlist.specs.Organization.{Organization, banks_of}
use Rattle.sram_netlist.specs.Nets.{Net}
use Rattle.sram_netlist.specs.Instances.{LogicCell, LeafInstance, WriteAt, SenseAt, LogicAt}
use Rattle.macro_layout.specs.LayoutKit.{LayoutKit}
use Rattle.macro_layout.specs.Places.{Floorplan}
use Rattle.macro_layout.specs.Floorplan.{column_channel_y}
use Rattle.macro_layout.specs.Cells.{column_leaf}
use Rattle.macro_layout.specs.Pins.{IsPin, IsRailOf, column_nets, port_nets, main_nets}

-- a port of the leaf has the net on this metal and begins at x
pub record IsPinFrom (plan : Organization) (kit : LayoutKit) (floorplan : Floorplan) (leaf : LeafInstance) (port metal : ℕ) (net : Net) (x : ℤ) : Type 0 where
  pub rect : Rect
  pub is : IsPin plan kit floorplan leaf port metal net rect
  pub begins : x ≡ rect.x1

-- nets of a channel are told by their index in its list
abbrev pub Numbered : List Net → (Net → ℤ → Type 0) → ℕ → ℤ → Type 0
Numbered nets Meets number x = (net : Net) × (slice_get nets number ≡ Some net) × Meets net x

-- the pins have exactly these nets and places
abbrev pub ArePins : List ChannelPin → (ℕ → ℤ → Type 0) → Type 0
ArePins pins Meets = (number : ℕ) (x : ℤ) → IsPinOf pins number x ↔ Meets number x

-- The column channel of bank 0, between its sense cells and its multiplexers or ties.

-- blo, bro and sel of a multiplexer, or bl and br of a tie, on the fourth metal
abbrev pub MeetsColumnTop : Organization → LayoutKit → Floorplan → Net → ℤ → Type 0
MeetsColumnTop plan kit floorplan net x = (c : ℕ) × (port : ℕ) × IsPinFrom plan kit floorplan (column_leaf plan.col_bits 0 c) port 3 net x

-- bl and br of a sense cell, on the second metal
abbrev pub MeetsColumnBottom : Organization → LayoutKit → Floorplan → Net → ℤ → Type 0
MeetsColumnBottom plan kit floorplan net x = (i : ℕ) × (port : ℕ) × IsPinFrom plan kit floorplan (SenseAt 0 i) port 1 net x

pub record IsColumnChannel (plan : Organization) (kit : LayoutKit) (wire : Wire) (floorplan : Floorplan) (ch : Channel) : Type 0 where
  pub low : ch.low ≡ column_channel_y kit floorplan
  pub nets : ch.nets ≡ length (column_nets plan)
  pub top : ArePins ch.top (Numbered (column_nets plan) (MeetsColumnTop plan kit floorplan))
  pub bottom : ArePins ch.bottom (Numbered (column_nets plan) (MeetsColumnBottom plan kit floorplan))
  -- each column choice leaves at its rail
  pub exits : ArePins ch.exits (Numbered (column_nets plan) (IsRailOf plan wire floorplan 0))

-- The main channel, between the logic row and the write cells of all banks.

-- in a bank, each rail; din and en of a write cell and dout of a sense cell, on the fourth metal
abbrev pub MeetsMainTop : Organization → LayoutKit → Wire → Floorplan → ℕ → Net → ℤ → Type 0
MeetsMainTop plan kit wire floorplan b net x =
    IsRailOf plan wire floorplan b net x
    ⊎ (((i : ℕ) × IsPinFrom plan kit floorplan (WriteAt b i) 0 3 net x)
    ⊎ (((i : ℕ) × IsPinFrom plan kit floorplan (WriteAt b i) 3 3 net x)
    ⊎ ((i : ℕ) × IsPinFrom plan kit floorplan (SenseAt b i) 2 3 net x)))

abbrev pub MeetsMainTopOfBanks : Organization → LayoutKit → Wire → Floorplan → Net → ℤ → Type 0
MeetsMainTopOfBanks plan kit wire floorplan net x = (b : ℕ) × (b < banks_of plan) × MeetsMainTop plan kit wire floorplan b net x

-- the ports of the logic row, but for supplies, on the second metal
abbrev pub MeetsMainBottom : Organization → LayoutKit → Floorplan → Net → ℤ → Type 0
MeetsMainBottom plan kit floorplan net x = (cell : LogicCell) × (port : ℕ) × IsPinFrom plan kit floorplan (LogicAt cell) port 1 net x

-- each signal port leaves at the macro's left edge
pub record LeavesLeft (plan : Organization) (number : ℕ) (x : ℤ) : Type 0 where
  pub port : number < length (port_nets plan)
  pub left : x ≡ pos 0

pub record IsMainChannel (plan : Organization) (kit : LayoutKit) (wire : Wire) (floorplan : Floorplan) (ch : Channel) : Type 0 where
  pub low : ch.low ≡ pos (kit.height Inv)
  pub nets : ch.nets ≡ length (main_nets plan)
  pub top : ArePins ch.top (Numbered (main_nets plan) (MeetsMainTopOfBanks plan kit wire floorplan))
  pub bottom : ArePins ch.bottom (Numbered (main_nets plan) (MeetsMainBottom plan kit floorplan))
  pub exits : ArePins ch.exits (LeavesLeft plan)

-- What is drawn

-- one of the channels that are meant, with its nets on their lowest free tracks, which are so many
pub record IsRoutedBy (IsMeant : Channel → Type 0) (wire : Wire) (tracks : ℕ) (ch : Channel) (intervals : List Interval) (track : List ℕ) : Type 0 where
  pub meant : IsMeant ch
  pub nets : AreIntervals ch intervals
  pub lowest : IsLowest (pitch wire) intervals track
  pub count : IsTrackCount track tracks

pub record IsChannelWire (IsMeant : Channel → Type 0) (wire : Wire) (tracks : ℕ) (s : Shape) : Type 0 where
  pub channel : Channel
  pub intervals : List Interval
  pub track : List ℕ
  pub routed : IsRoutedBy IsMeant wire tracks channel intervals track
  pub net : ℕ
  pub drawn : IsOfNet channel wire intervals track tracks net s

-- the trunk of net `number` has its lower edge at y
pub record IsTrunkAt (IsMeant : Channel → Type 0) (wire : Wire) (tracks number : ℕ) (y : ℤ) : Type 0 where
  pub channel : Channel
  pub intervals : List Interval
  pub track : List ℕ
  pub routed : IsRoutedBy IsMeant wire tracks channel intervals track
  pub interval : Interval
  pub on : ℕ
  pub has : HasTrack intervals track number interval on
  pub at : y ≡ track_y channel.low wire on
