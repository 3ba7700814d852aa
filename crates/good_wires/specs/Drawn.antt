-- The wires of a memory, and what is known of where they are drawn.
use Rattle.std.specs.Prelude.{◌≡◌, ◌⊎◌, ◌<◌, Contains, ℕ, ℤ, pos, ◌+ℤ◌, ◌*ℤ◌, ◌≤ℤ◌, List, slice_index}
use Rattle.or_geom.specs.declared.shape.Rect.{Rect}
use Rattle.or_geom.specs.declared.shape.Shape.{Shape}
use Rattle.cell_roles.specs.declared.role.Role.{Role}
use Rattle.cell_roles.specs.declared.role.Role.TheVariants.{RowNand2, RowNand3, Driver}
use Rattle.tech_rules.specs.declared.tech.Wire.{Wire}
use Rattle.wire_drawing.specs.Drawing.{pitch}
use Rattle.channel_router.specs.declared.channel.Channel.{Channel}
use Rattle.channel_router.specs.declared.channel.Interval.{Interval}
use Rattle.channel_router.specs.Intervals.{AreIntervals}
use Rattle.channel_router.specs.Channel.{IsPinOf}
use Rattle.channel_router.specs.Tracks.{HasTrack, IsAssignment, IsTrackCount}
use Rattle.channel_router.specs.Wires.{IsOfNet, track_y}
use Rattle.channel_router.specs.Apart.{AreSevenLayers}
use Rattle.sram_netlist.specs.Organization.{Organization, banks_of}
use Rattle.sram_netlist.specs.Instances.{SenseAt}
use Rattle.sram_netlist.specs.Nets.{Net}
use Rattle.macro_layout.specs.Pins.{IsPin, IsRailOf}
use Rattle.macro_layout.specs.LayoutKit.{LayoutKit}
use Rattle.macro_layout.specs.Places.{Floorplan}
use Rattle.macro_layout.specs.Floorplan.{Tracks, IsFloorplan}
use Rattle.macro_layout.specs.Channels.{IsColumnChannel, IsMainChannel, IsChannelWire, IsTrunkAt}
use Rattle.macro_layout.specs.Wires.{IsTapAt, IsWireInMacro}
use Rattle.macro_layout.specs.Stated.{IsWireInBanks}
use Rattle.tile_checker.specs.Breaks.{IsAsWide}
use Rattle.good_places.specs.Zones.{IsLaid}
use Rattle.good_wires.specs.Spaced.{AreSpaced}
use Rattle.good_wires.specs.Channels.{ArePinsApart}

-- a role whose cells have pins on the second or the fourth metal: each but those of a row's gate and driver
abbrev pub HasUprightPins : Role → Type 0
HasUprightPins RowNand2 = ⊥
HasUprightPins RowNand3 = ⊥
HasUprightPins Driver = ⊥
HasUprightPins role = Unit {0}

-- a pin of each role lies in its cell, and on the second and the fourth metal a wire's width fits behind its left end; a wire fits each cell
pub record PinsFit (kit : LayoutKit) (wire : Wire) : Type 0 where
  pub left : (role : Role) (port metal : ℕ) → pos 0 ≤ℤ (kit.pin role port metal).x1
  pub right : (role : Role) (port metal : ℕ) → HasUprightPins role → (metal ≡ 1) ⊎ (metal ≡ 3) → ((kit.pin role port metal).x1 +ℤ wire.width) ≤ℤ pos (kit.width role)
  pub end : (role : Role) (port metal : ℕ) → (kit.pin role port metal).x2 ≤ℤ pos (kit.width role)
  pub low : (role : Role) (port metal : ℕ) → pos 0 ≤ℤ (kit.pin role port metal).y1
  pub high : (role : Role) (port metal : ℕ) → (kit.pin role port metal).y2 ≤ℤ pos (kit.height role)
  pub cells : (role : Role) → wire.width ≤ℤ pos (kit.height role)

-- one channel of those that are meant, of which all wires are drawn: its pins are apart, and its nets have tracks
pub record IsOneRoute (IsMeant : Channel → Type 0) (wire : Wire) (tracks : ℕ) : Type 0 where
  pub channel : Channel
  pub intervals : List Interval
  pub track : List ℕ
  pub meant : IsMeant channel
  pub nets : AreIntervals channel intervals
  pub assigned : IsAssignment (pitch wire) intervals track
  pub count : IsTrackCount track tracks
  pub top : ArePinsApart wire channel.top
  pub bottom : ArePinsApart wire channel.bottom
  pub trunk : (number : ℕ) (y : ℤ) → IsTrunkAt IsMeant wire tracks number y → (interval : Interval) × (t : ℕ) × HasTrack intervals track number interval t × (y ≡ track_y channel.low wire t)
  pub each : (s : Shape) → IsChannelWire IsMeant wire tracks s → (net : ℕ) × IsOfNet channel wire intervals track tracks net s

-- a memory that is drawn: on its floorplan, each channel is routed, and taps are one or a pitch apart
pub record IsDrawnMemory (plan : Organization) (kit : LayoutKit) (wire : Wire) (tracks : Tracks) (f : Floorplan) : Type 0 where
  pub laid : IsLaid plan kit wire f
  pub stands : IsFloorplan plan kit wire tracks f
  pub seven : AreSevenLayers wire
  pub three : (k : ℕ) → k < 3 → Contains wire.cuts (slice_index wire.cuts k)
  pub pins : PinsFit kit wire
  pub main : IsOneRoute (IsMainChannel plan kit wire f) wire tracks.main
  pub column : IsOneRoute (IsColumnChannel plan kit wire f) wire tracks.column
  -- each rail and each output is a pin of the main channel
  pub rails : (b : ℕ) (net : Net) (x : ℤ) → b < banks_of plan → IsRailOf plan wire f 0 net x → (n : ℕ) × IsPinOf main.channel.top n (x +ℤ (pos b *ℤ f.bank_width))
  pub outputs : (b bit : ℕ) (net : Net) (rect : Rect) → b < banks_of plan → IsPin plan kit f (SenseAt 0 bit) 2 3 net rect → (n : ℕ) × IsPinOf main.channel.top n (rect.x1 +ℤ (pos b *ℤ f.bank_width))
  -- a sense cell's pin that has a tap is as high as a wire is wide
  pub sense_taps : (i port : ℕ) (net : Net) (rect : Rect) (x : ℤ) → IsRailOf plan wire f 0 net x → IsPin plan kit f (SenseAt 0 i) port 2 net rect → rect.y2 ≡ rect.y1 +ℤ wire.width
  pub taps : (x y end u v last : ℤ) → IsTapAt plan kit wire tracks.column f x y end → IsTapAt plan kit wire tracks.column f u v last → ((x ≡ u) × (y ≡ v) × (end ≡ last)) ⊎ (((y +ℤ pitch wire) ≤ℤ v) ⊎ ((v +ℤ pitch wire) ≤ℤ y))

-- one of its wires
abbrev pub IsDrawnWire : Organization → LayoutKit → Wire → Tracks → Floorplan → Shape → Type 0
IsDrawnWire plan kit wire tracks f s = IsWireInMacro plan kit wire tracks f s ⊎ IsWireInBanks plan kit wire tracks f s

-- On the fourth metal, wires are joined or keep the wires' space.
abbrev pub FourthMetalIsSpaced : Type 0
FourthMetalIsSpaced = (plan : Organization) (kit : LayoutKit) (wire : Wire) (tracks : Tracks) (f : Floorplan) → IsDrawnMemory plan kit wire tracks f
    → (s u : Shape) → IsDrawnWire plan kit wire tracks f s → IsDrawnWire plan kit wire tracks f u → s.layer ≡ slice_index wire.metals 3 → u.layer ≡ slice_index wire.metals 3 → AreSpaced wire.space s.rect u.rect

-- So they do on the third.
abbrev pub ThirdMetalIsSpaced : Type 0
ThirdMetalIsSpaced = (plan : Organization) (kit : LayoutKit) (wire : Wire) (tracks : Tracks) (f : Floorplan) → IsDrawnMemory plan kit wire tracks f
    → (s u : Shape) → IsDrawnWire plan kit wire tracks f s → IsDrawnWire plan kit wire tracks f u → s.layer ≡ slice_index wire.metals 2 → u.layer ≡ slice_index wire.metals 2 → AreSpaced wire.space s.rect u.rect

-- So they do on the second.
abbrev pub SecondMetalIsSpaced : Type 0
SecondMetalIsSpaced = (plan : Organization) (kit : LayoutKit) (wire : Wire) (tracks : Tracks) (f : Floorplan) → IsDrawnMemory plan kit wire tracks f
    → (s u : Shape) → IsDrawnWire plan kit wire tracks f s → IsDrawnWire plan kit wire tracks f u → s.layer ≡ slice_index wire.metals 1 → u.layer ≡ slice_index wire.metals 1 → AreSpaced wire.space s.rect u.rect

-- So do the cuts between the second and the third, and between the third and the fourth.
abbrev pub CutsAreSpaced : Type 0
CutsAreSpaced = (plan : Organization) (kit : LayoutKit) (wire : Wire) (tracks : Tracks) (f : Floorplan) → IsDrawnMemory plan kit wire tracks f → (k : ℕ) → (k ≡ 1) ⊎ (k ≡ 2)
    → (s u : Shape) → IsDrawnWire plan kit wire tracks f s → IsDrawnWire plan kit wire tracks f u → s.layer ≡ slice_index wire.cuts k → u.layer ≡ slice_index wire.cuts k → AreSpaced wire.space s.rect u.rect

-- A wire's sides are at least as long as wires are wide, and those of a cut as long as a cut.
abbrev pub WiresAreWide : Type 0
WiresAreWide = (plan : Organization) (kit : LayoutKit) (wire : Wire) (tracks : Tracks) (f : Floorplan) → IsDrawnMemory plan kit wire tracks f → 0 < plan.word_size
    → (s : Shape) → IsDrawnWire plan kit wire tracks f s → IsAsWide wire.width s.rect ⊎ (Contains wire.cuts s.layer × IsAsWide wire.cut s.rect)
