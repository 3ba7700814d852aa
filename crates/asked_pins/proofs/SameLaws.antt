-- A layout is the same by two kits that differ at most in pins that aren't demanded.
use Rattle.std.proofs.Common.{◌≡◌, ◌⊎◌, inl, inr, ℕ, ◌+◌, ℤ, pos, ◌+ℤ◌, ◌*ℤ◌, List, [], ◌∷◌, refl, ap, sym, subst, ◌∙◌}
use Rattle.std.specs.Prelude.{codes, slice_get, Some}
use Rattle.std.specs.Int.{int_max}
use Rattle.or_geom.specs.declared.shape.Rect.{Rect}
use Rattle.or_geom.specs.declared.shape.Shape.{Shape}
use Rattle.or_geom.specs.declared.place.Place.{Place}
use Rattle.or_geom.specs.Place.{placed, IsImage}
use Rattle.tech_rules.specs.declared.tech.Wire.{Wire}
use Rattle.wire_drawing.specs.Drawing.{pitch}
use Rattle.channel_router.specs.declared.channel.Channel.{Channel}
use Rattle.channel_router.specs.declared.channel.ChannelPin.{ChannelPin}
use Rattle.cell_builder.specs.declared.cell.PlacedLabel.{PlacedLabel}
use Rattle.sram_netlist.specs.Organization.{Organization, IsBuildable, banks_of}
use Rattle.sram_netlist.specs.Nets.{Net}
use Rattle.sram_netlist.specs.Instances.{LogicCell, LeafInstance, BitAt, NandAt, DriverAt, PrechargeAt, WriteAt, SenseAt, MuxAt, TieAt, LogicAt}
use Rattle.sram_netlist.specs.Netlist.{role, ports}
use Rattle.sram_netlist.specs.InstanceList.{logic_cells}
use Rattle.macro_layout.specs.LayoutKit.{LayoutKit}
use Rattle.macro_layout.specs.Places.{Floorplan, upright, total_width, StandsInRow, IsPlaceOf}
use Rattle.macro_layout.specs.Floorplan.{Tracks}
use Rattle.macro_layout.specs.Cells.{column_leaf}
use Rattle.macro_layout.specs.Pins.{IsPin, rail_nets, column_nets, main_nets}
use Rattle.macro_layout.specs.Channels.{IsPinFrom, Numbered, ArePins, MeetsColumnTop, MeetsColumnBottom, IsColumnChannel, MeetsMainTopOfBanks, MeetsMainBottom, IsMainChannel, IsChannelWire, IsTrunkAt}
use Rattle.macro_layout.specs.Wires.{IsPinTap, IsTapOfNet, IsTapAt, IsTapWire, IsRailWire, IsOutputWire, IsWireInBank, IsSupplyTrunk, IsBar, IsPowerBarAt, IsGroundBarAt, IsPowerWire, IsGroundWire, IsWireInMacro, IsTextAt, IsLabelInMacro, trunk_x}
use Rattle.leaf_tables.specs.declared.kit.Kit.{Kit}
use Rattle.leaf_tables.specs.Kits.{IsKit}
use Rattle.floorplan.specs.LayoutOfKit.{shape_or_square, layout_kit}
use Rattle.asked_pins.specs.Demanded.{IsDemandedPort}
use Rattle.asked_pins.specs.Layouts.{PinShapes, AreAlikeWhereDemanded, with_pins, AreSameLayouts, rect_or, shapes_or}
use Rattle.asked_pins.proofs.AskedLaws.{write_din, write_en, sense_dout, gate_asked, driver_asked, enable_asked, precharge_asked, column_asked, lines_asked, logic_asked}
use Rattle.asked_pins.proofs.DemandedLaws.{demanded_there}

pub alike_back : (a b : PinShapes) → AreAlikeWhereDemanded a b → AreAlikeWhereDemanded b a
alike_back a b alike role port metal demanded = sym (alike role port metal demanded)

-- What is drawn of a channel, by what the channel is

routed_so : (P Q : Channel → Type 0) (wire : Wire) (tracks : ℕ) (s : Shape) → ((ch : Channel) → P ch → Q ch) → IsChannelWire P wire tracks s
    → IsChannelWire Q wire tracks s
routed_so P Q wire tracks s so w = record {
  channel = w.channel;
  intervals = w.intervals;
  track = w.track;
  routed = record { meant = so w.channel w.routed.meant; nets = w.routed.nets; lowest = w.routed.lowest; count = w.routed.count };
  net = w.net;
  drawn = w.drawn;
}

trunk_so : (P Q : Channel → Type 0) (wire : Wire) (tracks number : ℕ) (y : ℤ) → ((ch : Channel) → P ch → Q ch) → IsTrunkAt P wire tracks number y
    → IsTrunkAt Q wire tracks number y
trunk_so P Q wire tracks number y so t = record {
  channel = t.channel;
  intervals = t.intervals;
  track = t.track;
  routed = record { meant = so t.channel t.routed.meant; nets = t.routed.nets; lowest = t.routed.lowest; count = t.routed.count };
  interval = t.interval;
  on = t.on;
  has = t.has;
  at = t.at;
}

pins_so : (pins : List ChannelPin) (P Q : ℕ → ℤ → Type 0) → ((number : ℕ) (x : ℤ) → P number x → Q number x)
    → ((number : ℕ) (x : ℤ) → Q number x → P number x) → ArePins pins P → ArePins pins Q
pins_so pins P Q to back are number x = ((λ there. to number x ((are number x).0 there)), (λ meets. (are number x).1 (back number x meets)))

module _ (plan : Organization) (built : IsBuildable plan) (kit : LayoutKit) (wire : Wire) (tracks : Tracks) (f : Floorplan) where
  abbrev by : PinShapes → LayoutKit
  by a = with_pins kit a

  -- what the channels' pins meet

  abbrev ColumnTop : PinShapes → ℕ → ℤ → Type 0
  ColumnTop a = Numbered (column_nets plan) (MeetsColumnTop plan (by a) f)

  abbrev ColumnBottom : PinShapes → ℕ → ℤ → Type 0
  ColumnBottom a = Numbered (column_nets plan) (MeetsColumnBottom plan (by a) f)

  abbrev MainTop : PinShapes → ℕ → ℤ → Type 0
  MainTop a = Numbered (main_nets plan) (MeetsMainTopOfBanks plan (by a) wire f)

  abbrev MainBottom : PinShapes → ℕ → ℤ → Type 0
  MainBottom a = Numbered (main_nets plan) (MeetsMainBottom plan (by a) f)

  -- places don't depend on pins

  total_same : (a b : PinShapes) (cells : List LogicCell) → total_width plan (by a) cells ≡ total_width plan (by b) cells
  total_same a b [] = refl
  total_same a b (c ∷ cs) = ap (λ (n : ℕ). kit.width (role plan (LogicAt c)) + n) (total_same a b cs)

  in_row_same : (a b : PinShapes) (cell : LogicCell) (place : Place) → StandsInRow plan (by a) f cell place → StandsInRow plan (by b) f cell place
  in_row_same a b cell place s = record {
    before = s.before;
    after = s.after;
    row = s.row;
    at = subst (λ (n : ℕ). place ≡ upright (f.logic_x +ℤ pos n) (pos 0)) (total_same a b s.before) s.at;
  }

  stands_same : (a b : PinShapes) (leaf : LeafInstance) (place : Place) → IsPlaceOf plan (by a) f leaf place → IsPlaceOf plan (by b) f leaf place
  stands_same a b (BitAt bank r c) place s = s
  stands_same a b (NandAt bank r) place s = s
  stands_same a b (DriverAt bank r) place s = s
  stands_same a b (PrechargeAt bank c) place s = s
  stands_same a b (WriteAt bank i) place s = s
  stands_same a b (SenseAt bank i) place s = s
  stands_same a b (MuxAt bank c) place s = s
  stands_same a b (TieAt bank c) place s = s
  stands_same a b (LogicAt cell) place s = in_row_same a b cell place s

  -- a pin that is demanded

  pin_same : (a b : PinShapes) (leaf : LeafInstance) (port metal : ℕ) (net : Net) (r : Rect) → AreAlikeWhereDemanded a b
      → IsDemandedPort (role plan leaf) port metal → IsPin plan (by a) f leaf port metal net r → IsPin plan (by b) f leaf port metal net r
  pin_same a b leaf port metal net r alike demanded p = record {
    has = p.has;
    on = p.on;
    place = p.place;
    stands = stands_same a b leaf p.place p.stands;
    image = subst (λ (q : Rect). IsImage (placed p.place) q r) (alike (role plan leaf) port metal demanded) p.image;
  }

  from_same : (a b : PinShapes) (leaf : LeafInstance) (port metal : ℕ) (net : Net) (x : ℤ) → AreAlikeWhereDemanded a b
      → IsDemandedPort (role plan leaf) port metal → IsPinFrom plan (by a) f leaf port metal net x → IsPinFrom plan (by b) f leaf port metal net x
  from_same a b leaf port metal net x alike demanded p = record {
    rect = p.rect;
    is = pin_same a b leaf port metal net p.rect alike demanded p.is;
    begins = p.begins;
  }

  -- the column channel

  column_top_same : (a b : PinShapes) → AreAlikeWhereDemanded a b → (number : ℕ) (x : ℤ)
      → ColumnTop a number x → ColumnTop b number x
  column_top_same a b alike number x (net, listed, (c, port, p)) =
      (net, listed, (c, port, from_same a b (column_leaf plan.col_bits 0 c) port 3 net x alike (column_asked plan number c port net listed p.is.on) p))

  column_bottom_same : (a b : PinShapes) → AreAlikeWhereDemanded a b → (number : ℕ) (x : ℤ) → ColumnBottom a number x
      → ColumnBottom b number x
  column_bottom_same a b alike number x (net, listed, (i, port, p)) =
      (net, listed, (i, port, from_same a b (SenseAt 0 i) port 1 net x alike (lines_asked plan number i port net listed p.is.on) p))

  column_same : (a b : PinShapes) → AreAlikeWhereDemanded a b → (ch : Channel) → IsColumnChannel plan (by a) wire f ch
      → IsColumnChannel plan (by b) wire f ch
  column_same a b alike ch is = record {
    low = is.low;
    nets = is.nets;
    top = pins_so ch.top (ColumnTop a) (ColumnTop b) (column_top_same a b alike) (column_top_same b a (alike_back a b alike)) is.top;
    bottom = pins_so ch.bottom (ColumnBottom a) (ColumnBottom b) (column_bottom_same a b alike) (column_bottom_same b a (alike_back a b alike)) is.bottom;
    exits = is.exits;
  }

  -- the main channel

  main_top_same : (a b : PinShapes) → AreAlikeWhereDemanded a b → (number : ℕ) (x : ℤ) → MainTop a number x
      → MainTop b number x
  main_top_same a b alike number x (net, listed, (bank, below, inl rail)) = (net, listed, (bank, below, inl rail))
  main_top_same a b alike number x (net, listed, (bank, below, inr (inl (i, p)))) =
      (net, listed, (bank, below, inr (inl (i, from_same a b (WriteAt bank i) 0 3 net x alike write_din p))))
  main_top_same a b alike number x (net, listed, (bank, below, inr (inr (inl (i, p))))) =
      (net, listed, (bank, below, inr (inr (inl (i, from_same a b (WriteAt bank i) 3 3 net x alike write_en p)))))
  main_top_same a b alike number x (net, listed, (bank, below, inr (inr (inr (i, p))))) =
      (net, listed, (bank, below, inr (inr (inr (i, from_same a b (SenseAt bank i) 2 3 net x alike sense_dout p)))))

  main_bottom_same : (a b : PinShapes) → AreAlikeWhereDemanded a b → (number : ℕ) (x : ℤ)
      → MainBottom a number x → MainBottom b number x
  main_bottom_same a b alike number x (net, listed, (cell, port, p)) =
      (net, listed, (cell, port, from_same a b (LogicAt cell) port 1 net x alike (logic_asked plan number port cell net built p.is.has listed p.is.on) p))

  main_same : (a b : PinShapes) → AreAlikeWhereDemanded a b → (ch : Channel) → IsMainChannel plan (by a) wire f ch
      → IsMainChannel plan (by b) wire f ch
  main_same a b alike ch is = record {
    low = is.low;
    nets = is.nets;
    top = pins_so ch.top (MainTop a) (MainTop b) (main_top_same a b alike) (main_top_same b a (alike_back a b alike)) is.top;
    bottom = pins_so ch.bottom (MainBottom a) (MainBottom b) (main_bottom_same a b alike) (main_bottom_same b a (alike_back a b alike)) is.bottom;
    exits = is.exits;
  }

  -- taps and rails

  pin_tap_same : (a b : PinShapes) (leaf : LeafInstance) (net : Net) (y end : ℤ) → AreAlikeWhereDemanded a b
      → ((port : ℕ) → slice_get (ports plan leaf) port ≡ Some net → IsDemandedPort (role plan leaf) port 2) → IsPinTap plan (by a) f leaf net y end
      → IsPinTap plan (by b) f leaf net y end
  pin_tap_same a b leaf net y end alike demanded t = record {
    port = t.port;
    rect = t.rect;
    pin = pin_same a b leaf t.port 2 net t.rect alike (demanded t.port t.pin.on) t.pin;
    at = t.at;
    ends = t.ends;
  }

  tap_of_net_same : (a b : PinShapes) (rail : ℕ) (net : Net) (x y end : ℤ) → AreAlikeWhereDemanded a b → slice_get (rail_nets plan 0) rail ≡ Some net
      → IsTapOfNet plan (by a) wire tracks.column f net x y end → IsTapOfNet plan (by b) wire tracks.column f net x y end
  tap_of_net_same a b rail net x y end alike on (inl (r, t)) =
      inl (r, pin_tap_same a b (NandAt 0 r) net y end alike (λ port at. gate_asked plan rail r port net built on at) t)
  tap_of_net_same a b rail net x y end alike on (inr (inl (r, t))) =
      inr (inl (r, pin_tap_same a b (DriverAt 0 r) net y end alike (λ port at. driver_asked plan rail r port net on at) t))
  tap_of_net_same a b rail net x y end alike on (inr (inr (inl (i, last, t)))) =
      inr (inr (inl (i, last, pin_tap_same a b (SenseAt 0 i) net y end alike (λ port at. enable_asked plan rail i port net on at) t)))
  tap_of_net_same a b rail net x y end alike on (inr (inr (inr (inl (c, last, t))))) =
      inr (inr (inr (inl (c, last, pin_tap_same a b (PrechargeAt 0 c) net y end alike (λ port at. precharge_asked plan rail c port net on at) t))))
  tap_of_net_same a b rail net x y end alike on (inr (inr (inr (inr t)))) = inr (inr (inr (inr (record {
    number = t.number;
    choice = t.choice;
    trunk = trunk_so (IsColumnChannel plan (by a) wire f) (IsColumnChannel plan (by b) wire f) wire tracks.column t.number y (column_same a b alike) t.trunk;
    ends = t.ends;
  }))))

  tap_same : (a b : PinShapes) (x y end : ℤ) → AreAlikeWhereDemanded a b → IsTapAt plan (by a) wire tracks.column f x y end
      → IsTapAt plan (by b) wire tracks.column f x y end
  tap_same a b x y end alike t = record { net = t.net; rail = t.rail; tap = tap_of_net_same a b t.rail.rail t.net x y end alike t.rail.on t.tap }

  tap_wire_same : (a b : PinShapes) (s : Shape) → AreAlikeWhereDemanded a b → IsTapWire plan (by a) wire tracks.column f s
      → IsTapWire plan (by b) wire tracks.column f s
  tap_wire_same a b s alike w = record { x = w.x; y = w.y; end = w.end; tap = tap_same a b w.x w.y w.end alike w.tap; drawn = w.drawn }

  rail_wire_same : (a b : PinShapes) (s : Shape) → AreAlikeWhereDemanded a b → IsRailWire plan (by a) wire tracks.column f s
      → IsRailWire plan (by b) wire tracks.column f s
  rail_wire_same a b s alike w = record {
    x = w.x;
    y = w.y;
    end = w.end;
    tap = tap_same a b w.x w.y w.end alike w.tap;
    highest = λ other other_end t. w.highest other other_end (tap_same b a w.x other other_end (alike_back a b alike) t);
    drawn = w.drawn;
  }

  output_same : (a b : PinShapes) (s : Shape) → AreAlikeWhereDemanded a b → IsOutputWire plan (by a) wire f s → IsOutputWire plan (by b) wire f s
  output_same a b s alike w = record {
    bit = w.bit;
    below = w.below;
    net = w.net;
    rect = w.rect;
    pin = pin_same a b (SenseAt 0 w.bit) 2 3 w.net w.rect alike sense_dout w.pin;
    drawn = w.drawn;
  }

  bank_same : (a b : PinShapes) (s : Shape) → AreAlikeWhereDemanded a b → IsWireInBank plan (by a) wire tracks f s
      → IsWireInBank plan (by b) wire tracks f s
  bank_same a b s alike (inl w) =
      inl (routed_so (IsColumnChannel plan (by a) wire f) (IsColumnChannel plan (by b) wire f) wire tracks.column s (column_same a b alike) w)
  bank_same a b s alike (inr (inl w)) = inr (inl (tap_wire_same a b s alike w))
  bank_same a b s alike (inr (inr (inl w))) = inr (inr (inl (rail_wire_same a b s alike w)))
  bank_same a b s alike (inr (inr (inr (inl w)))) = inr (inr (inr (inl (output_same a b s alike w))))
  bank_same a b s alike (inr (inr (inr (inr w)))) = inr (inr (inr (inr w)))

  -- supplies and labels stand where they do

  trunk_same : (a b : PinShapes) → trunk_x plan (by a) wire f ≡ trunk_x plan (by b) wire f
  trunk_same a b =
      ap (λ (n : ℕ). int_max (pos (banks_of plan) *ℤ f.bank_width) (f.logic_x +ℤ pos n) +ℤ wire.space) (total_same a b (logic_cells plan))

  abbrev PowerFrom : PinShapes → ℤ → Shape → Type 0
  PowerFrom a x s = IsSupplyTrunk (by a) wire f x s ⊎ ((u : ℤ) × (v : ℤ) × IsPowerBarAt plan (by a) wire f u v × IsBar wire x u v s)

  abbrev GroundFrom : PinShapes → ℤ → Shape → Type 0
  GroundFrom a x s = IsSupplyTrunk (by a) wire f (x +ℤ pitch wire) s ⊎ ((u : ℤ) × (v : ℤ) × IsGroundBarAt plan (by a) f u v × IsBar wire (x +ℤ pitch wire) u v s)

  power_same : (a b : PinShapes) (s : Shape) → IsPowerWire plan (by a) wire f s → IsPowerWire plan (by b) wire f s
  power_same a b s w = subst (λ (x : ℤ). PowerFrom b x s) (trunk_same a b) w

  ground_same : (a b : PinShapes) (s : Shape) → IsGroundWire plan (by a) wire f s → IsGroundWire plan (by b) wire f s
  ground_same a b s w = subst (λ (x : ℤ). GroundFrom b x s) (trunk_same a b) w

  macro_same : (a b : PinShapes) (s : Shape) → AreAlikeWhereDemanded a b → IsWireInMacro plan (by a) wire tracks f s
      → IsWireInMacro plan (by b) wire tracks f s
  macro_same a b s alike (inl w) =
      inl (routed_so (IsMainChannel plan (by a) wire f) (IsMainChannel plan (by b) wire f) wire tracks.main s (main_same a b alike) w)
  macro_same a b s alike (inr (inl w)) = inr (inl (power_same a b s w))
  macro_same a b s alike (inr (inr w)) = inr (inr (ground_same a b s w))

  label_same : (a b : PinShapes) (l : PlacedLabel) → AreAlikeWhereDemanded a b → IsLabelInMacro plan (by a) wire tracks f l
      → IsLabelInMacro plan (by b) wire tracks f l
  label_same a b l alike (inl p) = inl (record {
    number = p.number;
    net = p.net;
    port = p.port;
    y = p.y;
    trunk = trunk_so (IsMainChannel plan (by a) wire f) (IsMainChannel plan (by b) wire f) wire tracks.main p.number p.y (main_same a b alike) p.trunk;
    text = p.text;
  })
  label_same a b l alike (inr (inl t)) = inr (inl (subst (λ (x : ℤ). IsTextAt wire 1 (codes "vdd") x (pos 0) l) (trunk_same a b) t))
  label_same a b l alike (inr (inr t)) = inr (inr (subst (λ (x : ℤ). IsTextAt wire 1 (codes "gnd") (x +ℤ pitch wire) (pos 0) l) (trunk_same a b) t))

  layouts_same : (a b : PinShapes) → AreAlikeWhereDemanded a b → AreSameLayouts plan (by a) (by b) wire tracks f
  layouts_same a b alike = record {
    bank = λ s. (bank_same a b s alike, bank_same b a s (alike_back a b alike));
    macro = λ s. (macro_same a b s alike, macro_same b a s (alike_back a b alike));
    labels = λ l. (label_same a b l alike, label_same b a l (alike_back a b alike));
  }

pub demanded_alone : (plan : Organization) (kit : LayoutKit) (a b : PinShapes) (wire : Wire) (tracks : Tracks) (f : Floorplan) → IsBuildable plan
    → AreAlikeWhereDemanded a b → AreSameLayouts plan (with_pins kit a) (with_pins kit b) wire tracks f
demanded_alone plan kit a b wire tracks f built alike = layouts_same plan built kit wire tracks f a b alike

kit_alike : (kit : Kit) → IsKit kit → (stands : PinShapes) → AreAlikeWhereDemanded (layout_kit kit).pin (shapes_or kit stands)
kit_alike kit is stands role port metal demanded =
    let there = demanded_there kit is role port metal demanded in
    ap shape_or_square there.1 ∙ sym (ap (rect_or (stands role port metal)) there.1)

pub missing_unused : (kit : Kit) (plan : Organization) (stands : PinShapes) (wire : Wire) (tracks : Tracks) (f : Floorplan) → IsKit kit
    → IsBuildable plan → AreSameLayouts plan (layout_kit kit) (with_pins (layout_kit kit) (shapes_or kit stands)) wire tracks f
missing_unused kit plan stands wire tracks f is built =
    demanded_alone plan (layout_kit kit) (layout_kit kit).pin (shapes_or kit stands) wire tracks f built (kit_alike kit is stands)
