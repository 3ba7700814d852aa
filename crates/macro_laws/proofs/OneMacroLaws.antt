-- A kit and a plan have one macro under a name.
use Rattle.std.proofs.Common.{◌≡◌, ◌⊎◌, inl, inr, ℕ, ◌<◌, ℤ, pos, ◌+ℤ◌, List, Contains, Some, refl, sym, subst, ◌∙◌}
use Rattle.std.proofs.lemmas.Option.{same_Some}
use Rattle.std.specs.Prelude.{◌↔◌, Option, IfSome}
use Rattle.std.specs.List.Sorted.{IsStrictlySortedBy}
use Rattle.or_geom.specs.declared.shape.Shape.{Shape}
use Rattle.or_geom.specs.ShapeOrder.{shape_order}
use Rattle.or_geom.proofs.OneListLaws.{one_list}
use Rattle.or_geom.proofs.ShapeOrderLaws.{shape_total}
use Rattle.tech_rules.specs.declared.tech.Wire.{Wire}
use Rattle.tech_rules.specs.Facts.{AreSizes, IsWire}
use Rattle.channel_router.specs.declared.channel.Routed.{Routed}
use Rattle.cell_builder.specs.Finish.{IsLibraryOf}
use Rattle.sram_netlist.specs.BitCells.{BitCells}
use Rattle.sram_netlist.specs.Organization.{Organization}
use Rattle.sram_plan.specs.declared.view.SignalPin.{SignalPin}
use Rattle.sram_plan.specs.PlanNumbers.{organization}
use Rattle.leaf_tables.specs.declared.kit.Kit.{Kit}
use Rattle.macro_layout.specs.LayoutKit.{LayoutKit}
use Rattle.macro_layout.specs.Places.{Floorplan}
use Rattle.macro_layout.specs.Floorplan.{Tracks, IsFloorplan}
use Rattle.macro_layout.specs.Layout.{Drawing}
use Rattle.macro_layout.specs.Wires.{IsPowerWire, IsGroundWire}
use Rattle.macro_layout.specs.Channels.{IsMainChannel, IsChannelWire}
use Rattle.macro_layout.specs.Stated.{IsWireOfCell}
use Rattle.macro_layout.proofs.MovedLaws.{main_channels_are_drawn}
use Rattle.floorplan.specs.LayoutOfKit.{layout_kit}
use Rattle.floorplan.specs.FloorplanNumbers.{floorplan_of}
use Rattle.floorplan.specs.Sides.{AreSidesOf}
use Rattle.port_data.specs.Column.{IsColumnOf}
use Rattle.bank_layout.specs.StatedWires.{AreWiresOfCell}
use Rattle.sram_macro.specs.declared.assembly.Macro.{Macro}
use Rattle.sram_macro.specs.declared.layout.Layout.{Layout}
use Rattle.sram_macro.specs.declared.library.Wires.{Wires}
use Rattle.sram_macro.specs.declared.extents.Extents.{Extents}
use Rattle.sram_macro.specs.Extents.{AreExtents}
use Rattle.sram_macro.specs.Layout.{IsMainRouted}
use Rattle.sram_macro.specs.Library.{drawing_with, macro_list}
use Rattle.sram_macro.specs.Macro.{IsLaidOut, IsDrawnFrom, AreWiresOf, layout_pins, macro_bits}
use Rattle.sram_macro.specs.Signals.{macro_labels, signals_on_tracks, signal_names, input_count}
use Rattle.sram_macro.specs.View.{macro_view}
use Rattle.sram_macro.proofs.MainChannelLaws.{main_wires}
use Rattle.macro_laws.specs.OneMacro.{MacrosAreUnique}
use Rattle.macro_laws.proofs.RouteLaws.{IsOneRouting}
use Rattle.macro_laws.proofs.LayoutLaws.{one_floorplan, one_column_routing, one_main_routing}
use Rattle.macro_laws.proofs.LibraryLaws.{one_library}

one_ends : (plan : Organization) (kit : LayoutKit) (wire : Wire) (floorplan : Floorplan) (a b : Extents) → AreExtents plan kit wire floorplan a → AreExtents plan kit wire floorplan b → a ≡ b
one_ends plan kit wire floorplan a b p q =
    let power_x = p.power_x ∙ sym q.power_x in
    let ground_x = p.ground_x ∙ sym q.ground_x in
    let width = p.width ∙ sym q.width in
    let height = p.height ∙ sym q.height in
    λ i. record { power_x = power_x i; ground_x = ground_x i; width = width i; height = height i }

-- what a layout fixes
record IsOneLayout (plan : Organization) (kit : LayoutKit) (wire : Wire) (a b : Layout) : Type 0 where
  floorplan : floorplan_of a.floorplan ≡ floorplan_of b.floorplan
  ends : a.ends ≡ b.ends
  row : a.sides.inv_height ≡ b.sides.inv_height
  track : a.main.track ≡ b.main.track
  tracks : a.main.tracks ≡ b.main.tracks
  bank : a.bank.items ≡ b.bank.items
  main : (s : Shape) → Contains a.main.shapes s ↔ Contains b.main.shapes s

both_ways : {A B C : Type 0} → A ↔ B → C ↔ B → A ↔ C
both_ways f g = (λ a. g.1 (f.0 a), λ c. f.1 (g.0 c))

-- the facts of a layout at the wire of its kit
record StandsSo (kit : Kit) (plan : Organization) (wire : Wire) (column : Routed) (a : Layout) : Type 0 where
  of : IsColumnOf kit plan column
  stands : IsFloorplan plan (layout_kit kit) wire (record { main = a.main.tracks; column = column.tracks }) (floorplan_of a.floorplan)
  ends : AreExtents plan (layout_kit kit) wire (floorplan_of a.floorplan) a.ends
  rises : IsStrictlySortedBy shape_order a.bank.items
  bank : AreWiresOfCell plan (layout_kit kit) wire column.tracks (floorplan_of a.floorplan) a.bank.items
  main : IsMainRouted plan (layout_kit kit) wire a.main
  sides : AreSidesOf plan (layout_kit kit) a.sides

stands_so : (kit : Kit) (plan : Organization) (wire : Wire) (a : Layout) → kit.tech.wire ≡ Some wire → (laid : IsLaidOut kit plan a) → StandsSo kit plan wire laid.column a
stands_so kit plan wire a wired laid =
    let is = laid.is in
    let lk = layout_kit kit in
    let fl = floorplan_of a.floorplan in
    let same = same_Some is.wire wire (sym is.wired ∙ wired) in
    record {
      of = laid.of;
      stands = subst (λ (w : Wire). IsFloorplan plan lk w (record { main = a.main.tracks; column = laid.column.tracks }) fl) same is.stands;
      ends = subst (λ (w : Wire). AreExtents plan lk w fl a.ends) same is.ends;
      rises = is.bank_rises;
      bank = subst (λ (w : Wire). AreWiresOfCell plan lk w laid.column.tracks fl a.bank.items) same is.bank_wires;
      main = subst (λ (w : Wire). IsMainRouted plan lk w a.main) same is.main;
      sides = is.sides_of;
    }

record IsOneRoutingOf (c d : Routed) (a b : Layout) : Type 0 where
  column : c.tracks ≡ d.tracks
  main : IsOneRouting a.main.track b.main.track a.main.tracks b.main.tracks

routings : (kit : Kit) (plan : Organization) (wire : Wire) (c d : Routed) (a b : Layout) → AreSizes wire → kit.tech.wire ≡ Some wire → 0 < plan.word_size → StandsSo kit plan wire c a → StandsSo kit plan wire d b → IsOneRoutingOf c d a b
routings kit plan wire c d a b sizes wired some p q =
    let lk = layout_kit kit in
    let fl = floorplan_of a.floorplan in
    record {
      column = (one_column_routing kit plan wire fl c d sizes wired some (record { row_x = p.stands.row_x; sense_y = p.stands.sense_y }) p.of q.of).count;
      main = one_main_routing plan lk wire (record { main = a.main.tracks; column = c.tracks }) fl a.main b.main p.stands p.main q.main;
    }

floorplans : (kit : Kit) (plan : Organization) (wire : Wire) (c d : Routed) (a b : Layout) → IsOneRoutingOf c d a b → StandsSo kit plan wire c a → StandsSo kit plan wire d b → floorplan_of a.floorplan ≡ floorplan_of b.floorplan
floorplans kit plan wire c d a b one p q =
    let tracks : ◌≡◌ {A = Tracks} (record { main = b.main.tracks; column = d.tracks }) (record { main = a.main.tracks; column = c.tracks }) = λ i. record { main = sym one.main.count i; column = sym one.column i } in
    one_floorplan plan (layout_kit kit) wire (record { main = a.main.tracks; column = c.tracks }) (floorplan_of a.floorplan) (floorplan_of b.floorplan) p.stands
    (subst (λ (t : Tracks). IsFloorplan plan (layout_kit kit) wire t (floorplan_of b.floorplan)) tracks q.stands)

one_layout : (kit : Kit) (plan : Organization) (wire : Wire) (c d : Routed) (a b : Layout) → IsOneRoutingOf c d a b → StandsSo kit plan wire c a → StandsSo kit plan wire d b → IsOneLayout plan (layout_kit kit) wire a b
one_layout kit plan wire c d a b one p q =
    let lk = layout_kit kit in
    let fl = floorplan_of a.floorplan in
    let same = floorplans kit plan wire c d a b one p q in
    let tracks : Tracks = record { main = a.main.tracks; column = c.tracks } in
    let banks : (s : Shape) → Contains a.bank.items s ↔ Contains b.bank.items s =
    λ s. both_ways (p.bank 0 s) (subst (λ (f : Floorplan). Contains b.bank.items s ↔ IsWireOfCell plan lk wire (record { main = 0; column = c.tracks }) f s) (sym same) (subst (λ (n : ℕ). Contains b.bank.items s ↔ IsWireOfCell plan lk wire (record { main = 0; column = n }) (floorplan_of b.floorplan) s) (sym one.column) (q.bank 0 s))) in
    record {
      floorplan = same;
      ends = one_ends plan lk wire fl a.ends b.ends p.ends (subst (λ (f : Floorplan). AreExtents plan lk wire f b.ends) (sym same) q.ends);
      row = p.sides.inv_height ∙ sym q.sides.inv_height;
      track = one.main.tracks;
      tracks = one.main.count;
      bank = one_list shape_order shape_total a.bank.items b.bank.items p.rises q.rises (record { there = λ s. (banks s).0; back = λ s. (banks s).1 });
      main = λ s. both_ways (main_wires main_channels_are_drawn plan lk wire tracks fl a.main p.main p.stands s) (subst (λ (n : ℕ). Contains b.main.shapes s ↔ IsChannelWire (IsMainChannel plan lk wire fl) wire n s) (sym one.main.count) (main_wires main_channels_are_drawn plan lk wire tracks fl b.main q.main p.stands s));
    }

-- wires and labels

same_pins : (plan : Organization) (kit : LayoutKit) (wire : Wire) (a b : Layout) → IsOneLayout plan kit wire a b → layout_pins plan wire a ≡ layout_pins plan wire b
same_pins plan kit wire a b one = λ i. signals_on_tracks wire (pos (one.row i)) (input_count plan) (signal_names plan) (one.track i)

top_of : (plan : Organization) (kit : LayoutKit) (wire : Wire) (a b : Layout) → IsOneLayout plan kit wire a b → (s : Shape)
    → Contains a.main.shapes s ⊎ (IsPowerWire plan kit wire (floorplan_of a.floorplan) s ⊎ IsGroundWire plan kit wire (floorplan_of a.floorplan) s)
    → Contains b.main.shapes s ⊎ (IsPowerWire plan kit wire (floorplan_of b.floorplan) s ⊎ IsGroundWire plan kit wire (floorplan_of b.floorplan) s)
top_of plan kit wire a b one s (inl h) = inl ((one.main s).0 h)
top_of plan kit wire a b one s (inr supply) = inr (subst (λ (f : Floorplan). IsPowerWire plan kit wire f s ⊎ IsGroundWire plan kit wire f s) one.floorplan supply)

turned : (plan : Organization) (kit : LayoutKit) (wire : Wire) (a b : Layout) → IsOneLayout plan kit wire a b → IsOneLayout plan kit wire b a
turned plan kit wire a b one = record {
  floorplan = sym one.floorplan;
  ends = sym one.ends;
  row = sym one.row;
  track = sym one.track;
  tracks = sym one.tracks;
  bank = sym one.bank;
  main = λ s. ((one.main s).1, (one.main s).0);
}

-- the wires of one layout are those of the other
top_there : (plan : Organization) (kit : LayoutKit) (wire : Wire) (a b : Layout) (ps qs : List SignalPin) (v w : Wires) → IsOneLayout plan kit wire a b → AreWiresOf plan kit wire a ps v → AreWiresOf plan kit wire b qs w → (s : Shape) → Contains v.top.items s → Contains w.top.items s
top_there plan kit wire a b ps qs v w one p q s h = (q.top s).1 (top_of plan kit wire a b one s ((p.top s).0 h))

same_drawing : (bits : BitCells) (plan : Organization) (kit : LayoutKit) (wire : Wire) (a b : Layout) (v w : Wires) → IsOneLayout plan kit wire a b → AreWiresOf plan kit wire a (layout_pins plan wire a) v → AreWiresOf plan kit wire b (layout_pins plan wire b) w
    → drawing_with bits a.floorplan v ≡ drawing_with bits b.floorplan w
same_drawing bits plan kit wire a b v w one p q =
    let back = turned plan kit wire a b one in
    let ps = layout_pins plan wire a in
    let qs = layout_pins plan wire b in
    let bank = p.bank ∙ one.bank ∙ sym q.bank in
    let top = one_list shape_order shape_total v.top.items w.top.items p.top_rises q.top_rises (record { there = top_there plan kit wire a b ps qs v w one p q; back = top_there plan kit wire b a qs ps w v back q p }) in
    let pins = same_pins plan kit wire a b one in
    let labels = p.labels ∙ (λ i. macro_labels wire (one.ends i) (pins i)) ∙ sym q.labels in
    λ i. record { bits = bits; floorplan = one.floorplan i; bank_wires = bank i; wires = top i; labels = labels i }

-- what is drawn at the wire of the kit
record IsDrawnWith (kit : Kit) (plan : Organization) (bits : BitCells) (name : List ℕ) (wire : Wire) (layout : Layout) (m : Macro) : Type 0 where
  wires : Wires
  are : AreWiresOf plan (layout_kit kit) wire layout (layout_pins plan wire layout) wires
  library : IsLibraryOf kit.tech.layers (macro_list kit plan name (drawing_with bits layout.floorplan wires)) name m.lib
  view : m.view ≡ macro_view kit.tech.layers name wire layout.ends (layout_pins plan wire layout)
  tracks : m.tracks ≡ layout.main.tracks

drawn_with : (kit : Kit) (plan : Organization) (bits : BitCells) (name : List ℕ) (wire : Wire) (layout : Layout) (m : Macro) → kit.tech.wire ≡ Some wire → IsDrawnFrom kit plan bits name layout m → IsDrawnWith kit plan bits name wire layout m
drawn_with kit plan bits name wire layout m wired p =
    let same = same_Some p.wire wire (sym p.wired ∙ wired) in
    record {
      wires = p.wires;
      are = subst (λ (w : Wire). AreWiresOf plan (layout_kit kit) w layout (layout_pins plan w layout) p.wires) same p.are;
      library = p.library;
      view = subst (λ (w : Wire). m.view ≡ macro_view kit.tech.layers name w layout.ends (layout_pins plan w layout)) same p.view;
      tracks = p.tracks;
    }

one_drawn : (kit : Kit) (plan : Organization) (bits : BitCells) (name : List ℕ) (wire : Wire) (a b : Layout) (m n : Macro) → IsOneLayout plan (layout_kit kit) wire a b → IsDrawnWith kit plan bits name wire a m → IsDrawnWith kit plan bits name wire b n → m.deck ≡ n.deck → m ≡ n
one_drawn kit plan bits name wire a b m n one p q deck =
    let drawing = same_drawing bits plan (layout_kit kit) wire a b p.wires q.wires one p.are q.are in
    let lib = one_library kit.tech.layers (macro_list kit plan name (drawing_with bits b.floorplan q.wires)) name m.lib n.lib
    (subst (λ (d : Drawing). IsLibraryOf kit.tech.layers (macro_list kit plan name d) name m.lib) drawing p.library) q.library in
    let pins = same_pins plan (layout_kit kit) wire a b one in
    let view = p.view ∙ (λ i. macro_view kit.tech.layers name wire (one.ends i) (pins i)) ∙ sym q.view in
    let tracks = p.tracks ∙ one.tracks ∙ sym q.tracks in
    λ i. record { lib = lib i; deck = deck i; view = view i; tracks = tracks i }

pub one_macro : MacrosAreUnique
one_macro kit plan held name a b k p q =
    let org = organization plan in
    let bits = macro_bits kit plan held in
    let wire = k.wire in
    let is_wire = subst (λ (o : Option Wire). IfSome o (IsWire kit.tech.layers)) k.wired k.tech.wire in
    let some = p.laid.of.words in
    let s = stands_so kit org wire p.layout k.wired p.laid in
    let t = stands_so kit org wire q.layout k.wired q.laid in
    let routed = routings kit org wire p.laid.column q.laid.column p.layout q.layout is_wire.sizes k.wired some s t in
    let one = one_layout kit org wire p.laid.column q.laid.column p.layout q.layout routed s t in
    one_drawn kit org bits name wire p.layout q.layout a b one (drawn_with kit org bits name wire p.layout a k.wired p.drawn) (drawn_with kit org bits name wire q.layout b k.wired q.drawn) (p.deck ∙ sym q.deck)
