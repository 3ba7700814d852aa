-- The flat lists of a macro are the stated layout.
use Rattle.std.proofs.Common.{◌≡◌, ◌↔◌, inl, inr, ℕ, zero, suc, ◌<◌, ℤ, pos, ◌+ℤ◌, List, [], ◌∷◌, Contains, Some, map, length, get_or, refl, ap, sym, subst, ◌∙◌, arith}
use Rattle.std.specs.Prelude.{codes, slice_get}
use Rattle.std.proofs.lemmas.Option.{same_Some, slice_get-get_or, get_or_from_slice_get}
use Rattle.std.proofs.lemmas.List.Elements.{Contains-append_left, Contains-append_right, Contains-append_cases}
use Rattle.or_geom.specs.declared.shape.Shape.{Shape}
use Rattle.or_geom.proofs.ListLaws.{contains_none, contains_cases, contains_here, contains_later}
use Rattle.cell_roles.specs.declared.role.Role.TheVariants.{Inv}
use Rattle.tech_rules.specs.declared.tech.Wire.{Wire}
use Rattle.channel_router.specs.declared.channel.Routed.{Routed}
use Rattle.channel_router.specs.Wires.{track_y, channel_height}
use Rattle.cell_builder.specs.declared.cell.PlacedLabel.{PlacedLabel}
use Rattle.cell_builder.specs.Libraries.{IsComplete}
use Rattle.sram_netlist.specs.Organization.{Organization, IsBuildable}
use Rattle.sram_netlist.specs.Names.{net_name}
use Rattle.sram_netlist.specs.Instances.{LeafInstance}
use Rattle.sram_netlist.specs.BitCells.{BitCells}
use Rattle.sram_netlist.specs.InstanceList.{tabulate}
use Rattle.sram_plan.specs.declared.numbers.Plan.{Plan}
use Rattle.sram_netlist.specs.Numbers.{ArePlanNumbers}
use Rattle.sram_plan.specs.PlanNumbers.{numbers_of, organization}
use Rattle.leaf_tables.specs.declared.kit.Kit.{Kit}
use Rattle.leaf_tables.specs.Kits.{IsKit}
use Rattle.macro_layout.specs.LayoutKit.{LayoutKit}
use Rattle.macro_layout.specs.Places.{Floorplan, leaf_cell}
use Rattle.macro_layout.specs.Floorplan.{Tracks, IsFloorplan, column_channel_y}
use Rattle.macro_layout.specs.Pins.{port_nets}
use Rattle.macro_layout.specs.Channels.{IsColumnChannel}
use Rattle.macro_layout.specs.Layout.{Drawing, IsMacroOf}
use Rattle.macro_layout.specs.Moved.{MainChannelsAreDrawn}
use Rattle.cell_hierarchy.specs.FlatLists.{AreFlatLists}
use Rattle.cell_hierarchy.specs.Plain.{FlatLists}
use Rattle.macro_layout.specs.Stated.{IsWireOfCell, IsDrawnAs, AreStated, FlatListsAreStated}
use Rattle.macro_layout.specs.Wires.{IsTextAt, IsPortLabel, IsLabelInMacro, trunk_x, ground_x}
use Rattle.macro_layout.proofs.RoutingLaws.{item_at, below_length}
use Rattle.floorplan.specs.LayoutOfKit.{layout_kit}
use Rattle.floorplan.specs.FloorplanNumbers.{floorplan_of}
use Rattle.macro_bounds.specs.Complete.{FlatCellsAreComplete}
use Rattle.macro_bounds.specs.Library.{MacroLibrariesAreMacros}
use Rattle.main_channel.proofs.TableLaws.{map_tabulated}
use Rattle.bank_layout.proofs.ListLaws.{in_tabulate, tabulate_has}
use Rattle.sram_macro.specs.declared.assembly.Macro.{Macro}
use Rattle.sram_macro.specs.declared.extents.Extents.{Extents}
use Rattle.sram_macro.specs.declared.layout.Layout.{Layout}
use Rattle.sram_macro.specs.declared.library.Wires.{Wires}
use Rattle.sram_macro.specs.Extents.{AreExtents}
use Rattle.sram_macro.specs.Library.{macro_list, drawing_with}
use Rattle.sram_macro.specs.Signals.{signal_names, input_count, signal_pin, signals_on_tracks, signal_label, supply_label, macro_labels}
use Rattle.port_data.specs.Column.{IsColumnOf}
use Rattle.port_lists.specs.Contents.{held_cells}
use Rattle.port_lists.specs.Held.{Held}
use Rattle.sram_macro.specs.Leaves.{HasCellsFor}
use Rattle.sram_macro.specs.Layout.{IsMainRouted, IsMacroLayout}
use Rattle.sram_macro.specs.Macro.{AreWiresOf, layout_pins, macro_bits, names_of_macro, IsMacro}
use Rattle.sram_macro.specs.Stated.{TakesTracks, MacrosAreStated}
use Rattle.sram_plan.specs.declared.view.Abstract.{Abstract}
use Rattle.view_cover.specs.View.{IsViewOf}
use Rattle.sram_macro.specs.View.{macro_view}
use Rattle.sram_macro.proofs.KitFacts.{free_structures}
use Rattle.sram_macro.proofs.HeldFacts.{leaves_flat}
use Rattle.sram_macro.proofs.SignalLaws.{names_are, names_count}
use Rattle.sram_macro.proofs.AssemblyLaws.{on_tracks}
use Rattle.sram_macro.proofs.MainChannelLaws.{main_wires, main_routed_by, main_trunks}

-- Labels

mapped_at : {A B : Type 0} (f : A → B) (xs : List A) (k : ℕ) (x : A) (d : B) → slice_get xs k ≡ Some x → get_or (map f xs) k d ≡ f x
mapped_at f [] k x d e = absurd cc
mapped_at f (y ∷ ys) zero x d e = ap f (same_Some y x e)
mapped_at f (y ∷ ys) (suc k) x d e = mapped_at f ys k x d e

abbrev label_of : Wire → ℤ → ℕ → List (List ℕ) → List ℕ → ℕ → PlacedLabel
label_of wire low inputs names track number = signal_label wire (signal_pin wire low inputs names track number)

-- the names of the signals are at the trunks of their nets
signals_stated : (plan : Organization) (kit : LayoutKit) (wire : Wire) (tracks : Tracks) (floorplan : Floorplan) (routed : Routed) (low inputs : ℕ) → IsMainRouted plan kit wire routed → IsFloorplan plan kit wire tracks floorplan → low ≡ kit.height Inv
    → (label : PlacedLabel) → Contains (map (signal_label wire) (signals_on_tracks wire (pos low) inputs (signal_names plan) routed.track)) label ↔ IsPortLabel plan kit wire routed.tracks floorplan label
signals_stated plan kit wire tracks floorplan routed low inputs is stands high label =
    let names = signal_names plan in
    let made = label_of wire (pos low) inputs names routed.track in
    let same = map_tabulated (signal_label wire) (length names) (signal_pin wire (pos low) inputs names routed.track) in
    let count = names_count plan in
    let each = (on_tracks plan kit wire routed is).each in (
      λ there.
          let one = in_tabulate (length names) made label (subst (λ (l : List PlacedLabel). Contains l label) same there) in
          let below = one.below in
          let net = item_at (port_nets plan) one.k (omega (arith, below, count)) in
          let at = slice_get-get_or routed.track one.k 0 (omega (arith, below, each)) in
          let y = track_y (pos low) wire (get_or routed.track one.k 0) in
          record {
            number = one.k;
            net = net.item;
            port = net.is;
            y = y;
            trunk = (main_trunks plan kit wire tracks floorplan routed is stands one.k y).1 (get_or routed.track one.k 0, at, ap (λ (n : ℕ). track_y (pos n) wire (get_or routed.track one.k 0)) high);
            text = record {
              layer = ap (λ (l : PlacedLabel). l.layer) one.is;
              text_is = ap (λ (l : PlacedLabel). l.text) one.is ∙ (ap (λ (l : List (List ℕ)). get_or l one.k []) (names_are plan) ∙ mapped_at (net_name plan) (port_nets plan) one.k net.item [] net.is);
              x_is = ap (λ (l : PlacedLabel). l.at.x) one.is;
              y_is = ap (λ (l : PlacedLabel). l.at.y) one.is;
            };
          },
      λ p.
          let here = below_length (port_nets plan) p.number p.net p.port in
          let below : p.number < length names = omega (arith, here, count) in
          let at = slice_get-get_or routed.track p.number 0 (omega (arith, below, each)) in
          let trunk = (main_trunks plan kit wire tracks floorplan routed is stands p.number p.y).0 p.trunk in
          let on : trunk.0 ≡ get_or routed.track p.number 0 = same_Some trunk.0 (get_or routed.track p.number 0) (sym trunk.1 ∙ at) in
          let y : label.at.y ≡ track_y (pos low) wire (get_or routed.track p.number 0) =
          p.text.y_is ∙ (trunk.2 ∙ (λ i. track_y (pos ((sym high) i)) wire (on i))) in
          let text : label.text ≡ get_or names p.number [] =
          p.text.text_is ∙ (sym (mapped_at (net_name plan) (port_nets plan) p.number p.net [] p.port) ∙ ap (λ (l : List (List ℕ)). get_or l p.number []) (sym (names_are plan))) in
          let is_made : label ≡ made p.number = λ i. record { layer = p.text.layer i; at = record { x = p.text.x_is i; y = y i }; text = text i } in
          subst (λ (l : List PlacedLabel). Contains l label) (sym same) (subst (Contains (tabulate (length names) made)) (sym is_made) (tabulate_has (length names) made p.number below)),
    )

text_is : (wire : Wire) (x : ℤ) (text : List ℕ) (at : ℤ) (label : PlacedLabel) → x ≡ at → (label ≡ supply_label wire x text) ↔ IsTextAt wire 1 text at (pos 0) label
text_is wire x text at label same = (
  λ e. record { layer = ap (λ (l : PlacedLabel). l.layer) e; text_is = ap (λ (l : PlacedLabel). l.text) e; x_is = ap (λ (l : PlacedLabel). l.at.x) e ∙ same; y_is = ap (λ (l : PlacedLabel). l.at.y) e },
  λ t. (λ i. record { layer = t.layer i; at = record { x = (t.x_is ∙ sym same) i; y = t.y_is i }; text = t.text_is i }),
)

-- The labels of the macro are the stated ones.
labels_stated : (plan : Organization) (kit : LayoutKit) (wire : Wire) (tracks : Tracks) (floorplan : Floorplan) (routed : Routed) (ends : Extents) (low inputs : ℕ) → IsMainRouted plan kit wire routed → IsFloorplan plan kit wire tracks floorplan
    → routed.tracks ≡ tracks.main → AreExtents plan kit wire floorplan ends → low ≡ kit.height Inv
    → (label : PlacedLabel) → Contains (macro_labels wire ends (signals_on_tracks wire (pos low) inputs (signal_names plan) routed.track)) label ↔ IsLabelInMacro plan kit wire tracks floorplan label
labels_stated plan kit wire tracks floorplan routed ends low inputs is stands counted extents high label =
    let ports = map (signal_label wire) (signals_on_tracks wire (pos low) inputs (signal_names plan) routed.track) in
    let vdd = supply_label wire ends.power_x (codes "vdd") in
    let gnd = supply_label wire ends.ground_x (codes "gnd") in
    let signal = signals_stated plan kit wire tracks floorplan routed low inputs is stands high label in
    let power = text_is wire ends.power_x (codes "vdd") (trunk_x plan kit wire floorplan) label extents.power_x in
    let ground = text_is wire ends.ground_x (codes "gnd") (ground_x plan kit wire floorplan) label extents.ground_x in (
      λ there. elim (Contains-append_cases ports (vdd ∷ gnd ∷ []) label there) [
        | inl port ↦ inl (subst (λ (n : ℕ). IsPortLabel plan kit wire n floorplan label) counted (signal.0 port))
        | inr supply ↦ inr (elim (contains_cases vdd (gnd ∷ []) label supply) [
          | inl e ↦ inl (power.0 e)
          | inr later ↦ elim (contains_cases gnd [] label later) [ inl e ↦ inr (ground.0 e) | inr none ↦ absurd (contains_none label none) ]
        ])
      ],
      λ stated. elim stated [
        | inl port ↦ Contains-append_left ports (vdd ∷ gnd ∷ []) label (signal.1 (subst (λ (n : ℕ). IsPortLabel plan kit wire n floorplan label) (sym counted) port))
        | inr (inl t) ↦ Contains-append_right ports (vdd ∷ gnd ∷ []) label (contains_here vdd (gnd ∷ []) label (power.1 t))
        | inr (inr t) ↦ Contains-append_right ports (vdd ∷ gnd ∷ []) label (contains_later vdd (gnd ∷ []) label (contains_here gnd [] label (ground.1 t)))
      ],
    )

-- The macro is drawn as stated.

abbrev pub tracks_of : Layout → Routed → Tracks
tracks_of layout column = record { main = layout.main.tracks; column = column.tracks }

drawn_as : MainChannelsAreDrawn → (kit : Kit) (plan : Organization) (bits : BitCells) (column : Routed) (layout : Layout) (wires : Wires) (is : IsMacroLayout kit plan column layout) → AreWiresOf plan (layout_kit kit) is.wire layout (layout_pins plan is.wire layout) wires
    → IsDrawnAs plan (layout_kit kit) is.wire (tracks_of layout column) (drawing_with bits layout.floorplan wires)
drawn_as law kit plan bits column layout wires is are =
    let small = layout_kit kit in
    let floorplan = floorplan_of layout.floorplan in
    let tracks = tracks_of layout column in
    record {
      floorplan = is.stands;
      wires = λ s.
          let main = main_wires law plan small is.wire tracks floorplan layout.main is.main is.stands s in (
            λ there. elim ((are.top s).0 there) [ inl m ↦ inl (main.0 m) | inr supply ↦ inr supply ],
            λ stated. (are.top s).1 (elim stated [ inl m ↦ inl (main.1 m) | inr supply ↦ inr supply ]),
          );
      bank_wires = λ s. subst (λ (l : List Shape). Contains l s ↔ IsWireOfCell plan small is.wire tracks floorplan s) (sym are.bank) (is.bank_wires layout.main.tracks s);
      labels = λ label. subst (λ (l : List PlacedLabel). Contains l label ↔ IsLabelInMacro plan small is.wire tracks floorplan label) (sym are.labels)
          (labels_stated plan small is.wire tracks floorplan layout.main layout.ends layout.sides.inv_height (input_count plan) is.main is.stands refl is.ends is.sides_of.inv_height label);
    }

-- All that a leaf cell of the kit reaches is in the kit's library.
leaves_whole : FlatCellsAreComplete → (kit : Kit) → IsKit kit → (plan : Organization) (held : Held) → HasCellsFor kit held → (leaf : LeafInstance) → IsComplete kit.lib.structs (leaf_cell plan (layout_kit kit) (held_cells kit.tech.roles plan held) leaf)
leaves_whole law kit is plan held has leaf =
    let flat = leaves_flat kit is plan held has leaf in
    law kit.tech.layers kit.lib.structs (leaf_cell plan (layout_kit kit) (held_cells kit.tech.roles plan held) leaf) flat.0 flat.1

-- The column channel takes its tracks.
pub column_tracks : (kit : Kit) (plan : Organization) (wire : Wire) (tracks : Tracks) (floorplan : Floorplan) (column : Routed) → IsBuildable plan → kit.tech.wire ≡ Some wire → IsColumnOf kit plan column → IsFloorplan plan (layout_kit kit) wire tracks floorplan
    → TakesTracks (IsColumnChannel plan (layout_kit kit) wire floorplan) wire column.tracks
column_tracks kit plan wire tracks floorplan column buildable wired of stands =
    let small = layout_kit kit in
    let long = of.each in
    let some = buildable.words in
    let first = item_at column.track 0 (omega (arith, long, some)) in
    let y = column_channel_y small floorplan +ℤ channel_height wire first.item in
    let trunk = ((of.stated wire floorplan wired (record { row_x = stands.row_x; sense_y = stands.sense_y })).trunks 0 y).1 (first.item, first.is, refl) in
    record { channel = trunk.channel; intervals = trunk.intervals; track = trunk.track; routed = trunk.routed }

-- Its library is the macro's.

-- the drawing of its cells
abbrev pub drawing_of : (kit : Kit) (plan : Plan) (held : Held) (name : List ℕ) (m : Macro) → IsMacro kit plan held name m → Drawing
drawing_of kit plan held name m is = drawing_with (macro_bits kit plan held) is.layout.floorplan is.drawn.wires

pub is_macro_of : MacroLibrariesAreMacros → FlatCellsAreComplete → (kit : Kit) (plan : Plan) (held : Held) (name : List ℕ) (m : Macro) → IsKit kit → IsBuildable (organization plan) → HasCellsFor kit held → (is : IsMacro kit plan held name m)
    → IsMacroOf kit.tech.layers kit.lib.structs (macro_list kit (organization plan) name (drawing_of kit plan held name m is)).cells m.lib.structs (organization plan) (layout_kit kit) name (drawing_of kit plan held name m is)
is_macro_of law whole kit plan held name m is_kit buildable has is =
    let d = drawing_of kit plan held name m is in
    let on = is.drawn.layers in
    law kit.tech.layers (macro_list kit (organization plan) name d) m.lib (organization plan) (layout_kit kit) name d is.drawn.library refl (free_structures kit (names_of_macro kit plan held name) is_kit is.free) buildable
    (record { bank_wires = on.bank; wires = on.top; labels = on.labels }) (λ leaf there. leaves_whole whole kit is_kit (organization plan) held has leaf)

pub stated_layout : MainChannelsAreDrawn → FlatListsAreStated → MacroLibrariesAreMacros → FlatCellsAreComplete → (kit : Kit) (plan : Plan) (held : Held) (name : List ℕ) (m : Macro) → IsKit kit → ArePlanNumbers (numbers_of plan) → HasCellsFor kit held → (is : IsMacro kit plan held name m)
    → (lists : FlatLists) → AreFlatLists kit.tech.layers m.lib.structs name lists → AreStated kit.tech.layers kit.lib.structs (organization plan) (layout_kit kit) (macro_bits kit plan held) is.laid.is.wire (tracks_of is.layout is.laid.column) (floorplan_of is.layout.floorplan) lists
stated_layout main flat libraries whole kit plan held name m is_kit numbers has is lists are =
    let laid = is.laid.is in
    let column = is.laid.column in
    let wires = is.drawn.wires in
    let d = drawing_of kit plan held name m is in
    let one = same_Some is.drawn.wire laid.wire (sym is.drawn.wired ∙ laid.wired) in
    let drawn = drawn_as main kit (organization plan) (macro_bits kit plan held) column is.layout wires laid (subst (λ (w : Wire). AreWiresOf (organization plan) (layout_kit kit) w is.layout (layout_pins (organization plan) w is.layout) wires) one is.drawn.are) in
    flat kit.tech.layers kit.lib.structs (macro_list kit (organization plan) name d).cells m.lib.structs (organization plan) (layout_kit kit) name d laid.wire (tracks_of is.layout column)
    (is_macro_of libraries whole kit plan held name m is_kit numbers.plan has is) drawn lists are

-- Its view has the numbers of its floorplan, and each port's pin is at its trunk.
view_of : (kit : Kit) (plan : Plan) (held : Held) (name : List ℕ) (m : Macro) (is : IsMacro kit plan held name m) → IsViewOf (organization plan) (layout_kit kit) is.laid.is.wire (tracks_of is.layout is.laid.column) (floorplan_of is.layout.floorplan) m.view
view_of kit plan held name m is =
    let org = organization plan in
    let laid = is.laid.is in
    let wire = laid.wire in
    let layout = is.layout in
    let one = same_Some is.drawn.wire wire (sym is.drawn.wired ∙ laid.wired) in
    let view = subst (λ (w : Wire). m.view ≡ macro_view kit.tech.layers name w layout.ends (layout_pins org w layout)) one is.drawn.view in
    record {
      width = ap (λ (v : Abstract). v.width) view ∙ laid.ends.width;
      height = ap (λ (v : Abstract). v.height) view ∙ laid.ends.height;
      pitch_is = ap (λ (v : Abstract). v.pitch) view;
      supply_x = ap (λ (v : Abstract). v.supply_x) view ∙ laid.ends.power_x;
      space = ap (λ (v : Abstract). v.space) view;
      wire_is = ap (λ (v : Abstract). v.wire) view;
      signals = λ number y below trunk.
          let low = pos layout.sides.inv_height in
          let names = signal_names org in
          let made = signal_pin wire low (input_count org) names layout.main.track in
          let count = names_count org in
          let at = (main_trunks org (layout_kit kit) wire (tracks_of layout is.laid.column) (floorplan_of layout.floorplan) layout.main laid.main laid.stands number y).0 trunk in
          let on = get_or_from_slice_get layout.main.track number at.0 0 at.1 in
          let there = subst (λ (v : Abstract). Contains v.signals (made number)) (sym view) (tabulate_has (length names) made number (omega (arith, below, count))) in
          (made number, there, (λ i. track_y (pos (laid.sides_of.inv_height i)) wire (on i)) ∙ sym at.2);
    }

pub macros_are_stated : MainChannelsAreDrawn → FlatListsAreStated → MacroLibrariesAreMacros → FlatCellsAreComplete → MacrosAreStated
macros_are_stated main flat libraries whole kit plan held name m is_kit numbers is_held is lists are =
    let laid = is.laid.is in
    let column = is.laid.column in
    let tracks = tracks_of is.layout column in
    let floorplan = floorplan_of is.layout.floorplan in
    record {
      stated = record {
        wire = laid.wire;
        wired = laid.wired;
        tracks = tracks;
        floorplan = floorplan;
        stands = laid.stands;
        main = record {
          channel = laid.main.channel;
          intervals = laid.main.intervals;
          track = is.layout.main.track;
          routed = main_routed_by (organization plan) (layout_kit kit) laid.wire tracks floorplan is.layout.main laid.main laid.stands;
        };
        column = column_tracks kit (organization plan) laid.wire tracks floorplan column numbers.plan laid.wired is.laid.of laid.stands;
        are = stated_layout main flat libraries whole kit plan held name m is_kit numbers is_held.cells is lists are;
      };
      view_of = view_of kit plan held name m is;
      wide = is.wide;
    }
