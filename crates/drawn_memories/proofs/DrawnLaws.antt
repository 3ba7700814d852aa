-- A macro that was assembled is a drawn memory.
use Rattle.std.proofs.Common.{◌≡◌, inl, inr, ◌∙◌, ℕ, ◌<◌, ℤ, ◌+ℤ◌, ◌-ℤ◌, List, refl, sym, ap, subst, arith}
use Rattle.std.specs.Prelude.{slice_index, Contains}
use Rattle.std.proofs.lemmas.Int.{ints}
use Rattle.cell_roles.specs.declared.role.Role.{Role}
use Rattle.cell_hierarchy.specs.FlatLists.{AreFlatLists}
use Rattle.cell_hierarchy.specs.Plain.{FlatLists}
use Rattle.tech_rules.specs.declared.tech.Wire.{Wire}
use Rattle.tech_rules.specs.Facts.{AreSizes}
use Rattle.channel_router.specs.declared.channel.Channel.{Channel}
use Rattle.channel_router.specs.declared.channel.ChannelPin.{ChannelPin}
use Rattle.channel_router.specs.Apart.{AreSevenLayers}
use Rattle.channel_router.specs.Channel.{IsPinOf}
use Rattle.sram_netlist.specs.Organization.{Organization, IsWritten}
use Rattle.sram_netlist.specs.Nets.{Control, Clk0}
use Rattle.sram_netlist.specs.Numbers.{ArePlanNumbers}
use Rattle.sram_plan.specs.declared.numbers.Plan.{Plan}
use Rattle.sram_plan.specs.PlanNumbers.{numbers_of, organization}
use Rattle.port_lists.specs.Held.Held.{Stored}
use Rattle.leaf_tables.specs.declared.kit.Kit.{Kit}
use Rattle.leaf_tables.specs.Kits.{IsKit}
use Rattle.leaf_tables.proofs.RoleLaws.{layer_at}
use Rattle.macro_layout.specs.LayoutKit.{LayoutKit}
use Rattle.macro_layout.specs.Places.{Floorplan, columns_x}
use Rattle.macro_layout.specs.Floorplan.{Tracks}
use Rattle.macro_layout.specs.Pins.{column_nets, main_nets}
use Rattle.macro_layout.specs.Channels.{Numbered, MeetsColumnTop, MeetsColumnBottom, IsColumnChannel, IsMainChannel}
use Rattle.macro_layout.proofs.RoutingLaws.{below_length}
use Rattle.macro_layout.proofs.MovedLaws.{main_channels_are_drawn}
use Rattle.macro_layout.proofs.StatedLaws.{flat_lists_are_stated}
use Rattle.floorplan.specs.LayoutOfKit.{layout_kit}
use Rattle.floorplan.proofs.DemandLaws.{wire_there, seven_in_kit}
use Rattle.macro_bounds.proofs.CompleteLaws.{flat_cells_are_complete}
use Rattle.macro_bounds.proofs.LibraryLaws.{macro_libraries_are_macros}
use Rattle.floorplan.specs.FloorplanNumbers.{floorplan_of}
use Rattle.port_data.specs.Column.{AreColumnPinsApart}
use Rattle.port_data.specs.Pins.{column_channel, columns_in}
use Rattle.port_data.proofs.MeetLaws.{top_line, top_choice, bottom_there}
use Rattle.port_data.proofs.NetLaws.{nets_long}
use Rattle.port_data.proofs.SenseLaws.{meets_sense}
use Rattle.port_data.proofs.TopLaws.{meets_top}
use Rattle.sram_macro.specs.declared.assembly.Macro.{Macro}
use Rattle.sram_macro.specs.Layout.{IsMacroLayout}
use Rattle.sram_macro.specs.Macro.{IsMacro}
use Rattle.sram_macro.specs.Stated.{TakesTracks}
use Rattle.sram_macro.proofs.MainChannelLaws.{main_routed_by}
use Rattle.sram_macro.proofs.StatedLaws.{tracks_of, column_tracks, stated_layout}
use Rattle.view_cover.proofs.KitLaws.{same_wire}
use Rattle.good_windows.proofs.FitLaws.{kits_fit_zones}
use Rattle.good_wires.specs.Channels.{ArePinsApart}
use Rattle.good_wires.specs.Drawn.{PinsFit, IsDrawnMemory}
use Rattle.good_wires.specs.Kept.{IsAmong}
use Rattle.drawn_memories.specs.Drawn.{IsDrawnMacro, MacrosAreDrawn}
use Rattle.drawn_memories.specs.Ports.{ports_below, ports_above}
use Rattle.drawn_memories.proofs.ApartLaws.{pins_apart}
use Rattle.drawn_memories.proofs.RouteLaws.{one_route, mains_are_one, columns_are_one, some_track}
use Rattle.drawn_memories.proofs.FitLaws.{pins_fit}
use Rattle.drawn_memories.proofs.PortLaws.{IsUpperPin, IsLowerPin, upper_pin, lower_pin}
use Rattle.drawn_memories.proofs.BottomLaws.{bottom_branches}
use Rattle.drawn_memories.proofs.TopLaws.{top_wires}
use Rattle.drawn_memories.proofs.RailLaws.{rail_pins, output_pins, masked}
use Rattle.drawn_memories.proofs.TapLaws.{taps_apart, reaches_tap, sense_taps}

-- Pins of a column channel are those of the formula, moved.

back_to : (x d : ℤ) → x ≡ (x -ℤ d) +ℤ d
back_to x d = omega (arith, ints)

apart_moved : (wire : Wire) (d : ℤ) (xs ys : List ChannelPin) → ((n : ℕ) (x : ℤ) → IsPinOf xs n x → IsPinOf ys n (x -ℤ d)) → ArePinsApart wire ys → ArePinsApart wire xs
apart_moved wire d xs ys moved apart n m x y p q = elim (apart n m (x -ℤ d) (y -ℤ d) (moved n x p) (moved m y q)) [
  | inl same ↦ inl (same.0, (let e = same.1 in omega (arith, ints, e)))
  | inr (inl before) ↦ inr (inl (omega (arith, ints, before)))
  | inr (inr after) ↦ inr (inr (omega (arith, ints, after)))
]

module _ (plan : Organization) (kit : LayoutKit) (wire : Wire) (f : Floorplan) (ch : Channel) (is : IsColumnChannel plan kit wire f ch) (apart : AreColumnPinsApart plan kit wire) where
  column_top : ArePinsApart wire ch.top
  column_top = apart_moved wire (columns_x plan kit f) ch.top (column_channel plan kit wire).top (λ n x p. elim (meets_top plan kit f n (x -ℤ columns_x plan kit f) (subst (Numbered (column_nets plan) (MeetsColumnTop plan kit f) n) (back_to x (columns_x plan kit f)) ((is.top n x).0 p))) [
    | inl line ↦ top_line plan.col_bits kit (columns_in plan kit) n (x -ℤ columns_x plan kit f) line
    | inr choice ↦ top_choice plan.col_bits kit (columns_in plan kit) n (x -ℤ columns_x plan kit f) choice
  ]) (pins_apart wire (column_channel plan kit wire).top (λ close. apart (inl close)))

  column_bottom : ArePinsApart wire ch.bottom
  column_bottom = apart_moved wire (columns_x plan kit f) ch.bottom (column_channel plan kit wire).bottom (λ n x p. bottom_there kit (columns_in plan kit) n (x -ℤ columns_x plan kit f)
      (meets_sense plan kit f n (x -ℤ columns_x plan kit f) (subst (Numbered (column_nets plan) (MeetsColumnBottom plan kit f) n) (back_to x (columns_x plan kit f)) ((is.bottom n x).0 p)))) (pins_apart wire (column_channel plan kit wire).bottom (λ close. apart (inr close)))

module _ (kit : Kit) (plan : Plan) (name : List ℕ) (m : Macro) (lists : FlatLists) (is : IsKit kit) (numbers : ArePlanNumbers (numbers_of plan)) (written : IsWritten (organization plan)) (made : IsMacro kit plan Stored name m) (flat : AreFlatLists kit.tech.layers m.lib.structs name lists) where
  abbrev org : Organization
  org = organization plan

  abbrev lk : LayoutKit
  lk = layout_kit kit

  abbrev laid : IsMacroLayout kit (organization plan) made.laid.column made.layout
  laid = made.laid.is

  abbrev wire : Wire
  wire = laid.wire

  abbrev f : Floorplan
  f = floorplan_of made.layout.floorplan

  abbrev tracks : Tracks
  tracks = tracks_of made.layout made.laid.column

  same : is.wire ≡ wire
  same = same_wire kit wire is laid.wired

  -- what is known of the kit's wire
  sizes : AreSizes wire
  sizes = subst AreSizes same (wire_there kit is).sizes

  seven : AreSevenLayers wire
  seven = subst AreSevenLayers same (seven_in_kit kit is)

  three : (k : ℕ) → k < 3 → Contains wire.cuts (slice_index wire.cuts k)
  three = subst (λ (w : Wire). (k : ℕ) → k < 3 → Contains w.cuts (slice_index w.cuts k)) same (λ k lt. layer_at is.wire.cuts k (let three = (wire_there kit is).three in omega (arith, three, lt)))

  fit : PinsFit lk wire
  fit = subst (PinsFit lk) same (pins_fit kit is)

  upper : (r : Role) (port : ℕ) → IsAmong ports_below r port → IsUpperPin lk wire r port
  upper = subst (λ (w : Wire). (r : Role) (port : ℕ) → IsAmong ports_below r port → IsUpperPin lk w r port) same (upper_pin kit is)

  lower : (r : Role) (port : ℕ) → IsAmong ports_above r port → IsLowerPin lk wire r port
  lower = subst (λ (w : Wire). (r : Role) (port : ℕ) → IsAmong ports_above r port → IsLowerPin lk w r port) same (lower_pin kit is)

  -- the channels
  abbrev main : TakesTracks (IsMainChannel org lk wire f) wire made.layout.main.tracks
  main = record { channel = laid.main.channel; intervals = laid.main.intervals; track = made.layout.main.track; routed = main_routed_by org lk wire tracks f made.layout.main laid.main laid.stands }

  column : TakesTracks (IsColumnChannel org lk wire f) wire made.laid.column.tracks
  column = column_tracks kit org wire tracks f made.laid.column numbers.plan laid.wired made.laid.of laid.stands

  drawn : IsDrawnMemory org lk wire tracks f
  drawn = record {
    laid = record {
      tracks = tracks;
      stands = laid.stands;
      fits = kits_fit_zones kit org is written made.wide;
      sizes = sizes;
      main = some_track (IsMainChannel org lk wire f) wire tracks.main main (let nets = main.routed.meant.nets in let some = below_length (main_nets org) 0 (Control Clk0) refl in omega (arith, nets, some));
      column = some_track (IsColumnChannel org lk wire f) wire tracks.column column (let nets = column.routed.meant.nets in let long = nets_long org in let words = numbers.plan.words in omega (arith, nets, long, words));
      written = written;
    };
    stands = laid.stands;
    seven = seven;
    three = three;
    pins = fit;
    main = one_route (IsMainChannel org lk wire f) wire tracks.main (mains_are_one org lk wire f) main (pins_apart wire laid.main.channel.top (λ close. laid.main.apart (inl close))) (pins_apart wire laid.main.channel.bottom (λ close. laid.main.apart (inr close)));
    column = one_route (IsColumnChannel org lk wire f) wire tracks.column (columns_are_one org lk wire f) column (column_top org lk wire f column.channel column.routed.meant (made.laid.of.apart wire laid.wired)) (column_bottom org lk wire f column.channel column.routed.meant (made.laid.of.apart wire laid.wired));
    rails = rail_pins org lk wire f laid.main.channel main.routed.meant;
    outputs = output_pins org lk wire f laid.main.channel main.routed.meant;
    sense_taps = λ i port net rect x rail pin. sense_taps kit org f wire is i port net rect x rail pin ∙ ap (λ (w : Wire). rect.y1 +ℤ w.width) same;
    taps = taps_apart kit plan is numbers made.laid.column made.laid.of made.layout laid;
  }

  on_wire : IsDrawnMacro kit org wire lists
  unfolding drawn
  on_wire = record {
    tracks = tracks;
    floorplan = f;
    drawn = drawn;
    main_lowest = main.routed.lowest;
    column_lowest = column.routed.lowest;
    branches = bottom_branches org lk wire tracks f drawn numbers.plan main column upper;
    tops = top_wires org lk wire tracks f drawn numbers.plan main column lower (masked org numbers.plan written);
    reaches = reaches_tap kit plan is numbers made.laid.column made.laid.of made.layout laid;
    stated = stated_layout main_channels_are_drawn flat_lists_are_stated macro_libraries_are_macros flat_cells_are_complete kit plan Stored name m is numbers tt made lists flat;
  }

  -- the drawn memory, with the macro's own tracks and floorplan
  both : (d : IsDrawnMacro kit org is.wire lists) × (d.tracks ≡ tracks) × (d.floorplan ≡ f)
  unfolding on_wire
  both = subst (λ (w : Wire). (d : IsDrawnMacro kit org w lists) × (d.tracks ≡ tracks) × (d.floorplan ≡ f)) (sym same) (on_wire, refl, refl)

  pub is_drawn : IsDrawnMacro kit org is.wire lists
  is_drawn = both.0

  pub is_own : (is_drawn.tracks ≡ tracks) × (is_drawn.floorplan ≡ f)
  unfolding is_drawn
  is_own = (both.1, both.2)

pub macros_are_drawn : MacrosAreDrawn
macros_are_drawn kit plan name m lists is numbers written made flat = is_drawn kit plan name m lists is numbers written made flat

-- its tracks and its floorplan are the macro's own
pub drawn_own : (kit : Kit) (plan : Plan) (name : List ℕ) (m : Macro) (lists : FlatLists) (is : IsKit kit) (numbers : ArePlanNumbers (numbers_of plan)) (written : IsWritten (organization plan)) (made : IsMacro kit plan Stored name m) (flat : AreFlatLists kit.tech.layers m.lib.structs name lists)
    → ((macros_are_drawn kit plan name m lists is numbers written made flat).tracks ≡ tracks_of made.layout made.laid.column) × ((macros_are_drawn kit plan name m lists is numbers written made flat).floorplan ≡ floorplan_of made.layout.floorplan)
unfolding macros_are_drawn
drawn_own kit plan name m lists is numbers written made flat = is_own kit plan name m lists is numbers written made flat
