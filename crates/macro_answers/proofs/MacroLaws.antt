-- A macro of any plan: laid out, with its wires, its library and its view; or the first fault.
use Rattle.std.proofs.Common.{◌≡◌, ◌⊎◌, inl, inr, ℕ, ◌+◌, ◌≤◌, pos, List, ◌∷◌, [], length, true, Option, Some, None, refl, sym, subst, ◌∙◌, arith}
use Rattle.std.specs.Prelude.{Contains, codes, map}
use Rattle.std.specs.List.{AllByRecursion}
use Rattle.std.specs.declared.alloc.Global.{Global}
use Rattle.std.proofs.lemmas.List.{length-append, length-map}
use Rattle.std.proofs.lemmas.Option.{same_Some}
use Rattle.or_geom.specs.declared.shape.Shape.{Shape}
use Rattle.tech_rules.specs.declared.tech.Wire.{Wire}
use Rattle.tech_rules.specs.Facts.{IsWire}
use Rattle.sram_netlist.specs.Organization.{IsBuildable, Organization}
use Rattle.sram_netlist.specs.Numbers.{ArePlanNumbers}
use Rattle.sram_plan.specs.Config.{is_output_name}
use Rattle.sram_plan.specs.declared.numbers.Plan.{Plan}
use Rattle.sram_plan.specs.declared.view.SignalPin.{SignalPin}
use Rattle.sram_plan.specs.PlanNumbers.{numbers_of, organization}
use Rattle.port_lists.specs.Held.{Held}
use Rattle.leaf_tables.specs.declared.kit.Kit.{Kit}
use Rattle.leaf_tables.specs.declared.part.PartFault.TheVariants as part_fault
use Rattle.leaf_tables.specs.Kits.{IsKit}
use Rattle.floorplan.specs.LayoutOfKit.{layout_kit}
use Rattle.floorplan.proofs.DemandLaws.{wire_there}
use Rattle.macro_layout.specs.Floorplan.{IsFloorplan}
use Rattle.macro_bounds.specs.Floorplans.{IsFloorplanWithin}
use Rattle.macro_bounds.specs.Writable.{IsWritableDrawing}
use Rattle.macro_bounds.proofs.BoxLaws.{greater_bounds_hold, listed_shapes_are_near, near_shapes_have_layers}
use Rattle.macro_bounds.proofs.CountLaws.{channel_nets_are_few, tabulate_long}
use Rattle.macro_bounds.proofs.FloorplanLaws.{floorplans_are_near}
use Rattle.macro_bounds.proofs.LibraryLaws.{macro_libraries_are_writable}
use Rattle.macro_bounds.proofs.NearLaws.{near_wires_are_writable, routed_shapes_are_near}
use Rattle.macro_bounds.proofs.SupplyLaws.{supply_wires_are_near}
use Rattle.macro_bounds.proofs.TextLaws.{output_names_are_short}
use Rattle.floorplan.specs.FloorplanNumbers.{floorplan_of}
use Rattle.bank_layout.specs.Near.{IsDrawableWire}
use Rattle.port_data.specs.Column.{AreWideSlices}
use Rattle.sram_macro.specs.declared.assembly.Macro.{Macro}
use Rattle.sram_macro.specs.declared.library.Wires.{Wires}
use Rattle.sram_macro.specs.declared.extents.Extents.{Extents}
use Rattle.sram_macro.specs.declared.layout.Layout.{Layout}
use Rattle.sram_macro.specs.Leaves.{IsHeld}
use Rattle.sram_macro.specs.Layout.{IsMainRouted}
use Rattle.sram_macro.specs.Library.{AreOnLayers, drawing_with, macro_list}
use Rattle.sram_macro.specs.Macro.{AreWiresOf, IsMacro, IsMacroFault, IsPartsFault, layout_pins, macro_bits, macro_deck, names_of_macro}
use Rattle.sram_macro.specs.Names.{first_taken}
use Rattle.sram_macro.specs.Signals.{IsWritablePin, input_count, macro_labels, signal_label, signal_names, signal_pin, supply_label}
use Rattle.sram_macro.specs.View.{macro_view}
use Rattle.sram_macro.proofs.AssemblyLaws.{bank_on_layers, bank_writable, main_shapes_near, on_tracks, space_before, top_near}
use Rattle.sram_macro.proofs.HeldFacts.{kit_bits, leaves_for}
use Rattle.sram_macro.proofs.KitFacts.{free_structures, small_kit}
use Rattle.sram_macro.proofs.LabelFacts.{labels_are_writable, labels_have_layers, signals_are_writable, view_is}
use Rattle.sram_macro.proofs.LayoutLaws.{seven_layers}
use Rattle.channel_answers.proofs.RailLaws.{rails_have_shapes}
use Rattle.channel_answers.proofs.RoutingLaws.{channels_are_routed, close_numbers_are_found, close_pins_are_found}
use Rattle.macro_answers.specs.Answers.{HasPartFault, MacrosOrFaultsAreThere}
use Rattle.macro_answers.proofs.ColumnLaws.{HasColumn, data_answers}
use Rattle.macro_answers.proofs.LayoutLaws.{HasLayout, layout_answers, vec_of}
use Rattle.macro_answers.proofs.LibraryLaws.{library_there}
use Rattle.macro_answers.proofs.SupplyLaws.{top_there}

-- Signals and labels

few_pins : (kit : Kit) (plan : Organization) (wire : Wire) (layout : Layout) → IsBuildable plan → IsMainRouted plan (layout_kit kit) wire layout.main
    → length (layout_pins plan wire layout) ≤ 4096
few_pins kit plan wire layout built main =
    let on = (on_tracks plan (layout_kit kit) wire layout.main main).each in
    let track = main.routed_as.lowest.each in
    let intervals = main.routed_as.nets.each in
    let nets = main.is.nets in
    let few = (channel_nets_are_few plan built).main in
    let long = tabulate_long (length (signal_names plan)) (signal_pin wire (pos layout.sides.inv_height) (input_count plan) (signal_names plan) layout.main.track) in
    omega (arith, on, track, intervals, nets, few, long)

few_labels : (wire : Wire) (ends : Extents) (pins : List SignalPin) → length (macro_labels wire ends pins) ≡ length pins + 2
few_labels wire ends pins =
    let long = length-append (map (signal_label wire) pins) (supply_label wire ends.power_x (codes "vdd") ∷ supply_label wire ends.ground_x (codes "gnd") ∷ []) in
    let same = length-map pins (signal_label wire) in
    omega (arith, long, same)

-- The wires of a macro that is laid out

-- they are on layers that are there, and can be written
record HasWires (kit : Kit) (plan : Plan) (held : Held) (wire : Wire) (layout : Layout) : Type 0 where
  wires : Wires
  are : AreWiresOf (organization plan) (layout_kit kit) wire layout (layout_pins (organization plan) wire layout) wires
  on : AreOnLayers kit.tech.layers wires
  drawing : IsWritableDrawing (drawing_with (macro_bits kit plan held) layout.floorplan wires)

module _ (alloc : Global) (kit : Kit) (plan : Plan) (held : Held) (name : List ℕ) (is : IsKit kit) (planned : ArePlanNumbers (numbers_of plan)) (holds : IsHeld kit plan held) (named : is_output_name name ≡ true)
    (free : first_taken kit (names_of_macro kit plan held name) ≡ None) (column : HasColumn kit (organization plan)) (laid : HasLayout kit plan column.routed) where
  layers : IsWire kit.tech.layers is.wire
  layers = wire_there kit is

  same_wire : laid.is.wire ≡ is.wire
  same_wire = same_Some laid.is.wire is.wire (sym laid.is.wired ∙ is.wired)

  stands : IsFloorplan (organization plan) (layout_kit kit) is.wire (record { main = laid.layout.main.tracks; column = column.routed.tracks }) (floorplan_of laid.layout.floorplan)
  stands = subst (λ (w : Wire). IsFloorplan (organization plan) (layout_kit kit) w (record { main = laid.layout.main.tracks; column = column.routed.tracks }) (floorplan_of laid.layout.floorplan)) same_wire laid.is.stands

  main : IsMainRouted (organization plan) (layout_kit kit) is.wire laid.layout.main
  main = subst (λ (w : Wire). IsMainRouted (organization plan) (layout_kit kit) w laid.layout.main) same_wire laid.is.main

  within : IsFloorplanWithin (floorplan_of laid.layout.floorplan)
  within =
      let few = column.of.few in
      floorplans_are_near (organization plan) (layout_kit kit) is.wire (record { main = laid.layout.main.tracks; column = column.routed.tracks }) (floorplan_of laid.layout.floorplan) planned.plan (small_kit kit is)
      (seven_layers kit.tech.layers is.wire layers) (record { main = main.few; column = omega (arith, few) }) stands

  pins_writable : AllByRecursion IsWritablePin (layout_pins (organization plan) is.wire laid.layout)
  pins_writable =
      let height = laid.is.sides.inv_height.to in
      signals_are_writable kit.tech.layers (organization plan) is.wire laid.layout.sides.inv_height (input_count (organization plan)) laid.layout.main.track planned.plan layers height (on_tracks (organization plan) (layout_kit kit) is.wire laid.layout.main main)

  wires_there : HasWires kit plan held is.wire laid.layout
  wires_there =
      let f = floorplan_of laid.layout.floorplan in
      let pins = layout_pins (organization plan) is.wire laid.layout in
      let ends = laid.layout.ends in
      let top = top_there (organization plan) (layout_kit kit) is.wire f laid.layout.main.shapes planned.plan.rows in
      let short = top.few in
      let least = laid.short in
      let tops = vec_of alloc top.list (omega (arith, short, least)) in
      let count = few_labels is.wire ends pins in
      let few = few_pins kit (organization plan) is.wire laid.layout planned.plan main in
      let labels = vec_of alloc (macro_labels is.wire ends pins) (omega (arith, count, few)) in
      let bank = subst (λ (w : Wire). (s : Shape) → Contains laid.layout.bank.items s → IsDrawableWire w s) same_wire laid.is.bank in
      let near = top_near greater_bounds_hold supply_wires_are_near listed_shapes_are_near kit.tech.layers (organization plan) (layout_kit kit) is.wire f top.list laid.layout.main.shapes layers planned.plan (small_kit kit is) within
      (main_shapes_near routed_shapes_are_near kit.tech.layers (organization plan) (layout_kit kit) is.wire laid.layout.main layers main) (λ s h. (top.has s).0 h) in
      record {
        wires = record { bank = laid.layout.bank; top = tops; labels = labels };
        are = record { bank = refl; top_rises = top.rises; top = top.has; labels = refl };
        on = record {
          bank = bank_on_layers kit.tech.layers is.wire laid.layout.bank.items layers bank;
          top = near_shapes_have_layers kit.tech.layers is.wire 1107296256 top.list layers near;
          labels = labels_have_layers kit.tech.layers is.wire ends pins layers;
        };
        drawing = record {
          bits = (kit_bits kit is (organization plan) held holds.cells).names;
          floorplan = within;
          bank_wires = bank_writable is.wire laid.layout.bank.items bank;
          wires = near_wires_are_writable is.wire 1107296256 top.list (omega arith) near;
          labels = labels_are_writable is.wire ends pins laid.is.near_ends pins_writable;
        };
      }

  macro_there : AreWideSlices (organization plan) (layout_kit kit) → (m : Macro) × IsMacro kit plan held name m
  macro_there wide =
      let w = wires_there in
      let d = drawing_with (macro_bits kit plan held) laid.layout.floorplan w.wires in
      let list = macro_list kit (organization plan) name d in
      let lib = library_there kit.tech.layers list name in
      let pins = layout_pins (organization plan) is.wire laid.layout in
      let before = space_before (organization plan) (layout_kit kit) is.wire _ (floorplan_of laid.layout.floorplan) laid.layout.ends.power_x stands layers.sizes.width.from laid.is.power.logic in (
        record { lib = lib.0; deck = macro_deck kit plan held name; view = macro_view kit.tech.layers name is.wire laid.layout.ends pins; tracks = laid.layout.main.tracks },
        record {
          free = free;
          wide = wide;
          named = lib.1.named;
          writable = macro_libraries_are_writable kit.tech.layers list lib.0 (organization plan) (layout_kit kit) name d lib.1 refl (free_structures kit (names_of_macro kit plan held name) is free) planned.plan (small_kit kit is)
              (output_names_are_short name named) w.drawing;
          deck = refl;
          leaves = leaves_for kit (organization plan) held name is holds.cells free;
          good_view = view_is kit.tech.layers name is.wire laid.layout.ends pins layers laid.is.near_ends before pins_writable;
          layout = laid.layout;
          laid = record { column = column.routed; of = column.of; is = laid.is };
          drawn = record { wire = is.wire; wired = is.wired; wires = w.wires; are = w.are; layers = w.on; library = lib.1; view = refl; tracks = refl };
        },
      )

-- All of it

pub macros_or_faults_are_there : MacrosOrFaultsAreThere
macros_or_faults_are_there alloc kit plan held name is planned holds named = by (first_taken kit (names_of_macro kit plan held name)) refl
  where
    refused : first_taken kit (names_of_macro kit plan held name) ≡ None → HasPartFault (IsPartsFault kit (organization plan))
        → ((m : Macro) × IsMacro kit plan held name m) ⊎ HasPartFault (IsMacroFault kit plan held name)
    refused free part = inr (record { fault = part.fault; real = part.real; is = inr (free, part.is) })

    by : (o : Option (List ℕ)) → first_taken kit (names_of_macro kit plan held name) ≡ o
        → ((m : Macro) × IsMacro kit plan held name m) ⊎ HasPartFault (IsMacroFault kit plan held name)
    by (Some taken) e = inr (record { fault = part_fault.NameTaken taken; real = λ f. absurd cc; is = inl e })
    by None free = elim (data_answers channels_are_routed close_pins_are_found kit plan is.wire is planned is.wired (wire_there kit is)) [
      | inr data_ ↦ refused free (record { fault = data_.fault; real = data_.real; is = inl data_.is })
      | inl found ↦ elim (layout_answers kit plan is.wire is planned is.wired (wire_there kit is) found.1 alloc channels_are_routed close_pins_are_found close_numbers_are_found rails_have_shapes) [
        | inr close ↦ refused free (record { fault = close.fault; real = close.real; is = inr (found.0, (found.1.routed, found.1.of, close.is)) })
        | inl laid ↦ inl (macro_there alloc kit plan held name is planned holds named free found.1 laid found.0)
      ]
    ]
