-- For a good kit the labels of each macro are joined as its netlist says.
use Rattle.std.proofs.Common.{ℕ, List, ◌++◌, subst}
use Rattle.gds_library.specs.declared.library.Library.{Library}
use Rattle.netlist.specs.declared.deck.Deck.{Deck}
use Rattle.netlist.specs.declared.rows.RowPin.{RowPin}
use Rattle.spice_netlist.specs.Faults.{AreFlatRows}
use Rattle.cell_hierarchy.specs.FlatLists.{AreFlatLists}
use Rattle.cell_hierarchy.specs.Plain.{FlatLists}
use Rattle.net_extractor.specs.PlainNetLabel.{PlainNetLabel}
use Rattle.net_extractor.specs.Extraction.{AreNets}
use Rattle.net_extractor.specs.Difference.{AreAlike}
use Rattle.net_extractor.proofs.DifferenceLaws.{differs}
use Rattle.sram_netlist.specs.Netlist.{role}
use Rattle.sram_netlist.specs.Numbers.{ArePlanNumbers}
use Rattle.sram_netlist.specs.Organization.{IsWritten}
use Rattle.sram_plan.specs.declared.numbers.Plan.{Plan}
use Rattle.sram_plan.specs.PlanNumbers.{numbers_of, organization}
use Rattle.sram_plan.proofs.PlanLaws.{plan_numbers}
use Rattle.port_lists.specs.Held.Held.{Stored}
use Rattle.leaf_tables.specs.declared.kit.Kit.{Kit}
use Rattle.leaf_tables.specs.Kits.{IsKit}
use Rattle.floorplan.specs.LayoutOfKit.{layout_kit}
use Rattle.sram_macro.specs.declared.assembly.Macro.{Macro}
use Rattle.sram_macro.specs.Macro.{IsMacro}
use Rattle.kit_rules.specs.Reach.{reach_with}
use Rattle.kit_check.specs.Makers.{role_cells}
use Rattle.kit_check.specs.Quick.{PassesQuickCheck}
use Rattle.kit_check.proofs.QuickLaws.{good_kits_pass}
use Rattle.macro_maker.specs.Assembled.{IsAssembled}
use Rattle.good_nets.specs.Parts.{AreSeen}
use Rattle.good_reports.proofs.ReportLaws.{written_plan, written_of_rows}
use Rattle.clean_windows.specs.Sound.{IsWrittenOfRows}
use Rattle.good_places.specs.Windows.{IsWrittenPlan}
use Rattle.drawn_memories.specs.Drawn.{IsDrawnMacro}
use Rattle.drawn_memories.proofs.DrawnLaws.{macros_are_drawn}
use Rattle.drawn_memories.proofs.LayerLaws.{are_first_layers}
use Rattle.moved_nets.proofs.StableLaws.{stable_net}
use Rattle.kit_nets.specs.StatedParts.{stated_parts}
use Rattle.kit_nets.proofs.JoinedLaws.{joined_are_alike}
use Rattle.kit_nets.proofs.PortNameLaws.{some_port}
use Rattle.wired_macros.proofs.JoinedMacroLaws.{hub_of, joined_macro}
use Rattle.wire_nets.proofs.NamedLaws.{named_nets}
use Rattle.wire_nets.proofs.StatedWireLaws.{stated_wires_touch, stated_wire_once}
use Rattle.wired_kits.proofs.KitMacroLaws.{kit_source, kit_wired, kit_leaves_inside}
use Rattle.high_cells.proofs.HighLaws.{kits_have_high_cells}
use Rattle.seen_pairs.specs.Window.{HasSeenWindow}
use Rattle.seen_pairs.proofs.PairLaws.{pairs_seen}
use Rattle.seen_wires.proofs.WireLaws.{beside_seen}
use Rattle.seen_labels.proofs.SeenLabelLaws.{seen_labels_stay}
use Rattle.good_matches.proofs.JoinedLaws.{net_hub, joined_memory}
use Rattle.good_matches.specs.Matches.{MatchesNetlist, GoodKitsMatch}
use Rattle.good_matches.proofs.SourceLaws.{overhang, only, seen_source, shapes_pass, shapes_inside}
use Rattle.good_matches.proofs.WindowLaws.{rows_equal_of, seen_window}

-- A plan whose memory is written, for a kit that passes the quick check.
module _ (kit : Kit) (plan : Plan) (name : List ℕ) (is : IsKit kit) (good : PassesQuickCheck IsAssembled kit) (planned : IsWrittenOfRows plan) (words : IsWrittenPlan (organization plan)) where
  numbers : ArePlanNumbers (numbers_of plan)
  numbers = planned.numbers

  written : IsWritten (organization plan)
  written = planned.written

  module _ (m : Macro) (lists : FlatLists) (made : IsMacro kit plan Stored name m) (flat : AreFlatLists kit.tech.layers m.lib.structs name lists) where
    drawn : IsDrawnMacro kit (organization plan) is.wire lists
    drawn = macros_are_drawn kit plan name m lists is numbers written made flat

    -- its small memory
    window : HasSeenWindow kit.tech.connects (kit_source kit is good.pins (organization plan) numbers.plan written lists drawn)
    window = seen_window kit is good plan planned words made.wide drawn.tracks drawn.floorplan

    -- whatever touches of the macro's parts is seen in it
    seen : AreSeen kit.tech.connects (stated_parts (kit_source kit is good.pins (organization plan) numbers.plan written lists drawn))
    seen =
        let s = kit_source kit is good.pins (organization plan) numbers.plan written lists drawn in
        let source = seen_source kit is good (organization plan) numbers.plan written lists drawn in
        let by = (overhang kit is good).0 in
        let lk = layout_kit kit in
        let high = kits_have_high_cells kit (organization plan) is good.pins in
        let named = named_nets (organization plan) lk is.wire drawn.tracks drawn.floorplan drawn.drawn drawn.main_lowest drawn.column_lowest in
        record {
          pair = λ i j x y a b differ one two touch. pairs_seen kit.tech.connects s by (reach_with kit by) source window i j x y a b differ one two touch;
          wire = λ i x a t n one two touch. beside_seen kit.tech.connects s by (reach_with kit by) source window i x a t n one two touch;
          wires = λ k n a b one two touch. stated_wires_touch kit.tech.layers (organization plan) lk is.wire drawn.tracks drawn.floorplan (are_first_layers kit is) drawn.drawn named high numbers.plan.words drawn.reaches kit.tech.connects (only kit is good) k n a b one two touch;
          wire_once = λ k n a one two. stated_wire_once kit.tech.layers (organization plan) lk is.wire drawn.tracks drawn.floorplan (are_first_layers kit is) drawn.drawn named high numbers.plan.words drawn.reaches k n a one two;
          stable = stable_net;
        }

    -- its labels are joined as its netlist says
    macro_alike : (labels : List PlainNetLabel) (rows : List RowPin) → AreNets kit.tech lists.shapes lists.labels labels → AreFlatRows (kit.deck.subckts ++ m.deck.subckts) name (role_cells kit) rows → AreAlike labels rows
    macro_alike labels rows nets netlist =
        let build = numbers.plan in
        let s = kit_source kit is good.pins (organization plan) build written lists drawn in
        let wired = kit_wired kit is good.pins (organization plan) build written lists drawn in
        let source = seen_source kit is good (organization plan) build written lists drawn in
        let by = (overhang kit is good).0 in
        let stays = seen_labels_stay kit.tech.connects s by (reach_with kit by) lists (net_hub kit.tech s lists wired) source window (shapes_pass kit is good (organization plan) build written lists drawn) (shapes_inside kit is good (organization plan) build written lists drawn) (joined_memory kit.tech s lists wired) in
        let equal = rows_equal_of kit plan name m numbers made rows netlist in
        let joined = joined_macro kit.tech s lists wired stays labels nets rows equal (kit_leaves_inside kit is good.pins (organization plan) build written lists drawn) in
        joined_are_alike kit.tech.connects s lists labels rows (hub_of kit.tech s lists wired stays labels nets rows equal) joined (λ leaf. some_port (role s.plan leaf)) seen

  of_made : (m : Macro) (lists : FlatLists) → IsMacro kit plan Stored name m → AreFlatLists kit.tech.layers m.lib.structs name lists → (labels : List PlainNetLabel) (rows : List RowPin) → AreNets kit.tech lists.shapes lists.labels labels → AreFlatRows (kit.deck.subckts ++ m.deck.subckts) name (role_cells kit) rows → AreAlike labels rows
  of_made m lists made flat labels rows nets netlist = macro_alike m lists made flat labels rows nets netlist

  pub matches_netlist : MatchesNetlist kit plan name
  matches_netlist = record {
    alike = λ made lists labels rows assembled flat are.
        let m = assembled.0 in
        of_made m lists assembled.1 (subst (λ (a : Library × Deck). AreFlatLists kit.tech.layers a.0.structs name lists) assembled.2 flat) labels rows are.nets
        (subst (λ (a : Library × Deck). AreFlatRows (kit.deck.subckts ++ a.1.subckts) name (role_cells kit) rows) assembled.2 are.netlist);
    unrefused = λ difference d. differs d.labels d.rows difference d.differ (of_made d.macro d.lists d.clean.is d.clean.flat d.labels d.rows d.are.nets d.are.netlist);
  }

pub good_kits_match : GoodKitsMatch
good_kits_match kit config plan name is good is_config of =
    matches_netlist kit plan name is (good_kits_pass IsAssembled kit good) (written_of_rows config plan is_config of) (written_plan config plan is_config of (plan_numbers config plan is_config of))
