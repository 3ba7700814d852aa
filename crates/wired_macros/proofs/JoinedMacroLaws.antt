-- A wired macro whose labels stay is joined; and one without a net difference and a loose contact is a window.
use Rattle.std.proofs.Common.{List}
use Rattle.or_geom.specs.declared.shape.Shape.{Shape}
use Rattle.netlist.specs.declared.rows.RowPin.{RowPin}
use Rattle.tech_rules.specs.declared.tech.Tech.{Tech}
use Rattle.tech_rules.specs.Touch.{Touch}
use Rattle.cell_hierarchy.specs.Plain.{FlatLists}
use Rattle.net_extractor.specs.PlainNetLabel.{PlainNetLabel}
use Rattle.net_extractor.specs.Difference.{AreAlike}
use Rattle.net_extractor.specs.Extraction.{AreNetsUnder}
use Rattle.sram_netlist.specs.Nets.{Net}
use Rattle.sram_rows.specs.Rows.{netlist_pins, RowsEqual}
use Rattle.good_nets.specs.Parts.{IsShapeOf, IsFree, IsOutside}
use Rattle.row_nets.proofs.PathLaws.{path_low}
use Rattle.kit_nets.specs.Joined.{IsJoinedMacro}
use Rattle.kit_nets.specs.StatedParts.{Source, Standing, stated_parts, DoLabelsStay}
use Rattle.kit_nets.specs.StatedWindow.{IsStatedWindow}
use Rattle.kit_nets.proofs.ArrayJoinLaws.{array_hub}
use Rattle.kit_nets.proofs.DataHubLaws.{data_hub}
use Rattle.kit_nets.proofs.PathsTellLaws.{do_paths_tell}
use Rattle.kit_nets.proofs.PlaceLaws.{some_place}
use Rattle.kit_nets.proofs.PortNameLaws.{low_names}
use Rattle.sram_netlist.proofs.InstanceLists.{to_cells}
use Rattle.wired_macros.specs.WiredMacro.{IsWiredMacro}
use Rattle.wired_macros.specs.Texts.{AreLeavesInside}
use Rattle.wired_macros.proofs.CellNameLaws.{cells_differ}
use Rattle.wired_macros.proofs.MacroLabelLaws.{macro_bound, macro_to_hub, hub_of_macro}
use Rattle.macro_nets.proofs.OuterLaws.{outer_hubs}
use Rattle.macro_nets.proofs.PortHubLaws.{port_joined}
use Rattle.macro_nets.proofs.PortKindLaws.{hub_of_port}
use Rattle.wired_macros.proofs.TextLayerLaws.{first_texts}
use Rattle.wired_macros.proofs.WiredLaws.{wired}

module _ (tech : Tech) (s : Source) (flat : FlatLists) (d : IsWiredMacro tech s flat) (stays : DoLabelsStay tech.connects s flat) (labels : List PlainNetLabel) (nets : AreNetsUnder tech.connects flat.shapes flat.labels labels) (rows : List RowPin)
    (equal : RowsEqual rows (netlist_pins s.plan s.kit.cell s.bits)) where
  -- The hub of each net.
  pub hub_of : Net → Shape
  hub_of net = array_hub s (data_hub s (outer_hubs tech s flat d.laid).0) net

  -- Each of its nets is joined.
  pub joined_macro : AreLeavesInside s → IsJoinedMacro tech.connects s flat labels rows hub_of
  unfolding hub_of
  joined_macro inside =
      let hubs = outer_hubs tech s flat d.laid in
      let texts = first_texts tech s flat d.laid in
      let tell = do_paths_tell s.plan d.laid.build (cells_differ s.plan d.laid.build) (to_cells s.plan) in
      record {
        stated = d.laid.by;
        stays = stays;
        nets = nets;
        equal = equal;
        tell = tell;
        low_paths = λ leaf has. path_low s.plan d.laid.build leaf has;
        low_names = λ r port name named. low_names r port name named;
        places = λ leaf has. some_place s.plan s.kit s.floorplan (to_cells s.plan) leaf has;
        to_hub = λ i port net inner shape on bound moved. port_joined tech s flat d.laid d.reach d.written hubs.0 hubs.1 i.leaf i.has i.place i.stands port net on inner shape bound moved;
        hub_of_port = λ i port net on. hub_of_port tech s flat d.laid d.written hubs.0 hubs.1 i.leaf i.has port net on;
        macro_bound = λ net row is. macro_bound tech s flat d hubs.0 hubs.1 inside texts tell labels nets rows net row is;
        macro_to_hub = λ net row shape is binds. macro_to_hub tech s flat d hubs.0 hubs.1 inside texts tell labels nets rows net row shape is binds;
        hub_of_macro = λ net row is. hub_of_macro tech s flat d hubs.0 hubs.1 inside texts tell labels nets rows net row is;
      }

  -- It is a window where nothing differs and no contact is loose.
  pub stated_window : AreAlike labels rows → ((i : Standing s) (inner shape t : Shape) → IsShapeOf tech.connects (stated_parts s) i inner shape → IsFree tech.connects (stated_parts s) i inner → IsOutside tech.connects (stated_parts s) i t → Touch tech.connects shape t → ⊥)
      → IsStatedWindow tech.connects s flat labels rows
  stated_window alike apart =
      let hubs = outer_hubs tech s flat d.laid in
      record {
        stated = d.laid.by;
        stays = stays;
        nets = nets;
        equal = equal;
        alike = alike;
        low_paths = λ leaf has. path_low s.plan d.laid.build leaf has;
        low_names = λ r port name named. low_names r port name named;
        apart = apart;
        wired = wired tech s flat d hubs.0 hubs.1 stays labels nets rows equal;
      }
