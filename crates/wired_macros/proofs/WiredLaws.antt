-- Each wire is joined with a label of a port of its net.
use Rattle.std.proofs.Common.{◌≡◌, ℕ, ◌<◌, List, Some, sym, subst, ◌∙◌}
use Rattle.std.specs.Prelude.{slice_get}
use Rattle.or_geom.specs.declared.shape.Shape.{Shape}
use Rattle.or_geom.proofs.ListLaws.{one_at}
use Rattle.netlist.specs.declared.rows.RowPin.{RowPin}
use Rattle.cell_roles.specs.Roles.{role_ports}
use Rattle.tech_rules.specs.declared.tech.Tech.{Tech}
use Rattle.cell_hierarchy.specs.Plain.{FlatLists}
use Rattle.net_extractor.specs.PlainNetLabel.{PlainNetLabel}
use Rattle.net_extractor.specs.Extraction.{AreNetsUnder}
use Rattle.sram_netlist.specs.Nets.{Net}
use Rattle.sram_netlist.specs.Netlist.{role, ports}
use Rattle.sram_netlist.proofs.InstanceLists.{lists_agree, to_cells}
use Rattle.sram_rows.specs.Rows.{netlist_pins, RowsEqual}
use Rattle.good_nets.specs.Seen.{IsLabelledAt}
use Rattle.good_nets.proofs.CellLaws.{has_image}
use Rattle.good_nets.proofs.NetLaws.{nets_on, net_back}
use Rattle.joined_nets.proofs.WireNetLaws.{item_there, place_below}
use Rattle.row_nets.specs.Rows.{IsRowOfPort}
use Rattle.row_nets.proofs.PathLaws.{path_low}
use Rattle.row_nets.proofs.RowLaws.{row_of_port}
use Rattle.kit_nets.specs.OuterHubs.{AreOuterHubs}
use Rattle.kit_nets.specs.StatedParts.{Source, Standing, stated_parts, DoLabelsStay}
use Rattle.kit_nets.proofs.ArrayJoinLaws.{array_hub}
use Rattle.kit_nets.proofs.DataHubLaws.{data_hub}
use Rattle.kit_nets.proofs.LabelLaws.{port_label_stays}
use Rattle.kit_nets.proofs.PartsLaws.{stated_are_parts}
use Rattle.kit_nets.proofs.PlaceLaws.{some_place}
use Rattle.kit_nets.proofs.PortNameLaws.{low_names}
use Rattle.supply_nets.specs.LaidMacro.{IsLaidMacro}
use Rattle.wired_macros.specs.WiredMacro.{IsWiredMacro}
use Rattle.wired_macros.proofs.LeafPortLaws.{wire_port}
use Rattle.macro_nets.proofs.PortHubLaws.{port_joined}
use Rattle.wired_macros.proofs.WireJoinLaws.{as_drawn, wire_joined}

module _ (tech : Tech) (s : Source) (flat : FlatLists) (d : IsWiredMacro tech s flat) (outer : Net → Shape) (are : AreOuterHubs s d.laid.main outer) (stays : DoLabelsStay tech.connects s flat) (labels : List PlainNetLabel) (nets : AreNetsUnder tech.connects flat.shapes flat.labels labels) (rows : List RowPin)
    (equal : RowsEqual rows (netlist_pins s.plan s.kit.cell s.bits)) where
  abbrev k : IsLaidMacro tech s flat
  k = d.laid

  -- In a window each wire is.
  pub wired : (n : Net) (shape : Shape) → (stated_parts s).Wire n shape
      → (i : Standing s) × (port : ℕ) × (p : RowPin) × (slice_get (ports s.plan i.leaf) port ≡ Some n) × IsRowOfPort s.plan s.kit.cell s.bits rows i.leaf port p × IsLabelledAt tech.connects flat.shapes labels p shape
  wired n shape stands =
      let at = wire_port tech s flat d n shape (as_drawn tech s flat d outer are n shape stands) in
      let place = some_place s.plan s.kit s.floorplan (to_cells s.plan) at.leaf at.has in
      let i : Standing s = record { leaf = at.leaf; has = at.has; place = place.0; stands = place.1 } in
      let r = role s.plan at.leaf in
      let few = place_below (ports s.plan at.leaf) at.port n at.on in
      let name = item_there (role_ports r) at.port (subst (λ (m : ℕ). at.port < m) (sym (k.by.sized at.leaf at.has)) few) in
      let row = row_of_port s.plan s.kit.cell s.bits rows equal at.leaf at.port name.0 n ((lists_agree s.plan at.leaf).1 at.has) name.1 at.on in
      let c = k.by.conductors r at.port name.0 name.1 in
      let image = has_image place.0 c.0 in
      let there = (stated_are_parts tech.connects s flat k.by).stands i c.0 image.0 (record { listed = c.1.binds.binds.listed; moved = image.1 }) in
      let same = one_at (role_ports r) at.port c.1.pin row.1.name c.1.there row.1.named in
      let labelled = port_label_stays tech.connects s flat k.by stays labels nets i at.port c.0 image.0 row.0 c.1 image.1 there (path_low s.plan k.build at.leaf at.has ∙ sym row.1.is.row_path) (low_names r at.port c.1.pin c.1.there ∙ (same ∙ sym row.1.is.row_name)) in
      let hub = array_hub s (data_hub s outer) n in
      let to_hub = port_joined tech s flat k d.reach d.written outer are at.leaf at.has place.0 place.1 at.port n at.on c.0 image.0 c.1 image.1 in
      let from_hub = net_back tech.connects flat.shapes shape hub ((stated_are_parts tech.connects s flat k.by).wires n shape stands) (wire_joined tech s flat d outer are n shape stands) in (
        i,
        at.port,
        row.0,
        at.on,
        row.1,
        record {
          bound = labelled.bound;
          binds = labelled.binds;
          net = nets_on tech.connects flat.shapes labelled.bound image.0 shape labelled.net (nets_on tech.connects flat.shapes image.0 hub shape to_hub from_hub);
        },
      )
