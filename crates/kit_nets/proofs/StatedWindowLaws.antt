-- A stated window is a layout whose nets are right.
use Rattle.std.proofs.Common.{◌≡◌, ℕ, ◌<◌, List, Some, sym, subst, ◌∙◌}
use Rattle.std.specs.Prelude.{slice_get}
use Rattle.or_geom.specs.declared.shape.Shape.{Shape}
use Rattle.or_geom.proofs.ListLaws.{one_at, contained_at}
use Rattle.netlist.specs.declared.rows.RowPin.{RowPin}
use Rattle.cell_roles.specs.Roles.{role_ports}
use Rattle.tech_rules.specs.declared.tech.Connect.{Connect}
use Rattle.cell_hierarchy.specs.Plain.{FlatLists}
use Rattle.cell_hierarchy.specs.FlatSet.{IsMoved}
use Rattle.net_extractor.specs.PlainNetLabel.{PlainNetLabel}
use Rattle.sram_netlist.specs.Nets.{Net}
use Rattle.sram_netlist.specs.Netlist.{role, ports}
use Rattle.sram_netlist.specs.Names.{leaf_path}
use Rattle.sram_netlist.proofs.InstanceLists.{lists_agree}
use Rattle.good_nets.specs.Parts.{AreRightParts}
use Rattle.good_nets.specs.Seen.{IsLabelledAt}
use Rattle.joined_nets.proofs.WireNetLaws.{item_there, place_below}
use Rattle.row_nets.specs.Rows.{IsRowOfPort}
use Rattle.row_nets.proofs.RowLaws.{row_of_port, rows_tell}
use Rattle.kit_nets.specs.Bound.{BindsForPort}
use Rattle.kit_nets.specs.StatedParts.{Source, Standing, leaf_lists, stated_parts}
use Rattle.kit_nets.specs.StatedWindow.{IsStatedWindow}
use Rattle.kit_nets.proofs.PartsLaws.{stated_are_parts}
use Rattle.kit_nets.proofs.LabelLaws.{port_label_stays}

module _ (connections : List Connect) (s : Source) (flat : FlatLists) (labels : List PlainNetLabel) (rows : List RowPin) (w : IsStatedWindow connections s flat labels rows) where
  abbrev Row : Standing s → ℕ → RowPin → Type 0
  Row i port p = IsRowOfPort s.plan s.kit.cell s.bits rows i.leaf port p

  row : (i : Standing s) (port : ℕ) (n : Net) → slice_get (ports s.plan i.leaf) port ≡ Some n → (p : RowPin) × Row i port p
  row i port n on =
      let lt = place_below (ports s.plan i.leaf) port n on in
      let name = item_there (role_ports (role s.plan i.leaf)) port (subst (λ (k : ℕ). port < k) (sym (w.stated.sized i.leaf i.has)) lt) in
      row_of_port s.plan s.kit.cell s.bits rows w.equal i.leaf port name.0 n ((lists_agree s.plan i.leaf).1 i.has) name.1 on

  same : (i j : Standing s) (a b : ℕ) (m n : Net) (p q : RowPin) → slice_get (ports s.plan i.leaf) a ≡ Some m → slice_get (ports s.plan j.leaf) b ≡ Some n → Row i a p → Row j b q → p.net ≡ q.net → m ≡ n
  same i j a b m n p q at_m at_n one two equal =
      let m_is = one_at (ports s.plan i.leaf) a m one.net at_m one.on in
      let n_is = one_at (ports s.plan j.leaf) b n two.net at_n two.on in
      let tells = (rows_tell s.plan s.kit.cell s.bits rows w.equal (leaf_path s.plan i.leaf) one.name (leaf_path s.plan j.leaf) two.name one.net two.net p q one.is two.is).0 equal in
      m_is ∙ (tells ∙ sym n_is)

  labelled : (i : Standing s) (port : ℕ) (inner shape : Shape) (p : RowPin) → BindsForPort (leaf_lists s i.leaf) (role_ports (role s.plan i.leaf)) port inner → IsMoved i.place inner shape → Row i port p → IsLabelledAt connections flat.shapes labels p shape
  labelled i port inner shape p bound moved row =
      let listed = (stated_are_parts connections s flat w.stated).stands i inner shape (record { listed = bound.binds.binds.listed; moved = moved }) in
      let same_name : bound.pin ≡ row.name = one_at (role_ports (role s.plan i.leaf)) port bound.pin row.name bound.there row.named in
      port_label_stays connections s flat w.stated w.stays labels w.nets i port inner shape p bound moved listed (w.low_paths i.leaf i.has ∙ sym row.is.row_path)
      (w.low_names (role s.plan i.leaf) port bound.pin bound.there ∙ (same_name ∙ sym row.is.row_name))

  -- The nets of a stated window are right.
  pub stated_window_is_right : AreRightParts connections (stated_parts s) flat.shapes flat.labels labels rows
  stated_window_is_right = record {
    parts_are = stated_are_parts connections s flat w.stated;
    nets = w.nets;
    alike = w.alike;
    Row = Row;
    row = row;
    listed = λ i port p r. contained_at rows r.is.place p r.is.there;
    same = same;
    labelled = labelled;
    apart = w.apart;
    wired = w.wired;
  }
