-- Where labels and rows don't differ and some label of each net binds a shape of the net, all do.
use Rattle.std.proofs.Common.{◌≡◌, ℕ, ◌<◌, List, Contains, Option, Some, None, refl, sym, ap, subst, ◌∙◌}
use Rattle.std.specs.Prelude.{slice_get}
use Rattle.std.proofs.lemmas.Option.{slice_get-get_or}
use Rattle.or_geom.specs.declared.shape.Shape.{Shape}
use Rattle.or_geom.specs.Place.{placed}
use Rattle.or_geom.proofs.ListLaws.{one_at, contained_at}
use Rattle.netlist.specs.declared.rows.RowPin.{RowPin}
use Rattle.cell_roles.specs.Roles.{role_ports}
use Rattle.tech_rules.specs.declared.tech.Connect.{Connect}
use Rattle.tech_rules.specs.Net.{AreOnOneNet}
use Rattle.element_drawing.specs.PlainLabel.{PlainLabel}
use Rattle.cell_hierarchy.specs.Plain.{FlatLists}
use Rattle.net_extractor.specs.declared.label.Anchor.{Anchor}
use Rattle.net_extractor.specs.PlainNetLabel.{PlainNetLabel}
use Rattle.net_extractor.specs.Binding.{Binds}
use Rattle.net_extractor.specs.Extraction.{anchor_of}
use Rattle.net_extractor.specs.Difference.{in_lower_case}
use Rattle.leaf_shapes.specs.Candidates.{IsLabelOfPin}
use Rattle.sram_netlist.specs.Nets.{Net}
use Rattle.sram_netlist.specs.Netlist.{role, ports}
use Rattle.sram_netlist.specs.Names.{leaf_path}
use Rattle.sram_netlist.proofs.InstanceLists.{lists_agree}
use Rattle.cell_hierarchy.specs.FlatSet.{path_under}
use Rattle.good_nets.specs.Drawn.{BindsFor}
use Rattle.good_nets.proofs.NetLaws.{nets_on, net_back}
use Rattle.joined_nets.proofs.WireNetLaws.{item_there, place_below}
use Rattle.row_nets.specs.Rows.{IsRowOfNet}
use Rattle.row_nets.proofs.RowLaws.{row_of_port, rows_tell}
use Rattle.kit_nets.specs.StatedParts.{Source, Standing, leaf_lists, DoLabelsStay}
use Rattle.kit_nets.proofs.LabelLaws.{label_at, label_listed, unmapped}
use Rattle.label_nets.specs.Anchored.{IsMatchedMacro, HasLabelOn, IsAnchored}

-- an item of a list has a place
item_at : {X : Type 0} (xs : List X) (x : X) → Contains xs x → (k : ℕ) × (slice_get xs k ≡ Some x)
item_at {X = X} xs x c = (c.0, slice_get-get_or xs c.0 x c.1 ∙ ap (λ (y : X). Some y) c.2)

module _ (connections : List Connect) (s : Source) (flat : FlatLists) (labels : List PlainNetLabel) (rows : List RowPin) (hub : Net → Shape) (m : IsMatchedMacro connections s flat labels rows hub) where
  abbrev OneNet : Shape → Shape → Type 0
  OneNet a b = AreOnOneNet connections flat.shapes a b

  abbrev Of : RowPin → Net → Type 0
  Of row net = IsRowOfNet s.plan s.kit.cell s.bits rows row net

  -- a label that binds a shape has a number
  numbered : (e : PlainNetLabel) (u : Shape) → Contains labels e → Binds flat.shapes (anchor_of e) u → (n : ℕ) × (e.net ≡ Some n)
  numbered e u listed binds = by e.net refl where
    by : (found : Option ℕ) → e.net ≡ found → (n : ℕ) × (e.net ≡ Some n)
    by None is = absurd ((m.nets.unbound e listed).0 is u binds.listed binds.under)
    by (Some n) is = (n, is)

  -- Labels of two pins bind shapes on one net exactly where the pins are of one net.
  pub one_net : (p q : RowPin) (u v : Shape) (k l : Net) → Contains rows p → Contains rows q → Of p k → Of q l → BindsFor flat.shapes labels p u → BindsFor flat.shapes labels q v → ((k ≡ l) → OneNet u v) × (OneNet u v → k ≡ l)
  one_net p q u v k l at_p at_q of_p of_q b c =
      let tells = rows_tell s.plan s.kit.cell s.bits rows m.equal of_p.0 of_p.1 of_q.0 of_q.1 k l p q of_p.2 of_q.2 in
      let x = numbered b.label u b.listed b.binds in
      let y = numbered c.label v c.listed c.binds in
      let agree = m.alike.agree p q at_p at_q x.0 y.0 (record { label = b.label; listed = b.listed; of = b.of; on = x.1 }) (record { label = c.label; listed = c.listed; of = c.of; on = y.1 }) in
      let one = m.nets.one b.label c.label u v b.listed c.listed b.binds c.binds in (
        λ same. one.0 (x.1 ∙ (ap (λ (n : ℕ). Some n) (agree.1 (tells.1 same)) ∙ sym y.1)),
        λ net. tells.0 (agree.0 (same_number x.0 y.0 (sym x.1 ∙ (one.1 net ∙ y.1)))),
      )
    where
      same_number : (a b : ℕ) → ◌≡◌ {A = Option ℕ} (Some a) (Some b) → a ≡ b
      same_number a b e = cc

  -- What is joined with the hub of a net that has such a label is bound by labels of that net alone.
  pub caught_is_same : (n k : Net) → IsAnchored connections s flat labels rows hub k → HasLabelOn connections s flat labels rows n (hub k) → n ≡ k
  caught_is_same n k anchor caught =
      (one_net caught.row anchor.row caught.bound anchor.bound n k caught.listed anchor.listed caught.of anchor.of caught.binds anchor.binds).1
      (nets_on connections flat.shapes caught.bound (hub k) anchor.bound caught.joined (net_back connections flat.shapes anchor.bound (hub k) anchor.binds.binds.listed anchor.joined))

  -- A label of an instance's pin, as a label of the pin's row

  pub row_at : (i : Standing s) (port : ℕ) (name : List ℕ) (n : Net) → slice_get (role_ports (role s.plan i.leaf)) port ≡ Some name → slice_get (ports s.plan i.leaf) port ≡ Some n → (row : RowPin) × Contains rows row × Of row n × (row.path ≡ leaf_path s.plan i.leaf) × (row.pin ≡ name)
  row_at i port name n named on =
      let r = row_of_port s.plan s.kit.cell s.bits rows m.equal i.leaf port name n ((lists_agree s.plan i.leaf).1 i.has) named on in
      let same_net = one_at (ports s.plan i.leaf) port r.1.net n r.1.on on in
      let same_name = one_at (role_ports (role s.plan i.leaf)) port r.1.name name r.1.named named in
      (r.0, contained_at rows r.1.is.place r.0 r.1.is.there, subst (Of r.0) same_net (leaf_path s.plan i.leaf, r.1.name, r.1.is), r.1.is.row_path, r.1.is.row_name ∙ same_name)

  pub binds_for : (i : Standing s) (port : ℕ) (name : List ℕ) (label : PlainLabel) (row : RowPin) (u : Shape) → slice_get (role_ports (role s.plan i.leaf)) port ≡ Some name → Contains (leaf_lists s i.leaf).labels label → IsLabelOfPin name label → row.path ≡ leaf_path s.plan i.leaf → row.pin ≡ name
      → Binds flat.shapes (record { layer = label.layer; at = placed i.place label.at }) u → BindsFor flat.shapes labels row u
  binds_for i port name label row u named listed of path pin binds =
      let in_flat = label_listed connections s flat m.stated i label listed in
      let entry = unmapped _ labels (label_at s i label) (subst (λ (ls : List PlainLabel). Contains ls (label_at s i label)) (sym m.nets.each) in_flat) in
      let e = entry.0 in
      let anchor : Anchor = record { layer = label.layer; at = placed i.place label.at } in
      let same : anchor_of e ≡ anchor = ap (λ (k : PlainLabel). let made : Anchor = record { layer = k.layer; at = k.at } in made) entry.2 in
      record {
        label = e;
        listed = entry.1;
        of = record {
          path = ap (λ (k : PlainLabel). in_lower_case k.path) entry.2 ∙ (ap (λ (q : List ℕ). in_lower_case (path_under (leaf_path s.plan i.leaf) q)) of.own ∙ (m.low_paths i.leaf i.has ∙ sym path));
          name = ap (λ (k : PlainLabel). in_lower_case k.name) entry.2 ∙ (of.named ∙ (m.low_names (role s.plan i.leaf) port name named ∙ sym pin));
        };
        binds = subst (λ (a : Anchor). Binds flat.shapes a u) (sym same) binds;
      }

  -- Where each net of a leaf instance's port has such a label, labels of pins stay.
  pub anchored_labels_stay : ((i : Standing s) (port : ℕ) (n : Net) → slice_get (ports s.plan i.leaf) port ≡ Some n → IsAnchored connections s flat labels rows hub n) → DoLabelsStay connections s flat
  anchored_labels_stay anchored i pin label inner shape u has listed of binds moved there bound =
      let at = item_at (role_ports (role s.plan i.leaf)) pin has in
      let lt = place_below (role_ports (role s.plan i.leaf)) at.0 pin at.1 in
      let net = item_there (ports s.plan i.leaf) at.0 (subst (λ (k : ℕ). at.0 < k) (m.stated.sized i.leaf i.has) lt) in
      let row = row_at i at.0 pin net.0 at.1 net.1 in
      let b = binds_for i at.0 pin label row.0 u at.1 listed of row.3 row.4 bound in
      let a = anchored i at.0 net.0 net.1 in
      let first = (one_net row.0 a.row u a.bound net.0 net.0 row.1 a.listed row.2 a.of b a.binds).0 refl in
      let second = net_back connections flat.shapes shape (hub net.0) there (m.to_hub i at.0 net.0 inner shape net.1 (record { pin = pin; there = at.1; binds = record { label = label; listed = listed; of = of; binds = binds } }) moved) in
      nets_on connections flat.shapes u a.bound shape first (nets_on connections flat.shapes a.bound (hub net.0) shape a.joined second)
