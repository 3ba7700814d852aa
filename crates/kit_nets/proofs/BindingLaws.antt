-- What a label of a leaf instance's pin binds in a macro is on one net with a shape of the port.
use Rattle.std.proofs.Common.{◌≡◌, inl, inr, ℕ, List, Contains, Some, sym, ap, subst, ◌∙◌}
use Rattle.std.specs.Prelude.{slice_get}
use Rattle.or_geom.specs.declared.shape.Shape.{Shape}
use Rattle.or_geom.specs.declared.place.Place.{Place}
use Rattle.or_geom.specs.Place.{placed}
use Rattle.or_geom.proofs.ListLaws.{contains_map, contained_at}
use Rattle.cell_roles.specs.Roles.{role_ports}
use Rattle.netlist.specs.declared.rows.RowPin.{RowPin}
use Rattle.tech_rules.specs.declared.tech.Connect.{Connect}
use Rattle.tech_rules.specs.Net.{AreOnOneNet}
use Rattle.element_drawing.specs.PlainLabel.{PlainLabel}
use Rattle.cell_hierarchy.specs.Plain.{FlatLists}
use Rattle.cell_hierarchy.specs.FlatSet.{IsFlatLabel, IsMoved}
use Rattle.label_binding.specs.declared.anchor.Anchor.{Anchor}
use Rattle.net_extractor.specs.PlainNetLabel.{PlainNetLabel}
use Rattle.label_binding.specs.Binding.{Binds}
use Rattle.label_binding.specs.BoundPlaces.{label_anchor}
use Rattle.net_extractor.specs.Extraction.{label_of, anchor_of, AreNetsUnder}
use Rattle.label_binding.specs.LowerCase.{in_lower_case}
use Rattle.label_binding.proofs.OneBindingLaws.{binds_some}
use Rattle.leaf_shapes.specs.Candidates.{IsLabelOfPin}
use Rattle.sram_netlist.specs.Instances.{LeafInstance}
use Rattle.sram_netlist.specs.Netlist.{role}
use Rattle.sram_netlist.specs.Names.{leaf_path}
use Rattle.macro_layout.specs.Places.{IsPlaceOf}
use Rattle.good_nets.specs.Drawn.{BindsFor}
use Rattle.good_nets.proofs.CellLaws.{has_image, net_moved}
use Rattle.good_nets.proofs.NetLaws.{nets_on}
use Rattle.kit_nets.specs.Bound.{BindsForPort}
use Rattle.kit_nets.specs.PathsTell.{DoPathsTell}
use Rattle.kit_nets.specs.StatedParts.{Source, Standing, leaf_lists, IsStatedBy, DoLabelsStay}
use Rattle.kit_nets.proofs.RightLaws.{right_ports}
use Rattle.kit_nets.proofs.PartsLaws.{cell_of_role, stands_plain, stated_are_parts}

-- A shape of the port, as it stands in the macro, on one net with this one.
pub record IsPortNet (connections : List Connect) (s : Source) (flat : FlatLists) (i : Standing s) (port : ℕ) (u : Shape) : Type 0 where
  pub inner : Shape
  pub bound : BindsForPort (leaf_lists s i.leaf) (role_ports (role s.plan i.leaf)) port inner
  pub shape : Shape
  pub moved : IsMoved i.place inner shape
  pub net : AreOnOneNet connections flat.shapes u shape

module _ (connections : List Connect) (s : Source) (flat : FlatLists) (by : IsStatedBy connections s flat) (stays : DoLabelsStay connections s flat) (tell : DoPathsTell s.plan) where
  -- where the label is one of the instance's cell
  of_cell : (i : Standing s) (port : ℕ) (name : List ℕ) (l : PlainLabel) (u : Shape) → slice_get (role_ports (role s.plan i.leaf)) port ≡ Some name → Contains (leaf_lists s i.leaf).labels l → IsLabelOfPin name l
      → Binds flat.shapes (record { layer = l.layer; at = placed i.place l.at }) u → IsPortNet connections s flat i port u
  of_cell i port name l u named listed of binds =
      let right = by.right (role s.plan i.leaf) port name named in
      let y = binds_some (leaf_lists s i.leaf).shapes (label_anchor l) (right.bound l listed of) in
      let t = has_image i.place y.0 in
      let there = (stated_are_parts connections s flat by).stands i y.0 t.0 (record { listed = y.1.listed; moved = t.1 }) in
      record {
        inner = y.0;
        bound = record { pin = name; there = named; binds = record { label = l; listed = listed; of = of; binds = y.1 } };
        shape = t.0;
        moved = t.1;
        net = stays i name l y.0 t.0 u (contained_at (role_ports (role s.plan i.leaf)) port name named) listed of y.1 t.1 there binds;
      }

  -- What a label of the port's pin binds is on one net with a shape of the port.
  pub port_binds : (labels : List PlainNetLabel) → AreNetsUnder connections flat.shapes flat.labels labels → (i : Standing s) (port : ℕ) (name : List ℕ) (p : RowPin) (u : Shape) → slice_get (role_ports (role s.plan i.leaf)) port ≡ Some name → p.path ≡ leaf_path s.plan i.leaf → p.pin ≡ in_lower_case name
      → BindsFor flat.shapes labels p u → IsPortNet connections s flat i port u
  port_binds labels nets i port name p u named path pin_name b =
      let listed = subst (λ (ls : List PlainLabel). Contains ls (label_of b.label)) nets.each (contains_map label_of labels b.label b.listed) in
      elim ((by.stated.labels (label_of b.label)).0 listed) [
        | inl text ↦ absurd (tell.some i.leaf i.has (sym path ∙ (sym b.of.path ∙ ap in_lower_case text.path)))
        | inr o ↦
            let same_path = ap in_lower_case (sym o.taken.moved.path) ∙ (b.of.path ∙ path) in
            let told = tell.tell i.leaf o.leaf o.taken.inner.path i.has o.has same_path in
            let l = o.taken.inner in
            let in_cell = ((by.flat_cells (role s.plan o.leaf)).labels_exact l).1 (subst (λ (cell : List ℕ). IsFlatLabel s.layers s.structs cell l) (cell_of_role connections s flat by o.leaf) o.taken.has) in
            let here = subst (λ (leaf : LeafInstance). Contains (leaf_lists s leaf).labels l) (sym told.0) in_cell in
            let place = by.placed_once i.leaf o.place i.place i.has (subst (λ (leaf : LeafInstance). IsPlaceOf s.plan s.kit s.floorplan leaf o.place) (sym told.0) o.stands) i.stands in
            let of : IsLabelOfPin name l = record { own = told.1; named = ap in_lower_case (sym o.taken.moved.name) ∙ (b.of.name ∙ pin_name) } in
            let anchor : Anchor = record { layer = l.layer; at = placed i.place l.at } in
            let same_anchor : anchor_of b.label ≡ anchor = λ k. record { layer = o.taken.moved.layer k; at = (o.taken.moved.at ∙ ap (λ (q : Place). placed q l.at) place) k } in
            of_cell i port name l u named here of (subst (λ (a : Anchor). Binds flat.shapes a u) same_anchor b.binds)
      ]

  -- What is on one net with a shape of the port is so with each shape that the port's labels bind, as it stands in the macro.
  pub port_net_reaches : (i : Standing s) (port : ℕ) (u inner shape : Shape) → IsPortNet connections s flat i port u → BindsForPort (leaf_lists s i.leaf) (role_ports (role s.plan i.leaf)) port inner → IsMoved i.place inner shape → AreOnOneNet connections flat.shapes u shape
  port_net_reaches i port u inner shape is bound moved =
      let lists = leaf_lists s i.leaf in
      let pins = role_ports (role s.plan i.leaf) in
      let right = right_ports connections lists pins (by.right (role s.plan i.leaf)) in
      let inside_net = right.one port is.inner inner is.bound bound in
      nets_on connections flat.shapes u is.shape shape is.net
      (net_moved connections lists.shapes flat.shapes i.place (stands_plain s i.leaf i.place i.stands) (λ x t listed at. (stated_are_parts connections s flat by).stands i x t (record { listed = listed; moved = at })) is.inner inner is.shape shape is.moved moved inside_net)
