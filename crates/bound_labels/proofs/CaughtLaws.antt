-- What the label of a pin binds in a macro: a shape of the pin's net, or one that lies west of the pin's shape and meets it in a corner.
use Rattle.std.proofs.Common.{◌≡◌, ◌⊎◌, inl, inr, ℕ, ◌<ℤ◌, List, Contains, Some, refl, sym, subst, ◌∙◌, arith}
use Rattle.std.specs.Prelude.{slice_get}
use Rattle.std.proofs.lemmas.Int.{ints}
use Rattle.or_geom.specs.declared.shape.Shape.{Shape}
use Rattle.or_geom.specs.declared.shape.Point.{Point}
use Rattle.or_geom.specs.Place.{placed}
use Rattle.or_geom.specs.Joined.{IsIn, AreJoined}
use Rattle.netlist.specs.declared.rows.RowPin.{RowPin}
use Rattle.cell_roles.specs.Roles.{role_ports}
use Rattle.tech_rules.specs.declared.tech.Connect.{Connect}
use Rattle.tech_rules.specs.Touch.{IsConductor, Touch}
use Rattle.tech_rules.specs.Net.{AreOnOneNet}
use Rattle.tech_rules.proofs.LinkedLaws.{linked_next}
use Rattle.element_drawing.specs.PlainLabel.{PlainLabel}
use Rattle.cell_hierarchy.specs.Plain.{FlatLists}
use Rattle.cell_hierarchy.specs.FlatSet.{IsMoved}
use Rattle.label_binding.specs.declared.anchor.Anchor.{Anchor}
use Rattle.net_extractor.specs.PlainNetLabel.{PlainNetLabel}
use Rattle.label_binding.specs.Binding.{IsUnder, Binds}
use Rattle.label_binding.specs.BoundPlaces.{label_anchor}
use Rattle.label_binding.proofs.OneBindingLaws.{binds_some}
use Rattle.sram_netlist.specs.Nets.{Net}
use Rattle.sram_netlist.specs.Netlist.{role, ports}
use Rattle.good_nets.specs.Drawn.{BindsFor}
use Rattle.good_nets.proofs.MovedLaws.{point_moved}
use Rattle.good_nets.proofs.NetLaws.{nets_on}
use Rattle.row_nets.specs.Rows.{IsRowOfNet}
use Rattle.kit_nets.specs.Bound.{BindsForPort}
use Rattle.kit_nets.specs.StatedParts.{Source, Standing, leaf_lists}
use Rattle.kit_nets.proofs.PartsLaws.{stands_plain}
use Rattle.label_nets.specs.Anchored.{IsMatchedMacro, HasLabelOn, IsAnchored}
use Rattle.label_nets.proofs.AnchorLaws.{one_net, row_at, binds_for}
use Rattle.told_nets.proofs.PointLaws.{AreOpposite, meet, west_first}

module _ (connections : List Connect) (s : Source) (flat : FlatLists) (labels : List PlainNetLabel) (rows : List RowPin) (hub : Net → Shape) (m : IsMatchedMacro connections s flat labels rows hub) where
  -- The label of the port that binds the inner shape in the cell by itself, its row, and what it binds in the macro.
  pub record IsBoundPort (i : Standing s) (n : Net) (inner shape : Shape) : Type 0 where
    pub label : PlainLabel
    pub own : Binds (leaf_lists s i.leaf).shapes (label_anchor label) inner
    pub under : IsUnder (record { layer = label.layer; at = placed i.place label.at }) shape
    pub row : RowPin
    pub listed : Contains rows row
    pub of : IsRowOfNet s.plan s.kit.cell s.bits rows row n
    pub u : Shape
    pub binds : Binds flat.shapes (record { layer = label.layer; at = placed i.place label.at }) u
    pub named : BindsFor flat.shapes labels row u

  pub bound_port : (i : Standing s) (port : ℕ) (n : Net) (inner shape : Shape) → slice_get (ports s.plan i.leaf) port ≡ Some n → BindsForPort (leaf_lists s i.leaf) (role_ports (role s.plan i.leaf)) port inner → IsMoved i.place inner shape → Contains flat.shapes shape → IsBoundPort i n inner shape
  bound_port i port n inner shape on bound moved there =
      let label = bound.binds.label in
      let anchor : Anchor = record { layer = label.layer; at = placed i.place label.at } in
      let under : IsUnder anchor shape = record { on = moved.layer ∙ bound.binds.binds.under.on; holds = point_moved i.place inner shape label.at (stands_plain s i.leaf i.place i.stands) moved bound.binds.binds.under.holds } in
      let some = binds_some flat.shapes anchor (λ none. none shape there under) in
      let row = row_at connections s flat labels rows hub m i port bound.pin n bound.there on in
      record {
        label = label;
        own = bound.binds.binds;
        under = under;
        row = row.0;
        listed = row.1;
        of = row.2;
        u = some.0;
        binds = some.1;
        named = binds_for connections s flat labels rows hub m i port bound.pin label row.0 some.0 bound.there bound.binds.listed bound.binds.of row.3 row.4 some.1;
      }

  -- so a pin of the net has a label on whatever this is on one net with
  pub labelled : (i : Standing s) (n : Net) (inner shape : Shape) (b : IsBoundPort i n inner shape) (x : Shape) → AreOnOneNet connections flat.shapes b.u x → HasLabelOn connections s flat labels rows n x
  labelled i n inner shape b x net = record { row = b.row; listed = b.listed; of = b.of; bound = b.u; binds = b.named; joined = net }

  -- two such labels of one net bind shapes on one net
  pub labels_agree : (i j : Standing s) (n : Net) (x y v w : Shape) (b : IsBoundPort i n x v) (c : IsBoundPort j n y w) → AreOnOneNet connections flat.shapes b.u c.u
  labels_agree i j n x y v w b c = (one_net connections s flat labels rows hub m b.row c.row b.u c.u n n b.listed c.listed b.of c.of b.named c.named).0 refl

  -- shapes of one conductor that are joined
  pub touching : (u t : Shape) → IsConductor connections t.layer → u.layer ≡ t.layer → AreJoined u.rect t.rect → Contains flat.shapes t → AreOnOneNet connections flat.shapes u t
  touching u t conductor same joined listed =
      linked_next (Contains flat.shapes) (Touch connections) u t listed (inl (record { one_layer = same; conductor = subst (IsConductor connections) (sym same) conductor; joined = joined }))

  module _ (i : Standing s) (n : Net) (inner shape : Shape) (b : IsBoundPort i n inner shape) (conductor : IsConductor connections shape.layer) (there : Contains flat.shapes shape) where
    pub same_layer : b.u.layer ≡ shape.layer
    same_layer = b.binds.under.on ∙ sym b.under.on

    -- What it binds in the macro is on the net of the pin's shape, or lies west of it, opposite.
    pub bound_or_opposite : AreOnOneNet connections flat.shapes b.u shape ⊎ AreOpposite b.u.rect shape.rect (placed i.place b.label.at)
    bound_or_opposite = elim (meet b.u.rect shape.rect (placed i.place b.label.at) b.binds.under.holds b.under.holds) [
      | inl joined ↦ inl (touching b.u shape conductor same_layer joined there)
      | inr (inl west) ↦ inr west
      | inr (inr east) ↦
          let wide : shape.rect.x1 <ℤ shape.rect.x2 = shape.rect.wide in
          let ends = east.west in
          let begins = east.east in
          absurd (b.binds.first shape there b.under (west_first shape b.u (sym same_layer) (omega (arith, ints))))
    ]

  -- a shape of the net, beside the pin's shape, that is joined with what lies opposite
  pub record IsMetBeside (n : Net) (shape u : Shape) : Type 0 where
    pub t : Shape
    pub listed : Contains flat.shapes t
    pub layer : t.layer ≡ shape.layer
    pub joined : AreJoined u.rect t.rect
    pub net : AreOnOneNet connections flat.shapes t (hub n)

  -- Where each shape that lies opposite at a point meets such a one, the net is anchored.
  pub anchored_beside : (i : Standing s) (port : ℕ) (n : Net) (inner shape : Shape) → slice_get (ports s.plan i.leaf) port ≡ Some n → BindsForPort (leaf_lists s i.leaf) (role_ports (role s.plan i.leaf)) port inner → IsMoved i.place inner shape → Contains flat.shapes shape → IsConductor connections shape.layer
      → ((u : Shape) (p : Point) → IsIn u.rect p → IsIn shape.rect p → AreOpposite u.rect shape.rect p → IsMetBeside n shape u) → IsAnchored connections s flat labels rows hub n
  anchored_beside i port n inner shape on bound moved there conductor beside =
      let b = bound_port i port n inner shape on bound moved there in
      elim (bound_or_opposite i n inner shape b conductor there) [
        | inl net ↦ labelled i n inner shape b (hub n) (nets_on connections flat.shapes b.u shape (hub n) net (m.to_hub i port n inner shape on bound moved))
        | inr west ↦
            let met = beside b.u (placed i.place b.label.at) b.binds.under.holds b.under.holds west in
            let conducts = subst (IsConductor connections) (sym met.layer) conductor in
            labelled i n inner shape b (hub n) (nets_on connections flat.shapes b.u met.t (hub n) (touching b.u met.t conducts (same_layer i n inner shape b conductor there ∙ sym met.layer) met.joined met.listed) met.net)
      ]
