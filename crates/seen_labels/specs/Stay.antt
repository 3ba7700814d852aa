-- Labels of pins stay on their nets in a memory whose parts are seen in a small memory where they do.
use Rattle.std.specs.Prelude.{◌≡◌, ℕ, ℤ, pos, List, Contains, Some, slice_get}
use Rattle.or_geom.specs.declared.shape.Shape.{Shape}
use Rattle.cell_roles.specs.Roles.{role_ports}
use Rattle.tech_rules.specs.declared.tech.Connect.{Connect}
use Rattle.tech_rules.specs.Net.{AreOnOneNet}
use Rattle.cell_hierarchy.specs.Plain.{FlatLists}
use Rattle.cell_hierarchy.specs.FlatSet.{IsMoved}
use Rattle.sram_netlist.specs.Organization.{Organization}
use Rattle.sram_netlist.specs.Instances.{LeafInstance}
use Rattle.sram_netlist.specs.Membership.{HasLeafInstance}
use Rattle.sram_netlist.specs.Nets.{Net}
use Rattle.sram_netlist.specs.Netlist.{role, ports}
use Rattle.good_places.specs.Leaves.{PassesAtMost}
use Rattle.leaf_shapes.specs.Outline.{IsWireLayer}
use Rattle.kit_nets.specs.Bound.{BindsForPort}
use Rattle.kit_nets.specs.StatedParts.{Source, Standing, leaf_lists, stated_parts, IsStatedBy, DoLabelsStay}
use Rattle.seen_pairs.specs.Window.{IsSeenSource, HasSeenWindow}

-- Leaf cells draw near their sides, so far at most, in each memory; and on layers of wires inside of them.
abbrev pub DoShapesPassLittle : Source → ℤ → Type 0
DoShapesPassLittle s by = (plan : Organization) (leaf : LeafInstance) (inner : Shape) → HasLeafInstance plan leaf → Contains (s.lists (role plan leaf)).shapes inner → PassesAtMost by (s.kit.width (role plan leaf)) (s.kit.height (role plan leaf)) inner.rect

abbrev pub DoShapesStayInside : Source → Type 0
DoShapesStayInside s = (plan : Organization) (leaf : LeafInstance) (inner : Shape) → HasLeafInstance plan leaf → Contains (s.lists (role plan leaf)).shapes inner → IsWireLayer s.wire inner.layer → PassesAtMost (pos 0) (s.kit.width (role plan leaf)) (s.kit.height (role plan leaf)) inner.rect

-- The memory is stated so; and what the labels of an instance's port bind in the cell by itself, and each wire, is joined with the hub of its net.
pub record IsJoinedMemory (connections : List Connect) (s : Source) (flat : FlatLists) (hub : Net → Shape) : Type 0 where
  pub stated : IsStatedBy connections s flat
  pub ports : (i : Standing s) (port : ℕ) (net : Net) (inner shape : Shape) → slice_get (ports s.plan i.leaf) port ≡ Some net → BindsForPort (leaf_lists s i.leaf) (role_ports (role s.plan i.leaf)) port inner → IsMoved i.place inner shape → AreOnOneNet connections flat.shapes shape (hub net)
  pub wires : (net : Net) (shape : Shape) → (stated_parts s).Wire net shape → AreOnOneNet connections flat.shapes shape (hub net)

-- Then labels of pins stay.
abbrev pub SeenLabelsStay : Type 0
SeenLabelsStay = (connections : List Connect) (s : Source) (by reach : ℤ) (flat : FlatLists) (hub : Net → Shape) → IsSeenSource connections s by reach → HasSeenWindow connections s → DoShapesPassLittle s by → DoShapesStayInside s → IsJoinedMemory connections s flat hub → DoLabelsStay connections s flat
