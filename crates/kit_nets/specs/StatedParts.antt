-- A memory's stated layout as parts: its leaf instances and its wires.
use Rattle.std.specs.Prelude.{◌≡◌, ℕ, List, Some, Contains, length, slice_get}
use Rattle.or_geom.specs.Place.{placed}
use Rattle.tech_rules.specs.Net.{AreOnOneNet}
use Rattle.element_drawing.specs.PlainLabel.{PlainLabel}
use Rattle.cell_hierarchy.specs.FlatSet.{IsMoved}
use Rattle.label_binding.specs.Binding.{Binds}
use Rattle.label_binding.specs.BoundPlaces.{label_anchor}
use Rattle.leaf_shapes.specs.Candidates.{IsLabelOfPin}
use Rattle.or_geom.specs.declared.shape.Shape.{Shape}
use Rattle.or_geom.specs.declared.place.Place.{Place}
use Rattle.gds_library.specs.declared.library.Structure.{Structure}
use Rattle.cell_roles.specs.declared.role.Role.{Role}
use Rattle.cell_roles.specs.declared.role.Role.TheVariants.{Bitcell}
use Rattle.cell_roles.specs.Roles.{role_ports}
use Rattle.tech_rules.specs.declared.tech.Connect.{Connect}
use Rattle.tech_rules.specs.declared.tech.Layer.{Layer}
use Rattle.tech_rules.specs.declared.tech.Wire.{Wire}
use Rattle.tech_rules.specs.Touch.{IsConductor}
use Rattle.cell_hierarchy.specs.Plain.{FlatLists}
use Rattle.cell_hierarchy.specs.FlatLists.{AreFlatLists}
use Rattle.sram_netlist.specs.Organization.{Organization}
use Rattle.sram_netlist.specs.Nets.{Net}
use Rattle.sram_netlist.specs.Instances.{LeafInstance}
use Rattle.sram_netlist.specs.Netlist.{role, ports}
use Rattle.sram_netlist.specs.Membership.{HasLeafInstance}
use Rattle.sram_netlist.specs.BitCells.{BitCells, bit_cell}
use Rattle.macro_layout.specs.LayoutKit.{LayoutKit}
use Rattle.macro_layout.specs.Places.{Floorplan, IsPlaceOf}
use Rattle.macro_layout.specs.Floorplan.{Tracks}
use Rattle.macro_layout.specs.Stated.{IsOnFirstLayer, AreStated}
use Rattle.leaf_nets.specs.RightPins.{AreRightPins}
use Rattle.good_nets.specs.Parts.{Parts}
use Rattle.joined_nets.specs.WireNets.{IsWireOfNet}
use Rattle.kit_nets.specs.Bound.{BindsForPort}

-- what a macro is stated by: layers and structures of its kit, its plan, and the flat lists of each role's cell
pub record Source : Type 0 where
  pub layers : List Layer
  pub structs : List Structure
  pub plan : Organization
  pub kit : LayoutKit
  pub bits : BitCells
  pub wire : Wire
  pub tracks : Tracks
  pub floorplan : Floorplan
  pub lists : Role → FlatLists

-- a leaf instance at its place
pub record Standing (s : Source) : Type 0 where
  pub leaf : LeafInstance
  pub has : HasLeafInstance s.plan leaf
  pub place : Place
  pub stands : IsPlaceOf s.plan s.kit s.floorplan leaf place

abbrev pub leaf_lists : (s : Source) → LeafInstance → FlatLists
leaf_lists s leaf = s.lists (role s.plan leaf)

-- its leaf instances with the nets of the reference netlist, and its wires with theirs
abbrev pub stated_parts : Source → Parts Net
stated_parts s = record {
  Instance = Standing s;
  Twin = λ (i j : Standing s). i.leaf ≡ j.leaf;
  cell = λ (i : Standing s). (leaf_lists s i.leaf).shapes;
  place = λ (i : Standing s). i.place;
  Bound = λ (i : Standing s) (port : ℕ) (inner : Shape). BindsForPort (leaf_lists s i.leaf) (role_ports (role s.plan i.leaf)) port inner;
  ports = λ (i : Standing s). ports s.plan i.leaf;
  Wire = λ (n : Net) (shape : Shape). IsOnFirstLayer s.layers (IsWireOfNet s.plan s.kit s.wire s.tracks s.floorplan n) shape;
}

-- What is known of a macro of a good kit: it is stated so, each role's lists are those of its cell, whose labels are right and bind a conductor for each port;
-- a cell of a bit is the bitcell. (The last two are facts of the netlist and of the floorplan.)
pub record IsStatedBy (connections : List Connect) (s : Source) (flat : FlatLists) : Type 0 where
  pub stated : AreStated s.layers s.structs s.plan s.kit s.bits s.wire s.tracks s.floorplan flat
  pub flat_cells : (r : Role) → AreFlatLists s.layers s.structs (s.kit.cell r) (s.lists r)
  pub bitcell : (r c : ℕ) → bit_cell s.bits r c ≡ s.kit.cell Bitcell
  pub right : (r : Role) → AreRightPins connections (s.lists r) (role_ports r)
  pub conductors : (r : Role) (port : ℕ) (name : List ℕ) → slice_get (role_ports r) port ≡ Some name → (m : Shape) × BindsForPort (s.lists r) (role_ports r) port m × IsConductor connections m.layer
  pub sized : (leaf : LeafInstance) → HasLeafInstance s.plan leaf → length (role_ports (role s.plan leaf)) ≡ length (ports s.plan leaf)
  pub placed_once : (leaf : LeafInstance) (p q : Place) → HasLeafInstance s.plan leaf → IsPlaceOf s.plan s.kit s.floorplan leaf p → IsPlaceOf s.plan s.kit s.floorplan leaf q → p ≡ q

-- Labels of pins stay: what the label of an instance's pin binds among all shapes is on one net with what it binds in the cell by itself, as it stands there.
abbrev pub DoLabelsStay : List Connect → Source → FlatLists → Type 0
DoLabelsStay connections s flat =
    (i : Standing s) (pin : List ℕ) (label : PlainLabel) (inner shape u : Shape) → Contains (role_ports (role s.plan i.leaf)) pin → Contains (leaf_lists s i.leaf).labels label → IsLabelOfPin pin label → Binds (leaf_lists s i.leaf).shapes (label_anchor label) inner → IsMoved i.place inner shape
    → Contains flat.shapes shape → Binds flat.shapes (record { layer = label.layer; at = placed i.place label.at }) u → AreOnOneNet connections flat.shapes u shape
