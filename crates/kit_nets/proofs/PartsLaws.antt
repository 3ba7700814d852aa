-- A memory's stated layout is one of parts.
use Rattle.std.proofs.Common.{◌≡◌, ◌⊎◌, ◌↔◌, inl, inr, ℕ, ◌+◌, ◌*◌, ◌<◌, ℤ, ◌+ℤ◌, pos, List, Contains, Bool, true, false, cond, Some, refl, sym, ap, subst}
use Rattle.std.specs.Prelude.{slice_get, ◌%◌, ◌==◌}
use Rattle.or_geom.specs.declared.shape.Shape.{Shape}
use Rattle.or_geom.specs.declared.place.Place.{Place}
use Rattle.cell_roles.specs.Roles.{role_ports}
use Rattle.tech_rules.specs.declared.tech.Connect.{Connect}
use Rattle.tech_rules.specs.declared.tech.Layer.{Layer}
use Rattle.cell_hierarchy.specs.Plain.{FlatLists}
use Rattle.cell_hierarchy.specs.FlatSet.{IsFlatShape}
use Rattle.sram_netlist.specs.Nets.{Net}
use Rattle.sram_netlist.specs.Instances.{LeafInstance, BitAt, NandAt, DriverAt, PrechargeAt, WriteAt, SenseAt, MuxAt, TieAt, LogicAt}
use Rattle.sram_netlist.specs.Netlist.{role, ports}
use Rattle.macro_layout.specs.Places.{IsPlaceOf, upright, mirrored_at, leaf_cell, bit_height}
use Rattle.macro_layout.specs.Wires.{IsWireInMacro}
use Rattle.macro_layout.specs.Stated.{IsOnFirstLayer, IsWireInBanks}
use Rattle.good_nets.specs.Ports.{IsPlain}
use Rattle.good_nets.specs.Parts.{Parts, IsShapeOf, AreParts, AreTwins}
use Rattle.good_nets.proofs.PortLaws.{port_reached}
use Rattle.joined_nets.specs.WireNets.{IsWireOfNet}
use Rattle.joined_nets.proofs.WireNetLaws.{item_there, place_below, wire_in_banks_net, wire_in_macro_net, net_of_wire}
use Rattle.kit_nets.specs.Bound.{BindsForPort}
use Rattle.kit_nets.specs.StatedParts.{Source, leaf_lists, stated_parts, IsStatedBy}
use Rattle.kit_nets.proofs.RightLaws.{right_ports}

-- leaf instances stand upright or mirrored
in_row_plain : (turned : Bool) (x y y' : ℤ) (place : Place) → place ≡ cond turned (upright x y) (mirrored_at x y') → IsPlain place
in_row_plain true x y y' place is = inl (record { x = x; y = y; is = is })
in_row_plain false x y y' place is = inr (record { x = x; y = y'; is = is })

pub stands_plain : (s : Source) (leaf : LeafInstance) (place : Place) → IsPlaceOf s.plan s.kit s.floorplan leaf place → IsPlain place
stands_plain s (BitAt b r c) place is = in_row_plain (r % 2 == 0) _ (s.floorplan.array_y +ℤ pos (r * bit_height s.kit)) (s.floorplan.array_y +ℤ pos ((r + 1) * bit_height s.kit)) place is
stands_plain s (NandAt b r) place is = in_row_plain (r % 2 == 0) _ (s.floorplan.array_y +ℤ pos (r * bit_height s.kit)) (s.floorplan.array_y +ℤ pos ((r + 1) * bit_height s.kit)) place is
stands_plain s (DriverAt b r) place is = in_row_plain (r % 2 == 0) _ (s.floorplan.array_y +ℤ pos (r * bit_height s.kit)) (s.floorplan.array_y +ℤ pos ((r + 1) * bit_height s.kit)) place is
stands_plain s (PrechargeAt b c) place is = inl (record { x = _; y = _; is = is })
stands_plain s (WriteAt b i) place is = inl (record { x = _; y = _; is = is })
stands_plain s (SenseAt b i) place is = inl (record { x = _; y = _; is = is })
stands_plain s (MuxAt b c) place is = inl (record { x = _; y = _; is = is })
stands_plain s (TieAt b c) place is = inl (record { x = _; y = _; is = is })
stands_plain s (LogicAt cell) place is = inl (record { x = _; y = _; is = is.at })

-- what is drawn on the first layer of its numbers, seen as something else that is drawn
on_first : (layers : List Layer) (P Q : Shape → Type 0) (s : Shape) (h : IsOnFirstLayer layers P s) → Q h.wire → IsOnFirstLayer layers Q s
on_first layers P Q s h drawn = record { wire = h.wire; drawn = drawn; layer = h.layer; on = h.on; first = h.first; rect = h.rect }

module _ (connections : List Connect) (s : Source) (flat : FlatLists) (by : IsStatedBy connections s flat) where
  -- a leaf instance's cell is that of its role
  pub cell_of_role : (leaf : LeafInstance) → leaf_cell s.plan s.kit s.bits leaf ≡ s.kit.cell (role s.plan leaf)
  cell_of_role (BitAt b r c) = by.bitcell r c
  cell_of_role (NandAt b r) = refl
  cell_of_role (DriverAt b r) = refl
  cell_of_role (PrechargeAt b c) = refl
  cell_of_role (WriteAt b i) = refl
  cell_of_role (SenseAt b i) = refl
  cell_of_role (MuxAt b c) = refl
  cell_of_role (TieAt b c) = refl
  cell_of_role (LogicAt cell) = refl

  listed_there : (leaf : LeafInstance) (inner : Shape) → IsFlatShape s.layers s.structs (leaf_cell s.plan s.kit s.bits leaf) inner ↔ Contains (leaf_lists s leaf).shapes inner
  listed_there leaf inner = (
    λ is. ((by.flat_cells (role s.plan leaf)).shapes_exact inner).1 (subst (λ (name : List ℕ). IsFlatShape s.layers s.structs name inner) (cell_of_role leaf) is),
    λ listed. subst (λ (name : List ℕ). IsFlatShape s.layers s.structs name inner) (sym (cell_of_role leaf)) (((by.flat_cells (role s.plan leaf)).shapes_exact inner).0 listed),
  )

  abbrev parts : Parts Net
  parts = stated_parts s

  shape_is : (shape : Shape) → Contains flat.shapes shape → ((i : parts.Instance) × (inner : Shape) × IsShapeOf connections parts i inner shape) ⊎ ((n : Net) × parts.Wire n shape)
  shape_is shape listed = elim ((by.stated.shapes shape).0 listed) [
    | inl macro ↦ let net = wire_in_macro_net s.plan s.kit s.wire s.tracks s.floorplan macro.wire macro.drawn in
        inr (net.0, on_first s.layers (IsWireInMacro s.plan s.kit s.wire s.tracks s.floorplan) (IsWireOfNet s.plan s.kit s.wire s.tracks s.floorplan net.0) shape macro net.1)
    | inr (inl bank) ↦ let net = wire_in_banks_net s.plan s.kit s.wire s.tracks s.floorplan bank.wire bank.drawn in
        inr (net.0, on_first s.layers (IsWireInBanks s.plan s.kit s.wire s.tracks s.floorplan) (IsWireOfNet s.plan s.kit s.wire s.tracks s.floorplan net.0) shape bank net.1)
    | inr (inr o) ↦ inl (
      record { leaf = o.leaf; has = o.has; place = o.place; stands = o.stands },
      o.taken.inner,
      record { listed = (listed_there o.leaf o.taken.inner).0 o.taken.has; moved = o.taken.moved },
    )
  ]

  stands_listed : (i : parts.Instance) (inner shape : Shape) → IsShapeOf connections parts i inner shape → Contains flat.shapes shape
  stands_listed i inner shape is =
      (by.stated.shapes shape).1 (inr (inr (record {
        leaf = i.leaf;
        has = i.has;
        place = i.place;
        stands = i.stands;
        taken = record { inner = inner; has = (listed_there i.leaf inner).1 is.listed; moved = is.moved };
      })))

  wire_listed : (n : Net) (shape : Shape) → parts.Wire n shape → Contains flat.shapes shape
  wire_listed n shape h = elim (net_of_wire s.plan s.kit s.wire s.tracks s.floorplan n h.wire h.drawn) [
    | inl macro ↦ (by.stated.shapes shape).1 (inl (on_first s.layers (IsWireOfNet s.plan s.kit s.wire s.tracks s.floorplan n) (IsWireInMacro s.plan s.kit s.wire s.tracks s.floorplan) shape h macro))
    | inr bank ↦ (by.stated.shapes shape).1 (inr (inl (on_first s.layers (IsWireOfNet s.plan s.kit s.wire s.tracks s.floorplan n) (IsWireInBanks s.plan s.kit s.wire s.tracks s.floorplan) shape h bank)))
  ]

  port_net : (i : parts.Instance) (port : ℕ) (inner : Shape) → parts.Bound i port inner → (n : Net) × (slice_get (parts.ports i) port ≡ Some n)
  port_net i port inner bound = item_there (ports s.plan i.leaf) port (subst (λ (n : ℕ). port < n) (by.sized i.leaf i.has) (place_below (role_ports (role s.plan i.leaf)) port bound.pin bound.there))

  twins : (i j : parts.Instance) → parts.Twin i j → AreTwins parts i j
  twins i j same = record {
    cell = ap (λ (leaf : LeafInstance). (leaf_lists s leaf).shapes) (sym same);
    place = by.placed_once i.leaf j.place i.place i.has (subst (λ (leaf : LeafInstance). IsPlaceOf s.plan s.kit s.floorplan leaf j.place) (sym same) j.stands) i.stands;
    bound = λ port inner. (
      subst (λ (leaf : LeafInstance). BindsForPort (leaf_lists s leaf) (role_ports (role s.plan leaf)) port inner) same,
      subst (λ (leaf : LeafInstance). BindsForPort (leaf_lists s leaf) (role_ports (role s.plan leaf)) port inner) (sym same),
    );
    ports = ap (ports s.plan) (sym same);
  }

  -- The stated layout consists of its leaf instances and its wires.
  pub stated_are_parts : AreParts connections (stated_parts s) flat.shapes
  stated_are_parts = record {
    all = shape_is;
    stands = stands_listed;
    wires = wire_listed;
    plain = λ i. stands_plain s i.leaf i.place i.stands;
    right = λ i. right_ports connections (leaf_lists s i.leaf) (role_ports (role s.plan i.leaf)) (by.right (role s.plan i.leaf));
    ported = port_net;
    turned = λ i j same. sym same;
    twins = twins;
    reached = λ i port inner listed on.
        let m = by.conductors (role s.plan i.leaf) port on.is.pin on.is.there in
        port_reached connections (leaf_lists s i.leaf).shapes (BindsForPort (leaf_lists s i.leaf) (role_ports (role s.plan i.leaf)))
        (right_ports connections (leaf_lists s i.leaf) (role_ports (role s.plan i.leaf)) (by.right (role s.plan i.leaf))) port inner m.0 on m.1 m.2;
  }
