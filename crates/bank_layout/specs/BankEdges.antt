-- The edges of a bank, as they are listed.
use Rattle.std.specs.Prelude.{◌≡◌, ℕ, ◌+◌, ℤ, pos, ◌+ℤ◌, ◌-ℤ◌, List, [], ◌∷◌, ◌++◌, cond, map, slice_index_or, codes}
use Rattle.std.specs.Ordering.{int_eq}
use Rattle.cell_roles.specs.declared.role.Role.TheVariants.{Precharge, Sense}
use Rattle.tech_rules.specs.declared.tech.Wire.{Wire}
use Rattle.sram_netlist.specs.Organization.{Organization, inputs_of, words_per_row}
use Rattle.sram_netlist.specs.InstanceList.{tabulate}
use Rattle.sram_netlist.specs.Names.{with_number}
use Rattle.leaf_shapes.specs.declared.pins.LeafPin.{LeafPin}
use Rattle.leaf_tables.specs.declared.kit.Leaf.{Leaf}
use Rattle.leaf_tables.specs.declared.kit.Kit.{Kit}
use Rattle.leaf_tables.specs.declared.part.Edge.{Edge}
use Rattle.leaf_tables.specs.declared.part.Edges.{Edges}
use Rattle.macro_layout.specs.Places.{Floorplan, columns_x, bit_width}
use Rattle.macro_layout.specs.Floorplan.{line_count, rail_count, rail_x, upper_y}
use Rattle.floorplan.specs.LayoutOfKit.{layout_kit}
use Rattle.part_edges.specs.declared.side.PartSide.TheVariants.{Upper}
use Rattle.part_edges.specs.PartPins.{edge_at, edges_at, AreInOrder}
use Rattle.bank_layout.specs.BankTaps.{IsLeafPin}
use Rattle.bank_layout.specs.BankPart.{pre_pins}
use Rattle.bank_layout.specs.Outputs.{output_x}

-- the edge of a rail, which is on the port of its number
abbrev pub rail_edge : Wire → List (List ℕ) → ℕ → Edge
rail_edge wire ports rail = edge_at (slice_index_or ports rail []) (rail_x wire rail)

-- the edge of an output's wire, where the first begins at x, and each so many columns behind the one before, which are so wide
abbrev pub output_edge : ℤ → ℕ → ℕ → ℕ → Edge
output_edge x words width i = edge_at (with_number (codes "o") i) (output_x x words width i)

-- an edge of a part that stands so far right
abbrev pub edge_moved : ℤ → Edge → Edge
edge_moved by edge = edge_at edge.net (edge.x +ℤ by)

-- the list grew by the edge of the rail if its tap, along this pin of the precharge cells, is at their upper end
pub record AddsClockEdge (leaves : List Leaf) (wire : Wire) (ports : List (List ℕ)) (rail : ℕ) (height : ℤ) (old new : List Edge) : Type 0 where
  pub pin : LeafPin
  pub is : IsLeafPin leaves Precharge 2 pin
  pub adds : new ≡ old ++ cond (int_eq (pin.rect.y1 +ℤ wire.width) height) (rail_edge wire ports rail ∷ []) []

-- at the top: the rail of the inverted clock, and pins of precharge cells that are so high
pub record AreTopEdges (kit : Kit) (plan : Organization) (wire : Wire) (floorplan : Floorplan) (n : List ℕ) (ports : List (List ℕ)) (edges : List Edge) : Type 0 where
  pub clock : List Edge
  pub of_clock : AddsClockEdge kit.leaves wire ports (line_count plan.groups + 2) (pos ((layout_kit kit).height Precharge)) [] clock
  pub are : AreInOrder (clock ++ map (edge_moved (columns_x plan (layout_kit kit) floorplan)) (edges_at (Upper (pos ((layout_kit kit).height Precharge))) (pre_pins kit plan n))) edges

-- at the bottom: all rails, the outputs' wires, and those of the data
pub record AreBottomEdges (kit : Kit) (plan : Organization) (wire : Wire) (floorplan : Floorplan) (ports : List (List ℕ)) (lower edges : List Edge) : Type 0 where
  pub pin : LeafPin
  pub is : IsLeafPin kit.leaves Sense 2 pin
  pub are : AreInOrder (tabulate (rail_count plan) (rail_edge wire ports)
      ++ (tabulate (inputs_of plan) (output_edge (columns_x plan (layout_kit kit) floorplan +ℤ pin.rect.x1) (words_per_row plan) (bit_width (layout_kit kit)))
      ++ map (edge_moved (columns_x plan (layout_kit kit) floorplan)) lower)) edges

-- where the data has these edges at its lower side
pub record AreBankEdges (kit : Kit) (plan : Organization) (wire : Wire) (floorplan : Floorplan) (n : List ℕ) (ports : List (List ℕ)) (lower : List Edge) (edges : Edges) : Type 0 where
  pub top : AreTopEdges kit plan wire floorplan n ports edges.top
  pub bottom : AreBottomEdges kit plan wire floorplan ports lower edges.bottom
  pub width : edges.width ≡ floorplan.bank_width
  pub height : edges.height ≡ upper_y (layout_kit kit) floorplan -ℤ floorplan.write_y
