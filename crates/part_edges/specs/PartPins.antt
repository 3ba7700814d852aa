-- The edges of a part of a memory: where the nets of its leaf cells come to its upper and to its lower side.
use Rattle.std.specs.Prelude.{ℕ, ℤ, pos, List, [], ◌∷◌, ◌++◌, Bool, true, false, cond, map, Option, Some, None, IsPermutation, IsSorted, slice_index_or}
use Rattle.std.specs.List.{filter, position_or_len}
use Rattle.std.specs.Int.{int_max, int_min}
use Rattle.std.specs.Str.{bytes_eq}
use Rattle.std.specs.Ordering.{ordering_then, int_cmp, int_eq, nat_cmp}
use Rattle.std.specs.Cmp.Lexicographic.{slice_cmp}
use Rattle.std.specs.declared.cmp.Ordering.{Ordering}
use Rattle.or_geom.specs.declared.shape.Rect.{Rect}
use Rattle.or_geom.specs.declared.place.Place.{Place}
use Rattle.or_geom.specs.Place.{placed, low_corner, high_corner}
use Rattle.netlist.specs.declared.deck.Instance.{Instance}
use Rattle.cell_builder.specs.declared.cell.PlacedInstance.{PlacedInstance}
use Rattle.cell_roles.specs.declared.role.Role.{Role}
use Rattle.cell_roles.specs.Roles.{role_ports}
use Rattle.leaf_shapes.specs.declared.fit.Fit.{Fit}
use Rattle.leaf_shapes.specs.declared.fit.Fit.TheVariants.{Top, Bottom, TopAndBottom, Left, Right, LeftAndRight, Anywhere, LowerRail, UpperRail}
use Rattle.leaf_shapes.specs.declared.pins.LeafPin.{LeafPin}
use Rattle.leaf_shapes.specs.Demands.{PinDemand, role_demands}
use Rattle.leaf_tables.specs.declared.kit.Leaf.{Leaf}
use Rattle.leaf_tables.specs.declared.part.Edge.{Edge}
use Rattle.leaf_tables.specs.declared.part.Edges.{Edges}
use Rattle.leaf_tables.specs.Alignment.{leaf_in}
use Rattle.part_edges.specs.declared.side.PartSide.{PartSide}
use Rattle.part_edges.specs.declared.side.PartSide.TheVariants.{Lower, Upper}

-- a pin of a part: its net, and where its shape begins from the left, begins from below, and ends above
pub record PartPin : Type 0 where
  pub net : List ℕ
  pub left : ℤ
  pub low : ℤ
  pub high : ℤ

-- the pin on the net whose shape is the rectangle of a cell that stands at the place
abbrev pub placed_pin : List ℕ → Place → Rect → PartPin
placed_pin net place r = record {
  net = net;
  left = int_min (placed place (low_corner r)).x (placed place (high_corner r)).x;
  low = int_min (placed place (low_corner r)).y (placed place (high_corner r)).y;
  high = int_max (placed place (low_corner r)).y (placed place (high_corner r)).y;
}

-- a shape that lies so reaches the cell's upper or lower side
abbrev pub is_at_side : Fit → Bool
is_at_side Top = true
is_at_side Bottom = true
is_at_side TopAndBottom = true
is_at_side Left = false
is_at_side Right = false
is_at_side LeftAndRight = false
is_at_side Anywhere = false
is_at_side LowerRail = false
is_at_side UpperRail = false

-- the first port of this name, counted from 0; and the net that is on it, where the ports are on these nets
abbrev pub port_place : List (List ℕ) → List ℕ → ℕ
port_place ports pin = position_or_len (λ (port : List ℕ). bytes_eq port pin) ports

abbrev pub net_of : List (List ℕ) → List (List ℕ) → List ℕ → List ℕ
net_of ports nets pin = slice_index_or nets (port_place ports pin) []

-- of the pins' shapes, one for each demand, those that reach the upper or the lower side
abbrev pub side_pins : Role → List (List ℕ) → Place → List PinDemand → List LeafPin → List PartPin
side_pins role nets place [] pins = []
side_pins role nets place (d ∷ ds) [] = []
side_pins role nets place (d ∷ ds) (p ∷ ps) = cond (is_at_side d.fit) (placed_pin (net_of (role_ports role) nets d.pin) place p.rect ∷ side_pins role nets place ds ps) (side_pins role nets place ds ps)

abbrev pub pins_of_leaf : Option Leaf → List LeafPin
pins_of_leaf None = []
pins_of_leaf (Some leaf) = leaf.pins

-- those of the role's leaf cell as it stands at the place, with its ports on these nets
abbrev pub edge_pins : List Leaf → Role → List (List ℕ) → Place → List PartPin
edge_pins leaves role nets place = side_pins role nets place (role_demands role) (pins_of_leaf (leaf_in leaves role))

-- Those of the leaf cells of a part, in turn: each of its role, on the nets of its instance in the part's subcircuit, and as it
-- stands in the part's cell. (The three lists of a part are equally long.)
abbrev pub part_pins : List Leaf → List Role → List Instance → List PlacedInstance → List PartPin
part_pins leaves [] instances placed = []
part_pins leaves (r ∷ rs) [] placed = []
part_pins leaves (r ∷ rs) (i ∷ is) [] = []
part_pins leaves (r ∷ rs) (i ∷ is) (p ∷ ps) = edge_pins leaves r i.nodes p.place ++ part_pins leaves rs is ps

-- where a net comes to an edge
abbrev pub edge_at : List ℕ → ℤ → Edge
edge_at net x = record { net = net; x = x }

abbrev pub edge_of : PartPin → Edge
edge_of pin = edge_at pin.net pin.left

-- by x, and then by name
abbrev pub edge_order : Edge → Edge → Ordering
edge_order a b = ordering_then (int_cmp a.x b.x) (slice_cmp nat_cmp a.net b.net)

-- the same edges, in this order
pub record AreInOrder (edges sorted : List Edge) : Type 0 where
  pub same : IsPermutation edges sorted
  pub rises : IsSorted edge_order sorted

-- the shape ends at this height, or begins there
abbrev pub ends_at : ℤ → PartPin → Bool
ends_at y pin = int_eq pin.high y

abbrev pub begins_at : ℤ → PartPin → Bool
begins_at y pin = int_eq pin.low y

-- what lies between these heights reaches this side
abbrev pub reaches : PartSide → ℤ → ℤ → Bool
reaches Lower low high = int_eq low (pos 0)
reaches (Upper height) low high = int_eq high height

abbrev pub meets : PartSide → PartPin → Bool
meets side pin = reaches side pin.low pin.high

-- the edges at this side, in the order of the pins
abbrev pub edges_at : PartSide → List PartPin → List Edge
edges_at side pins = map edge_of (filter (meets side) pins)

-- The edges of a part that has these pins: at the top those of the pins that end at its upper side, at the bottom those of the
-- pins that begin at its lower side, each once and in order.
pub record AreEdgesOf (pins : List PartPin) (edges : Edges) : Type 0 where
  pub top : AreInOrder (map edge_of (filter (ends_at edges.height) pins)) edges.top
  pub bottom : AreInOrder (map edge_of (filter (begins_at (pos 0)) pins)) edges.bottom
