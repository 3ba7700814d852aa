-- What the data of a bank adds: its cell and its subcircuit; its pins; and why it can't be built.
use Rattle.std.specs.Prelude.{◌≡◌, ◌⊎◌, ℕ, ◌*◌, pos, ◌-ℤ◌, List, ◌++◌, Some, codes}
use Rattle.cell_roles.specs.declared.role.Role.{Role}
use Rattle.cell_roles.specs.declared.role.Role.TheVariants.{Sense, Write}
use Rattle.tech_rules.specs.declared.tech.Wire.{Wire}
use Rattle.channel_router.specs.declared.channel.Routed.{Routed}
use Rattle.netlist.specs.declared.deck.Subckt.{Subckt}
use Rattle.cell_builder.specs.CellList.{CellList, with_drawn}
use Rattle.sram_netlist.specs.Organization.{Organization, inputs_of, columns_of}
use Rattle.sram_netlist.specs.InstanceList.{tabulate}
use Rattle.sram_deck.specs.Deck.{made_subckt, data_ports, data_instances}
use Rattle.leaf_tables.specs.declared.kit.Kit.{Kit}
use Rattle.leaf_tables.specs.declared.part.Edges.{Edges}
use Rattle.leaf_tables.specs.declared.part.PartFault.{PartFault}
use Rattle.leaf_tables.specs.declared.part.PartFault.TheVariants as part_fault
use Rattle.port_lists.specs.Cells.{cell_in}
use Rattle.macro_layout.specs.Places.{Floorplan, bit_width}
use Rattle.macro_layout.specs.Floorplan.{IsFloorplan, column_role}
use Rattle.macro_layout.specs.Cells.{data_cell}
use Rattle.floorplan.specs.LayoutOfKit.{layout_kit}
use Rattle.part_edges.specs.PartPins.{PartPin, part_pins, AreEdgesOf}
use Rattle.port_data.specs.Column.{IsNarrowFault, AreWideSlices, IsColumnOf, IsColumnFault}

-- the subcircuit of the data; `cell` is the name of a role's cell
abbrev pub data_part_subckt : Organization → (Role → List ℕ) → List ℕ → Subckt
data_part_subckt plan cell n = made_subckt (n ++ codes "_data") (data_ports plan) (data_instances plan cell)

-- the write cells, the sense cells, and what the columns end in
abbrev pub data_roles : Organization → List Role
data_roles plan = tabulate (inputs_of plan) (λ i. Write) ++ (tabulate plan.word_size (λ i. Sense) ++ tabulate (columns_of plan) (λ c. column_role plan.col_bits))

-- the pins of these cells, from the lower left corner of the data
abbrev pub data_pins : Kit → Organization → Floorplan → List ℕ → List PartPin
data_pins kit plan floorplan n = part_pins kit.leaves (data_roles plan) (data_instances plan (cell_in kit.tech.roles)) (data_cell plan (layout_kit kit) floorplan n).instances

-- The stated cell was added behind the others; the edges are those of the pins; the part is as wide as all columns, and as high
-- as up to where the array begins.
pub record IsDataDrawn (kit : Kit) (plan : Organization) (n : List ℕ) (floorplan : Floorplan) (old new : CellList) (edges : Edges) : Type 0 where
  pub cell : new ≡ with_drawn (data_cell plan (layout_kit kit) floorplan n) old
  pub edges_are : AreEdgesOf (data_pins kit plan floorplan n) edges
  pub width : edges.width ≡ pos (columns_of plan * bit_width (layout_kit kit))
  pub height : edges.height ≡ floorplan.array_y -ℤ floorplan.write_y

-- So for each floorplan of a macro whose column channel has the tracks that were routed, however many its main channel has. No
-- slice is too narrow.
pub record IsDataBuilt (kit : Kit) (plan : Organization) (n : List ℕ) (old new : CellList) (edges : Edges) : Type 0 where
  pub wire : Wire
  pub wired : kit.tech.wire ≡ Some wire
  pub wide : AreWideSlices plan (layout_kit kit)
  pub routed : Routed
  pub column : IsColumnOf kit plan routed
  pub drawn : (main : ℕ) (floorplan : Floorplan) → IsFloorplan plan (layout_kit kit) wire (record { main = main; column = routed.tracks }) floorplan → IsDataDrawn kit plan n floorplan old new edges

-- a slice is too narrow, or else pins of the column channel are too close
abbrev pub IsDataRefused : Kit → Organization → PartFault → Type 0
IsDataRefused kit plan fault =
    IsNarrowFault plan (layout_kit kit) fault
    ⊎ (AreWideSlices plan (layout_kit kit) × ((wire : Wire) → kit.tech.wire ≡ Some wire → IsColumnFault plan (layout_kit kit) wire fault))

-- what is built could be refused for want of memory alone
abbrev pub BuiltExcludesRefused : Type 0
BuiltExcludesRefused = (kit : Kit) (plan : Organization) (n : List ℕ) (old new : CellList) (edges : Edges) (fault : PartFault)
    → IsDataBuilt kit plan n old new edges → IsDataRefused kit plan fault → fault ≡ part_fault.Memory
