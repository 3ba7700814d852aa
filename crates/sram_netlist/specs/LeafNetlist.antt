-- A netlist of leaf instances.
use Rattle.std.specs.Prelude.{ℕ, List}
use Rattle.cell_roles.specs.declared.leaf_role.LeafRole.{LeafRole}
use Rattle.cell_roles.specs.declared.leaf_role.LeafRole.TheVariants.{Common, Fixed}
use Rattle.sram_netlist.specs.Organization.{Organization}
use Rattle.sram_netlist.specs.Nets.{Net}
use Rattle.sram_netlist.specs.Instances.{LeafInstance, BitAt}
use Rattle.sram_netlist.specs.Netlist.{role, ports}
use Rattle.sram_netlist.specs.Membership.{HasLeafInstance, HasLeafNet}
use Rattle.sram_netlist.specs.BitCells.{fixed_bit}

-- which instances and nets there are, and of each instance its role and the nets on its ports, in the order of the role's ports
pub record LeafNetlist : Type 1 where
  pub has : LeafInstance → Type 0
  pub knows : Net → Type 0
  pub role : LeafInstance → LeafRole
  pub ports : LeafInstance → List Net

-- the reference netlist of a read-write memory
abbrev pub read_write : Organization → LeafNetlist
read_write plan = record { has = HasLeafInstance plan; knows = HasLeafNet plan; role = λ leaf. Common (role plan leaf); ports = ports plan }

-- in a memory that holds fixed words each bit is of a cell that holds this bit
abbrev pub fixed_role : Organization → List ℕ → LeafInstance → LeafRole
fixed_role plan words (BitAt bank r c) = Fixed (fixed_bit plan words r c)
fixed_role plan words leaf = Common (role plan leaf)

-- the reference netlist of a memory that holds these words
abbrev pub fixed_netlist : Organization → List ℕ → LeafNetlist
fixed_netlist plan words = record { has = HasLeafInstance plan; knows = HasLeafNet plan; role = fixed_role plan words; ports = ports plan }
