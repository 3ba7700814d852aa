-- The leaf cells of a read-only memory in a kit, and why there may be none.
use Rattle.std.specs.Prelude.{◌≡◌, ◌⊎◌, Some, Bool, false, IsTrue}
use Rattle.cell_roles.specs.declared.role.Role.TheVariants.{Bitcell}
use Rattle.cell_roles.specs.declared.leaf_role.LeafRole.TheVariants.{Fixed}
use Rattle.tech_rules.specs.declared.tech.Wire.{Wire}
use Rattle.role_tables.specs.declared.fault.TableFault.{TableFault}
use Rattle.role_tables.specs.Table.{HasTable}
use Rattle.role_tables.specs.Fault.{IsRoleFault}
use Rattle.leaf_tables.specs.declared.fault.KitFault.{KitFault}
use Rattle.leaf_tables.specs.declared.kit.Kit.{Kit}
use Rattle.leaf_tables.specs.declared.kit.Leaf.{Leaf}
use Rattle.leaf_tables.specs.Alignment.{leaf_in}
use Rattle.leaf_tables.specs.Faults.{of_table}
use Rattle.leaf_tables.specs.Kits.{source_of}
use Rattle.leaf_tables.specs.Leaves.{LeafSource, IsLeaf, IsLeafFault}
use Rattle.rom_leaves.specs.Shared.{AreAllShared, IsFirstSideFault}

-- the technology says what a cell with this fixed bit does, and the cell is drawn and wired as it has to be
pub record IsFixedLeaf (source : LeafSource) (bit : Bool) (leaf : Leaf) : Type 0 where
  pub table : HasTable source.tech (Fixed bit)
  pub is : IsLeaf source (Fixed bit) leaf

-- the technology lacks it, for this reason
pub record LacksTable (source : LeafSource) (bit : Bool) (fault : KitFault) : Type 0 where
  pub table : TableFault
  pub is : IsRoleFault source.tech (Fixed bit) table
  pub told : fault ≡ of_table table

-- what is wrong with the table, or else with the cell
abbrev pub IsFixedFault : LeafSource → Bool → KitFault → Type 0
IsFixedFault source bit fault = LacksTable source bit fault ⊎ (HasTable source.tech (Fixed bit) × IsLeafFault source (Fixed bit) fault)

-- the kit has a cell for each bit
pub record AreFixedLeaves (kit : Kit) (leaf : Bool → Leaf) : Type 0 where
  pub wire : Wire
  pub wired : kit.tech.wire ≡ Some wire
  pub each : (bit : Bool) → IsFixedLeaf (source_of kit wire) bit (leaf bit)

-- The kit has the two leaf cells of a read-only memory, and they stand where its bitcell would.
pub record HasRomLeaves (kit : Kit) : Type 0 where
  pub leaf : Bool → Leaf
  pub are : AreFixedLeaves kit leaf
  pub bitcell : Leaf
  pub there : leaf_in kit.leaves Bitcell ≡ Some bitcell
  pub shared : AreAllShared bitcell leaf

-- this is wrong with the cell for the bit, where that for 0 comes first
pub record LacksFixedLeaf (kit : Kit) (fault : KitFault) : Type 0 where
  pub wire : Wire
  pub wired : kit.tech.wire ≡ Some wire
  pub bit : Bool
  pub is : IsFixedFault (source_of kit wire) bit fault
  pub before : IsTrue bit → (leaf : Leaf) × IsFixedLeaf (source_of kit wire) false leaf

-- both are there, and this doesn't stand where it would in the bitcell
pub record LacksSharedSide (kit : Kit) (fault : KitFault) : Type 0 where
  pub leaf : Bool → Leaf
  pub are : AreFixedLeaves kit leaf
  pub bitcell : Leaf
  pub there : leaf_in kit.leaves Bitcell ≡ Some bitcell
  pub is : IsFirstSideFault bitcell leaf fault

-- what is wrong with the kit's leaf cells of a read-only memory, the first of these
abbrev pub IsRomLeafFault : Kit → KitFault → Type 0
IsRomLeafFault kit fault = LacksFixedLeaf kit fault ⊎ LacksSharedSide kit fault
