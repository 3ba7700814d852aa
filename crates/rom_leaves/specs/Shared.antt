-- What the leaf cells of a read-only memory have in common with the bitcell.
use Rattle.std.specs.Prelude.{◌≡◌, ◌⊎◌, ℤ, List, [], ◌∷◌, Option, Some, Bool, true, false, codes}
use Rattle.std.specs.List.{AllByRecursion}
use Rattle.cell_roles.specs.LeafRoles.{leaf_role_name}
use Rattle.cell_roles.specs.declared.leaf_role.LeafRole.TheVariants.{Fixed}
use Rattle.leaf_tables.specs.declared.alignment.PinEdge.TheVariants.{Left, Low}
use Rattle.leaf_tables.specs.declared.fault.KitFault.{KitFault}
use Rattle.leaf_tables.specs.declared.fault.KitFault.TheVariants as kit_fault
use Rattle.leaf_tables.specs.declared.kit.Leaf.{Leaf}
use Rattle.leaf_tables.specs.Alignment.{end_of_pin, IsFirstOdd}
use Rattle.rom_leaves.specs.declared.side.SharedSide.{SharedSide}
use Rattle.rom_leaves.specs.declared.side.SharedSide.TheVariants.{Height, Width, LeftOfBl, LeftOfBr, LowOfWl}

-- a cell's height, its width, and where its pins begin
abbrev pub measure_of : SharedSide → Leaf → Option ℤ
measure_of Height leaf = Some leaf.height
measure_of Width leaf = Some leaf.width
measure_of LeftOfBl leaf = end_of_pin Left (codes "bl") leaf
measure_of LeftOfBr leaf = end_of_pin Left (codes "br") leaf
measure_of LowOfWl leaf = end_of_pin Low (codes "wl") leaf

-- the cells' bits and what is looked at, in order: all heights, all widths, and then all pins
abbrev pub shared_sides : List (Bool × SharedSide)
shared_sides =
    (false, Height) ∷ (true, Height) ∷ (false, Width) ∷ (true, Width)
    ∷ (false, LeftOfBl) ∷ (false, LeftOfBr) ∷ (false, LowOfWl) ∷ (true, LeftOfBl) ∷ (true, LeftOfBr) ∷ (true, LowOfWl) ∷ []

-- of two cells the one for the bit
abbrev pub cell_with : Leaf → Leaf → Bool → Leaf
cell_with zero one false = zero
cell_with zero one true = one

-- the cell for the bit has this as the bitcell has it
abbrev pub IsShared : Leaf → (Bool → Leaf) → Bool × SharedSide → Type 0
IsShared bitcell leaf pair = measure_of pair.1 (leaf pair.0) ≡ measure_of pair.1 bitcell

-- it has all of them so
abbrev pub AreAllShared : Leaf → (Bool → Leaf) → Type 0
AreAllShared bitcell leaf = AllByRecursion (IsShared bitcell leaf) shared_sides

-- how a cell is refused that hasn't
abbrev pub fault_of_side : Bool → SharedSide → KitFault
fault_of_side bit Height = kit_fault.HeightDiffers (leaf_role_name (Fixed bit))
fault_of_side bit Width = kit_fault.WidthDiffers (leaf_role_name (Fixed bit))
fault_of_side bit LeftOfBl = kit_fault.EdgePin (leaf_role_name (Fixed bit)) (codes "bl")
fault_of_side bit LeftOfBr = kit_fault.EdgePin (leaf_role_name (Fixed bit)) (codes "br")
fault_of_side bit LowOfWl = kit_fault.EdgePin (leaf_role_name (Fixed bit)) (codes "wl")

-- it is refused so, or memory ran out
abbrev pub IsSideFault : Bool × SharedSide → KitFault → Type 0
IsSideFault pair fault = (fault ≡ kit_fault.Memory) ⊎ (fault ≡ fault_of_side pair.0 pair.1)

-- the fault of the first that isn't as the bitcell has it
pub record IsFirstSideFault (bitcell : Leaf) (leaf : Bool → Leaf) (fault : KitFault) : Type 0 where
  pub pair : Bool × SharedSide
  pub first : IsFirstOdd (IsShared bitcell leaf) shared_sides pair
  pub is : IsSideFault pair fault
