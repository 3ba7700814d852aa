-- What is known of a cell that has flat lists, and that the leaf cells of a macro have them.
use Rattle.std.specs.Prelude.{ℕ, List}
use Rattle.gds_library.specs.declared.library.Structure.{Structure}
use Rattle.gds_library.specs.Writable.{IsText}
use Rattle.tech_rules.specs.declared.tech.Layer.{Layer}
use Rattle.cell_hierarchy.specs.Plain.{FlatLists}
use Rattle.cell_hierarchy.specs.FlatLists.{AreFlatLists}
use Rattle.cell_builder.specs.Libraries.{IsComplete}
use Rattle.cell_roles.specs.declared.role.Role.{Role}
use Rattle.sram_netlist.specs.Organization.{Organization}
use Rattle.sram_netlist.specs.Instances.{LeafInstance}
use Rattle.sram_netlist.specs.BitCells.{BitCells, bit_cell}
use Rattle.macro_layout.specs.LayoutKit.{LayoutKit}
use Rattle.macro_layout.specs.Places.{leaf_cell}
use Rattle.macro_layout.specs.Sound.{IsSoundWithin}

-- All that a cell with flat lists reaches is among the structures.
abbrev pub FlatCellsAreComplete : Type 0
FlatCellsAreComplete = (layers : List Layer) (structs : List Structure) (cell : List ℕ) (lists : FlatLists) → AreFlatLists layers structs cell lists → IsComplete structs cell

-- It is sound, and its chains have at most 32 references.
abbrev pub FlatCellsAreSound : Type 0
FlatCellsAreSound = (layers : List Layer) (structs : List Structure) (cell : List ℕ) (lists : FlatLists) → AreFlatLists layers structs cell lists → IsSoundWithin 32 structs cell

-- the cell of this name has flat lists
abbrev pub HasFlatLists : List Layer → List Structure → List ℕ → Type 0
HasFlatLists layers structs cell = (lists : FlatLists) × AreFlatLists layers structs cell lists

-- each bit is held by a cell of the structures, whose name can be written and which has flat lists
pub record AreKitBits (layers : List Layer) (structs : List Structure) (bits : BitCells) : Type 0 where
  pub names : (r c : ℕ) → IsText (bit_cell bits r c)
  pub flat : (r c : ℕ) → HasFlatLists layers structs (bit_cell bits r c)

-- The leaf cells of a macro have flat lists where the cells of roles and bits have them.
abbrev pub LeafCellsAreFlat : Type 0
LeafCellsAreFlat = (layers : List Layer) (structs : List Structure) (plan : Organization) (kit : LayoutKit) (bits : BitCells) → AreKitBits layers structs bits → ((r : Role) → HasFlatLists layers structs (kit.cell r))
    → (leaf : LeafInstance) → HasFlatLists layers structs (leaf_cell plan kit bits leaf)
