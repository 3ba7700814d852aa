-- A walk over the cells that a top reaches, each with what it draws itself.
use Rattle.std.specs.Prelude.{◌≡◌, ℕ, ◌*◌, ◌^◌, ◌-◌, ◌<◌, List, Some, slice_get, slice_index, length}
use Rattle.std.specs.Str.{IsAscii}
use Rattle.std.specs.List.{AllByRecursion}
use Rattle.or_geom.specs.Place.{IsWithin}
use Rattle.gds_library.specs.declared.library.Element.{Element}
use Rattle.gds_library.specs.declared.library.Structure.{Structure}
use Rattle.gds_library.specs.Writable.{IsWritableCell}
use Rattle.cell_chains.specs.declared.cell.Cell.{Cell}
use Rattle.cell_chains.specs.Instances.{Item, HasItem}
use Rattle.cell_hierarchy.specs.Things.{Thing}
use Rattle.cell_hierarchy.specs.Placed.{IsOfCell, IsOfItem}
use Rattle.cell_hierarchy.specs.Drawings.{AreAllCells, AreCellParts}
use Rattle.cell_hierarchy.specs.Grid.{array_item}
use Rattle.cell_hierarchy.specs.declared.tree.Tree.{Tree}
use Rattle.cell_hierarchy.specs.declared.walk.ArrayBelow.{ArrayBelow}
use Rattle.cell_hierarchy.specs.declared.placement.Placement.{Placement}

-- the cells from the bottom up, each with its part
pub record IsCellTree (tree : Tree) : Type 0 where
  pub writable : AllByRecursion IsWritableCell tree.structs.now
  pub cells : AreAllCells tree.structs.now tree.cells.now
  pub parts : AreCellParts tree.layers.now tree.keeps_labels tree.structs.now tree.cells.now (length tree.cells.now) tree.parts.now

-- a cell may stand there: so near that what is below it is within 2^40
pub record IsPlacedAt (tree : Tree) (index : ℕ) (at : Placement) : Type 0 where
  pub cell : Cell
  pub is : slice_get tree.cells.now index ≡ Some cell
  pub near : IsWithin ((32 - cell.height) * 2 ^ 33) at.place.at
  pub ascii : IsAscii at.path.now

-- the cell may stand at an item of one that stands there
pub record IsBelowAt (tree : Tree) (target : ℕ) (at : Placement) : Type 0 where
  pub cell : Cell
  pub is : slice_get tree.cells.now target ≡ Some cell
  pub low : cell.height < 32
  pub near : IsWithin ((31 - cell.height) * 2 ^ 33) at.place.at
  pub ascii : IsAscii at.path.now

-- the element at index n of the cell may be walked to
pub record IsLiveAt (tree : Tree) (index n : ℕ) : Type 0 where
  pub cell : Cell
  pub is : slice_get tree.cells.now index ≡ Some cell
  pub structure : Structure
  pub stands : slice_get tree.structs.now cell.structure ≡ Some structure
  pub inside : n < length structure.elements

-- it is that element, and the target that the cell has for it
pub record IsElementOf (tree : Tree) (index n : ℕ) (element : Element) (target : ℕ) : Type 0 where
  pub cell : Cell
  pub is : slice_get tree.cells.now index ≡ Some cell
  pub structure : Structure
  pub stands : slice_get tree.structs.now cell.structure ≡ Some structure
  pub there : slice_get structure.elements n ≡ Some element
  pub target_is : target ≡ slice_index cell.targets n

-- x is what one of the flat things of the tree's structure of this name is in the top
abbrev pub IsOfCellIn : Tree → Placement → List ℕ → Thing → Type 0
IsOfCellIn tree at name x = IsOfCell tree.layers.now tree.keeps_labels tree.structs.now at name x

-- the item of the array in this column and row, where the array refers to the structure of this name
abbrev pub IsOfArrayItem : Tree → Placement → ArrayBelow → List ℕ → ℕ → ℕ → Thing → Type 0
IsOfArrayItem tree at array name column row x = IsOfItem tree.layers.now tree.keeps_labels tree.structs.now at (array_item array.n name array.grid.place array.grid.across array.grid.down column row) x

-- what an item of the element at index n of the cell takes over, where the cell stands there
pub record IsOfElement (tree : Tree) (index : ℕ) (at : Placement) (n : ℕ) (x : Thing) : Type 0 where
  pub cell : Cell
  pub is : slice_get tree.cells.now index ≡ Some cell
  pub structure : Structure
  pub stands : slice_get tree.structs.now cell.structure ≡ Some structure
  pub element : Element
  pub there : slice_get structure.elements n ≡ Some element
  pub item : Item
  pub has : HasItem n element item
  pub taken : IsOfItem tree.layers.now tree.keeps_labels tree.structs.now at item x
