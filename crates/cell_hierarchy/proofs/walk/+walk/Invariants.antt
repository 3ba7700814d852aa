use Rattle.std.proofs.Common.{◌+◌, ◌*◌, ℕ, List}
use Rattle.cell_chains.specs.Hierarchy.{IsCellOf}
use Rattle.cell_hierarchy.specs.Below.{SomeBelow}
use Rattle.cell_hierarchy.specs.Parts.{IsOfArrayItem}
use Rattle.cell_hierarchy.specs.Things.{GatheredGrows}
use Rattle.cell_hierarchy.proofs.GrowsLaws.{AtListed}
use Rattle.cell_hierarchy.proofs.WalkLaws.{CellSoFar}
use Rattle.cell_hierarchy.proofs.walk.+walk.Given as goal

abbrev pub decreases-add_cell : goal.decreases-add_cell
decreases-add_cell l = 5 * l.index + 1

abbrev pub decreases-add_element : goal.decreases-add_element
decreases-add_element l = 5 * l.index

abbrev pub decreases-add_array : goal.decreases-add_array
decreases-add_array l = 5 * l.array.target + 4

abbrev pub decreases-add_column : goal.decreases-add_column
decreases-add_column l = 5 * l.array.target + 3

abbrev pub decreases-add_item : goal.decreases-add_item
decreases-add_item l = 5 * l.array.target + 2

abbrev pub invariant-add_cell-loop-i : goal.invariant-add_cell-loop-i
invariant-add_cell-loop-i l = GatheredGrows l.fn.out l.out (CellSoFar l.tree l.fn.index l.at l.part l.i)

abbrev pub invariant-add_array-loop-i : goal.invariant-add_array-loop-i
invariant-add_array-loop-i l =
    (name : List ℕ) → IsCellOf l.tree.structs.now l.tree.cells.now l.fn.array.target name → GatheredGrows l.fn.out l.out (SomeBelow (AtListed (λ column. SomeBelow (IsOfArrayItem l.tree l.at l.fn.array name column) l.fn.array.grid.rows) l.columns.items) l.i)

abbrev pub invariant-add_column-loop-row : goal.invariant-add_column-loop-row
invariant-add_column-loop-row l =
    (name : List ℕ) → IsCellOf l.tree.structs.now l.tree.cells.now l.fn.array.target name → GatheredGrows l.fn.out l.out (SomeBelow (AtListed (IsOfArrayItem l.tree l.at l.fn.array name l.fn.items.column) l.fn.items.rows.now) l.row-index)
