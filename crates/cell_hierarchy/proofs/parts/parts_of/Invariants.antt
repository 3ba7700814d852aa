use Rattle.cell_hierarchy.specs.Drawings.{AreCellParts}
use Rattle.cell_hierarchy.proofs.parts.parts_of.Given as goal

abbrev pub invariant-loop-cell : goal.invariant-loop-cell
invariant-loop-cell l = AreCellParts l.layers l.keeps_labels l.structs l.cells l.cell-index l.parts.items
