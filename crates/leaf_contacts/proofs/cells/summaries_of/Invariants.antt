use Rattle.leaf_contacts.specs.Contact.{leaf_cell_names}
use Rattle.leaf_contacts.specs.Stands.{AreCellSummaries}
use Rattle.leaf_contacts.proofs.cells.summaries_of.Given as goal

abbrev pub invariant-loop-cell : goal.invariant-loop-cell
invariant-loop-cell l = AreCellSummaries l.layers (leaf_cell_names l.leaves) l.structs l.cells l.cell-index l.summaries.items
