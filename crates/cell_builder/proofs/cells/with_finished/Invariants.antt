use Rattle.std.proofs.Common.{length}
use Rattle.std.specs.List.{AllByRecursion}
use Rattle.cell_builder.specs.Flat.{HasLayers}
use Rattle.cell_builder.proofs.CellsLaws.{IsMadeBut}
use Rattle.cell_builder.proofs.cells.with_finished.Given as goal

abbrev pub invariant-loop-cell : goal.invariant-loop-cell
invariant-loop-cell l = IsMadeBut l.layers l.fn.adopted.items l.cells l.rest l.structs.items × AllByRecursion (HasLayers l.layers) l.rest

abbrev pub decreases-loop-cell : goal.decreases-loop-cell
decreases-loop-cell l = length l.rest
