-- Structures are made, one after another.
use Rattle.std.proofs.lemmas.List.{nil_from_length}
use Rattle.cell_builder.proofs.CellsLaws.{made_all}
use Rattle.cell_builder.proofs.cells.with_finished.Goals as goal

pub returns : goal.returns
returns c = made_all c.args.layers.now c.args.adopted.items c.args.cells.now _ c.loop-cell.structs.items c.loop-cell.invariant.0 (nil_from_length _ c.in_default.ensures.cases)
