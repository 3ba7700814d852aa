-- One cell of several is changed.
use Rattle.std.proofs.lemmas.Result.{on_ok_weaker, on_err_weaker}
use Rattle.cell_builder.proofs.CellsLaws.{cell_changes, cell_same}
use Rattle.cell_builder.proofs.cells.Cells.wire.Goals as goal

pub returns-clause-ok : goal.returns-clause-ok
returns-clause-ok c =
    on_ok_weaker c.push_wire.result (λ e. cell_changes _ c.self.inside.adopted.items c.self.inside.cells.items c.args.self.now c.args.cell _ _ c.self.view_is c.requires.made c.index_mut.ensures.value
    e) c.push_wire.ensures.ok

pub returns-clause-err : goal.returns-clause-err
returns-clause-err c =
    on_err_weaker c.push_wire.result (λ e. cell_same c.self.inside.adopted.items c.self.inside.cells.items c.args.self.now c.args.cell _ _ c.self.view_is c.requires.made c.index_mut.ensures.value e) c.push_wire.ensures.err
