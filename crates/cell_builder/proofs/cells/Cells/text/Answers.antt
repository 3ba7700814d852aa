-- One cell of several is changed.
use Rattle.std.proofs.Common.{◌∙◌}
use Rattle.std.proofs.lemmas.Result.{on_ok_weaker, on_err_weaker}
use Rattle.cell_builder.specs.Additions.{add_label, label_at}
use Rattle.cell_builder.proofs.CellsLaws.{cell_changes, cell_same}
use Rattle.cell_builder.proofs.cells.Cells.text.Goals as goal

pub returns-clause-ok : goal.returns-clause-ok
returns-clause-ok c =
    on_ok_weaker c.push_label.result (λ e. cell_changes _ c.self.inside.adopted.items c.self.inside.cells.items c.args.self.now c.args.cell _ _ c.self.view_is c.requires.made c.index_mut.ensures.value
    (e ∙ (λ i. add_label (label_at c.args.layer c.args.at (c.in_ok-text.ensures i)) c.index_mut.result.now))) c.push_label.ensures.ok

pub returns-clause-err : goal.returns-clause-err
returns-clause-err c =
    on_err_weaker c.push_label.result (λ e. cell_same c.self.inside.adopted.items c.self.inside.cells.items c.args.self.now c.args.cell _ _ c.self.view_is c.requires.made c.index_mut.ensures.value e) c.push_label.ensures.err
