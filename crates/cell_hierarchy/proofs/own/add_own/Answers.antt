use Rattle.std.proofs.lemmas.Result.{on_ok_weaker}
use Rattle.cell_hierarchy.proofs.OwnLaws.{own_grows}
use Rattle.cell_hierarchy.proofs.own.add_own.Goals as goal

pub returns : goal.returns
returns c =
    let shapes = rw c.deref.ensures.value at c.in_ok-add_shapes.ensures in
    let labels = rw c.deref-2.ensures.value at c.in_ok-add_labels.ensures in
    on_ok_weaker c.add_points.result (λ points. own_grows c.args.own.now c.args.at.now c.args.out.now (record { shapes = c.add_shapes.new.out; labels = c.add_labels.new.out; points = c.add_points.new.out }) (record { shapes = shapes; labels = labels; points = points }))
    (rw c.deref-3.ensures.value at c.add_points.ensures)
