use Rattle.std.proofs.lemmas.Result.{IfOk-weaker}
use Rattle.shape_bins.proofs.FilledLaws.{joined_twice}
use Rattle.shape_bins.proofs.filled.all_filled.Goals as goal

pub returns : goal.returns
returns c =
    IfOk-weaker c.join_neighbours-2.result _ _ (λ out j. joined_twice c.args.shapes.now _ _ _ _ _ _ out.items c.in_ok-columns.ensures c.sort_unstable_by_key.ensures.permutation c.deref.ensures.value c.in_ok-rows.ensures c.sort_unstable_by_key-2.ensures.permutation c.deref-2.ensures.value j)
    c.join_neighbours-2.ensures
