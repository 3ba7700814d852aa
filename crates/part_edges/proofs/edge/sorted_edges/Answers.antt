-- A sort by the order of edges.
use Rattle.std.proofs.Common.{rules, is_lt, sym, subst}
use Rattle.std.proofs.lemmas.List.Sorted.{ranks_by}
use Rattle.std.proofs.lemmas.Fn.{always_returns_same}
use Rattle.part_edges.specs.PartPins.{edge_order, AreInOrder}
use Rattle.part_edges.proofs.OrderLaws.{order_total}
use Rattle.part_edges.proofs.edge.sorted_edges.Goals as goal

pub returns : goal.returns
returns c = subst (AreInOrder c.args.edges.items) (sym c.from_vec.ensures) (record {
  same = c.sort_unstable_by.ensures.permutation;
  rises = c.sort_unstable_by.ensures.sorted (λ a b. is_lt (edge_order a b)) (ranks_by order_total (λ e. e)) (always_returns_same _ _ _ (λ a r f k. search rules));
})
