-- The order of edges.
use Rattle.std.specs.Cmp.{IsTotalOrder, on_total, then_total, int_cmp_total}
use Rattle.std.specs.Cmp.Lexicographic.{nat_list_cmp_total}
use Rattle.leaf_tables.specs.declared.part.Edge.{Edge}
use Rattle.part_edges.specs.PartPins.{edge_order}

pub order_total : IsTotalOrder edge_order
order_total = then_total (on_total (λ (e : Edge). e.x) int_cmp_total) (on_total (λ (e : Edge). e.net) nat_list_cmp_total)
