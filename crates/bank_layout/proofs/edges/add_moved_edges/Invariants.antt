use Rattle.std.proofs.Common.{◌≡◌, ◌++◌, map, length}
use Rattle.std.specs.List.{AllByRecursion}
use Rattle.or_geom.specs.Distance.{IsNear}
use Rattle.leaf_tables.specs.declared.part.Edge.{Edge}
use Rattle.bank_layout.specs.BankEdges.{edge_moved}
use Rattle.bank_layout.proofs.edges.add_moved_edges.Given as goal

abbrev pub invariant-loop-edge : goal.invariant-loop-edge
invariant-loop-edge l = record {
  edges : l.edges.items ++ map (edge_moved l.by) l.rest ≡ l.fn.edges.items ++ map (edge_moved l.by) l.part;
  near : AllByRecursion (λ (edge : Edge). IsNear edge.x) l.rest;
}

abbrev pub decreases-loop-edge : goal.decreases-loop-edge
decreases-loop-edge l = length l.rest
