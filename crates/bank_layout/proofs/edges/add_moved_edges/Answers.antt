-- An edge more.
use Rattle.std.proofs.Common.{w64, to_z, of_z, subst}
use Rattle.std.specs.List.{AllByRecursion}
use Rattle.or_geom.specs.Distance.{IsNear}
use Rattle.leaf_tables.specs.declared.part.Edge.{Edge}
use Rattle.bank_layout.specs.BankEdges.{edge_moved}
use Rattle.bank_layout.proofs.BuiltLaws.{mapped_more}
use Rattle.bank_layout.proofs.edges.add_moved_edges.Goals as goal

pub moved_edge-requires-clause-near : goal.moved_edge-requires-clause-near
moved_edge-requires-clause-near c = (subst (AllByRecursion (λ (e : Edge). IsNear e.x)) c.in-Some.ensures.cases.0 c.loop-edge.invariant.near).0

pub loop-edge-preserved : goal.loop-edge-preserved
loop-edge-preserved c = record {
  edges = mapped_more (edge_moved (to_z w64 (of_z w64 c.args.by))) c.loop-edge.rest.now _ c.in-Some.edge.now c.loop-edge.edges.items _ _ c.in_ok-moved_edge.field-0 c.in-Some.ensures.cases.0 c.in_ok-push.ensures.items c.in_ok-moved_edge.ensures c.loop-edge.invariant.edges;
  near = (subst (AllByRecursion (λ (e : Edge). IsNear e.x)) c.in-Some.ensures.cases.0 c.loop-edge.invariant.near).1;
}
