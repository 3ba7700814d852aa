-- The names are there.
use Rattle.cell_chains.specs.Numbering.{all_referred}
use Rattle.cell_chains.proofs.nodes.nodes_of.Goals as goal
use Rattle.or_geom.proofs.ListLaws.{contains_first, contains_later}

pub graph_of-requires-clause-there : goal.graph_of-requires-clause-there
graph_of-requires-clause-there c = λ name h. rw c.deref-2.ensures.value (c.in_ok-names.ensures.all name (contains_later c.args.top.now (all_referred c.args.structs.now) name h))

pub unreachable-requires : goal.unreachable-requires
unreachable-requires c = c.in_default.ensures.none (rw (c.deref-4.ensures.value, c.as_bytes.ensures) (c.in_ok-names.ensures.all c.args.top.now (contains_first c.args.top.now (all_referred c.args.structs.now))))

pub returns : goal.returns
returns c = record {
  numbered = record {
    rises = c.in_ok-names.ensures.rises;
    all = λ name h. c.in_ok-names.ensures.all name (contains_later c.args.top.now (all_referred c.args.structs.now) name h);
    firsts = rw c.deref.ensures.value at c.in_ok-firsts.ensures;
    graph = rw c.deref-2.ensures.value at c.in_ok-graph.ensures;
  };
  start = rw (c.deref-4.ensures.value, c.as_bytes.ensures) at c.in-Some.ensures.found;
}
