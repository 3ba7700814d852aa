-- No node stands on a path twice, and a path goes down the order.
use Rattle.reference_graph.proofs.ShortLaws.{acyclic_paths_short, order_long}
use Rattle.reference_graph.proofs.laws.paths_are_short.Goals as goal

pub returns-clause-acyclic : goal.returns-clause-acyclic
returns-clause-acyclic c = acyclic_paths_short

pub returns-clause-ordered : goal.returns-clause-ordered
returns-clause-ordered c = order_long
