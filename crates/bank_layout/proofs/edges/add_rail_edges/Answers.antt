-- A rail more.
use Rattle.std.proofs.Common.{arith}
use Rattle.port_lists.proofs.TabulateLaws.{grown_as, all_of}
use Rattle.bank_layout.specs.BankEdges.{rail_edge}
use Rattle.bank_layout.proofs.edges.add_rail_edges.Goals as goal

pub loop-rail-preserved : goal.loop-rail-preserved
loop-rail-preserved c = grown_as _ _ _ _ c.loop-rail.rail (rail_edge c.args.wire.now c.args.ports.now) c.loop-rail.invariant c.in_ok-push.ensures.items c.in_ok-rail_edge.ensures

pub returns : goal.returns
returns c = all_of _ _ c.loop-rail.rail _ (rail_edge c.args.wire.now c.args.ports.now) c.loop-rail.invariant (omega arith)
