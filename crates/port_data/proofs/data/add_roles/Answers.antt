-- A role more.
use Rattle.port_lists.proofs.TabulateLaws.{grown}
use Rattle.port_data.proofs.data.add_roles.Goals as goal

pub loop-preserved : goal.loop-preserved
loop-preserved c = grown _ _ _ c.loop.counter (λ k. c.args.role) c.loop.invariant c.in_ok-push.ensures.items
