use Rattle.channel_router.proofs.OrderLaws.{AreListed}
use Rattle.channel_router.proofs.order.order_of.Given as goal

abbrev pub invariant-loop-net : goal.invariant-loop-net
invariant-loop-net l = AreListed l.intervals l.order.items l.net
