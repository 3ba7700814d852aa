use Rattle.channel_router.specs.Order.{IsTakingOrder}
use Rattle.channel_router.proofs.StateLaws.{IsState}
use Rattle.channel_router.proofs.assign.lowest_tracks.Given as goal

abbrev pub invariant-loop-k : goal.invariant-loop-k
invariant-loop-k l = record {
  ordered : IsTakingOrder l.intervals l.order.items;
  state : IsState l.pitch l.intervals l.order.items l.track.items l.busy.keys l.free.keys l.opened l.k;
}
