use Rattle.std.proofs.lemmas.Result.{on_ok_weaker}
use Rattle.shape_bins.proofs.OrderLaws.{order_added}
use Rattle.shape_bins.proofs.order.add_order.Goals as goal

pub returns : goal.returns
returns g c = on_ok_weaker _ (λ made. order_added c.in_ok-keys.keys.items _ c.args.places.now.items _ c.args.begin c.args.end c.requires.order c.sort_keys.ensures c.in_ok-keys.ensures (rw c.deref.ensures.value at made)) c.add_places.ensures
