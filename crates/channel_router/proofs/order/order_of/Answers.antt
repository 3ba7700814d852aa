-- The nets in the order of their numbers, sorted.
use Rattle.std.proofs.Common.{◌≡◌, ℕ, pos, length, get_or, w64, FitsSigned, rules, subst, arith}
use Rattle.std.proofs.lemmas.Int.{to_z-of_z}
use Rattle.std.proofs.lemmas.Option.{slice_get-get_or}
use Rattle.channel_router.specs.declared.channel.Interval.{Interval}
use Rattle.channel_router.proofs.OrderLaws.{AreListed, listed_more, sorted_is_order}
use Rattle.channel_router.proofs.order.order_of.Goals as goal

pub loop-net-preserved : goal.loop-net-preserved
loop-net-preserved c =
    let none : Interval = record { left = pos 0; right = pos 0 } in
    let fits : FitsSigned w64 (get_or c.args.intervals.now c.loop-net.net none).left = search rules in
    listed_more c.args.intervals.now c.loop-net.order.items _ c.loop-net.net (get_or c.args.intervals.now c.loop-net.net none) (slice_get-get_or c.args.intervals.now c.loop-net.net none c.loop-net-test.true)
    (rw (to_z-of_z w64 (get_or c.args.intervals.now c.loop-net.net none).left fits) at c.in_ok-push.ensures.items) c.loop-net.invariant

pub returns : goal.returns
returns c =
    let all : c.loop-net.net ≡ length c.args.intervals.now = omega arith in
    sorted_is_order c.args.intervals.now c.loop-net.order.items c.sort_unstable.new.self.items (subst (λ (n : ℕ). AreListed c.args.intervals.now c.loop-net.order.items n) all c.loop-net.invariant) c.sort_unstable.ensures.permutation c.sort_unstable.ensures.sorted
