-- The next net takes the lowest track that is free.
use Rattle.std.proofs.Common.{◌≡◌, ◌<◌, ℕ, ℤ, ◌+ℤ◌, List, pos, length, get_or, w64, FitsSigned, rules, refl, sym, subst, arith}
use Rattle.std.specs.Prelude.{Contains}
use Rattle.std.proofs.lemmas.Int.{to_z-of_z}
use Rattle.std.proofs.lemmas.Option.{slice_get-get_or, slice_get_read, slice_get_within}
use Rattle.channel_router.specs.declared.channel.Interval.{Interval}
use Rattle.channel_router.specs.Order.{IsTakingOrder}
use Rattle.channel_router.proofs.OccupiedLaws.{insert_cases, insert_keeps, insert_has, pair_cmp, pair_exact}
use Rattle.channel_router.proofs.StateLaws.{state_released, ready}
use Rattle.channel_router.proofs.StepLaws.{state_placed, all_assigned}
use Rattle.channel_router.proofs.assign.lowest_tracks.Goals as goal

-- the net at a place of the order is there
net_inside : (intervals : List Interval) (order : List (ℤ × ℕ)) (k : ℕ) (z : ℤ × ℕ) → IsTakingOrder intervals order → k < length order → z ≡ get_or order k z → z.1 < length intervals
net_inside intervals order k z o lt is =
    let found = o.only k z.1 z.0 (slice_get_read order (length order) k z refl lt is) in
    slice_get_within intervals z.1 found.0 found.1

pub take_track-lowest-requires : goal.take_track-lowest-requires
take_track-lowest-requires c =
    let few = c.loop-k.invariant.state.few in
    let sized = c.loop-k.invariant.ordered.sized in
    let nets = c.requires.few in
    omega (arith, few, sized, nets)

pub index_mut-requires : goal.index_mut-requires
index_mut-requires c =
    let lt = net_inside c.args.intervals.now c.in_ok-order.order.items c.loop-k.k c.index.result.now c.loop-k.invariant.ordered (omega arith) c.index.ensures in
    let sized = c.loop-k.invariant.state.sized in
    omega (arith, lt, sized)

pub bounds-intervals-net : goal.bounds-intervals-net
bounds-intervals-net c = net_inside c.args.intervals.now c.in_ok-order.order.items c.loop-k.k c.index.result.now c.loop-k.invariant.ordered (omega arith) c.index.ensures

pub offset_bounds-intervals-net : goal.offset_bounds-intervals-net
offset_bounds-intervals-net c =
    let lt = net_inside c.args.intervals.now c.in_ok-order.order.items c.loop-k.k c.index.result.now c.loop-k.invariant.ordered (omega arith) c.index.ensures in
    let nets = c.requires.few in
    omega (arith, lt, nets)

pub overflow_add-intervals : goal.overflow_add-intervals
overflow_add-intervals c =
    let none : Interval = record { left = pos 0; right = pos 0 } in
    let lt = net_inside c.args.intervals.now c.in_ok-order.order.items c.loop-k.k c.index.result.now c.loop-k.invariant.ordered (omega arith) c.index.ensures in
    let fits : FitsSigned w64 (get_or c.args.intervals.now c.index.result.now.1 none).right = search rules in
    rw (to_z-of_z w64 (get_or c.args.intervals.now c.index.result.now.1 none).right fits, to_z-of_z w64 c.args.pitch c.ranges.pitch) (c.requires.room c.index.result.now.1 none lt)

pub loop-k-preserved : goal.loop-k-preserved
loop-k-preserved c =
    let none : Interval = record { left = pos 0; right = pos 0 } in
    let intervals = c.args.intervals.now in
    let order = c.in_ok-order.order.items in
    let o = c.loop-k.invariant.ordered in
    let inside : c.loop-k.k < length order = omega arith in
    let lt = net_inside intervals order c.loop-k.k c.index.result.now o inside c.index.ensures in
    let at_k = slice_get_read order (length order) c.loop-k.k c.index.result.now refl inside c.index.ensures in
    let there = slice_get-get_or intervals c.index.result.now.1 none lt in
    let fits_left : FitsSigned w64 c.index.result.now.0 = search rules in
    let fits_right : FitsSigned w64 (get_or intervals c.index.result.now.1 none).right = search rules in
    let fits_sum : FitsSigned w64 ((get_or intervals c.index.result.now.1 none).right +ℤ c.args.pitch) = c.requires.room c.index.result.now.1 none lt in
    let state = rw (to_z-of_z w64 c.args.pitch c.ranges.pitch) at c.loop-k.invariant.state in
    let released = rw (to_z-of_z w64 c.index.result.now.0 fits_left) at c.in_ok-release.ensures in
    let now = state_released c.args.pitch intervals order c.loop-k.track.items c.loop-k.busy.keys c.loop-k.free.keys c.loop-k.opened c.loop-k.k c.index.result.now.1 c.index.result.now.0 c.release.new.busy.keys c.release.new.free.keys o at_k state released in
    let free = ready c.args.pitch intervals order c.loop-k.track.items c.release.new.busy.keys c.release.new.free.keys c.take_track-lowest.new.free.keys c.loop-k.opened c.take_track-lowest.new.opened c.loop-k.k c.index.result.now.1 c.index.result.now.0 c.take_track-lowest.result at_k now c.take_track-lowest.ensures in
    let keys = rw (to_z-of_z w64 (get_or intervals c.index.result.now.1 none).right fits_right, to_z-of_z w64 c.args.pitch c.ranges.pitch, to_z-of_z w64 ((get_or intervals c.index.result.now.1 none).right +ℤ c.args.pitch) fits_sum) at c.in_ok-insert.ensures.keys in
    let key : ℤ × ℕ = ((get_or intervals c.index.result.now.1 none).right +ℤ c.args.pitch, c.take_track-lowest.result) in
    let sized = now.sized in
    rw (to_z-of_z w64 c.args.pitch c.ranges.pitch) (record {
      ordered = o;
      state = state_placed c.args.pitch intervals order c.loop-k.k c.index.result.now.1 c.index.result.now.0 (get_or intervals c.index.result.now.1 none) o at_k there c.loop-k.track.items c.take_track-lowest.result (omega (arith, lt, sized))
          c.release.new.busy.keys c.release.new.free.keys c.take_track-lowest.new.free.keys c.loop-k.opened c.take_track-lowest.new.opened c.insert.new.self.keys now free
          (λ f t h. (released.stays f t h).1)
          (λ z h. insert_cases pair_cmp c.release.new.busy.keys key z (subst (λ (l : List (ℤ × ℕ)). Contains l z) keys h))
          (λ z h. subst (λ (l : List (ℤ × ℕ)). Contains l z) (sym keys) (insert_keeps pair_cmp c.release.new.busy.keys key z h))
          (subst (λ (l : List (ℤ × ℕ)). Contains l key) (sym keys) (insert_has pair_cmp pair_exact c.release.new.busy.keys key))
          (c.requires.forward c.index.result.now.1 (get_or intervals c.index.result.now.1 none) there) c.requires.pitch;
    })

pub returns : goal.returns
returns c =
    let state = rw (to_z-of_z w64 c.args.pitch c.ranges.pitch) at c.loop-k.invariant.state in
    all_assigned c.args.pitch c.args.intervals.now c.in_ok-order.order.items c.loop-k.track.items c.loop-k.busy.keys c.loop-k.free.keys c.loop-k.opened c.loop-k.k c.loop-k.invariant.ordered state (omega arith)
