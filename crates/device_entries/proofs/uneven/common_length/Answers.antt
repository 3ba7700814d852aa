use Rattle.std.proofs.Common.{◌≡◌, length, subst, arith}
use Rattle.device_entries.specs.Parting.{ArePartedAt}
use Rattle.device_entries.proofs.PartingLaws.{one_more, parted_at_end}
use Rattle.device_entries.proofs.uneven.common_length.Goals as goal

pub loop-place-preserved : goal.loop-place-preserved
loop-place-preserved c = one_more c.args.entries.now c.args.others.now c.loop-place.place c.loop-place.invariant (c.are_same_at.ensures.yes c.if-not-are_same_at.false)

pub returns : goal.returns
returns c =
    let past = c.loop-place-test.false in
    let end = c.loop-place.auto.place-end in
    let e : c.loop-place.place ≡ length c.args.entries.now = omega (arith, past, end) in
    subst (ArePartedAt c.args.entries.now c.args.others.now) e (parted_at_end c.args.entries.now c.args.others.now c.loop-place.place past c.loop-place.invariant)
