use Rattle.std.proofs.Common.{sym, ap, subst, arith}
use Rattle.net_extractor.proofs.SetLaws.{AreAloneBefore, alone_begins, alone_skips, alone_more, alone_all}
use Rattle.net_extractor.proofs.sets.each_alone.Goals as goal
use Rattle.net_extractor.proofs.sets.each_alone.Goals.{then-place-count, else-place-count}

pub loop-place-init : goal.loop-place-init
loop-place-init c = alone_begins c.args.order.now c.args.count c.in_ok-above.above.items (omega (arith, c.in_ok-above.ensures.len))

pub loop-place-preserved : goal.loop-place-preserved
loop-place-preserved c = elim c.if-place-count.branch [
  | then-place-count w ↦
      subst (AreAloneBefore c.args.order.now c.args.count _) (sym (ap (λ v. v.items) w.above-is)) (alone_more c.args.order.now c.args.count c.loop-place.place-index c.loop-place.above.items w.if-place-count.true c.loop-place.invariant)
  | else-place-count w ↦
      subst (AreAloneBefore c.args.order.now c.args.count _) (sym (ap (λ v. v.items) w.above-is))
      (alone_skips c.args.order.now c.args.count c.loop-place.place-index c.loop-place.above.items w.if-place-count.false c.loop-place-test.true c.loop-place.invariant)
]

pub returns : goal.returns
returns c = alone_all c.args.order.now c.args.count c.loop-place.place-index c.loop-place.above.items c.requires c.loop-place-test.false c.loop-place.invariant
