use Rattle.std.proofs.Common.{◌≡◌, ◌+◌, Bool, List, length, map, sym, ap, subst, arith}
use Rattle.std.proofs.lemmas.List.{length-map, take_at}
use Rattle.net_extractor.specs.PlainNets.{plain_net}
use Rattle.net_extractor.proofs.MixedLaws.{AreMixedBefore, mixed_more, mixed_all}
use Rattle.net_extractor.proofs.keys.mixed_marks.Goals as goal

pub loop-place-preserved : goal.loop-place-preserved
loop-place-preserved c =
    let marks = c.loop-place.marks.items in
    let same : length c.mark_mixed.new.marks ≡ length marks = omega (arith, ap length c.deref_mut.ensures.value) in
    let sized : length c.mark_mixed.new.marks ≡ c.loop-place.marks.len = omega arith in
    subst (λ (ms : List Bool). AreMixedBefore (map plain_net c.args.labels.now) ms (c.loop-place.place + 1)) (sym (take_at c.mark_mixed.new.marks _ c.loop-place.marks.len sized))
    (mixed_more (map plain_net c.args.labels.now) marks c.mark_mixed.new.marks c.loop-place.place same (rw c.deref_mut.ensures.value at c.mark_mixed.ensures.kept) c.mark_mixed.ensures.right c.loop-place.invariant)

pub returns : goal.returns
returns c =
    let sized = length-map c.args.labels.now plain_net in
    mixed_all (map plain_net c.args.labels.now) c.loop-place.marks.items c.loop-place.place (omega (arith, sized, c.loop-place-test.false)) c.loop-place.invariant
