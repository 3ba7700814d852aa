use Rattle.std.proofs.Common.{◌∙◌, refl}
use Rattle.net_extractor.proofs.PathLaws.{not_empty}
use Rattle.net_extractor.proofs.StrangerLaws.{stranger_here, none_more, none_more_empty, none_all}
use Rattle.net_extractor.proofs.strangers.first_stranger.Goals as goal

pub returns-then-not-is_placed : goal.returns-then-not-is_placed
returns-then-not-is_placed c =
    stranger_here c.args.labels.now c.args.pins.now c.loop-place.place _ c.as_bytes-path.result.now c.deref.result.now c.loop-place-test.true c.as_bytes-path.ensures.value (c.deref.ensures.value ∙ c.in_ok-put_lowered.ensures)
    (not_empty c.as_bytes-path.result.now c.if-is_empty.ensures)
    (λ placed. let found = c.if-not-is_placed.ensures.1 placed in absurd cc)
    c.loop-place.invariant

pub loop-place-preserved-then-is_empty : goal.loop-place-preserved-then-is_empty
loop-place-preserved-then-is_empty c =
    none_more_empty c.args.labels.now c.args.pins.now c.loop-place.place _ c.as_bytes-path.result.now c.loop-place-test.true c.as_bytes-path.ensures.value c.if-is_empty.ensures c.loop-place.invariant

pub loop-place-preserved : goal.loop-place-preserved
loop-place-preserved c =
    none_more c.args.labels.now c.args.pins.now c.loop-place.place _ c.as_bytes-path.result.now c.deref.result.now c.loop-place-test.true c.as_bytes-path.ensures.value (c.deref.ensures.value ∙ c.in_ok-put_lowered.ensures)
    (c.if-not-is_placed.ensures.0 refl) c.loop-place.invariant

pub returns : goal.returns
returns c = none_all c.args.labels.now c.args.pins.now c.loop-place.place c.loop-place-test.false c.loop-place.invariant
