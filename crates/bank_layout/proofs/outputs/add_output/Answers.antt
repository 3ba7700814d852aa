-- One box.
use Rattle.std.proofs.Common.{refl, arith}
use Rattle.std.proofs.lemmas.Int.{ints}
use Rattle.bank_layout.proofs.DrawLaws.{box_adds}
use Rattle.bank_layout.proofs.outputs.add_output.Goals as goal

pub returns : goal.returns
returns c =
    let w = c.requires.sizes.width in
    let x = c.requires.near in
    box_adds _ _ _ _ _ _ _ _ c.in_ok-push.ensures.items refl (omega (arith, ints, x.above, x.below)) (omega (arith, ints)) (omega (arith, ints, x.above, x.below, w.from, w.to)) (omega (arith, ints))
