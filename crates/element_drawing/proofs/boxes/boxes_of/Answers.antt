use Rattle.std.proofs.lemmas.List.{nil_from_length}
use Rattle.element_drawing.proofs.BoxLaws.{boxes_all}
use Rattle.element_drawing.proofs.boxes.boxes_of.Goals as goal

pub returns : goal.returns
returns c = boxes_all c.args.stroke c.args.first c.args.others.now c.loop-to.tip _ (rw (nil_from_length _ c.in_default.ensures.cases) at c.loop-to.invariant)
