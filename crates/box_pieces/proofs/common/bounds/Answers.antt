use Rattle.box_pieces.proofs.PartLaws.{bounds_begin, bounds_more}
use Rattle.box_pieces.proofs.common.bounds.Goals as goal

pub loop-rect-init : goal.loop-rect-init
loop-rect-init c = bounds_begin c.args.boxes.now c.in_ok-first.others.now c.in_ok-first.first.now c.in_ok-first.ensures.cases.0

pub loop-rect-preserved : goal.loop-rect-preserved
loop-rect-preserved c =
    bounds_more c.args.boxes.now c.in_ok-first.others.now c.loop-rect.rect-index c.rect-item.result c.loop-rect.area c.around-area.result c.loop-rect-test.true c.rect-item.is c.around-area.ensures c.loop-rect.invariant
