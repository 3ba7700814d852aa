use Rattle.std.proofs.Common.{[], ◌∷◌}
use Rattle.box_pieces.proofs.SplitLaws.{cuts_more}
use Rattle.box_pieces.proofs.pieces.add_cuts.Goals as goal

pub loop-rect-preserved : goal.loop-rect-preserved
loop-rect-preserved c =
    cuts_more c.args.boxes.now (c.args.by ∷ []) c.loop-rect.rect-index c.rect-item.result c.args.out.now c.loop-rect.out c.add_cut.new.out c.loop-rect-test.true c.rect-item.is c.loop-rect.invariant c.in_ok-add_cut.ensures
