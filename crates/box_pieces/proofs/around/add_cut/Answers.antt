use Rattle.std.proofs.Common.{refl}
use Rattle.std.proofs.lemmas.Result.{on_ok_weaker}
use Rattle.box_pieces.proofs.SplitLaws.{box_outside, box_cut}
use Rattle.box_pieces.proofs.around.add_cut.Goals as goal

pub returns-in_default : goal.returns-in_default
returns-in_default c = box_outside c.args.rect c.args.by _ _ c.in_default.ensures refl c.in_ok-push.ensures.items

pub returns : goal.returns
returns c = on_ok_weaker c.add_around.result (λ around. box_cut c.args.rect c.args.by c.in-Some.part _ _ c.in-Some.ensures c.in_ok-push-2.ensures.items around) c.add_around.ensures
