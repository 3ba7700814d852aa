use Rattle.std.proofs.Common.{List, subst}
use Rattle.std.proofs.lemmas.List.{nil_from_length}
use Rattle.rectilinear.specs.declared.ends.End.{End}
use Rattle.rectilinear.proofs.LoopLaws.{ArePairsBut, pairs_all, pairs_more}
use Rattle.rectilinear.proofs.cutting.add_pairs.Goals as goal

pub loop-first-preserved : goal.loop-first-preserved
loop-first-preserved c =
    pairs_more c.args.ends.now c.loop-first.rest.now c.in-Some.others.now _ _ _ c.args.band.low c.args.band.high c.args.out.now.items c.loop-first.out.items _ _
    c.in-Some.ensures.cases.0 c.in-Some-split_first.ensures.cases.0 c.box_of.ensures c.in_ok-push.ensures.items c.loop-first.invariant

pub returns : goal.returns
returns c =
    pairs_all c.args.ends.now c.args.band.low c.args.band.high c.args.out.now.items _
    (subst (λ (es : List End). ArePairsBut c.args.ends.now es c.args.band.low c.args.band.high c.args.out.now.items c.loop-first.out.items) (nil_from_length _ c.in_default.ensures.cases) c.loop-first.invariant)
