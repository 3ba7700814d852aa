use Rattle.or_geom.proofs.ListLaws.{contained_at}
use Rattle.shape_bins.proofs.CoverLaws.{on_rects}
use Rattle.tile_checker.proofs.PlaceLaws.{reachable_in}
use Rattle.tile_checker.proofs.FirstLaws.{none_alone, one_alone}
use Rattle.tile_checker.proofs.width.add_widths.Goals as goal

pub returns-then-first-rule-clause-adds : goal.returns-then-first-rule-clause-adds
returns-then-first-rule-clause-adds c = none_alone _ _ _ c.args.first _ (λ a b none. none) (λ b. c.if-first-rule.true b.on)

pub has_width-requires-clause-reach : goal.has_width-requires-clause-reach
has_width-requires-clause-reach c = reachable_in c.args.bins.now c.args.first.shape c.requires.reach (contained_at c.args.bins.now c.args.first.place c.args.first.shape c.requires.at)

pub has_width-requires-clause-own : goal.has_width-requires-clause-own
has_width-requires-clause-own c = on_rects c.args.rule.layer c.args.bins.now c.args.first.shape (contained_at c.args.bins.now c.args.first.place c.args.first.shape c.requires.at) c.if-first-rule.false

pub returns-then-branch-clause-adds : goal.returns-then-branch-clause-adds
returns-then-branch-clause-adds c = none_alone _ _ _ c.args.first _ (λ a b none. none) (λ b. b.narrow (c.in_ok-has_width.ensures.width.0 c.if-branch.true))

pub returns-clause-adds : goal.returns-clause-adds
returns-clause-adds c =
    one_alone _ _ _ c.args.first _ _ (λ a b none. none) c.requires.at
    (record {
      on = c.if-first-rule.false;
      narrow = λ h. let yes = c.in_ok-has_width.ensures.width.1 h in let not_so = c.if-branch.false in absurd cc;
    })
    c.in_ok-push.ensures.items
