use Rattle.std.proofs.Common.{refl}
use Rattle.std.proofs.lemmas.Result.{on_ok_weaker}
use Rattle.tech_rules.specs.declared.tech.Rule.TheVariants.{Width}
use Rattle.tile_checker.proofs.OwnerLaws.{all_owned, none_owned, width_alone}
use Rattle.tile_checker.proofs.in_tile.add_own_widths.Goals as goal

pub returns-then-not-has_corner-clause-adds : goal.returns-then-not-has_corner-clause-adds
returns-then-not-has_corner-clause-adds c =
    let min = c.args.rule.min.value in
    none_owned c.args.rule.number (Width c.args.rule.layer min) c.args.bins.now c.args.tile c.args.first _ (width_alone (Width c.args.rule.layer min) c.args.rule.layer min c.args.bins.now refl) (λ h. let yes = c.if-not-has_corner.ensures.1 h in absurd cc)

pub returns-clause-adds : goal.returns-clause-adds
returns-clause-adds c =
    let min = c.args.rule.min.value in
    on_ok_weaker _
    (λ a. all_owned c.args.rule.number (Width c.args.rule.layer min) c.args.bins.now c.args.tile c.args.first _ _ (width_alone (Width c.args.rule.layer min) c.args.rule.layer min c.args.bins.now refl) (c.if-not-has_corner.ensures.0 refl) a)
    c.add_widths.ensures.adds
