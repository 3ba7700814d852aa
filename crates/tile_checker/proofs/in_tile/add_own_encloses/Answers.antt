use Rattle.std.proofs.Common.{refl}
use Rattle.std.proofs.lemmas.Result.{on_ok_weaker}
use Rattle.tech_rules.specs.declared.tech.Rule.TheVariants.{Enclose}
use Rattle.tile_checker.proofs.OwnerLaws.{all_owned, none_owned, enclose_alone}
use Rattle.tile_checker.proofs.in_tile.add_own_encloses.Goals as goal

pub returns-then-not-has_corner : goal.returns-then-not-has_corner
returns-then-not-has_corner c =
    let rule = Enclose c.args.rule.now.layer c.args.rule.now.by.now c.args.rule.now.min.value in
    none_owned c.args.rule.now.number rule c.args.bins.now c.args.tile c.args.first _ (enclose_alone rule c.args.rule.now.layer c.args.rule.now.by.now c.args.rule.now.min.value c.args.bins.now refl) (λ h. let yes = c.if-not-has_corner.ensures.1 h in absurd cc)

pub returns : goal.returns
returns c =
    let rule = Enclose c.args.rule.now.layer c.args.rule.now.by.now c.args.rule.now.min.value in
    on_ok_weaker _
    (λ a. all_owned c.args.rule.now.number rule c.args.bins.now c.args.tile c.args.first _ _ (enclose_alone rule c.args.rule.now.layer c.args.rule.now.by.now c.args.rule.now.min.value c.args.bins.now refl) (c.if-not-has_corner.ensures.0 refl) a)
    c.add_encloses.ensures
