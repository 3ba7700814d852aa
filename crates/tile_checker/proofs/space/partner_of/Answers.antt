use Rattle.std.proofs.Common.{sym, ◌∙◌}
use Rattle.tile_checker.proofs.LayerLaws.{has_partner, has_none}
use Rattle.tile_checker.proofs.space.partner_of.Goals as goal

pub returns-then-layer-min : goal.returns-then-layer-min
returns-then-layer-min c = has_partner c.args.rule c.args.layer c.max.result (c.if-layer-min.true ∙ c.min.ensures) c.max.ensures

pub returns : goal.returns
returns c = has_none c.args.rule c.args.layer (λ is. c.if-layer-min.false (is ∙ sym c.min.ensures))
