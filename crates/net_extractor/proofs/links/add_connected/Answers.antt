use Rattle.std.proofs.Common.{ℕ, List, ◌++◌, ap, ◌∙◌}
use Rattle.or_geom.proofs.AddsLaws.{adds_none}
use Rattle.tech_rules.specs.Touch.{Joins}
use Rattle.net_extractor.proofs.links.add_connected.Goals as goal

pub returns-then-connect-layer : goal.returns-then-connect-layer
returns-then-connect-layer c = adds_none _ (λ (other : ℕ). Joins c.args.layer other c.args.connect.now) (λ x j. c.if-connect-layer.true j.by)

pub returns : goal.returns
returns c = record {
  added = c.args.connect.now.to;
  is = c.in_ok-extend_from_slice.ensures.items ∙ ap (λ (l : List ℕ). c.args.out.now.items ++ l) c.as_slice.ensures;
  only = λ x h. record { by = c.if-connect-layer.false; to = h };
  each = λ x j. j.to;
}
