use Rattle.std.proofs.Common.{[], Bool, sym, subst}
use Rattle.std.specs.Prelude.{MatchBool}
use Rattle.tile_checker.specs.RuleReport.{IsReport}
use Rattle.kit_check.specs.Judged.{HasViolations}
use Rattle.kit_check.proofs.JudgeLaws.{has_violations}
use Rattle.kit_check.proofs.judge.breaks_rule.Goals as goal

pub returns : goal.returns
returns g c =
    let rules = c.args.kit.now.tech.rules in
    let shapes = c.args.flat.now.shapes.now in
    subst (λ (b : Bool). MatchBool b (HasViolations rules shapes) (IsReport rules shapes [])) (sym c.is_some.ensures) (has_violations rules shapes c.in_ok-first.first c.in_ok-first.ensures)
