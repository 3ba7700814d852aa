use Rattle.std.proofs.Common.{[], Bool, subst}
use Rattle.std.specs.Prelude.{MatchBool}
use Rattle.cell_hierarchy.specs.Plain.{lists_of}
use Rattle.tile_checker.specs.RuleReport.{IsReport}
use Rattle.kit_check.specs.Judged.{DifferIn, HasViolations, MatchIn}
use Rattle.kit_check.proofs.JudgeLaws.{broken, differing, matching, touching, faultless}
use Rattle.kit_check.proofs.judge.flat_fault.Goals as goal

pub returns-then-branch : goal.returns-then-branch
returns-then-branch g c =
    let kit = c.args.trial.now.kit.now in
    let lists = lists_of c.args.flat.now in
    broken kit c.args.trial.now.name.now c.args.lib.now c.args.deck.now lists c.requires.flat
    (subst (λ (b : Bool). MatchBool b (HasViolations kit.tech.rules lists.shapes) (IsReport kit.tech.rules lists.shapes [])) c.if-branch.true c.in_ok-breaks_rule.ensures)

pub returns-then-branch-2 : goal.returns-then-branch-2
returns-then-branch-2 g c =
    let kit = c.args.trial.now.kit.now in
    let name = c.args.trial.now.name.now in
    let deck = c.args.deck.now in
    let lists = lists_of c.args.flat.now in
    let clean = subst (λ (b : Bool). MatchBool b (HasViolations kit.tech.rules lists.shapes) (IsReport kit.tech.rules lists.shapes [])) c.if-branch.false c.in_ok-breaks_rule.ensures in
    let differ = subst (λ (b : Bool). MatchBool b (DifferIn kit name deck lists) (MatchIn kit name deck lists)) c.if-branch-2.true c.in_ok-differs.ensures in
    differing kit name c.args.lib.now deck lists c.requires.flat clean differ

pub returns-then-branch-3 : goal.returns-then-branch-3
returns-then-branch-3 g c =
    let kit = c.args.trial.now.kit.now in
    let name = c.args.trial.now.name.now in
    let lib = c.args.lib.now in
    let deck = c.args.deck.now in
    let lists = lists_of c.args.flat.now in
    let clean = subst (λ (b : Bool). MatchBool b (HasViolations kit.tech.rules lists.shapes) (IsReport kit.tech.rules lists.shapes [])) c.if-branch.false c.in_ok-breaks_rule.ensures in
    let match = subst (λ (b : Bool). MatchBool b (DifferIn kit name deck lists) (MatchIn kit name deck lists)) c.if-branch-2.false c.in_ok-differs.ensures in
    touching kit name lib deck (matching kit name lib deck lists c.requires.flat clean match) (c.in_ok-touches_outside.ensures.0 c.if-branch-3.true)

pub returns : goal.returns
returns g c =
    let kit = c.args.trial.now.kit.now in
    let name = c.args.trial.now.name.now in
    let lib = c.args.lib.now in
    let deck = c.args.deck.now in
    let lists = lists_of c.args.flat.now in
    let clean = subst (λ (b : Bool). MatchBool b (HasViolations kit.tech.rules lists.shapes) (IsReport kit.tech.rules lists.shapes [])) c.if-branch.false c.in_ok-breaks_rule.ensures in
    let match = subst (λ (b : Bool). MatchBool b (DifferIn kit name deck lists) (MatchIn kit name deck lists)) c.if-branch-2.false c.in_ok-differs.ensures in
    faultless kit name lib deck (matching kit name lib deck lists c.requires.flat clean match) (λ t. let yes = c.in_ok-touches_outside.ensures.1 t in let no = c.if-branch-3.false in absurd cc)
