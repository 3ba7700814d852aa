use Rattle.std.proofs.Common.{List, All, length, sym, ap, ◌∙◌, subst, arith}
use Rattle.std.specs.Prelude.{Bool}
use Rattle.std.proofs.lemmas.Bool.{true≢false}
use Rattle.std.proofs.lemmas.List.{take_all}
use Rattle.std.proofs.lemmas.List.Elements.{All-more}
use Rattle.cell_roles.specs.Tables.{TableRow}
use Rattle.role_tables.specs.Point.{SaysAct, point_text}
use Rattle.role_tables.specs.Table.{HasWidths}
use Rattle.role_tables.proofs.CutLaws.{counted}
use Rattle.role_tables.proofs.PointLaws.{cut_point, inputs_of, own_widths, own_at, long_at, split_point, decided, first_point, all_points}
use Rattle.role_tables.proofs.compare.first_differing.Goals as goal

pub agree-requires-clause-others : goal.agree-requires-clause-others
agree-requires-clause-others c =
    subst (λ (l : List TableRow). All (HasWidths c.args.role) l) (sym (c.deref-in-loop-point.ensures.value ∙ c.in_ok-own.ensures)) (own_widths c.args.role)

pub agree-requires-clause-bits : goal.agree-requires-clause-bits
agree-requires-clause-bits c =
    let many = counted _ _ _ c.inputs-inputs.ensures in
    let long = long_at c.args.role c.deref-point-items.result.now c.loop-point.point-index c.point-item.result c.loop-point.invariant.0 c.loop-point-test.true c.point-item.is in
    let list = ap length c.deref.ensures in
    let back = c.split_at.ensures.back_len in
    omega arith

pub returns-then-not-agree : goal.returns-then-not-agree
returns-then-not-agree c =
    let role = c.args.role in
    let bits = c.point-item.result in
    let point = split_point _ (inputs_of role) c.deref.result.now bits _ _ (counted _ _ _ c.inputs-inputs.ensures) c.deref.ensures c.split_at.ensures.front c.split_at.ensures.back in
    let says = own_at role c.deref-point-items.result.now c.loop-point.point-index bits c.loop-point.invariant.0 c.loop-point-test.true c.point-item.is in
    let answer = decided role c.args.rows.now c.deref-in-loop-point.result.now c.agree.result _ _ (c.deref-in-loop-point.ensures.value ∙ c.in_ok-own.ensures) says point c.agree.ensures in
    first_point role c.args.rows.now c.deref-point-items.result.now c.loop-point.point-index bits _ c.loop-point.invariant.0 c.loop-point-test.true c.point-item.is c.loop-point.invariant.1
    (λ right. true≢false (sym (answer.1 right) ∙ c.if-not-agree.true)) (c.in_ok-point_text.ensures ∙ ap point_text point)

pub loop-point-preserved : goal.loop-point-preserved
loop-point-preserved c =
    let role = c.args.role in
    let bits = c.point-item.result in
    let values = c.deref-point-items.result.now in
    let point = split_point _ (inputs_of role) c.deref.result.now bits _ _ (counted _ _ _ c.inputs-inputs.ensures) c.deref.ensures c.split_at.ensures.front c.split_at.ensures.back in
    let says = own_at role values c.loop-point.point-index bits c.loop-point.invariant.0 c.loop-point-test.true c.point-item.is in
    let answer = decided role c.args.rows.now c.deref-in-loop-point.result.now c.agree.result _ _ (c.deref-in-loop-point.ensures.value ∙ c.in_ok-own.ensures) says point c.agree.ensures in
    let P : List Bool → Type 0 = λ b. SaysAct role c.args.rows.now (cut_point (inputs_of role) b) in
    (c.loop-point.invariant.0, All-more P values c.loop-point.point-index bits c.loop-point-test.true c.loop-point.invariant.1 (subst P c.point-item.is (answer.0 c.if-not-agree.false)))

pub returns : goal.returns
returns c =
    let role = c.args.role in
    let values = c.deref-point-items.result.now in
    let P : List Bool → Type 0 = λ b. SaysAct role c.args.rows.now (cut_point (inputs_of role) b) in
    let all = subst (λ (l : List (List Bool)). All P l) (take_all c.loop-point.point-index values c.loop-point-test.false ∙ c.loop-point.invariant.0) c.loop-point.invariant.1 in
    all_points role c.args.rows.now all
