use Rattle.std.proofs.Common.{◌≡◌, length, sym, ◌∙◌, ap, arith}
use Rattle.std.proofs.lemmas.Bool.{eqb-true}
use Rattle.std.proofs.lemmas.List.{nil_from_length}
use Rattle.gds_records.proofs.PointLists.{one_more, goes_on, ends_well, ends_badly}
use Rattle.gds_records.proofs.points.points_in.Goals as goal

pub loop-point-smaller : goal.loop-point-smaller
loop-point-smaller c = omega (
  arith,
  (one_more c.loop-point.rest.now c.in-Some.after.now c.in-Some.point (sym c.in-Some.ensures.value)).1,
)

pub loop-point-preserved : goal.loop-point-preserved
loop-point-preserved c =
    rw c.in_ok-push.ensures.items (goes_on c.loop-point.points.items c.loop-point.rest.now c.in-Some.after.now
    c.args.content.now c.in-Some.point (sym c.in-Some.ensures.value) c.loop-point.invariant)

pub returns-then-is_empty : goal.returns-then-is_empty
returns-then-is_empty c =
    let empty : length c.loop-point.rest.now ≡ 0 = eqb-true _ _ (sym c.is_empty.ensures ∙ c.if-is_empty.true) in
    ends_well c.loop-point.points.items c.args.content.now c.loop-point.rest.now (nil_from_length _ empty)
    c.loop-point.invariant

pub returns-else-is_empty : goal.returns-else-is_empty
returns-else-is_empty c =
    ends_badly c.loop-point.points.items c.args.content.now c.loop-point.rest.now (sym c.in_default.ensures.value)
    (λ e. let zero : length c.loop-point.rest.now ≡ 0 = ap length e in let f = c.is_empty.ensures in let g = c.if-is_empty.false in absurd (grind arith)) c.loop-point.invariant
