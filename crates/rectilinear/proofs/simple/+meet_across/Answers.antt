use Rattle.std.proofs.Common.{true}
use Rattle.std.proofs.lemmas.List.{nil_from_length}
use Rattle.rectilinear.proofs.HullLaws.{second_decides, first_decides, across_front_of, across_back_of, apart_lists, none_behind}
use Rattle.rectilinear.proofs.simple.+meet_across.Goals as goal

pub returns-in_default-split_first : goal.returns-in_default-split_first
returns-in_default-split_first t c = (λ yes. none_behind c.args.sides.now c.args.others.now (nil_from_length _ c.in_default-split_first.ensures.cases), λ meet. λ i. true)

pub returns-then-is_empty : goal.returns-then-is_empty
returns-then-is_empty t c = (
  λ yes. apart_lists c.args.sides.now _ c.args.others.now _ _ _ _ c.in-Some.ensures.cases.0 c.in-Some-split_first.ensures.cases.0 c.hull_of.ensures c.hull_of-2.ensures c.common.ensures (c.is_empty.ensures c.if-is_empty.true),
  λ meet. λ i. true,
)

pub returns-then-meet_across : goal.returns-then-meet_across
returns-then-meet_across t c =
    second_decides _ _ (across_back_of c.args.sides.now c.args.others.now c.split_at.result.0.now c.split_at.result.1.now c.split_at.ensures.by_index.0) c.meet_across.ensures c.meet_across-then-meet_across.ensures c.if-meet_across.true

pub returns-else-meet_across : goal.returns-else-meet_across
returns-else-meet_across t c =
    first_decides _ (across_back_of c.args.sides.now c.args.others.now c.split_at.result.0.now c.split_at.result.1.now c.split_at.ensures.by_index.0) c.meet_across.ensures c.if-meet_across.false

pub returns-then-meet_across-2 : goal.returns-then-meet_across-2
returns-then-meet_across-2 t c =
    second_decides _ _ (across_front_of c.args.sides.now c.split_at-2.result.0.now c.split_at-2.result.1.now c.args.others.now c.split_at-2.ensures.by_index.0) c.meet_across-2.ensures c.meet_across-then-meet_across-2.ensures c.if-meet_across-2.true

pub returns-else-meet_across-2 : goal.returns-else-meet_across-2
returns-else-meet_across-2 t c =
    first_decides _ (across_front_of c.args.sides.now c.split_at-2.result.0.now c.split_at-2.result.1.now c.args.others.now c.split_at-2.ensures.by_index.0) c.meet_across-2.ensures c.if-meet_across-2.false
