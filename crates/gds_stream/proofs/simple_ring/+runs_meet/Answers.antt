use Rattle.std.proofs.Common.{true}
use Rattle.rectilinear.proofs.HullLaws.{second_decides, first_decides, across_front_of, across_back_of, none_behind}
use Rattle.gds_stream.proofs.RunLaws.{apart_runs, no_segments}
use Rattle.gds_library.specs.Values.{segments}
use Rattle.gds_stream.proofs.simple_ring.+runs_meet.Goals as goal

pub returns-then-other-lt2 : goal.returns-then-other-lt2
returns-then-other-lt2 t c = (
  λ yes. none_behind (segments c.args.run.now) (segments c.args.other.now)
      (no_segments c.args.other.now c.if-other-lt2.true),
  λ meet. λ i. true,
)

pub returns-then-is_empty : goal.returns-then-is_empty
returns-then-is_empty t c = (
  λ yes. apart_runs c.args.run.now c.args.other.now _ _ _ c.bounds_of.ensures c.bounds_of-2.ensures c.common.ensures
      (c.is_empty.ensures c.if-is_empty.true),
  λ meet. λ i. true,
)

pub returns-then-runs_meet : goal.returns-then-runs_meet
returns-then-runs_meet t c =
    second_decides _ _ (across_back_of (segments c.args.run.now) (segments c.args.other.now) _ _ c.halves.ensures.parts)
    c.runs_meet.ensures c.runs_meet-then-runs_meet.ensures c.if-runs_meet.true

pub returns-else-runs_meet : goal.returns-else-runs_meet
returns-else-runs_meet t c =
    first_decides _ (across_back_of (segments c.args.run.now) (segments c.args.other.now) _ _ c.halves.ensures.parts)
    c.runs_meet.ensures c.if-runs_meet.false

pub returns-then-runs_meet-2 : goal.returns-then-runs_meet-2
returns-then-runs_meet-2 t c =
    second_decides _ _
    (across_front_of (segments c.args.run.now) _ _ (segments c.args.other.now) c.halves-2.ensures.parts)
    c.runs_meet-2.ensures c.runs_meet-then-runs_meet-2.ensures c.if-runs_meet-2.true

pub returns-else-runs_meet-2 : goal.returns-else-runs_meet-2
returns-else-runs_meet-2 t c =
    first_decides _ (across_front_of (segments c.args.run.now) _ _ (segments c.args.other.now) c.halves-2.ensures.parts)
    c.runs_meet-2.ensures c.if-runs_meet-2.false
