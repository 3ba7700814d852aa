use Rattle.std.proofs.Common.{arith}
use Rattle.gds_stream.proofs.RunLaws.{simple_ring}
use Rattle.gds_stream.proofs.simple_ring.is_simple_ring.Goals as goal

pub returns-then-not-are_straight : goal.returns-then-not-are_straight
returns-then-not-are_straight c = (
  λ no. absurd cc,
  λ h. let t = (simple_ring c.args.corners.now _ _ _ c.in-Some.ensures.cases.0 c.last_side-last.ensures).0 h in
      let yes = c.are_straight.ensures.1 t.straight in
      absurd cc,
)

pub returns-then-not-is_straight : goal.returns-then-not-is_straight
returns-then-not-is_straight c = (
  λ no. absurd cc,
  λ h. let t = (simple_ring c.args.corners.now _ _ _ c.in-Some.ensures.cases.0 c.last_side-last.ensures).0 h in
      let yes = c.is_straight.ensures.1 t.last_straight in
      absurd cc,
)

pub returns-then-not-turns_everywhere : goal.returns-then-not-turns_everywhere
returns-then-not-turns_everywhere c = (
  λ no. absurd cc,
  λ h. let t = (simple_ring c.args.corners.now _ _ _ c.in-Some.ensures.cases.0 c.last_side-last.ensures).0 h in
      let yes = c.turns_everywhere.ensures.1 t.turning in
      absurd cc,
)

pub returns-then-not-run_meets : goal.returns-then-not-run_meets
returns-then-not-run_meets c = (
  λ no. absurd cc,
  λ h. let t = (simple_ring c.args.corners.now _ _ _ c.in-Some.ensures.cases.0 c.last_side-last.ensures).0 h in
      let yes = c.run_meets.ensures.1 t.meet in
      absurd cc,
)

pub returns : goal.returns
returns c =
    let both = simple_ring c.args.corners.now _ _ _ c.in-Some.ensures.cases.0 c.last_side-last.ensures in (
      λ yes. both.1 (record {
        four = omega arith;
        straight = c.are_straight.ensures.0 c.if-not-are_straight.false;
        last_straight = c.is_straight.ensures.0 c.if-not-is_straight.false;
        turning = c.turns_everywhere.ensures.0 c.if-not-turns_everywhere.false;
        meet = c.run_meets.ensures.0 c.if-not-run_meets.false;
        last_meets = c.runs_meet.ensures.0 yes;
      }),
      λ h. c.runs_meet.ensures.1 (both.0 h).last_meets,
    )
