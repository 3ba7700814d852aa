use Rattle.std.proofs.Common.{true, ◌↔◌, IsTrue}
use Rattle.rectilinear.specs.Simple.{PairsMeet}
use Rattle.rectilinear.proofs.HullLaws.{second_decides, first_decides, pairs_of, same_facts}
use Rattle.gds_library.specs.Values.{segments}
use Rattle.gds_stream.proofs.RunLaws.{few_segments}
use Rattle.gds_stream.proofs.simple_ring.+run_meets.Goals as goal
use Rattle.gds_stream.proofs.simple_ring.+run_meets.Goals.{then-run_meets, else-run_meets}

pub returns-then-run-lt3 : goal.returns-then-run-lt3
returns-then-run-lt3 t c = (λ yes. few_segments c.args.run.now c.if-run-lt3.true, λ meet. λ i. true)

pub returns-then-run_meets-2 : goal.returns-then-run_meets-2
returns-then-run_meets-2 t c =
    let halves : IsTrue c.if-run_meets.value
    ↔ (PairsMeet (segments c.halves.result.0.now) × PairsMeet (segments c.halves.result.1.now)) =
    elim c.if-run_meets.branch [
      | then-run_meets w ↦ rw w.value-is
          (second_decides _ _ same_facts c.run_meets.ensures w.run_meets-then-run_meets.ensures w.if-run_meets.true)
      | else-run_meets w ↦ rw w.value-is (first_decides _ same_facts c.run_meets.ensures w.if-run_meets.false)
    ] in
    second_decides _ _
    (pairs_of (segments c.args.run.now) _ _ c.halves.ensures.parts) halves c.runs_meet.ensures c.if-run_meets-2.true

pub returns-else-run_meets-2 : goal.returns-else-run_meets-2
returns-else-run_meets-2 t c =
    let halves : IsTrue c.if-run_meets.value
    ↔ (PairsMeet (segments c.halves.result.0.now) × PairsMeet (segments c.halves.result.1.now)) =
    elim c.if-run_meets.branch [
      | then-run_meets w ↦ rw w.value-is
          (second_decides _ _ same_facts c.run_meets.ensures w.run_meets-then-run_meets.ensures w.if-run_meets.true)
      | else-run_meets w ↦ rw w.value-is (first_decides _ same_facts c.run_meets.ensures w.if-run_meets.false)
    ] in
    first_decides _ (pairs_of (segments c.args.run.now) _ _ c.halves.ensures.parts) halves c.if-run_meets-2.false
