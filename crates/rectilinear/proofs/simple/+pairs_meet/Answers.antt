use Rattle.std.proofs.Common.{true, ◌↔◌, IsTrue}
use Rattle.rectilinear.specs.Simple.{PairsMeet}
use Rattle.rectilinear.proofs.HullLaws.{second_decides, first_decides, pairs_of, few_pairs, same_facts}
use Rattle.rectilinear.proofs.simple.+pairs_meet.Goals as goal
use Rattle.rectilinear.proofs.simple.+pairs_meet.Goals.{then-pairs_meet, else-pairs_meet}

pub returns-then-sides-lt2 : goal.returns-then-sides-lt2
returns-then-sides-lt2 t c = (λ yes. few_pairs c.args.sides.now c.if-sides-lt2.true, λ meet. λ i. true)

pub returns-then-pairs_meet-2 : goal.returns-then-pairs_meet-2
returns-then-pairs_meet-2 t c =
    let halves : IsTrue c.if-pairs_meet.value ↔ (PairsMeet c.split_at.result.0.now × PairsMeet c.split_at.result.1.now) = elim c.if-pairs_meet.branch [
      | then-pairs_meet w ↦ rw w.value-is (second_decides _ _ same_facts c.pairs_meet.ensures w.pairs_meet-then-pairs_meet.ensures w.if-pairs_meet.true)
      | else-pairs_meet w ↦ rw w.value-is (first_decides _ same_facts c.pairs_meet.ensures w.if-pairs_meet.false)
    ] in
    second_decides _ _ (pairs_of c.args.sides.now c.split_at.result.0.now c.split_at.result.1.now c.split_at.ensures.by_index.0) halves c.meet_across.ensures c.if-pairs_meet-2.true

pub returns-else-pairs_meet-2 : goal.returns-else-pairs_meet-2
returns-else-pairs_meet-2 t c =
    let halves : IsTrue c.if-pairs_meet.value ↔ (PairsMeet c.split_at.result.0.now × PairsMeet c.split_at.result.1.now) = elim c.if-pairs_meet.branch [
      | then-pairs_meet w ↦ rw w.value-is (second_decides _ _ same_facts c.pairs_meet.ensures w.pairs_meet-then-pairs_meet.ensures w.if-pairs_meet.true)
      | else-pairs_meet w ↦ rw w.value-is (first_decides _ same_facts c.pairs_meet.ensures w.if-pairs_meet.false)
    ] in
    first_decides _ (pairs_of c.args.sides.now c.split_at.result.0.now c.split_at.result.1.now c.split_at.ensures.by_index.0) halves c.if-pairs_meet-2.false
