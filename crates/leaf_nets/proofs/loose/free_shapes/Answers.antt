use Rattle.std.proofs.Common.{refl}
use Rattle.leaf_nets.proofs.FreeLaws.{free_adds, free_skips, free_ends}
use Rattle.leaf_nets.proofs.loose.free_shapes.Goals as goal
use Rattle.leaf_nets.proofs.loose.free_shapes.Goals.{then-is_free+in_ok-push, else-is_free}

pub loop-index-preserved : goal.loop-index-preserved
loop-index-preserved c =
    let i = c.loop-index.index in
    let shape = c.shape_at-shape.result in
    let here = c.shape_at-shape.ensures in
    let number = c.number_at.result in
    elim c.if-is_free.branch [
      | then-is_free+in_ok-push w ↦
          let free = w.if-is_free.ensures.0 refl in
          rw w.free-is (rw w.in_ok-push.ensures.ok (free_adds c.args.connects.now c.args.shapes.now c.args.nets.now c.args.numbers.now i number shape c.loop-index.free here c.number_at.ensures free.0 free.1 c.loop-index.invariant))
      | else-is_free w ↦
          rw w.free-is (free_skips c.args.connects.now c.args.shapes.now c.args.nets.now c.args.numbers.now i number shape c.loop-index.free here c.number_at.ensures (λ both. let t = w.if-is_free.ensures.1 both in absurd cc) c.loop-index.invariant)
    ]

pub returns : goal.returns
returns c = free_ends c.args.connects.now c.args.shapes.now c.args.nets.now c.args.numbers.now c.loop-index.index c.loop-index.free c.loop-index-test.false c.loop-index.invariant
