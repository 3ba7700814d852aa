-- The loop has come to the end of the list.
use Rattle.std.proofs.Common.{◌≡◌, ℕ, length, subst, arith}
use Rattle.reference_graph.specs.Waits.{AreSettled}
use Rattle.reference_graph.proofs.cycle.settle.Goals as goal

pub returns : goal.returns
returns c =
    let end : c.loop-at.at ≡ length c.args.waiting.now = omega arith in
    subst (λ (n : ℕ). AreSettled c.args.waiting.now c.args.place n c.args.standings.now c.loop-at.standings) end c.loop-at.invariant
