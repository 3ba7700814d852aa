-- A gate more, and then all.
use Rattle.std.proofs.Common.{◌∙◌}
use Rattle.std.proofs.lemmas.Iterator.Adapters.{YieldsList-from_vec}
use Rattle.std.proofs.lemmas.Iterator.Consumers.{YieldsList-end}
use Rattle.row_decoder.specs.declared.gate.LogicGate.{LogicGate}
use Rattle.control_logic.proofs.LogicLaws.{mapped_more, mapped_all}
use Rattle.control_logic.proofs.row.row_of.Goals as goal

pub loop-gate-preserved : goal.loop-gate-preserved
loop-gate-preserved c = record {
  gates = mapped_more (λ (g : LogicGate). g.instance) _ _ _ c.in-Some.gate c.loop-gate.invariant.gates c.in_ok-push-2.ensures.items;
  roles = mapped_more (λ (g : LogicGate). g.role) _ _ _ c.in-Some.gate c.loop-gate.invariant.roles c.in_ok-push.ensures.items;
}

pub returns-clause-gates : goal.returns-clause-gates
returns-clause-gates c =
    let all = YieldsList-end (YieldsList-from_vec {s = c.into_iter-gate-iterator.result} c.args.list.items c.into_iter-gate-iterator.ensures.into_iter_gives.0 (c.into_iter-gate-iterator.ensures.into_iter_gives.1 ∙ c.args.list.ok.0)) c.loop-gate.yielded c.loop-gate.gate-iterator c.loop-gate.yielded_by c.next.result c.next.new.self c.in-None.is c.next.ensures.steps in
    mapped_all (λ (g : LogicGate). g.instance) _ _ _ c.loop-gate.invariant.gates all.0

pub returns-clause-roles : goal.returns-clause-roles
returns-clause-roles c =
    let all = YieldsList-end (YieldsList-from_vec {s = c.into_iter-gate-iterator.result} c.args.list.items c.into_iter-gate-iterator.ensures.into_iter_gives.0 (c.into_iter-gate-iterator.ensures.into_iter_gives.1 ∙ c.args.list.ok.0)) c.loop-gate.yielded c.loop-gate.gate-iterator c.loop-gate.yielded_by c.next.result c.next.new.self c.in-None.is c.next.ensures.steps in
    mapped_all (λ (g : LogicGate). g.role) _ _ _ c.loop-gate.invariant.roles all.0
