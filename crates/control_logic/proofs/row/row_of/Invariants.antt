use Rattle.std.proofs.Common.{◌≡◌, map}
use Rattle.row_decoder.specs.declared.gate.LogicGate.{LogicGate}
use Rattle.control_logic.proofs.row.row_of.Given as goal

abbrev pub invariant-loop-gate : goal.invariant-loop-gate
invariant-loop-gate l = record {
  gates : l.gates.items ≡ map (λ (g : LogicGate). g.instance) l.yielded;
  roles : l.roles.items ≡ map (λ (g : LogicGate). g.role) l.yielded;
}
