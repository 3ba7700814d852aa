use Rattle.std.proofs.Common.{◌≡◌, ◌++◌, drop, map}
use Rattle.demo_kit.proofs.subcircuits.names.Given as goal

abbrev pub invariant-loop-text : goal.invariant-loop-text
invariant-loop-text l = l.names ++ map (λ text. text.now) (drop l.text-index l.texts) ≡ map (λ text. text.now) l.texts
