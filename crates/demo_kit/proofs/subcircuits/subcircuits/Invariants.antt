use Rattle.std.proofs.Common.{◌≡◌, ◌++◌, drop, map}
use Rattle.demo_kit.specs.Subcircuits.{cell_subckt}
use Rattle.demo_kit.proofs.subcircuits.subcircuits.Given as goal

abbrev pub invariant-loop-role : goal.invariant-loop-role
invariant-loop-role l = l.subckts.items ++ map cell_subckt (drop l.role-index l.roles) ≡ map cell_subckt l.roles
