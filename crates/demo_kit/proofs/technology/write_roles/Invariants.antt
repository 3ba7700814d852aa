use Rattle.std.proofs.Common.{◌≡◌, ◌++◌, drop}
use Rattle.std.specs.Prelude.{flat_map}
use Rattle.demo_kit.specs.Technology as spec
use Rattle.demo_kit.proofs.technology.write_roles.Given as goal

abbrev pub invariant-loop-role : goal.invariant-loop-role
invariant-loop-role l =
    l.out.items ++ flat_map spec.role_line (drop l.role-index l.roles)
    ≡ l.initial.out.items ++ flat_map spec.role_line l.roles
