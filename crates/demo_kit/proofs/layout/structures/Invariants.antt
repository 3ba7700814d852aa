use Rattle.std.proofs.Common.{◌≡◌, ◌++◌, drop, map}
use Rattle.demo_kit.specs.Layout as spec
use Rattle.demo_kit.proofs.layout.structures.Given as goal

abbrev pub invariant-loop-role : goal.invariant-loop-role
invariant-loop-role l =
    l.structs.items ++ map (spec.cell_structure l.scale) (drop l.role-index l.roles)
    ≡ map (spec.cell_structure l.scale) l.roles
