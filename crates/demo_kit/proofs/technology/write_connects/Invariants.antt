use Rattle.std.proofs.Common.{◌≡◌, ◌++◌, drop}
use Rattle.std.specs.Prelude.{flat_map}
use Rattle.demo_kit.specs.Technology as spec
use Rattle.demo_kit.proofs.technology.write_connects.Given as goal

abbrev pub invariant-loop-level : goal.invariant-loop-level
invariant-loop-level l =
    l.out.items ++ flat_map spec.connect_block (drop l.level-index l.levels)
    ≡ l.initial.out.items ++ flat_map spec.connect_block l.levels
