use Rattle.std.proofs.Common.{◌≡◌, ◌++◌, drop}
use Rattle.std.specs.Prelude.{flat_map}
use Rattle.demo_kit.specs.Technology as spec
use Rattle.demo_kit.proofs.technology.write_widths.Given as goal

abbrev pub invariant-loop-layer : goal.invariant-loop-layer
invariant-loop-layer l =
    l.out.items ++ flat_map (spec.width_block l.min) (drop l.layer-index l.layers)
    ≡ l.initial.out.items ++ flat_map (spec.width_block l.min) l.layers
