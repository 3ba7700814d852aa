use Rattle.std.proofs.Common.{◌≡◌, ◌++◌, length, map}
use Rattle.demo_kit.specs.Lines.{quoted, more_items}
use Rattle.demo_kit.proofs.lines.write_separated.Given as goal

abbrev pub decreases-loop-text : goal.decreases-loop-text
decreases-loop-text l = length l.rest

abbrev pub invariant-loop-text : goal.invariant-loop-text
invariant-loop-text l =
    l.out.items ++ more_items (map quoted (map (λ text. text.now) l.rest))
    ≡ l.initial.out.items ++ more_items (map quoted (map (λ text. text.now) l.initial.rest))
