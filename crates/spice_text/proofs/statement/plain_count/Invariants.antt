use Rattle.std.proofs.Common.{◌≡◌, ◌++◌, take, drop}
use Rattle.spice_text.specs.Words.{before_assignment}
use Rattle.spice_text.proofs.statement.plain_count.Given as goal

abbrev pub invariant-loop-place : goal.invariant-loop-place
invariant-loop-place l = take l.place l.words ++ before_assignment (drop l.place l.words) ≡ before_assignment l.words
