use Rattle.std.proofs.Common.{◌≡◌, ◌<◌, ℕ}
use Rattle.std.specs.Prelude.{slice_get, Some}
use Rattle.net_extractor.specs.declared.run.RunShape.{RunShape}
use Rattle.net_extractor.specs.Sets.{AreSameSets, AreTogether}
use Rattle.net_extractor.proofs.marks.is_run_with.Given as goal

abbrev pub invariant-loop-own : goal.invariant-loop-own
invariant-loop-own l = record {
  alike : AreSameSets l.fn.above l.above;
  with_top : (k : ℕ) (own : RunShape) → k < l.own-index → slice_get l.run k ≡ Some own → AreTogether l.above own.place l.top;
}
