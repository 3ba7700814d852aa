use Rattle.std.proofs.Common.{◌≡◌, ◌++◌, List, ℕ, drop}
use Rattle.spice_text.specs.Views.{ending}
use Rattle.spice_text.proofs.write.write_words.Given as goal

abbrev pub invariant-loop-word : goal.invariant-loop-word
invariant-loop-word l = (rest : List (List ℕ)) → ending l.writer (drop l.word-index l.words ++ rest) ≡ ending l.initial.writer (l.words ++ rest)
