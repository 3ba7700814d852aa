use Rattle.std.proofs.Common.{◌≡◌, length}
use Rattle.spice_text.specs.Lines.{lines_of}
use Rattle.spice_text.specs.LogicalLines.{join, logical_lines}
use Rattle.spice_text.specs.Deck.{deck_after}
use Rattle.spice_text.specs.Views.{lines_after}
use Rattle.spice_text.specs.ReaderViews.{so_far, HasNames}
use Rattle.spice_text.proofs.read.read_lines.Given as goal

abbrev pub invariant-lines : goal.invariant-lines
invariant-lines l = record {
  same : deck_after (length l.bytes) (so_far l.reading) (join (lines_after l.left)) ≡ deck_after (length l.bytes) (so_far l.initial.reading) (logical_lines (lines_of l.bytes));
  named : HasNames l.reading;
}

abbrev pub decreases-lines : goal.decreases-lines
decreases-lines l = length l.left.rest.now
