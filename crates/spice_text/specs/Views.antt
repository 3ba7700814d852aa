-- What the parts of the reader stand for.
use Rattle.std.specs.Prelude.{ℕ, ◌+◌, List, ◌∷◌, ◌++◌, if◌then◌else◌, filter}
use Rattle.spice_text.specs.declared.source.Source.{Source}
use Rattle.spice_text.specs.declared.line.SourceLine.{SourceLine}
use Rattle.spice_text.specs.declared.logical.LogicalLine.{LogicalLine}
use Rattle.spice_text.specs.declared.line_writer.LineWriter.{LineWriter}
use Rattle.spice_text.specs.WrittenText.{words_text}
use Rattle.spice_text.specs.Lines.{TextLine, is_lf, pieces, numbered_lines}
use Rattle.spice_text.specs.LogicalLines.{counts}

abbrev pub line_of : SourceLine → TextLine
line_of line = record { number = line.number; before = line.before; text = line.text.now }

abbrev pub logical_of : LogicalLine → TextLine
logical_of line = record { number = line.number; before = line.before; text = line.text.items }

-- a line before others, if it counts
abbrev pub kept_line : TextLine → List TextLine → List TextLine
kept_line line lines = if counts line then line ∷ lines else lines

-- the lines that are left and count
abbrev pub lines_after : Source → List TextLine
lines_after source = filter counts (numbered_lines (source.lines + 1) source.before (pieces is_lf source.rest.now))

-- the text when these words end its last line
abbrev pub ending : LineWriter → List (List ℕ) → List ℕ
ending writer words = writer.text.items ++ words_text writer.count words
