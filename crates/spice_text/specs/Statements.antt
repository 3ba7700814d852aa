-- What a logical line says.
use Rattle.std.specs.Prelude.{ℕ, List, [], ◌∷◌, ◌||◌, if◌then◌else◌, codes}
use Rattle.std.specs.Str.{bytes_eq}
use Rattle.spice_text.specs.LogicalLines.{starts_with}
use Rattle.spice_text.specs.Words.{words_of, lower, before_assignment}

-- a command that isn't read; a subcircuit's begin, with its name and ports; its end, with what stands behind; the text's
-- end; another command; an instance, with its name, its nodes and the name of its subcircuit; a `+` line that continues
-- none; another line
pub data LineMeaning : Type 0 where
  Refused : LineMeaning
  Begin : List (List ℕ) → LineMeaning
  End : List (List ℕ) → LineMeaning
  Stop : LineMeaning
  Command : LineMeaning
  Instance : List (List ℕ) → LineMeaning
  Continuation : LineMeaning
  Other : LineMeaning

-- a line with this first word and the others
abbrev pub meaning_by : List ℕ → List (List ℕ) → LineMeaning
meaning_by first others =
    if bytes_eq first (codes ".global") || bytes_eq first (codes ".include") then Refused else (
    if bytes_eq first (codes ".subckt") then Begin (before_assignment others) else (
    if bytes_eq first (codes ".ends") then End others else (
    if bytes_eq first (codes ".end") then Stop else (
    if starts_with 46 first then Command else (
    if starts_with 120 first then Instance (before_assignment (first ∷ others)) else Other)))))

-- a line of these words
abbrev pub meaning_of : List (List ℕ) → LineMeaning
meaning_of [] = Other
meaning_of (first ∷ others) = meaning_by first others

-- a line with this text, read without regard to case
abbrev pub statement_of : List ℕ → LineMeaning
statement_of text = if starts_with 43 text then Continuation else meaning_of (words_of (lower text))
