-- Lines to logical lines.
use Rattle.std.specs.Prelude.{ℕ, List, [], ◌∷◌, ◌++◌, drop, Bool, false, ◌||◌, not, ◌==◌, if◌then◌else◌, filter}
use Rattle.std.specs.List.{list_all}
use Rattle.spice_text.specs.Lines.{TextLine}

abbrev pub is_blank : ℕ → Bool
is_blank b = (b == 32) || (b == 9)

abbrev pub starts_with : ℕ → List ℕ → Bool
starts_with c [] = false
starts_with c (b ∷ bytes) = b == c

-- neither a comment, which begins with `*`, nor blank
abbrev pub counts : TextLine → Bool
counts line = if starts_with 42 line.text then false else not (list_all is_blank line.text)

-- whether a line begins with `+`
abbrev pub continues : TextLine → Bool
continues line = starts_with 43 line.text

-- a line with the text of a `+` line: one space stands in place of the line's end and the `+`
abbrev pub joined : TextLine → TextLine → TextLine
joined line more = record { number = line.number; before = line.before; text = line.text ++ 32 ∷ drop 1 more.text }

-- a line before logical lines: it takes in the first where that begins with `+`
abbrev pub put_before : TextLine → List TextLine → List TextLine
put_before line [] = line ∷ []
put_before line (more ∷ lines) = if continues more then joined line more ∷ lines else line ∷ more ∷ lines

-- each line with the `+` lines that follow it; those that follow none make a line that begins with `+`
abbrev pub join : List TextLine → List TextLine
join [] = []
join (line ∷ lines) = put_before line (join lines)

-- blank lines and comments are dropped first
abbrev pub logical_lines : List TextLine → List TextLine
logical_lines lines = join (filter counts lines)
