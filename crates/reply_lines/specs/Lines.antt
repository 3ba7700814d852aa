-- Printed lines.
use Rattle.std.specs.Prelude.{ℕ, List, [], ◌∷◌, ◌++◌}

-- the words, each after a space
abbrev pub spaced : List (List ℕ) → List ℕ
spaced [] = []
spaced (word ∷ words) = 32 ∷ (word ++ spaced words)

-- the words with single spaces between them
abbrev pub sentence : List (List ℕ) → List ℕ
sentence [] = []
sentence (word ∷ words) = word ++ spaced words

-- and the line's end
abbrev pub reply_line : List (List ℕ) → List ℕ
reply_line words = sentence words ++ 10 ∷ []

-- lines one after another
abbrev pub lines_text : List (List ℕ) → List ℕ
lines_text [] = []
lines_text (line ∷ lines) = line ++ lines_text lines
