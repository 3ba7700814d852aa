-- The words of a line.
use Rattle.std.specs.Prelude.{ℕ, List, [], ◌∷◌, ◌++◌, Bool, true, false, ◌==◌, if◌then◌else◌, filter, map}
use Rattle.std.specs.Char.{to_ascii_lowercase}
use Rattle.std.specs.List.{list_any}
use Rattle.std.specs.Str.{bytes_eq}
use Rattle.spice_text.specs.Lines.{pieces}
use Rattle.spice_text.specs.LogicalLines.{is_blank}

abbrev pub is_nonempty : List ℕ → Bool
is_nonempty [] = false
is_nonempty (b ∷ bytes) = true

-- what stands between spaces and tabs
abbrev pub words_of : List ℕ → List (List ℕ)
words_of text = filter is_nonempty (pieces is_blank text)

-- with the letters in lower case
abbrev pub lower : List ℕ → List ℕ
lower text = map to_ascii_lowercase text

abbrev pub is_assignment : List ℕ → Bool
is_assignment word = list_any (λ b. b == 61) word

-- the words before the first that holds `=`
abbrev pub before_assignment : List (List ℕ) → List (List ℕ)
before_assignment [] = []
before_assignment (word ∷ words) = if is_assignment word then [] else word ∷ before_assignment words

-- the words but the last, and the last of a word and others
abbrev pub but_last : List (List ℕ) → List (List ℕ)
but_last [] = []
but_last (word ∷ []) = []
but_last (word ∷ next ∷ words) = word ∷ but_last (next ∷ words)

abbrev pub last_word : List ℕ → List (List ℕ) → List ℕ
last_word word [] = word
last_word word (next ∷ words) = last_word next words

-- whether a name is one of these
abbrev pub is_among : List ℕ → List (List ℕ) → Bool
is_among name names = list_any (bytes_eq name) names

-- names with one more, unless it is among them
abbrev pub with_name : List (List ℕ) → List ℕ → List (List ℕ)
with_name names name = if is_among name names then names else names ++ name ∷ []
