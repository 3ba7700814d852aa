-- Lines of a TOML text, as they are written.
use Rattle.std.specs.Prelude.{ℕ, List, [], ◌∷◌, ◌++◌, codes, map}
use Rattle.std.specs.Fmt.{decimal}

-- a text in double quotes
abbrev pub quoted : List ℕ → List ℕ
quoted text = 34 ∷ (text ++ 34 ∷ [])

-- the items, each after a comma and a space
abbrev pub more_items : List (List ℕ) → List ℕ
more_items [] = []
more_items (item ∷ items) = 44 ∷ 32 ∷ (item ++ more_items items)

-- the items with a comma and a space between them
abbrev pub separated : List (List ℕ) → List ℕ
separated [] = []
separated (item ∷ items) = item ++ more_items items

-- items between `[` and `]`
abbrev pub bracketed : List (List ℕ) → List ℕ
bracketed items = 91 ∷ (separated items ++ 93 ∷ [])

-- the line `key = value`
abbrev pub key_line : List ℕ → List ℕ → List ℕ
key_line key value = key ++ (codes " = " ++ (value ++ 10 ∷ []))

unfoldable pub text_line : List ℕ → List ℕ → List ℕ
text_line key text = key_line key (quoted text)

unfoldable pub number_line : List ℕ → ℕ → List ℕ
number_line key number = key_line key (decimal number)

unfoldable pub texts_line : List ℕ → List (List ℕ) → List ℕ
texts_line key texts = key_line key (bracketed (map quoted texts))

-- an empty line and the heading of a block
unfoldable pub heading : List ℕ → List ℕ
heading title = 10 ∷ (title ++ 10 ∷ [])
