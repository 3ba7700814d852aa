-- Lists of names.
use Rattle.std.specs.Prelude.{ℕ, ◌&&◌, not, Bool, true, List, [], ◌∷◌}
use Rattle.std.specs.List.{list_any}
use Rattle.std.specs.Str.{bytes_eq}

-- the name is one of these
abbrev pub holds : List ℕ → List (List ℕ) → Bool
holds name names = list_any (λ other. bytes_eq other name) names

-- no two of the names are the same
abbrev pub are_different : List (List ℕ) → Bool
are_different [] = true
are_different (name ∷ names) = not (holds name names) && are_different names

-- one of the names is one of the others
abbrev pub share_a_name : List (List ℕ) → List (List ℕ) → Bool
share_a_name names others = list_any (λ name. holds name others) names
