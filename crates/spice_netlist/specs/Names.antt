-- Names and where they stand in lists.
use Rattle.std.specs.Prelude.{ℕ, Bool, nat_eq, List, Option}
use Rattle.std.specs.List.{position_from}
use Rattle.std.specs.Cmp.Lexicographic.{pointwise}

-- they are of the same bytes
abbrev pub same_name : List ℕ → List ℕ → Bool
same_name name other = pointwise nat_eq name other

-- the index of the first of the names that is this one
abbrev pub index_of : List (List ℕ) → List ℕ → Option ℕ
index_of names name = position_from (same_name name) 0 names
