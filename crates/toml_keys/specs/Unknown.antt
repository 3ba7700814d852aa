-- The keys of a table that a reader doesn't know.
use Rattle.std.specs.Prelude.{ℕ, Bool, not, List, [], ◌∷◌, filter, Option, Some, None, option_map, unwrap_or, if◌then◌else◌}
use Rattle.std.specs.List.{list_any}
use Rattle.std.specs.Ordering.{is_lt}
use Rattle.std.specs.Str.{bytes_eq}
use Rattle.or_geom.specs.Least.{name_order}
use Rattle.toml.specs.Data.{Members, no_members, member, as_table}
use Rattle.toml_keys.specs.Keys.{Section}

-- the keys of some members
abbrev pub member_keys : Members → List (List ℕ)
member_keys no_members = []
member_keys (member key d ms) = key ∷ member_keys ms

-- the keys of a table
abbrev pub keys_in : {F : Type 0} → Section F → List (List ℕ)
keys_in s = unwrap_or (option_map member_keys (as_table s.table)) []

-- the lesser of two names by their bytes
abbrev pub lesser : List ℕ → List ℕ → List ℕ
lesser a b = if is_lt (name_order b a) then b else a

-- the least of some names by their bytes
abbrev pub least_of : List (List ℕ) → Option (List ℕ)
least_of [] = None
least_of (name ∷ names) = Some (unwrap_or (option_map (lesser name) (least_of names)) name)

-- the key is none of those that are known
abbrev pub is_unknown : List (List ℕ) → List ℕ → Bool
is_unknown known key = not (list_any (λ k. bytes_eq k key) known)

-- the least key of a table that isn't known
abbrev pub unknown_key : {F : Type 0} → List (List ℕ) → Section F → Option (List ℕ)
unknown_key known s = least_of (filter (is_unknown known) (keys_in s))
