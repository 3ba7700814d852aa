-- The numbers of nets by their names.
use Rattle.std.specs.Prelude.{◌≡◌, ℕ, ◌<◌, nat_eq, List, Option, Some}
use Rattle.std.specs.Cmp.Lexicographic.{pointwise}
use Rattle.indexmap.specs.IndexMap.{get_by}
use Rattle.main_channel.specs.declared.names.NetNumbers.{NetNumbers}

-- the number that the net of this name has
abbrev pub found_number : NetNumbers → List ℕ → Option ℕ
found_number p name = get_by (λ key. pointwise nat_eq name key.now) p.numbers

-- all numbers that are found are of so many nets
abbrev pub IsNetNumbering : ℕ → (List ℕ → Option ℕ) → Type 0
IsNetNumbering nets look = (name : List ℕ) (net : ℕ) → look name ≡ Some net → net < nets
