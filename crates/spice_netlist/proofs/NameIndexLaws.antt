-- A table of indices, one name more.
use Rattle.std.proofs.Common.{◌≡◌, ℕ, ◌-◌, ◌<◌, ◌≤◌, List, [], length, get_or, drop, refl}
use Rattle.std.specs.Map.{lookup}
use Rattle.std.specs.List.{position_from}
use Rattle.indexmap.specs.IndexMap.{insert_entry}
use Rattle.or_geom.proofs.NamePlaceLaws as named
use Rattle.spice_netlist.specs.Names.{same_name}

-- one index less
pub finds_more : {K : Type 0} (text : K → List ℕ) (names : List (List ℕ)) (index : ℕ) (k : K) (es es' : List (K × ℕ)) → 0 < index → index ≤ length names → text k ≡ get_or names (index - 1) []
    → es' ≡ insert_entry (λ x y. same_name (text x) (text y)) es k (index - 1) → ((name : List ℕ) → lookup (λ key. same_name name (text key)) es ≡ position_from (same_name name) index (drop index names))
    → (name : List ℕ) → lookup (λ key. same_name name (text key)) es' ≡ position_from (same_name name) (index - 1) (drop (index - 1) names)
finds_more text names index k es es' some within is put old =
    named.finds_more text names index k es es' (λ entries. insert_entry (λ x y. same_name (text x) (text y)) entries k (index - 1)) (record { none = refl; more = λ e entries. refl }) some within is put old
