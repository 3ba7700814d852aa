-- A table of places, one name more.
use Rattle.std.proofs.Common.{◌≡◌, ℕ, ◌-◌, ◌<◌, ◌≤◌, List, [], length, get_or, drop, refl}
use Rattle.std.specs.Map.{lookup}
use Rattle.std.specs.List.{position_from}
use Rattle.indexmap.specs.IndexMap.{insert_entry}
use Rattle.or_geom.proofs.NamePlaceLaws as named
use Rattle.net_extractor.specs.KeyPlaces.{same_bytes}

-- one place less
pub finds_more : {K : Type 0} (text : K → List ℕ) (names : List (List ℕ)) (place : ℕ) (k : K) (es es' : List (K × ℕ)) → 0 < place → place ≤ length names → text k ≡ get_or names (place - 1) []
    → es' ≡ insert_entry (λ x y. same_bytes (text x) (text y)) es k (place - 1) → ((name : List ℕ) → lookup (λ key. same_bytes name (text key)) es ≡ position_from (same_bytes name) place (drop place names))
    → (name : List ℕ) → lookup (λ key. same_bytes name (text key)) es' ≡ position_from (same_bytes name) (place - 1) (drop (place - 1) names)
finds_more text names place k es es' some within is put old =
    named.finds_more text names place k es es' (λ entries. insert_entry (λ x y. same_bytes (text x) (text y)) entries k (place - 1)) (record { none = refl; more = λ e entries. refl }) some within is put old
