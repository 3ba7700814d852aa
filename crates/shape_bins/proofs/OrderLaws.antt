-- Places that are sorted.
use Rattle.std.proofs.Common.{◌≡◌, ℕ, suc, ◌-◌, ◌+◌, ◌≤◌, List, [], ◌∷◌, ◌++◌, map, length, sym, ap, subst, ◌∙◌, arith}
use Rattle.std.specs.Prelude.{Contains}
use Rattle.std.specs.List.{range_with_len}
use Rattle.std.specs.List.Sorted.{IsPermutation}
use Rattle.std.proofs.lemmas.List.{map-append}
use Rattle.std.proofs.lemmas.List.FromFn.{length-range_with_len}
use Rattle.std.proofs.lemmas.List.Sorted.{Contains-permutation, IsPermutation-map, IsPermutation-sym, length_permutation}
use Rattle.or_geom.proofs.RangeLaws.{range_more, in_range, range_has}
use Rattle.shape_bins.specs.Order.{place_of_key, IsOrderAdded}

pub keys_more : (keys : List ℕ) (key begin place : ℕ) → begin ≤ place → map place_of_key keys ≡ range_with_len begin (place - begin) → place_of_key key ≡ place → map place_of_key (keys ++ key ∷ []) ≡ range_with_len begin (place + 1 - begin)
keys_more keys key begin place above is at =
    let step : place + 1 - begin ≡ suc (place - begin) = omega (arith, above) in
    let here : begin + (place - begin) ≡ place_of_key key = omega (arith, above, at) in
    map-append place_of_key keys (key ∷ []) ∙ (ap (λ (l : List ℕ). l ++ place_of_key key ∷ []) is ∙ (sym (range_more begin (place - begin) (place_of_key key) here) ∙ ap (range_with_len begin) (sym step)))

pub order_added : (keys sorted old new : List ℕ) (begin end : ℕ) → begin ≤ end → IsPermutation keys sorted → map place_of_key keys ≡ range_with_len begin (end - begin) → new ≡ old ++ map place_of_key sorted
    → IsOrderAdded begin end old new
order_added keys sorted old new begin end order moved is made =
    let there = IsPermutation-map place_of_key keys sorted moved in
    let back = IsPermutation-sym (map place_of_key keys) (map place_of_key sorted) there in
    record {
      added = map place_of_key sorted;
      is = made;
      sized = length_permutation (map place_of_key keys) (map place_of_key sorted) there ∙ (ap length is ∙ length-range_with_len begin (end - begin));
      each = λ place. (
        λ h. let r = in_range begin (end - begin) place (subst (λ (l : List ℕ). Contains l place) is (Contains-permutation (map place_of_key sorted) (map place_of_key keys) place back h)) in
            let above = r.0 in
            let below = r.1 in
            (above, omega (arith, order, below)),
        λ h. let above = h.0 in
            let below = h.1 in
            Contains-permutation (map place_of_key keys) (map place_of_key sorted) place there
            (subst (λ (l : List ℕ). Contains l place) (sym is) (range_has begin (end - begin) place above (omega (arith, order, below)))),
      );
    }
