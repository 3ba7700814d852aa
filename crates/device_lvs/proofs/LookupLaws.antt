-- A table of names finds the name of each net.
use Rattle.std.proofs.Common.{◌≡◌, ◌≢◌, inl, inr, ℕ, ◌+◌, ◌<◌, ◌≤◌, List, [], ◌∷◌, map, length, get_or, Some, refl, sym, ap, subst, ◌∙◌, arith}
use Rattle.std.specs.Prelude.{Contains, slice_get}
use Rattle.std.specs.Ordering.{nat_cmp}
use Rattle.std.specs.List.Sorted.{IsSorted}
use Rattle.std.specs.declared.cmp.Ordering.TheVariants.{Greater}
use Rattle.std.proofs.lemmas.Bool.{cases_lt}
use Rattle.std.proofs.lemmas.Bool.Decides.{nat_tests}
use Rattle.std.proofs.lemmas.List.{get_or-map, length-map}
use Rattle.std.proofs.lemmas.Option.{slice_get_within, slice_get-get_or, get_or_from_slice_get}
use Rattle.or_geom.specs.Least.{name_order}
use Rattle.or_geom.proofs.ListLaws.{contained_at}
use Rattle.drawn_devices.specs.declared.drawn.NetName.{NetName}
use Rattle.device_lvs.specs.NetNames.{HasName, HasSomeName}
use Rattle.device_lvs.specs.Sorted.{by_net, net_first}
use Rattle.device_lvs.proofs.NeighbourLaws.{rises}
use Rattle.device_lvs.proofs.SortedLaws.{by_net_total, first_part}
use Rattle.device_lvs.proofs.PlaceLaws.{item_at}
use denote.Ref.{Bor}

more_than : (a b : ℕ) → b < a → nat_cmp a b ≡ Greater
more_than a b lt = grind (arith, nat_tests, lt)

upto : (a b : ℕ) → nat_cmp a b ≢ Greater → a ≤ b
upto a b least = elim (cases_lt b a) [ inl lt ↦ absurd (least (more_than a b lt)) | inr le ↦ le ]

no_name : NetName
no_name = record { name = []; net = 0 }

abbrev pub numbers : List NetName → List ℕ
numbers names = map (λ (n : NetName). n.net) names

number_at : (names : List NetName) (k : ℕ) → k < length names → get_or (numbers names) k 0 ≡ (get_or names k no_name).net
number_at names k inside = get_or-map (λ (n : NetName). n.net) names k no_name 0 inside

pub numbers_rise : (names : List NetName) → IsSorted by_net names → (i j : ℕ) → i ≤ j → j < length (numbers names) → get_or (numbers names) i 0 ≤ get_or (numbers names) j 0
numbers_rise names sorted i j before inside =
    let within : j < length names = subst (λ (n : ℕ). j < n) (length-map names (λ (n : NetName). n.net)) inside in
    let a = get_or names i no_name in
    let b = get_or names j no_name in
    let up = rises by_net by_net_total names i j a b sorted before (slice_get-get_or names i no_name (omega (arith, before, within))) (slice_get-get_or names j no_name within) in
    let le = upto a.net b.net (first_part (nat_cmp a.net b.net) (name_order a.name b.name) up) in
    let x = number_at names i (omega (arith, before, within)) in
    let y = number_at names j within in
    omega (arith, le, x, y)

-- the name at the place of a number
pub found_name : (names : List NetName) (nets : List ℕ) (place net : ℕ) (n : NetName) → nets ≡ numbers names → place < length nets → get_or nets place 0 ≡ net → slice_get names place ≡ Some n → HasName names net n.name
found_name names nets place net n are inside is there =
    let within = slice_get_within names place n there in
    let number : net ≡ n.net = sym is ∙ ap (λ (l : List ℕ). get_or l place 0) are ∙ number_at names place within ∙ ap (λ (m : NetName). m.net) (get_or_from_slice_get names place n no_name there) in
    subst (λ (k : ℕ). Contains names (record { name = n.name; net = k })) (sym number) (contained_at names place n there)

-- a number that is nowhere has no name
pub no_name_found : (names : List NetName) (nets : List ℕ) (net i : ℕ) → nets ≡ numbers names → ((k : ℕ) → k < i → get_or nets k 0 < net) → ((k : ℕ) → i ≤ k → k < length nets → net < get_or nets k 0) → HasSomeName names net → ⊥
no_name_found names nets net i are below above named =
    let there = named.1 in
    let k = there.0 in
    let inside : k < length names = there.1 in
    let n : NetName = record { name = named.0; net = net } in
    let at : get_or names k no_name ≡ n = get_or_from_slice_get names k n no_name (slice_get-get_or names k n inside ∙ ap Some there.2) in
    let number : get_or nets k 0 ≡ net = ap (λ (l : List ℕ). get_or l k 0) are ∙ number_at names k inside ∙ ap (λ (m : NetName). m.net) at in
    let long : length nets ≡ length names = ap length are ∙ length-map names (λ (m : NetName). m.net) in
    elim (cases_lt k i) [
      | inl lt ↦ let less = below k lt in omega (arith, less, number)
      | inr ge ↦ let more = above k ge (omega (arith, inside, long)) in omega (arith, more, number)
    ]

abbrev pub firsts : List (ℕ × Bor (List ℕ)) → List ℕ
firsts named = map (λ (p : ℕ × Bor (List ℕ)). p.0) named

-- numbers beside names are the names' numbers
pub same_numbers : (named : List (ℕ × Bor (List ℕ))) → firsts named ≡ numbers (map net_first named)
same_numbers [] = refl
same_numbers (p ∷ ps) = ap (λ (l : List ℕ). p.0 ∷ l) (same_numbers ps)

-- the item beside a number
pub item_beside : (named : List (ℕ × Bor (List ℕ))) (nets : List ℕ) (place : ℕ) (y : ℕ × Bor (List ℕ)) → nets ≡ numbers (map net_first named) → place < length nets → y ≡ get_or named place y
    → slice_get (map net_first named) place ≡ Some (net_first y)
item_beside named nets place y are inside is =
    let long : length nets ≡ length named = ap length are ∙ length-map (map net_first named) (λ (n : NetName). n.net) ∙ length-map named net_first in
    item_at net_first named place y (omega (arith, inside, long)) ∙ ap (λ (z : ℕ × Bor (List ℕ)). Some (net_first z)) (sym is)
