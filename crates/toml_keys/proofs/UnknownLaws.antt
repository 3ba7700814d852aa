-- The first key that isn't known is the least, where keys stand in order.
use Rattle.std.proofs.Common.{◌≡◌, ℕ, ◌||◌, Bool, true, false, cond, List, [], ◌∷◌, map, filter, Option, Some, None, option_map, unwrap_or, IfSome, String, Global, string_bytes, Less, Greater, refl, ap, ◌∙◌}
use Rattle.std.specs.List.{AllByRecursion, list_any}
use Rattle.std.specs.List.Sorted.{IsStrictlySortedBy}
use Rattle.std.specs.Map.{keys_of}
use Rattle.std.specs.Ordering.{is_lt, ordering_reverse}
use Rattle.std.specs.String.{string_cmp}
use Rattle.std.proofs.lemmas.Cmp.{nat_list_cmp_total}
use Rattle.or_geom.specs.Least.{name_order}
use Rattle.toml.specs.declared.value.Value.{Value}
use Rattle.toml.specs.View.{members_view}
use Rattle.toml_keys.specs.Unknown.{member_keys, lesser, least_of, is_unknown}

-- all of the names come after this one
abbrev pub AreAfter : List ℕ → List (List ℕ) → Type 0
AreAfter name names = AllByRecursion (λ other. name_order name other ≡ Less) names

either_after : (name a b : List ℕ) (less : Bool) → name_order name a ≡ Less → name_order name b ≡ Less
    → name_order name (cond less b a) ≡ Less
either_after name a b true p q = q
either_after name a b false p q = p

lesser_after : (name n : List ℕ) (least : Option (List ℕ)) → name_order name n ≡ Less
    → IfSome least (λ l. name_order name l ≡ Less)
    → name_order name (unwrap_or (option_map (lesser n) least) n) ≡ Less
lesser_after name n None p q = p
lesser_after name n (Some l) p q = either_after name n l (is_lt (name_order l n)) p q

least_after : (name : List ℕ) (names : List (List ℕ)) → AreAfter name names
    → IfSome (least_of names) (λ l. name_order name l ≡ Less)
least_after name [] after = tt
least_after name (n ∷ ns) after = lesser_after name n (least_of ns) after.0 (least_after name ns after.1)

first_stays : (name l : List ℕ) → name_order name l ≡ Less → lesser name l ≡ name
first_stays name l less =
    let turned : name_order l name ≡ Greater = nat_list_cmp_total.antisymm l name ∙ ap ordering_reverse less in
    rw turned refl

first_is_least : (name : List ℕ) (least : Option (List ℕ)) → IfSome least (λ l. name_order name l ≡ Less)
    → unwrap_or (option_map (lesser name) least) name ≡ name
first_is_least name None after = refl
first_is_least name (Some l) after = first_stays name l after

either_filtered : (P : List ℕ → Type 0) (n : List ℕ) (ns : List (List ℕ)) (passes : Bool) → P n → AllByRecursion P ns
    → AllByRecursion P (cond passes (n ∷ ns) ns)
either_filtered P n ns true here more = (here, more)
either_filtered P n ns false here more = more

all_filtered : (P : List ℕ → Type 0) (test : List ℕ → Bool) (names : List (List ℕ)) → AllByRecursion P names
    → AllByRecursion P (filter test names)
all_filtered P test [] all = all
all_filtered P test (n ∷ ns) all = either_filtered P n (filter test ns) (test n) all.0 (all_filtered P test ns all.1)

names_after : (key : String Global) (keys : List (String Global)) → AllByRecursion (λ y. string_cmp key y ≡ Less) keys
    → AreAfter (string_bytes key) (map string_bytes keys)
names_after key [] all = all
names_after key (k ∷ ks) all = (all.0, names_after key ks all.1)

-- the least of these keys that isn't known
abbrev pub unknown_of : List (List ℕ) → List (String Global) → Option (List ℕ)
unknown_of known keys = least_of (filter (is_unknown known) (map string_bytes keys))

pub key_is_known : (known : List (List ℕ)) (key : String Global) (keys : List (String Global))
    → is_unknown known (string_bytes key) ≡ false → unknown_of known (key ∷ keys) ≡ unknown_of known keys
key_is_known known key keys fails = rw fails refl

pub key_is_unknown : (known : List (List ℕ)) (key : String Global) (keys : List (String Global))
    → IsStrictlySortedBy string_cmp (key ∷ keys) → is_unknown known (string_bytes key) ≡ true
    → unknown_of known (key ∷ keys) ≡ Some (string_bytes key)
unfolding IsStrictlySortedBy
key_is_unknown known key keys sorted passes =
    let names = filter (is_unknown known) (map string_bytes keys) in
    let after = least_after (string_bytes key) names (all_filtered _ (is_unknown known) (map string_bytes keys) (names_after key keys sorted.0)) in
    let same : unknown_of known (key ∷ keys) ≡ least_of (string_bytes key ∷ names) = rw passes refl in
    same ∙ ap (λ (n : List ℕ). Some n) (first_is_least (string_bytes key) (least_of names) after)

pub later_keys : (key : String Global) (keys : List (String Global)) → IsStrictlySortedBy string_cmp (key ∷ keys)
    → IsStrictlySortedBy string_cmp keys
unfolding IsStrictlySortedBy
later_keys key keys sorted = sorted.1

-- a map's keys are those of the members that it stands for
pub keys_as_members : (entries : List (String Global × Value))
    → member_keys (members_view entries) ≡ map string_bytes (keys_of entries)
keys_as_members [] = refl
keys_as_members (e ∷ es) = ap (λ (names : List (List ℕ)). string_bytes e.0 ∷ names) (keys_as_members es)

-- a test of texts seen as their bytes
pub any_mapped : {A B : Type 0} (f : A → B) (test : B → Bool) (xs : List A)
    → list_any test (map f xs) ≡ list_any (λ x. test (f x)) xs
any_mapped f test [] = refl
any_mapped f test (x ∷ xs) = ap (λ (more : Bool). test (f x) || more) (any_mapped f test xs)
