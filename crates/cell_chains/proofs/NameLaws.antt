-- Names in order, and what a binary search among them finds.
use Rattle.std.proofs.Common.{◌≡◌, ◌≢◌, inl, inr, ℕ, ◌+◌, ◌<◌, ◌≤◌, List, [], ◌∷◌, length, get_or, sym, ap, subst, ◌∙◌, arith}
use Rattle.std.specs.Prelude.{Contains}
use Rattle.std.specs.List.{HoldsAt}
use Rattle.std.specs.List.Sorted.{IsStrictlySortedBy, IsSortedBy, IsNonDecreasingBy, IsPartitionPoint}
use Rattle.std.specs.Ordering.{is_lt, ordering_index, ordering_reverse}
use Rattle.std.specs.declared.cmp.Ordering.{Ordering}
use Rattle.std.specs.declared.cmp.Ordering.TheVariants.{Less, Equal, Greater}
use Rattle.std.proofs.lemmas.Bool.{cases_lt, cases_order}
use Rattle.std.proofs.lemmas.Cmp.{nat_list_cmp_total, tied_itself}
use Rattle.std.proofs.lemmas.List.{length-map, get_or-map}
use Rattle.std.proofs.lemmas.List.Elements.{All-from_recursion, All-map}
use Rattle.std.proofs.lemmas.List.Kept.{AllPairs-cons}
use Rattle.std.proofs.lemmas.List.Sorted.{searchable_from_sorted}
use Rattle.std.proofs.lemmas.Map.Lookups.{exact_bytes}
use Rattle.or_geom.specs.Least.{name_order}
use Rattle.cell_chains.specs.Numbering.{texts, name_at, Rises, IsNodeNamed}
use denote.Ref.{Bor}

not_itself : (a : List ℕ) → name_order a a ≡ Less → ⊥
not_itself a less = let e : ◌≡◌ {A = Ordering} Less Equal = sym less ∙ tied_itself nat_list_cmp_total a in cc

-- names in strict order differ
pub one_node : (names : List (List ℕ)) (i j : ℕ) → Rises names → i < length names → j < length names → name_at names i ≡ name_at names j → i ≡ j
one_node names i j rises li lj same = elim (cases_order i j) [
  | inl e ↦ e
  | inr h ↦ elim h [
    | inl lt ↦ absurd (not_itself (get_or names j []) (subst (λ (a : List ℕ). name_order a (get_or names j []) ≡ Less) same (rises i j [] lt lj)))
    | inr gt ↦ absurd (not_itself (get_or names j []) (subst (λ (a : List ℕ). name_order (get_or names j []) a ≡ Less) same (rises j i [] gt li)))
  ]
]

-- the name of an earlier node isn't greater
pub not_greater : (names : List (List ℕ)) (i j : ℕ) → Rises names → i ≤ j → j < length names → name_order (name_at names i) (name_at names j) ≢ Greater
not_greater names i j rises le lj greater = elim (cases_lt i j) [
  | inl lt ↦ let e : ◌≡◌ {A = Ordering} Less Greater = sym (rises i j [] lt lj) ∙ greater in absurd cc
  | inr ge ↦
      let same : i ≡ j = omega arith in
      let e : ◌≡◌ {A = Ordering} Equal Greater = sym (tied_itself nat_list_cmp_total (get_or names j [])) ∙ subst (λ (k : ℕ). name_order (get_or names k []) (get_or names j []) ≡ Greater) same greater in
      absurd cc
]

pub text_at : (names : List (Bor (List ℕ))) (k : ℕ) (d : Bor (List ℕ)) → k < length names → name_at (texts names) k ≡ (get_or names k d).now
text_at names k d lt = get_or-map (λ (name : Bor (List ℕ)). name.now) names k d [] lt

pub texts_long : (names : List (Bor (List ℕ))) → length (texts names) ≡ length names
texts_long names = length-map names (λ (name : Bor (List ℕ)). name.now)

pub found_node : (names : List (Bor (List ℕ))) (name : Bor (List ℕ)) (node : ℕ) → node < length names → HoldsAt (λ y. name_order y.now name.now ≡ Equal) names node → IsNodeNamed (texts names) name.now node
found_node names name node lt here = record {
  within = subst (λ (n : ℕ). node < n) (sym (texts_long names)) lt;
  named = text_at names node name lt ∙ exact_bytes (get_or names node name).now name.now (here name);
}

sorted_texts : (names : List (Bor (List ℕ))) → Rises (texts names) → IsSortedBy (λ a b. is_lt (name_order a.now b.now)) names
sorted_texts names rises k d low high =
    let far : k + 1 < length (texts names) = subst (λ (n : ℕ). k + 1 < n) (sym (texts_long names)) high in
    let less : name_order (name_at (texts names) k) (name_at (texts names) (k + 1)) ≡ Less = rises k (k + 1) [] (omega arith) far in
    let here : name_order (get_or names k d).now (get_or names (k + 1) d).now ≡ Less =
    subst (λ (a : List ℕ). name_order a (get_or names (k + 1) d).now ≡ Less) (text_at names k d (omega arith)) (subst (λ (b : List ℕ). name_order (name_at (texts names) k) b ≡ Less) (text_at names (k + 1) d high) less) in
    ap is_lt (nat_list_cmp_total.antisymm (get_or names (k + 1) d).now (get_or names k d).now ∙ ap ordering_reverse here)

pub not_found : (names : List (Bor (List ℕ))) (name : Bor (List ℕ)) (place : ℕ) → Rises (texts names)
    → (IsNonDecreasingBy (λ y. ordering_index (name_order y.now name.now)) names → IsPartitionPoint (λ y. name_order y.now name.now ≡ Less) (λ y. name_order y.now name.now ≡ Greater) names place)
    → Contains (texts names) name.now → ⊥
not_found names name place rises parted spot =
    let parts = parted (searchable_from_sorted nat_list_cmp_total (λ (y : Bor (List ℕ)). y.now) names name.now (sorted_texts names rises)) in
    let lt : spot.0 < length names = subst (λ (n : ℕ). spot.0 < n) (texts_long names) spot.1 in
    let same : (get_or names spot.0 name).now ≡ name.now = sym (get_or-map (λ (y : Bor (List ℕ)). y.now) names spot.0 name name.now lt) ∙ spot.2 in
    let tied : name_order (get_or names spot.0 name).now name.now ≡ Equal = subst (λ (a : List ℕ). name_order a name.now ≡ Equal) (sym same) (tied_itself nat_list_cmp_total name.now) in
    elim (cases_lt spot.0 place) [
      | inl below ↦ let e : ◌≡◌ {A = Ordering} Less Equal = sym (parts.0 spot.0 name (omega arith) below) ∙ tied in absurd cc
      | inr above ↦ let e : ◌≡◌ {A = Ordering} Greater Equal = sym (parts.1 spot.0 name above lt) ∙ tied in absurd cc
    ]

pub rises_from : (names : List (Bor (List ℕ))) → IsStrictlySortedBy (λ x y. name_order x.now y.now) names → Rises (texts names)
unfolding IsStrictlySortedBy
rises_from [] sorted = λ i j d lt below. absurd (omega arith)
rises_from (name ∷ names) sorted =
    AllPairs-cons (λ a b. name_order a b ≡ Less) name.now (texts names)
    (All-map (λ b. name_order name.now b ≡ Less) (λ (y : Bor (List ℕ)). y.now) names (All-from_recursion (λ (y : Bor (List ℕ)). name_order name.now y.now ≡ Less) names sorted.0))
    (rises_from names sorted.1)
