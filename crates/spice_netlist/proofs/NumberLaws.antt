-- Nets numbered by first appearance, one net more.
use Rattle.std.proofs.Common.{◌≡◌, inl, inr, ℕ, zero, suc, ◌+◌, ◌<◌, ◌≤◌, List, [], ◌∷◌, ◌++◌, length, map, get_or, Bool, true, false, cond, ◌||◌, Some, refl, sym, ap, subst, ◌∙◌, arith}
use Rattle.std.specs.Prelude.{position}
use Rattle.std.specs.List.{list_any, position_or_len}
use Rattle.std.specs.Cmp.Lexicographic.{same_text}
use Rattle.std.proofs.lemmas.Bool.{cases_lt}
use Rattle.std.proofs.lemmas.List.{get_or-map, get_or_append_left, map-append, length-map, length-append, get_or_default}
use Rattle.std.proofs.lemmas.List.Sums.{position_or_len_is}
use Rattle.std.proofs.lemmas.List.Quantifiers.{position-Some}
use Rattle.indexmap.specs.IndexSet.{insert_key}
use Rattle.spice_netlist.specs.Names.{same_name}
use Rattle.spice_netlist.specs.Numbers.{HasBefore, IsNumberOf, IsTableNumbering}
use Rattle.or_geom.proofs.NamePlaceLaws.{same_self}

pub get_or_push : {X : Type 0} (xs : List X) (x d : X) → get_or (xs ++ x ∷ []) (length xs) d ≡ x
get_or_push [] x d = refl
get_or_push (y ∷ xs) x d = get_or_push xs x d

head_false : (a b : Bool) → (a || b) ≡ false → a ≡ false
head_false true b neither = absurd cc
head_false false b neither = refl

tail_false : (a b : Bool) → (a || b) ≡ false → b ≡ false
tail_false true b neither = absurd cc
tail_false false b neither = neither

module _ {K : Type 0} (text : K → List ℕ) (net : List ℕ) where
  -- a net that is there keeps its index
  pub found_number : (ks : List K) (n : ℕ) → position (λ k. same_name net (text k)) ks ≡ Some n → IsNumberOf (map text ks) net n (map text ks)
  found_number [] n is = absurd cc
  found_number (x ∷ xs) n is =
      let at = position-Some (λ k. same_name net (text k)) (x ∷ xs) n x is in
      record {
        either = inl refl;
        within = subst (λ (m : ℕ). n < m) (sym (length-map (x ∷ xs) text)) at.0;
        is = get_or-map text (x ∷ xs) n x [] at.0 ∙ sym (same_text net (text (get_or (x ∷ xs) n x)) (sym at.1));
      }

  none_passes : (ks : List K) → list_any (λ k. same_name net (text k)) ks ≡ false → (i : ℕ) (d : K) → i < length ks → same_name net (text (get_or ks i d)) ≡ false
  none_passes [] none i d lt = absurd (omega arith)
  none_passes (x ∷ xs) none zero d lt = head_false (same_name net (text x)) (list_any (λ k. same_name net (text k)) xs) none
  none_passes (x ∷ xs) none (suc i) d lt = none_passes xs (tail_false (same_name net (text x)) (list_any (λ k. same_name net (text k)) xs) none) i d (omega arith)

  new_place : (ks : List K) (v : K) (n : ℕ) → text v ≡ net → list_any (λ k. same_name net (text k)) ks ≡ false → n ≡ position_or_len (λ k. same_name (text v) (text k)) ks → n ≡ length ks
  new_place ks v n e none is =
      is ∙ ap (λ (t : List ℕ). position_or_len (λ k. same_name t (text k)) ks) e
      ∙ position_or_len_is (λ k. same_name net (text k)) ks (length ks) v (omega arith) (λ k lt. none_passes ks none k v lt) (λ lt. absurd (omega arith))

  -- another net goes behind the others
  pub new_number : (ks ks' : List K) (v : K) (n : ℕ) → text v ≡ net → list_any (λ k. same_name net (text k)) ks ≡ false → ks' ≡ insert_key (λ a b. same_name (text a) (text b)) ks v → n ≡ position_or_len (λ k. same_name (text v) (text k)) ks
      → IsNumberOf (map text ks) net n (map text ks')
  new_number ks ks' v n e none put is =
      let own : list_any (λ k. same_name (text v) (text k)) ks ≡ false = subst (λ (t : List ℕ). list_any (λ k. same_name t (text k)) ks ≡ false) (sym e) none in
      let grown : ks' ≡ ks ++ v ∷ [] = put ∙ ap (λ b. cond b ks (ks ++ v ∷ [])) own in
      let nets : map text ks' ≡ map text ks ++ net ∷ [] = ap (λ (l : List K). map text l) grown ∙ map-append text ks (v ∷ []) ∙ ap (λ (t : List ℕ). map text ks ++ t ∷ []) e in
      let at : n ≡ length (map text ks) = new_place ks v n e none is ∙ sym (length-map ks text) in
      let long = ap length nets ∙ length-append (map text ks) (net ∷ []) in
      record {
        either = inr (
          nets,
          at,
          λ h.
              let lt : h.0 < length ks = subst (λ (m : ℕ). h.0 < m) (length-map ks text) h.1 in
              let here : text (get_or ks h.0 v) ≡ net = sym (get_or-map text ks h.0 v net lt) ∙ h.2 in
              let hit : same_name net (text (get_or ks h.0 v)) ≡ true = ap (λ (t : List ℕ). same_name net t) here ∙ same_self net in
              let no_way : true ≡ false = sym hit ∙ none_passes ks none h.0 v lt in
              absurd cc,
        );
        within = omega (arith, long, at);
        is = ap (λ (l : List (List ℕ)). get_or l n []) nets ∙ ap (λ (m : ℕ). get_or (map text ks ++ net ∷ []) m []) at ∙ get_or_push (map text ks) net [];
      }

-- nothing is numbered
pub numbers_none : IsTableNumbering [] [] []
numbers_none = record {
  sized = refl;
  few = omega arith;
  each = λ k lt. absurd (omega arith);
  once = λ i j lt other e. absurd (omega arith);
  had = λ number lt. absurd (omega arith);
  first = λ k smaller lt less. absurd (omega arith);
}

-- a table that has grown has what it had
kept : (table table' : List (List ℕ)) (net : List ℕ) (number : ℕ) → IsNumberOf table net number table' → (i : ℕ) → i < length table → (i < length table') × (get_or table' i [] ≡ get_or table i [])
kept table table' net number n i lt = elim n.either [
  | inl same ↦ (subst (λ (t : List (List ℕ)). i < length t) (sym same) lt, ap (λ (t : List (List ℕ)). get_or t i []) same)
  | inr new ↦
      let long = ap length new.0 ∙ length-append table (net ∷ []) in
      (omega (arith, long), ap (λ (t : List (List ℕ)). get_or t i []) new.0 ∙ get_or_append_left table (net ∷ []) [] i lt)
]

module _ (nets : List (List ℕ)) (numbers : List ℕ) (table table' : List (List ℕ)) (net : List ℕ) (number : ℕ) (old : IsTableNumbering nets numbers table) (new : IsNumberOf table net number table') where
  at_old : (k : ℕ) → k < length nets → get_or (numbers ++ number ∷ []) k 0 ≡ get_or numbers k 0
  at_old k lt = get_or_append_left numbers (number ∷ []) 0 k (omega (arith, old.sized))

  at_new : get_or (numbers ++ number ∷ []) (length nets) 0 ≡ number
  at_new = subst (λ (n : ℕ). get_or (numbers ++ number ∷ []) n 0 ≡ number) old.sized (get_or_push numbers number 0)

  net_old : (k : ℕ) → k < length nets → get_or (nets ++ net ∷ []) k [] ≡ get_or nets k []
  net_old k lt = get_or_append_left nets (net ∷ []) [] k lt

  long_nets : length (nets ++ net ∷ []) ≡ length nets + 1
  long_nets = length-append nets (net ∷ [])

  has_old : (index other : ℕ) → index ≤ length nets → HasBefore numbers index other → HasBefore (numbers ++ number ∷ []) index other
  has_old index other le h = record { earlier = h.earlier; before = h.before; is = at_old h.earlier (omega (arith, h.before)) ∙ h.is }

  each_more : (k : ℕ) → k < length (nets ++ net ∷ []) → (get_or (numbers ++ number ∷ []) k 0 < length table') × (get_or table' (get_or (numbers ++ number ∷ []) k 0) [] ≡ get_or (nets ++ net ∷ []) k [])
  each_more k lt = elim (cases_lt k (length nets)) [
    | inl before ↦
        let e = old.each k before in
        let t = kept table table' net number new (get_or numbers k 0) e.0 in (
          subst (λ (n : ℕ). n < length table') (sym (at_old k before)) t.0,
          ap (λ (n : ℕ). get_or table' n []) (at_old k before) ∙ t.1 ∙ e.1 ∙ sym (net_old k before),
        )
    | inr last ↦
        let same : length nets ≡ k = omega (arith, long_nets) in
        subst (λ (k : ℕ). (get_or (numbers ++ number ∷ []) k 0 < length table') × (get_or table' (get_or (numbers ++ number ∷ []) k 0) [] ≡ get_or (nets ++ net ∷ []) k [])) same (
          subst (λ (n : ℕ). n < length table') (sym at_new) new.within,
          ap (λ (n : ℕ). get_or table' n []) at_new ∙ new.is ∙ sym (get_or_push nets net []),
        )
  ]

  once_more : (i j : ℕ) → i < length table' → j < length table' → get_or table' i [] ≡ get_or table' j [] → i ≡ j
  once_more i j lt other e = elim new.either [
    | inl same ↦ old.once i j (subst (λ (t : List (List ℕ)). i < length t) same lt) (subst (λ (t : List (List ℕ)). j < length t) same other) (subst (λ (t : List (List ℕ)). get_or t i [] ≡ get_or t j []) same e)
    | inr add ↦
        let long = ap length add.0 ∙ length-append table (net ∷ []) in
        let apart = λ (a : ℕ) (b : ℕ) (less : a < length table) (end : length table ≡ b) (eq : get_or table' a [] ≡ get_or table' b []).
        let here : get_or table a [] ≡ net =
        sym (kept table table' net number new a less).1 ∙ eq ∙ ap (λ (t : List (List ℕ)). get_or t b []) add.0 ∙ ap (λ (n : ℕ). get_or (table ++ net ∷ []) n []) (sym end) ∙ get_or_push table net [] in
        add.2 (a, less, get_or_default table a net [] less ∙ here) in
        elim (cases_lt i (length table)) [
          | inl i_old ↦ elim (cases_lt j (length table)) [
            | inl j_old ↦ old.once i j i_old j_old (sym (kept table table' net number new i i_old).1 ∙ e ∙ (kept table table' net number new j j_old).1)
            | inr j_new ↦ absurd (apart i j i_old (omega (arith, long)) e)
          ]
          | inr i_new ↦ elim (cases_lt j (length table)) [
            | inl j_old ↦ absurd (apart j i j_old (omega (arith, long)) (sym e))
            | inr j_new ↦ omega (arith, long)
          ]
        ]
  ]

  had_more : (other : ℕ) → other < length table' → HasBefore (numbers ++ number ∷ []) (length (nets ++ net ∷ [])) other
  had_more other lt = elim (cases_lt other (length table)) [
    | inl before ↦ let h = has_old (length nets) other (omega arith) (old.had other before) in record { earlier = h.earlier; before = omega (arith, h.before, long_nets); is = h.is }
    | inr after ↦ elim new.either [
      | inl same ↦ let no_room = ap length same in absurd (omega (arith, no_room))
      | inr add ↦
          let long = ap length add.0 ∙ length-append table (net ∷ []) in
          record { earlier = length nets; before = omega (arith, long_nets); is = at_new ∙ omega (arith, add.1, long) }
    ]
  ]

  smaller_had : (smaller : ℕ) → smaller < number → smaller < length table
  smaller_had smaller less = elim new.either [
    | inl same ↦ let no_room = ap length same in omega (arith, no_room, new.within)
    | inr add ↦ omega (arith, add.1)
  ]

  first_more : (k smaller : ℕ) → k < length (nets ++ net ∷ []) → smaller < get_or (numbers ++ number ∷ []) k 0 → HasBefore (numbers ++ number ∷ []) k smaller
  first_more k smaller lt less = elim (cases_lt k (length nets)) [
    | inl before ↦ has_old k smaller (omega arith) (old.first k smaller before (subst (λ (n : ℕ). smaller < n) (at_old k before) less))
    | inr last ↦
        let same : length nets ≡ k = omega (arith, long_nets) in
        let below : smaller < number = subst (λ (n : ℕ). smaller < n) (ap (λ (n : ℕ). get_or (numbers ++ number ∷ []) n 0) (sym same) ∙ at_new) less in
        subst (λ (n : ℕ). HasBefore (numbers ++ number ∷ []) n smaller) same (has_old (length nets) smaller (omega arith) (old.had smaller (smaller_had smaller below)))
  ]

  few_more : length table' ≤ length (nets ++ net ∷ [])
  few_more = elim new.either [
    | inl same ↦ let as_long = ap length same in omega (arith, as_long, long_nets, old.few)
    | inr add ↦ let long = ap length add.0 ∙ length-append table (net ∷ []) in omega (arith, long, long_nets, old.few)
  ]

  -- one net more
  pub numbers_more : IsTableNumbering (nets ++ net ∷ []) (numbers ++ number ∷ []) table'
  numbers_more = record {
    sized = length-append numbers (number ∷ []) ∙ ap (λ (n : ℕ). n + 1) old.sized ∙ sym long_nets;
    few = few_more;
    each = each_more;
    once = once_more;
    had = had_more;
    first = first_more;
  }
