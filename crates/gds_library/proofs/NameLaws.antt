-- Names in a sorted set.
use Rattle.std.proofs.Common.{◌≡◌, ℕ, List, [], ◌∷◌, Bool, true, false, ◌||◌, refl, sym, ap, ◌∙◌}
use Rattle.std.specs.List.{list_any}
use Rattle.std.specs.Str.{bytes_eq}
use Rattle.std.specs.Ordering.{nat_cmp, is_eq, match_ordering}
use Rattle.std.specs.Cmp.Lexicographic.{slice_cmp}
use Rattle.std.specs.BTreeSet.{insert_key}
use Rattle.std.specs.declared.cmp.Ordering.{Ordering}
use Rattle.std.specs.declared.cmp.Ordering.TheVariants.{Less, Equal, Greater}
use Rattle.std.proofs.lemmas.Map.Lookups.{exact_bytes}
use Rattle.std.proofs.lemmas.Map.Text.{is_eq-slice_cmp}
use denote.Ref.{Bor}

-- the order of names
abbrev pub name_cmp : Bor (List ℕ) → Bor (List ℕ) → Ordering
name_cmp x y = slice_cmp nat_cmp x.now y.now

abbrev pub any_name : List (Bor (List ℕ)) → List ℕ → Bool
any_name names text = list_any (λ (name : Bor (List ℕ)). bytes_eq text name.now) names

both_same : (a b : Bool) → (a || b) ≡ (a || (a || b))
both_same true b = refl
both_same false b = refl

swapped : (a b c : Bool) → (a || (b || c)) ≡ (b || (a || c))
swapped true true c = refl
swapped true false c = refl
swapped false true c = refl
swapped false false c = refl

choice : (o : Ordering) (k x : Bor (List ℕ)) (xs ys : List (Bor (List ℕ))) (text : List ℕ) → name_cmp k x ≡ o
    → any_name ys text ≡ (bytes_eq text k.now || any_name xs text)
    → any_name (match_ordering o (k ∷ x ∷ xs) (x ∷ xs) (x ∷ ys)) text ≡ (bytes_eq text k.now || any_name (x ∷ xs) text)
choice Less k x xs ys text is h = refl
choice Equal k x xs ys text is h =
    let same : k.now ≡ x.now = exact_bytes k.now x.now is in
    both_same (bytes_eq text x.now) (any_name xs text)
    ∙ ap (λ (n : List ℕ). bytes_eq text n || (bytes_eq text x.now || any_name xs text)) (sym same)
choice Greater k x xs ys text is h = ap (λ b. bytes_eq text x.now || b) h
    ∙ swapped (bytes_eq text x.now) (bytes_eq text k.now) (any_name xs text)

-- a name more
pub any_name-insert_key : (k : Bor (List ℕ)) (names : List (Bor (List ℕ))) (text : List ℕ)
    → any_name (insert_key name_cmp names k) text ≡ (bytes_eq text k.now || any_name names text)
any_name-insert_key k [] text = refl
any_name-insert_key k (x ∷ xs) text =
    choice (name_cmp k x) k x xs (insert_key name_cmp xs k) text refl (any_name-insert_key k xs text)

-- the set's test is the bytes' own
pub same_any : (k : Bor (List ℕ)) (names : List (Bor (List ℕ)))
    → list_any (λ (x : Bor (List ℕ)). is_eq (name_cmp k x)) names ≡ any_name names k.now
same_any k [] = refl
same_any k (x ∷ xs) = λ i. is_eq-slice_cmp k.now x.now i || same_any k xs i
