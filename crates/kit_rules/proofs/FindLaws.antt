-- Looking for the first item that passes a test.
use Rattle.std.proofs.Common.{◌≡◌, ℕ, ◌+◌, ◌<◌, ◌≤◌, List, length, get_or, drop, Some, None, Bool, true, false, cond, ap, ◌∙◌}
use Rattle.std.specs.List.{find}
use Rattle.std.specs.Str.{bytes_eq}
use Rattle.std.proofs.lemmas.List.{at_drop_all}
use Rattle.std.proofs.lemmas.Slice.Eq.{bytes_eq-Decides}
use Rattle.or_geom.proofs.ListLaws.{rest_at}

-- no item before a place passes
abbrev pub IsLeft : {X : Type 0} → (X → Bool) → List X → ℕ → Type 0
IsLeft test xs i = find test xs ≡ find test (drop i xs)

pub find_here : {X : Type 0} (test : X → Bool) (xs : List X) (i : ℕ) (x : X) → i < length xs → x ≡ get_or xs i x → test x ≡ true → IsLeft test xs i → find test xs ≡ Some x
find_here {X} test xs i x lt is passes left =
    left ∙ (ap (find test) (rest_at xs i x lt is) ∙ ap (λ (b : Bool). cond b (Some x) (find test (drop (i + 1) xs))) passes)

pub find_past : {X : Type 0} (test : X → Bool) (xs : List X) (i : ℕ) (x : X) → i < length xs → x ≡ get_or xs i x → test x ≡ false → IsLeft test xs i → IsLeft test xs (i + 1)
find_past {X} test xs i x lt is fails left =
    left ∙ (ap (find test) (rest_at xs i x lt is) ∙ ap (λ (b : Bool). cond b (Some x) (find test (drop (i + 1) xs))) fails)

pub find_none : {X : Type 0} (test : X → Bool) (xs : List X) (i : ℕ) → length xs ≤ i → IsLeft test xs i → find test xs ≡ None
find_none test xs i all left = left ∙ at_drop_all (find test) xs i all

pub texts_same : (a b : List ℕ) → a ≡ b → bytes_eq a b ≡ true
texts_same a b e = (bytes_eq-Decides a b).1 e
