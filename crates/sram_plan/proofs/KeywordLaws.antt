-- Texts that are too long for a keyword.
use Rattle.std.proofs.Common.{◌≡◌, ℕ, ◌<◌, ◌≤◌, Bool, true, false, ◌&&◌, ◌||◌, List, [], ◌∷◌, length, refl, ap, arith}
use Rattle.std.specs.Prelude.{nat_lt}
use Rattle.std.specs.List.{list_all, list_any}
use Rattle.std.specs.Str.{bytes_eq}
use Rattle.std.proofs.lemmas.Bool.{ltb-true}
use Rattle.std.proofs.lemmas.Slice.Eq.{bytes_eq-Decides}
use Rattle.sram_plan.specs.Keywords.{is_keyword, keywords}

both_true : (a b : Bool) → (a && b) ≡ true → (a ≡ true) × (b ≡ true)
both_true true b e = (refl, e)
both_true false b e = absurd cc

shorter_differs : (word text : List ℕ) → length word < length text → bytes_eq word text ≡ false
shorter_differs word text short = by (bytes_eq word text) (bytes_eq-Decides word text).0 where
  by : (t : Bool) → (t ≡ true → word ≡ text) → t ≡ false
  by true same = absurd (let long : length word ≡ length text = ap length (same refl) in omega (arith, short, long))
  by false same = refl

none_of_short : (words : List (List ℕ)) (text : List ℕ) → list_all (λ (word : List ℕ). nat_lt (length word) 24) words ≡ true → 24 ≤ length text → list_any (λ word. bytes_eq word text) words ≡ false
none_of_short [] text short long = refl
none_of_short (word ∷ words) text short long =
    let parts = both_true (nat_lt (length word) 24) (list_all (λ (w : List ℕ). nat_lt (length w) 24) words) short in
    let less : length word < 24 = ltb-true (length word) 24 parts.0 in
    λ i. shorter_differs word text (omega (arith, less, long)) i || none_of_short words text parts.1 long i

-- no keyword has 24 letters
pub long_is_no_keyword : (text : List ℕ) → 24 ≤ length text → is_keyword text ≡ false
unfolding is_keyword
long_is_no_keyword text long = none_of_short keywords text refl long
