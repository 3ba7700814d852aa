-- Names that can be written.
use Rattle.std.proofs.Common.{◌≡◌, ◌≢◌, ◌<◌, ℕ, zero, suc, List, [], ◌∷◌, length, map, get_or, Bool, true, false, nat_le, ◌&&◌, arith}
use Rattle.std.specs.List.{AllByRecursion, AllPairs}
use Rattle.std.proofs.lemmas.Bool.{leb-true}
use Rattle.std.proofs.lemmas.List.Kept.{AllPairs-cons}
use Rattle.gds_library.specs.Writable.{IsPrintable, IsText}
use Rattle.spice_text.specs.Writable.{IsNameByte, Differ}
use Rattle.spice_text.specs.WritableTests.{is_name}
use Rattle.spice_text.proofs.TestLaws.{name_decided}

-- 1 to 512 characters without blanks
abbrev pub is_short_name : List ℕ → Bool
is_short_name name = is_name name && nat_le (length name) 512

pub both_true : (a b : Bool) → a && b ≡ true → (a ≡ true) × (b ≡ true)
both_true true b e = (cc, e)
both_true false b e = absurd cc

printable_bytes : (bytes : List ℕ) → AllByRecursion IsNameByte bytes → AllByRecursion IsPrintable bytes
printable_bytes [] h = tt
printable_bytes (b ∷ bytes) h =
    let low = h.0.above in
    (record { above = omega (arith, low); below = h.0.below }, printable_bytes bytes h.1)

pub short_name_text : (name : List ℕ) → is_short_name name ≡ true → IsText name
short_name_text name e =
    let parts = both_true (is_name name) (nat_le (length name) 512) e in
    let is = (name_decided name).0 parts.0 in
    let some = is.some in
    record {
      some = omega (arith, some);
      few = leb-true (length name) 512 parts.1;
      printable = printable_bytes name is.bytes;
    }

first_apart : {X : Type 0} (f : X → List ℕ) (x : X) (xs : List X) → AllByRecursion (λ other. f x ≢ other) (map f xs)
    → (k : ℕ) (d : X) → k < length xs → f x ≢ f (get_or xs k d)
first_apart f x [] h k d lt = absurd (omega arith)
first_apart f x (y ∷ ys) h zero d lt = h.0
first_apart f x (y ∷ ys) h (suc k) d lt = first_apart f x ys h.1 k d (omega arith)

pub pairs_apart : {X : Type 0} (f : X → List ℕ) (xs : List X) → Differ (map f xs) → AllPairs (λ a b. f a ≢ f b) xs
pairs_apart f [] h = λ i j d below within. absurd (omega arith)
pairs_apart f (x ∷ xs) h = AllPairs-cons (λ a b. f a ≢ f b) x xs (first_apart f x xs h.0) (pairs_apart f xs h.1)
