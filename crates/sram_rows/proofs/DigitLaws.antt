-- Names of plain bytes, and decimals in them: in lower case, and told from letters.
use Rattle.std.proofs.Common.{◌⊎◌, inl, inr, ◌≡◌, ℕ, nat_le, ◌||◌, ◌+◌, ◌%◌, ◌<◌, ◌≤◌, ◌^◌, Bool, true, false, ◌&&◌, nat_eq, List, [], ◌∷◌, ◌++◌, map, refl, sym, ap, ◌∙◌, append_assoc, arith}
use Rattle.std.specs.List.{AllByRecursion}
use Rattle.std.specs.Char.{to_ascii_lowercase}
use Rattle.std.specs.Fmt.{decimal}
use Rattle.std.proofs.lemmas.Fmt.{decimal_by_steps}
use Rattle.std.proofs.lemmas.Bool.{le-leb, false≢true, cases_lt}
use Rattle.std.proofs.lemmas.Bool.Decides.{nat_tests}
use Rattle.spice_text.specs.Writable.{IsNameByte, IsName}
use Rattle.std.proofs.lemmas.Str.Ascii.{lowercase_is}
use Rattle.spice_text.specs.Words.{lower}
use Rattle.spice_netlist.specs.Names.{same_name}
use Rattle.sram_netlist.proofs.NamesTell.{is_digit}
use Rattle.sram_netlist.proofs.ChoiceLaws.{nat_other}

-- a small letter, a digit, [ ] or _
abbrev pub is_plain_byte : ℕ → Bool
is_plain_byte c = nat_le 97 c && nat_le c 122 || is_digit c || nat_eq c 91 || nat_eq c 93 || nat_eq c 95

abbrev pub are_plain : List ℕ → Bool
are_plain [] = true
are_plain (c ∷ cs) = is_plain_byte c && are_plain cs

abbrev pub is_plain : List ℕ → Bool
is_plain [] = false
is_plain (c ∷ cs) = is_plain_byte c && are_plain cs

-- a name of such bytes
abbrev pub IsPlain : List ℕ → Type 0
IsPlain n = is_plain n ≡ true

byte_low : (c : ℕ) → is_plain_byte c ≡ true → to_ascii_lowercase c ≡ c
byte_low c e = by (cases_lt 90 c)
  where
    by : (90 < c) ⊎ (c ≤ 90) → to_ascii_lowercase c ≡ c
    by (inl lt) = (lowercase_is c).2 lt
    by (inr le) = (lowercase_is c).1 (grind (arith, nat_tests, e, le))

pub both_true : (a b : Bool) → (a && b) ≡ true → (a ≡ true) × (b ≡ true)
both_true true true e = (refl, refl)
both_true true false e = absurd cc
both_true false b e = absurd cc

plain_bytes_low : (n : List ℕ) → are_plain n ≡ true → lower n ≡ n
plain_bytes_low [] e = refl
plain_bytes_low (c ∷ cs) e = let both = both_true (is_plain_byte c) (are_plain cs) e in λ i. byte_low c both.0 i ∷ plain_bytes_low cs both.1 i

pub plain_low : (n : List ℕ) → IsPlain n → lower n ≡ n
plain_low [] e = absurd cc
plain_low (c ∷ cs) e = plain_bytes_low (c ∷ cs) e

pub plain_all : (ns : List (List ℕ)) → AllByRecursion IsPlain ns → map lower ns ≡ ns
plain_all [] all = refl
plain_all (n ∷ ns) all = λ i. plain_low n all.0 i ∷ plain_all ns all.1 i

name_byte : (c : ℕ) → is_plain_byte c ≡ true → IsNameByte c
name_byte c e = record { above = grind (arith, nat_tests); below = grind (arith, nat_tests); other = λ is. grind (arith, nat_tests) }

pub name_bytes : (n : List ℕ) → are_plain n ≡ true → AllByRecursion IsNameByte n
name_bytes [] e = tt
name_bytes (c ∷ cs) e = let both = both_true (is_plain_byte c) (are_plain cs) e in (name_byte c both.0, name_bytes cs both.1)

pub plain_name : (n : List ℕ) → IsPlain n → IsName n
plain_name [] e = absurd cc
plain_name (c ∷ cs) e = record { some = omega arith; bytes = name_bytes (c ∷ cs) e }

digit_plain : (n : ℕ) → n < 10 → is_plain_byte (48 + n) ≡ true
digit_plain n h = grind (arith, nat_tests)

digits_plain : (n : ℕ) → n < 2 ^ 64 → (rest : List ℕ) → are_plain (decimal n ++ rest) ≡ are_plain rest
digits_plain n h = decimal_by_steps (λ n ds. (rest : List ℕ) → are_plain (ds ++ rest) ≡ are_plain rest) (λ n small rest. ap (λ (b : Bool). b && are_plain rest) (digit_plain n small))
    (λ n ds big more rest.
    ap are_plain (append_assoc ds ((48 + n % 10) ∷ []) rest) ∙ more ((48 + n % 10) ∷ rest) ∙ ap (λ (b : Bool). b && are_plain rest) (digit_plain (n % 10) (omega arith))) n h

pub plain_tail : (n : ℕ) → n < 2 ^ 64 → (rest : List ℕ) → are_plain rest ≡ true → are_plain (decimal n ++ rest) ≡ true
plain_tail n h rest plain = digits_plain n h rest ∙ plain

-- a decimal begins with a digit
pub record StartsWithDigit (ds : List ℕ) : Type 0 where
  pub digit : ℕ
  pub more : List ℕ
  pub is : ds ≡ digit ∷ more
  pub at_least : 48 ≤ digit
  pub at_most : digit ≤ 57

pub starts : (n : ℕ) → n < 2 ^ 64 → StartsWithDigit (decimal n)
starts n h = decimal_by_steps (λ n ds. StartsWithDigit ds) (λ n small. record { digit = 48 + n; more = []; is = refl; at_least = omega arith; at_most = omega arith })
    (λ n ds big s. record { digit = s.digit; more = s.more ++ ((48 + n % 10) ∷ []); is = ap (λ (l : List ℕ). l ++ ((48 + n % 10) ∷ [])) s.is; at_least = s.at_least; at_most = s.at_most }) n h

a_digit : (d : ℕ) → 48 ≤ d → d ≤ 57 → is_digit d ≡ true
a_digit d a b = let l = le-leb 48 d a in let r = le-leb d 57 b in rw (l, r) refl

no_digit : (c d : ℕ) → is_digit c ≡ false → 48 ≤ d → d ≤ 57 → nat_eq c d ≡ false
no_digit c d off a b = nat_other c d (λ e. false≢true (sym off ∙ ap is_digit e ∙ a_digit d a b))

pub letter_digit : (c : ℕ) (cs : List ℕ) (n : ℕ) (rest : List ℕ) → n < 2 ^ 64 → is_digit c ≡ false → same_name (c ∷ cs) (decimal n ++ rest) ≡ false
letter_digit c cs n rest h off =
    let s = starts n h in
    ap (λ (ds : List ℕ). same_name (c ∷ cs) (ds ++ rest)) s.is ∙ ap (λ (b : Bool). b && same_name cs (s.more ++ rest)) (no_digit c s.digit off s.at_least s.at_most)

pub nil_digit : (n : ℕ) (rest : List ℕ) → n < 2 ^ 64 → same_name [] (decimal n ++ rest) ≡ false
nil_digit n rest h = let s = starts n h in ap (λ (ds : List ℕ). same_name [] (ds ++ rest)) s.is

-- a name of two bytes or more isn't one of a byte
pub and_false : (b : Bool) → (b && false) ≡ false
and_false true = refl
and_false false = refl

pub not_single : (x y : ℕ) (zs : List ℕ) (c : ℕ) → same_name (x ∷ y ∷ zs) (c ∷ []) ≡ false
not_single x y zs c = and_false (nat_eq x c)
