-- Digits that write a number.
use Rattle.std.proofs.Common.{◌≡◌, ◌≢◌, ◌⊎◌, ℕ, suc, zero, ◌+◌, ◌-◌, ◌*◌, ◌/◌, ◌%◌, ◌^◌, ◌<◌, ◌≤◌, List, [], ◌∷◌, ◌++◌, length, take, drop, Option, None, Some, refl, sym, ap, subst, inl, inr, ◌∙◌, arith}
use Rattle.std.specs.List.{AllByRecursion}
use Rattle.std.specs.Option.{MatchOption, IfSome}
use Rattle.std.proofs.lemmas.List.{take-append-drop, length-take-le, take_at, append_assoc, length-append, append-nil}
use Rattle.std.proofs.Math.Nat.{div-lt_iff_lt-mul, pow-suc}
use Rattle.kit_check.specs.Digits.{IsDigit, number_after, AreDigitsAfter, IsNumberedName, IsNumberIn, AddsDigits}

grows : (ds : List ℕ) (before : ℕ) → before ≤ number_after before ds
grows [] before = omega arith
grows (d ∷ ds) before = let h : before * 10 + (d - 48) ≤ number_after (before * 10 + (d - 48)) ds = grows ds (before * 10 + (d - 48)) in omega (arith, h)

pub write_cons : (before d : ℕ) (ds : List ℕ) (m n : ℕ) → AreDigitsAfter before (d ∷ []) m → AreDigitsAfter m ds n → AreDigitsAfter before (d ∷ ds) n
write_cons before d ds m n p q = record { digits_are = (p.digits_are.0, q.digits_are); is = subst (λ (k : ℕ). number_after k ds ≡ n) (sym p.is) q.is }

pub no_head : (before d : ℕ) (ds : List ℕ) (n : ℕ) → ((m : ℕ) → m < 2 ^ 64 → AreDigitsAfter before (d ∷ []) m → ⊥) → n < 2 ^ 64 → AreDigitsAfter before (d ∷ ds) n → ⊥
no_head before d ds n none small w =
    let h : before * 10 + (d - 48) ≤ number_after (before * 10 + (d - 48)) ds = grows ds (before * 10 + (d - 48)) in
    let e : number_after (before * 10 + (d - 48)) ds ≡ n = w.is in
    none (before * 10 + (d - 48)) (omega arith) (record { digits_are = (w.digits_are.0, tt); is = refl })

pub no_rest : (before d : ℕ) (ds : List ℕ) (m n : ℕ) → AreDigitsAfter before (d ∷ []) m → ((k : ℕ) → k < 2 ^ 64 → AreDigitsAfter m ds k → ⊥) → n < 2 ^ 64 → AreDigitsAfter before (d ∷ ds) n → ⊥
no_rest before d ds m n p none small w = none n small (record { digits_are = w.digits_are.1; is = subst (λ (k : ℕ). number_after k ds ≡ n) p.is w.is })

-- the number in a text

same_rest : (x y : ℕ) (xs ys : List ℕ) → x ∷ xs ≡ y ∷ ys → xs ≡ ys
same_rest x y xs ys e = cc

same_first : (x y : ℕ) (xs ys : List ℕ) → x ∷ xs ≡ y ∷ ys → x ≡ y
same_first x y xs ys e = cc

pub no_number_in : (text : List ℕ) (n : ℕ) → text ≡ [] → IsNumberIn text n → ⊥
no_number_in text n none p = let e : ◌≡◌ {A = List ℕ} [] (p.begins.first ∷ (p.begins.digits ++ p.begins.rest)) = sym none ∙ p.begins.is in cc

pub number_found : (text : List ℕ) (first : ℕ) (others : List ℕ) (n : ℕ) → text ≡ first ∷ others → (first ≡ 119) ⊎ (first ≡ 87) → 23 ≤ length others → n < 2 ^ 64 → AreDigitsAfter 0 (take 23 others) n → IsNumberIn text n
number_found text first others n e w long small write = record {
  small = small;
  begins = record {
    first = first;
    digits = take 23 others;
    rest = drop 23 others;
    is = e ∙ ap (λ (l : List ℕ). first ∷ l) (sym (take-append-drop 23 others));
    w = w;
    are = record { sized = length-take-le 23 others long; write = write };
  };
}

pub not_w : (text : List ℕ) (first : ℕ) (others : List ℕ) (n : ℕ) → text ≡ first ∷ others → first ≢ 119 → first ≢ 87 → IsNumberIn text n → ⊥
not_w text first others n e a b p =
    let same = same_first first p.begins.first others (p.begins.digits ++ p.begins.rest) (sym e ∙ p.begins.is) in
    elim p.begins.w [ inl h ↦ a (same ∙ h) | inr h ↦ b (same ∙ h) ]

rest_is : (text : List ℕ) (first : ℕ) (others : List ℕ) (n : ℕ) → text ≡ first ∷ others → (p : IsNumberIn text n) → others ≡ p.begins.digits ++ p.begins.rest
rest_is text first others n e p = same_rest first p.begins.first others (p.begins.digits ++ p.begins.rest) (sym e ∙ p.begins.is)

pub too_short : (text : List ℕ) (first : ℕ) (others : List ℕ) (n : ℕ) → text ≡ first ∷ others → length others < 23 → IsNumberIn text n → ⊥
too_short text first others n e short p =
    let h = ap (λ (l : List ℕ). length l) (rest_is text first others n e p) in
    let k = length-append p.begins.digits p.begins.rest in
    let s = p.begins.are.sized in
    absurd (omega arith)

pub no_digits : (text : List ℕ) (first : ℕ) (others : List ℕ) (n : ℕ) → text ≡ first ∷ others → ((k : ℕ) → k < 2 ^ 64 → AreDigitsAfter 0 (take 23 others) k → ⊥) → IsNumberIn text n → ⊥
no_digits text first others n e none p =
    let same : take 23 others ≡ p.begins.digits = ap (λ (l : List ℕ). take 23 l) (rest_is text first others n e p) ∙ take_at p.begins.digits p.begins.rest 23 p.begins.are.sized in
    none n p.small (subst (λ (l : List ℕ). AreDigitsAfter 0 l n) (sym same) p.begins.are.write)

pub number_in_text : (text : List ℕ) (first : ℕ) (others : List ℕ) (found : Option ℕ) → text ≡ first ∷ others → (first ≡ 119) ⊎ (first ≡ 87) → 23 ≤ length others → IfSome found (λ n. n < 2 ^ 64)
    → MatchOption found ((n : ℕ) → n < 2 ^ 64 → AreDigitsAfter 0 (take 23 others) n → ⊥) (AreDigitsAfter 0 (take 23 others)) → MatchOption found ((n : ℕ) → IsNumberIn text n → ⊥) (IsNumberIn text)
number_in_text text first others None e w long small found = λ n. no_digits text first others n e found
number_in_text text first others (Some n) e w long small found = number_found text first others n e w long small found

-- digits added one by one

after_push : (ds : List ℕ) (before d : ℕ) → number_after before (ds ++ d ∷ []) ≡ number_after before ds * 10 + (d - 48)
after_push [] before d = refl
after_push (x ∷ ds) before d = after_push ds (before * 10 + (x - 48)) d

all_push : (ds : List ℕ) (d : ℕ) → AllByRecursion IsDigit ds → IsDigit d → AllByRecursion IsDigit (ds ++ d ∷ [])
all_push [] d all is = (is, tt)
all_push (x ∷ ds) d all is = (all.0, all_push ds d all.1 is)

pub adds_no_digits : (count number : ℕ) (old new : List ℕ) → count ≡ 0 → number < 10 ^ count → new ≡ old → AddsDigits count number old new
adds_no_digits count number old new none small same =
    let h : number < 10 ^ 0 = subst (λ (c : ℕ). number < 10 ^ c) none small in
    let zero_is : 0 ≡ number = omega arith in
    record { digits = []; is = same ∙ sym (append-nil old); sized = sym none; write = record { digits_are = tt; is = zero_is } }

pub adds_digit : (count number d : ℕ) (old mid new : List ℕ) → 0 < count → d ≡ 48 + number % 10 → new ≡ mid ++ d ∷ [] → AddsDigits (count - 1) (number / 10) old mid → AddsDigits count number old new
adds_digit count number d old mid new some is more p =
    let push = length-append p.digits (d ∷ []) in
    let s = p.sized in
    let one : length (d ∷ []) ≡ 1 = refl in
    let r : number_after 0 p.digits ≡ number / 10 = p.write.is in
    let whole : number_after 0 p.digits * 10 + (d - 48) ≡ number = omega arith in
    record {
      digits = p.digits ++ d ∷ [];
      is = more ∙ (ap (λ (l : List ℕ). l ++ d ∷ []) p.is ∙ append_assoc old p.digits (d ∷ []));
      sized = omega arith;
      write = record {
        digits_are = all_push p.digits d p.write.digits_are (record { low = omega arith; high = omega arith });
        is = after_push p.digits 0 d ∙ whole;
      };
    }

pub tenth_is_small : (count number : ℕ) → 0 < count → number < 10 ^ count → number / 10 < 10 ^ (count - 1)
tenth_is_small zero number some small = absurd (omega arith)
tenth_is_small (suc count) number some small =
    let e : suc count - 1 ≡ count = omega arith in
    let h : number < 10 ^ count * 10 = subst (λ (k : ℕ). number < k) (pow-suc 10 count) small in
    subst (λ (c : ℕ). number / 10 < 10 ^ c) (sym e) ((div-lt_iff_lt-mul {k = 10} {x = number} {y = 10 ^ count} (omega arith)).1 h)

pub numbered : (number : ℕ) (name : List ℕ) → AddsDigits 23 number (119 ∷ []) name → IsNumberedName number name
numbered number name p = record { digits = p.digits; are = record { sized = p.sized; write = p.write }; is = p.is }

-- digits of one number are equal where they are as many

one_writing : (ds es : List ℕ) (a b : ℕ) → length ds ≡ length es → AllByRecursion IsDigit ds → AllByRecursion IsDigit es → number_after a ds ≡ number_after b es → (a ≡ b) × (ds ≡ es)
one_writing [] [] a b sized p q same = (same, refl)
one_writing [] (e ∷ es) a b sized p q same = absurd (omega arith)
one_writing (d ∷ ds) [] a b sized p q same = absurd (omega arith)
one_writing (d ∷ ds) (e ∷ es) a b sized p q same =
    let h : (a * 10 + (d - 48) ≡ b * 10 + (e - 48)) × (ds ≡ es) = one_writing ds es (a * 10 + (d - 48)) (b * 10 + (e - 48)) (omega arith) p.1 q.1 same in
    let l = p.0 in
    let m = q.0 in
    let first : d ≡ e = omega (arith, h.0, l.low, l.high, m.low, m.high) in
    let before : a ≡ b = omega (arith, h.0, l.low, l.high, m.low, m.high) in
    (before, λ i. first i ∷ h.1 i)

pub one_numbered : (number : ℕ) (a b : List ℕ) → IsNumberedName number a → IsNumberedName number b → a ≡ b
one_numbered number a b p q =
    let same = (one_writing p.digits q.digits 0 0 (p.are.sized ∙ sym q.are.sized) p.are.write.digits_are q.are.write.digits_are (p.are.write.is ∙ sym q.are.write.is)).1 in
    p.is ∙ (ap (λ (l : List ℕ). 119 ∷ l) same ∙ sym q.is)
