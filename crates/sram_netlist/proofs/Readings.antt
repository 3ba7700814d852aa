-- What is read of a text with decimals in it.
use Rattle.std.proofs.Common.{◌≡◌, ℕ, ◌+◌, ◌*◌, ◌-◌, ◌/◌, ◌%◌, ◌<◌, ◌^◌, Bool, true, cond, List, [], ◌∷◌, ◌++◌, Option, Some, None, refl, ap, ◌∙◌, append_assoc, arith}
use Rattle.std.specs.Fmt.{decimal}
use Rattle.std.proofs.lemmas.Fmt.{decimal_by_steps}
use Rattle.std.proofs.lemmas.Bool.{le-leb}
use Rattle.sram_netlist.proofs.NamesTell.{is_digit, letters, runs, sum_of, ended}

digit_is : (n : ℕ) → n < 10 → is_digit (48 + n) ≡ true
digit_is n h = let a = le-leb 48 (48 + n) (omega arith) in let b = le-leb (48 + n) 57 (omega arith) in rw (a, b) refl

digit_letters : (n : ℕ) (rest : List ℕ) → n < 10 → letters ((48 + n) ∷ rest) ≡ letters rest
digit_letters n rest h = ap (λ (t : Bool). cond t (letters rest) ((48 + n) ∷ letters rest)) (digit_is n h)

digit_runs : (o : Option ℕ) (n m : ℕ) (rest : List ℕ) → n < 10 → 10 * sum_of o + n ≡ m → runs o ((48 + n) ∷ rest) ≡ runs (Some m) rest
digit_runs o n m rest h e =
    let f : 10 * sum_of o + (48 + n - 48) ≡ m = omega arith in
    ap (λ (t : Bool). cond t (runs (Some (10 * sum_of o + (48 + n - 48))) rest) (ended o (runs None rest))) (digit_is n h) ∙ ap (λ (k : ℕ). runs (Some k) rest) f

pub letters_skip : (n : ℕ) → n < 2 ^ 64 → (rest : List ℕ) → letters (decimal n ++ rest) ≡ letters rest
letters_skip n h = decimal_by_steps (λ n ds. (rest : List ℕ) → letters (ds ++ rest) ≡ letters rest) (λ n small rest. digit_letters n rest small)
    (λ n ds big more rest. ap letters (append_assoc ds ((48 + n % 10) ∷ []) rest) ∙ more ((48 + n % 10) ∷ rest) ∙ digit_letters (n % 10) rest (omega arith)) n h

pub runs_read : (n : ℕ) → n < 2 ^ 64 → (rest : List ℕ) → runs None (decimal n ++ rest) ≡ runs (Some n) rest
runs_read n h = decimal_by_steps (λ n ds. (rest : List ℕ) → runs None (ds ++ rest) ≡ runs (Some n) rest) (λ n small rest. digit_runs None n n rest small (omega arith))
    (λ n ds big more rest. ap (runs None) (append_assoc ds ((48 + n % 10) ∷ []) rest) ∙ more ((48 + n % 10) ∷ rest) ∙ digit_runs (Some (n / 10)) (n % 10) n rest (omega arith) (omega arith)) n h
