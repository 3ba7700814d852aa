-- Characters and what they stand for.
use Rattle.std.proofs.Common.{◌≡◌, inl, inr, ℕ, List, [], ◌∷◌, map, Bool, true, false, codes, refl, sym, ap, ◌∙◌, subst}
use Rattle.std.specs.Prelude.{◌==◌}
use Rattle.std.specs.List.{list_any, AllByRecursion}
use Rattle.std.proofs.lemmas.Bool.{and_parts, and_from, or_cases, eqb-true}
use Rattle.cell_roles.specs.Acts.{Drive, Off, Strong, Weak}
use Rattle.cell_roles.specs.RowTexts.{wanted_char, drive_char, join_char, next_char}
use Rattle.cell_roles.specs.Tables.{Wanted, Either, Only, NextBit, Keep, Become}
use Rattle.role_tables.specs.Columns.{are_of, wanted_of, drive_of, join_of, next_of}

-- what holds of each character of an alphabet holds of a character that is one of them
each_of : (P : ℕ → Type 0) (alphabet : List ℕ) (c : ℕ) → list_any (λ a. a == c) alphabet ≡ true → AllByRecursion P alphabet → P c
each_of P [] c is all = absurd (cc)
each_of P (a ∷ alphabet) c is all = elim (or_cases (a == c) (list_any (λ a. a == c) alphabet) is) [
  | inl here ↦ subst P (eqb-true a c here) all.0
  | inr later ↦ each_of P alphabet c later all.1
]

-- the characters of the alphabet stand for the things, one for one
pub record IsCode {X : Type 0} (of : ℕ → X) (char : X → ℕ) (alphabet : List ℕ) : Type 0 where
  pub back : (c : ℕ) → list_any (λ a. a == c) alphabet ≡ true → char (of c) ≡ c
  pub forth : (x : X) → of (char x) ≡ x
  pub allowed : (x : X) → list_any (λ a. a == char x) alphabet ≡ true

wanted_forth : (w : Wanted) → wanted_of (wanted_char w) ≡ w
wanted_forth Either = refl
wanted_forth (Only false) = refl
wanted_forth (Only true) = refl

wanted_allowed : (w : Wanted) → list_any (λ a. a == wanted_char w) (codes "01x") ≡ true
wanted_allowed Either = refl
wanted_allowed (Only false) = refl
wanted_allowed (Only true) = refl

pub wanted_code : IsCode wanted_of wanted_char (codes "01x")
wanted_code = record {
  back = λ c is. each_of (λ c. wanted_char (wanted_of c) ≡ c) (codes "01x") c is (refl, (refl, (refl, tt)));
  forth = wanted_forth;
  allowed = wanted_allowed;
}

drive_forth : (d : Drive) → drive_of (drive_char d) ≡ d
drive_forth Off = refl
drive_forth (Strong false) = refl
drive_forth (Strong true) = refl
drive_forth (Weak false) = refl
drive_forth (Weak true) = refl

drive_allowed : (d : Drive) → list_any (λ a. a == drive_char d) (codes "01lhz") ≡ true
drive_allowed Off = refl
drive_allowed (Strong false) = refl
drive_allowed (Strong true) = refl
drive_allowed (Weak false) = refl
drive_allowed (Weak true) = refl

pub drive_code : IsCode drive_of drive_char (codes "01lhz")
drive_code = record {
  back = λ c is. each_of (λ c. drive_char (drive_of c) ≡ c) (codes "01lhz") c is (refl, (refl, (refl, (refl, (refl, tt)))));
  forth = drive_forth;
  allowed = drive_allowed;
}

join_forth : (j : Bool) → join_of (join_char j) ≡ j
join_forth false = refl
join_forth true = refl

join_allowed : (j : Bool) → list_any (λ a. a == join_char j) (codes "j-") ≡ true
join_allowed false = refl
join_allowed true = refl

pub join_code : IsCode join_of join_char (codes "j-")
join_code = record {
  back = λ c is. each_of (λ c. join_char (join_of c) ≡ c) (codes "j-") c is (refl, (refl, tt));
  forth = join_forth;
  allowed = join_allowed;
}

next_forth : (n : NextBit) → next_of (next_char n) ≡ n
next_forth Keep = refl
next_forth (Become false) = refl
next_forth (Become true) = refl

next_allowed : (n : NextBit) → list_any (λ a. a == next_char n) (codes "01=") ≡ true
next_allowed Keep = refl
next_allowed (Become false) = refl
next_allowed (Become true) = refl

pub next_code : IsCode next_of next_char (codes "01=")
next_code = record {
  back = λ c is. each_of (λ c. next_char (next_of c) ≡ c) (codes "01=") c is (refl, (refl, (refl, tt)));
  forth = next_forth;
  allowed = next_allowed;
}

-- a column written in the alphabet is that of what it stands for
pub column_back : {X : Type 0} (of : ℕ → X) (char : X → ℕ) (alphabet : List ℕ) → IsCode of char alphabet → (cs : List ℕ) → are_of alphabet cs ≡ true → map char (map of cs) ≡ cs
column_back of char alphabet code [] are = refl
column_back of char alphabet code (c ∷ cs) are =
    let parts = and_parts (list_any (λ a. a == c) alphabet) (are_of alphabet cs) are in
    let first = code.back c parts.0 in
    let others = column_back of char alphabet code cs parts.1 in
    λ i. first i ∷ others i

pub column_forth : {X : Type 0} (of : ℕ → X) (char : X → ℕ) (alphabet : List ℕ) → IsCode of char alphabet → (xs : List X) → map of (map char xs) ≡ xs
column_forth of char alphabet code [] = refl
column_forth of char alphabet code (x ∷ xs) =
    let first = code.forth x in
    let others = column_forth of char alphabet code xs in
    λ i. first i ∷ others i

pub column_allowed : {X : Type 0} (of : ℕ → X) (char : X → ℕ) (alphabet : List ℕ) → IsCode of char alphabet → (xs : List X) → are_of alphabet (map char xs) ≡ true
column_allowed of char alphabet code [] = refl
column_allowed of char alphabet code (x ∷ xs) =
    and_from (list_any (λ a. a == char x) alphabet) (are_of alphabet (map char xs)) (code.allowed x) (column_allowed of char alphabet code xs)

-- columns that stand for the same are the same
pub same_column : {X : Type 0} (of : ℕ → X) (char : X → ℕ) (alphabet : List ℕ) → IsCode of char alphabet → (ks ls : List ℕ) → are_of alphabet ks ≡ true → are_of alphabet ls ≡ true → map of ks ≡ map of ls → ks ≡ ls
same_column of char alphabet code ks ls of_as of_bs same =
    sym (column_back of char alphabet code ks of_as) ∙ ap (map char) same ∙ column_back of char alphabet code ls of_bs
