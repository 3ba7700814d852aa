-- Columns of characters against values, one character after another.
use Rattle.std.proofs.Common.{◌≡◌, ◌≢◌, inl, inr, ℕ, List, [], ◌∷◌, length, map, Bool, true, false, not, ◌&&◌, ◌||◌, refl, sym, ap, ◌∙◌, arith}
use Rattle.std.specs.Prelude.{◌==◌, ◌↔◌, IsTrue, if◌then◌else◌}
use Rattle.std.specs.Bool.{beq}
use Rattle.std.specs.Cmp.{booleans_Decides}
use Rattle.std.specs.List.{list_all, zip}
use Rattle.std.proofs.lemmas.Bool.{and_parts, and_from, and_right, or_cases}
use Rattle.std.proofs.lemmas.List.{length-map}
use Rattle.cell_roles.specs.Tables.{Wanted, Either, Only, NextBit, Keep, Become, fits, next_bits}
use Rattle.role_tables.specs.Columns.{wanted_of, next_of, allows, allow_one, next_bit, FitOne}

fits_by : (zero one v : Bool) (ws : List Wanted) (vs : List Bool) → fits ((if zero then Only false else if one then Only true else Either) ∷ ws) (v ∷ vs) ≡ ((if zero then not v else if one then v else true) && fits ws vs)
fits_by true one v ws vs = refl
fits_by false true true ws vs = refl
fits_by false true false ws vs = refl
fits_by false false v ws vs = refl

-- the first value fits the first character, and the others the others
pub fits_first : (c : ℕ) (v : Bool) (ws : List Wanted) (vs : List Bool) → fits (wanted_of c ∷ ws) (v ∷ vs) ≡ (allows c v && fits ws vs)
fits_first c v ws vs = fits_by (c == 48) (c == 49) v ws vs

pub fits_none : (w : Wanted) (ws : List Wanted) → fits (w ∷ ws) [] ≡ false
fits_none Either ws = refl
fits_none (Only a) ws = refl

pub fits_all : (cs : List ℕ) (vs : List Bool) → length cs ≡ length vs → fits (map wanted_of cs) vs ≡ list_all (λ p. allows p.0 p.1) (zip cs vs)
fits_all [] [] long = refl
fits_all [] (v ∷ vs) long = absurd (omega arith)
fits_all (c ∷ cs) [] long = absurd (omega arith)
fits_all (c ∷ cs) (v ∷ vs) long = fits_first c v (map wanted_of cs) vs ∙ ap (λ x. allows c v && x) (fits_all cs vs (omega arith))

pub fits_not : (cs : List ℕ) (vs : List Bool) → length cs ≢ length vs → fits (map wanted_of cs) vs ≡ false
fits_not [] [] off = absurd (off refl)
fits_not [] (v ∷ vs) off = refl
fits_not (c ∷ cs) [] off = fits_none (wanted_of c) (map wanted_of cs)
fits_not (c ∷ cs) (v ∷ vs) off =
    fits_first c v (map wanted_of cs) vs ∙ and_right (allows c v) (fits (map wanted_of cs) vs) (fits_not cs vs (λ e. off (omega arith)))

-- values that fit a column are as many as its characters
pub fits_long : (ws : List Wanted) (vs : List Bool) → IsTrue (fits ws vs) → length ws ≡ length vs
fits_long [] [] is = refl
fits_long [] (v ∷ vs) is = absurd (cc)
fits_long (Either ∷ ws) [] is = absurd (cc)
fits_long (Only a ∷ ws) [] is = absurd (cc)
fits_long (Either ∷ ws) (v ∷ vs) is = let more = fits_long ws vs is in omega arith
fits_long (Only true ∷ ws) (true ∷ vs) is = let more = fits_long ws vs is in omega arith
fits_long (Only false ∷ ws) (false ∷ vs) is = let more = fits_long ws vs is in omega arith
fits_long (Only true ∷ ws) (false ∷ vs) is = absurd (cc)
fits_long (Only false ∷ ws) (true ∷ vs) is = absurd (cc)

or_first : (x y : Bool) → x ≡ true → (x || y) ≡ true
or_first true y is = refl
or_first false y is = absurd (cc)

or_second : (x y : Bool) → y ≡ true → (x || y) ≡ true
or_second true y is = refl
or_second false y is = is

allowed_one : (a b : ℕ) (v : Bool) → allows a v ≡ true → allows b v ≡ true → allow_one a b ≡ true
allowed_one a b false by_a by_b = or_first (allows a false && allows b false) (allows a true && allows b true) (and_from (allows a false) (allows b false) by_a by_b)
allowed_one a b true by_a by_b = or_second (allows a false && allows b false) (allows a true && allows b true) (and_from (allows a true) (allows b true) by_a by_b)

-- values that fit both columns are ones that the characters of both allow
pub all_allow_one : (ks ls : List ℕ) (vs : List Bool) → IsTrue (fits (map wanted_of ks) vs) → IsTrue (fits (map wanted_of ls) vs) → list_all (λ p. allow_one p.0 p.1) (zip ks ls) ≡ true
all_allow_one [] ls vs by_a by_b = refl
all_allow_one (a ∷ ks) [] vs by_a by_b = refl
all_allow_one (a ∷ ks) (b ∷ ls) [] by_a by_b = let none = fits_none (wanted_of a) (map wanted_of ks) in absurd (cc)
all_allow_one (a ∷ ks) (b ∷ ls) (v ∷ vs) by_a by_b =
    let of_a = and_parts (allows a v) (fits (map wanted_of ks) vs) (sym (fits_first a v (map wanted_of ks) vs) ∙ by_a) in
    let of_b = and_parts (allows b v) (fits (map wanted_of ls) vs) (sym (fits_first b v (map wanted_of ls) vs) ∙ by_b) in
    and_from (allow_one a b) (list_all (λ p. allow_one p.0 p.1) (zip ks ls)) (allowed_one a b v of_a.0 of_b.0) (all_allow_one ks ls vs of_a.1 of_b.1)

one_more : (a b : ℕ) (ks ls : List ℕ) (v : Bool) → (allows a v && allows b v) ≡ true → FitOne (map wanted_of ks) (map wanted_of ls) → FitOne (map wanted_of (a ∷ ks)) (map wanted_of (b ∷ ls))
one_more a b ks ls v both rest =
    let each = and_parts (allows a v) (allows b v) both in
    record {
      values = v ∷ rest.values;
      first = fits_first a v (map wanted_of ks) rest.values ∙ and_from (allows a v) (fits (map wanted_of ks) rest.values) each.0 rest.first;
      second = fits_first b v (map wanted_of ls) rest.values ∙ and_from (allows b v) (fits (map wanted_of ls) rest.values) each.1 rest.second;
    }

-- and such values there are where each two characters allow one
pub fit_one_from_all : (ks ls : List ℕ) → length ks ≡ length ls → list_all (λ p. allow_one p.0 p.1) (zip ks ls) ≡ true → FitOne (map wanted_of ks) (map wanted_of ls)
fit_one_from_all [] [] long all = record { values = []; first = refl; second = refl }
fit_one_from_all [] (b ∷ ls) long all = absurd (omega arith)
fit_one_from_all (a ∷ ks) [] long all = absurd (omega arith)
fit_one_from_all (a ∷ ks) (b ∷ ls) long all =
    let parts = and_parts (allow_one a b) (list_all (λ p. allow_one p.0 p.1) (zip ks ls)) all in
    let rest = fit_one_from_all ks ls (omega arith) parts.1 in
    elim (or_cases (allows a false && allows b false) (allows a true && allows b true) parts.0) [
      | inl both ↦ one_more a b ks ls false both rest
      | inr both ↦ one_more a b ks ls true both rest
    ]

next_by : (zero one bit : Bool) (ns : List NextBit) (st : List Bool) → next_bits ((if zero then Become false else if one then Become true else Keep) ∷ ns) (bit ∷ st) ≡ (if zero then false else if one then true else bit) ∷ next_bits ns st
next_by true one bit ns st = refl
next_by false true bit ns st = refl
next_by false false bit ns st = refl

next_first : (c : ℕ) (bit : Bool) (ns : List NextBit) (st : List Bool) → next_bits (next_of c ∷ ns) (bit ∷ st) ≡ next_bit c bit ∷ next_bits ns st
next_first c bit ns st = next_by (c == 48) (c == 49) bit ns st

abbrev same_at : (ℕ × ℕ) × Bool → Bool
same_at p = beq (next_bit p.0.0 p.1) (next_bit p.0.1 p.1)

-- stored bits become the same by both columns where they do so by each two characters
pub next_same : (ks ls : List ℕ) (st : List Bool) → length ks ≡ length st → length ls ≡ length st → (list_all (λ p. beq (next_bit p.0.0 p.1) (next_bit p.0.1 p.1)) (zip (zip ks ls) st) ≡ true) ↔ (next_bits (map next_of ks) st ≡ next_bits (map next_of ls) st)
next_same [] [] [] by_a by_b = ((λ all. refl), (λ same. refl))
next_same [] ls (s ∷ st) by_a by_b = absurd (omega arith)
next_same (a ∷ ks) ls [] by_a by_b = absurd (omega arith)
next_same [] (b ∷ ls) [] by_a by_b = absurd (omega arith)
next_same (a ∷ ks) [] (s ∷ st) by_a by_b = absurd (omega arith)
next_same (a ∷ ks) (b ∷ ls) (s ∷ st) by_a by_b =
    let more = next_same ks ls st (omega arith) (omega arith) in
    let decides = booleans_Decides (next_bit a s) (next_bit b s) in
    let by_first = next_first a s (map next_of ks) st in
    let by_second = next_first b s (map next_of ls) st in
    let others = list_all same_at (zip (zip ks ls) st) in (
      (λ all.
          let parts = and_parts (beq (next_bit a s) (next_bit b s)) others all in
          let heads = decides.0 parts.0 in
          let tails = more.0 parts.1 in
          by_first ∙ (λ i. heads i ∷ tails i) ∙ sym by_second),
      (λ same.
          let whole = sym by_first ∙ same ∙ by_second in
          let heads : next_bit a s ≡ next_bit b s = cc in
          let tails : next_bits (map next_of ks) st ≡ next_bits (map next_of ls) st = cc in
          and_from (beq (next_bit a s) (next_bit b s)) others (decides.1 heads) (more.1 tails)),
    )

-- columns that some values fit are of one length
pub fit_one_long : (ks ls : List ℕ) → FitOne (map wanted_of ks) (map wanted_of ls) → length ks ≡ length ls
fit_one_long ks ls fit =
    sym (length-map ks wanted_of) ∙ fits_long (map wanted_of ks) fit.values fit.first
    ∙ sym (fits_long (map wanted_of ls) fit.values fit.second) ∙ length-map ls wanted_of
