-- The least number that a rising list lacks.
use Rattle.std.proofs.Common.{◌≡◌, ◌≢◌, ◌⊎◌, inl, inr, ℕ, ◌+◌, ◌<◌, ◌≤◌, List, [], ◌∷◌, sym, subst, arith}
use Rattle.std.specs.Prelude.{Contains}
use Rattle.std.specs.List.{AllByRecursion}
use Rattle.std.specs.List.Sorted.{IsStrictlySortedBy}
use Rattle.std.specs.Ordering.{nat_cmp}
use Rattle.std.specs.declared.cmp.Ordering.TheVariants.{Less}
use Rattle.std.proofs.lemmas.Bool.{cases_lt}
use Rattle.std.proofs.lemmas.Bool.Decides.{nat_tests}
use Rattle.or_geom.proofs.ListLaws.{contains_none, contains_cases, contains_first, contains_later, all_contained}

-- All numbers below this one are listed; those that aren't below it stand in the rest of the list.
pub record IsSearched (numbers rest : List ℕ) (least : ℕ) : Type 0 where
  pub below : (n : ℕ) → n < least → Contains numbers n
  pub split : (n : ℕ) → Contains numbers n → (n < least) ⊎ Contains rest n
  pub part : (n : ℕ) → Contains rest n → Contains numbers n
  pub rises : IsStrictlySortedBy nat_cmp rest
  pub above : AllByRecursion (λ n. least ≤ n) rest

less_of : (a b : ℕ) → nat_cmp a b ≡ Less → a < b
less_of a b e = grind (arith, nat_tests)

raised : (least : ℕ) (ns : List ℕ) → AllByRecursion (λ n. nat_cmp least n ≡ Less) ns → AllByRecursion (λ n. least + 1 ≤ n) ns
raised least [] all = tt
raised least (n ∷ ns) all = let lt = less_of least n all.0 in (omega (arith, lt), raised least ns all.1)

all_above : (ns : List ℕ) → AllByRecursion (λ n. 0 ≤ n) ns
all_above [] = tt
all_above (n ∷ ns) = (omega arith, all_above ns)

pub search_begins : (numbers : List ℕ) → IsStrictlySortedBy nat_cmp numbers → IsSearched numbers numbers 0
search_begins numbers rises = record {
  below = λ n lt. absurd (omega (arith, lt));
  split = λ n listed. inr listed;
  part = λ n listed. listed;
  rises = rises;
  above = all_above numbers;
}

search_on : (numbers others : List ℕ) (first least : ℕ) → first ≡ least → IsSearched numbers (first ∷ others) least → IsSearched numbers others (least + 1)
unfolding IsStrictlySortedBy
search_on numbers others first least same p = record {
  below = λ n lt. elim (cases_lt n least) [ inl less ↦ p.below n less | inr ge ↦ let e : n ≡ first = omega (arith, lt, ge, same) in subst (Contains numbers) (sym e) (p.part first (contains_first first others)) ];
  split = λ n listed. elim (p.split n listed) [
    | inl less ↦ inl (omega (arith, less))
    | inr more ↦ elim (contains_cases first others n more) [ inl here ↦ inl (omega (arith, here, same)) | inr later ↦ inr later ]
  ];
  part = λ n listed. p.part n (contains_later first others n listed);
  rises = p.rises.1;
  above = raised least others (subst (λ (m : ℕ). AllByRecursion (λ n. nat_cmp m n ≡ Less) others) same p.rises.0);
}

pub search_goes_on : (numbers rest others : List ℕ) (first least : ℕ) → rest ≡ first ∷ others → first ≡ least → IsSearched numbers rest least → IsSearched numbers others (least + 1)
search_goes_on numbers rest others first least is same p = search_on numbers others first least same (subst (λ (l : List ℕ). IsSearched numbers l least) is p)

free_before : (numbers others : List ℕ) (first least : ℕ) → first ≢ least → IsSearched numbers (first ∷ others) least → Contains numbers least → ⊥
unfolding IsStrictlySortedBy
free_before numbers others first least differs p listed = elim (p.split least listed) [
  | inl less ↦ absurd (omega (arith, less))
  | inr more ↦ elim (contains_cases first others least more) [
    | inl here ↦ differs (sym here)
    | inr later ↦
        let lt = less_of first least (all_contained (λ n. nat_cmp first n ≡ Less) others least p.rises.0 later) in
        let le = p.above.0 in
        absurd (omega (arith, lt, le))
  ]
]

pub free_here : (numbers rest others : List ℕ) (first least : ℕ) → rest ≡ first ∷ others → first ≢ least → IsSearched numbers rest least → Contains numbers least → ⊥
free_here numbers rest others first least is differs p = free_before numbers others first least differs (subst (λ (l : List ℕ). IsSearched numbers l least) is p)

pub free_behind : (numbers rest : List ℕ) (least : ℕ) → rest ≡ [] → IsSearched numbers rest least → Contains numbers least → ⊥
free_behind numbers rest least is p listed = elim (p.split least listed) [
  | inl less ↦ absurd (omega (arith, less))
  | inr more ↦ contains_none least (subst (λ (l : List ℕ). Contains l least) is more)
]
