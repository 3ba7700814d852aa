-- What an answer says of the steps that led to it.
use Rattle.std.proofs.Common.{◌≡◌, ◌≤◌, ◌+◌, length-append, ℕ, ℤ, ◌≤ℤ◌, ◌&&◌, Bool, true, false, nat_le, List, [], ◌∷◌, ◌++◌, length, cond, Ordering, Less, Equal, Greater, ◌<ℤ◌, ◌||◌, Option, Some, None, Result, Ok, Err, refl, sym, subst, arith}
use Rattle.std.proofs.lemmas.Bool.Decides.{nat_tests}
use Rattle.std.proofs.lemmas.Int.{ints}
use Rattle.std.specs.Option.{ok_or, option_and_then}
use Rattle.std.specs.Cmp.{int_ranks}
use Rattle.std.specs.Ordering.{int_cmp, is_lt, MatchOrdering}
use Rattle.toml.specs.Data.{Data, as_integer}
use Rattle.toml_keys.specs.Fault.{◌>>=◌, in_turn}
use Rattle.toml_keys.specs.Keys.{Section, IsInRange, in_range, has_key, kind_under, number_under, counted, array_of, is_table, tables_under, optional_tables}

-- a step gave x, and the next one y
pub record BothSteps {F A B : Type 0} (r : Result A F) (f : A → Result B F) (y : B) : Type 0 where
  pub x : A
  pub first : r ≡ Ok x
  pub next : f x ≡ Ok y

pub steps_of : {F A B : Type 0} (r : Result A F) (f : A → Result B F) (y : B) → (r >>= f) ≡ Ok y → BothSteps r f y
steps_of (Ok x) f y made = record { x = x; first = refl; next = made }
steps_of (Err e) f y made = cc

-- a property that in_turn step keeps holds of all items
pub turns_keep : {F A B : Type 0} (step : List B → A → Result B F) (Q : List B → Type 0)
    → ((before : List B) (x : A) (y : B) → Q before → step before x ≡ Ok y → Q (before ++ y ∷ []))
    → (before : List B) (xs : List A) (ys : List B) → Q before → in_turn step before xs ≡ Ok ys → Q ys
unfolding in_turn
turns_keep step Q kept before [] ys q made = let same : before ≡ ys = cc in subst Q same q
turns_keep step Q kept before (x ∷ xs) ys q made =
    let s = steps_of (step before x) (λ y. in_turn step (before ++ y ∷ []) xs) ys made in
    turns_keep step Q kept (before ++ s.x ∷ []) xs ys (kept before x s.x q s.first) s.next

pub some_of : {F A : Type 0} (o : Option A) (e : F) (x : A) → ok_or o e ≡ Ok x → o ≡ Some x
some_of (Some y) e x made = cc
some_of None e x made = cc

-- a demand is met
pub record Met {A : Type 0} (b : Bool) (x y : A) : Type 0 where
  pub holds : b ≡ true
  pub same : x ≡ y

pub met_by : {F A : Type 0} (b : Bool) (x y : A) (e : F) → cond b (Ok x) (Err e) ≡ Ok y → Met b x y
met_by true x y e made = record { holds = refl; same = cc }
met_by false x y e made = cc

-- a ban isn't broken
pub record Spared {A : Type 0} (b : Bool) (x y : A) : Type 0 where
  pub fails : b ≡ false
  pub same : x ≡ y

pub spared_by : {F A : Type 0} (b : Bool) (x y : A) (e : F) → cond b (Err e) (Ok x) ≡ Ok y → Spared b x y
spared_by true x y e made = cc
spared_by false x y e made = record { fails = refl; same = cc }

-- a number that isn't below another
not_below : (x y : ℤ) (o : Ordering) → MatchOrdering o (x <ℤ y) (x ≡ y) (y <ℤ x) → is_lt o ≡ false → y ≤ℤ x
not_below x y Less below not_less = cc
not_below x y Equal same not_less = let e : x ≡ y = same in omega (arith, ints)
not_below x y Greater above not_less = let h : y <ℤ x = above in omega (arith, ints)

from_to : (low high z y : ℤ) (below above : Bool) → below ≡ is_lt (int_cmp z low) → above ≡ is_lt (int_cmp high z)
    → cond (below || above) None (Some z) ≡ Some y → IsInRange low high y
from_to low high z y true above is_below is_above made = cc
from_to low high z y false true is_below is_above made = cc
from_to low high z y false false is_below is_above made =
    let same : z ≡ y = cc in
    subst (λ (w : ℤ). IsInRange low high w) same (record {
      from = not_below z low (int_cmp z low) (int_ranks z low) (sym is_below);
      to = not_below high z (int_cmp high z) (int_ranks high z) (sym is_above);
    })

-- a number that a key gives lies where it may
pub in_range-IsInRange : (low high z y : ℤ) → in_range low high z ≡ Some y → IsInRange low high y
in_range-IsInRange low high z y made = from_to low high z y (is_lt (int_cmp z low)) (is_lt (int_cmp high z)) refl refl made

pub number_under-IsInRange : {F : Type 0} (low high : ℤ) (s : Section F) (key : List ℕ) (y : ℤ)
    → number_under low high s key ≡ Ok y → IsInRange low high y
number_under-IsInRange low high s key y made =
    let n = steps_of (kind_under as_integer s key) _ y made in
    in_range-IsInRange low high n.x y (some_of _ _ _ n.next)

-- a list that is as long as it may be
pub record IsCounted {A : Type 0} (low high : ℕ) (xs ys : List A) : Type 0 where
  pub same : xs ≡ ys
  pub some : low ≤ length ys
  pub few : length ys ≤ high

counts : {F A : Type 0} (low high : ℕ) (xs ys : List A) (e : F)
    → cond (nat_le low (length xs) && nat_le (length xs) high) (Ok xs) (Err e) ≡ Ok ys → IsCounted low high xs ys
counts low high xs ys e made =
    let m = met_by (nat_le low (length xs) && nat_le (length xs) high) xs ys e made in
    record { same = m.same; some = rw (← m.same) (grind (arith, nat_tests, m.holds)); few = rw (← m.same) (grind (arith, nat_tests, m.holds)) }

pub counted-IsCounted : {F A : Type 0} (low high : ℕ) (s : Section F) (key : List ℕ) (xs ys : List A)
    → counted low high s key xs ≡ Ok ys → IsCounted low high xs ys
counted-IsCounted low high s key xs ys made = counts low high xs ys _ made

-- the same for optional values
pub record Finds {A B : Type 0} (f : A → Option B) (o : Option A) (y : B) : Type 0 where
  pub x : A
  pub first : o ≡ Some x
  pub next : f x ≡ Some y

pub finds_of : {A B : Type 0} (f : A → Option B) (o : Option A) (y : B) → option_and_then f o ≡ Some y → Finds f o y
finds_of f (Some x) y made = record { x = x; first = refl; next = made }
finds_of f None y made = cc

-- one item for each
pub turns_length : {F A B : Type 0} (step : List B → A → Result B F) (before : List B) (xs : List A) (ys : List B)
    → in_turn step before xs ≡ Ok ys → length ys ≡ length before + length xs
unfolding in_turn
turns_length step before [] ys made = let same : before ≡ ys = cc in rw (← same) (omega arith)
turns_length step before (x ∷ xs) ys made =
    let s = steps_of (step before x) (λ y. in_turn step (before ++ y ∷ []) xs) ys made in
    let rest = turns_length step (before ++ s.x ∷ []) xs ys s.next in
    omega (arith, rest, length-append before (s.x ∷ []))

-- tables under a key are as many as they may be
pub tables_under-few : {F : Type 0} (low high : ℕ) (s : Section F) (key : List ℕ) (ds : List Data)
    → tables_under low high s key ≡ Ok ds → IsCounted low high ds ds
tables_under-few low high s key ds made =
    let t = steps_of (array_of is_table s key) (counted low high s key) ds made in
    let c = counted-IsCounted low high s key t.x ds t.next in
    record { same = refl; some = c.some; few = c.few }

either_tables : {F : Type 0} (found : Bool) (given : Result (List Data) F) (high : ℕ) (ds : List Data)
    → (given ≡ Ok ds → IsCounted 0 high ds ds) → cond found given (Ok []) ≡ Ok ds → length ds ≤ high
either_tables true given high ds counted_if made = (counted_if made).few
either_tables false given high ds counted_if made = let none : [] ≡ ds = cc in rw (← none) (omega arith)

pub optional_tables-few : {F : Type 0} (high : ℕ) (s : Section F) (key : List ℕ) (ds : List Data)
    → optional_tables high s key ≡ Ok ds → length ds ≤ high
optional_tables-few high s key ds made =
    either_tables (has_key s key) (tables_under 0 high s key) high ds (tables_under-few 0 high s key ds) made
