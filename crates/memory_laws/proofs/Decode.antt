-- The row's lines are all on exactly where its number is the address.
use Rattle.std.proofs.Common.{◌≡◌, ℕ, zero, suc, ◌+◌, ◌*◌, ◌/◌, ◌%◌, ◌^◌, ◌<◌, Bool, true, false, cond, ◌&&◌, not, List, [], ◌∷◌, refl, sym, ap, ◌∙◌, arith, eqb, eqb-true, eq-eqb}
use Rattle.std.proofs.lemmas.Nat.{div-mul-add, mod-mul-add}
use Rattle.std.proofs.Math.Nat.{pow-suc}
use Rattle.memory_laws.specs.Laws.{AddressesSplit}
use Rattle.sram_netlist.specs.Netlist.{lowest_bit, low_bits, high_bits}
use Rattle.sram_netlist.specs.Organization.{total_bits, power_of_two}
use Rattle.memory_laws.specs.Run.{bit_of}
use Rattle.memory_laws.proofs.Values.{gate1, index, picked, all_picked, all_lines}

odd_double : (x : ℕ) → (lowest_bit (2 * x) ≡ false) × (lowest_bit (1 + 2 * x) ≡ true)
odd_double zero = (refl, refl)
odd_double (suc x) =
    let h = odd_double x in
    let a : 2 * suc x ≡ suc (suc (2 * x)) = omega arith in
    let b : 1 + 2 * suc x ≡ suc (suc (1 + 2 * x)) = omega arith in
    (ap lowest_bit a ∙ h.0, ap lowest_bit b ∙ h.1)

-- the odd bit and the half make the number
pub whole : (x : ℕ) → cond (lowest_bit x) 1 0 + 2 * (x / 2) ≡ x
whole zero = refl
whole (suc zero) = refl
whole (suc (suc x)) =
    let h = whole x in
    let a : suc (suc x) / 2 ≡ suc (x / 2) = omega arith in
    rw a (omega arith)

pub built_odd : (t : Bool) (x : ℕ) → lowest_bit (cond t 1 0 + 2 * x) ≡ t
built_odd true x = (odd_double x).1
built_odd false x = let a : 0 + 2 * x ≡ 2 * x = omega arith in ap lowest_bit a ∙ (odd_double x).0

pub built_half : (t : Bool) (x : ℕ) → (cond t 1 0 + 2 * x) / 2 ≡ x
built_half true x = omega arith
built_half false x = omega arith

-- only the lowest bits count
picked_low : (a : ℕ → Bool) (o b r : ℕ) → all_picked a o b (low_bits b r) ≡ all_picked a o b r
picked_low a o zero r = refl
picked_low a o (suc b) r =
    let head = built_odd (lowest_bit r) (low_bits b (r / 2)) in
    let half = built_half (lowest_bit r) (low_bits b (r / 2)) in
    let tail = picked_low a (suc o) b (r / 2) in
    rw (head, half, tail) refl

and_join : (x y z : Bool) → (x && (y && z)) ≡ ((x && y) && z)
and_join true y z = refl
and_join false y z = refl

picked_split : (a : ℕ → Bool) (o b m r : ℕ) → all_picked a o (b + m) r ≡ (all_picked a o b r && all_picked a (o + b) m (high_bits b r))
picked_split a o zero m r =
    let e : 0 + m ≡ m = omega arith in
    let f : o + 0 ≡ o = omega arith in
    rw (e, f) refl
picked_split a o (suc b) m r =
    let e : suc b + m ≡ suc (b + m) = omega arith in
    let f : o + suc b ≡ suc o + b = omega arith in
    let h = picked_split a (suc o) b m (r / 2) in
    rw (e, f, h) (and_join (picked a o (lowest_bit r)) (all_picked a (suc o) b (r / 2)) (all_picked a (suc o + b) m (high_bits b (r / 2))))

twice_not : (t : Bool) → gate1 (not t) ≡ t
twice_not true = refl
twice_not false = refl

lines_picked : (a : ℕ → Bool) (groups : List ℕ) (o r : ℕ) → all_lines a groups o r ≡ all_picked a o (total_bits groups) r
lines_picked a [] o r = refl
lines_picked a (b ∷ bs) o r =
    let head = twice_not (all_picked a o b (low_bits b r)) ∙ picked_low a o b r in
    let tail = lines_picked a bs (o + b) (high_bits b r) in
    rw (head, tail) (sym (picked_split a o b (total_bits bs) r))

high_suc : (o x : ℕ) → high_bits (suc o) x ≡ high_bits o x / 2
high_suc zero x = refl
high_suc (suc o) x = high_suc o (x / 2)

pub low_all : (n r : ℕ) → r < power_of_two n → low_bits n r ≡ r
low_all zero r h = omega arith
low_all (suc n) r h =
    let e = low_all n (r / 2) (omega arith) in
    let f = whole r in
    rw e f

picked_is : (a : ℕ → Bool) (o : ℕ) (t u : Bool) → a o ≡ u → picked a o t ≡ true → t ≡ u
picked_is a o true u e h = sym h ∙ e
picked_is a o false true e h = let f : gate1 true ≡ true = ap gate1 (sym e) ∙ h in absurd cc
picked_is a o false false e h = refl

picked_same : (a : ℕ → Bool) (o : ℕ) (t : Bool) → a o ≡ t → picked a o t ≡ true
picked_same a o true e = e
picked_same a o false e = rw e refl

both_true : (x y : Bool) → (x && y) ≡ true → (x ≡ true) × (y ≡ true)
both_true true y e = (refl, e)
both_true false y e = absurd cc

-- what all picked says, and where it holds
low_same : (a : ℕ → Bool) (x n o r : ℕ) → ((j : ℕ) → j < o + n → a j ≡ bit_of x j) → all_picked a o n r ≡ true → low_bits n r ≡ low_bits n (high_bits o x)
low_same a x zero o r are e = refl
low_same a x (suc n) o r are e =
    let p = both_true (picked a o (lowest_bit r)) (all_picked a (suc o) n (r / 2)) e in
    let h : lowest_bit r ≡ lowest_bit (high_bits o x) = picked_is a o (lowest_bit r) (lowest_bit (high_bits o x)) (are o (omega arith)) p.0 in
    let t : low_bits n (r / 2) ≡ low_bits n (high_bits (suc o) x) = low_same a x n (suc o) (r / 2) (λ j k. are j (omega arith)) p.1 in
    let u : low_bits n (r / 2) ≡ low_bits n (high_bits o x / 2) = t ∙ ap (low_bits n) (high_suc o x) in
    rw (h, u) refl

all_same : (a : ℕ → Bool) (x n o : ℕ) → ((j : ℕ) → j < o + n → a j ≡ bit_of x j) → all_picked a o n (high_bits o x) ≡ true
all_same a x zero o are = refl
all_same a x (suc n) o are =
    let h : picked a o (lowest_bit (high_bits o x)) ≡ true = picked_same a o (lowest_bit (high_bits o x)) (are o (omega arith)) in
    let t : all_picked a (suc o) n (high_bits (suc o) x) ≡ true = all_same a x n (suc o) (λ j k. are j (omega arith)) in
    let u : all_picked a (suc o) n (high_bits o x / 2) ≡ true = ap (all_picked a (suc o) n) (sym (high_suc o x)) ∙ t in
    rw (h, u) refl

-- the row of the address has all its lines, and no other row has
pub hits : (a : ℕ → Bool) (x m : ℕ) (groups : List ℕ) → ((j : ℕ) → j < m + total_bits groups → a j ≡ bit_of x j) → all_lines a groups m (low_bits (total_bits groups) (high_bits m x)) ≡ true
hits a x m groups are = lines_picked a groups m (low_bits (total_bits groups) (high_bits m x)) ∙ picked_low a m (total_bits groups) (high_bits m x) ∙ all_same a x (total_bits groups) m are

pub hits_only : (a : ℕ → Bool) (x m r : ℕ) (groups : List ℕ) → ((j : ℕ) → j < m + total_bits groups → a j ≡ bit_of x j) → r < power_of_two (total_bits groups)
    → all_lines a groups m r ≡ true → r ≡ low_bits (total_bits groups) (high_bits m x)
hits_only a x m r groups are r_fits e = sym (low_all (total_bits groups) r r_fits) ∙ low_same a x (total_bits groups) m r are (sym (lines_picked a groups m r) ∙ e)

pub index_low : (a : ℕ → Bool) (x m o : ℕ) → ((j : ℕ) → j < o + m → a j ≡ bit_of x j) → index a o m ≡ low_bits m (high_bits o x)
index_low a x zero o are = refl
index_low a x (suc m) o are =
    let h : a o ≡ lowest_bit (high_bits o x) = are o (omega arith) in
    let t : index a (suc o) m ≡ low_bits m (high_bits (suc o) x) = index_low a x m (suc o) (λ j k. are j (omega arith)) in
    let u : index a (suc o) m ≡ low_bits m (high_bits o x / 2) = t ∙ ap (low_bits m) (high_suc o x) in
    rw (h, u) refl

pub index_fits : (a : ℕ → Bool) (o m : ℕ) → index a o m < power_of_two m
index_fits a o zero = omega arith
index_fits a o (suc m) = by_odd (a o) (index_fits a (suc o) m)
  where
    by_odd : (t : Bool) → index a (suc o) m < power_of_two m → cond t 1 0 + 2 * index a (suc o) m < 2 * power_of_two m
    by_odd true h = omega arith
    by_odd false h = omega arith

index_picked : (a : ℕ → Bool) (o m : ℕ) → all_picked a o m (index a o m) ≡ true
index_picked a o zero = refl
index_picked a o (suc m) =
    let e = built_odd (a o) (index a (suc o) m) in
    let f = built_half (a o) (index a (suc o) m) in
    let g = index_picked a (suc o) m in
    let h = picked_same a o (a o) refl in
    rw (e, f, g, h) refl

picked_index : (a : ℕ → Bool) (o m k : ℕ) → all_picked a o m k ≡ true → low_bits m k ≡ index a o m
picked_index a o zero k e = refl
picked_index a o (suc m) k e =
    let p = both_true (picked a o (lowest_bit k)) (all_picked a (suc o) m (k / 2)) e in
    let h : lowest_bit k ≡ a o = picked_is a o (lowest_bit k) (a o) refl p.0 in
    let t : low_bits m (k / 2) ≡ index a (suc o) m = picked_index a (suc o) m (k / 2) p.1 in
    rw (h, t) refl

-- a line is on exactly at the number of its bits
pub line_is : (a : ℕ → Bool) (o b k : ℕ) → k < power_of_two b → gate1 (not (all_picked a o b k)) ≡ eqb k (index a o b)
line_is a o b k fits = twice_not (all_picked a o b k) ∙ by_picked _ refl
  where
    by_picked : (t : Bool) → all_picked a o b k ≡ t → all_picked a o b k ≡ eqb k (index a o b)
    by_picked true e = e ∙ sym (eq-eqb k (index a o b) (sym (low_all b k fits) ∙ picked_index a o b k e))
    by_picked false e = e ∙ by_test _ refl
      where
        by_test : (u : Bool) → eqb k (index a o b) ≡ u → false ≡ eqb k (index a o b)
        by_test false f = sym f
        by_test true f = let g : all_picked a o b k ≡ true = ap (all_picked a o b) (eqb-true _ _ f) ∙ index_picked a o b in absurd (let h = sym g ∙ e in cc)

pub low_below : (m r : ℕ) → low_bits m r < power_of_two m
low_below zero r = omega arith
low_below (suc m) r = by_odd (lowest_bit r) (low_below m (r / 2))
  where
    by_odd : (t : Bool) → low_bits m (r / 2) < power_of_two m → cond t 1 0 + 2 * low_bits m (r / 2) < 2 * power_of_two m
    by_odd true h = omega arith
    by_odd false h = omega arith

parts : (m x : ℕ) → high_bits m x * power_of_two m + low_bits m x ≡ x
parts zero x = omega arith
parts (suc m) x =
    let e = parts m (x / 2) in
    let f = whole x in
    let g : high_bits m (x / 2) * (2 * power_of_two m) ≡ 2 * (high_bits m (x / 2) * power_of_two m) = omega arith in
    omega arith

pub addresses_split : AddressesSplit
addresses_split m x =
    let e = parts m x in
    (sym (div-mul-add (high_bits m x) (power_of_two m) (low_bits m x) (low_below m x)) ∙ ap (λ (n : ℕ). n / power_of_two m) e, sym (mod-mul-add (high_bits m x) (power_of_two m) (low_bits m x) (low_below m x)) ∙ ap (λ (n : ℕ). n % power_of_two m) e)

-- the bits of a number, part by part
pub high_high : (m t x : ℕ) → high_bits t (high_bits m x) ≡ high_bits (m + t) x
high_high zero t x = let e : t ≡ 0 + t = omega arith in ap (λ (n : ℕ). high_bits n x) e
high_high (suc m) t x = let e : suc m + t ≡ suc (m + t) = omega arith in high_high m t (x / 2) ∙ ap (λ (n : ℕ). high_bits n x) (sym e)

pub low_low : (m t x : ℕ) → low_bits m (low_bits (m + t) x) ≡ low_bits m x
low_low zero t x = refl
low_low (suc m) t x =
    let e : suc m + t ≡ suc (m + t) = omega arith in
    let head = built_odd (lowest_bit x) (low_bits (m + t) (x / 2)) in
    let half = built_half (lowest_bit x) (low_bits (m + t) (x / 2)) in
    let tail = low_low m t (x / 2) in
    rw (e, head, half, tail) refl

pub high_low : (m t x : ℕ) → high_bits m (low_bits (m + t) x) ≡ low_bits t (high_bits m x)
high_low zero t x = let e : 0 + t ≡ t = omega arith in ap (λ (n : ℕ). low_bits n x) e
high_low (suc m) t x =
    let e : suc m + t ≡ suc (m + t) = omega arith in
    let half = built_half (lowest_bit x) (low_bits (m + t) (x / 2)) in
    let tail = high_low m t (x / 2) in
    rw (e, half) tail

-- a number is its high and its low bits
pub number_is : (m a b : ℕ) → high_bits m a ≡ high_bits m b → low_bits m a ≡ low_bits m b → a ≡ b
number_is zero a b h l = h
number_is (suc m) a b h l =
    let p : lowest_bit a ≡ lowest_bit b = sym (built_odd (lowest_bit a) (low_bits m (a / 2))) ∙ ap lowest_bit l ∙ built_odd (lowest_bit b) (low_bits m (b / 2)) in
    let q : low_bits m (a / 2) ≡ low_bits m (b / 2) = sym (built_half (lowest_bit a) (low_bits m (a / 2))) ∙ ap (λ (n : ℕ). n / 2) l ∙ built_half (lowest_bit b) (low_bits m (b / 2)) in
    let r = number_is m (a / 2) (b / 2) h q in
    sym (whole a) ∙ (λ j. cond (p j) 1 0 + 2 * r j) ∙ whole b

pub twice_some : (m : ℕ) → 0 < power_of_two m
twice_some zero = omega arith
twice_some (suc m) = let h = twice_some m in omega arith

pub twice_add : (a b : ℕ) → power_of_two (a + b) ≡ power_of_two a * power_of_two b
twice_add zero b = let e : 0 + b ≡ b = omega arith in ap power_of_two e ∙ omega arith
twice_add (suc a) b =
    let e : suc a + b ≡ suc (a + b) = omega arith in
    let h = twice_add a b in
    let g : 2 * power_of_two a * power_of_two b ≡ 2 * (power_of_two a * power_of_two b) = omega arith in
    ap power_of_two e ∙ ap (λ (n : ℕ). 2 * n) h ∙ sym g

pub twice_power : (n : ℕ) → power_of_two n ≡ 2 ^ n
twice_power zero = refl
twice_power (suc n) = omega (arith, pow-suc 2 n, twice_power n)
