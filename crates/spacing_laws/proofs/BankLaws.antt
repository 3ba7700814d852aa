-- Banks side by side, each with rails a pitch apart and then with slices: where two numbers are nearer than the pitch, they stand in the slices of one bank.
use Rattle.std.proofs.Common.{◌≡◌, inl, inr, ℕ, zero, suc, ◌+◌, ◌*◌, ◌-◌, ◌<◌, ◌≤◌, ℤ, pos, ◌+ℤ◌, ◌≤ℤ◌, List, [], ◌∷◌, ◌++◌, flat_map, ap, arith}
use Rattle.std.specs.List.{AllByRecursion}
use Rattle.std.proofs.lemmas.Int.{ints}
use Rattle.sram_netlist.specs.InstanceList.{numbers_from, tabulate_lists}
use Rattle.spacing_laws.proofs.CloseLaws.{HasClose, HasBetween, HasParts, close_parts}
use Rattle.spacing_laws.proofs.RepeatLaws.{IsInStep, AreInStep, number_at, block, repeats, IsCloseInLists, close_lists}
use Rattle.spacing_laws.proofs.RowLaws.{AreUpTo, AreFrom, none_between, all_append, all_from, all_up_to}

-- how many rails there are, a pitch apart; how wide a row's gate and driver are together; how wide a slice is, and how many there are
pub record Bank : Type 0 where
  pub rails : ℕ
  pub pitch : ℕ
  pub drive : ℕ
  pub slice : ℕ
  pub count : ℕ

-- where its slices begin, and where it ends
abbrev pub slices_at : Bank → ℕ
slices_at b = (b.rails + 1) * b.pitch + b.drive

abbrev pub bank_end : Bank → ℕ
bank_end b = slices_at b + b.count * b.slice

abbrev pub rail_at : Bank → ℕ → ℕ → List ℤ
rail_at b z r = pos (z + (r + 1) * b.pitch) ∷ []

abbrev pub rails_xs : Bank → ℕ → List ℤ
rails_xs b z = tabulate_lists b.rails (rail_at b z)

abbrev pub slices_xs : Bank → List ℤ → ℕ → List ℤ
slices_xs b us z = repeats (pos (z + slices_at b)) b.slice us b.count

abbrev pub bank_xs : Bank → List ℤ → ℕ → List ℤ
bank_xs b us n = rails_xs b (n * bank_end b) ++ slices_xs b us (n * bank_end b)

abbrev pub banks_xs : Bank → List ℤ → ℕ → List ℤ
banks_xs b us n = tabulate_lists n (bank_xs b us)

all_lists : (P : ℤ → Type 0) (f : ℕ → List ℤ) (k n : ℕ) → ((i : ℕ) → k ≤ i → i < k + n → AllByRecursion P (f i)) → AllByRecursion P (flat_map f (numbers_from k n))
all_lists P f k zero each = tt
all_lists P f k (suc n) each = all_append P (f k) (flat_map f (numbers_from (suc k) n)) (each k (omega arith) (omega arith)) (all_lists P f (suc k) n (λ i a b. each i (omega (arith, a)) (omega (arith, b))))

-- products

product_more : (i d w : ℕ) → (i + d) * w ≡ i * w + d * w
product_more zero d w = grind arith
product_more (suc i) d w = let e = product_more i d w in grind (arith, e)

pub product_rises : (i j w : ℕ) → i ≤ j → i * w ≤ j * w
product_rises i j w le = let e : j ≡ i + (j - i) = omega (arith, le) in let s = product_more i (j - i) w in let t = ap (λ (k : ℕ). k * w) e in omega (arith, s, t)

pub product_suc : (i w : ℕ) → (i + 1) * w ≡ i * w + w
product_suc i w = let s = product_more i 1 w in let o : 1 * w ≡ w = omega arith in omega (arith, s, o)

-- rails

rail_low : (b : Bank) (z r : ℕ) → z + b.pitch ≤ z + (r + 1) * b.pitch
rail_low b z r = let e = product_suc r b.pitch in omega (arith, e)

rail_high : (b : Bank) (z r : ℕ) → r < b.rails → z + (r + 1) * b.pitch ≤ z + b.rails * b.pitch
rail_high b z r less = let e = product_rises (r + 1) b.rails b.pitch (omega (arith, less)) in omega (arith, e)

natural : (m n : ℕ) → m ≤ n → pos m ≤ℤ pos n
natural m n le = omega (arith, ints, le)

rails_from : (b : Bank) (z : ℕ) → AreFrom (pos (z + b.pitch)) (rails_xs b z)
rails_from b z = all_lists (λ x. pos (z + b.pitch) ≤ℤ x) (rail_at b z) 0 b.rails (λ r a less. (natural (z + b.pitch) (z + (r + 1) * b.pitch) (rail_low b z r), tt))

rails_to : (b : Bank) (z : ℕ) → AreUpTo (pos (z + b.rails * b.pitch)) (rails_xs b z)
rails_to b z = all_lists (λ x. x ≤ℤ pos (z + b.rails * b.pitch)) (rail_at b z) 0 b.rails (λ r a less. (natural (z + (r + 1) * b.pitch) (z + b.rails * b.pitch) (rail_high b z r (omega (arith, less))), tt))

-- slices

number_low : (b : Bank) (z i : ℕ) (u : ℤ) → IsInStep b.slice u → pos (z + slices_at b) ≤ℤ number_at (pos (z + slices_at b)) b.slice i u
number_low b z i u is = let a = is.above in omega (arith, ints, a)

number_high : (s w n i z : ℕ) (u : ℤ) → i < n → IsInStep w u → number_at (pos (z + s)) w i u ≤ℤ pos (z + (s + n * w))
number_high s w n i z u less is =
    let e = product_rises (i + 1) n w (omega (arith, less)) in
    let f = product_suc i w in
    let a = is.below in
    omega (arith, ints, e, f, a)

block_from : (b : Bank) (z i : ℕ) (us : List ℤ) → AreInStep b.slice us → AreFrom (pos (z + slices_at b)) (block (pos (z + slices_at b)) b.slice us i)
block_from b z i [] is = tt
block_from b z i (u ∷ us) is = (number_low b z i u is.0, block_from b z i us is.1)

block_to : (b : Bank) (z i : ℕ) (us : List ℤ) → i < b.count → AreInStep b.slice us → AreUpTo (pos (z + bank_end b)) (block (pos (z + slices_at b)) b.slice us i)
block_to b z i [] less is = tt
block_to b z i (u ∷ us) less is = (number_high (slices_at b) b.slice b.count i z u less is.0, block_to b z i us less is.1)

slices_from : (b : Bank) (z : ℕ) (us : List ℤ) → AreInStep b.slice us → AreFrom (pos (z + slices_at b)) (slices_xs b us z)
slices_from b z us is = all_lists (λ x. pos (z + slices_at b) ≤ℤ x) (block (pos (z + slices_at b)) b.slice us) 0 b.count (λ i a less. block_from b z i us is)

slices_to : (b : Bank) (z : ℕ) (us : List ℤ) → AreInStep b.slice us → AreUpTo (pos (z + bank_end b)) (slices_xs b us z)
slices_to b z us is = all_lists (λ x. x ≤ℤ pos (z + bank_end b)) (block (pos (z + slices_at b)) b.slice us) 0 b.count (λ i a less. block_to b z i us (omega (arith, less)) is)

-- a bank

behind_rails : (b : Bank) → b.rails * b.pitch + b.pitch ≤ slices_at b
behind_rails b = let e = product_suc b.rails b.pitch in omega (arith, e)

bank_from : (b : Bank) (us : List ℤ) (n : ℕ) → AreInStep b.slice us → AreFrom (pos (n * bank_end b + b.pitch)) (bank_xs b us n)
bank_from b us n is =
    let z = n * bank_end b in
    let h = behind_rails b in
    all_append (λ x. pos (z + b.pitch) ≤ℤ x) (rails_xs b z) (slices_xs b us z) (rails_from b z)
    (all_from (pos (z + b.pitch)) (pos (z + slices_at b)) (slices_xs b us z) (natural (z + b.pitch) (z + slices_at b) (omega (arith, h))) (slices_from b z us is))

bank_to : (b : Bank) (us : List ℤ) (n : ℕ) → AreInStep b.slice us → AreUpTo (pos (n * bank_end b + bank_end b)) (bank_xs b us n)
bank_to b us n is =
    let z = n * bank_end b in
    let h = behind_rails b in
    all_append (λ x. x ≤ℤ pos (z + bank_end b)) (rails_xs b z) (slices_xs b us z)
    (all_up_to (pos (z + b.rails * b.pitch)) (pos (z + bank_end b)) (rails_xs b z) (natural (z + b.rails * b.pitch) (z + bank_end b) (omega (arith, h))) (rails_to b z))
    (slices_to b z us is)

rails_apart : (b : Bank) (z : ℕ) → HasClose (pos b.pitch) (rails_xs b z) → ⊥
rails_apart b z h = by (close_lists (pos b.pitch) (rail_at b z) 0 b.rails h)
  where
    two : (i j : ℕ) → i < j → HasBetween (pos b.pitch) (rail_at b z i) (rail_at b z j) → ⊥
    two i j less near =
        let e = product_rises (i + 1 + 1) (j + 1) b.pitch (omega (arith, less)) in
        let f = product_suc (i + 1) b.pitch in
        none_between (pos b.pitch) (pos (z + (i + 1) * b.pitch)) (rail_at b z i) (rail_at b z j) (omega (arith, ints), tt) (omega (arith, ints, e, f), tt) near

    alone : (x : ℤ) → HasClose (pos b.pitch) (x ∷ []) → ⊥
    alone x (inl none) = none
    alone x (inr none) = none

    by : IsCloseInLists (pos b.pitch) (rail_at b z) 0 (0 + b.rails) → ⊥
    by (inl r) = alone (pos (z + (r.i + 1) * b.pitch)) r.is
    by (inr r) = two r.i r.j r.rises r.is

pub record HasCloseSlices (b : Bank) (us : List ℤ) : Type 0 where
  pub from : ℕ
  pub close : HasClose (pos b.pitch) (slices_xs b us from)

close_in_bank : (b : Bank) (us : List ℤ) (z : ℕ) → AreInStep b.slice us → HasParts (pos b.pitch) (rails_xs b z) (slices_xs b us z) → HasCloseSlices b us
close_in_bank b us z is (inl h) = absurd (rails_apart b z h)
close_in_bank b us z is (inr (inl h)) = record { from = z; close = h }
close_in_bank b us z is (inr (inr h)) =
    let e = behind_rails b in
    absurd (none_between (pos b.pitch) (pos (z + b.rails * b.pitch)) (rails_xs b z) (slices_xs b us z) (rails_to b z)
    (all_from (pos (z + b.rails * b.pitch) +ℤ pos b.pitch) (pos (z + slices_at b)) (slices_xs b us z) (omega (arith, ints, e)) (slices_from b z us is)) h)

-- Two close numbers of all banks are two of the slices of one.
pub close_in_banks : (b : Bank) (us : List ℤ) (n : ℕ) → AreInStep b.slice us → HasClose (pos b.pitch) (banks_xs b us n) → HasCloseSlices b us
close_in_banks b us n is h = by (close_lists (pos b.pitch) (bank_xs b us) 0 n h)
  where
    two : (i j : ℕ) → i < j → HasBetween (pos b.pitch) (bank_xs b us i) (bank_xs b us j) → ⊥
    two i j less near =
        let e = product_rises (i + 1) j (bank_end b) (omega (arith, less)) in
        let f = product_suc i (bank_end b) in
        let last = i * bank_end b + bank_end b in
        none_between (pos b.pitch) (pos last) (bank_xs b us i) (bank_xs b us j) (bank_to b us i is)
        (all_from (pos last +ℤ pos b.pitch) (pos (j * bank_end b + b.pitch)) (bank_xs b us j) (natural (last + b.pitch) (j * bank_end b + b.pitch) (omega (arith, e, f))) (bank_from b us j is)) near

    by : IsCloseInLists (pos b.pitch) (bank_xs b us) 0 (0 + n) → HasCloseSlices b us
    by (inl r) = close_in_bank b us (r.i * bank_end b) is (close_parts (pos b.pitch) (rails_xs b (r.i * bank_end b)) (slices_xs b us (r.i * bank_end b)) r.is)
    by (inr r) = absurd (two r.i r.j r.rises r.is)
