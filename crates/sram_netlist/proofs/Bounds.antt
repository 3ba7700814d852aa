-- The numbers of a plan are small.
use Rattle.std.proofs.Common.{◌≡◌, ◌⊎◌, inl, inr, ℕ, zero, suc, ◌+◌, ◌*◌, ◌<◌, ◌≤◌, ◌^◌, List, [], ◌∷◌, refl, arith, pow-suc}
use Rattle.std.specs.List.{AllByRecursion}
use Rattle.sram_netlist.specs.Organization.{Organization, total_bits, power_of_two, bank_rows, columns_of, words_per_row, banks_of, addr_bits, IsBuildable, IsGroupSize, written_bits}
use Rattle.sram_netlist.specs.Membership.{IsGroup, IsChoice}
use Rattle.sram_netlist.specs.Netlist.{enable_count}

pub twice_above : (n : ℕ) → n < power_of_two n
twice_above zero = omega arith
twice_above (suc n) = let h = twice_above n in omega (arith, h)

pub twice_up : (m n : ℕ) → m ≤ n → power_of_two m ≤ power_of_two n
twice_up zero n h = let k = twice_above n in omega (arith, k)
twice_up (suc m) zero h = absurd (omega arith)
twice_up (suc m) (suc n) h = let k = twice_up m n (omega arith) in omega (arith, k)

-- counts of what is written: at most as many, none unless a write has bits, and as many where it has
pub written_most : (w n : ℕ) → written_bits w n ≤ n
written_most zero n = omega arith
written_most (suc w) n = omega arith

pub written_fits : (w n i : ℕ) → i < written_bits w n → i < n
written_fits w n i h = let k = written_most w n in omega (arith, k)

pub some_written : (w n i : ℕ) → i < written_bits w n → 0 < w
some_written zero n i h = absurd (omega arith)
some_written (suc w) n i h = omega arith

pub written_all : (w n : ℕ) → 0 < w → written_bits w n ≡ n
written_all zero n h = absurd (omega arith)
written_all (suc w) n h = refl

pub at_least : (a b : ℕ) → 0 < b → a ≤ a * b
at_least a zero h = absurd (omega arith)
at_least a (suc b) h = let e : a * suc b ≡ a + a * b = omega arith in omega (arith, e)

pub record Bounds (plan : Organization) : Type 0 where
  pub words : plan.word_size ≤ 256
  pub columns : columns_of plan ≤ 256
  pub some_columns : 0 < columns_of plan
  pub rows : bank_rows plan ≤ 256
  pub address : addr_bits plan ≤ 512
  pub banks : banks_of plan ≤ 4
  pub masks : plan.masks ≤ 256
  pub enables : enable_count plan.masks ≤ 256
  pub choices : words_per_row plan ≤ 8

masks_few : (w s m : ℕ) → (m ≡ 0) ⊎ ((0 < s) × (m * s ≡ w)) → m ≤ w
masks_few w s m (inl e) = omega (arith, e)
masks_few w s m (inr h) = let k = at_least m s h.0 in let e = h.1 in omega (arith, k, e)

enables_few : (m : ℕ) → m ≤ 256 → enable_count m ≤ 256
enables_few zero h = omega arith
enables_few (suc m) h = h

pub bounds : (plan : Organization) → IsBuildable plan → Bounds plan
bounds plan p =
    let some_words = p.words in
    let cols = p.columns in
    let rows = p.rows in
    let cb = p.choices in
    let bb = p.banks in
    let w : plan.word_size ≤ 256 = let k = at_least plan.word_size (power_of_two plan.col_bits) (let t = twice_above plan.col_bits in omega (arith, t)) in omega (arith, k, cols) in
    let t = twice_above (total_bits plan.groups) in
    let m = masks_few plan.word_size plan.write_size plan.masks p.masks in
    let m' : plan.masks ≤ 256 = omega (arith, m, w) in
    record {
      words = w;
      columns = cols;
      some_columns = let k = at_least plan.word_size (power_of_two plan.col_bits) (let u = twice_above plan.col_bits in omega (arith, u)) in omega (arith, k, some_words);
      rows = rows;
      address = omega (arith, t, rows, cb, bb);
      banks = let k = twice_up plan.bank_bits 2 bb in omega (arith, k);
      masks = m';
      enables = enables_few plan.masks m';
      choices = let k = twice_up plan.col_bits 3 cb in omega (arith, k);
    }

pub size_small : (b : ℕ) → IsGroupSize b → (0 < b) × (b ≤ 3)
size_small b (inl e) = (omega (arith, e), omega (arith, e))
size_small b (inr e) = (omega (arith, e), omega (arith, e))

pub group_size : (bs : List ℕ) (from o b : ℕ) → AllByRecursion IsGroupSize bs → IsGroup bs from o b → (0 < b) × (b ≤ 3)
group_size [] from o b all g = absurd g
group_size (c ∷ cs) from o b all (inl e) = let s = size_small c all.0 in let same = e.1 in (omega (arith, s.0, same), omega (arith, s.1, same))
group_size (c ∷ cs) from o b all (inr g) = group_size cs (from + c) o b all.1 g

-- a choice has one, two or three bits
pub choice_size : (plan : Organization) (o b : ℕ) → IsBuildable plan → IsChoice plan o b → (0 < b) × (b ≤ 3)
choice_size plan o b p (inl e) = let same = e.0.1 in let some = e.1 in let few = p.choices in (some, omega (arith, same, few))
choice_size plan o b p (inr (inl g)) = group_size plan.groups plan.col_bits o b p.sizes g
choice_size plan o b p (inr (inr e)) = let same = e.0.1 in let some = e.1 in let few = p.banks in (some, omega (arith, same, few))

pub line_few : (plan : Organization) (o b k : ℕ) → IsBuildable plan → IsChoice plan o b → k < power_of_two b → k < 2 ^ 64
line_few plan o b k p c lt = let s = choice_size plan o b p c in let t = twice_up b 3 s.1 in omega (arith, t, lt)

pub power_of_two-is : (n : ℕ) → power_of_two n ≡ 2 ^ n
power_of_two-is zero = refl
power_of_two-is (suc n) = omega (arith, pow-suc 2 n, power_of_two-is n)
