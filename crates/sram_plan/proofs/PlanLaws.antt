-- The numbers of a plan.
use Rattle.std.proofs.Common.{◌≡◌, ◌⊎◌, inl, inr, ℕ, zero, suc, ◌+◌, ◌-◌, ◌*◌, ◌/◌, ◌%◌, ◌<◌, ◌≤◌, ◌^◌, ◌==◌, Bool, true, false, cond, List, length, refl, sym, ap, subst, ◌∙◌, arith, pow_pos, pow_mono, pow-add, mul_comm, mul_assoc}
use Rattle.std.proofs.Math.Nat.{div-eq_of_lt, mul-div_cancel, div-add-mod}
use Rattle.std.specs.Prelude.{Option, None, Some, IfSome, MatchOption}
use Rattle.std.specs.List.{AllByRecursion}
use Rattle.sram_netlist.specs.Organization.{total_bits, IsGroupSize}
use Rattle.sram_netlist.specs.Membership.{IsOneOf}
use Rattle.sram_netlist.specs.Numbers.{ArePlanNumbers}
use Rattle.sram_netlist.proofs.Bounds.{power_of_two-is}
use Rattle.sram_plan.specs.declared.config.Config.{Config}
use Rattle.sram_plan.specs.declared.numbers.Plan.{Plan}
use Rattle.sram_plan.specs.Config.{IsConfig, word_counts, row_counts, bank_counts}
use Rattle.sram_plan.specs.Plan.{FitsBank, IsNearest, IsPlanOf, IsPlanWith, rows_with, candidates, masks_of, row_groups}
use Rattle.sram_plan.specs.PlanNumbers.{numbers_of, used_groups}

order : (a b : ℕ) → (a ≡ b) ⊎ ((a < b) ⊎ (b < a))
order zero zero = inl refl
order zero (suc b) = inr (inl (omega arith))
order (suc a) zero = inr (inr (omega arith))
order (suc a) (suc b) = elim (order a b) [ inl e ↦ inl (omega arith) | inr (inl h) ↦ inr (inl (omega arith)) | inr (inr h) ↦ inr (inr (omega arith)) ]

double : (k : ℕ) → 2 ^ (1 + k) ≡ 2 * 2 ^ k
double k = pow-add 2 1 k

-- the logarithm of a power of two, rounded down, is its exponent
pub exponent_is : (n r k : ℕ) → n ≡ 2 ^ k → 2 ^ r ≤ n → n < 2 * 2 ^ r → r ≡ k
exponent_is n r k is low high = elim (order r k) [
  | inl e ↦ e
  | inr (inl h) ↦ absurd (let up = pow_mono {i = 1 + r} {j = k} (omega arith) in let d = double r in omega (arith, up, d, is, high))
  | inr (inr h) ↦ absurd (let up = pow_mono {i = 1 + k} {j = r} (omega arith) in let d = double k in let p = pow_pos k in omega (arith, up, d, p, is, low))
]

pub exponents_are_one : (a b : ℕ) → 2 ^ a ≡ 2 ^ b → a ≡ b
exponents_are_one a b e = exponent_is (2 ^ a) a b e (omega arith) (let p = pow_pos a in omega (arith, p))

pub record IsPower (n few : ℕ) : Type 0 where
  pub exponent : ℕ
  pub is : n ≡ 2 ^ exponent
  pub small : exponent ≤ few

pub word_power : (n : ℕ) → IsOneOf n word_counts → IsPower n 13
word_power n (inl e) = record { exponent = 4; is = sym e; small = omega arith }
word_power n (inr (inl e)) = record { exponent = 5; is = sym e; small = omega arith }
word_power n (inr (inr (inl e))) = record { exponent = 6; is = sym e; small = omega arith }
word_power n (inr (inr (inr (inl e)))) = record { exponent = 7; is = sym e; small = omega arith }
word_power n (inr (inr (inr (inr (inl e))))) = record { exponent = 8; is = sym e; small = omega arith }
word_power n (inr (inr (inr (inr (inr (inl e)))))) = record { exponent = 9; is = sym e; small = omega arith }
word_power n (inr (inr (inr (inr (inr (inr (inl e))))))) = record { exponent = 10; is = sym e; small = omega arith }
word_power n (inr (inr (inr (inr (inr (inr (inr (inl e)))))))) = record { exponent = 11; is = sym e; small = omega arith }
word_power n (inr (inr (inr (inr (inr (inr (inr (inr (inl e))))))))) = record { exponent = 12; is = sym e; small = omega arith }
word_power n (inr (inr (inr (inr (inr (inr (inr (inr (inr (inl e)))))))))) = record { exponent = 13; is = sym e; small = omega arith }
word_power n (inr (inr (inr (inr (inr (inr (inr (inr (inr (inr h)))))))))) = absurd h

pub row_power : (n : ℕ) → IsOneOf n row_counts → IsPower n 3
row_power n (inl e) = record { exponent = 0; is = sym e; small = omega arith }
row_power n (inr (inl e)) = record { exponent = 1; is = sym e; small = omega arith }
row_power n (inr (inr (inl e))) = record { exponent = 2; is = sym e; small = omega arith }
row_power n (inr (inr (inr (inl e)))) = record { exponent = 3; is = sym e; small = omega arith }
row_power n (inr (inr (inr (inr h)))) = absurd h

pub bank_power : (n : ℕ) → IsOneOf n bank_counts → IsPower n 2
bank_power n (inl e) = record { exponent = 0; is = sym e; small = omega arith }
bank_power n (inr (inl e)) = record { exponent = 1; is = sym e; small = omega arith }
bank_power n (inr (inr (inl e))) = record { exponent = 2; is = sym e; small = omega arith }
bank_power n (inr (inr (inr h))) = absurd h

-- a quotient of powers of two that is at least 16
pub record IsQuotient (e d : ℕ) : Type 0 where
  pub exponent : ℕ
  pub is : 2 ^ e / 2 ^ d ≡ 2 ^ exponent
  pub sum : e ≡ exponent + d

whole_quotient : (e d k : ℕ) → e ≡ k + d → IsQuotient e d
whole_quotient e d k is = record {
  exponent = k;
  is = ap (λ (n : ℕ). 2 ^ n / 2 ^ d) is ∙ ap (λ (n : ℕ). n / 2 ^ d) (pow-add 2 k d) ∙ mul-div_cancel (2 ^ k) (pow_pos d);
  sum = is;
}

quotient : (e d : ℕ) → 16 ≤ 2 ^ e / 2 ^ d → IsQuotient e d
quotient e d h = elim (order e d) [
  | inl same ↦ whole_quotient e d 0 (omega arith)
  | inr (inl less) ↦ absurd (let up = pow_mono {i = 1 + e} {j = d} (omega arith) in let t = double e in let p = pow_pos e in let none = div-eq_of_lt {n = 2 ^ e} {m = 2 ^ d} (omega (arith, up, t, p)) in omega (arith, none, h))
  | inr (inr more) ↦ whole_quotient e d (e - d) (omega arith)
]

between : (k : ℕ) → 16 ≤ 2 ^ k → 2 ^ k ≤ 256 → (4 ≤ k) × (k ≤ 8)
between k low high = (
  elim (order k 4) [
    | inl e ↦ omega arith
    | inr (inl h) ↦ absurd (let up = pow_mono {i = k} {j = 3} (omega arith) in omega (arith, up, low))
    | inr (inr h) ↦ omega arith
  ],
  elim (order k 8) [
    | inl e ↦ omega arith
    | inr (inl h) ↦ omega arith
    | inr (inr h) ↦ absurd (let up = pow_mono {i = 9} {j = k} (omega arith) in omega (arith, up, high))
  ],
)

-- the groups of row bits
pub record AreGroups (k : ℕ) (groups : List ℕ) : Type 0 where
  pub total : total_bits groups ≡ k
  pub sizes : AllByRecursion IsGroupSize groups
  pub count : (length groups ≡ 2) ⊎ (length groups ≡ 3)

groups_at : (k : ℕ) → 4 ≤ k → k ≤ 8 → AreGroups k (used_groups (row_groups (2 ^ k)))
groups_at zero low high = absurd (omega arith)
groups_at (suc zero) low high = absurd (omega arith)
groups_at (suc (suc zero)) low high = absurd (omega arith)
groups_at (suc (suc (suc zero))) low high = absurd (omega arith)
groups_at (suc (suc (suc (suc zero)))) low high = record { total = refl; sizes = (inl refl, (inl refl, tt)); count = inl refl }
groups_at (suc (suc (suc (suc (suc zero))))) low high = record { total = refl; sizes = (inl refl, (inr refl, tt)); count = inl refl }
groups_at (suc (suc (suc (suc (suc (suc zero)))))) low high = record { total = refl; sizes = (inr refl, (inr refl, tt)); count = inl refl }
groups_at (suc (suc (suc (suc (suc (suc (suc zero))))))) low high = record { total = refl; sizes = (inl refl, (inl refl, (inr refl, tt))); count = inr refl }
groups_at (suc (suc (suc (suc (suc (suc (suc (suc zero)))))))) low high = record { total = refl; sizes = (inl refl, (inr refl, (inr refl, tt))); count = inr refl }
groups_at (suc (suc (suc (suc (suc (suc (suc (suc (suc k))))))))) low high = absurd (omega arith)

-- what follows of a count of words in a row that fits
pub record IsCut (config : Config) (wpr : ℕ) : Type 0 where
  pub words : IsPower config.num_words 13
  pub choices : IsPower wpr 3
  pub banks : IsPower config.num_banks 2
  pub row_bits : ℕ
  pub rows : rows_with config wpr ≡ 2 ^ row_bits
  pub bits : words.exponent ≡ row_bits + (banks.exponent + choices.exponent)
  pub groups : AreGroups row_bits (used_groups (row_groups (rows_with config wpr)))

pub is_cut : (config : Config) (wpr : ℕ) → IsConfig config → IsOneOf wpr candidates → FitsBank config wpr → IsCut config wpr
is_cut config wpr ok among fits =
    let n = word_power config.num_words ok.words in
    let w = row_power wpr among in
    let b = bank_power config.num_banks ok.banks in
    let divisor : config.num_banks * wpr ≡ 2 ^ (b.exponent + w.exponent) = (λ i. b.is i * w.is i) ∙ sym (pow-add 2 b.exponent w.exponent) in
    let same : rows_with config wpr ≡ 2 ^ n.exponent / 2 ^ (b.exponent + w.exponent) = λ i. n.is i / divisor i in
    let q = quotient n.exponent (b.exponent + w.exponent) (subst (λ (r : ℕ). 16 ≤ r) same fits.some_rows) in
    let rows = same ∙ q.is in
    let k = between q.exponent (subst (λ (r : ℕ). 16 ≤ r) rows fits.some_rows) (subst (λ (r : ℕ). r ≤ 256) rows fits.few_rows) in
    record {
      words = n;
      choices = w;
      banks = b;
      row_bits = q.exponent;
      rows = rows;
      bits = q.sum;
      groups = subst (λ (r : ℕ). AreGroups q.exponent (used_groups (row_groups r))) (sym rows) (groups_at q.exponent k.0 k.1);
    }

-- the logarithm of a power of two
pub log_is : (n r few : ℕ) → IsPower n few → 2 ^ r ≤ n → n < 2 * 2 ^ r → 2 ^ r ≡ n
log_is n r few p low high = ap (λ (k : ℕ). 2 ^ k) (exponent_is n r p.exponent p.is low high) ∙ sym p.is

exponent_of : (n r few : ℕ) (p : IsPower n few) → 2 ^ r ≡ n → r ≡ p.exponent
exponent_of n r few p e = exponents_are_one r p.exponent (e ∙ p.is)

masks_fit : (b : Bool) (word write : ℕ) → 0 < write → word % write ≡ 0 → (cond b 0 (word / write) ≡ 0) ⊎ ((0 < write) × (cond b 0 (word / write) * write ≡ word))
masks_fit true word write some whole = inl refl
masks_fit false word write some whole = inr (some, mul_comm (word / write) write ∙ (let d = div-add-mod word write in omega (arith, d, whole)))

words_are : (config : Config) (wpr : ℕ) → FitsBank config wpr → config.num_words ≡ config.num_banks * (rows_with config wpr * wpr)
words_are config wpr fits =
    let d = div-add-mod config.num_words (config.num_banks * wpr) in
    let whole = fits.whole in
    let e : config.num_words ≡ config.num_banks * wpr * rows_with config wpr = omega (arith, d, whole) in
    e ∙ mul_assoc config.num_banks wpr (rows_with config wpr) ∙ ap (λ (x : ℕ). config.num_banks * x) (mul_comm wpr (rows_with config wpr))

-- the numbers of a plan are those of its organisation
pub numbers_are : (config : Config) (wpr : ℕ) (plan : Plan) → IsConfig config → IsOneOf wpr candidates → FitsBank config wpr → IsPlanWith config wpr plan → ArePlanNumbers (numbers_of plan)
numbers_are config wpr plan ok among fits p =
    let cut = is_cut config wpr ok among fits in
    let groups : AreGroups cut.row_bits (used_groups plan.groups) = subst (λ (gs : List ℕ). AreGroups cut.row_bits (used_groups gs)) (sym p.groups) cut.groups in
    let rows : plan.rows ≡ 2 ^ total_bits (used_groups plan.groups) = p.rows ∙ cut.rows ∙ ap (λ (k : ℕ). 2 ^ k) (sym groups.total) in
    let col_bits = exponent_of wpr plan.col_bits 3 cut.choices p.col_bits in
    let bank_bits = exponent_of config.num_banks plan.bank_bits 2 cut.banks p.bank_bits in
    let addr_bits = exponent_of config.num_words plan.addr_bits 13 cut.words p.addr_bits in
    let few_choices = cut.choices.small in
    let few_banks = cut.banks.small in
    let bits = cut.bits in
    let total = groups.total in
    record {
      plan = record {
        words = subst (λ (n : ℕ). 0 < n) (sym p.word_size) ok.some_bits;
        rows = subst (λ (n : ℕ). n ≤ 256) (sym p.rows ∙ rows ∙ sym (power_of_two-is (total_bits (used_groups plan.groups)))) fits.few_rows;
        columns = subst (λ (n : ℕ). n ≤ 256) (λ i. sym p.word_size i * (sym p.col_bits ∙ sym (power_of_two-is plan.col_bits)) i) fits.few_columns;
        banks = omega (arith, bank_bits, few_banks);
        choices = omega (arith, col_bits, few_choices);
        sizes = groups.sizes;
        groups = groups.count;
        masks = subst (λ (n : ℕ). (n ≡ 0) ⊎ ((0 < plan.write_size) × (n * plan.write_size ≡ plan.word_size))) (sym p.masks)
            (subst (λ (z : ℕ). (masks_of config ≡ 0) ⊎ ((0 < z) × (masks_of config * z ≡ plan.word_size))) (sym p.write_size)
            (subst (λ (w : ℕ). (masks_of config ≡ 0) ⊎ ((0 < config.write_size) × (masks_of config * config.write_size ≡ w))) (sym p.word_size)
            (masks_fit (config.write_size == config.word_size) config.word_size config.write_size ok.some_written ok.written)));
      };
      rows = rows;
      wpr = p.wpr ∙ sym p.col_bits;
      banks = p.banks ∙ sym p.bank_bits;
      columns = p.columns ∙ (λ i. sym p.word_size i * sym p.wpr i);
      addr_bits = omega (arith, addr_bits, col_bits, bank_bits, bits, total);
      words = p.num_words ∙ words_are config wpr fits ∙ (λ i. sym p.banks i * (sym p.rows i * sym p.wpr i));
    }

-- The words in a row of a configuration's plan are among the listed counts.
words_listed : (config : Config) (wpr : ℕ) (o : Option ℕ) → IfSome o (λ w. IsOneOf w row_counts) → MatchOption o (IsNearest config candidates wpr) (λ given. (wpr ≡ given) × FitsBank config wpr) → IsOneOf wpr candidates × FitsBank config wpr
words_listed config wpr None listed chosen = (chosen.among, chosen.fits)
words_listed config wpr (Some given) listed chosen = (subst (λ (w : ℕ). IsOneOf w candidates) (sym chosen.0) listed, chosen.1)

-- so each plan of a configuration has the numbers of a plan
pub plan_numbers : (config : Config) (plan : Plan) → IsConfig config → IsPlanOf config plan → ArePlanNumbers (numbers_of plan)
plan_numbers config plan good of =
    let words = words_listed config plan.wpr config.words_per_row good.words_per_row of.chosen in
    numbers_are config plan.wpr plan good words.0 words.1 of.with
