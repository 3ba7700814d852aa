-- Columns of a plan.
use Rattle.std.proofs.Common.{◌≡◌, ℕ, zero, suc, ◌-◌, ◌*◌, ◌<◌, ◌≤◌, ap, sym, subst, ◌∙◌, le_trans, arith}
use Rattle.std.proofs.Math.Nat.{suc-mul}
use Rattle.sram_netlist.specs.Organization.{words_per_row}
use Rattle.std.proofs.lemmas.Nat.{mul-le}
use Rattle.sram_netlist.specs.Numbers.{PlanNumbers, organization_of, ArePlanNumbers}
use Rattle.port_lists.proofs.NumberLaws.{columns_are, words_are}

-- columns are few
pub few_columns : (n : PlanNumbers) → ArePlanNumbers n → n.columns ≤ 256
few_columns n are = subst (λ (k : ℕ). k ≤ 256) (sym (columns_are n are)) are.plan.columns

-- the first column of a bit of the word
pub few_before : (n : PlanNumbers) → ArePlanNumbers n → (bit : ℕ) → bit < n.word_size → bit * n.wpr ≤ 256
few_before n are bit below =
    le_trans (mul-le bit n.wpr n.word_size n.wpr (omega (arith, below)) (omega arith)) (subst (λ (k : ℕ). k ≤ 256) are.columns (few_columns n are))

last_of : (w words columns : ℕ) → 0 < w → columns ≡ w * words → (columns - words ≡ (w - 1) * words) × (words ≤ columns)
last_of zero words columns some is = absurd (omega (arith, some))
last_of (suc m) words columns some is =
    let split = suc-mul m words in
    let less : m ≡ suc m - 1 = omega arith in
    let same : m * words ≡ (suc m - 1) * words = ap (λ (k : ℕ). k * words) less in
    let cut : columns - words ≡ m * words = omega (arith, is, split) in
    (cut ∙ same, omega (arith, is, split))

-- the first column of the last bit of the word
pub last_slice : (n : PlanNumbers) → ArePlanNumbers n → n.columns - n.wpr ≡ (n.word_size - 1) * words_per_row (organization_of n)
last_slice n are = (last_of n.word_size n.wpr n.columns are.plan.words are.columns).0 ∙ ap (λ (k : ℕ). (n.word_size - 1) * k) (words_are n are)

pub words_within : (n : PlanNumbers) → ArePlanNumbers n → n.wpr ≤ n.columns
words_within n are = (last_of n.word_size n.wpr n.columns are.plan.words are.columns).1
