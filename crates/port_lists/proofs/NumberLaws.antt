-- The numbers of a plan are those of its organisation.
use Rattle.std.proofs.Common.{◌≡◌, ℕ, ◌*◌, ap, sym, ◌∙◌}
use Rattle.sram_netlist.specs.Organization.{columns_of, bank_rows, total_bits, banks_of, words_per_row, addr_bits}
use Rattle.sram_netlist.specs.Numbers.{PlanNumbers, organization_of, ArePlanNumbers}
use Rattle.memory_laws.proofs.Decode.{twice_power}

pub columns_are : (n : PlanNumbers) → ArePlanNumbers n → n.columns ≡ columns_of (organization_of n)
columns_are n are = are.columns ∙ ap (λ (w : ℕ). n.word_size * w) (are.wpr ∙ sym (twice_power n.col_bits))

pub rows_are : (n : PlanNumbers) → ArePlanNumbers n → n.rows ≡ bank_rows (organization_of n)
rows_are n are = are.rows ∙ sym (twice_power (total_bits n.groups))

pub banks_are : (n : PlanNumbers) → ArePlanNumbers n → n.banks ≡ banks_of (organization_of n)
banks_are n are = are.banks ∙ sym (twice_power n.bank_bits)

pub words_are : (n : PlanNumbers) → ArePlanNumbers n → n.wpr ≡ words_per_row (organization_of n)
words_are n are = are.wpr ∙ sym (twice_power n.col_bits)

pub bits_are : (n : PlanNumbers) → ArePlanNumbers n → n.addr_bits ≡ addr_bits (organization_of n)
bits_are n are = are.addr_bits
