-- How a memory is organised: words, banks, rows and columns.
use Rattle.std.specs.Prelude.{◌≡◌, ℕ, zero, suc, ◌+◌, ◌*◌, ◌<◌, ◌≤◌, ◌⊎◌, List, [], ◌∷◌, length}
use Rattle.std.specs.List.{AllByRecursion}

-- A word has word_size bits. Masks cut it into parts of write_size bits (masks is 0 where words are written whole). Where
-- write_size is 0 nothing is written: the memory is read-only. There are 2^bank_bits banks. The row bits of an address are cut
-- into groups, given by their sizes, low bits first; a row holds 2^col_bits words.
pub record Organization : Type 0 where
  pub word_size : ℕ
  pub write_size : ℕ
  pub masks : ℕ
  pub bank_bits : ℕ
  pub col_bits : ℕ
  pub groups : List ℕ

abbrev pub total_bits : List ℕ → ℕ
total_bits [] = 0
total_bits (b ∷ bs) = b + total_bits bs

abbrev pub power_of_two : ℕ → ℕ
power_of_two zero = 1
power_of_two (suc n) = 2 * power_of_two n

-- rows and columns of one bank
abbrev pub bank_rows : Organization → ℕ
bank_rows plan = power_of_two (total_bits plan.groups)

abbrev pub words_per_row : Organization → ℕ
words_per_row plan = power_of_two plan.col_bits

abbrev pub columns_of : Organization → ℕ
columns_of plan = plan.word_size * words_per_row plan

abbrev pub banks_of : Organization → ℕ
banks_of plan = power_of_two plan.bank_bits

-- an address: the column choice lowest, then the row, then the bank, whose lowest bit this is
abbrev pub bank_bit : Organization → ℕ
bank_bit plan = plan.col_bits + total_bits plan.groups

abbrev pub addr_bits : Organization → ℕ
addr_bits plan = bank_bit plan + plan.bank_bits

-- something is written
abbrev pub IsWritten : Organization → Type 0
IsWritten plan = 0 < plan.write_size

-- so many where a write has bits, else none
abbrev pub written_bits : ℕ → ℕ → ℕ
written_bits zero n = 0
written_bits (suc write_size) n = n

-- the data bits that are written
abbrev pub inputs_of : Organization → ℕ
inputs_of plan = written_bits plan.write_size plan.word_size

-- a group has two or three bits
abbrev pub IsGroupSize : ℕ → Type 0
IsGroupSize b = (b ≡ 2) ⊎ (b ≡ 3)

-- an organisation that the compiler makes
pub record IsBuildable (plan : Organization) : Type 0 where
  pub words : 0 < plan.word_size
  pub rows : bank_rows plan ≤ 256
  pub columns : columns_of plan ≤ 256
  pub banks : plan.bank_bits ≤ 2
  pub choices : plan.col_bits ≤ 3
  pub sizes : AllByRecursion IsGroupSize plan.groups
  pub groups : (length plan.groups ≡ 2) ⊎ (length plan.groups ≡ 3)
  pub masks : (plan.masks ≡ 0) ⊎ ((0 < plan.write_size) × (plan.masks * plan.write_size ≡ plan.word_size))
