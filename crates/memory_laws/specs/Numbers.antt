-- The numbers that a program holds of a plan cut an address as the netlist does.
use Rattle.std.specs.Prelude.{◌≡◌, ℕ, ◌/◌, ◌%◌, [], ◌∷◌}
use Rattle.sram_netlist.specs.Organization.{bank_rows, columns_of, banks_of, words_per_row, addr_bits}
use Rattle.sram_netlist.specs.Numbers.{PlanNumbers, organization_of, ArePlanNumbers}
use Rattle.memory_laws.specs.Run.{num_words, bank_of, row_of, choice_of}

-- the plan's numbers are those, and an address is cut by them
pub record AgreeWith (n : PlanNumbers) : Type 0 where
  pub rows : n.rows ≡ bank_rows (organization_of n)
  pub wpr : n.wpr ≡ words_per_row (organization_of n)
  pub banks : n.banks ≡ banks_of (organization_of n)
  pub columns : n.columns ≡ columns_of (organization_of n)
  pub addr_bits : n.addr_bits ≡ addr_bits (organization_of n)
  pub words : n.num_words ≡ num_words (organization_of n)
  pub bank : (a : ℕ) → a / (n.num_words / n.banks) ≡ bank_of (organization_of n) a
  pub row : (a : ℕ) → a % (n.num_words / n.banks) / n.wpr ≡ row_of (organization_of n) a
  pub choice : (a : ℕ) → a % (n.num_words / n.banks) % n.wpr ≡ choice_of (organization_of n) a

-- 8 bits and 512 words in two banks of 64 rows of 4 words; 4 bits with 2 masks, 16 words in one bank
abbrev pub banked_numbers : PlanNumbers
banked_numbers = record { word_size = 8; write_size = 8; masks = 0; banks = 2; num_words = 512; wpr = 4; rows = 64; columns = 32; addr_bits = 9; col_bits = 2; bank_bits = 1; groups = 3 ∷ 3 ∷ [] }

abbrev pub masked_numbers : PlanNumbers
masked_numbers = record { word_size = 4; write_size = 2; masks = 2; banks = 1; num_words = 16; wpr = 1; rows = 16; columns = 4; addr_bits = 4; col_bits = 0; bank_bits = 0; groups = 2 ∷ 2 ∷ [] }

pub record NumbersAgree : Type 0 where
  pub agree : (n : PlanNumbers) → ArePlanNumbers n → AgreeWith n
  pub banked : ArePlanNumbers banked_numbers
  pub masked : ArePlanNumbers masked_numbers
