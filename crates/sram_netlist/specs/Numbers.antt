-- The numbers of a plan as the program holds them, and the organisation that they are of.
use Rattle.std.specs.Prelude.{◌≡◌, ℕ, ◌+◌, ◌*◌, ◌^◌, List}
use Rattle.sram_netlist.specs.Organization.{Organization, IsBuildable, total_bits}

-- num_words counts the words of all banks, rows and columns are those of one, groups are those that are used
pub record PlanNumbers : Type 0 where
  pub word_size : ℕ
  pub write_size : ℕ
  pub masks : ℕ
  pub banks : ℕ
  pub num_words : ℕ
  pub wpr : ℕ
  pub rows : ℕ
  pub columns : ℕ
  pub addr_bits : ℕ
  pub col_bits : ℕ
  pub bank_bits : ℕ
  pub groups : List ℕ

abbrev pub organization_of : PlanNumbers → Organization
organization_of n = record { word_size = n.word_size; write_size = n.write_size; masks = n.masks; bank_bits = n.bank_bits; col_bits = n.col_bits; groups = n.groups }

-- the numbers are those of an organisation that the compiler makes
pub record ArePlanNumbers (n : PlanNumbers) : Type 0 where
  pub plan : IsBuildable (organization_of n)
  pub rows : n.rows ≡ 2 ^ total_bits n.groups
  pub wpr : n.wpr ≡ 2 ^ n.col_bits
  pub banks : n.banks ≡ 2 ^ n.bank_bits
  pub columns : n.columns ≡ n.word_size * n.wpr
  pub addr_bits : n.addr_bits ≡ n.col_bits + total_bits n.groups + n.bank_bits
  pub words : n.num_words ≡ n.banks * (n.rows * n.wpr)
