-- A plan's numbers as the netlist's definitions have them: groups are those that are used.
use Rattle.std.specs.Prelude.{ℕ, List, filter, nat_lt}
use Rattle.sram_netlist.specs.Numbers.{PlanNumbers, organization_of}
use Rattle.sram_netlist.specs.Organization.{Organization}
use Rattle.sram_plan.specs.declared.numbers.Plan.{Plan}

-- the groups without zeros
abbrev pub used_groups : List ℕ → List ℕ
used_groups groups = filter (λ b. nat_lt 0 b) groups

abbrev pub numbers_of : Plan → PlanNumbers
numbers_of plan = record {
  word_size = plan.word_size;
  write_size = plan.write_size;
  masks = plan.masks;
  banks = plan.banks;
  num_words = plan.num_words;
  wpr = plan.wpr;
  rows = plan.rows;
  columns = plan.columns;
  addr_bits = plan.addr_bits;
  col_bits = plan.col_bits;
  bank_bits = plan.bank_bits;
  groups = used_groups plan.groups;
}

-- the plan of the memory of the same numbers in which nothing is written
abbrev pub read_only_plan : Plan → Plan
read_only_plan plan = record {
  word_size = plan.word_size;
  write_size = 0;
  masks = plan.masks;
  banks = plan.banks;
  num_words = plan.num_words;
  wpr = plan.wpr;
  rows = plan.rows;
  columns = plan.columns;
  addr_bits = plan.addr_bits;
  col_bits = plan.col_bits;
  bank_bits = plan.bank_bits;
  groups = plan.groups;
}

-- the organisation of a plan
abbrev pub organization : Plan → Organization
organization plan = organization_of (numbers_of plan)
