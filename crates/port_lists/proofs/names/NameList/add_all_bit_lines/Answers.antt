-- A bank has as many columns as the plan says.
use Rattle.sram_plan.specs.PlanNumbers.{numbers_of}
use Rattle.port_lists.proofs.NumberLaws.{columns_are}
use Rattle.port_lists.proofs.names.NameList.add_all_bit_lines.Goals as goal

pub returns : goal.returns
returns c = rw (columns_are (numbers_of c.args.plan.now) c.requires) at c.add_bit_lines.ensures
