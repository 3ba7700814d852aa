-- The bits of an address are those of the plan.
use Rattle.std.proofs.Common.{arith}
use Rattle.sram_plan.specs.PlanNumbers.{numbers_of}
use Rattle.port_lists.proofs.NumberLaws.{bits_are}
use Rattle.sram_macro.proofs.assembly.inputs_of.Goals as goal

pub returns : goal.returns
returns c = let bits = bits_are (numbers_of c.args.plan.now) c.requires in omega (arith, bits)
