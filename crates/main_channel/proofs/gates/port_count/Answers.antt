-- There are few ports.
use Rattle.std.proofs.Common.{arith}
use Rattle.sram_plan.specs.PlanNumbers.{organization}
use Rattle.main_channel.proofs.CountLaws.{few_ports}
use Rattle.main_channel.proofs.gates.port_count.Goals as goal

pub overflow_add-result : goal.overflow_add-result
overflow_add-result c = let few = few_ports (organization c.args.plan.now) c.requires.plan in let bits = c.requires.addr_bits in omega (arith, few, bits)

pub overflow_add-result-2 : goal.overflow_add-result-2
overflow_add-result-2 c = let few = few_ports (organization c.args.plan.now) c.requires.plan in let bits = c.requires.addr_bits in omega (arith, few, bits)

pub overflow_add-result-3 : goal.overflow_add-result-3
overflow_add-result-3 c = let few = few_ports (organization c.args.plan.now) c.requires.plan in let bits = c.requires.addr_bits in omega (arith, few, bits)

pub overflow_add-result-4 : goal.overflow_add-result-4
overflow_add-result-4 c = let few = few_ports (organization c.args.plan.now) c.requires.plan in let bits = c.requires.addr_bits in omega (arith, few, bits)

pub overflow_add-result-5 : goal.overflow_add-result-5
overflow_add-result-5 c = let few = few_ports (organization c.args.plan.now) c.requires.plan in let bits = c.requires.addr_bits in omega (arith, few, bits)

pub returns-clause-few : goal.returns-clause-few
returns-clause-few c = let few = few_ports (organization c.args.plan.now) c.requires.plan in let bits = c.requires.addr_bits in omega (arith, few, bits)
