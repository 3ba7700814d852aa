use Rattle.sram_netlist.specs.Organization.{words_per_row}
use Rattle.sram_plan.specs.PlanNumbers.{organization}
use Rattle.or_geom.specs.Adds.{Adds}
use Rattle.bank_layout.specs.Outputs.{IsOutputBelow}
use Rattle.bank_layout.proofs.outputs.add_outputs.Given as goal

abbrev pub invariant-loop-bit : goal.invariant-loop-bit
invariant-loop-bit l = Adds l.fn.shapes.items l.shapes.items (IsOutputBelow l.wire l.first (words_per_row (organization l.plan)) l.width l.top l.bit)
