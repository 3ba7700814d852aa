-- A name more.
use Rattle.std.proofs.Common.{[], arith}
use Rattle.port_lists.specs.Held.{held_of}
use Rattle.port_lists.proofs.TabulateLaws.{grown_as, all_of}
use Rattle.sram_netlist.specs.BitCells.{row_name, row_kinds}
use Rattle.sram_netlist.specs.Organization.{bank_rows}
use Rattle.sram_plan.specs.PlanNumbers.{organization}
use Rattle.sram_macro.specs.Macro.{macro_bits}
use Rattle.sram_macro.proofs.names.row_names.Goals as goal

pub loop-row-preserved : goal.loop-row-preserved
loop-row-preserved c =
    let bits = macro_bits c.args.kit.now c.args.plan.now (held_of c.args.contents) in
    grown_as [] _ _ _ c.loop-row.row (row_name bits c.args.name.now) c.loop-row.invariant c.in_ok-push.ensures.items (c.in_ok-row_name.ensures c.args.kit.now.tech.roles)

pub returns : goal.returns
returns c =
    let bits = macro_bits c.args.kit.now c.args.plan.now (held_of c.args.contents) in
    all_of [] _ c.loop-row.row (row_kinds bits (bank_rows (organization c.args.plan.now))) (row_name bits c.args.name.now) c.loop-row.invariant (omega (arith, c.row_kinds-row-end.ensures c.args.kit.now.tech.roles))
