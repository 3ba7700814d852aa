use Rattle.std.proofs.Common.{arith}
use Rattle.sram_netlist.proofs.Bounds.{twice_up}
use Rattle.macro_build.proofs.counts.line_count.Goals as goal

pub returns-else-bits-eq0-clause-few : goal.returns-else-bits-eq0-clause-few
returns-else-bits-eq0-clause-few c =
    let few = twice_up c.args.bits 3 c.requires in
    let is = c.lines_of.ensures.value in
    let same = c.from.ensures in
    omega (arith, few, is, same)
