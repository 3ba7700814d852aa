-- The lines at one sense cell more.
use Rattle.std.proofs.Common.{◌≡◌, ℕ, [], ap, ◌∙◌, arith}
use Rattle.sram_netlist.specs.InstanceList.{tabulate_lists}
use Rattle.port_lists.proofs.TabulateLaws.{grown_by_list}
use Rattle.port_data.specs.declared.lines.LineEnds.{LineEnds}
use Rattle.port_data.specs.Pins.{sense_lines}
use Rattle.port_data.proofs.bottom.bottom_pins.Goals as goal

pub loop-bit-preserved : goal.loop-bit-preserved
loop-bit-preserved c = grown_by_list [] _ _ c.loop-bit.bit (sense_lines c.args.columns.now c.sense_ends-ends.result) c.loop-bit.invariant c.in_ok-add_lines.ensures

pub returns : goal.returns
returns c =
    let far : c.loop-bit.bit ≡ c.args.columns.now.bits = omega arith in
    c.loop-bit.invariant ∙ (ap (λ (k : ℕ). tabulate_lists k (sense_lines c.args.columns.now c.sense_ends-ends.result)) far ∙ ap (λ (e : LineEnds). tabulate_lists c.args.columns.now.bits (sense_lines c.args.columns.now e)) c.sense_ends-ends.ensures.is)
