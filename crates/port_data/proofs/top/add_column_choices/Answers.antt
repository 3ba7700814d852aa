-- The choice at one column more.
use Rattle.std.proofs.Common.{◌++◌, ℤ, to_z, of_z, w64, ap, ◌∙◌, arith}
use Rattle.sram_netlist.specs.InstanceList.{tabulate}
use Rattle.port_data.proofs.FormulaLaws.{kept}
use Rattle.port_lists.proofs.TabulateLaws.{grown_as, all_of}
use Rattle.port_data.specs.Pins.{column_choice}
use Rattle.port_data.proofs.top.add_column_choices.Goals as goal

pub loop-column-preserved : goal.loop-column-preserved
loop-column-preserved c = grown_as _ _ _ _ c.loop-column.column (column_choice c.args.columns.now (to_z w64 (of_z w64 c.args.left))) c.loop-column.invariant c.in_ok-push.ensures.items c.pin_in.ensures

pub returns : goal.returns
returns c =
    let made = all_of c.args.pins.now.items c.loop-column.pins.items c.loop-column.column c.args.columns.now.count (column_choice c.args.columns.now (to_z w64 (of_z w64 c.args.left))) c.loop-column.invariant (omega arith) in
    made ∙ ap (λ (z : ℤ). c.args.pins.now.items ++ tabulate c.args.columns.now.count (column_choice c.args.columns.now z)) (kept c.args.left c.requires.left)
