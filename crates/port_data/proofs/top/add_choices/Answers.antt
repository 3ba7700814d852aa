-- None, or those of the multiplexers.
use Rattle.std.proofs.Common.{◌∙◌}
use Rattle.floorplan.specs.LayoutOfKit.{layout_kit}
use Rattle.port_data.proofs.FormulaLaws.{kept, none_chosen, all_chosen}
use Rattle.port_data.proofs.PortLaws.{mux_sel}
use Rattle.port_data.proofs.top.add_choices.Goals as goal

pub returns-then-col_bits-eq0 : goal.returns-then-col_bits-eq0
returns-then-col_bits-eq0 c = none_chosen c.args.col_bits (layout_kit c.args.kit.now) c.args.columns.now _ c.if-col_bits-eq0.true

pub returns : goal.returns
returns c = all_chosen c.args.col_bits (layout_kit c.args.kit.now) c.args.columns.now _ _ _ c.if-col_bits-eq0.false (kept c.pin_left.result c.pin_left.ensures.near ∙ c.pin_left.ensures.is 4 3 mux_sel) c.in_ok-add_column_choices.ensures
