-- The lines, and then the choices.
use Rattle.std.proofs.Common.{◌++◌, List, ap, ◌∙◌}
use Rattle.channel_router.specs.declared.channel.ChannelPin.{ChannelPin}
use Rattle.sram_netlist.specs.InstanceList.{tabulate_lists}
use Rattle.port_data.specs.declared.lines.LineEnds.{LineEnds}
use Rattle.port_data.specs.Pins.{choice_pins, column_lines}
use Rattle.floorplan.specs.LayoutOfKit.{layout_kit}
use Rattle.port_data.proofs.top.top_pins.Goals as goal

pub returns : goal.returns
returns c =
    let chosen = choice_pins c.args.col_bits (layout_kit c.args.kit.now) c.args.columns.now in
    c.in_ok-add_choices.ensures
    ∙ (ap (λ (l : List ChannelPin). l ++ chosen) (c.in_ok-add_column_lines.ensures ∙ ap (λ (l : List ChannelPin). l ++ tabulate_lists c.args.columns.now.count (column_lines c.args.columns.now c.column_ends.result)) c.new-pins.ensures.items)
    ∙ ap (λ (e : LineEnds). tabulate_lists c.args.columns.now.count (column_lines c.args.columns.now e) ++ chosen) c.column_ends.ensures.is)
