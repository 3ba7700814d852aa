use Rattle.port_lists.specs.Held.{held_of}
use Rattle.macro_build.proofs.NetlistLaws.{read_in_lower_case, read_netlist}
use Rattle.macro_build.proofs.views.spice_text.Goals as goal

pub returns-clause-read : goal.returns-clause-read
returns-clause-read c =
    read_in_lower_case c.cells_are_names.ensures c.written_subckts_are_read.ensures c.args.order.now.kit.now c.args.order.now.plan.now (held_of c.args.order.now.contents) c.args.order.now.name.now c.args.made.now c.in_ok-joined_text.field-0.items
    c.requires.kit c.requires.plan c.requires.name c.requires.made c.in_ok-joined_text.ensures

pub returns-clause-netlist : goal.returns-clause-netlist
returns-clause-netlist c =
    read_netlist c.rows_equal_netlist.ensures c.args.order.now.kit.now c.args.order.now.plan.now (held_of c.args.order.now.contents) c.args.order.now.name.now c.args.made.now c.in_ok-joined_text.field-0.items c.requires.plan c.requires.made
    (read_in_lower_case c.cells_are_names.ensures c.written_subckts_are_read.ensures c.args.order.now.kit.now c.args.order.now.plan.now (held_of c.args.order.now.contents) c.args.order.now.name.now c.args.made.now c.in_ok-joined_text.field-0.items
    c.requires.kit c.requires.plan c.requires.name c.requires.made c.in_ok-joined_text.ensures)
