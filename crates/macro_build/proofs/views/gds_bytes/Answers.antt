use Rattle.std.proofs.Common.{◌≤◌, ◌^◌, length, arith}
use Rattle.port_lists.specs.Held.{held_of}
use Rattle.macro_build.proofs.LayoutLaws.{spells_covered, spells_sound}
use Rattle.macro_build.proofs.views.gds_bytes.Goals as goal

pub returns-clause-layout : goal.returns-clause-layout
returns-clause-layout c =
    let bytes = c.in_ok-write_gds.field-0 in
    let few : length bytes.items ≤ 2 ^ 64 = omega arith in
    spells_sound c.writing_keeps_flat.ensures c.macros_are_stated.ensures c.rows_equal_netlist.ensures c.args._order.now.kit.now c.args._order.now.plan.now (held_of c.args._order.now.contents) c.args._order.now.name.now c.args.made.now bytes.items
    c.requires.kit c.requires.plan c.requires.held c.requires.sound few c.in_ok-write_gds.ensures.spells

pub returns-clause-covered : goal.returns-clause-covered
returns-clause-covered c =
    let bytes = c.in_ok-write_gds.field-0 in
    let few : length bytes.items ≤ 2 ^ 64 = omega arith in
    spells_covered c.writing_keeps_flat.ensures c.macros_are_stated.ensures c.lef_covers_layout.ensures c.args._order.now.kit.now c.args._order.now.plan.now (held_of c.args._order.now.contents) c.args._order.now.name.now c.args.made.now bytes.items
    c.requires.kit c.requires.plan c.requires.held c.requires.sound.clean.is few c.in_ok-write_gds.ensures.spells
