use Rattle.std.proofs.Common.{sym, subst}
use Rattle.spice_text.specs.Writable.{AreWritable}
use Rattle.port_lists.specs.Held.{held_of}
use Rattle.macro_build.proofs.NetlistLaws.{can_be_written}
use Rattle.macro_build.proofs.views.joined_text.Goals as goal

pub write_spice-requires : goal.write_spice-requires
write_spice-requires c =
    subst AreWritable (sym c.as_slice.ensures)
    (can_be_written c.cells_are_names.ensures c.written_subckts_are_writable.ensures c.args.order.now.kit.now c.args.order.now.plan.now (held_of c.args.order.now.contents) c.args.order.now.name.now c.args.made.now c.requires.kit c.requires.plan c.requires.name c.requires.made)
