use Rattle.port_lists.specs.Held.{held_of}
use Rattle.macro_build.proofs.AnswerLaws.{is_held}
use Rattle.macro_build.proofs.views.views.Goals as goal

pub gds_bytes-requires-clause-held : goal.gds_bytes-requires-clause-held
gds_bytes-requires-clause-held c =
    is_held c.args.order.now.kit.now c.args.order.now.plan.now (held_of c.args.order.now.contents) c.requires.plan c.requires.held c.requires.cells
