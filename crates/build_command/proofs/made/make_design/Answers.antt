use Rattle.build_command.proofs.GoodLaws.{design_written}
use Rattle.build_command.proofs.made.make_design.Goals as goal

pub make_ordered-requires-clause-held : goal.make_ordered-requires-clause-held
make_ordered-requires-clause-held g c = λ lifetimes within. design_written c.args.design c.requires.good
