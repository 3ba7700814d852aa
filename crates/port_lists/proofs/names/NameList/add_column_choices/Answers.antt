-- None, or one for each word of a row.
use Rattle.port_lists.proofs.PortLaws.{some_choices}
use Rattle.port_lists.proofs.names.NameList.add_column_choices.Goals as goal

pub returns : goal.returns
returns c = rw (some_choices c.args.plan.now.col_bits c.args.plan.now.wpr c.if-plan-eq0.false c.requires.wpr) c.add_numbered.ensures
