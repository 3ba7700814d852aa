use Rattle.macro_layout.proofs.MovedLaws.{column_channels_are_drawn, main_channels_are_drawn}
use Rattle.macro_layout.proofs.laws.channels_are_drawn.Goals as goal

pub returns-clause-column : goal.returns-clause-column
returns-clause-column c = column_channels_are_drawn

pub returns-clause-main : goal.returns-clause-main
returns-clause-main c = main_channels_are_drawn
