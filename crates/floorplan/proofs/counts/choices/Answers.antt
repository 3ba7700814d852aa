-- None, or a power of two.
use Rattle.std.proofs.Common.{◌∙◌}
use Rattle.floorplan.proofs.CountLaws.{counted, some_of}
use Rattle.floorplan.proofs.counts.choices.Goals as goal

pub returns-else-bits-eq0-clause-few : goal.returns-else-bits-eq0-clause-few
returns-else-bits-eq0-clause-few c = counted c.args.bits c.lines_of.result c.requires (c.lines_of.ensures.value ∙ some_of c.args.bits c.if-bits-eq0.false)

pub returns-else-bits-eq0-clause-value : goal.returns-else-bits-eq0-clause-value
returns-else-bits-eq0-clause-value c = c.lines_of.ensures.value ∙ some_of c.args.bits c.if-bits-eq0.false
