use Rattle.label_binding.proofs.BindLaws.{bound}
use Rattle.label_binding.proofs.bind.bound_shape.Goals as goal

pub returns : goal.returns
returns c = bound c.args.bins.now c.args.label c.first_at.result c.first_at.ensures
