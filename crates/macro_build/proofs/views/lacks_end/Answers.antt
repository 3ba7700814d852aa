use Rattle.macro_build.proofs.NetlistLaws.{lf_last}
use Rattle.macro_build.proofs.views.lacks_end.Goals as goal

pub returns-in-Some : goal.returns-in-Some
returns-in-Some c = lf_last c.args.text.now c.in-Some.last.now c.in-Some.ensures.value
