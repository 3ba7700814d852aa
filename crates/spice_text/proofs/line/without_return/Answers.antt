use Rattle.std.proofs.Common.{eq-eqb}
use Rattle.std.proofs.lemmas.Bool.{ne_eqb}
use Rattle.spice_text.proofs.LineLaws.{stripped, unstripped}
use Rattle.spice_text.proofs.line.without_return.Goals as goal

pub returns-then-last-eq13 : goal.returns-then-last-eq13
returns-then-last-eq13 c = stripped c.args.text.now c.in-Some.front.now c.in-Some.last.now c.in-Some.ensures.cases.0 (eq-eqb c.in-Some.last.now 13 c.if-last-eq13.true)

pub returns : goal.returns
returns c = unstripped c.args.text.now c.in-Some.front.now c.in-Some.last.now c.in-Some.ensures.cases.0 (ne_eqb c.in-Some.last.now 13 c.if-last-eq13.false)
