-- What the first structure of a name, or that there is none, says of the elements of that name.
use Rattle.std.proofs.Common.{sym, ◌∙◌}
use Rattle.cell_chains.proofs.FirstLaws.{has_none, read_first}
use Rattle.cell_chains.proofs.nodes.elements_at.Goals as goal

pub returns-in-Some : goal.returns-in-Some
returns-in-Some c = λ name is. c.as_slice.ensures ∙ read_first c.args.structs.now name c.in-Some.place c.index-structs-place.result (sym is ∙ c.in-Some.is)

pub returns-in-None : goal.returns-in-None
returns-in-None c = λ name is. sym (has_none 0 c.args.structs.now name (sym is ∙ c.in-None.is)).none
