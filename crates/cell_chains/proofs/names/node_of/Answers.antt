-- In strict order an equal name is found, and where none is found all before the place are less and all after it greater.
use Rattle.cell_chains.proofs.NameLaws.{found_node, not_found}
use Rattle.cell_chains.proofs.names.node_of.Goals as goal

pub returns-in-Ok-clause-found : goal.returns-in-Ok-clause-found
returns-in-Ok-clause-found c = found_node c.args.names.now c.args.name c.in-Ok.node c.in-Ok.ensures.bound c.in-Ok.ensures.ok

pub returns-in-Err-clause-none : goal.returns-in-Err-clause-none
returns-in-Err-clause-none c = not_found c.args.names.now c.args.name c.in-Err.field-0 c.requires c.in-Err.ensures.position
