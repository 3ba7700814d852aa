use Rattle.verilog_modules.proofs.TreeLaws.{one_tree}
use Rattle.verilog_modules.proofs.laws.one_tree.Goals as goal

pub returns : goal.returns
returns c = one_tree
