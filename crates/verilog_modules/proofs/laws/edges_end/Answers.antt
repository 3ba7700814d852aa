use Rattle.verilog_modules.proofs.EdgeLaws.{edges_end}
use Rattle.verilog_modules.proofs.laws.edges_end.Goals as goal

pub returns : goal.returns
returns c = edges_end
