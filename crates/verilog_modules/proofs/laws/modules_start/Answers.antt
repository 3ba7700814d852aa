use Rattle.verilog_modules.proofs.EdgeLaws.{modules_start}
use Rattle.verilog_modules.proofs.laws.modules_start.Goals as goal

pub returns : goal.returns
returns c = modules_start
