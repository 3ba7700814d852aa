use Rattle.verilog_laws.proofs.AgreeLaws.{memories_run}
use Rattle.verilog_laws.proofs.laws.memories_run.Goals as goal

pub returns : goal.returns
returns c = memories_run
