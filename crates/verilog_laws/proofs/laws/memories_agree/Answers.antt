use Rattle.verilog_laws.proofs.AgreeLaws.{memories_agree}
use Rattle.verilog_laws.proofs.laws.memories_agree.Goals as goal

pub returns : goal.returns
returns c = memories_agree
