use Rattle.verilog_laws.proofs.CycleLaws.{memories_answer}
use Rattle.verilog_laws.proofs.laws.memories_answer.Goals as goal

pub returns : goal.returns
returns c = memories_answer
