use Rattle.verilog_laws.proofs.TextLaws.{texts_are_memories}
use Rattle.verilog_laws.proofs.laws.texts_are_memories.Goals as goal

pub returns : goal.returns
returns c = texts_are_memories
