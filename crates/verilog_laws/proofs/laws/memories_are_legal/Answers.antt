use Rattle.verilog_laws.proofs.LegalLaws.{memories_are_legal}
use Rattle.verilog_laws.proofs.laws.memories_are_legal.Goals as goal

pub returns : goal.returns
returns c = memories_are_legal
