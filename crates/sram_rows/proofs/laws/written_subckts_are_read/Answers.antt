use Rattle.sram_rows.proofs.WritableLaws.{written_are_read}
use Rattle.sram_rows.proofs.laws.written_subckts_are_read.Goals as goal

pub returns : goal.returns
returns c = written_are_read
