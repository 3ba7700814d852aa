use Rattle.sram_rows.proofs.Example.{premises}
use Rattle.sram_rows.proofs.laws.some_are_leaves_for.Goals as goal

pub returns : goal.returns
returns c = premises
