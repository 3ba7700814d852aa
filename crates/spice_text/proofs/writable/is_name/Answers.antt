use Rattle.spice_text.proofs.TestLaws.{some_name}
use Rattle.spice_text.proofs.writable.is_name.Goals as goal

pub returns-then-not-is_empty : goal.returns-then-not-is_empty
returns-then-not-is_empty c = some_name c.args.name.now c.are_name_bytes.result c.if-not-is_empty.ensures c.are_name_bytes.ensures
