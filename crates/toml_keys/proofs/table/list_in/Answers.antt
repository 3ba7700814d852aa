use Rattle.toml_keys.proofs.DocumentLaws.{found_list}
use Rattle.toml_keys.proofs.table.list_in.Goals as goal

pub returns-in-Some : goal.returns-in-Some
returns-in-Some c = rw c.as_slice.ensures.value (found_list _ _ c.in-Some.ensures)
