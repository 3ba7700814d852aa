use Rattle.row_laws.proofs.NumberingLaws.{deck_rows}
use Rattle.row_laws.proofs.rows_are_numbered.Goals as goal

pub returns : goal.returns
returns c subckts top leaves index = let s = deck_rows subckts top leaves index in (s.rows, s.numbered)
