-- Points that two rows match.
use Rattle.std.proofs.lemmas.Bool.{and_parts, and_from}
use Rattle.cell_roles.specs.Tables.{TableRow, fits}
use Rattle.role_tables.specs.Columns.{FitOne}
use Rattle.role_tables.specs.Point.{MatchOnePoint}

pub match_one : (a b : TableRow) → FitOne a.looks b.looks → FitOne a.stored b.stored → MatchOnePoint a b
match_one a b looks stored = record {
  point = record { inputs = looks.values; stored = stored.values };
  first = and_from (fits a.looks looks.values) (fits a.stored stored.values) looks.first stored.first;
  second = and_from (fits b.looks looks.values) (fits b.stored stored.values) looks.second stored.second;
}

pub looks_one : (a b : TableRow) → MatchOnePoint a b → FitOne a.looks b.looks
looks_one a b both = record {
  values = both.point.inputs;
  first = (and_parts (fits a.looks both.point.inputs) (fits a.stored both.point.stored) both.first).0;
  second = (and_parts (fits b.looks both.point.inputs) (fits b.stored both.point.stored) both.second).0;
}

pub stored_one : (a b : TableRow) → MatchOnePoint a b → FitOne a.stored b.stored
stored_one a b both = record {
  values = both.point.stored;
  first = (and_parts (fits a.looks both.point.inputs) (fits a.stored both.point.stored) both.first).1;
  second = (and_parts (fits b.looks both.point.inputs) (fits b.stored both.point.stored) both.second).1;
}
