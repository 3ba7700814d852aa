-- What the rows of a table say at a point.
use Rattle.std.specs.Prelude.{◌≡◌, ℕ, List, [], ◌∷◌, ◌++◌, map, codes, Bool, true, false, ◌&&◌, IsTrue, if◌then◌else◌}
use Rattle.std.specs.Prelude.{Option, None, Some, find}
use Rattle.cell_roles.specs.declared.leaf_role.LeafRole.{LeafRole}
use Rattle.cell_roles.specs.Acts.{Act}
use Rattle.cell_roles.specs.LeafRoles.{leaf_act}
use Rattle.cell_roles.specs.Tables.{TableRow, TablePoint, fits, next_bits}

abbrev pub point_with : List Bool → List Bool → TablePoint
point_with inputs stored = record { inputs = inputs; stored = stored }

-- the row fits the point's inputs and its stored bits
abbrev pub matches : TableRow → TablePoint → Bool
matches row point = fits row.looks point.inputs && fits row.stored point.stored

-- the first row that matches the point
abbrev pub first_match : List TableRow → TablePoint → Option TableRow
first_match rows point = find (λ row. matches row point) rows

-- both rows match some point
pub record MatchOnePoint (a b : TableRow) : Type 0 where
  pub point : TablePoint
  pub first : IsTrue (matches a point)
  pub second : IsTrue (matches b point)

-- what a row says where the stored bits are these
abbrev pub row_act : TableRow → List Bool → Act
row_act row stored = record { drives = row.drives; joins = row.joins; next = next_bits row.next stored }

-- what the first row that matches the point says, if one does
abbrev pub said_at : List TableRow → TablePoint → Option Act
said_at [] point = None
said_at (row ∷ rows) point = if matches row point then Some (row_act row point.stored) else said_at rows point

-- that is what a cell of the role does there
abbrev pub SaysAct : LeafRole → List TableRow → TablePoint → Type 0
SaysAct role rows point = said_at rows point ≡ Some (leaf_act role point.inputs point.stored)

-- both tables say something at the point, and the same
pub record SaySame (rows others : List TableRow) (point : TablePoint) : Type 0 where
  pub said : Act
  pub by_rows : said_at rows point ≡ Some said
  pub by_others : said_at others point ≡ Some said

abbrev pub bit_char : Bool → ℕ
bit_char false = 48
bit_char true = 49

-- a point as it is printed: IN/ST
abbrev pub point_text : TablePoint → List ℕ
point_text point = map bit_char point.inputs ++ (codes "/" ++ map bit_char point.stored)
