-- What is wrong with the tables of a technology, and what of it comes first.
use Rattle.std.specs.Prelude.{◌≡◌, ◌≢◌, ◌⊎◌, ℕ, List, [], ◌∷◌, ◌++◌, map, length, All, Option, None, Some}
use Rattle.or_geom.specs.Gathering.{SomeHas}
use Rattle.tech_rules.specs.declared.tech.Tech.{Tech}
use Rattle.cell_roles.specs.declared.role.Role.{Role}
use Rattle.cell_roles.specs.declared.leaf_role.LeafRole.{LeafRole}
use Rattle.cell_roles.specs.declared.leaf_role.LeafRole.TheVariants.{Common}
use Rattle.cell_roles.specs.Roles.{all_roles}
use Rattle.cell_roles.specs.LeafRoles.{leaf_role_name, leaf_points}
use Rattle.cell_roles.specs.RowTexts.{row_text}
use Rattle.cell_roles.specs.Tables.{TableRow, TablePoint}
use Rattle.role_tables.specs.declared.fault.TableFault.{TableFault}
use Rattle.role_tables.specs.declared.fault.TableFault.TheVariants.{MissingRole, BadRow, Differs, Memory}
use Rattle.role_tables.specs.Point.{MatchOnePoint, SaysAct, point_text}
use Rattle.role_tables.specs.Table.{IsWrittenAs, AreApartRows, AreRoleRows, NamesCell, texts_of, HasTable}

-- after these rows the text is no row of the role, or one that matches a point that one of them matches
abbrev pub IsBadText : LeafRole → List TableRow → List ℕ → Type 0
IsBadText role before text = (row : TableRow) → IsWrittenAs role text row → SomeHas (MatchOnePoint row) before

-- the text with this index, from 0, is the first bad one
pub record IsFirstBadText (role : LeafRole) (texts : List (List ℕ)) (index : ℕ) : Type 0 where
  pub before : List TableRow
  pub text : List ℕ
  pub after : List (List ℕ)
  pub split : texts ≡ map row_text before ++ text ∷ after
  pub place : index ≡ length before
  pub apart : AreApartRows role before
  pub bad : IsBadText role before text

-- at the point that is printed so the rows don't say what a cell of the role does, and they do at each point before it
pub record IsFirstPoint (role : LeafRole) (rows : List TableRow) (printed : List ℕ) : Type 0 where
  pub before : List TablePoint
  pub point : TablePoint
  pub after : List TablePoint
  pub split : leaf_points role ≡ before ++ point ∷ after
  pub same : All (SaysAct role rows) before
  pub differs : SaysAct role rows point → ⊥
  pub is : printed ≡ point_text point

-- the rows say at each point what a cell of the role does, or the first point at which they don't is printed so
abbrev pub FindsPoint : LeafRole → List TableRow → Option (List ℕ) → Type 0
FindsPoint role rows None = All (SaysAct role rows) (leaf_points role)
FindsPoint role rows (Some printed) = IsFirstPoint role rows printed

-- the texts are rows, and the first point at which they differ is printed so
pub record IsFirstDiffering (role : LeafRole) (texts : List (List ℕ)) (printed : List ℕ) : Type 0 where
  pub rows : List TableRow
  pub written : AreRoleRows role texts rows
  pub first : IsFirstPoint role rows printed

-- there is a cell for the role, and rows
pub record HasRows (tech : Tech) (role : LeafRole) : Type 0 where
  pub cell : NamesCell tech role
  pub rows : texts_of tech.tables role ≢ []

-- there is no cell for the role, or there are no rows
abbrev pub LacksRole : Tech → LeafRole → Type 0
LacksRole tech role = (NamesCell tech role → ⊥) ⊎ (texts_of tech.tables role ≡ [])

-- what is wrong with the role comes first in this order: cell and rows are missing, a row is bad, a point differs
abbrev pub IsRoleFault : Tech → LeafRole → TableFault → Type 0
IsRoleFault tech role (MissingRole name) = (name ≡ leaf_role_name role) × LacksRole tech role
IsRoleFault tech role (BadRow name row) =
    (name ≡ leaf_role_name role) × HasRows tech role × IsFirstBadText role (texts_of tech.tables role) row
IsRoleFault tech role (Differs name point) =
    (name ≡ leaf_role_name role) × HasRows tech role × IsFirstDiffering role (texts_of tech.tables role) point
IsRoleFault tech role Memory = Unit {0}

-- the texts have a first bad one
abbrev pub IsRowsFault : LeafRole → List (List ℕ) → TableFault → Type 0
IsRowsFault role texts (MissingRole name) = ⊥
IsRowsFault role texts (BadRow name row) = (name ≡ leaf_role_name role) × IsFirstBadText role texts row
IsRowsFault role texts (Differs name point) = ⊥
IsRowsFault role texts Memory = Unit {0}

-- it is wrong with the first role of which anything is wrong
pub record IsTableFault (tech : Tech) (fault : TableFault) : Type 0 where
  pub before : List Role
  pub role : Role
  pub after : List Role
  pub split : all_roles ≡ before ++ role ∷ after
  pub good : All (λ (r : Role). HasTable tech (Common r)) before
  pub bad : IsRoleFault tech (Common role) fault
