-- The table that a technology has for a role.
use Rattle.std.specs.Prelude.{◌≡◌, ℕ, List, [], ◌∷◌, map, length, All, AllPairs, if◌then◌else◌}
use Rattle.std.specs.Str.{bytes_eq}
use Rattle.or_geom.specs.Gathering.{SomeHas}
use Rattle.tech_rules.specs.declared.tech.RoleName.{RoleName}
use Rattle.tech_rules.specs.declared.tech.RoleRows.{RoleRows}
use Rattle.tech_rules.specs.declared.tech.Tech.{Tech}
use Rattle.cell_roles.specs.declared.role.Role.{Role}
use Rattle.cell_roles.specs.declared.leaf_role.LeafRole.{LeafRole}
use Rattle.cell_roles.specs.declared.leaf_role.LeafRole.TheVariants.{Common}
use Rattle.cell_roles.specs.LeafRoles.{leaf_role_name, leaf_inputs, leaf_stored, leaf_driven, leaf_joined, leaf_points}
use Rattle.cell_roles.specs.RowTexts.{row_text}
use Rattle.cell_roles.specs.Tables.{TableRow}
use Rattle.role_tables.specs.Point.{MatchOnePoint, SaysAct}

-- the row has a character for each input, stored bit, driven pin, joined pair and next stored bit of the role
pub record HasWidths (role : LeafRole) (row : TableRow) : Type 0 where
  pub looks : length row.looks ≡ length (leaf_inputs role)
  pub stored : length row.stored ≡ length (leaf_stored role)
  pub drives : length row.drives ≡ length (leaf_driven role)
  pub joins : length row.joins ≡ length (leaf_joined role)
  pub next : length row.next ≡ length (leaf_stored role)

-- the text is this row of the role
pub record IsWrittenAs (role : LeafRole) (text : List ℕ) (row : TableRow) : Type 0 where
  pub widths : HasWidths role row
  pub is : text ≡ row_text row

-- rows of the role, no two of which match one point
pub record AreApartRows (role : LeafRole) (rows : List TableRow) : Type 0 where
  pub widths : All (HasWidths role) rows
  pub apart : AllPairs (λ a b. MatchOnePoint a b → ⊥) rows

-- the texts are these rows of the role
pub record AreRoleRows (role : LeafRole) (texts : List (List ℕ)) (rows : List TableRow) : Type 0 where
  pub are : texts ≡ map row_text rows
  pub apart : AreApartRows role rows

-- The texts are rows of the role, no two of which match one point, and at each point the first that matches says what a
-- cell of the role does.
pub record AreTable (role : LeafRole) (texts : List (List ℕ)) : Type 0 where
  pub rows : List TableRow
  pub written : AreRoleRows role texts rows
  pub acts : All (SaysAct role rows) (leaf_points role)

-- the technology names a cell for the role
abbrev pub NamesCell : Tech → LeafRole → Type 0
NamesCell tech role = SomeHas (λ (entry : RoleName). entry.role ≡ leaf_role_name role) tech.roles

-- the rows that stand under the role, as they are written; none where nothing does
abbrev pub texts_of : List RoleRows → LeafRole → List (List ℕ)
texts_of [] role = []
texts_of (table ∷ tables) role = if bytes_eq table.role (leaf_role_name role) then table.rows else texts_of tables role

-- the technology has a cell for the role, and a table that says what such a cell does
pub record HasTable (tech : Tech) (role : LeafRole) : Type 0 where
  pub cell : NamesCell tech role
  pub table : AreTable role (texts_of tech.tables role)

-- it has so for each role of a read-write memory
abbrev pub HasTables : Tech → Type 0
HasTables tech = (role : Role) → HasTable tech (Common role)
