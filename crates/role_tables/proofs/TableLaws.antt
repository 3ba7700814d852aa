-- The tables of a technology, role by role.
use Rattle.std.proofs.Common.{◌≡◌, ℕ, ◌+◌, ◌<◌, ◌≤◌, List, [], ◌∷◌, ◌++◌, map, length, take, drop, get_or, Bool, true, Bor, refl, sym, ap, ◌∙◌, subst, arith, lit<}
use Rattle.std.specs.Prelude.{All, Contains, if◌then◌else◌}
use Rattle.std.specs.Str.{bytes_eq}
use Rattle.std.proofs.lemmas.List.{get_or-map, length-map, take-append-drop, take_all, take_more, get_or_default}
use Rattle.std.proofs.lemmas.List.Elements.{All-contains, All-get_or}
use Rattle.or_geom.proofs.ListLaws.{rest_at}
use Rattle.or_geom.proofs.NameLaws.{same_name, other_name}
use Rattle.tech_rules.specs.declared.tech.RoleRows.{RoleRows}
use Rattle.tech_rules.specs.declared.tech.Tech.{Tech}
use Rattle.cell_roles.specs.declared.role.Role.{Role}
use Rattle.cell_roles.specs.declared.leaf_role.LeafRole.{LeafRole}
use Rattle.cell_roles.specs.declared.leaf_role.LeafRole.TheVariants.{Common}
use Rattle.cell_roles.specs.declared.role.Role.TheVariants.{Bitcell, Precharge, Mux, Tie, Sense, Write, RowNand2, RowNand3, Driver, Nand2, Nand3, Inv, Dff, Delay}
use Rattle.cell_roles.specs.Roles.{all_roles}
use Rattle.cell_roles.specs.LeafRoles.{leaf_role_name, leaf_table_texts, leaf_table}
use Rattle.cell_roles.specs.RowTexts.{row_text}
use Rattle.cell_roles.specs.Tables.{TableRow}
use Rattle.role_tables.specs.declared.fault.TableFault.{TableFault}
use Rattle.role_tables.specs.declared.fault.TableFault.TheVariants.{MissingRole, BadRow, Differs, Memory}
use Rattle.role_tables.specs.Fault.{HasRows, IsRowsFault, IsRoleFault, IsTableFault}
use Rattle.role_tables.specs.Table.{HasWidths, IsWrittenAs, texts_of, HasTable}
use Rattle.role_tables.proofs.CutLaws.{one_row}
use Rattle.role_tables.proofs.PointLaws.{own_widths}

-- the first table under the role's name has its rows
pub rows_here : (tables : List RoleRows) (i : ℕ) (table : RoleRows) (role : LeafRole) → i < length tables → table ≡ get_or tables i table
    → texts_of tables role ≡ texts_of (drop i tables) role → table.role ≡ leaf_role_name role → texts_of tables role ≡ table.rows
rows_here tables i table role lt at left named =
    let test : bytes_eq table.role (leaf_role_name role) ≡ true = subst (λ (name : List ℕ). bytes_eq table.role name ≡ true) named (same_name table.role) in
    left ∙ ap (λ (l : List RoleRows). texts_of l role) (rest_at tables i table lt at)
    ∙ ap (λ (b : Bool). if b then table.rows else texts_of (drop (i + 1) tables) role) test

-- a table under another name is passed over
pub rows_later : (tables : List RoleRows) (i : ℕ) (table : RoleRows) (role : LeafRole) → i < length tables → table ≡ get_or tables i table
    → texts_of tables role ≡ texts_of (drop i tables) role → (table.role ≡ leaf_role_name role → ⊥) → texts_of tables role ≡ texts_of (drop (i + 1) tables) role
rows_later tables i table role lt at left other =
    left ∙ ap (λ (l : List RoleRows). texts_of l role) (rest_at tables i table lt at)
    ∙ ap (λ (b : Bool). if b then table.rows else texts_of (drop (i + 1) tables) role) (other_name table.role (leaf_role_name role) other)

-- each text of a role's own table is its row
pub own_written : (role : LeafRole) (texts : List (Bor (List ℕ))) (i : ℕ) (d : Bor (List ℕ)) (e : TableRow) (text : List ℕ)
    → map (λ t. t.now) texts ≡ leaf_table_texts role → i < length texts → text ≡ (get_or texts i d).now → IsWrittenAs role text (get_or (leaf_table role) i e)
own_written role texts i d e text are lt at =
    let many : length texts ≡ length (leaf_table role) = sym (length-map texts (λ t. t.now)) ∙ ap length are ∙ length-map (leaf_table role) row_text in
    let within : i < length (leaf_table role) = omega arith in
    record {
      widths = All-get_or (HasWidths role) (leaf_table role) i e within (own_widths role);
      is = at ∙ sym (get_or-map (λ (t : Bor (List ℕ)). t.now) texts i d d.now lt) ∙ ap (λ (l : List (List ℕ)). get_or l i d.now) are
          ∙ get_or-map row_text (leaf_table role) i e d.now within;
    }

pub rows_fault : (tech : Tech) (role : LeafRole) (fault : TableFault) → HasRows tech role → IsRowsFault role (texts_of tech.tables role) fault → IsRoleFault tech role fault
rows_fault tech role (MissingRole name) has bad = absurd bad
rows_fault tech role (BadRow name row) has bad = (bad.0, has, bad.1)
rows_fault tech role (Differs name point) has bad = absurd bad
rows_fault tech role Memory has bad = tt

-- the roles before this one have their tables
pub first_role : (tech : Tech) (roles : List Role) (i : ℕ) (d : Role) (fault : TableFault) → roles ≡ all_roles → i < length roles
    → All (λ (role : Role). HasTable tech (Common role)) (take i roles) → IsRoleFault tech (Common (get_or roles i d)) fault → IsTableFault tech fault
first_role tech roles i d fault are lt good bad = record {
  before = take i roles;
  role = get_or roles i d;
  after = drop (i + 1) roles;
  split = sym are ∙ sym (take-append-drop i roles) ∙ ap (λ (l : List Role). take i roles ++ l) (rest_at roles i (get_or roles i d) lt (get_or_default roles i d (get_or roles i d) lt));
  good = good;
  bad = bad;
}

role_there : (role : Role) → Contains all_roles role
role_there Bitcell = (0, lit< tt, refl)
role_there Precharge = (1, lit< tt, refl)
role_there Mux = (2, lit< tt, refl)
role_there Tie = (3, lit< tt, refl)
role_there Sense = (4, lit< tt, refl)
role_there Write = (5, lit< tt, refl)
role_there RowNand2 = (6, lit< tt, refl)
role_there RowNand3 = (7, lit< tt, refl)
role_there Driver = (8, lit< tt, refl)
role_there Nand2 = (9, lit< tt, refl)
role_there Nand3 = (10, lit< tt, refl)
role_there Inv = (11, lit< tt, refl)
role_there Dff = (12, lit< tt, refl)
role_there Delay = (13, lit< tt, refl)

-- of all roles, of each
pub each_role : (P : Role → Type 0) (roles : List Role) (i : ℕ) → roles ≡ all_roles → 14 ≤ i → All P (take i roles) → (role : Role) → P role
each_role P roles i are far all role =
    let long : length roles ≡ 14 = ap length are in
    All-contains P all_roles role (subst (λ (l : List Role). All P l) (take_all i roles (omega arith) ∙ are) all) (role_there role)

-- one row more of the role's own table
pub own_more : (role : LeafRole) (texts : List (Bor (List ℕ))) (i : ℕ) (d : Bor (List ℕ)) (text : List ℕ) (rows : List TableRow) (row : TableRow)
    → map (λ t. t.now) texts ≡ leaf_table_texts role → i < length texts → text ≡ (get_or texts i d).now → rows ≡ take i (leaf_table role) → IsWrittenAs role text row
    → rows ++ row ∷ [] ≡ take (i + 1) (leaf_table role)
own_more role texts i d text rows row are lt at so_far written =
    let many : length texts ≡ length (leaf_table role) = sym (length-map texts (λ t. t.now)) ∙ ap length are ∙ length-map (leaf_table role) row_text in
    let one = one_row role text row (get_or (leaf_table role) i row) written (own_written role texts i d row text are lt at) in
    ap (λ (l : List TableRow). l ++ row ∷ []) so_far ∙ ap (λ (r : TableRow). take i (leaf_table role) ++ r ∷ []) one ∙ sym (take_more (leaf_table role) i row (omega arith))

-- none of its texts is no row
pub own_never : (role : LeafRole) (texts : List (Bor (List ℕ))) (i : ℕ) (d : Bor (List ℕ)) (text : List ℕ)
    → map (λ t. t.now) texts ≡ leaf_table_texts role → i < length texts → text ≡ (get_or texts i d).now → ((row : TableRow) → IsWrittenAs role text row → ⊥) → ⊥
own_never role texts i d text are lt at none =
    let blank : TableRow = record { looks = []; stored = []; drives = []; joins = []; next = [] } in
    none (get_or (leaf_table role) i blank) (own_written role texts i d blank text are lt at)
