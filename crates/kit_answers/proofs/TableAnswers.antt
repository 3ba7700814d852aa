-- Each role has its table, or a first fault.
use Rattle.std.proofs.Common.{◌≡◌, ◌≢◌, ◌⊎◌, inl, inr, ℕ, zero, suc, ◌+◌, ◌<◌, ◌≤◌, List, [], ◌∷◌, ◌++◌, length, take, drop, get_or, Some, refl, sym}
use Rattle.std.proofs.Common.{ap, subst, ◌∙◌, arith}
use Rattle.std.specs.Prelude.{All}
use Rattle.std.proofs.lemmas.Bool.{cases_eq}
use Rattle.std.proofs.lemmas.List.{get_or-take, get_or_default, length-take-le, take-append-drop, take_all}
use Rattle.std.proofs.lemmas.Option.{slice_get-get_or, slice_get_within, get_or_from_slice_get}
use Rattle.or_geom.specs.Gathering.{SomeHas}
use Rattle.or_geom.proofs.ListLaws.{rest_at}
use Rattle.tech_rules.specs.declared.tech.RoleName.{RoleName}
use Rattle.tech_rules.specs.declared.tech.Tech.{Tech}
use Rattle.cell_roles.specs.declared.role.Role.{Role}
use Rattle.cell_roles.specs.declared.leaf_role.LeafRole.{LeafRole}
use Rattle.cell_roles.specs.declared.leaf_role.LeafRole.TheVariants.{Common}
use Rattle.cell_roles.specs.Acts.{Act, Drive}
use Rattle.cell_roles.specs.LeafRoles.{leaf_act, leaf_points, leaf_role_name}
use Rattle.cell_roles.specs.RowTexts.{drive_char}
use Rattle.cell_roles.specs.Roles.{all_roles}
use Rattle.cell_roles.specs.Tables.{TablePoint, TableRow}
use Rattle.role_tables.specs.Columns.{drive_of}
use Rattle.role_tables.specs.declared.fault.TableFault.{TableFault}
use Rattle.role_tables.specs.declared.fault.TableFault.TheVariants.{MissingRole, BadRow, Differs, Memory}
use Rattle.role_tables.specs.Fault.{IsFirstBadText, IsFirstPoint, IsRoleFault, IsTableFault}
use Rattle.role_tables.specs.Point.{MatchOnePoint, SaysAct, point_text, said_at}
use Rattle.role_tables.specs.Table.{AreRoleRows, HasTable, HasTables, IsWrittenAs, NamesCell, texts_of}
use Rattle.role_tables.proofs.CodeLaws.{drive_code}
use Rattle.role_tables.proofs.CutLaws.{one_row}
use Rattle.role_tables.proofs.RowsLaws.{first_bad, no_rows, row_more}
use Rattle.leaf_tables.specs.Alignment.{role_number}
use Rattle.leaf_tables.proofs.RoleLaws.{role_there}
use Rattle.kit_answers.proofs.DecidingLaws.{AllGood, Decided, IsFirstBad, all_or_first, decide_bool, decide_both, decide_like, decide_lists}
use Rattle.kit_answers.proofs.DecidingLaws.{decide_options, decide_some, decide_text}
use Rattle.kit_answers.proofs.RowAnswers.{match_or_none, row_or_none}

-- what is good at each place is so all along, and before the first that is bad
all_good : {X : Type 0} (P : X → Type 0) (items : List X) → AllGood P items → All P items
all_good P items all k d lt = all k (get_or items k d) (slice_get-get_or items k d lt)

good_before : {X : Type 0} (Good Bad : X → Type 0) (items : List X) (first : IsFirstBad Good Bad items) → All Good (take first.place items)
good_before {X} Good Bad items first k d lt =
    let within = slice_get_within items first.place first.item first.there in
    let long = length-take-le first.place items (omega (arith, within)) in
    let here : get_or (take first.place items) k d ≡ get_or items k d = get_or-take first.place items k d (omega (arith, lt, long)) in
    subst Good (sym here) (first.before k (get_or items k d) (omega (arith, lt, long)) (slice_get-get_or items k d (omega (arith, lt, long, within))))

split_first : {X : Type 0} (Good Bad : X → Type 0) (items : List X) (first : IsFirstBad Good Bad items)
    → items ≡ take first.place items ++ first.item ∷ drop (first.place + 1) items
split_first {X} Good Bad items first =
    let within = slice_get_within items first.place first.item first.there in
    let at = get_or_from_slice_get items first.place first.item first.item first.there in
    sym (take-append-drop first.place items) ∙ ap (λ (l : List X). take first.place items ++ l) (rest_at items first.place first.item within (sym at))

-- what a cell does is the same or not
decide_drive : (a b : Drive) → Decided (a ≡ b)
decide_drive a b =
    decide_like (drive_char a ≡ drive_char b) (a ≡ b) (λ e. sym (drive_code.forth a) ∙ ap drive_of e ∙ drive_code.forth b) (λ e. ap drive_char e)
    (cases_eq (drive_char a) (drive_char b))

decide_act : (a b : Act) → Decided (a ≡ b)
decide_act a b =
    decide_like ((a.drives ≡ b.drives) × ((a.joins ≡ b.joins) × (a.next ≡ b.next))) (a ≡ b)
    (λ e. λ i. record { drives = e.0 i; joins = e.1.0 i; next = e.1.1 i })
    (λ e. (ap (λ (x : Act). x.drives) e, (ap (λ (x : Act). x.joins) e, ap (λ (x : Act). x.next) e)))
    (decide_both (a.drives ≡ b.drives) ((a.joins ≡ b.joins) × (a.next ≡ b.next)) (decide_lists decide_drive a.drives b.drives)
    (decide_both (a.joins ≡ b.joins) (a.next ≡ b.next) (decide_lists decide_bool a.joins b.joins) (decide_lists decide_bool a.next b.next)))

decide_says : (role : LeafRole) (rows : List TableRow) (point : TablePoint) → Decided (SaysAct role rows point)
decide_says role rows point = decide_options decide_act (said_at rows point) (Some (leaf_act role point.inputs point.stored))

-- the rows say at each point what a cell of the role does, or there is a first at which they don't
points_or_first : (role : LeafRole) (rows : List TableRow)
    → All (SaysAct role rows) (leaf_points role) ⊎ ((printed : List ℕ) × IsFirstPoint role rows printed)
points_or_first role rows =
    let Bad : TablePoint → Type 0 = λ p. SaysAct role rows p → ⊥ in
    elim (all_or_first (SaysAct role rows) Bad (leaf_points role) (λ k p there. decide_says role rows p)) [
      | inl all ↦ inl (all_good (SaysAct role rows) (leaf_points role) all)
      | inr first ↦ inr (
        point_text first.item,
        record {
          before = take first.place (leaf_points role);
          point = first.item;
          after = drop (first.place + 1) (leaf_points role);
          split = split_first (SaysAct role rows) Bad (leaf_points role) first;
          same = good_before (SaysAct role rows) Bad (leaf_points role) first;
          differs = first.bad;
          is = refl;
        },
      )
    ]

-- the texts are rows of a role, or one is the first that is bad
module _ (role : LeafRole) (texts : List (List ℕ)) where
  abbrev RowsOrBad : ℕ → Type 0
  RowsOrBad i = ((rows : List TableRow) × AreRoleRows role (take i texts) rows) ⊎ ((index : ℕ) × IsFirstBadText role texts index)

  one_more : (i : ℕ) (text : List ℕ) (rows : List TableRow) (row : TableRow) → i < length texts → text ≡ get_or texts i text
      → AreRoleRows role (take i texts) rows → IsWrittenAs role text row
      → Decided (SomeHas (MatchOnePoint row) rows) → RowsOrBad (i + 1)
  one_more i text rows row lt at are written (inr apart) = inl (rows ++ row ∷ [], row_more role texts i text rows row lt at are written apart)
  one_more i text rows row lt at are written (inl some) = inr (
    i,
    first_bad role texts i text rows lt at are
        (λ other w. subst (λ (r : TableRow). SomeHas (MatchOnePoint r) rows) (one_row role text row other written w) some),
  )

  after_rows : (i : ℕ) (rows : List TableRow) → i < length texts → AreRoleRows role (take i texts) rows → RowsOrBad (i + 1)
  after_rows i rows lt are =
      let text = get_or texts i [] in
      let at : text ≡ get_or texts i text = get_or_default texts i [] text lt in
      elim (row_or_none role text) [
        | inl row ↦ one_more i text rows row.0 lt at are row.1 (decide_some (MatchOnePoint row.0) rows (match_or_none row.0))
        | inr none ↦ inr (i, first_bad role texts i text rows lt at are (λ other w. absurd (none other w)))
      ]

  rows_or_bad : (i : ℕ) → i ≤ length texts → RowsOrBad i
  rows_or_bad zero le = inl ([], no_rows role)
  rows_or_bad (suc i) le = elim (rows_or_bad i (omega (arith, le))) [
    | inl rows ↦ let next : i + 1 ≡ suc i = omega arith in subst RowsOrBad next (after_rows i rows.0 (omega (arith, le)) rows.1)
    | inr bad ↦ inr bad
  ]

  pub all_rows_or_bad : ((rows : List TableRow) × AreRoleRows role texts rows) ⊎ ((index : ℕ) × IsFirstBadText role texts index)
  all_rows_or_bad = elim (rows_or_bad (length texts) (omega arith)) [
    | inl rows ↦ inl (rows.0, subst (λ (l : List (List ℕ)). AreRoleRows role l rows.0) (take_all (length texts) texts (omega arith)) rows.1)
    | inr bad ↦ inr bad
  ]

-- the role has its table, or a fault
module _ (tech : Tech) (role : LeafRole) where
  abbrev RoleFault : Type 0
  RoleFault = (fault : TableFault) × (fault ≢ Memory) × IsRoleFault tech role fault

  abbrev Texts : List (List ℕ)
  Texts = texts_of tech.tables role

  by_rows : NamesCell tech role → (Texts ≡ [] → ⊥) → HasTable tech role ⊎ RoleFault
  by_rows cell some = elim (all_rows_or_bad role Texts) [
    | inr bad ↦ inr (BadRow (leaf_role_name role) bad.0, λ e. absurd (cc), (refl, record { cell = cell; rows = some }, bad.1))
    | inl rows ↦ elim (points_or_first role rows.0) [
      | inl acts ↦ inl (record { cell = cell; table = record { rows = rows.0; written = rows.1; acts = acts } })
      | inr first ↦ inr (
        Differs (leaf_role_name role) first.0,
        λ e. absurd (cc),
        (refl, record { cell = cell; rows = some }, record { rows = rows.0; written = rows.1; first = first.1 }),
      )
    ]
  ]

  pub table_or_fault : HasTable tech role ⊎ RoleFault
  table_or_fault =
      elim (decide_some (λ (entry : RoleName). entry.role ≡ leaf_role_name role) tech.roles
      (λ (entry : RoleName). decide_text entry.role (leaf_role_name role))) [
        | inr none ↦ inr (MissingRole (leaf_role_name role), λ e. absurd (cc), (refl, inl none))
        | inl cell ↦ elim (decide_lists decide_text Texts []) [
          | inl blank ↦ inr (MissingRole (leaf_role_name role), λ e. absurd (cc), (refl, inr blank))
          | inr some ↦ by_rows cell some
        ]
      ]

-- and so does a technology
pub tables_or_fault : (tech : Tech) → HasTables tech ⊎ ((fault : TableFault) × (fault ≢ Memory) × IsTableFault tech fault)
tables_or_fault tech =
    let Has : Role → Type 0 = λ r. HasTable tech (Common r) in
    let Lacks : Role → Type 0 = λ r. (fault : TableFault) × (fault ≢ Memory) × IsRoleFault tech (Common r) fault in
    elim (all_or_first Has Lacks all_roles (λ k r there. table_or_fault tech (Common r))) [
      | inl all ↦ inl (λ role. all (role_number role) role (role_there role))
      | inr first ↦ inr (
        first.bad.0,
        first.bad.1,
        record {
          before = take first.place all_roles;
          role = first.item;
          after = drop (first.place + 1) all_roles;
          split = split_first Has Lacks all_roles first;
          good = good_before Has Lacks all_roles first;
          bad = first.bad.2;
        },
      )
    ]
