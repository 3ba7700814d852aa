-- The first fault of tables is one, and there is none where each role has its table.
use Rattle.std.proofs.Common.{◌≡◌, ◌≢◌, ◌⊎◌, inl, inr, ℕ, ◌<◌, List, [], ◌∷◌, ◌++◌, map, length, true, false, refl, sym, ap, ◌∙◌, subst, arith, lit<}
use Rattle.std.specs.Prelude.{All, AllPairs}
use Rattle.std.specs.List.{AllByRecursion}
use Rattle.std.proofs.lemmas.List.Elements.{recursion_from_All, All-contains, Contains-append_right}
use Rattle.or_geom.specs.Gathering.{SomeHas}
use Rattle.or_geom.proofs.ListLaws.{contains_first}
use Rattle.tech_rules.specs.declared.tech.Tech.{Tech}
use Rattle.cell_roles.specs.declared.role.Role.{Role}
use Rattle.cell_roles.specs.declared.leaf_role.LeafRole.{LeafRole}
use Rattle.cell_roles.specs.declared.leaf_role.LeafRole.TheVariants.{Common, Fixed}
use Rattle.cell_roles.specs.declared.role.Role.TheVariants.{Bitcell, Precharge, Mux, Tie, Sense, Write, RowNand2, RowNand3, Driver, Nand2, Nand3, Inv, Dff, Delay}
use Rattle.cell_roles.specs.RowTexts.{row_text}
use Rattle.cell_roles.specs.Tables.{TableRow, TablePoint}
use Rattle.cell_roles.specs.LeafRoles.{leaf_points}
use Rattle.role_tables.specs.declared.fault.TableFault.{TableFault}
use Rattle.role_tables.specs.declared.fault.TableFault.TheVariants.{MissingRole, BadRow, Differs, Memory}
use Rattle.role_tables.specs.Fault.{IsBadText, IsFirstBadText, IsFirstPoint, IsFirstDiffering, HasRows, LacksRole, IsRoleFault}
use Rattle.role_tables.specs.OneFault.{TableFaultsAreUnique, TableFaultsExcludeTables}
use Rattle.role_tables.specs.Point.{MatchOnePoint, SaysAct, point_text}
use Rattle.role_tables.specs.Table.{HasWidths, AreApartRows, AreRoleRows, texts_of, HasTable}
use Rattle.role_tables.proofs.CutLaws.{one_row}
use Rattle.role_tables.proofs.FewRows.{pairs_head, pairs_tail}
use Rattle.role_tables.proofs.RowsLaws.{turned_round}

-- the first of a list that isn't good is one
same_first : {X : Type 0} (Good : X → Type 0) (before : List X) (x : X) (after others : List X) (y : X) (rest : List X)
    → before ++ x ∷ after ≡ others ++ y ∷ rest → AllByRecursion Good before → AllByRecursion Good others → (Good x → ⊥) → (Good y → ⊥) → x ≡ y
same_first Good [] x after [] y rest is good fine bad worse = cc
same_first {X} Good [] x after (o ∷ others) y rest is good fine bad worse =
    let e : o ≡ x = cc in
    absurd (bad (subst Good e fine.0))
same_first {X} Good (b ∷ before) x after [] y rest is good fine bad worse =
    let e : b ≡ y = cc in
    absurd (worse (subst Good e good.0))
same_first {X} Good (b ∷ before) x after (o ∷ others) y rest is good fine bad worse =
    let tails : before ++ x ∷ after ≡ others ++ y ∷ rest = cc in
    same_first Good before x after others y rest tails good.1 fine.1 bad worse

-- texts are rows of a role in one way
rows_one : (role : LeafRole) (ks ls : List TableRow) → AllByRecursion (HasWidths role) ks → AllByRecursion (HasWidths role) ls → map row_text ks ≡ map row_text ls → ks ≡ ls
rows_one role [] [] wide broad is = refl
rows_one role [] (b ∷ ls) wide broad is = absurd (cc)
rows_one role (a ∷ ks) [] wide broad is = absurd (cc)
rows_one role (a ∷ ks) (b ∷ ls) wide broad is =
    let texts : row_text a ≡ row_text b = cc in
    let tails : map row_text ks ≡ map row_text ls = cc in
    let first = one_row role (row_text a) a b (record { widths = wide.0; is = refl }) (record { widths = broad.0; is = texts }) in
    let others = rows_one role ks ls wide.1 broad.1 tails in
    λ i. first i ∷ others i

-- behind the first rows comes one more, which is the text
record GoesOn (rows : List TableRow) (text : List ℕ) (longer : List TableRow) : Type 0 where
  pub row : TableRow
  pub back : List TableRow
  pub split : longer ≡ rows ++ row ∷ back
  pub is : text ≡ row_text row

more_goes_on : (a b : TableRow) (rows : List TableRow) (text : List ℕ) (longer : List TableRow) → b ≡ a → GoesOn rows text longer → GoesOn (a ∷ rows) text (b ∷ longer)
more_goes_on a b rows text longer same on = record { row = on.row; back = on.back; split = λ i. same i ∷ on.split i; is = on.is }

-- rows and then a text are all rows of a list, or the first of them and one more
rows_go_on : (role : LeafRole) (before : List TableRow) (text : List ℕ) (after : List (List ℕ)) (rows : List TableRow) → AllByRecursion (HasWidths role) before → AllByRecursion (HasWidths role) rows
    → map row_text before ++ text ∷ after ≡ map row_text rows → GoesOn before text rows
rows_go_on role [] text after [] wide broad is = absurd (cc)
rows_go_on role [] text after (r ∷ rows) wide broad is =
    let first : text ≡ row_text r = cc in
    record { row = r; back = rows; split = refl; is = first }
rows_go_on role (b ∷ before) text after [] wide broad is = absurd (cc)
rows_go_on role (b ∷ before) text after (r ∷ rows) wide broad is =
    let texts : row_text r ≡ row_text b = cc in
    let tails : map row_text before ++ text ∷ after ≡ map row_text rows = cc in
    let first = one_row role (row_text r) r b (record { widths = broad.0; is = refl }) (record { widths = wide.0; is = texts }) in
    more_goes_on b r before text rows first (rows_go_on role before text after rows wide.1 broad.1 tails)

-- two lists of rows, each before a text, of the same texts: they are ks long, or one goes on behind the other
which_goes_on : (role : LeafRole) (before : List TableRow) (text : List ℕ) (after : List (List ℕ)) (others : List TableRow) (next : List ℕ) (rest : List (List ℕ))
    → AllByRecursion (HasWidths role) before → AllByRecursion (HasWidths role) others → map row_text before ++ text ∷ after ≡ map row_text others ++ next ∷ rest
    → (length before ≡ length others) ⊎ (GoesOn before text others ⊎ GoesOn others next before)
which_goes_on role [] text after [] next rest wide broad is = inl refl
which_goes_on role [] text after (o ∷ others) next rest wide broad is =
    let first : text ≡ row_text o = cc in
    inr (inl (record { row = o; back = others; split = refl; is = first }))
which_goes_on role (b ∷ before) text after [] next rest wide broad is =
    let first : next ≡ row_text b = cc in
    inr (inr (record { row = b; back = before; split = refl; is = first }))
which_goes_on role (b ∷ before) text after (o ∷ others) next rest wide broad is =
    let texts : row_text o ≡ row_text b = cc in
    let tails : map row_text before ++ text ∷ after ≡ map row_text others ++ next ∷ rest = cc in
    let first = one_row role (row_text o) o b (record { widths = broad.0; is = refl }) (record { widths = wide.0; is = texts }) in
    elim (which_goes_on role before text after others next rest wide.1 broad.1 tails) [
      | inl same ↦ inl (omega arith)
      | inr (inl on) ↦ inr (inl (more_goes_on b o before text others first on))
      | inr (inr on) ↦ inr (inr (more_goes_on o b others next before (sym first) on))
    ]

-- in rows that are apart no row matches what one before it matches
apart_in : (before : List TableRow) (row : TableRow) (back : List TableRow) → AllPairs (λ a b. MatchOnePoint a b → ⊥) (before ++ row ∷ back) → SomeHas (MatchOnePoint row) before → ⊥
apart_in [] row back apart some = absurd some
apart_in (b ∷ before) row back apart (inl both) =
    All-contains (λ r. MatchOnePoint b r → ⊥) (before ++ row ∷ back) row (pairs_head (λ a b. MatchOnePoint a b → ⊥) b (before ++ row ∷ back) apart)
    (Contains-append_right before (row ∷ back) row (contains_first row back)) (turned_round row b both)
apart_in (b ∷ before) row back apart (inr some) = apart_in before row back (pairs_tail (λ a b. MatchOnePoint a b → ⊥) b (before ++ row ∷ back) apart) some

-- a bad text isn't the next of rows that are apart
bad_never : (role : LeafRole) (before : List TableRow) (text : List ℕ) (rows : List TableRow) → IsBadText role before text → GoesOn before text rows → AreApartRows role rows → ⊥
bad_never role before text rows bad on are =
    let wide : All (HasWidths role) (before ++ on.row ∷ on.back) = subst (λ (l : List TableRow). All (HasWidths role) l) on.split are.widths in
    let apart = subst (λ (l : List TableRow). AllPairs (λ a b. MatchOnePoint a b → ⊥) l) on.split are.apart in
    let widths = All-contains (HasWidths role) (before ++ on.row ∷ on.back) on.row wide (Contains-append_right before (on.row ∷ on.back) on.row (contains_first on.row on.back)) in
    apart_in before on.row on.back apart (bad on.row (record { widths = widths; is = on.is }))

bad_not_rows : (role : LeafRole) (texts : List (List ℕ)) (index : ℕ) (rows : List TableRow) → IsFirstBadText role texts index → AreRoleRows role texts rows → ⊥
bad_not_rows role texts index rows bad are =
    bad_never role bad.before bad.text rows bad.bad
    (rows_go_on role bad.before bad.text bad.after rows (recursion_from_All (HasWidths role) bad.before bad.apart.widths) (recursion_from_All (HasWidths role) rows are.apart.widths) (sym bad.split ∙ are.are))
    are.apart

bad_one : (role : LeafRole) (texts : List (List ℕ)) (i j : ℕ) → IsFirstBadText role texts i → IsFirstBadText role texts j → i ≡ j
bad_one role texts i j a b =
    elim (which_goes_on role a.before a.text a.after b.before b.text b.after (recursion_from_All (HasWidths role) a.before a.apart.widths) (recursion_from_All (HasWidths role) b.before b.apart.widths) (sym a.split ∙ b.split)) [
      | inl same ↦ a.place ∙ same ∙ sym b.place
      | inr (inl on) ↦ absurd (bad_never role a.before a.text b.before a.bad on b.apart)
      | inr (inr on) ↦ absurd (bad_never role b.before b.text a.before b.bad on a.apart)
    ]

are_one : (role : LeafRole) (texts : List (List ℕ)) (ks ls : List TableRow) → AreRoleRows role texts ks → AreRoleRows role texts ls → ks ≡ ls
are_one role texts ks ls a b =
    rows_one role ks ls (recursion_from_All (HasWidths role) ks a.apart.widths) (recursion_from_All (HasWidths role) ls b.apart.widths) (sym a.are ∙ b.are)

point_one : (role : LeafRole) (rows : List TableRow) (t u : List ℕ) → IsFirstPoint role rows t → IsFirstPoint role rows u → t ≡ u
point_one role rows t u a b =
    let same = same_first (SaysAct role rows) a.before a.point a.after b.before b.point b.after (sym a.split ∙ b.split)
    (recursion_from_All (SaysAct role rows) a.before a.same) (recursion_from_All (SaysAct role rows) b.before b.same) a.differs b.differs in
    a.is ∙ ap point_text same ∙ sym b.is

differing_one : (role : LeafRole) (texts : List (List ℕ)) (t u : List ℕ) → IsFirstDiffering role texts t → IsFirstDiffering role texts u → t ≡ u
differing_one role texts t u a b =
    point_one role b.rows t u (subst (λ (rows : List TableRow). IsFirstPoint role rows t) (are_one role texts a.rows b.rows a.written b.written) a.first) b.first

lacks_never : (tech : Tech) (role : LeafRole) → LacksRole tech role → HasRows tech role → ⊥
lacks_never tech role (inl none) has = none has.cell
lacks_never tech role (inr none) has = has.rows none

-- a role has one fault
pub role_one : (tech : Tech) (role : LeafRole) (f g : TableFault) → f ≢ Memory → g ≢ Memory → IsRoleFault tech role f → IsRoleFault tech role g → f ≡ g
role_one tech role (MissingRole name) (MissingRole other) some also a b = ap MissingRole (a.0 ∙ sym b.0)
role_one tech role (MissingRole name) (BadRow other row) some also a b = absurd (lacks_never tech role a.1 b.1)
role_one tech role (MissingRole name) (Differs other point) some also a b = absurd (lacks_never tech role a.1 b.1)
role_one tech role (BadRow name row) (MissingRole other) some also a b = absurd (lacks_never tech role b.1 a.1)
role_one tech role (BadRow name row) (BadRow other place) some also a b =
    let names = a.0 ∙ sym b.0 in
    let rows = bad_one role (texts_of tech.tables role) row place a.2 b.2 in
    λ i. BadRow (names i) (rows i)
role_one tech role (BadRow name row) (Differs other point) some also a b = absurd (bad_not_rows role (texts_of tech.tables role) row b.2.rows a.2 b.2.written)
role_one tech role (Differs name point) (MissingRole other) some also a b = absurd (lacks_never tech role b.1 a.1)
role_one tech role (Differs name point) (BadRow other row) some also a b = absurd (bad_not_rows role (texts_of tech.tables role) row a.2.rows b.2 a.2.written)
role_one tech role (Differs name point) (Differs other place) some also a b =
    let names = a.0 ∙ sym b.0 in
    let points = differing_one role (texts_of tech.tables role) point place a.2 b.2 in
    λ i. Differs (names i) (points i)
role_one tech role Memory g some also a b = absurd (some refl)
role_one tech role (MissingRole name) Memory some also a b = absurd (also refl)
role_one tech role (BadRow name row) Memory some also a b = absurd (also refl)
role_one tech role (Differs name point) Memory some also a b = absurd (also refl)

some_point : (role : LeafRole) → 0 < length (leaf_points role)
some_point (Common Bitcell) = lit< tt
some_point (Common Precharge) = lit< tt
some_point (Common Mux) = lit< tt
some_point (Common Tie) = lit< tt
some_point (Common Sense) = lit< tt
some_point (Common Write) = lit< tt
some_point (Common RowNand2) = lit< tt
some_point (Common RowNand3) = lit< tt
some_point (Common Driver) = lit< tt
some_point (Common Nand2) = lit< tt
some_point (Common Nand3) = lit< tt
some_point (Common Inv) = lit< tt
some_point (Common Dff) = lit< tt
some_point (Common Delay) = lit< tt
some_point (Fixed false) = lit< tt
some_point (Fixed true) = lit< tt

blank_never : (role : LeafRole) (rows : List TableRow) → [] ≡ map row_text rows → All (SaysAct role rows) (leaf_points role) → ⊥
blank_never role [] is acts = let says = acts 0 (record { inputs = []; stored = [] }) (some_point role) in absurd (cc)
blank_never role (r ∷ rows) is acts = absurd (cc)

-- a role that has its table has no fault
pub role_excludes : (tech : Tech) (role : LeafRole) (f : TableFault) → f ≢ Memory → IsRoleFault tech role f → HasTable tech role → ⊥
role_excludes tech role (MissingRole name) some bad has = elim bad.1 [
  | inl none ↦ none has.cell
  | inr none ↦ blank_never role has.table.rows (sym none ∙ has.table.written.are) has.table.acts
]
role_excludes tech role (BadRow name row) some bad has = bad_not_rows role (texts_of tech.tables role) row has.table.rows bad.2 has.table.written
role_excludes tech role (Differs name point) some bad has =
    let same = are_one role (texts_of tech.tables role) has.table.rows bad.2.rows has.table.written bad.2.written in
    let acts = subst (λ (rows : List TableRow). All (SaysAct role rows) (leaf_points role)) same has.table.acts in
    let first = bad.2.first in
    let there = subst (λ (l : List TablePoint). All (SaysAct role bad.2.rows) l) first.split acts in
    first.differs (All-contains (SaysAct role bad.2.rows) (first.before ++ first.point ∷ first.after) first.point there
    (Contains-append_right first.before (first.point ∷ first.after) first.point (contains_first first.point first.after)))
role_excludes tech role Memory some bad has = some refl

pub faults_one : TableFaultsAreUnique
faults_one tech f g some also a b =
    let same = same_first (λ (r : Role). HasTable tech (Common r)) a.before a.role a.after b.before b.role b.after (sym a.split ∙ b.split)
    (recursion_from_All (λ (r : Role). HasTable tech (Common r)) a.before a.good) (recursion_from_All (λ (r : Role). HasTable tech (Common r)) b.before b.good)
    (role_excludes tech (Common a.role) f some a.bad) (role_excludes tech (Common b.role) g also b.bad) in
    role_one tech (Common b.role) f g some also (subst (λ (role : Role). IsRoleFault tech (Common role) f) same a.bad) b.bad

pub faults_exclude : TableFaultsExcludeTables
faults_exclude tech f some bad has = role_excludes tech (Common bad.role) f some bad.bad (has bad.role)
