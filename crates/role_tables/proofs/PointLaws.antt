-- What tables say at the points of a role.
use Rattle.std.proofs.Common.{◌≡◌, ℕ, zero, suc, ◌+◌, ◌<◌, List, [], ◌∷◌, ◌++◌, map, length, take, drop, get_or, Bool, true, false, cond, Option, None, Some, refl, sym, ap, ◌∙◌, arith, subst}
use Rattle.std.specs.Prelude.{All, find, ◌==◌, ◌&&◌, ◌↔◌, IsTrue}
use Rattle.std.proofs.lemmas.Bool.{and_parts, eqb-true}
use Rattle.std.specs.List.{AllByRecursion}
use Rattle.std.proofs.lemmas.List.{map-append, take-append-drop}
use Rattle.std.proofs.lemmas.List.Elements.{All-from_recursion, recursion_from_All, All-map, All-append, All-weaker, All-get_or}
use Rattle.or_geom.proofs.ListLaws.{rest_at}
use Rattle.cell_roles.specs.declared.leaf_role.LeafRole.{LeafRole}
use Rattle.cell_roles.specs.declared.leaf_role.LeafRole.TheVariants.{Common, Fixed}
use Rattle.cell_roles.specs.declared.role.Role.TheVariants.{Bitcell, Precharge, Mux, Tie, Sense, Write, RowNand2, RowNand3, Driver, Nand2, Nand3, Inv, Dff, Delay}
use Rattle.cell_roles.specs.Acts.{Act}
use Rattle.cell_roles.specs.LeafRoles.{leaf_act, leaf_inputs, leaf_stored, leaf_driven, leaf_joined, leaf_table, leaf_points}
use Rattle.cell_roles.specs.Tables.{TableRow, TablePoint, all_values}
use Rattle.role_tables.specs.Fault.{IsFirstPoint}
use Rattle.role_tables.specs.Point.{matches, row_act, said_at, SaysAct, SaySame, point_text}
use Rattle.role_tables.specs.Table.{HasWidths}

-- a value cut into a point, the inputs first
abbrev pub cut_point : ℕ → List Bool → TablePoint
cut_point n bits = record { inputs = take n bits; stored = drop n bits }

abbrev pub inputs_of : LeafRole → ℕ
inputs_of role = length (leaf_inputs role)

abbrev pub bits_of : LeafRole → ℕ
bits_of role = length (leaf_inputs role) + length (leaf_stored role)

-- the values of all inputs and stored bits are the points in counting order
pub points_cut : (role : LeafRole) → leaf_points role ≡ map (cut_point (inputs_of role)) (all_values (bits_of role))
points_cut (Common Bitcell) = refl
points_cut (Common Precharge) = refl
points_cut (Common Mux) = refl
points_cut (Common Tie) = refl
points_cut (Common Sense) = refl
points_cut (Common Write) = refl
points_cut (Common RowNand2) = refl
points_cut (Common RowNand3) = refl
points_cut (Common Driver) = refl
points_cut (Common Nand2) = refl
points_cut (Common Nand3) = refl
points_cut (Common Inv) = refl
points_cut (Common Dff) = refl
points_cut (Common Delay) = refl
points_cut (Fixed false) = refl
points_cut (Fixed true) = refl

maps_agree : {X Y : Type 0} (f g : X → Y) (xs : List X) → map f xs ≡ map g xs → AllByRecursion (λ x. f x ≡ g x) xs
maps_agree f g [] same = tt
maps_agree {X} {Y} f g (x ∷ xs) same =
    let first : f x ≡ g x = cc in
    let others : map f xs ≡ map g xs = cc in
    (first, maps_agree f g xs others)

abbrev said_by : LeafRole → List Bool → Option Act
said_by role bits = said_at (leaf_table role) (cut_point (inputs_of role) bits)

abbrev done_by : LeafRole → List Bool → Option Act
done_by role bits = Some (leaf_act role (take (inputs_of role) bits) (drop (inputs_of role) bits))

own_says : (role : LeafRole) → map (said_by role) (all_values (bits_of role)) ≡ map (done_by role) (all_values (bits_of role))
own_says (Common Bitcell) = refl
own_says (Common Precharge) = refl
own_says (Common Mux) = refl
own_says (Common Tie) = refl
own_says (Common Sense) = refl
own_says (Common Write) = refl
own_says (Common RowNand2) = refl
own_says (Common RowNand3) = refl
own_says (Common Driver) = refl
own_says (Common Nand2) = refl
own_says (Common Nand3) = refl
own_says (Common Inv) = refl
own_says (Common Dff) = refl
own_says (Common Delay) = refl
own_says (Fixed false) = refl
own_says (Fixed true) = refl

-- a role's own table says what a cell does
pub own_act : (role : LeafRole) → All (λ bits. SaysAct role (leaf_table role) (cut_point (inputs_of role) bits)) (all_values (bits_of role))
own_act role = All-from_recursion (λ bits. SaysAct role (leaf_table role) (cut_point (inputs_of role) bits)) (all_values (bits_of role))
    (maps_agree (said_by role) (done_by role) (all_values (bits_of role)) (own_says role))

pub values_long : (n : ℕ) → All (λ bits. length bits ≡ n) (all_values n)
values_long zero = All-from_recursion (λ bits. length bits ≡ 0) ([] ∷ []) (refl, tt)
values_long (suc n) =
    let less : (b : Bool) → All (λ bits. length (b ∷ bits) ≡ suc n) (all_values n) =
    λ b. All-weaker (λ bits. length bits ≡ n) (λ bits. length (b ∷ bits) ≡ suc n) (λ bits long. omega arith) (all_values n) (values_long n) in
    All-append (λ bits. length bits ≡ suc n) (map (λ bits. false ∷ bits) (all_values n)) (map (λ bits. true ∷ bits) (all_values n))
    (All-map (λ bits. length bits ≡ suc n) (λ bits. false ∷ bits) (all_values n) (less false))
    (All-map (λ bits. length bits ≡ suc n) (λ bits. true ∷ bits) (all_values n) (less true))

-- what the first row that matches says
abbrev found_act : TablePoint → Option TableRow → Option Act
found_act point None = None
found_act point (Some row) = Some (row_act row point.stored)

pub said_found : (rows : List TableRow) (point : TablePoint) → said_at rows point ≡ found_act point (find (λ row. matches row point) rows)
said_found [] point = refl
said_found (row ∷ rows) point =
    let more = said_found rows point in
    elim (matches row point) as (λ b. cond b (Some (row_act row point.stored)) (said_at rows point) ≡ found_act point (cond b (Some row) (find (λ r. matches r point) rows))) [
      | true ↦ refl
      | false ↦ more
    ]

pub found_says : (rows : List TableRow) (point : TablePoint) (row : TableRow) → find (λ r. matches r point) rows ≡ Some row → said_at rows point ≡ Some (row_act row point.stored)
found_says rows point row found = said_found rows point ∙ ap (found_act point) found

pub none_says : (rows : List TableRow) (point : TablePoint) → find (λ r. matches r point) rows ≡ None → said_at rows point ≡ None
none_says rows point found = said_found rows point ∙ ap (found_act point) found

-- of a found row what holds of all holds
pub found_has : (P : TableRow → Type 0) (test : TableRow → Bool) (rows : List TableRow) (row : TableRow) → AllByRecursion P rows → find test rows ≡ Some row → P row
found_has P test [] row all found = absurd (cc)
found_has P test (r ∷ rows) row all found =
    elim (test r) as (λ b. cond b (Some r) (find test rows) ≡ Some row → P row) [
      | true ↦ λ is. (let e : r ≡ row = cc in subst P e all.0)
      | false ↦ λ is. found_has P test rows row all.1 is
    ] found

-- to say the same as the role's own table is to say what a cell does
pub same_says : (role : LeafRole) (rows own : List TableRow) (point : TablePoint) → own ≡ leaf_table role → SaysAct role (leaf_table role) point → SaySame rows own point → SaysAct role rows point
same_says role rows own point is own_says same =
    same.by_rows ∙ sym same.by_others ∙ ap (λ (l : List TableRow). said_at l point) is ∙ own_says

pub says_same : (role : LeafRole) (rows own : List TableRow) (point : TablePoint) → own ≡ leaf_table role → SaysAct role (leaf_table role) point → SaysAct role rows point → SaySame rows own point
says_same role rows own point is own_says says = record {
  said = leaf_act role point.inputs point.stored;
  by_rows = says;
  by_others = ap (λ (l : List TableRow). said_at l point) is ∙ own_says;
}

-- at all values, so at all points
pub all_points : (role : LeafRole) (rows : List TableRow) → All (λ bits. SaysAct role rows (cut_point (inputs_of role) bits)) (all_values (bits_of role)) → All (SaysAct role rows) (leaf_points role)
all_points role rows all =
    subst (λ (l : List TablePoint). All (SaysAct role rows) l) (sym (points_cut role)) (All-map (SaysAct role rows) (cut_point (inputs_of role)) (all_values (bits_of role)) all)

-- at the values before this one, and not at this one
pub first_point : (role : LeafRole) (rows : List TableRow) (values : List (List Bool)) (k : ℕ) (bits : List Bool) (text : List ℕ)
    → values ≡ all_values (bits_of role) → k < length values → bits ≡ get_or values k bits
    → All (λ b. SaysAct role rows (cut_point (inputs_of role) b)) (take k values) → (SaysAct role rows (cut_point (inputs_of role) bits) → ⊥)
    → text ≡ point_text (cut_point (inputs_of role) bits) → IsFirstPoint role rows text
first_point role rows values k bits text are lt at same differs is = record {
  before = map (cut_point (inputs_of role)) (take k values);
  point = cut_point (inputs_of role) bits;
  after = map (cut_point (inputs_of role)) (drop (k + 1) values);
  split = points_cut role ∙ ap (map (cut_point (inputs_of role))) (sym are ∙ sym (take-append-drop k values) ∙ ap (λ (l : List (List Bool)). take k values ++ l) (rest_at values k bits lt at))
      ∙ map-append (cut_point (inputs_of role)) (take k values) (bits ∷ drop (k + 1) values);
  same = All-map (SaysAct role rows) (cut_point (inputs_of role)) (take k values) same;
  differs = differs;
  is = is;
}

abbrev is_wide_behind : LeafRole → TableRow → Bool
is_wide_behind role row =
    (length row.stored == length (leaf_stored role)) && ((length row.drives == length (leaf_driven role))
    && ((length row.joins == length (leaf_joined role)) && (length row.next == length (leaf_stored role))))

abbrev is_wide : LeafRole → TableRow → Bool
is_wide role row = (length row.looks == length (leaf_inputs role)) && is_wide_behind role row

abbrev are_wide : LeafRole → List TableRow → Bool
are_wide role [] = true
are_wide role (row ∷ rows) = is_wide role row && are_wide role rows

-- the rows of a role's own table are rows of the role
have_widths : (role : LeafRole) (rows : List TableRow) → are_wide role rows ≡ true → AllByRecursion (HasWidths role) rows
have_widths role [] is = tt
have_widths role (row ∷ rows) is =
    let parts = and_parts (is_wide role row) (are_wide role rows) is in
    let looks_rest = and_parts (length row.looks == length (leaf_inputs role)) (is_wide_behind role row) parts.0 in
    let stored_rest = and_parts (length row.stored == length (leaf_stored role)) ((length row.drives == length (leaf_driven role)) && ((length row.joins == length (leaf_joined role)) && (length row.next == length (leaf_stored role)))) looks_rest.1 in
    let drives_rest = and_parts (length row.drives == length (leaf_driven role)) ((length row.joins == length (leaf_joined role)) && (length row.next == length (leaf_stored role))) stored_rest.1 in
    let joins_rest = and_parts (length row.joins == length (leaf_joined role)) (length row.next == length (leaf_stored role)) drives_rest.1 in (
      record {
        looks = eqb-true _ _ looks_rest.0;
        stored = eqb-true _ _ stored_rest.0;
        drives = eqb-true _ _ drives_rest.0;
        joins = eqb-true _ _ joins_rest.0;
        next = eqb-true _ _ joins_rest.1;
      },
      have_widths role rows parts.1,
    )

own_wide : (role : LeafRole) → are_wide role (leaf_table role) ≡ true
own_wide (Common Bitcell) = refl
own_wide (Common Precharge) = refl
own_wide (Common Mux) = refl
own_wide (Common Tie) = refl
own_wide (Common Sense) = refl
own_wide (Common Write) = refl
own_wide (Common RowNand2) = refl
own_wide (Common RowNand3) = refl
own_wide (Common Driver) = refl
own_wide (Common Nand2) = refl
own_wide (Common Nand3) = refl
own_wide (Common Inv) = refl
own_wide (Common Dff) = refl
own_wide (Common Delay) = refl
own_wide (Fixed false) = refl
own_wide (Fixed true) = refl

pub own_widths : (role : LeafRole) → All (HasWidths role) (leaf_table role)
own_widths role = All-from_recursion (HasWidths role) (leaf_table role) (have_widths role (leaf_table role) (own_wide role))

-- a row that is found has a character for each next stored bit
pub next_long : (role : LeafRole) (rows : List TableRow) (point : TablePoint) (row : TableRow) → All (HasWidths role) rows → find (λ r. matches r point) rows ≡ Some row → length row.next ≡ length (leaf_stored role)
next_long role rows point row wide found =
    found_has (λ r. length r.next ≡ length (leaf_stored role)) (λ r. matches r point) rows row
    (recursion_from_All (λ r. length r.next ≡ length (leaf_stored role)) rows (All-weaker (HasWidths role) (λ r. length r.next ≡ length (leaf_stored role)) (λ r w. w.next) rows wide)) found

-- of a value of the list: it is cut into a point at which the own table says what a cell does
pub own_at : (role : LeafRole) (values : List (List Bool)) (k : ℕ) (bits : List Bool) → values ≡ all_values (bits_of role) → k < length values → bits ≡ get_or values k bits → SaysAct role (leaf_table role) (cut_point (inputs_of role) bits)
own_at role values k bits are lt at =
    let P : List Bool → Type 0 = λ b. SaysAct role (leaf_table role) (cut_point (inputs_of role) b) in
    let all : All P values = subst (λ (l : List (List Bool)). All P l) (sym are) (own_act role) in
    subst P (sym at) (All-get_or P values k bits lt all)

pub long_at : (role : LeafRole) (values : List (List Bool)) (k : ℕ) (bits : List Bool) → values ≡ all_values (bits_of role) → k < length values → bits ≡ get_or values k bits → length bits ≡ bits_of role
long_at role values k bits are lt at =
    let P : List Bool → Type 0 = λ b. length b ≡ bits_of role in
    let all : All P values = subst (λ (l : List (List Bool)). All P l) (sym are) (values_long (bits_of role)) in
    subst P (sym at) (All-get_or P values k bits lt all)

-- a value that is split is its point
pub split_point : (n m : ℕ) (list bits front back : List Bool) → n ≡ m → list ≡ bits → front ≡ take n list → back ≡ drop n list → record { inputs = front; stored = back } ≡ cut_point m bits
split_point n m list bits front back many is first second =
    let inputs = first ∙ ap (λ (k : ℕ). take k list) many ∙ ap (take m) is in
    let stored = second ∙ ap (λ (k : ℕ). drop k list) many ∙ ap (drop m) is in
    λ i. record { inputs = inputs i; stored = stored i }

-- whether the rows say at the point what a cell does is whether they say what the own table says
pub decided : (role : LeafRole) (rows own : List TableRow) (answer : Bool) (p q : TablePoint) → own ≡ leaf_table role → SaysAct role (leaf_table role) q → p ≡ q → (IsTrue answer ↔ SaySame rows own p) → IsTrue answer ↔ SaysAct role rows q
decided role rows own answer p q is own_says same agrees = (
  (λ yes. same_says role rows own q is own_says (subst (λ (r : TablePoint). SaySame rows own r) same (agrees.0 yes))),
  (λ says. agrees.1 (subst (λ (r : TablePoint). SaySame rows own r) (sym same) (says_same role rows own q is own_says says))),
)
