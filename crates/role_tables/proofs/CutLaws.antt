-- A text that is cut column by column, and the row that it is.
use Rattle.std.proofs.Common.{◌≡◌, ℕ, List, [], ◌∷◌, ◌++◌, map, length, take, drop, codes, true, refl, sym, ap, ◌∙◌, arith}
use Rattle.std.specs.Prelude.{◌==◌}
use Rattle.std.proofs.Math.Seq.{take-append_seam, drop-append_seam}
use Rattle.std.proofs.lemmas.Bool.{eqb-true}
use Rattle.std.proofs.lemmas.List.{append-nil, length-map, append_cancel_left, take-append-drop}
use Rattle.cell_roles.specs.declared.leaf_role.LeafRole.{LeafRole}
use Rattle.cell_roles.specs.LeafRoles.{leaf_inputs, leaf_stored, leaf_driven, leaf_joined}
use Rattle.cell_roles.specs.RowTexts.{wanted_char, drive_char, join_char, next_char}
use Rattle.cell_roles.specs.Tables.{TableRow}
use Rattle.role_tables.specs.Columns.{are_of, wanted_of, drive_of, join_of, next_of, BeginsWithColumn}
use Rattle.role_tables.specs.Table.{HasWidths, IsWrittenAs}
use Rattle.role_tables.proofs.CodeLaws.{IsCode, wanted_code, drive_code, join_code, next_code, column_back, column_forth, column_allowed}

-- lists of one length before a rest are told from it
same_front : {X : Type 0} (xs ys us vs : List X) → length xs ≡ length ys → xs ++ us ≡ ys ++ vs → (xs ≡ ys) × (us ≡ vs)
same_front [] [] us vs size is = (refl, is)
same_front [] (y ∷ ys) us vs size is = absurd (omega arith)
same_front (x ∷ xs) [] us vs size is = absurd (omega arith)
same_front {X} (x ∷ xs) (y ∷ ys) us vs size is =
    let first : x ≡ y = cc in
    let tails : xs ++ us ≡ ys ++ vs = cc in
    let more = same_front xs ys us vs (omega arith) tails in
    (λ i. first i ∷ more.0 i, more.1)

-- what stands behind each column of a row's text
abbrev pub behind_joins : TableRow → List ℕ
behind_joins row = map next_char row.next

abbrev pub behind_drives : TableRow → List ℕ
behind_drives row = map join_char row.joins ++ (codes "/" ++ behind_joins row)

abbrev pub behind_stored : TableRow → List ℕ
behind_stored row = map drive_char row.drives ++ (codes "/" ++ behind_drives row)

abbrev pub behind_looks : TableRow → List ℕ
behind_looks row = map wanted_char row.stored ++ (codes " = " ++ behind_stored row)

-- a text that begins with the column of these things can be cut behind it
column_cut : {X : Type 0} (of : ℕ → X) (char : X → ℕ) (alphabet : List ℕ) → IsCode of char alphabet → (count : ℕ) (separator text rest : List ℕ) (xs : List X) → length xs ≡ count → text ≡ map char xs ++ (separator ++ rest) → BeginsWithColumn alphabet count separator text (map char xs) rest
column_cut of char alphabet code count separator text rest xs long is =
    record { is = is; long = length-map xs char ∙ long; allowed = column_allowed of char alphabet code xs }

-- however it is cut, the same stands behind
same_rest : (alphabet : List ℕ) (count : ℕ) (separator text column rest other others : List ℕ) → BeginsWithColumn alphabet count separator text column rest → BeginsWithColumn alphabet count separator text other others → rest ≡ others
same_rest alphabet count separator text column rest other others a b =
    append_cancel_left separator rest others (same_front column other (separator ++ rest) (separator ++ others) (a.long ∙ sym b.long) (sym a.is ∙ b.is)).1

pub looks_cut : (role : LeafRole) (text : List ℕ) (row : TableRow) (count : ℕ) → count ≡ length (leaf_inputs role) → IsWrittenAs role text row → BeginsWithColumn (codes "01x") count (codes "/") text (map wanted_char row.looks) (behind_looks row)
looks_cut role text row count is w =
    column_cut wanted_of wanted_char (codes "01x") wanted_code count (codes "/") text (behind_looks row) row.looks (w.widths.looks ∙ sym is) w.is

pub after_looks : (role : LeafRole) (text column rest : List ℕ) (row : TableRow) (count : ℕ) → count ≡ length (leaf_inputs role) → BeginsWithColumn (codes "01x") count (codes "/") text column rest → IsWrittenAs role text row → rest ≡ behind_looks row
after_looks role text column rest row count is cut w =
    same_rest (codes "01x") count (codes "/") text column rest (map wanted_char row.looks) (behind_looks row) cut (looks_cut role text row count is w)

pub stored_cut : (role : LeafRole) (text : List ℕ) (row : TableRow) (count : ℕ) → count ≡ length (leaf_stored role) → HasWidths role row → text ≡ behind_looks row → BeginsWithColumn (codes "01x") count (codes " = ") text (map wanted_char row.stored) (behind_stored row)
stored_cut role text row count is w at =
    column_cut wanted_of wanted_char (codes "01x") wanted_code count (codes " = ") text (behind_stored row) row.stored (w.stored ∙ sym is) at

pub after_stored : (role : LeafRole) (text column rest : List ℕ) (row : TableRow) (count : ℕ) → count ≡ length (leaf_stored role) → BeginsWithColumn (codes "01x") count (codes " = ") text column rest → HasWidths role row → text ≡ behind_looks row → rest ≡ behind_stored row
after_stored role text column rest row count is cut w at =
    same_rest (codes "01x") count (codes " = ") text column rest (map wanted_char row.stored) (behind_stored row) cut (stored_cut role text row count is w at)

pub drives_cut : (role : LeafRole) (text : List ℕ) (row : TableRow) (count : ℕ) → count ≡ length (leaf_driven role) → HasWidths role row → text ≡ behind_stored row → BeginsWithColumn (codes "01lhz") count (codes "/") text (map drive_char row.drives) (behind_drives row)
drives_cut role text row count is w at =
    column_cut drive_of drive_char (codes "01lhz") drive_code count (codes "/") text (behind_drives row) row.drives (w.drives ∙ sym is) at

pub after_drives : (role : LeafRole) (text column rest : List ℕ) (row : TableRow) (count : ℕ) → count ≡ length (leaf_driven role) → BeginsWithColumn (codes "01lhz") count (codes "/") text column rest → HasWidths role row → text ≡ behind_stored row → rest ≡ behind_drives row
after_drives role text column rest row count is cut w at =
    same_rest (codes "01lhz") count (codes "/") text column rest (map drive_char row.drives) (behind_drives row) cut (drives_cut role text row count is w at)

pub joins_cut : (role : LeafRole) (text : List ℕ) (row : TableRow) (count : ℕ) → count ≡ length (leaf_joined role) → HasWidths role row → text ≡ behind_drives row → BeginsWithColumn (codes "j-") count (codes "/") text (map join_char row.joins) (behind_joins row)
joins_cut role text row count is w at =
    column_cut join_of join_char (codes "j-") join_code count (codes "/") text (behind_joins row) row.joins (w.joins ∙ sym is) at

pub after_joins : (role : LeafRole) (text column rest : List ℕ) (row : TableRow) (count : ℕ) → count ≡ length (leaf_joined role) → BeginsWithColumn (codes "j-") count (codes "/") text column rest → HasWidths role row → text ≡ behind_drives row → rest ≡ behind_joins row
after_joins role text column rest row count is cut w at =
    same_rest (codes "j-") count (codes "/") text column rest (map join_char row.joins) (behind_joins row) cut (joins_cut role text row count is w at)

pub next_cut : (role : LeafRole) (text : List ℕ) (row : TableRow) (count : ℕ) → count ≡ length (leaf_stored role) → HasWidths role row → text ≡ behind_joins row → BeginsWithColumn (codes "01=") count [] text (map next_char row.next) []
next_cut role text row count is w at =
    column_cut next_of next_char (codes "01=") next_code count [] text [] row.next (w.next ∙ sym is) (at ∙ sym (append-nil (map next_char row.next)))

pub after_next : (role : LeafRole) (text column rest : List ℕ) (row : TableRow) (count : ℕ) → count ≡ length (leaf_stored role) → BeginsWithColumn (codes "01=") count [] text column rest → HasWidths role row → text ≡ behind_joins row → rest ≡ []
after_next role text column rest row count is cut w at =
    same_rest (codes "01=") count [] text column rest (map next_char row.next) [] cut (next_cut role text row count is w at)

column_written : {X : Type 0} (of : ℕ → X) (char : X → ℕ) (alphabet : List ℕ) → IsCode of char alphabet → (count : ℕ) (separator text column rest : List ℕ) → BeginsWithColumn alphabet count separator text column rest → text ≡ map char (map of column) ++ (separator ++ rest)
column_written of char alphabet code count separator text column rest cut =
    cut.is ∙ ap (λ (c : List ℕ). c ++ (separator ++ rest)) (sym (column_back of char alphabet code column cut.allowed))

column_long : {X : Type 0} (of : ℕ → X) (column : List ℕ) (count width : ℕ) → length column ≡ count → count ≡ width → length (map of column) ≡ width
column_long of column count width long is = length-map column of ∙ long ∙ is

-- a text that is cut to the end is the row of its columns
pub cut_written : (role : LeafRole) (text looks behind1 stored behind2 drives behind3 joins behind4 next behind5 : List ℕ) (inputs bits driven joined more : ℕ)
    → inputs ≡ length (leaf_inputs role) → bits ≡ length (leaf_stored role) → driven ≡ length (leaf_driven role) → joined ≡ length (leaf_joined role) → more ≡ length (leaf_stored role)
    → BeginsWithColumn (codes "01x") inputs (codes "/") text looks behind1 → BeginsWithColumn (codes "01x") bits (codes " = ") behind1 stored behind2 → BeginsWithColumn (codes "01lhz") driven (codes "/") behind2 drives behind3
    → BeginsWithColumn (codes "j-") joined (codes "/") behind3 joins behind4 → BeginsWithColumn (codes "01=") more [] behind4 next behind5 → behind5 ≡ []
    → IsWrittenAs role text (record { looks = map wanted_of looks; stored = map wanted_of stored; drives = map drive_of drives; joins = map join_of joins; next = map next_of next })
cut_written role text looks behind1 stored behind2 drives behind3 joins behind4 next behind5 inputs bits driven joined more is_inputs is_bits is_driven is_joined is_more cut1 cut2 cut3 cut4 cut5 ends =
    let at5 = column_written next_of next_char (codes "01=") next_code more [] behind4 next behind5 cut5 in
    let at4 = column_written join_of join_char (codes "j-") join_code joined (codes "/") behind3 joins behind4 cut4 in
    let at3 = column_written drive_of drive_char (codes "01lhz") drive_code driven (codes "/") behind2 drives behind3 cut3 in
    let at2 = column_written wanted_of wanted_char (codes "01x") wanted_code bits (codes " = ") behind1 stored behind2 cut2 in
    let at1 = column_written wanted_of wanted_char (codes "01x") wanted_code inputs (codes "/") text looks behind1 cut1 in
    let last : behind4 ≡ map next_char (map next_of next) = at5 ∙ ap (λ (r : List ℕ). map next_char (map next_of next) ++ r) ends ∙ append-nil (map next_char (map next_of next)) in
    record {
      widths = record {
        looks = column_long wanted_of looks inputs (length (leaf_inputs role)) cut1.long is_inputs;
        stored = column_long wanted_of stored bits (length (leaf_stored role)) cut2.long is_bits;
        drives = column_long drive_of drives driven (length (leaf_driven role)) cut3.long is_driven;
        joins = column_long join_of joins joined (length (leaf_joined role)) cut4.long is_joined;
        next = column_long next_of next more (length (leaf_stored role)) cut5.long is_more;
      };
      is = at1
          ∙ ap (λ (r : List ℕ). map wanted_char (map wanted_of looks) ++ (codes "/" ++ r)) (at2
          ∙ ap (λ (r : List ℕ). map wanted_char (map wanted_of stored) ++ (codes " = " ++ r)) (at3
          ∙ ap (λ (r : List ℕ). map drive_char (map drive_of drives) ++ (codes "/" ++ r)) (at4
          ∙ ap (λ (r : List ℕ). map join_char (map join_of joins) ++ (codes "/" ++ r)) last)));
    }

-- one column after another: what stands behind the second, the third, the fourth and the last
pub at_drives : (role : LeafRole) (text looks behind1 stored behind2 : List ℕ) (row : TableRow) (inputs bits : ℕ)
    → inputs ≡ length (leaf_inputs role) → bits ≡ length (leaf_stored role)
    → BeginsWithColumn (codes "01x") inputs (codes "/") text looks behind1 → BeginsWithColumn (codes "01x") bits (codes " = ") behind1 stored behind2
    → IsWrittenAs role text row → behind2 ≡ behind_stored row
at_drives role text looks behind1 stored behind2 row inputs bits is_inputs is_bits cut1 cut2 w =
    after_stored role behind1 stored behind2 row bits is_bits cut2 w.widths (after_looks role text looks behind1 row inputs is_inputs cut1 w)

pub at_joins : (role : LeafRole) (text looks behind1 stored behind2 drives behind3 : List ℕ) (row : TableRow) (inputs bits driven : ℕ)
    → inputs ≡ length (leaf_inputs role) → bits ≡ length (leaf_stored role) → driven ≡ length (leaf_driven role)
    → BeginsWithColumn (codes "01x") inputs (codes "/") text looks behind1 → BeginsWithColumn (codes "01x") bits (codes " = ") behind1 stored behind2
    → BeginsWithColumn (codes "01lhz") driven (codes "/") behind2 drives behind3 → IsWrittenAs role text row → behind3 ≡ behind_drives row
at_joins role text looks behind1 stored behind2 drives behind3 row inputs bits driven is_inputs is_bits is_driven cut1 cut2 cut3 w =
    after_drives role behind2 drives behind3 row driven is_driven cut3 w.widths (at_drives role text looks behind1 stored behind2 row inputs bits is_inputs is_bits cut1 cut2 w)

pub at_next : (role : LeafRole) (text looks behind1 stored behind2 drives behind3 joins behind4 : List ℕ) (row : TableRow) (inputs bits driven joined : ℕ)
    → inputs ≡ length (leaf_inputs role) → bits ≡ length (leaf_stored role) → driven ≡ length (leaf_driven role) → joined ≡ length (leaf_joined role)
    → BeginsWithColumn (codes "01x") inputs (codes "/") text looks behind1 → BeginsWithColumn (codes "01x") bits (codes " = ") behind1 stored behind2
    → BeginsWithColumn (codes "01lhz") driven (codes "/") behind2 drives behind3 → BeginsWithColumn (codes "j-") joined (codes "/") behind3 joins behind4
    → IsWrittenAs role text row → behind4 ≡ behind_joins row
at_next role text looks behind1 stored behind2 drives behind3 joins behind4 row inputs bits driven joined is_inputs is_bits is_driven is_joined cut1 cut2 cut3 cut4 w =
    after_joins role behind3 joins behind4 row joined is_joined cut4 w.widths
    (at_joins role text looks behind1 stored behind2 drives behind3 row inputs bits driven is_inputs is_bits is_driven cut1 cut2 cut3 w)

-- a list is as long as what its items stand for
pub counted : {X Y : Type 0} (f : X → Y) (xs : List X) (ys : List Y) → map f xs ≡ ys → length xs ≡ length ys
counted f xs ys is = sym (length-map xs f) ∙ ap length is

-- behind as many characters as the column has stand the separator and the rest
pub after_cut : (alphabet : List ℕ) (count : ℕ) (separator text column rest : List ℕ) → BeginsWithColumn alphabet count separator text column rest → drop count text ≡ separator ++ rest
after_cut alphabet count separator text column rest cut =
    ap (λ (n : ℕ). drop n text) (sym cut.long) ∙ ap (drop (length column)) cut.is ∙ drop-append_seam column (separator ++ rest)

-- and so many characters are the column
pub front_cut : (alphabet : List ℕ) (count : ℕ) (separator text column rest : List ℕ) → BeginsWithColumn alphabet count separator text column rest → take count text ≡ column
front_cut alphabet count separator text column rest cut =
    ap (λ (n : ℕ). take n text) (sym cut.long) ∙ ap (take (length column)) cut.is ∙ take-append_seam column (separator ++ rest)

pub make_cut : (alphabet : List ℕ) (count : ℕ) (separator text column behind rest : List ℕ) → column ≡ take count text → behind ≡ drop count text → behind ≡ separator ++ rest → length column ≡ count → are_of alphabet column ≡ true → BeginsWithColumn alphabet count separator text column rest
make_cut alphabet count separator text column behind rest front back is long allowed = record {
  is = sym (take-append-drop count text) ∙ ap (λ (l : List ℕ). l ++ drop count text) (sym front) ∙ ap (λ (l : List ℕ). column ++ l) (sym back ∙ is);
  long = long;
  allowed = allowed;
}

pub none_left : (xs : List ℕ) → (length xs == 0) ≡ true → xs ≡ []
none_left [] is = refl
none_left (x ∷ xs) is = let e = eqb-true (length (x ∷ xs)) 0 is in absurd (omega arith)

same_things : {X : Type 0} (of : ℕ → X) (char : X → ℕ) (alphabet : List ℕ) → IsCode of char alphabet → (count : ℕ) (separator text : List ℕ) (xs ys : List X) (rest other : List ℕ) → BeginsWithColumn alphabet count separator text (map char xs) rest → BeginsWithColumn alphabet count separator text (map char ys) other → (xs ≡ ys) × (rest ≡ other)
same_things of char alphabet code count separator text xs ys rest other a b = (
  sym (column_forth of char alphabet code xs)
      ∙ ap (map of) (sym (front_cut alphabet count separator text (map char xs) rest a) ∙ front_cut alphabet count separator text (map char ys) other b)
      ∙ column_forth of char alphabet code ys,
  same_rest alphabet count separator text (map char xs) rest (map char ys) other a b,
)

-- a text is one row of a role at most
pub one_row : (role : LeafRole) (text : List ℕ) (a b : TableRow) → IsWrittenAs role text a → IsWrittenAs role text b → a ≡ b
one_row role text a b by_a by_b =
    let n = length (leaf_inputs role) in
    let m = length (leaf_stored role) in
    let looks = same_things wanted_of wanted_char (codes "01x") wanted_code n (codes "/") text a.looks b.looks (behind_looks a) (behind_looks b) (looks_cut role text a n refl by_a) (looks_cut role text b n refl by_b) in
    let stored = same_things wanted_of wanted_char (codes "01x") wanted_code m (codes " = ") (behind_looks a) a.stored b.stored (behind_stored a) (behind_stored b) (stored_cut role (behind_looks a) a m refl by_a.widths refl) (stored_cut role (behind_looks a) b m refl by_b.widths looks.1) in
    let drives = same_things drive_of drive_char (codes "01lhz") drive_code (length (leaf_driven role)) (codes "/") (behind_stored a) a.drives b.drives (behind_drives a) (behind_drives b) (drives_cut role (behind_stored a) a _ refl by_a.widths refl) (drives_cut role (behind_stored a) b _ refl by_b.widths stored.1) in
    let joins = same_things join_of join_char (codes "j-") join_code (length (leaf_joined role)) (codes "/") (behind_drives a) a.joins b.joins (behind_joins a) (behind_joins b) (joins_cut role (behind_drives a) a _ refl by_a.widths refl) (joins_cut role (behind_drives a) b _ refl by_b.widths drives.1) in
    let next = same_things next_of next_char (codes "01=") next_code m [] (behind_joins a) a.next b.next [] [] (next_cut role (behind_joins a) a m refl by_a.widths refl) (next_cut role (behind_joins a) b m refl by_b.widths joins.1) in
    λ i. record { looks = looks.0 i; stored = stored.0 i; drives = drives.0 i; joins = joins.0 i; next = next.0 i }
