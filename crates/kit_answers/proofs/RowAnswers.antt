-- A text is a row of a role, or none; and two rows match one point, or none.
use Rattle.std.proofs.Common.{◌≡◌, ◌⊎◌, inl, inr, ℕ, List, [], ◌∷◌, map, length, take, drop, codes, Bool, true, false, refl, sym, ap, subst, ◌∙◌}
use Rattle.std.proofs.Common.{arith}
use Rattle.std.specs.Prelude.{IsTrue}
use Rattle.std.proofs.lemmas.Bool.{cases_eq}
use Rattle.cell_roles.specs.declared.leaf_role.LeafRole.{LeafRole}
use Rattle.cell_roles.specs.LeafRoles.{leaf_inputs, leaf_stored, leaf_driven, leaf_joined}
use Rattle.cell_roles.specs.RowTexts.{wanted_char, drive_char, join_char, next_char, row_text}
use Rattle.cell_roles.specs.Tables.{Wanted, Either, Only, TableRow, fits}
use Rattle.role_tables.specs.Columns.{wanted_of, drive_of, join_of, next_of, BeginsWithColumn, FitOne}
use Rattle.role_tables.specs.Point.{MatchOnePoint}
use Rattle.role_tables.specs.Table.{HasWidths, IsWrittenAs}
use Rattle.role_tables.proofs.CodeLaws.{IsCode, wanted_code, drive_code, join_code, next_code, column_forth}
use Rattle.role_tables.proofs.CutLaws.{after_cut, behind_drives, behind_joins, behind_looks, behind_stored, drives_cut, front_cut, joins_cut}
use Rattle.role_tables.proofs.CutLaws.{looks_cut, next_cut, stored_cut}
use Rattle.role_tables.proofs.FitLaws.{fits_long, fits_none}
use Rattle.role_tables.proofs.MatchLaws.{looks_one, match_one, stored_one}
use Rattle.kit_answers.proofs.DecidingLaws.{Decided, decide_both, decide_like, decide_text}

-- what stands behind each column of a text, where it is cut by the widths of a role
abbrev after_inputs : LeafRole → List ℕ → List ℕ
after_inputs role text = drop 1 (drop (length (leaf_inputs role)) text)

abbrev after_bits : LeafRole → List ℕ → List ℕ
after_bits role text = drop 3 (drop (length (leaf_stored role)) (after_inputs role text))

abbrev after_driven : LeafRole → List ℕ → List ℕ
after_driven role text = drop 1 (drop (length (leaf_driven role)) (after_bits role text))

abbrev after_joined : LeafRole → List ℕ → List ℕ
after_joined role text = drop 1 (drop (length (leaf_joined role)) (after_driven role text))

-- the row that it would be
abbrev row_in : LeafRole → List ℕ → TableRow
row_in role text = record {
  looks = map wanted_of (take (length (leaf_inputs role)) text);
  stored = map wanted_of (take (length (leaf_stored role)) (after_inputs role text));
  drives = map drive_of (take (length (leaf_driven role)) (after_bits role text));
  joins = map join_of (take (length (leaf_joined role)) (after_driven role text));
  next = map next_of (take (length (leaf_stored role)) (after_joined role text));
}

read_back : {X : Type 0} (of : ℕ → X) (char : X → ℕ) (alphabet : List ℕ) → IsCode of char alphabet
    → (count : ℕ) (separator text other rest : List ℕ) (xs : List X)
    → other ≡ text → BeginsWithColumn alphabet count separator text (map char xs) rest → map of (take count other) ≡ xs
read_back of char alphabet code count separator text other rest xs same cut =
    ap (λ (t : List ℕ). map of (take count t)) same ∙ ap (map of) (front_cut alphabet count separator text (map char xs) rest cut)
    ∙ column_forth of char alphabet code xs

cut_one : (alphabet : List ℕ) (count : ℕ) (text other column rest : List ℕ) → other ≡ text
    → BeginsWithColumn alphabet count (codes "/") text column rest → drop 1 (drop count other) ≡ rest
cut_one alphabet count text other column rest same cut =
    ap (λ (t : List ℕ). drop 1 (drop count t)) same ∙ ap (drop 1) (after_cut alphabet count (codes "/") text column rest cut)

cut_three : (alphabet : List ℕ) (count : ℕ) (text other column rest : List ℕ) → other ≡ text → BeginsWithColumn alphabet count
    (codes " = ") text column rest → drop 3 (drop count other) ≡ rest
cut_three alphabet count text other column rest same cut =
    ap (λ (t : List ℕ). drop 3 (drop count t)) same ∙ ap (drop 3) (after_cut alphabet count (codes " = ") text column rest cut)

-- a text that is a row is this one
row_is : (role : LeafRole) (text : List ℕ) (row : TableRow) → IsWrittenAs role text row → row_in role text ≡ row
row_is role text row w =
    let n = length (leaf_inputs role) in
    let m = length (leaf_stored role) in
    let d = length (leaf_driven role) in
    let j = length (leaf_joined role) in
    let looks = looks_cut role text row n refl w in
    let stored = stored_cut role (behind_looks row) row m refl w.widths refl in
    let drives = drives_cut role (behind_stored row) row d refl w.widths refl in
    let joins = joins_cut role (behind_drives row) row j refl w.widths refl in
    let next = next_cut role (behind_joins row) row m refl w.widths refl in
    let one = cut_one (codes "01x") n text text (map wanted_char row.looks) (behind_looks row) refl looks in
    let two = cut_three (codes "01x") m (behind_looks row) (after_inputs role text) (map wanted_char row.stored) (behind_stored row) one stored in
    let three = cut_one (codes "01lhz") d (behind_stored row) (after_bits role text) (map drive_char row.drives) (behind_drives row) two drives in
    let four = cut_one (codes "j-") j (behind_drives row) (after_driven role text) (map join_char row.joins) (behind_joins row) three joins in
    let first = read_back wanted_of wanted_char (codes "01x") wanted_code n (codes "/") text text (behind_looks row) row.looks refl looks in
    let second =
    read_back wanted_of wanted_char (codes "01x") wanted_code m (codes " = ") (behind_looks row) (after_inputs role text)
    (behind_stored row) row.stored one stored in
    let third =
    read_back drive_of drive_char (codes "01lhz") drive_code d (codes "/") (behind_stored row) (after_bits role text)
    (behind_drives row) row.drives two drives in
    let fourth =
    read_back join_of join_char (codes "j-") join_code j (codes "/") (behind_drives row) (after_driven role text)
    (behind_joins row) row.joins three joins in
    let fifth = read_back next_of next_char (codes "01=") next_code m [] (behind_joins row) (after_joined role text) [] row.next four next in
    λ i. record { looks = first i; stored = second i; drives = third i; joins = fourth i; next = fifth i }

abbrev Widths : LeafRole → TableRow → Type 0
Widths role row =
    ((length row.looks ≡ length (leaf_inputs role)) × (length row.stored ≡ length (leaf_stored role)))
    ×
    ((length row.drives ≡ length (leaf_driven role)) ×
    ((length row.joins ≡ length (leaf_joined role)) × (length row.next ≡ length (leaf_stored role))))

decide_widths : (role : LeafRole) (row : TableRow) → Decided (HasWidths role row)
decide_widths role row =
    let A : Type 0 = length row.looks ≡ length (leaf_inputs role) in
    let B : Type 0 = length row.stored ≡ length (leaf_stored role) in
    let C : Type 0 = length row.drives ≡ length (leaf_driven role) in
    let D : Type 0 = length row.joins ≡ length (leaf_joined role) in
    let E : Type 0 = length row.next ≡ length (leaf_stored role) in
    decide_like (Widths role row) (HasWidths role row)
    (λ w. record { looks = w.0.0; stored = w.0.1; drives = w.1.0; joins = w.1.1.0; next = w.1.1.1 })
    (λ w. ((w.looks, w.stored), (w.drives, (w.joins, w.next))))
    (decide_both (A × B) (C × (D × E))
    (decide_both A B (cases_eq (length row.looks) (length (leaf_inputs role))) (cases_eq (length row.stored) (length (leaf_stored role))))
    (decide_both C (D × E) (cases_eq (length row.drives) (length (leaf_driven role)))
    (decide_both D E (cases_eq (length row.joins) (length (leaf_joined role))) (cases_eq (length row.next) (length (leaf_stored role))))))

decide_written : (role : LeafRole) (text : List ℕ) (row : TableRow) → Decided (IsWrittenAs role text row)
decide_written role text row =
    decide_like (HasWidths role row × (text ≡ row_text row)) (IsWrittenAs role text row) (λ w. record { widths = w.0; is = w.1 })
    (λ w. (w.widths, w.is))
    (decide_both (HasWidths role row) (text ≡ row_text row) (decide_widths role row) (decide_text text (row_text row)))

-- a text is a row of the role, or none
pub row_or_none : (role : LeafRole) (text : List ℕ)
    → ((row : TableRow) × IsWrittenAs role text row) ⊎ ((row : TableRow) → IsWrittenAs role text row → ⊥)
row_or_none role text = elim (decide_written role text (row_in role text)) [
  | inl written ↦ inl (row_in role text, written)
  | inr not ↦ inr (λ row w. not (subst (IsWrittenAs role text) (sym (row_is role text row w)) w))
]

-- values that fit a column fit it without its first character
fits_tail : (w : Wanted) (ws : List Wanted) (b : Bool) (bs : List Bool) → IsTrue (fits (w ∷ ws) (b ∷ bs)) → IsTrue (fits ws bs)
fits_tail Either ws b bs is = is
fits_tail (Only true) ws true bs is = is
fits_tail (Only false) ws false bs is = is
fits_tail (Only true) ws false bs is = absurd (cc)
fits_tail (Only false) ws true bs is = absurd (cc)

tails_fit : (w v : Wanted) (ws vs : List Wanted) (bs : List Bool) → IsTrue (fits (w ∷ ws) bs) → IsTrue (fits (v ∷ vs) bs) → FitOne ws vs
tails_fit w v ws vs [] first second = let none = fits_none w ws in absurd (cc)
tails_fit w v ws vs (b ∷ bs) first second = record { values = bs; first = fits_tail w ws b bs first; second = fits_tail v vs b bs second }

-- where the first characters want the same value some values fit, if they do so behind them
heads_fit : (w v : Wanted) (ws vs : List Wanted) → FitOne ws vs → Decided (FitOne (w ∷ ws) (v ∷ vs))
heads_fit Either Either ws vs r = inl (record { values = true ∷ r.values; first = r.first; second = r.second })
heads_fit Either (Only true) ws vs r = inl (record { values = true ∷ r.values; first = r.first; second = r.second })
heads_fit Either (Only false) ws vs r = inl (record { values = false ∷ r.values; first = r.first; second = r.second })
heads_fit (Only true) Either ws vs r = inl (record { values = true ∷ r.values; first = r.first; second = r.second })
heads_fit (Only false) Either ws vs r = inl (record { values = false ∷ r.values; first = r.first; second = r.second })
heads_fit (Only true) (Only true) ws vs r = inl (record { values = true ∷ r.values; first = r.first; second = r.second })
heads_fit (Only false) (Only false) ws vs r = inl (record { values = false ∷ r.values; first = r.first; second = r.second })
heads_fit (Only true) (Only false) ws vs r = inr (λ f. never_both ws vs f.values f.first f.second)
  where
    never_both : (ws vs : List Wanted) (bs : List Bool) → IsTrue (fits (Only true ∷ ws) bs) → IsTrue (fits (Only false ∷ vs) bs) → ⊥
    never_both ws vs [] first second = absurd (cc)
    never_both ws vs (true ∷ bs) first second = absurd (cc)
    never_both ws vs (false ∷ bs) first second = absurd (cc)
heads_fit (Only false) (Only true) ws vs r = inr (λ f. never_both ws vs f.values f.first f.second)
  where
    never_both : (ws vs : List Wanted) (bs : List Bool) → IsTrue (fits (Only false ∷ ws) bs) → IsTrue (fits (Only true ∷ vs) bs) → ⊥
    never_both ws vs [] first second = absurd (cc)
    never_both ws vs (true ∷ bs) first second = absurd (cc)
    never_both ws vs (false ∷ bs) first second = absurd (cc)

fit_or_none : (ws vs : List Wanted) → Decided (FitOne ws vs)
fit_or_none [] [] = inl (record { values = []; first = refl; second = refl })
fit_or_none [] (v ∷ vs) = inr (λ f. let p = fits_long [] f.values f.first in let q = fits_long (v ∷ vs) f.values f.second in omega (arith, p, q))
fit_or_none (w ∷ ws) [] = inr (λ f. let p = fits_long (w ∷ ws) f.values f.first in let q = fits_long [] f.values f.second in omega (arith, p, q))
fit_or_none (w ∷ ws) (v ∷ vs) = elim (fit_or_none ws vs) [
  | inl r ↦ heads_fit w v ws vs r
  | inr none ↦ inr (λ f. none (tails_fit w v ws vs f.values f.first f.second))
]

-- two rows match one point, or none
pub match_or_none : (a b : TableRow) → Decided (MatchOnePoint a b)
match_or_none a b =
    decide_like (FitOne a.looks b.looks × FitOne a.stored b.stored) (MatchOnePoint a b) (λ f. match_one a b f.0 f.1)
    (λ m. (looks_one a b m, stored_one a b m))
    (decide_both (FitOne a.looks b.looks) (FitOne a.stored b.stored) (fit_or_none a.looks b.looks) (fit_or_none a.stored b.stored))
