-- Names that differ.
use Rattle.std.proofs.Common.{◌≡◌, ◌≢◌, inl, inr, ℕ, zero, suc, ◌+◌, ◌<◌, ◌≤◌, Bool, true, false, not, ◌&&◌, nat_eq, List, [], ◌∷◌, ◌++◌, map, length, get_or, refl, sym, ap, subst, ◌∙◌, append_assoc, zero-add, arith}
use Rattle.std.specs.Prelude.{All, Contains, codes}
use Rattle.std.specs.List.{AllPairs}
use Rattle.std.specs.Char.{to_ascii_lowercase}
use Rattle.std.specs.Fmt.{decimal}
use Rattle.std.proofs.lemmas.Bool.Decides.{nat_tests}
use Rattle.std.proofs.lemmas.Fmt.{decimal_injective}
use Rattle.std.proofs.lemmas.List.{append-nil, append_cancel_left, get_or-map, get_or_default, length-map}
use Rattle.std.proofs.lemmas.List.Elements.{Contains-append_cases}
use Rattle.std.proofs.lemmas.List.Kept.{AllPairs-cons}
use Rattle.or_geom.proofs.ListLaws.{contains_first, contains_later, contains_map}
use Rattle.gds_library.specs.declared.library.Structure.{Structure}
use Rattle.tech_rules.specs.declared.tech.Layer.{Layer}
use Rattle.cell_builder.specs.declared.cell.DrawnCell.{DrawnCell}
use Rattle.cell_builder.specs.Finish.{AreFinished, IsFinishedCell}
use Rattle.sram_netlist.specs.Organization.{Organization, IsBuildable, bank_rows}
use Rattle.sram_netlist.specs.InstanceList.{numbers_from, tabulate}
use Rattle.sram_netlist.specs.BitCells.{BitCells, Alike, Apart, row_kinds, row_name}
use Rattle.macro_layout.specs.Cells.{array_cell_name, pre_cell_name, data_cell_name, bank_cell_name, logic_cell_name}
use Rattle.macro_bounds.proofs.CountLaws.{numbers_long, tabulate_long}
use Rattle.macro_bounds.specs.Differ.{other_names, MacroNamesDiffer, MadeNamesDiffer}

-- pairs

each_listed : {X : Type 0} (P : X → Type 0) (xs : List X) → ((x : X) → Contains xs x → P x) → All P xs
each_listed P xs each k d lt = each (get_or xs k d) (k, lt, get_or_default xs k (get_or xs k d) d lt)

first_pairs : {X : Type 0} (R : X → X → Type 0) (x : X) (xs : List X) (y : X) → AllPairs R (x ∷ xs) → Contains xs y → R x y
first_pairs R x xs y all there = let lt = there.1 in subst (R x) there.2 (all 0 (suc there.0) y (omega arith) (omega (arith, lt)))

other_pairs : {X : Type 0} (R : X → X → Type 0) (x : X) (xs : List X) → AllPairs R (x ∷ xs) → AllPairs R xs
other_pairs R x xs all i j d lt within = all (suc i) (suc j) d (omega (arith, lt)) (omega (arith, within))

pairs_joined : {X : Type 0} (R : X → X → Type 0) (xs ys : List X) → AllPairs R xs → AllPairs R ys → ((x y : X) → Contains xs x → Contains ys y → R x y) → AllPairs R (xs ++ ys)
pairs_joined R [] ys a b across = b
pairs_joined R (x ∷ xs) ys a b across =
    AllPairs-cons R x (xs ++ ys)
    (each_listed (R x) (xs ++ ys) (λ y there. elim (Contains-append_cases xs ys y there) [ inl c ↦ first_pairs R x xs y a c | inr c ↦ across x y (contains_first x xs) c ]))
    (pairs_joined R xs ys (other_pairs R x xs a) b (λ z y c. across z y (contains_later x xs z c)))

abbrev AreApart : List (List ℕ) → Type 0
AreApart = AllPairs (λ (a b : List ℕ). a ≢ b)

mapped_apart : {X : Type 0} (name : X → List ℕ) (xs : List X) → AreApart (map name xs) → AllPairs (λ (a b : X). name a ≢ name b) xs
mapped_apart name xs all i j d lt within =
    let long = length-map xs name in
    λ e. all i j (name d) lt (omega (arith, long, within)) (get_or-map name xs i d (name d) (omega (arith, lt, within)) ∙ (e ∙ sym (get_or-map name xs j d (name d) within)))

-- the names of the cells: a name, and letters behind it

abbrev is_new : ℕ → List ℕ → Bool
is_new k [] = true
is_new k (x ∷ xs) = not (nat_eq k x) && is_new k xs

abbrev are_new : List ℕ → Bool
are_new [] = true
are_new (k ∷ ks) = is_new k ks && are_new ks

both_true : (a b : Bool) → (a && b) ≡ true → (a ≡ true) × (b ≡ true)
both_true true true e = (refl, refl)
both_true true false e = absurd cc
both_true false b e = absurd cc

unequal : (a b : ℕ) → not (nat_eq a b) ≡ true → a ≢ b
unequal a b e is = grind (arith, nat_tests, e, is)

new_all : (k : ℕ) (xs : List ℕ) → is_new k xs ≡ true → All (λ x. k ≢ x) xs
new_all k [] e i d lt = absurd (omega (arith, lt))
new_all k (x ∷ xs) e zero d lt = unequal k x (both_true (not (nat_eq k x)) (is_new k xs) e).0
new_all k (x ∷ xs) e (suc i) d lt = new_all k xs (both_true (not (nat_eq k x)) (is_new k xs) e).1 i d (omega (arith, lt))

new_pairs : (ks : List ℕ) → are_new ks ≡ true → AllPairs (λ (a b : ℕ). a ≢ b) ks
new_pairs [] e = λ i j d lt within. absurd (omega (arith, within))
new_pairs (k ∷ ks) e = let both = both_true (is_new k ks) (are_new ks) e in AllPairs-cons (λ (a b : ℕ). a ≢ b) k ks (new_all k ks both.0) (new_pairs ks both.1)

abbrev letters : List (List ℕ)
letters = codes "_array" ∷ codes "_pre" ∷ codes "_data" ∷ codes "_bank" ∷ codes "_logic" ∷ [] ∷ []

-- the second letter tells them
abbrev second : List ℕ → ℕ
second text = get_or text 1 0

second_tells : (ts : List (List ℕ)) → AllPairs (λ (a b : ℕ). a ≢ b) (map second ts) → AreApart ts
second_tells ts all i j d lt within =
    let long = length-map ts second in
    λ e. all i j (second d) lt (omega (arith, long, within)) (get_or-map second ts i d (second d) (omega (arith, lt, within)) ∙ (ap second e ∙ sym (get_or-map second ts j d (second d) within)))

letters_apart : AreApart letters
letters_apart = second_tells letters (new_pairs (map second letters) refl)

abbrev behind : List ℕ → List ℕ → List ℕ
behind n t = n ++ t

behind_apart : (n : List ℕ) (ts : List (List ℕ)) → AreApart ts → AreApart (map (behind n) ts)
behind_apart n ts all i j d lt within =
    let long = length-map ts (behind n) in
    let in_j : j < length ts = omega (arith, long, within) in
    let in_i : i < length ts = omega (arith, lt, in_j) in
    λ e. all i j d lt in_j (append_cancel_left n (get_or ts i d) (get_or ts j d) (sym (get_or-map (behind n) ts i d d in_i) ∙ (e ∙ get_or-map (behind n) ts j d d in_j)))

others_are : (n : List ℕ) → map (behind n) letters ≡ other_names n
others_are n = ap (λ (last : List ℕ). array_cell_name n ∷ pre_cell_name n ∷ data_cell_name n ∷ bank_cell_name n ∷ logic_cell_name n ∷ last ∷ []) (append-nil n)

-- the names of rows: _row and a number where rows are told apart

row_number : BitCells → ℕ → List ℕ
row_number (Alike name) r = []
row_number (Apart names) r = decimal r ++ []

row_is : (bits : BitCells) (n : List ℕ) (r : ℕ) → row_name bits n r ≡ n ++ (codes "_row" ++ row_number bits r)
unfolding row_number
row_is (Alike name) n r = refl
row_is (Apart names) n r = append_assoc n (codes "_row") (decimal r ++ [])

row_told : (bits : BitCells) (rows i j : ℕ) → rows ≤ 256 → i < row_kinds bits rows → j < row_kinds bits rows → row_number bits i ≡ row_number bits j → i ≡ j
unfolding row_number
row_told (Alike name) rows i j few a b e = omega (arith, a, b)
row_told (Apart names) rows i j few a b e = decimal_injective i j (omega (arith, few, a)) (omega (arith, few, b)) (sym (append-nil (decimal i)) ∙ (e ∙ append-nil (decimal j)))

number_at : (k n i d : ℕ) → i < n → get_or (numbers_from k n) i d ≡ k + i
number_at k zero i d lt = absurd (omega (arith, lt))
number_at k (suc n) zero d lt = omega arith
number_at k (suc n) (suc i) d lt = let e = number_at (suc k) n i d (omega (arith, lt)) in omega (arith, e)

module _ (plan : Organization) (bits : BitCells) (n : List ℕ) (p : IsBuildable plan) where
  abbrev row_names : List (List ℕ)
  row_names = tabulate (row_kinds bits (bank_rows plan)) (row_name bits n)

  rows_long : length row_names ≡ row_kinds bits (bank_rows plan)
  rows_long = tabulate_long (row_kinds bits (bank_rows plan)) (row_name bits n)

  row_at : (i : ℕ) (d : List ℕ) → i < row_kinds bits (bank_rows plan) → get_or row_names i d ≡ n ++ (codes "_row" ++ row_number bits i)
  row_at i d lt =
      let long = numbers_long 0 (row_kinds bits (bank_rows plan)) in
      get_or-map (row_name bits n) (numbers_from 0 (row_kinds bits (bank_rows plan))) i 0 d (omega (arith, long, lt))
      ∙ (ap (row_name bits n) (number_at 0 (row_kinds bits (bank_rows plan)) i 0 lt ∙ zero-add i) ∙ row_is bits n i)

  rows_apart : AreApart row_names
  rows_apart i j d lt within =
      let long = rows_long in
      let at_j : j < row_kinds bits (bank_rows plan) = omega (arith, long, within) in
      let at_i : i < row_kinds bits (bank_rows plan) = omega (arith, lt, at_j) in
      λ e.
      let behind_n = append_cancel_left n (codes "_row" ++ row_number bits i) (codes "_row" ++ row_number bits j) (sym (row_at i d at_i) ∙ (e ∙ row_at j d at_j)) in
      let same = row_told bits (bank_rows plan) i j p.rows at_i at_j (append_cancel_left (codes "_row") (row_number bits i) (row_number bits j) behind_n) in
      omega (arith, lt, same)

  across : (x y : List ℕ) → Contains row_names x → Contains (map (behind n) letters) y → x ≢ y
  across x y row other e =
      let long = rows_long in
      let in_rows = row.1 in
      let in_others = other.1 in
      let same = append_cancel_left n (codes "_row" ++ row_number bits row.0) (get_or letters other.0 []) (sym (row_at row.0 x (omega (arith, long, in_rows))) ∙ (row.2 ∙ (e ∙ (sym other.2 ∙ get_or-map (behind n) letters other.0 [] y (omega (arith, in_others)))))) in
      new_all 114 (map second letters) refl other.0 0 (omega (arith, in_others)) (ap second same ∙ sym (get_or-map second letters other.0 [] 0 (omega (arith, in_others))))

pub macro_names_differ : MacroNamesDiffer
macro_names_differ plan bits n p =
    subst (λ (others : List (List ℕ)). AreApart (tabulate (row_kinds bits (bank_rows plan)) (row_name bits n) ++ others)) (others_are n)
    (pairs_joined (λ (a b : List ℕ). a ≢ b) (tabulate (row_kinds bits (bank_rows plan)) (row_name bits n)) (map (behind n) letters) (rows_apart plan bits n p) (behind_apart n letters letters_apart) (across plan bits n p))

-- structures

abbrev struct_names : List Structure → List (List ℕ)
struct_names = map (λ (s : Structure). s.name)

finished_name : (layers : List Layer) (cell : DrawnCell) (s : Structure) → IsFinishedCell layers cell s → s.name ≡ cell.name
finished_name layers cell s fin = ap (λ (t : Structure). t.name) fin.is ∙ fin.order.name

finished_names : (layers : List Layer) (cells : List DrawnCell) (made : List Structure) → AreFinished layers cells made → struct_names made ≡ map (λ (c : DrawnCell). c.name) cells
finished_names layers [] made each = ap struct_names each
finished_names layers (c ∷ cs) [] each = absurd each
finished_names layers (c ∷ cs) (s ∷ ss) each = λ i. finished_name layers c s each.0 i ∷ finished_names layers cs ss each.1 i

pub made_names_differ : MadeNamesDiffer
made_names_differ layers adopted cells structs plan bits n p made named old free =
    let names = finished_names layers cells made.made made.each ∙ named in
    let new = mapped_apart (λ (s : Structure). s.name) made.made (subst AreApart (sym names) (macro_names_differ plan bits n p)) in
    subst (AllPairs (λ (a b : Structure). a.name ≢ b.name)) (sym made.parts)
    (pairs_joined (λ (a b : Structure). a.name ≢ b.name) adopted made.made old new
    (λ x y in_old in_new e. free x y.name in_old (subst (λ (l : List (List ℕ)). Contains l y.name) names (contains_map (λ (s : Structure). s.name) made.made y in_new)) (ap (map to_ascii_lowercase) e)))
