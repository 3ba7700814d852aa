-- Which subcircuit each row has, what stands at a place of the written subcircuits, and that their names differ.
use Rattle.std.proofs.Common.{◌≡◌, ◌≢◌, ℕ, zero, suc, ◌+◌, ◌<◌, ◌≤◌, ◌^◌, List, [], ◌∷◌, ◌++◌, length, map, get_or, Bool, cond, Some, refl, sym, ap, subst, ◌∙◌, append_assoc, arith}
use Rattle.std.specs.Prelude.{codes}
use Rattle.std.specs.List.{position_from, AllByRecursion}
use Rattle.std.specs.Fmt.{decimal}
use Rattle.std.proofs.lemmas.List.{map-append, append-nil, length-append, get_or-map, get_or_append_left, get_or-append-add}
use Rattle.netlist.specs.declared.deck.Subckt.{Subckt}
use Rattle.spice_text.specs.Words.{lower}
use Rattle.spice_text.specs.Writable.{Differ}
use Rattle.spice_netlist.specs.Names.{same_name}
use Rattle.spice_netlist.specs.Resolved.{names_of}
use Rattle.or_geom.proofs.NamePlaceLaws.{same_self}
use Rattle.or_geom.proofs.NameLaws.{other_name}
use Rattle.row_laws.proofs.LookLaws.{all_append, all_map}
use Rattle.cell_roles.specs.declared.role.Role.{Role}
use Rattle.sram_netlist.specs.Organization.{Organization, IsBuildable, total_bits, bank_rows}
use Rattle.sram_netlist.specs.BitCells.{BitCells, Alike, Apart, row_kinds, row_name}
use Rattle.sram_netlist.specs.Names.{with_number}
use Rattle.sram_netlist.specs.InstanceList.{numbers_from, tabulate}
use Rattle.sram_netlist.proofs.Bounds.{bounds, twice_above}
use Rattle.sram_deck.specs.Deck.{row_subckt, other_subckts, written_subckts}
use Rattle.sram_rows.proofs.Counts.{span_long, each_long}
use Rattle.sram_rows.proofs.DigitLaws.{plain_low, plain_tail}
use Rattle.sram_rows.proofs.DifferLaws.{DifferBy, kinds_of, told_one, told_both, told_list}
use Rattle.sram_rows.proofs.PortsDiffer.{AreToldNames, numbered}
use Rattle.sram_rows.proofs.Segments.{all_numbers}

-- the one of the rows' subcircuits that is row r's
abbrev pub row_kind : BitCells → ℕ → ℕ
row_kind (Alike name) r = 0
row_kind (Apart names) r = r

-- what stands behind the output name in the name of row r's subcircuit, and in the names of the others
abbrev pub row_suffix : BitCells → ℕ → List ℕ
row_suffix (Alike name) r = codes "_row"
row_suffix (Apart names) r = with_number (codes "_row") r

abbrev other_suffixes : List (List ℕ)
other_suffixes = codes "_array" ∷ codes "_pre" ∷ codes "_data" ∷ codes "_bank" ∷ codes "_logic" ∷ [] ∷ []

abbrev suffixes : BitCells → ℕ → List (List ℕ)
suffixes bits rows = tabulate (row_kinds bits rows) (row_suffix bits) ++ other_suffixes

row_named : (bits : BitCells) (n : List ℕ) (r : ℕ) → row_name bits n r ≡ n ++ row_suffix bits r
row_named (Alike name) n r = refl
row_named (Apart names) n r = append_assoc n (codes "_row") (decimal r ++ [])

pub kinds_few : (bits : BitCells) (rows : ℕ) → 0 < rows → row_kinds bits rows ≤ rows
kinds_few (Alike name) rows some = omega arith
kinds_few (Apart names) rows some = omega arith

pub kind_among : (bits : BitCells) (rows r : ℕ) → r < rows → row_kind bits r < row_kinds bits rows
kind_among (Alike name) rows r lt = omega arith
kind_among (Apart names) rows r lt = lt

pub kind_is : (bits : BitCells) (rows j : ℕ) → j < row_kinds bits rows → row_kind bits j ≡ j
kind_is (Alike name) rows j lt = omega arith
kind_is (Apart names) rows j lt = refl

pub some_rows : (plan : Organization) → 0 < bank_rows plan
some_rows plan = let t = twice_above (total_bits plan.groups) in omega (arith, t)

-- What is at a place

abbrev pub no_subckt : Subckt
no_subckt = record { name = []; ports = []; instances = []; raw = [] }

pub at_all : {X : Type 0} (P : X → Type 0) (xs : List X) (k : ℕ) (d : X) → AllByRecursion P xs → k < length xs → P (get_or xs k d)
at_all P [] k d all lt = absurd (omega arith)
at_all P (x ∷ xs) zero d all lt = all.0
at_all P (x ∷ xs) (suc k) d all lt = at_all P xs k d all.1 (omega arith)

number_at : (k n j : ℕ) → j < n → get_or (numbers_from k n) j 0 ≡ k + j
number_at k zero j lt = absurd (omega arith)
number_at k (suc n) zero lt = omega arith
number_at k (suc n) (suc j) lt = let e = number_at (suc k) n j (omega arith) in omega (arith, e)

tabulated : {X : Type 0} (n : ℕ) (f : ℕ → X) (j : ℕ) (d : X) → j < n → get_or (tabulate n f) j d ≡ f j
tabulated n f j d lt = let long = span_long 0 n in get_or-map f (numbers_from 0 n) j 0 d (omega (arith, long, lt)) ∙ ap f (let e = number_at 0 n j lt in omega (arith, e))

-- names that differ are found at their places
pub found_at : (xs : List (List ℕ)) (i j : ℕ) → Differ xs → j < length xs → position_from (same_name (get_or xs j [])) i xs ≡ Some (i + j)
found_at [] i j d lt = absurd (omega arith)
found_at (x ∷ xs) i zero d lt = ap (λ (b : Bool). cond b (Some i) (position_from (same_name x) (i + 1) xs)) (same_self x) ∙ ap Some (omega arith)
found_at (x ∷ xs) i (suc j) d lt =
    let n = get_or xs j [] in
    let other : x ≢ n = at_all (λ y. x ≢ y) xs j [] d.0 (omega arith) in
    ap (λ (b : Bool). cond b (Some i) (position_from (same_name n) (i + 1) xs)) (other_name n x (λ e. other (sym e)))
    ∙ found_at xs (i + 1) j d.1 (omega arith) ∙ ap Some (omega arith)

-- The names differ

same_behind : (n s t : List ℕ) → lower (n ++ s) ≡ lower (n ++ t) → lower s ≡ lower t
same_behind [] s t e = e
same_behind (c ∷ n) s t e = same_behind n s t cc

differ_behind : (n : List ℕ) (ss : List (List ℕ)) → AllByRecursion (λ s. lower s ≡ s) ss → DifferBy (λ s. s) ss → Differ (map (λ s. lower (n ++ s)) ss)
differ_behind n [] low d = tt
differ_behind n (s ∷ ss) low d = (others ss low.1 d.0, differ_behind n ss low.1 d.1)
  where
    others : (ts : List (List ℕ)) → AllByRecursion (λ t. lower t ≡ t) ts → AllByRecursion (λ t. s ≢ t) ts → AllByRecursion (λ other. lower (n ++ s) ≢ other) (map (λ t. lower (n ++ t)) ts)
    others [] all other = tt
    others (t ∷ ts) all other = (λ e. other.0 (sym low.0 ∙ same_behind n s t e ∙ all.0), others ts all.1 other.1)

module _ (plan : Organization) (p : IsBuildable plan) (cell : Role → List ℕ) (bits : BitCells) (n : List ℕ) where
  few_kinds : (bits : BitCells) (j : ℕ) → j < row_kinds bits (bank_rows plan) → j < 2 ^ 64
  few_kinds bits j lt = let few = kinds_few bits (bank_rows plan) (some_rows plan) in let rows = (bounds plan p).rows in omega (arith, few, rows, lt)

  rows_told : (bits : BitCells) → AreToldNames (tabulate (row_kinds bits (bank_rows plan)) (row_suffix bits)) (codes "_row" ∷ [])
  rows_told (Alike name) = told_one (λ (s : List ℕ). s) (codes "_row") (codes "_row" ∷ []) refl
  rows_told (Apart names) = numbered (bank_rows plan) (codes "_row") (codes "_row" ∷ []) (few_kinds (Apart names)) refl refl

  suffixes_differ : DifferBy (λ s. s) (suffixes bits (bank_rows plan))
  suffixes_differ =
      (told_both (λ (s : List ℕ). s) (tabulate (row_kinds bits (bank_rows plan)) (row_suffix bits)) other_suffixes (codes "_row" ∷ []) (kinds_of (λ (s : List ℕ). s) other_suffixes) (rows_told bits)
      (told_list (λ (s : List ℕ). s) other_suffixes refl) refl).differ

  row_low : (bits : BitCells) (j : ℕ) → j < row_kinds bits (bank_rows plan) → lower (row_suffix bits j) ≡ row_suffix bits j
  row_low (Alike name) j lt = refl
  row_low (Apart names) j lt = plain_low (with_number (codes "_row") j) (plain_tail j (few_kinds (Apart names) j lt) [] refl)

  suffixes_low : AllByRecursion (λ s. lower s ≡ s) (suffixes bits (bank_rows plan))
  suffixes_low = all_append (λ s. lower s ≡ s) (tabulate (row_kinds bits (bank_rows plan)) (row_suffix bits)) other_suffixes
      (all_map (λ s. lower s ≡ s) (row_suffix bits) (numbers_from 0 (row_kinds bits (bank_rows plan))) (all_numbers (λ j. lower (row_suffix bits j) ≡ row_suffix bits j) 0 (row_kinds bits (bank_rows plan)) (λ j from lt. row_low bits j (omega arith))))
      (refl, (refl, (refl, (refl, (refl, (refl, tt))))))

  rows_named : (ks : List ℕ) → names_of (map (row_subckt plan cell bits n) ks) ≡ map (λ s. lower (n ++ s)) (map (row_suffix bits) ks)
  rows_named [] = refl
  rows_named (k ∷ ks) = λ i. lower (row_named bits n k i) ∷ rows_named ks i

  others_named : names_of (other_subckts plan cell bits n) ≡ map (λ s. lower (n ++ s)) other_suffixes
  others_named = λ i. lower (n ++ codes "_array") ∷ lower (n ++ codes "_pre") ∷ lower (n ++ codes "_data") ∷ lower (n ++ codes "_bank") ∷ lower (n ++ codes "_logic") ∷ lower (sym (append-nil n) i) ∷ []

  abbrev rows : List Subckt
  rows = tabulate (row_kinds bits (bank_rows plan)) (row_subckt plan cell bits n)

  names_are : names_of (written_subckts plan cell bits n) ≡ map (λ s. lower (n ++ s)) (suffixes bits (bank_rows plan))
  names_are =
      map-append (λ (s : Subckt). lower s.name) rows (other_subckts plan cell bits n)
      ∙ (λ i. rows_named (numbers_from 0 (row_kinds bits (bank_rows plan))) i ++ others_named i)
      ∙ sym (map-append (λ (s : List ℕ). lower (n ++ s)) (tabulate (row_kinds bits (bank_rows plan)) (row_suffix bits)) other_suffixes)

  -- no two of the written subcircuits have one name
  pub names_differ : Differ (names_of (written_subckts plan cell bits n))
  names_differ = subst Differ (sym names_are) (differ_behind n (suffixes bits (bank_rows plan)) suffixes_low suffixes_differ)

  -- The places

  -- a written subcircuit and its place
  pub record IsWrittenAt (j : ℕ) (s : Subckt) : Type 0 where
    pub within : j < length (written_subckts plan cell bits n)
    pub is : get_or (written_subckts plan cell bits n) j no_subckt ≡ s

  abbrev pub kinds : ℕ
  kinds = row_kinds bits (bank_rows plan)

  rows_long : length rows ≡ kinds
  rows_long = each_long kinds (row_subckt plan cell bits n)

  pub written_long : length (written_subckts plan cell bits n) ≡ kinds + 6
  written_long = length-append rows (other_subckts plan cell bits n) ∙ ap (λ (k : ℕ). k + 6) rows_long

  same_row : (bits : BitCells) (r : ℕ) → row_subckt plan cell bits n (row_kind bits r) ≡ row_subckt plan cell bits n r
  same_row (Alike name) r = refl
  same_row (Apart names) r = refl

  pub row_at : (r : ℕ) → r < bank_rows plan → IsWrittenAt (row_kind bits r) (row_subckt plan cell bits n r)
  row_at r lt =
      let few = kind_among bits (bank_rows plan) r lt in
      let long = rows_long in
      let all = written_long in
      record {
        within = omega (arith, few, all);
        is = get_or_append_left rows (other_subckts plan cell bits n) no_subckt (row_kind bits r) (omega (arith, few, long)) ∙ tabulated kinds (row_subckt plan cell bits n) (row_kind bits r) no_subckt few ∙ same_row bits r;
      }

  pub other_at : (i : ℕ) (s : Subckt) → i < 6 → get_or (other_subckts plan cell bits n) i no_subckt ≡ s → IsWrittenAt (kinds + i) s
  other_at i s lt is =
      let all = written_long in
      record {
        within = omega (arith, lt, all);
        is = (λ k. get_or (rows ++ other_subckts plan cell bits n) (sym rows_long k + i) no_subckt) ∙ get_or-append-add rows (other_subckts plan cell bits n) i no_subckt ∙ is;
      }
