-- Names of instances have no capital letters, and paths are made of them.
use Rattle.std.proofs.Common.{◌≡◌, inl, inr, ℕ, zero, suc, ◌<◌, ◌≤◌, ◌^◌, List, [], ◌∷◌, ◌++◌, refl, sym, ap, subst, ◌∙◌, append_assoc, arith}
use Rattle.std.specs.Prelude.{codes}
use Rattle.std.specs.Fmt.{decimal}
use Rattle.cell_hierarchy.specs.FlatSet.{path_under}
use Rattle.sram_netlist.specs.Organization.{Organization, bank_rows, columns_of, IsBuildable}
use Rattle.sram_netlist.specs.Instances.{LogicCell, Clki, Csd, Wed, Csi, Wei, Wln, Wli, Wrn, Wri, Rdn, Rdi, Dlay, Senn, Seni, Ad, Ai, Dd, Dm, Pn, Pi, Ln, Li, Kn, Ki, Gn, Gi, LogicAt}
use Rattle.sram_netlist.specs.Membership.{HasLogicCell, IsChoice}
use Rattle.sram_netlist.specs.Netlist.{enable_count}
use Rattle.sram_netlist.specs.Names.{LineKind, Column, Group, Bank, line_kind, with_number, bank_name, gate_name, inv_name, cell_name, leaf_name, leaf_path}
use Rattle.sram_netlist.specs.BitCells.{BitCells}
use Rattle.sram_netlist.proofs.Bounds.{bounds, line_few, written_fits}
use Rattle.sram_netlist.proofs.ChoiceLaws.{which}
use Rattle.macro_layout.specs.LayoutKit.{LayoutKit}
use Rattle.macro_layout.specs.Places.{Floorplan}
use Rattle.macro_layout.specs.Cells.{column_leaf}
use Rattle.macro_layout.proofs.NameLaws.{number_kept, decimal_kept}
use Rattle.macro_layout.proofs.Parts.{lowered, Slot, BitSlot, GateSlot, DriverSlot, IsSlot, site_path, row_instance_name, Spot, ArraySpot, PrechargeSpot, WriteSpot, SenseSpot, ColumnSpot, IsSpot, spot_item, leaf_of, leaf_in_row}

-- up to 512 numbers
pub few : (n : ℕ) → n ≤ 512 → n < 2 ^ 64
few n le = omega arith

-- two numbers with _ between
numbers_kept : (i j : ℕ) → i < 2 ^ 64 → j < 2 ^ 64 → lowered (decimal i ++ (95 ∷ (decimal j ++ []))) ≡ decimal i ++ (95 ∷ (decimal j ++ []))
numbers_kept i j i_few j_few = lowered_joined (decimal i) (95 ∷ (decimal j ++ [])) ∙ (λ k. decimal_kept i i_few k ++ (95 ∷ number_kept j j_few k))
  where
    lowered_joined : (xs ys : List ℕ) → lowered (xs ++ ys) ≡ lowered xs ++ lowered ys
    lowered_joined [] ys = refl
    lowered_joined (x ∷ xs) ys = ap (λ (l : List ℕ). lowered (x ∷ []) ++ l) (lowered_joined xs ys)

pub bank_kept : (m b : ℕ) → b < 2 ^ 64 → lowered (bank_name m b) ≡ bank_name m b
bank_kept zero b few = refl
bank_kept (suc m) b few = λ i. 120 ∷ 98 ∷ 97 ∷ 110 ∷ 107 ∷ number_kept b few i

row_kept : (r : ℕ) → r < 2 ^ 64 → lowered (row_instance_name r) ≡ row_instance_name r
row_kept r few = λ i. 120 ∷ 114 ∷ number_kept r few i

-- paths of three and of four names

three_names : (a b c : List ℕ) → ((a ++ (47 ∷ [])) ++ (b ++ (47 ∷ []))) ++ c ≡ a ++ (47 ∷ (b ++ (47 ∷ c)))
three_names a b c =
    append_assoc (a ++ (47 ∷ [])) (b ++ (47 ∷ [])) c
    ∙ (append_assoc a (47 ∷ []) ((b ++ (47 ∷ [])) ++ c)
    ∙ ap (λ (l : List ℕ). a ++ (47 ∷ l)) (append_assoc b (47 ∷ []) c))

four_names : (a b c d : List ℕ) → (((a ++ (47 ∷ [])) ++ (b ++ (47 ∷ []))) ++ (c ++ (47 ∷ []))) ++ d ≡ a ++ (47 ∷ (b ++ (47 ∷ (c ++ (47 ∷ d)))))
four_names a b c d =
    append_assoc ((a ++ (47 ∷ [])) ++ (b ++ (47 ∷ []))) (c ++ (47 ∷ [])) d
    ∙ (three_names a b ((c ++ (47 ∷ [])) ++ d)
    ∙ ap (λ (l : List ℕ). a ++ (47 ∷ (b ++ (47 ∷ l)))) (append_assoc c (47 ∷ []) d))

-- a leaf of a bank

pub spot_path : (plan : Organization) (kit : LayoutKit) (bits : BitCells) (floorplan : Floorplan) (b : ℕ) (spot : Spot) → b < 2 ^ 64 → bank_rows plan < 2 ^ 64 → columns_of plan < 2 ^ 64 → plan.word_size < 2 ^ 64 → IsSpot plan spot
    → leaf_path plan (leaf_of plan b spot) ≡ path_under (lowered (bank_name plan.bank_bits b)) (spot_item plan kit bits floorplan spot).name
spot_path plan kit bits floorplan b (ArraySpot site) b_few rows columns words is = row_path site.slot is.slot
  where
    r_few : site.row < 2 ^ 64
    r_few = let lt = is.row in omega (arith, lt, rows)

    row_path : (slot : Slot) → IsSlot plan slot → leaf_path plan (leaf_in_row b site.row slot) ≡ path_under (lowered (bank_name plan.bank_bits b)) (path_under (codes "xarray") (site_path plan kit bits (record { row = site.row; slot = slot })))
    row_path (BitSlot c) lt =
        four_names (bank_name plan.bank_bits b) (codes "xarray") (row_instance_name site.row) (with_number (codes "xb") c)
        ∙ (λ i. sym (bank_kept plan.bank_bits b b_few) i ++ (47 ∷ (codes "xarray" ++ (47 ∷ (sym (row_kept site.row r_few) i ++ (47 ∷ 120 ∷ 98 ∷ sym (number_kept c (omega (arith, lt, columns))) i))))))
    row_path GateSlot lt =
        four_names (bank_name plan.bank_bits b) (codes "xarray") (row_instance_name site.row) (codes "xnand")
        ∙ (λ i. sym (bank_kept plan.bank_bits b b_few) i ++ (47 ∷ (codes "xarray" ++ (47 ∷ (sym (row_kept site.row r_few) i ++ (47 ∷ codes "xnand"))))))
    row_path DriverSlot lt =
        four_names (bank_name plan.bank_bits b) (codes "xarray") (row_instance_name site.row) (codes "xdrv")
        ∙ (λ i. sym (bank_kept plan.bank_bits b b_few) i ++ (47 ∷ (codes "xarray" ++ (47 ∷ (sym (row_kept site.row r_few) i ++ (47 ∷ codes "xdrv"))))))
spot_path plan kit bits floorplan b (PrechargeSpot c) b_few rows columns words is =
    three_names (bank_name plan.bank_bits b) (codes "xpre") (with_number (codes "xp") c)
    ∙ (λ i. sym (bank_kept plan.bank_bits b b_few) i ++ (47 ∷ (codes "xpre" ++ (47 ∷ 120 ∷ 112 ∷ sym (number_kept c (omega (arith, is, columns))) i))))
spot_path plan kit bits floorplan b (WriteSpot k) b_few rows columns words is =
    three_names (bank_name plan.bank_bits b) (codes "xdata") (with_number (codes "xw") k)
    ∙ (λ i. sym (bank_kept plan.bank_bits b b_few) i ++ (47 ∷ (codes "xdata" ++ (47 ∷ 120 ∷ 119 ∷ sym (number_kept k (let fits = written_fits plan.write_size plan.word_size k is in omega (arith, fits, words))) i))))
spot_path plan kit bits floorplan b (SenseSpot k) b_few rows columns words is =
    three_names (bank_name plan.bank_bits b) (codes "xdata") (with_number (codes "xs") k)
    ∙ (λ i. sym (bank_kept plan.bank_bits b b_few) i ++ (47 ∷ (codes "xdata" ++ (47 ∷ 120 ∷ 115 ∷ sym (number_kept k (omega (arith, is, words))) i))))
spot_path plan kit bits floorplan b (ColumnSpot c) b_few rows columns words is = column_path plan.col_bits
  where
    column_path : (m : ℕ) → leaf_path plan (column_leaf m b c) ≡ path_under (lowered (bank_name plan.bank_bits b)) (path_under (codes "xdata") (lowered (leaf_name plan (column_leaf m 0 c))))
    column_path zero =
        three_names (bank_name plan.bank_bits b) (codes "xdata") (with_number (codes "xt") c)
        ∙ (λ i. sym (bank_kept plan.bank_bits b b_few) i ++ (47 ∷ (codes "xdata" ++ (47 ∷ 120 ∷ 116 ∷ sym (number_kept c (omega (arith, is, columns))) i))))
    column_path (suc m) =
        three_names (bank_name plan.bank_bits b) (codes "xdata") (with_number (codes "xm") c)
        ∙ (λ i. sym (bank_kept plan.bank_bits b b_few) i ++ (47 ∷ (codes "xdata" ++ (47 ∷ 120 ∷ 109 ∷ sym (number_kept c (omega (arith, is, columns))) i))))

-- a cell of the logic row

-- a name that isn't empty and has no capital letters
pub record IsPlain (name : List ℕ) : Type 0 where
  pub lower : lowered name ≡ name
  pub some : name ≡ [] → ⊥

abbrev IsSmallKind : LineKind → Type 0
IsSmallKind (Group g) = g < 2 ^ 64
IsSmallKind kind = Unit {0}

gate_plain : (kind : LineKind) (k : ℕ) → IsSmallKind kind → k < 2 ^ 64 → IsPlain (gate_name kind k)
gate_plain Column k small lt = record { lower = λ i. 120 ∷ 115 ∷ 110 ∷ number_kept k lt i; some = λ e. absurd cc }
gate_plain (Group g) k small lt = record { lower = λ i. 120 ∷ 112 ∷ 110 ∷ numbers_kept g k small lt i; some = λ e. absurd cc }
gate_plain Bank k small lt = record { lower = λ i. 120 ∷ 98 ∷ 110 ∷ number_kept k lt i; some = λ e. absurd cc }

inv_plain : (kind : LineKind) (k : ℕ) → IsSmallKind kind → k < 2 ^ 64 → IsPlain (inv_name kind k)
inv_plain Column k small lt = record { lower = λ i. 120 ∷ 115 ∷ 105 ∷ number_kept k lt i; some = λ e. absurd cc }
inv_plain (Group g) k small lt = record { lower = λ i. 120 ∷ 112 ∷ 105 ∷ numbers_kept g k small lt i; some = λ e. absurd cc }
inv_plain Bank k small lt = record { lower = λ i. 120 ∷ 98 ∷ 105 ∷ number_kept k lt i; some = λ e. absurd cc }

small_kind : (plan : Organization) (o b : ℕ) → IsBuildable plan → IsChoice plan o b → IsSmallKind (line_kind plan o)
small_kind plan o b p choice = elim (which plan o b p choice) [
  | inl c ↦ subst IsSmallKind (sym c.line_kind) tt
  | inr (inl c) ↦ (let g = c.few in subst IsSmallKind (sym c.line_kind) (omega (arith, g)))
  | inr (inr c) ↦ subst IsSmallKind (sym c.line_kind) tt
]

pub cell_plain : (plan : Organization) (cell : LogicCell) → IsBuildable plan → HasLogicCell plan cell → IsPlain (cell_name plan cell)
cell_plain plan (Ad i) p h = let n = (bounds plan p).address in record { lower = λ j. 120 ∷ 97 ∷ 100 ∷ number_kept i (omega (arith, h, n)) j; some = λ e. absurd cc }
cell_plain plan (Ai i) p h = let n = (bounds plan p).address in record { lower = λ j. 120 ∷ 97 ∷ 105 ∷ number_kept i (omega (arith, h, n)) j; some = λ e. absurd cc }
cell_plain plan (Dd i) p h = let n = (bounds plan p).words in let lt = written_fits plan.write_size plan.word_size i h in record { lower = λ j. 120 ∷ 100 ∷ 100 ∷ number_kept i (omega (arith, lt, n)) j; some = λ e. absurd cc }
cell_plain plan (Dm i) p h = let n = (bounds plan p).masks in record { lower = λ j. 120 ∷ 100 ∷ 109 ∷ number_kept i (omega (arith, h, n)) j; some = λ e. absurd cc }
cell_plain plan (Pn o b k) p h = gate_plain (line_kind plan o) k (small_kind plan o b p h.0) (line_few plan o b k p h.0 h.1)
cell_plain plan (Pi o b k) p h = inv_plain (line_kind plan o) k (small_kind plan o b p h.0) (line_few plan o b k p h.0 h.1)
cell_plain plan (Ln b) p h = let n = (bounds plan p).banks in let lt = h.0 in record { lower = λ j. 120 ∷ 108 ∷ 110 ∷ number_kept b (omega (arith, lt, n)) j; some = λ e. absurd cc }
cell_plain plan (Li b) p h = let n = (bounds plan p).banks in let lt = h.0 in record { lower = λ j. 120 ∷ 108 ∷ 105 ∷ number_kept b (omega (arith, lt, n)) j; some = λ e. absurd cc }
cell_plain plan (Kn b) p h = let n = (bounds plan p).banks in let lt = h.0 in record { lower = λ j. 120 ∷ 107 ∷ 110 ∷ number_kept b (omega (arith, lt, n)) j; some = λ e. absurd cc }
cell_plain plan (Ki b) p h = let n = (bounds plan p).banks in let lt = h.0 in record { lower = λ j. 120 ∷ 107 ∷ 105 ∷ number_kept b (omega (arith, lt, n)) j; some = λ e. absurd cc }
cell_plain plan (Gn b m) p h =
    let n = (bounds plan p).banks in
    let k = (bounds plan p).enables in
    let lt = h.0.0 in
    let lt2 = written_fits plan.write_size (enable_count plan.masks) m h.0.1 in
    record { lower = λ j. 120 ∷ 103 ∷ 110 ∷ numbers_kept b m (omega (arith, lt, n)) (omega (arith, lt2, k)) j; some = λ e. absurd cc }
cell_plain plan (Gi b m) p h =
    let n = (bounds plan p).banks in
    let k = (bounds plan p).enables in
    let lt = h.0.0 in
    let lt2 = written_fits plan.write_size (enable_count plan.masks) m h.0.1 in
    record { lower = λ j. 120 ∷ 103 ∷ 105 ∷ numbers_kept b m (omega (arith, lt, n)) (omega (arith, lt2, k)) j; some = λ e. absurd cc }
cell_plain plan Clki p h = record { lower = refl; some = λ e. absurd cc }
cell_plain plan Csd p h = record { lower = refl; some = λ e. absurd cc }
cell_plain plan Wed p h = record { lower = refl; some = λ e. absurd cc }
cell_plain plan Csi p h = record { lower = refl; some = λ e. absurd cc }
cell_plain plan Wei p h = record { lower = refl; some = λ e. absurd cc }
cell_plain plan Wln p h = record { lower = refl; some = λ e. absurd cc }
cell_plain plan Wli p h = record { lower = refl; some = λ e. absurd cc }
cell_plain plan Wrn p h = record { lower = refl; some = λ e. absurd cc }
cell_plain plan Wri p h = record { lower = refl; some = λ e. absurd cc }
cell_plain plan Rdn p h = record { lower = refl; some = λ e. absurd cc }
cell_plain plan Rdi p h = record { lower = refl; some = λ e. absurd cc }
cell_plain plan Dlay p h = record { lower = refl; some = λ e. absurd cc }
cell_plain plan Senn p h = record { lower = refl; some = λ e. absurd cc }
cell_plain plan Seni p h = record { lower = refl; some = λ e. absurd cc }

under_some : (name path : List ℕ) → (path ≡ [] → ⊥) → path_under name path ≡ name ++ (47 ∷ path)
under_some name [] some = absurd (some refl)
under_some name (c ∷ cs) some = refl

pub logic_path : (plan : Organization) (cell : LogicCell) → IsPlain (cell_name plan cell) → leaf_path plan (LogicAt cell) ≡ path_under (codes "xlogic") (lowered (cell_name plan cell))
logic_path plan cell p = sym (ap (path_under (codes "xlogic")) p.lower ∙ under_some (codes "xlogic") (cell_name plan cell) p.some)
