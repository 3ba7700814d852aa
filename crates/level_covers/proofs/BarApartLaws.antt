-- Bars of a part stand at one height, or a row of cells and a wire's width apart.
use Rattle.std.proofs.Common.{◌≡◌, ◌⊎◌, inl, inr, ◌∙◌, ℕ, ◌+◌, ◌*◌, ◌<◌, ◌≤◌, ℤ, pos, ◌+ℤ◌, ◌-ℤ◌, ◌≤ℤ◌, ◌<ℤ◌, refl, sym, ap, arith}
use Rattle.std.proofs.Math.Nat.{mul-le-mul_right}
use Rattle.std.proofs.lemmas.Bool.{cases_lt}
use Rattle.std.proofs.lemmas.Int.{ints}
use Rattle.cell_roles.specs.declared.role.Role.{Role}
use Rattle.cell_roles.specs.declared.role.Role.TheVariants.{Inv, Write, Sense, Precharge, Bitcell}
use Rattle.tech_rules.specs.declared.tech.Wire.{Wire}
use Rattle.sram_netlist.specs.Organization.{Organization, bank_rows}
use Rattle.macro_layout.specs.LayoutKit.{LayoutKit}
use Rattle.macro_layout.specs.Places.{bit_height}
use Rattle.macro_layout.specs.Floorplan.{column_role}
use Rattle.good_places.proofs.NumberLaws.{all_of}
use Rattle.supply_bars.specs.Heights.{Storey, LogicRow, Slices, Columns, Height, LogicLow, LogicHigh, WriteLow, WriteHigh, SenseLow, SenseHigh, ColumnLow, ColumnHigh, CellRow, PrechargeLow, PrechargeHigh, part_of, array_rise, precharge_rise, HasBar}
use Rattle.supply_bars.proofs.PartLaws.{rise_of}

-- two heights are one, or a row of cells is left between what is so high at them
abbrev pub AreLevelsApart : ℤ → ℤ → ℤ → Type 0
AreLevelsApart width a b = (a ≡ b) ⊎ ((((a +ℤ width) +ℤ pos 1) ≤ℤ b) ⊎ (((b +ℤ width) +ℤ pos 1) ≤ℤ a))

same_level : (width a b c : ℤ) → a ≡ c → b ≡ c → AreLevelsApart width a b
same_level width a b c p q = inl (p ∙ sym q)

module _ (plan : Organization) (kit : LayoutKit) (wire : Wire) (one : pos 1 ≤ℤ wire.width) (tall : (role : Role) → (wire.width +ℤ wire.width) <ℤ pos (kit.height role)) where
  abbrev rise_at : Height → ℤ
  rise_at h = rise_of plan kit wire h

  inside : (r n : ℕ) → r < n → r ≤ n
  inside r n lt = omega (arith, lt)

  most : (n : ℕ) → n ≤ n
  most n = omega arith

  abbrev row_level : ℕ → ℤ
  row_level r = pos (array_rise kit plan.col_bits + r * bit_height kit)

  -- Where bars stand in each part

  abbrev LogicLevel : ℤ → Type 0
  LogicLevel z = (z ≡ pos 0) ⊎ (z ≡ pos (kit.height Inv) -ℤ wire.width)

  abbrev SliceLevel : ℤ → Type 0
  SliceLevel z = (z ≡ pos 0) ⊎ ((z ≡ pos (kit.height Write)) ⊎ (z ≡ pos (kit.height Write + kit.height Sense) -ℤ wire.width))

  abbrev ColumnLevel : ℤ → Type 0
  ColumnLevel z = (z ≡ pos 0) ⊎ (((r : ℕ) × (r ≤ bank_rows plan) × (z ≡ row_level r)) ⊎ (z ≡ pos (precharge_rise kit plan.col_bits plan.groups + kit.height Precharge) -ℤ wire.width))

  logic_levels : (h : Height) → LogicRow ≡ part_of h → HasBar plan.groups h → LogicLevel (rise_at h)
  logic_levels LogicLow e has = inl refl
  logic_levels LogicHigh e has = inr refl
  logic_levels WriteLow e has = cc
  logic_levels WriteHigh e has = cc
  logic_levels SenseLow e has = cc
  logic_levels SenseHigh e has = cc
  logic_levels ColumnLow e has = cc
  logic_levels ColumnHigh e has = cc
  logic_levels (CellRow r) e has = cc
  logic_levels PrechargeLow e has = cc
  logic_levels PrechargeHigh e has = cc

  slice_levels : (h : Height) → Slices ≡ part_of h → HasBar plan.groups h → SliceLevel (rise_at h)
  slice_levels LogicLow e has = cc
  slice_levels LogicHigh e has = cc
  slice_levels WriteLow e has = inl refl
  slice_levels WriteHigh e has = absurd has
  slice_levels SenseLow e has = inr (inl refl)
  slice_levels SenseHigh e has = inr (inr refl)
  slice_levels ColumnLow e has = cc
  slice_levels ColumnHigh e has = cc
  slice_levels (CellRow r) e has = cc
  slice_levels PrechargeLow e has = cc
  slice_levels PrechargeHigh e has = cc

  column_levels : (h : Height) → Columns ≡ part_of h → HasBar plan.groups h → ColumnLevel (rise_at h)
  column_levels LogicLow e has = cc
  column_levels LogicHigh e has = cc
  column_levels WriteLow e has = cc
  column_levels WriteHigh e has = cc
  column_levels SenseLow e has = cc
  column_levels SenseHigh e has = cc
  column_levels ColumnLow e has = inl refl
  column_levels ColumnHigh e has = absurd has
  column_levels (CellRow r) e has = inr (inl (r, inside r (bank_rows plan) has, refl))
  column_levels PrechargeLow e has = inr (inl (bank_rows plan, most (bank_rows plan), refl))
  column_levels PrechargeHigh e has = inr (inr refl)

  logic_apart : (a b : ℤ) → LogicLevel a → LogicLevel b → AreLevelsApart wire.width a b
  logic_apart a b (inl p) (inl q) = same_level wire.width a b (pos 0) p q
  logic_apart a b (inl p) (inr q) = let t = tall Inv in inr (inl (omega (arith, ints, p, q, t)))
  logic_apart a b (inr p) (inl q) = let t = tall Inv in inr (inr (omega (arith, ints, p, q, t)))
  logic_apart a b (inr p) (inr q) = same_level wire.width a b (pos (kit.height Inv) -ℤ wire.width) p q

  -- numbers: of two cells, one upon another
  first_cell : (a b w : ℤ) (h : ℕ) → a ≡ pos 0 → b ≡ pos h → (w +ℤ w) <ℤ pos h → pos 1 ≤ℤ w → ((a +ℤ w) +ℤ pos 1) ≤ℤ b
  first_cell a b w h p q t one = omega (arith, ints, p, q, t, one)

  both_cells : (a b w : ℤ) (h k : ℕ) → a ≡ pos 0 → b ≡ pos (h + k) -ℤ w → (w +ℤ w) <ℤ pos h → pos 1 ≤ℤ w → ((a +ℤ w) +ℤ pos 1) ≤ℤ b
  both_cells a b w h k p q t one = omega (arith, ints, p, q, t, one)

  last_cell : (a b w : ℤ) (h k : ℕ) → a ≡ pos h → b ≡ pos (h + k) -ℤ w → (w +ℤ w) <ℤ pos k → ((a +ℤ w) +ℤ pos 1) ≤ℤ b
  last_cell a b w h k p q t = omega (arith, ints, p, q, t)

  slice_apart : (a b : ℤ) → SliceLevel a → SliceLevel b → AreLevelsApart wire.width a b
  slice_apart a b (inl p) (inl q) = same_level wire.width a b (pos 0) p q
  slice_apart a b (inl p) (inr (inl q)) = inr (inl (first_cell a b wire.width (kit.height Write) p q (tall Write) one))
  slice_apart a b (inl p) (inr (inr q)) = inr (inl (both_cells a b wire.width (kit.height Write) (kit.height Sense) p q (tall Write) one))
  slice_apart a b (inr (inl p)) (inl q) = inr (inr (first_cell b a wire.width (kit.height Write) q p (tall Write) one))
  slice_apart a b (inr (inl p)) (inr (inl q)) = same_level wire.width a b (pos (kit.height Write)) p q
  slice_apart a b (inr (inl p)) (inr (inr q)) = inr (inl (last_cell a b wire.width (kit.height Write) (kit.height Sense) p q (tall Sense)))
  slice_apart a b (inr (inr p)) (inl q) = inr (inr (both_cells b a wire.width (kit.height Write) (kit.height Sense) q p (tall Write) one))
  slice_apart a b (inr (inr p)) (inr (inl q)) = inr (inr (last_cell b a wire.width (kit.height Write) (kit.height Sense) q p (tall Sense)))
  slice_apart a b (inr (inr p)) (inr (inr q)) = same_level wire.width a b (pos (kit.height Write + kit.height Sense) -ℤ wire.width) p q

  -- rows of the array
  to_row : (a b w : ℤ) (h x : ℕ) → a ≡ pos 0 → b ≡ pos (h + x) → (w +ℤ w) <ℤ pos h → pos 1 ≤ℤ w → ((a +ℤ w) +ℤ pos 1) ≤ℤ b
  to_row a b w h x p q t one = omega (arith, ints, p, q, t, one)

  from_row : (a b w : ℤ) (h x n k : ℕ) → x ≤ n → a ≡ pos (h + x) → b ≡ pos ((h + n) + k) -ℤ w → (w +ℤ w) <ℤ pos k → ((a +ℤ w) +ℤ pos 1) ≤ℤ b
  from_row a b w h x n k le p q t = omega (arith, ints, le, p, q, t)

  over_all : (a b w : ℤ) (n k : ℕ) → a ≡ pos 0 → b ≡ pos (n + k) -ℤ w → (w +ℤ w) <ℤ pos k → ((a +ℤ w) +ℤ pos 1) ≤ℤ b
  over_all a b w n k p q t = omega (arith, ints, p, q, t)

  next_row : (a b w : ℤ) (h x y v : ℕ) → x + v ≤ y → a ≡ pos (h + x) → b ≡ pos (h + y) → (w +ℤ w) <ℤ pos v → pos 1 ≤ℤ w → ((a +ℤ w) +ℤ pos 1) ≤ℤ b
  next_row a b w h x y v le p q t one = omega (arith, ints, le, p, q, t, one)

  rows_apart : (a b : ℤ) (r k : ℕ) → a ≡ row_level r → b ≡ row_level k → AreLevelsApart wire.width a b
  rows_apart a b r k p q = elim (cases_lt r k) [
    | inl lt ↦ inr (inl (next_row a b wire.width (array_rise kit plan.col_bits) (r * bit_height kit) (k * bit_height kit) (bit_height kit) (all_of r k (bit_height kit) lt) p q (tall Bitcell) one))
    | inr ge ↦ elim (cases_lt k r) [
      | inl lt ↦ inr (inr (next_row b a wire.width (array_rise kit plan.col_bits) (k * bit_height kit) (r * bit_height kit) (bit_height kit) (all_of k r (bit_height kit) lt) q p (tall Bitcell) one))
      | inr le ↦ let e : k ≡ r = omega (arith, ge, le) in same_level wire.width a b (row_level r) p (q ∙ ap row_level e)
    ]
  ]

  abbrev top : ℤ
  top = pos (precharge_rise kit plan.col_bits plan.groups + kit.height Precharge) -ℤ wire.width

  row_top : (a b : ℤ) (r : ℕ) → r ≤ bank_rows plan → a ≡ row_level r → b ≡ top → ((a +ℤ wire.width) +ℤ pos 1) ≤ℤ b
  row_top a b r le p q = from_row a b wire.width (array_rise kit plan.col_bits) (r * bit_height kit) (bank_rows plan * bit_height kit) (kit.height Precharge) (mul-le-mul_right (bit_height kit) le) p q (tall Precharge)

  column_apart : (a b : ℤ) → ColumnLevel a → ColumnLevel b → AreLevelsApart wire.width a b
  column_apart a b (inl p) (inl q) = same_level wire.width a b (pos 0) p q
  column_apart a b (inl p) (inr (inl (r, le, q))) = inr (inl (to_row a b wire.width (array_rise kit plan.col_bits) (r * bit_height kit) p q (tall (column_role plan.col_bits)) one))
  column_apart a b (inl p) (inr (inr q)) = inr (inl (over_all a b wire.width (precharge_rise kit plan.col_bits plan.groups) (kit.height Precharge) p q (tall Precharge)))
  column_apart a b (inr (inl (r, le, p))) (inl q) = inr (inr (to_row b a wire.width (array_rise kit plan.col_bits) (r * bit_height kit) q p (tall (column_role plan.col_bits)) one))
  column_apart a b (inr (inl (r, le, p))) (inr (inl (k, le2, q))) = rows_apart a b r k p q
  column_apart a b (inr (inl (r, le, p))) (inr (inr q)) = inr (inl (row_top a b r le p q))
  column_apart a b (inr (inr p)) (inl q) = inr (inr (over_all b a wire.width (precharge_rise kit plan.col_bits plan.groups) (kit.height Precharge) q p (tall Precharge)))
  column_apart a b (inr (inr p)) (inr (inl (r, le, q))) = inr (inr (row_top b a r le q p))
  column_apart a b (inr (inr p)) (inr (inr q)) = same_level wire.width a b top p q

  pub bars_apart : (part : Storey) (h k : Height) → part ≡ part_of h → part ≡ part_of k → HasBar plan.groups h → HasBar plan.groups k → AreLevelsApart wire.width (rise_at h) (rise_at k)
  bars_apart LogicRow h k e g has also = logic_apart (rise_at h) (rise_at k) (logic_levels h e has) (logic_levels k g also)
  bars_apart Slices h k e g has also = slice_apart (rise_at h) (rise_at k) (slice_levels h e has) (slice_levels k g also)
  bars_apart Columns h k e g has also = column_apart (rise_at h) (rise_at k) (column_levels h e has) (column_levels k g also)
