-- Bars and joiners lie in their parts, parts keep the wires' space, and all begin before the supply trunks.
use Rattle.std.proofs.Common.{◌≡◌, ◌⊎◌, inl, inr, ◌∙◌, ℕ, ◌+◌, ◌*◌, ◌<◌, ◌≤◌, Bool, true, false, ℤ, pos, ◌+ℤ◌, ◌-ℤ◌, ◌*ℤ◌, ◌≤ℤ◌, ◌<ℤ◌, List, refl, sym, ap, subst, arith}
use Rattle.std.specs.Int.{int_max}
use Rattle.std.proofs.lemmas.Int.{ints, clamps}
use Rattle.cell_roles.specs.declared.role.Role.TheVariants.{Inv, Write, Sense, Precharge, Bitcell}
use Rattle.tech_rules.specs.declared.tech.Wire.{Wire}
use Rattle.sram_netlist.specs.Organization.{Organization, bank_rows, banks_of, columns_of}
use Rattle.sram_netlist.specs.InstanceList.{logic_cells}
use Rattle.macro_layout.specs.LayoutKit.{LayoutKit}
use Rattle.macro_layout.specs.Places.{Floorplan, columns_x, bit_width, bit_height, total_width}
use Rattle.macro_layout.specs.Floorplan.{Tracks, column_role}
use Rattle.macro_layout.specs.Wires.{trunk_x}
use Rattle.good_places.specs.Beside.{HaveOneLeftPart}
use Rattle.good_places.proofs.NumberLaws.{all_of, banks_before}
use Rattle.good_places.proofs.WindowLaws.{power_low}
use Rattle.good_wires.specs.Drawn.{IsDrawnMemory}
use Rattle.good_wires.proofs.LevelLaws.{Levels, levels, Sides, sides}
use Rattle.good_wires.proofs.ClearLaws.{write_high, column_high}
use Rattle.supply_bars.proofs.HeightLaws as heights
use Rattle.supply_bars.specs.Heights.{Storey, LogicRow, Slices, Columns, Height, LogicLow, LogicHigh, WriteLow, WriteHigh, SenseLow, SenseHigh, ColumnLow, ColumnHigh, CellRow, PrechargeLow, PrechargeHigh, part_of, low, tall, array_rise, precharge_rise, rise, bar_begin, HasBar, HasJoiner, trunk_by, is_power}

-- Memories with the same left part have the same heights.

abbrev pub rise_of : Organization → LayoutKit → Wire → Height → ℤ
rise_of plan kit wire h = rise kit wire plan.col_bits plan.groups h

abbrev pub tall_of : Organization → LayoutKit → Storey → ℤ
tall_of plan kit part = pos (tall kit plan.col_bits plan.groups part)

pub same_rise : (plan other : Organization) (kit : LayoutKit) (wire : Wire) (h : Height) → HaveOneLeftPart plan other → rise_of other kit wire h ≡ rise_of plan kit wire h
same_rise plan other kit wire h s = λ i. rise kit wire (s.col_bits i) (s.groups i) h

pub same_tall : (plan other : Organization) (kit : LayoutKit) (part : Storey) → HaveOneLeftPart plan other → tall_of other kit part ≡ tall_of plan kit part
same_tall plan other kit part s = λ i. pos (tall kit (s.col_bits i) (s.groups i) part)

pub same_bars : (plan other : Organization) (h : Height) → HaveOneLeftPart plan other → HasBar plan.groups h → HasBar other.groups h
same_bars plan other h s = subst (λ (g : List ℕ). HasBar g h) (sym s.groups)

-- one part has one height of joiners
pub joiner_is : (h : Height) → HasJoiner h → (h ≡ WriteHigh) ⊎ (h ≡ ColumnHigh)
joiner_is LogicLow has = absurd has
joiner_is LogicHigh has = absurd has
joiner_is WriteLow has = absurd has
joiner_is WriteHigh has = inl refl
joiner_is SenseLow has = absurd has
joiner_is SenseHigh has = absurd has
joiner_is ColumnLow has = absurd has
joiner_is ColumnHigh has = inr refl
joiner_is (CellRow r) has = absurd has
joiner_is PrechargeLow has = absurd has
joiner_is PrechargeHigh has = absurd has

pub one_joiner : (h k : Height) → HasJoiner h → HasJoiner k → part_of h ≡ part_of k → h ≡ k
one_joiner h k a b same = by (joiner_is h a) (joiner_is k b) where
  by : (h ≡ WriteHigh) ⊎ (h ≡ ColumnHigh) → (k ≡ WriteHigh) ⊎ (k ≡ ColumnHigh) → h ≡ k
  by (inl p) (inl q) = p ∙ sym q
  by (inl p) (inr q) = let e : Slices ≡ Columns = sym (ap part_of p) ∙ same ∙ ap part_of q in absurd (differ e) where
    differ : Slices ≡ Columns → ⊥
    differ e = cc
  by (inr p) (inl q) = let e : Columns ≡ Slices = sym (ap part_of p) ∙ same ∙ ap part_of q in absurd (differ e) where
    differ : Columns ≡ Slices → ⊥
    differ e = cc
  by (inr p) (inr q) = p ∙ sym q

module _ (plan : Organization) (kit : LayoutKit) (wire : Wire) (tracks : Tracks) (f : Floorplan) (m : IsDrawnMemory plan kit wire tracks f) where
  l : Levels plan kit wire f
  l = levels plan kit wire tracks f m.laid.sizes m.stands

  s_of : Sides plan kit wire f
  s_of = sides plan kit wire tracks f m.laid.sizes m.stands

  -- A bar or a joiner lies in its part.

  pub record LiesInPart (h : Height) : Type 0 where
    pub from : pos 0 ≤ℤ rise_of plan kit wire h
    pub to : (rise_of plan kit wire h +ℤ wire.width) ≤ℤ tall_of plan kit (part_of h)

  at_low_end : (w : ℤ) (h k : ℕ) → w ≤ℤ pos h → (pos 0 +ℤ w) ≤ℤ pos (h + k)
  at_low_end w h k le = omega (arith, ints, le)

  first_end : (w : ℤ) (h : ℕ) → w ≤ℤ pos h → (pos 0 +ℤ w) ≤ℤ pos h
  first_end w h le = omega (arith, ints, le)

  from_end : (w : ℤ) (h : ℕ) → w ≤ℤ pos h → pos 0 ≤ℤ (pos h -ℤ w)
  from_end w h le = omega (arith, ints, le)

  from_ends : (w : ℤ) (h k : ℕ) → w ≤ℤ pos k → pos 0 ≤ℤ (pos (h + k) -ℤ w)
  from_ends w h k le = omega (arith, ints, le)

  to_end : (w : ℤ) (h k : ℕ) → ((pos h -ℤ w) +ℤ w) ≤ℤ pos (h + k)
  to_end w h k = omega (arith, ints)

  at_end : (w : ℤ) (h : ℕ) → ((pos h -ℤ w) +ℤ w) ≤ℤ pos h
  at_end w h = omega (arith, ints)

  above : (h : ℕ) → pos 0 ≤ℤ pos h
  above h = omega (arith, ints)

  next_end : (w : ℤ) (h k : ℕ) → w ≤ℤ pos k → (pos h +ℤ w) ≤ℤ pos (h + k)
  next_end w h k le = omega (arith, ints, le)

  row_end : (r : ℕ) → r < bank_rows plan → (pos (array_rise kit plan.col_bits + r * bit_height kit) +ℤ wire.width) ≤ℤ tall_of plan kit Columns
  row_end r lt = go wire.width (array_rise kit plan.col_bits) (r * bit_height kit) (bit_height kit) (bank_rows plan * bit_height kit) (kit.height Precharge) (all_of r (bank_rows plan) (bit_height kit) lt) (m.pins.cells Bitcell) where
    go : (w : ℤ) (a x b n p : ℕ) → x + b ≤ n → w ≤ℤ pos b → (pos (a + x) +ℤ w) ≤ℤ pos ((a + n) + p)
    go w a x b n p le d = omega (arith, ints, le, d)

  pub in_part : (h : Height) → HasBar plan.groups h ⊎ HasJoiner h → LiesInPart h
  in_part LogicLow has = record { from = above 0; to = first_end wire.width (kit.height Inv) (m.pins.cells Inv) }
  in_part LogicHigh has = record { from = from_end wire.width (kit.height Inv) (m.pins.cells Inv); to = at_end wire.width (kit.height Inv) }
  in_part WriteLow has = record { from = above 0; to = at_low_end wire.width (kit.height Write) (kit.height Sense) (m.pins.cells Write) }
  in_part WriteHigh has = record { from = from_end wire.width (kit.height Write) (m.pins.cells Write); to = to_end wire.width (kit.height Write) (kit.height Sense) }
  in_part SenseLow has = record { from = above (kit.height Write); to = next_end wire.width (kit.height Write) (kit.height Sense) (m.pins.cells Sense) }
  in_part SenseHigh has = record { from = from_ends wire.width (kit.height Write) (kit.height Sense) (m.pins.cells Sense); to = at_end wire.width (kit.height Write + kit.height Sense) }
  in_part ColumnLow has = record { from = above 0; to = go wire.width (array_rise kit plan.col_bits) (bank_rows plan * bit_height kit) (kit.height Precharge) (m.pins.cells (column_role plan.col_bits)) } where
    go : (w : ℤ) (a n p : ℕ) → w ≤ℤ pos a → (pos 0 +ℤ w) ≤ℤ pos ((a + n) + p)
    go w a n p le = omega (arith, ints, le)
  in_part ColumnHigh has = record { from = from_end wire.width (array_rise kit plan.col_bits) (m.pins.cells (column_role plan.col_bits)); to = go wire.width (array_rise kit plan.col_bits) (bank_rows plan * bit_height kit) (kit.height Precharge) } where
    go : (w : ℤ) (a n p : ℕ) → ((pos a -ℤ w) +ℤ w) ≤ℤ pos ((a + n) + p)
    go w a n p = omega (arith, ints)
  in_part (CellRow r) (inl lt) = record { from = above (array_rise kit plan.col_bits + r * bit_height kit); to = row_end r lt }
  in_part (CellRow r) (inr none) = absurd none
  in_part PrechargeLow has = record { from = above (precharge_rise kit plan.col_bits plan.groups); to = next_end wire.width (precharge_rise kit plan.col_bits plan.groups) (kit.height Precharge) (m.pins.cells Precharge) }
  in_part PrechargeHigh has = record { from = from_ends wire.width (precharge_rise kit plan.col_bits plan.groups) (kit.height Precharge) (m.pins.cells Precharge); to = at_end wire.width (precharge_rise kit plan.col_bits plan.groups + kit.height Precharge) }

  -- Parts keep the wires' space.

  abbrev pub IsBelow : Storey → Storey → Type 0
  IsBelow p q = ((low f p +ℤ tall_of plan kit p) +ℤ wire.space) ≤ℤ low f q

  row_below : IsBelow LogicRow Slices
  row_below = let a = write_high plan kit wire tracks f m in go (pos (kit.height Inv)) wire.space f.write_y a where
    go : (h s y : ℤ) → (h +ℤ s) ≤ℤ y → ((pos 0 +ℤ h) +ℤ s) ≤ℤ y
    go h s y a = omega (arith, ints, a)

  row_under : IsBelow LogicRow Columns
  row_under = let a = row_below in let c = column_high plan kit wire tracks f m in omega (arith, ints, a, c)

  slices_below : IsBelow Slices Columns
  slices_below = go f.write_y f.sense_y f.column_y wire.space (kit.height Write) (kit.height Sense) (heights.sense_y plan kit wire tracks f m) l.column where
    go : (w s c sp : ℤ) (h k : ℕ) → s ≡ w +ℤ pos h → ((s +ℤ pos k) +ℤ sp) ≤ℤ c → ((w +ℤ pos (h + k)) +ℤ sp) ≤ℤ c
    go w s c sp h k e le = omega (arith, ints, e, le)

  pub parts : (p q : Storey) → (p ≡ q) ⊎ (IsBelow p q ⊎ IsBelow q p)
  parts LogicRow LogicRow = inl refl
  parts LogicRow Slices = inr (inl row_below)
  parts LogicRow Columns = inr (inl row_under)
  parts Slices LogicRow = inr (inr row_below)
  parts Slices Slices = inl refl
  parts Slices Columns = inr (inl slices_below)
  parts Columns LogicRow = inr (inr row_under)
  parts Columns Slices = inr (inr slices_below)
  parts Columns Columns = inl refl

  -- From left to right.

  -- the banks end a space before the trunk
  pub banks_end : (b : ℕ) → b < banks_of plan → ((f.bank_width +ℤ (pos b *ℤ f.bank_width)) +ℤ wire.space) ≤ℤ trunk_x plan kit wire f
  banks_end b lt = go f.bank_width (pos b *ℤ f.bank_width) (pos (banks_of plan) *ℤ f.bank_width) (f.logic_x +ℤ pos (total_width plan kit (logic_cells plan))) wire.space (banks_before b (banks_of plan) f.bank_width lt s_of.wide) where
    go : (w q all row s : ℤ) → (q +ℤ w) ≤ℤ all → ((w +ℤ q) +ℤ s) ≤ℤ (int_max all row +ℤ s)
    go w q all row s le = omega (arith, ints, clamps, le)

  first_bank : (f.bank_width +ℤ wire.space) ≤ℤ trunk_x plan kit wire f
  first_bank = go f.bank_width wire.space (trunk_x plan kit wire f) (pos 0 *ℤ f.bank_width) (none f.bank_width) (banks_end 0 (power_low plan.bank_bits)) where
    none : (w : ℤ) → pos 0 *ℤ w ≡ pos 0
    none w = omega (arith, ints)

    go : (w s t z : ℤ) → z ≡ pos 0 → ((w +ℤ z) +ℤ s) ≤ℤ t → (w +ℤ s) ≤ℤ t
    go w s t z e le = omega (arith, ints, e, le)

  logic_first : (f.logic_x +ℤ wire.space) ≤ℤ trunk_x plan kit wire f
  logic_first = go f.logic_x (pos (banks_of plan) *ℤ f.bank_width) wire.space (total_width plan kit (logic_cells plan)) where
    go : (l b s : ℤ) (n : ℕ) → (l +ℤ s) ≤ℤ (int_max b (l +ℤ pos n) +ℤ s)
    go l b s n = omega (arith, ints, clamps)

  columns_first : (columns_x plan kit f +ℤ wire.space) ≤ℤ trunk_x plan kit wire f
  columns_first = go (columns_x plan kit f) f.bank_width wire.space (trunk_x plan kit wire f) (columns_of plan * bit_width kit) s_of.bank first_bank where
    go : (c w s t : ℤ) (n : ℕ) → w ≡ c +ℤ pos n → (w +ℤ s) ≤ℤ t → (c +ℤ s) ≤ℤ t
    go c w s t n e le = omega (arith, ints, e, le)

  rows_first : (f.row_x +ℤ wire.space) ≤ℤ trunk_x plan kit wire f
  rows_first = let a = s_of.columns in let c = columns_first in omega (arith, ints, a, c)

  -- bars begin a space before the trunk
  pub begins : (h : Height) → (bar_begin plan kit f h +ℤ wire.space) ≤ℤ trunk_x plan kit wire f
  begins LogicLow = logic_first
  begins LogicHigh = logic_first
  begins WriteLow = columns_first
  begins WriteHigh = columns_first
  begins SenseLow = columns_first
  begins SenseHigh = columns_first
  begins ColumnLow = columns_first
  begins ColumnHigh = rows_first
  begins (CellRow r) = rows_first
  begins PrechargeLow = rows_first
  begins PrechargeHigh = columns_first

  pub trunks : (p : Bool) → trunk_x plan kit wire f ≤ℤ trunk_by plan kit wire f p
  trunks true = same (trunk_x plan kit wire f) where
    same : (z : ℤ) → z ≤ℤ z
    same z = omega (arith, ints)
  trunks false = let a = m.laid.sizes.width.from in let c = m.laid.sizes.space.from in go (trunk_x plan kit wire f) wire.width wire.space a c where
    go : (t w s : ℤ) → pos 1 ≤ℤ w → pos 1 ≤ℤ s → t ≤ℤ (t +ℤ (w +ℤ s))
    go t w s a c = omega (arith, ints, a, c)

  pub bar_wide : (h : Height) → bar_begin plan kit f h <ℤ (trunk_by plan kit wire f (is_power h) +ℤ wire.width)
  bar_wide h = go (bar_begin plan kit f h) (trunk_x plan kit wire f) (trunk_by plan kit wire f (is_power h)) wire.space wire.width (begins h) (trunks (is_power h)) m.laid.sizes.space.from m.laid.sizes.width.from where
    go : (b t u s w : ℤ) → (b +ℤ s) ≤ℤ t → t ≤ℤ u → pos 1 ≤ℤ s → pos 1 ≤ℤ w → b <ℤ (u +ℤ w)
    go b t u s w p q i j = omega (arith, ints, p, q, i, j)

  -- Between two bars of a part stand only bars that begin no later.

  slices_begin : (h : Height) → Slices ≡ part_of h → bar_begin plan kit f h ≡ columns_x plan kit f
  slices_begin LogicLow e = cc
  slices_begin LogicHigh e = cc
  slices_begin WriteLow e = refl
  slices_begin WriteHigh e = refl
  slices_begin SenseLow e = refl
  slices_begin SenseHigh e = refl
  slices_begin ColumnLow e = cc
  slices_begin ColumnHigh e = cc
  slices_begin (CellRow r) e = cc
  slices_begin PrechargeLow e = cc
  slices_begin PrechargeHigh e = cc

  same_le : (z : ℤ) → z ≤ℤ z
  same_le z = omega (arith, ints)

  columns_begin : (h : Height) → Columns ≡ part_of h → f.row_x ≤ℤ bar_begin plan kit f h
  columns_begin LogicLow e = cc
  columns_begin LogicHigh e = cc
  columns_begin WriteLow e = s_of.columns
  columns_begin WriteHigh e = s_of.columns
  columns_begin SenseLow e = s_of.columns
  columns_begin SenseHigh e = s_of.columns
  columns_begin ColumnLow e = s_of.columns
  columns_begin ColumnHigh e = same_le f.row_x
  columns_begin (CellRow r) e = same_le f.row_x
  columns_begin PrechargeLow e = same_le f.row_x
  columns_begin PrechargeHigh e = s_of.columns

  -- joiners begin before the columns
  pub joiner_begins : (h : Height) → HasJoiner h → (f.row_x ≤ℤ bar_begin plan kit f h) × (bar_begin plan kit f h ≤ℤ columns_x plan kit f)
  joiner_begins LogicLow has = absurd has
  joiner_begins LogicHigh has = absurd has
  joiner_begins WriteLow has = absurd has
  joiner_begins WriteHigh has = (s_of.columns, same_le (columns_x plan kit f))
  joiner_begins SenseLow has = absurd has
  joiner_begins SenseHigh has = absurd has
  joiner_begins ColumnLow has = absurd has
  joiner_begins ColumnHigh has = (same_le f.row_x, s_of.columns)
  joiner_begins (CellRow r) has = absurd has
  joiner_begins PrechargeLow has = absurd has
  joiner_begins PrechargeHigh has = absurd has

  no_low : (pos 0 <ℤ pos 0) → ⊥
  no_low lt = omega (arith, ints, lt)

  no_high : (h w : ℤ) → ((h -ℤ w) +ℤ w) <ℤ h → ⊥
  no_high h w lt = omega (arith, ints, lt)

  pub inner_begins : (h k : Height) → HasBar plan.groups k → part_of k ≡ part_of h → pos 0 <ℤ rise_of plan kit wire k → (rise_of plan kit wire k +ℤ wire.width) <ℤ tall_of plan kit (part_of k) → bar_begin plan kit f k ≤ℤ bar_begin plan kit f h
  inner_begins h LogicLow has part from to = absurd (no_low from)
  inner_begins h LogicHigh has part from to = absurd (no_high (pos (kit.height Inv)) wire.width to)
  inner_begins h WriteLow has part from to = absurd (no_low from)
  inner_begins h WriteHigh has part from to = absurd has
  inner_begins h SenseLow has part from to = subst (λ (z : ℤ). columns_x plan kit f ≤ℤ z) (sym (slices_begin h part)) (same_le (columns_x plan kit f))
  inner_begins h SenseHigh has part from to = absurd (no_high (pos (kit.height Write + kit.height Sense)) wire.width to)
  inner_begins h ColumnLow has part from to = absurd (no_low from)
  inner_begins h ColumnHigh has part from to = absurd has
  inner_begins h (CellRow r) has part from to = columns_begin h part
  inner_begins h PrechargeLow has part from to = columns_begin h part
  inner_begins h PrechargeHigh has part from to = absurd (no_high (pos (precharge_rise kit plan.col_bits plan.groups + kit.height Precharge)) wire.width to)
