-- What a macro takes over: its leaf instances, each at its place, and the wires of its banks.
use Rattle.std.proofs.Common.{◌≡◌, ◌⊎◌, inl, inr, ◌↔◌, ℕ, zero, suc, ◌+◌, ◌*◌, ◌<◌, ℤ, pos, ◌+ℤ◌, ◌-ℤ◌, ◌*ℤ◌, List, [], refl, subst, ◌∙◌, arith}
use Rattle.std.proofs.lemmas.Int.{ints}
use Rattle.std.specs.Prelude.{codes}
use Rattle.or_geom.specs.declared.shape.Point.{Point}
use Rattle.or_geom.specs.declared.shape.Shape.{Shape}
use Rattle.or_geom.specs.declared.place.Place.{Place}
use Rattle.or_geom.specs.Place.{placed}
use Rattle.cell_chains.specs.Instances.{Item}
use Rattle.cell_hierarchy.specs.FlatSet.{path_under}
use Rattle.cell_builder.specs.declared.cell.PlacedLabel.{PlacedLabel}
use Rattle.cell_builder.specs.Flat.{item_of, IsTakenOver}
use Rattle.sram_netlist.specs.Organization.{Organization, bank_rows, columns_of, banks_of, words_per_row, IsBuildable}
use Rattle.sram_netlist.specs.Instances.{LeafInstance, BitAt, NandAt, DriverAt, PrechargeAt, WriteAt, SenseAt, MuxAt, TieAt, LogicAt}
use Rattle.sram_netlist.specs.Netlist.{role}
use Rattle.sram_netlist.specs.InstanceList.{tabulate, logic_cells}
use Rattle.sram_netlist.specs.Membership.{HasLeafInstance}
use Rattle.sram_netlist.specs.Names.{leaf_name}
use Rattle.sram_netlist.specs.BitCells.{BitCells}
use Rattle.sram_netlist.proofs.Bounds.{bounds}
use Rattle.macro_layout.specs.LayoutKit.{LayoutKit}
use Rattle.macro_layout.specs.Places.{Floorplan, upright, gate_width, drive_width, bit_width, in_row_at, bank_x, columns_x, column_x, total_width, IsPlaceOf, leaf_cell, leaf_item}
use Rattle.macro_layout.specs.Cells.{bank_cell, bank_cell_name, logic_row_cell, logic_cell_name, logic_at, bank_at, macro_cell, column_leaf}
use Rattle.macro_layout.specs.Layout.{IsOfLeaf}
use Rattle.macro_layout.proofs.TakenLaws.{Opens, Joins, Splits, TakesIn, taken_first, taken_later, taken_cases, numbered_taken, taken_numbered, IsOf, StandsBeside, out_of_part, into_part, taken_as}
use Rattle.macro_layout.proofs.Parts.{lowered, Slot, BitSlot, GateSlot, DriverSlot, slot_x, Spot, ArraySpot, PrechargeSpot, WriteSpot, SenseSpot, ColumnSpot, IsSpot, spot_item, leaf_of, leaf_in_row}
use Rattle.macro_layout.proofs.BankLaws.{AreBare, part_place, row_place}
use Rattle.macro_layout.proofs.SpotLaws.{spots_of_bank, bank_of_spots}
use Rattle.macro_layout.proofs.PathLaws.{few, spot_path}
use Rattle.macro_layout.proofs.RowLaws.{Seat, IsSeat, seat_item_at, seats_of_row, row_of_seats, has_seat, seat_beside}

-- the places of a bank's spots in the macro

abbrev slot_in_macro : Organization → LayoutKit → Floorplan → Slot → ℤ
slot_in_macro plan kit floorplan (BitSlot c) = column_x plan kit floorplan c
slot_in_macro plan kit floorplan GateSlot = floorplan.row_x
slot_in_macro plan kit floorplan DriverSlot = floorplan.row_x +ℤ pos (gate_width plan kit)

abbrev spot_in_macro : Organization → LayoutKit → Floorplan → ℕ → Spot → Place
spot_in_macro plan kit floorplan b (ArraySpot site) = in_row_at kit floorplan.array_y site.row (bank_x floorplan b (slot_in_macro plan kit floorplan site.slot))
spot_in_macro plan kit floorplan b (PrechargeSpot c) = upright (bank_x floorplan b (column_x plan kit floorplan c)) floorplan.precharge_y
spot_in_macro plan kit floorplan b (WriteSpot i) = upright (bank_x floorplan b (column_x plan kit floorplan (i * words_per_row plan))) floorplan.write_y
spot_in_macro plan kit floorplan b (SenseSpot i) = upright (bank_x floorplan b (column_x plan kit floorplan (i * words_per_row plan))) floorplan.sense_y
spot_in_macro plan kit floorplan b (ColumnSpot c) = upright (bank_x floorplan b (column_x plan kit floorplan c)) floorplan.column_y

column_stands : (plan : Organization) (kit : LayoutKit) (floorplan : Floorplan) (m b c : ℕ) → IsPlaceOf plan kit floorplan (column_leaf m b c) (upright (bank_x floorplan b (column_x plan kit floorplan c)) floorplan.column_y)
column_stands plan kit floorplan zero b c = refl
column_stands plan kit floorplan (suc m) b c = refl

spot_stands : (plan : Organization) (kit : LayoutKit) (floorplan : Floorplan) (b : ℕ) (spot : Spot) → IsPlaceOf plan kit floorplan (leaf_of plan b spot) (spot_in_macro plan kit floorplan b spot)
spot_stands plan kit floorplan b (ArraySpot site) = in_row site.slot
  where
    in_row : (slot : Slot) → IsPlaceOf plan kit floorplan (leaf_in_row b site.row slot) (in_row_at kit floorplan.array_y site.row (bank_x floorplan b (slot_in_macro plan kit floorplan slot)))
    in_row (BitSlot c) = refl
    in_row GateSlot = refl
    in_row DriverSlot = refl
spot_stands plan kit floorplan b (PrechargeSpot c) = refl
spot_stands plan kit floorplan b (WriteSpot i) = refl
spot_stands plan kit floorplan b (SenseSpot i) = refl
spot_stands plan kit floorplan b (ColumnSpot c) = column_stands plan kit floorplan plan.col_bits b c

back_to : (y w : ℤ) → y ≡ (pos 0 +ℤ (y -ℤ w)) +ℤ w
back_to y w = omega (arith, ints)

back_up : (y w : ℤ) → y ≡ ((y -ℤ w) +ℤ pos 0) +ℤ w
back_up y w = omega (arith, ints)

back_none : (w : ℤ) → w ≡ (pos 0 +ℤ pos 0) +ℤ w
back_none w = omega (arith, ints)

behind : (a t d : ℤ) → (a +ℤ t) +ℤ d ≡ (t +ℤ a) +ℤ d
behind a t d = omega (arith, ints)

bit_behind : (r d : ℤ) (a c : ℕ) → ((r +ℤ pos a) +ℤ pos c) +ℤ d ≡ (pos (a + c) +ℤ r) +ℤ d
bit_behind r d a c = omega (arith, ints)

gate_behind : (r d : ℤ) → r +ℤ d ≡ (pos 0 +ℤ r) +ℤ d
gate_behind r d = omega (arith, ints)

slot_behind : (plan : Organization) (kit : LayoutKit) (floorplan : Floorplan) (d : ℤ) (slot : Slot) → slot_in_macro plan kit floorplan slot +ℤ d ≡ (slot_x plan kit slot +ℤ floorplan.row_x) +ℤ d
slot_behind plan kit floorplan d (BitSlot c) = bit_behind floorplan.row_x d (drive_width plan kit) (c * bit_width kit)
slot_behind plan kit floorplan d GateSlot = gate_behind floorplan.row_x d
slot_behind plan kit floorplan d DriverSlot = behind floorplan.row_x (pos (gate_width plan kit)) d

leaf_moves : (x y u v a d w : ℤ) (p : Point) → y ≡ (v +ℤ u) +ℤ w → x ≡ a +ℤ d → placed (upright x y) p ≡ placed (upright d w) (placed (upright a (v +ℤ u)) p)
leaf_moves x y u v a d w p ey ex = (λ i. placed (upright (ex i) (ey i)) p) ∙ part_place a (v +ℤ u) d w p

spot_moves : (plan : Organization) (kit : LayoutKit) (bits : BitCells) (floorplan : Floorplan) (b : ℕ) (spot : Spot) (p : Point) → placed (spot_in_macro plan kit floorplan b spot) p ≡ placed (upright (pos b *ℤ floorplan.bank_width) floorplan.write_y) (placed (spot_item plan kit bits floorplan spot).place p)
spot_moves plan kit bits floorplan b (ArraySpot site) p =
    (λ i. placed (in_row_at kit (back_to floorplan.array_y floorplan.write_y i) site.row (slot_behind plan kit floorplan (pos b *ℤ floorplan.bank_width) site.slot i)) p)
    ∙ row_place kit site.row (slot_x plan kit site.slot +ℤ floorplan.row_x) (pos 0 +ℤ (floorplan.array_y -ℤ floorplan.write_y)) (pos b *ℤ floorplan.bank_width) floorplan.write_y p
spot_moves plan kit bits floorplan b (PrechargeSpot c) p =
    leaf_moves _ floorplan.precharge_y (floorplan.precharge_y -ℤ floorplan.write_y) (pos 0) _ (pos b *ℤ floorplan.bank_width) floorplan.write_y p (back_to floorplan.precharge_y floorplan.write_y) (behind (columns_x plan kit floorplan) (pos (c * bit_width kit)) (pos b *ℤ floorplan.bank_width))
spot_moves plan kit bits floorplan b (WriteSpot k) p =
    leaf_moves _ floorplan.write_y (pos 0) (pos 0) _ (pos b *ℤ floorplan.bank_width) floorplan.write_y p (back_none floorplan.write_y) (behind (columns_x plan kit floorplan) (pos ((k * words_per_row plan) * bit_width kit)) (pos b *ℤ floorplan.bank_width))
spot_moves plan kit bits floorplan b (SenseSpot k) p =
    leaf_moves _ floorplan.sense_y (pos 0) (floorplan.sense_y -ℤ floorplan.write_y) _ (pos b *ℤ floorplan.bank_width) floorplan.write_y p (back_up floorplan.sense_y floorplan.write_y)
    (behind (columns_x plan kit floorplan) (pos ((k * words_per_row plan) * bit_width kit)) (pos b *ℤ floorplan.bank_width))
spot_moves plan kit bits floorplan b (ColumnSpot c) p =
    leaf_moves _ floorplan.column_y (pos 0) (floorplan.column_y -ℤ floorplan.write_y) _ (pos b *ℤ floorplan.bank_width) floorplan.write_y p (back_up floorplan.column_y floorplan.write_y) (behind (columns_x plan kit floorplan) (pos (c * bit_width kit)) (pos b *ℤ floorplan.bank_width))

-- a bank's spots beside the bank

abbrev spot_leaf_item : Organization → LayoutKit → BitCells → Floorplan → ℕ → Spot → Item
spot_leaf_item plan kit bits floorplan b spot = leaf_item plan kit bits (leaf_of plan b spot) (spot_in_macro plan kit floorplan b spot)

spot_some : (plan : Organization) (kit : LayoutKit) (bits : BitCells) (floorplan : Floorplan) (spot : Spot) → (spot_item plan kit bits floorplan spot).name ≡ [] → ⊥
spot_some plan kit bits floorplan (ArraySpot site) e = in_array site.slot e
  where
    in_array : (slot : Slot) → (spot_item plan kit bits floorplan (ArraySpot (record { row = site.row; slot = slot }))).name ≡ [] → ⊥
    in_array (BitSlot c) none = absurd cc
    in_array GateSlot none = absurd cc
    in_array DriverSlot none = absurd cc
spot_some plan kit bits floorplan (PrechargeSpot c) e = absurd cc
spot_some plan kit bits floorplan (WriteSpot i) e = absurd cc
spot_some plan kit bits floorplan (SenseSpot i) e = absurd cc
spot_some plan kit bits floorplan (ColumnSpot c) e = in_column plan.col_bits e
  where
    in_column : (m : ℕ) → path_under (codes "xdata") (lowered (leaf_name plan (column_leaf m 0 c))) ≡ [] → ⊥
    in_column zero none = absurd cc
    in_column (suc m) none = absurd cc

pub same_column : (plan : Organization) (kit : LayoutKit) (bits : BitCells) (m b c : ℕ) → leaf_cell plan kit bits (column_leaf m b c) ≡ kit.cell (role plan (column_leaf m 0 c))
same_column plan kit bits zero b c = refl
same_column plan kit bits (suc m) b c = refl

same_cell : (plan : Organization) (kit : LayoutKit) (bits : BitCells) (floorplan : Floorplan) (b : ℕ) (spot : Spot) → leaf_cell plan kit bits (leaf_of plan b spot) ≡ (spot_item plan kit bits floorplan spot).cell
same_cell plan kit bits floorplan b (ArraySpot site) = in_row site.slot
  where
    in_row : (slot : Slot) → leaf_cell plan kit bits (leaf_in_row b site.row slot) ≡ (spot_item plan kit bits floorplan (ArraySpot (record { row = site.row; slot = slot }))).cell
    in_row (BitSlot c) = refl
    in_row GateSlot = refl
    in_row DriverSlot = refl
same_cell plan kit bits floorplan b (PrechargeSpot c) = refl
same_cell plan kit bits floorplan b (WriteSpot i) = refl
same_cell plan kit bits floorplan b (SenseSpot i) = refl
same_cell plan kit bits floorplan b (ColumnSpot c) = same_column plan kit bits plan.col_bits b c

spot_beside : (plan : Organization) (kit : LayoutKit) (bits : BitCells) (floorplan : Floorplan) (n : List ℕ) (b : ℕ) (spot : Spot) → IsBuildable plan → b < banks_of plan → IsSpot plan spot
    → StandsBeside (item_of (bank_at plan floorplan n b)) (spot_item plan kit bits floorplan spot) (spot_leaf_item plan kit bits floorplan b spot)
spot_beside plan kit bits floorplan n b spot p below is =
    let limits = bounds plan p in
    let banks = limits.banks in
    let rows = limits.rows in
    let columns = limits.columns in
    let words = limits.words in
    record {
      nested = record {
        name = spot_path plan kit bits floorplan b spot (few b (omega (arith, below, banks))) (few (bank_rows plan) (omega (arith, rows))) (few (columns_of plan) (omega (arith, columns))) (few plan.word_size (omega (arith, words))) is;
        some = spot_some plan kit bits floorplan spot;
        place = spot_moves plan kit bits floorplan b spot;
      };
      cell = same_cell plan kit bits floorplan b spot;
    }

-- leaf instances of the memory

pub column_has : (plan : Organization) (m b c : ℕ) → plan.col_bits ≡ m → b < banks_of plan → c < columns_of plan → HasLeafInstance plan (column_leaf m b c)
column_has plan zero b c e below is = (below, (is, e))
column_has plan (suc m) b c e below is = (below, (is, omega (arith, e)))

pub spot_has : (plan : Organization) (b : ℕ) (spot : Spot) → b < banks_of plan → IsSpot plan spot → HasLeafInstance plan (leaf_of plan b spot)
spot_has plan b (ArraySpot site) below is = in_row site.slot is
  where
    in_row : (slot : Slot) → IsSpot plan (ArraySpot (record { row = site.row; slot = slot })) → HasLeafInstance plan (leaf_in_row b site.row slot)
    in_row (BitSlot c) i = (below, (i.row, i.slot))
    in_row GateSlot i = (below, i.row)
    in_row DriverSlot i = (below, i.row)
spot_has plan b (PrechargeSpot c) below is = (below, is)
spot_has plan b (WriteSpot i) below is = (below, is)
spot_has plan b (SenseSpot i) below is = (below, is)
spot_has plan b (ColumnSpot c) below is = column_has plan plan.col_bits b c refl below is

abbrev seat_leaf_item : Organization → LayoutKit → BitCells → Floorplan → Seat → Item
seat_leaf_item plan kit bits floorplan seat = leaf_item plan kit bits (LogicAt seat.cell) (upright (floorplan.logic_x +ℤ pos (total_width plan kit seat.before)) (pos 0))

-- one of a bank's leaf instances
record IsOfBank {X : Type 0} (Takes : Item → (X → Type 0) → X → Type 0) (Flat : List ℕ → X → Type 0) (plan : Organization) (kit : LayoutKit) (bits : BitCells) (floorplan : Floorplan) (x : X) : Type 0 where
  bank : ℕ
  below : bank < banks_of plan
  spot : IsOf Takes Flat (IsSpot plan) (spot_leaf_item plan kit bits floorplan bank) x

abbrev IsOfRow : {X : Type 0} → (Item → (X → Type 0) → X → Type 0) → (List ℕ → X → Type 0) → Organization → LayoutKit → BitCells → Floorplan → X → Type 0
IsOfRow Takes Flat plan kit bits floorplan x = IsOf Takes Flat (IsSeat (logic_cells plan)) (seat_leaf_item plan kit bits floorplan) x

leaf_of_bank : {X : Type 0} (Takes : Item → (X → Type 0) → X → Type 0) (Flat : List ℕ → X → Type 0) (plan : Organization) (kit : LayoutKit) (bits : BitCells) (floorplan : Floorplan) (x : X) → IsOfBank Takes Flat plan kit bits floorplan x → IsOfLeaf plan kit bits floorplan Takes Flat x
leaf_of_bank Takes Flat plan kit bits floorplan x l = record {
  leaf = leaf_of plan l.bank l.spot.index;
  has = spot_has plan l.bank l.spot.index l.below l.spot.is;
  place = spot_in_macro plan kit floorplan l.bank l.spot.index;
  stands = spot_stands plan kit floorplan l.bank l.spot.index;
  taken = l.spot.taken;
}

leaf_of_row : {X : Type 0} (Takes : Item → (X → Type 0) → X → Type 0) (Flat : List ℕ → X → Type 0) (plan : Organization) (kit : LayoutKit) (bits : BitCells) (floorplan : Floorplan) (x : X) → IsOfRow Takes Flat plan kit bits floorplan x → IsOfLeaf plan kit bits floorplan Takes Flat x
leaf_of_row Takes Flat plan kit bits floorplan x l = record {
  leaf = LogicAt l.index.cell;
  has = has_seat plan l.index l.is;
  place = upright (floorplan.logic_x +ℤ pos (total_width plan kit l.index.before)) (pos 0);
  stands = record { before = l.index.before; after = l.is.after; row = l.is.row; at = refl };
  taken = l.taken;
}

mux_is : (m b c : ℕ) → 0 < m → MuxAt b c ≡ column_leaf m b c
mux_is zero b c some = absurd (omega (arith, some))
mux_is (suc m) b c some = refl

tie_is : (m b c : ℕ) → m ≡ 0 → TieAt b c ≡ column_leaf m b c
tie_is zero b c none = refl
tie_is (suc m) b c none = absurd (omega (arith, none))

-- a leaf instance, at its place, takes x over
abbrev LeafTakes : {X : Type 0} → (Item → (X → Type 0) → X → Type 0) → (List ℕ → X → Type 0) → Organization → LayoutKit → BitCells → X → LeafInstance → Place → Type 0
LeafTakes Takes Flat plan kit bits x leaf place = Takes (leaf_item plan kit bits leaf place) (Flat (leaf_cell plan kit bits leaf)) x

at_place : {X : Type 0} (Takes : Item → (X → Type 0) → X → Type 0) (Flat : List ℕ → X → Type 0) (plan : Organization) (kit : LayoutKit) (bits : BitCells) (x : X) (leaf other : LeafInstance) (place spot : Place) → leaf ≡ other → place ≡ spot
    → LeafTakes Takes Flat plan kit bits x leaf place → LeafTakes Takes Flat plan kit bits x other spot
at_place Takes Flat plan kit bits x leaf other place spot same e t = subst (λ (l : LeafInstance). LeafTakes Takes Flat plan kit bits x l spot) same (subst (λ (q : Place). LeafTakes Takes Flat plan kit bits x leaf q) e t)

part_of_leaf : {X : Type 0} (Takes : Item → (X → Type 0) → X → Type 0) (Flat : List ℕ → X → Type 0) (plan : Organization) (kit : LayoutKit) (bits : BitCells) (floorplan : Floorplan) (x : X) (leaf : LeafInstance) (place : Place) → HasLeafInstance plan leaf → IsPlaceOf plan kit floorplan leaf place
    → LeafTakes Takes Flat plan kit bits x leaf place → IsOfRow Takes Flat plan kit bits floorplan x ⊎ IsOfBank Takes Flat plan kit bits floorplan x
part_of_leaf Takes Flat plan kit bits floorplan x (BitAt b r c) place has e t =
    inr (record { bank = b; below = has.0; spot = record { index = ArraySpot (record { row = r; slot = BitSlot c }); is = record { row = has.1.0; slot = has.1.1 }; taken = at_place Takes Flat plan kit bits x (BitAt b r c) (BitAt b r c) place _ refl e t } })
part_of_leaf Takes Flat plan kit bits floorplan x (NandAt b r) place has e t =
    inr (record { bank = b; below = has.0; spot = record { index = ArraySpot (record { row = r; slot = GateSlot }); is = record { row = has.1; slot = tt }; taken = at_place Takes Flat plan kit bits x (NandAt b r) (NandAt b r) place _ refl e t } })
part_of_leaf Takes Flat plan kit bits floorplan x (DriverAt b r) place has e t =
    inr (record { bank = b; below = has.0; spot = record { index = ArraySpot (record { row = r; slot = DriverSlot }); is = record { row = has.1; slot = tt }; taken = at_place Takes Flat plan kit bits x (DriverAt b r) (DriverAt b r) place _ refl e t } })
part_of_leaf Takes Flat plan kit bits floorplan x (PrechargeAt b c) place has e t =
    inr (record { bank = b; below = has.0; spot = record { index = PrechargeSpot c; is = has.1; taken = at_place Takes Flat plan kit bits x (PrechargeAt b c) (PrechargeAt b c) place _ refl e t } })
part_of_leaf Takes Flat plan kit bits floorplan x (WriteAt b k) place has e t =
    inr (record { bank = b; below = has.0; spot = record { index = WriteSpot k; is = has.1; taken = at_place Takes Flat plan kit bits x (WriteAt b k) (WriteAt b k) place _ refl e t } })
part_of_leaf Takes Flat plan kit bits floorplan x (SenseAt b k) place has e t =
    inr (record { bank = b; below = has.0; spot = record { index = SenseSpot k; is = has.1; taken = at_place Takes Flat plan kit bits x (SenseAt b k) (SenseAt b k) place _ refl e t } })
part_of_leaf Takes Flat plan kit bits floorplan x (MuxAt b c) place has e t =
    inr (record { bank = b; below = has.0; spot = record { index = ColumnSpot c; is = has.1.0; taken = at_place Takes Flat plan kit bits x (MuxAt b c) (column_leaf plan.col_bits b c) place _ (mux_is plan.col_bits b c has.1.1) e t } })
part_of_leaf Takes Flat plan kit bits floorplan x (TieAt b c) place has e t =
    inr (record { bank = b; below = has.0; spot = record { index = ColumnSpot c; is = has.1.0; taken = at_place Takes Flat plan kit bits x (TieAt b c) (column_leaf plan.col_bits b c) place _ (tie_is plan.col_bits b c has.1.1) e t } })
part_of_leaf Takes Flat plan kit bits floorplan x (LogicAt cell) place has s t =
    inl (record { index = record { before = s.before; cell = cell }; is = record { after = s.after; row = s.row }; taken = at_place Takes Flat plan kit bits x (LogicAt cell) (LogicAt cell) place _ refl s.at t })

-- the cells of the macro are, flat, what their instances take over, and a bank also what it draws itself
pub record AreParts {X : Type 0} (Takes : Item → (X → Type 0) → X → Type 0) (Flat : List ℕ → X → Type 0) (Own : X → Type 0) (plan : Organization) (kit : LayoutKit) (bits : BitCells) (floorplan : Floorplan) (n : List ℕ) (wires : List Shape) : Type 0 where
  pub buildable : IsBuildable plan
  pub bare : AreBare Takes Flat plan kit bits floorplan n
  pub logic : (y : X) → Flat (logic_cell_name n) y ↔ IsTakenOver Takes Flat (logic_row_cell plan kit n).instances y
  pub bank : (y : X) → Flat (bank_cell_name n) y ↔ (Own y ⊎ IsTakenOver Takes Flat (bank_cell plan kit floorplan n wires).instances y)

-- one of the banks takes x over from what it draws itself
pub record IsOfOwn {X : Type 0} (Takes : Item → (X → Type 0) → X → Type 0) (Own : X → Type 0) (plan : Organization) (floorplan : Floorplan) (n : List ℕ) (x : X) : Type 0 where
  pub bank : ℕ
  pub below : bank < banks_of plan
  pub taken : Takes (item_of (bank_at plan floorplan n bank)) Own x

pub leaves_of_macro : {X : Type 0} (Takes : Item → (X → Type 0) → X → Type 0) (Flat : List ℕ → X → Type 0) (Own : X → Type 0) (plan : Organization) (kit : LayoutKit) (bits : BitCells) (floorplan : Floorplan) (n : List ℕ) (bank_wires wires : List Shape) (labels : List PlacedLabel) → Opens Takes → Joins Takes
    → AreParts Takes Flat Own plan kit bits floorplan n bank_wires → (x : X) → IsTakenOver Takes Flat (macro_cell plan floorplan n wires labels).instances x → IsOfOwn Takes Own plan floorplan n x ⊎ IsOfLeaf plan kit bits floorplan Takes Flat x
leaves_of_macro Takes Flat Own plan kit bits floorplan n bank_wires wires labels opens joins parts x t = elim (taken_cases Takes Flat (logic_at floorplan n) (tabulate (banks_of plan) (bank_at plan floorplan n)) x t) [
  | inl logic ↦
      let outer = item_of (logic_at floorplan n) in
      let seats = taken_as Takes (Flat (logic_cell_name n)) (IsOf Takes Flat (IsSeat (logic_cells plan)) (seat_item_at plan kit 0)) outer opens (λ y f. seats_of_row Takes Flat plan kit 0 (logic_cells plan) y ((parts.logic y).0 f)) x logic in
      inr (leaf_of_row Takes Flat plan kit bits floorplan x (out_of_part Takes Flat (IsSeat (logic_cells plan)) (seat_item_at plan kit 0) (seat_leaf_item plan kit bits floorplan) outer opens joins (λ seat is. seat_beside plan kit bits floorplan n seat parts.buildable is) x seats))
  | inr banks ↦
      let m = numbered_taken Takes Flat (bank_at plan floorplan n) (banks_of plan) x banks in
      let outer = item_of (bank_at plan floorplan n m.number) in
      let o = opens outer (Flat (bank_cell_name n)) x m.taken in
      elim ((parts.bank o.inner).0 o.has) [
        | inl own ↦ inl (record { bank = m.number; below = m.below; taken = o.again Own own })
        | inr inside ↦
            let spots = o.again (IsOf Takes Flat (IsSpot plan) (spot_item plan kit bits floorplan)) (spots_of_bank Takes Flat plan kit bits floorplan n bank_wires opens joins parts.bare o.inner inside) in
            let l = out_of_part Takes Flat (IsSpot plan) (spot_item plan kit bits floorplan) (spot_leaf_item plan kit bits floorplan m.number) outer opens joins (λ spot is. spot_beside plan kit bits floorplan n m.number spot parts.buildable m.below is) x spots in
            inr (leaf_of_bank Takes Flat plan kit bits floorplan x (record { bank = m.number; below = m.below; spot = l }))
      ]
]

bank_among : {X : Type 0} (Takes : Item → (X → Type 0) → X → Type 0) (Flat : List ℕ → X → Type 0) (plan : Organization) (floorplan : Floorplan) (n : List ℕ) (wires : List Shape) (labels : List PlacedLabel) (x : X) (b : ℕ) → b < banks_of plan → TakesIn Takes Flat x (bank_at plan floorplan n b)
    → IsTakenOver Takes Flat (macro_cell plan floorplan n wires labels).instances x
bank_among Takes Flat plan floorplan n wires labels x b below t =
    taken_later Takes Flat (logic_at floorplan n) (tabulate (banks_of plan) (bank_at plan floorplan n)) x (taken_numbered Takes Flat (bank_at plan floorplan n) (banks_of plan) b x below t)

pub macro_of_own : {X : Type 0} (Takes : Item → (X → Type 0) → X → Type 0) (Flat : List ℕ → X → Type 0) (Own : X → Type 0) (plan : Organization) (kit : LayoutKit) (bits : BitCells) (floorplan : Floorplan) (n : List ℕ) (bank_wires wires : List Shape) (labels : List PlacedLabel) → Opens Takes
    → AreParts Takes Flat Own plan kit bits floorplan n bank_wires → (x : X) → IsOfOwn Takes Own plan floorplan n x → IsTakenOver Takes Flat (macro_cell plan floorplan n wires labels).instances x
macro_of_own Takes Flat Own plan kit bits floorplan n bank_wires wires labels opens parts x o =
    bank_among Takes Flat plan floorplan n wires labels x o.bank o.below (taken_as Takes Own (Flat (bank_cell_name n)) (item_of (bank_at plan floorplan n o.bank)) opens (λ y own. (parts.bank y).1 (inl own)) x o.taken)

pub macro_of_leaf : {X : Type 0} (Takes : Item → (X → Type 0) → X → Type 0) (Flat : List ℕ → X → Type 0) (Own : X → Type 0) (plan : Organization) (kit : LayoutKit) (bits : BitCells) (floorplan : Floorplan) (n : List ℕ) (bank_wires wires : List Shape) (labels : List PlacedLabel) → Opens Takes → Splits Takes
    → AreParts Takes Flat Own plan kit bits floorplan n bank_wires → (x : X) → IsOfLeaf plan kit bits floorplan Takes Flat x → IsTakenOver Takes Flat (macro_cell plan floorplan n wires labels).instances x
macro_of_leaf Takes Flat Own plan kit bits floorplan n bank_wires wires labels opens splits parts x l = elim (part_of_leaf Takes Flat plan kit bits floorplan x l.leaf l.place l.has l.stands l.taken) [
  | inl seat ↦
      let outer = item_of (logic_at floorplan n) in
      let seats = into_part Takes Flat (IsSeat (logic_cells plan)) (seat_item_at plan kit 0) (seat_leaf_item plan kit bits floorplan) outer opens splits (λ seat is. seat_beside plan kit bits floorplan n seat parts.buildable is) x seat in
      taken_first Takes Flat (logic_at floorplan n) (tabulate (banks_of plan) (bank_at plan floorplan n)) x
      (taken_as Takes (IsOf Takes Flat (IsSeat (logic_cells plan)) (seat_item_at plan kit 0)) (Flat (logic_cell_name n)) outer opens (λ y f. (parts.logic y).1 (row_of_seats Takes Flat plan kit 0 (logic_cells plan) y f)) x seats)
  | inr b ↦
      let outer = item_of (bank_at plan floorplan n b.bank) in
      let spots = into_part Takes Flat (IsSpot plan) (spot_item plan kit bits floorplan) (spot_leaf_item plan kit bits floorplan b.bank) outer opens splits (λ spot is. spot_beside plan kit bits floorplan n b.bank spot parts.buildable b.below is) x b.spot in
      bank_among Takes Flat plan floorplan n wires labels x b.bank b.below
      (taken_as Takes (IsOf Takes Flat (IsSpot plan) (spot_item plan kit bits floorplan)) (Flat (bank_cell_name n)) outer opens (λ y f. (parts.bank y).1 (inr (bank_of_spots Takes Flat plan kit bits floorplan n bank_wires opens splits parts.bare y f))) x spots)
]
