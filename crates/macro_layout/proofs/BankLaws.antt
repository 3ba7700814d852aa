-- What the cells of a bank take over: the slots of its rows, and the cells of its columns.
use Rattle.std.proofs.Common.{◌≡◌, ◌⊎◌, inl, inr, ◌↔◌, ℕ, zero, suc, ◌+◌, ◌*◌, ◌%◌, ◌<◌, ◌==◌, Bool, true, false, cond, ℤ, pos, ◌+ℤ◌, ◌-ℤ◌, List, [], ◌∷◌, ◌++◌, refl, ◌∙◌, arith}
use Rattle.std.proofs.lemmas.Int.{ints}
use Rattle.std.specs.Prelude.{codes}
use Rattle.or_geom.specs.declared.shape.Point.{Point}
use Rattle.or_geom.specs.Place.{placed}
use Rattle.or_geom.proofs.PlaceLaws.{same_point}
use Rattle.cell_chains.specs.Instances.{Item}
use Rattle.cell_builder.specs.declared.cell.PlacedInstance.{PlacedInstance}
use Rattle.cell_builder.specs.Flat.{item_of, IsTakenOver}
use Rattle.sram_netlist.specs.Organization.{Organization, inputs_of, bank_rows, columns_of}
use Rattle.sram_netlist.specs.Instances.{LeafInstance, PrechargeAt, WriteAt, SenseAt}
use Rattle.sram_netlist.specs.InstanceList.{tabulate}
use Rattle.sram_netlist.specs.Names.{leaf_name}
use Rattle.sram_netlist.specs.BitCells.{BitCells, row_name}
use Rattle.macro_layout.specs.LayoutKit.{LayoutKit}
use Rattle.macro_layout.specs.Places.{Floorplan, upright, mirrored_at, in_row_at, bit_height}
use Rattle.macro_layout.specs.Cells.{row_cell, row_gate_at, row_driver_at, row_bit_at, row_at, array_cell, array_cell_name, pre_cell, pre_cell_name, data_cell, data_cell_name, leaf_in_cell, part_at, precharge_at, write_at, sense_at, column_at, column_leaf, array_at, pre_at, data_at}
use Rattle.macro_layout.proofs.TakenLaws.{Opens, Joins, Splits, taken_first, taken_later, taken_cases, taken_left, taken_right, taken_parts, numbered_taken, taken_numbered, IsOf, StandsBeside, out_of_part, into_part, taken_as}
use Rattle.macro_layout.proofs.Parts.{lowered, Slot, BitSlot, GateSlot, DriverSlot, IsSlot, slot_item, slot_x, Site, IsSite, site_item, ArraySpot, PrechargeSpot, WriteSpot, SenseSpot, ColumnSpot, item_in_part, spot_item}

-- a row

pub slots_of_row : {X : Type 0} (Takes : Item → (X → Type 0) → X → Type 0) (Flat : List ℕ → X → Type 0) (plan : Organization) (kit : LayoutKit) (bits : BitCells) (n : List ℕ) (r : ℕ) (y : X) → IsTakenOver Takes Flat (row_cell plan kit bits n r).instances y
    → IsOf Takes Flat (IsSlot plan) (slot_item plan kit bits r) y
slots_of_row Takes Flat plan kit bits n r y t =
    let cells = tabulate (columns_of plan) (row_bit_at plan kit bits r) in
    elim (taken_cases Takes Flat (row_gate_at plan kit) (row_driver_at plan kit ∷ cells) y t) [
      | inl gate ↦ record { index = GateSlot; is = tt; taken = gate }
      | inr others ↦ elim (taken_cases Takes Flat (row_driver_at plan kit) cells y others) [
        | inl driver ↦ record { index = DriverSlot; is = tt; taken = driver }
        | inr rest ↦ let m = numbered_taken Takes Flat (row_bit_at plan kit bits r) (columns_of plan) y rest in record { index = BitSlot m.number; is = m.below; taken = m.taken }
      ]
    ]

row_of_slot : {X : Type 0} (Takes : Item → (X → Type 0) → X → Type 0) (Flat : List ℕ → X → Type 0) (plan : Organization) (kit : LayoutKit) (bits : BitCells) (n : List ℕ) (r : ℕ) (y : X) (slot : Slot) → IsSlot plan slot → Takes (slot_item plan kit bits r slot) (Flat (slot_item plan kit bits r slot).cell) y
    → IsTakenOver Takes Flat (row_cell plan kit bits n r).instances y
row_of_slot Takes Flat plan kit bits n r y (BitSlot c) is t =
    let cells = tabulate (columns_of plan) (row_bit_at plan kit bits r) in
    taken_later Takes Flat (row_gate_at plan kit) (row_driver_at plan kit ∷ cells) y (taken_later Takes Flat (row_driver_at plan kit) cells y (taken_numbered Takes Flat (row_bit_at plan kit bits r) (columns_of plan) c y is t))
row_of_slot Takes Flat plan kit bits n r y GateSlot is t = taken_first Takes Flat (row_gate_at plan kit) (row_driver_at plan kit ∷ tabulate (columns_of plan) (row_bit_at plan kit bits r)) y t
row_of_slot Takes Flat plan kit bits n r y DriverSlot is t =
    let cells = tabulate (columns_of plan) (row_bit_at plan kit bits r) in
    taken_later Takes Flat (row_gate_at plan kit) (row_driver_at plan kit ∷ cells) y (taken_first Takes Flat (row_driver_at plan kit) cells y t)

-- places

-- what stands at (x, y) in a part stands so much further where the part's corner is
pub part_place : (u v x y : ℤ) (p : Point) → placed (upright (u +ℤ x) (v +ℤ y)) p ≡ placed (upright x y) (placed (upright u v) p)
part_place u v x y p = same_point _ _ (omega (arith, ints)) (omega (arith, ints))

in_either : (even : Bool) (u v w x y : ℤ) (p : Point)
    → placed (cond even (upright (u +ℤ x) (v +ℤ y)) (mirrored_at (u +ℤ x) (w +ℤ y))) p ≡ placed (upright x y) (placed (cond even (upright u v) (mirrored_at u w)) p)
in_either true u v w x y p = same_point _ _ (omega (arith, ints)) (omega (arith, ints))
in_either false u v w x y p = same_point _ _ (omega (arith, ints)) (omega (arith, ints))

swapped : (y v h : ℤ) → (y +ℤ v) +ℤ h ≡ (y +ℤ h) +ℤ v
swapped y v h = omega (arith, ints)

-- the same of what stands in a row
pub row_place : (kit : LayoutKit) (r : ℕ) (u v x y : ℤ) (p : Point) → placed (in_row_at kit (v +ℤ y) r (u +ℤ x)) p ≡ placed (upright x y) (placed (in_row_at kit v r u) p)
row_place kit r u v x y p =
    (λ i. placed (cond (r % 2 == 0) (upright (u +ℤ x) (swapped v y (pos (r * bit_height kit)) i)) (mirrored_at (u +ℤ x) (swapped v y (pos ((r + 1) * bit_height kit)) i))) p)
    ∙ in_either (r % 2 == 0) u (v +ℤ pos (r * bit_height kit)) (v +ℤ pos ((r + 1) * bit_height kit)) x y p

slot_even : (u v : ℤ) (p : Point) → placed (upright u v) p ≡ placed (upright (pos 0) v) (placed (upright u (pos 0)) p)
slot_even u v p = same_point _ _ (omega (arith, ints)) (omega (arith, ints))

slot_odd : (u v : ℤ) (p : Point) → placed (mirrored_at u v) p ≡ placed (mirrored_at (pos 0) v) (placed (upright u (pos 0)) p)
slot_odd u v p = same_point _ _ (omega (arith, ints)) (omega (arith, ints))

slot_either : (even : Bool) (u v w : ℤ) (p : Point) → placed (cond even (upright u v) (mirrored_at u w)) p ≡ placed (cond even (upright (pos 0) v) (mirrored_at (pos 0) w)) (placed (upright u (pos 0)) p)
slot_either true u v w p = slot_even u v p
slot_either false u v w p = slot_odd u w p

-- what stands at u in a row
slot_place : (kit : LayoutKit) (r : ℕ) (u : ℤ) (p : Point) → placed (in_row_at kit (pos 0) r u) p ≡ placed (in_row_at kit (pos 0) r (pos 0)) (placed (upright u (pos 0)) p)
slot_place kit r u p = slot_either (r % 2 == 0) u (pos 0 +ℤ pos (r * bit_height kit)) (pos 0 +ℤ pos ((r + 1) * bit_height kit)) p

-- the array

site_beside : (plan : Organization) (kit : LayoutKit) (bits : BitCells) (n : List ℕ) (r : ℕ) (slot : Slot) → StandsBeside (item_of (row_at kit bits n r)) (slot_item plan kit bits r slot) (site_item plan kit bits (record { row = r; slot = slot }))
site_beside plan kit bits n r (BitSlot c) = record { nested = record { name = refl; some = λ e. absurd cc; place = slot_place kit r (slot_x plan kit (BitSlot c)) }; cell = refl }
site_beside plan kit bits n r GateSlot = record { nested = record { name = refl; some = λ e. absurd cc; place = slot_place kit r (slot_x plan kit GateSlot) }; cell = refl }
site_beside plan kit bits n r DriverSlot = record { nested = record { name = refl; some = λ e. absurd cc; place = slot_place kit r (slot_x plan kit DriverSlot) }; cell = refl }

-- each cell without wires and labels is, flat, what its instances take over
pub record AreBare {X : Type 0} (Takes : Item → (X → Type 0) → X → Type 0) (Flat : List ℕ → X → Type 0) (plan : Organization) (kit : LayoutKit) (bits : BitCells) (floorplan : Floorplan) (n : List ℕ) : Type 0 where
  pub row : (r : ℕ) → r < bank_rows plan → (y : X) → Flat (row_name bits n r) y ↔ IsTakenOver Takes Flat (row_cell plan kit bits n r).instances y
  pub array : (y : X) → Flat (array_cell_name n) y ↔ IsTakenOver Takes Flat (array_cell plan kit bits n).instances y
  pub pre : (y : X) → Flat (pre_cell_name n) y ↔ IsTakenOver Takes Flat (pre_cell plan kit n).instances y
  pub data_ : (y : X) → Flat (data_cell_name n) y ↔ IsTakenOver Takes Flat (data_cell plan kit floorplan n).instances y

pub sites_of_array : {X : Type 0} (Takes : Item → (X → Type 0) → X → Type 0) (Flat : List ℕ → X → Type 0) (plan : Organization) (kit : LayoutKit) (bits : BitCells) (floorplan : Floorplan) (n : List ℕ) → Opens Takes → Joins Takes → AreBare Takes Flat plan kit bits floorplan n
    → (x : X) → Flat (array_cell_name n) x → IsOf Takes Flat (IsSite plan) (site_item plan kit bits) x
sites_of_array Takes Flat plan kit bits floorplan n opens joins bare x h =
    let m = numbered_taken Takes Flat (row_at kit bits n) (bank_rows plan) x ((bare.array x).0 h) in
    let r = m.number in
    let outer = item_of (row_at kit bits n r) in
    let t = taken_as Takes (Flat (row_name bits n r)) (IsOf Takes Flat (IsSlot plan) (slot_item plan kit bits r)) outer opens (λ y f. slots_of_row Takes Flat plan kit bits n r y ((bare.row r m.below y).0 f)) x m.taken in
    let l = out_of_part Takes Flat (IsSlot plan) (slot_item plan kit bits r) (λ slot. site_item plan kit bits (record { row = r; slot = slot })) outer opens joins (λ slot is. site_beside plan kit bits n r slot) x t in
    record { index = record { row = r; slot = l.index }; is = record { row = m.below; slot = l.is }; taken = l.taken }

pub array_of_sites : {X : Type 0} (Takes : Item → (X → Type 0) → X → Type 0) (Flat : List ℕ → X → Type 0) (plan : Organization) (kit : LayoutKit) (bits : BitCells) (floorplan : Floorplan) (n : List ℕ) → Opens Takes → Splits Takes → AreBare Takes Flat plan kit bits floorplan n
    → (x : X) → IsOf Takes Flat (IsSite plan) (site_item plan kit bits) x → Flat (array_cell_name n) x
array_of_sites Takes Flat plan kit bits floorplan n opens splits bare x l =
    let r = l.index.row in
    let outer = item_of (row_at kit bits n r) in
    let of_row : IsOf Takes Flat (IsSlot plan) (λ slot. site_item plan kit bits (record { row = r; slot = slot })) x = record { index = l.index.slot; is = l.is.slot; taken = l.taken } in
    let t = into_part Takes Flat (IsSlot plan) (slot_item plan kit bits r) (λ slot. site_item plan kit bits (record { row = r; slot = slot })) outer opens splits (λ slot is. site_beside plan kit bits n r slot) x of_row in
    let s = taken_as Takes (IsOf Takes Flat (IsSlot plan) (slot_item plan kit bits r)) (Flat (row_name bits n r)) outer opens (λ y f. (bare.row r l.is.row y).1 (row_of_slot Takes Flat plan kit bits n r y f.index f.is f.taken)) x t in
    (bare.array x).1 (taken_numbered Takes Flat (row_at kit bits n) (bank_rows plan) r x l.is.row s)

-- parts in the bank

pub site_some : (plan : Organization) (kit : LayoutKit) (bits : BitCells) (site : Site) → (site_item plan kit bits site).name ≡ [] → ⊥
site_some plan kit bits site = slot_some site.slot
  where
    slot_some : (slot : Slot) → (site_item plan kit bits (record { row = site.row; slot = slot })).name ≡ [] → ⊥
    slot_some (BitSlot c) e = absurd cc
    slot_some GateSlot e = absurd cc
    slot_some DriverSlot e = absurd cc

pub array_beside : (plan : Organization) (kit : LayoutKit) (bits : BitCells) (floorplan : Floorplan) (n : List ℕ) (site : Site) → StandsBeside (item_of (array_at floorplan n)) (site_item plan kit bits site) (spot_item plan kit bits floorplan (ArraySpot site))
array_beside plan kit bits floorplan n site = record {
  nested = record { name = refl; some = site_some plan kit bits site; place = row_place kit site.row (slot_x plan kit site.slot) (pos 0) floorplan.row_x (floorplan.array_y -ℤ floorplan.write_y) };
  cell = refl;
}

leaf_beside : (plan : Organization) (kit : LayoutKit) (part of : List ℕ) (x y u v : ℤ) (leaf : LeafInstance) → (lowered (leaf_name plan leaf) ≡ [] → ⊥)
    → StandsBeside (item_of (part_at part of x y)) (item_of (leaf_in_cell plan kit leaf u v)) (item_in_part (lowered part) x y (leaf_in_cell plan kit leaf u v))
leaf_beside plan kit part of x y u v leaf some = record { nested = record { name = refl; some = some; place = part_place u v x y }; cell = refl }

pub column_some : (plan : Organization) (m b c : ℕ) → lowered (leaf_name plan (column_leaf m b c)) ≡ [] → ⊥
column_some plan zero b c e = absurd cc
column_some plan (suc m) b c e = absurd cc

abbrev pub Numbers : ℕ → ℕ → Type 0
Numbers n k = k < n

-- one of the leaves of a part that are numbered
pub numbered_leaf : {X : Type 0} (Takes : Item → (X → Type 0) → X → Type 0) (Flat : List ℕ → X → Type 0) (f : ℕ → PlacedInstance) (n : ℕ) (x : X) → IsTakenOver Takes Flat (tabulate n f) x → IsOf Takes Flat (Numbers n) (λ k. item_of (f k)) x
numbered_leaf Takes Flat f n x t = let m = numbered_taken Takes Flat f n x t in record { index = m.number; is = m.below; taken = m.taken }

pub leaf_numbered : {X : Type 0} (Takes : Item → (X → Type 0) → X → Type 0) (Flat : List ℕ → X → Type 0) (f : ℕ → PlacedInstance) (n : ℕ) (x : X) → IsOf Takes Flat (Numbers n) (λ k. item_of (f k)) x → IsTakenOver Takes Flat (tabulate n f) x
leaf_numbered Takes Flat f n x l = taken_numbered Takes Flat f n l.index x l.is l.taken

-- the leaves of the data
abbrev pub IsDataLeaf : {X : Type 0} → (Item → (X → Type 0) → X → Type 0) → (List ℕ → X → Type 0) → Organization → LayoutKit → Floorplan → X → Type 0
IsDataLeaf Takes Flat plan kit floorplan x =
    IsOf Takes Flat (Numbers (inputs_of plan)) (λ k. item_of (write_at plan kit k)) x
    ⊎ (IsOf Takes Flat (Numbers plan.word_size) (λ k. item_of (sense_at plan kit floorplan k)) x ⊎ IsOf Takes Flat (Numbers (columns_of plan)) (λ k. item_of (column_at plan kit floorplan k)) x)

pub data_leaf : {X : Type 0} (Takes : Item → (X → Type 0) → X → Type 0) (Flat : List ℕ → X → Type 0) (plan : Organization) (kit : LayoutKit) (floorplan : Floorplan) (n : List ℕ) (x : X) → IsTakenOver Takes Flat (data_cell plan kit floorplan n).instances x → IsDataLeaf Takes Flat plan kit floorplan x
data_leaf Takes Flat plan kit floorplan n x t =
    let writes = tabulate (inputs_of plan) (write_at plan kit) in
    let senses = tabulate plan.word_size (sense_at plan kit floorplan) in
    let columns = tabulate (columns_of plan) (column_at plan kit floorplan) in
    elim (taken_parts Takes Flat writes (senses ++ columns) x t) [
      | inl w ↦ inl (numbered_leaf Takes Flat (write_at plan kit) (inputs_of plan) x w)
      | inr others ↦ elim (taken_parts Takes Flat senses columns x others) [
        | inl s ↦ inr (inl (numbered_leaf Takes Flat (sense_at plan kit floorplan) plan.word_size x s))
        | inr c ↦ inr (inr (numbered_leaf Takes Flat (column_at plan kit floorplan) (columns_of plan) x c))
      ]
    ]

pub leaf_data : {X : Type 0} (Takes : Item → (X → Type 0) → X → Type 0) (Flat : List ℕ → X → Type 0) (plan : Organization) (kit : LayoutKit) (floorplan : Floorplan) (n : List ℕ) (x : X) → IsDataLeaf Takes Flat plan kit floorplan x → IsTakenOver Takes Flat (data_cell plan kit floorplan n).instances x
leaf_data Takes Flat plan kit floorplan n x l =
    let writes = tabulate (inputs_of plan) (write_at plan kit) in
    let senses = tabulate plan.word_size (sense_at plan kit floorplan) in
    let columns = tabulate (columns_of plan) (column_at plan kit floorplan) in
    elim l [
      | inl w ↦ taken_left Takes Flat writes (senses ++ columns) x (leaf_numbered Takes Flat (write_at plan kit) (inputs_of plan) x w)
      | inr (inl s) ↦ taken_right Takes Flat writes (senses ++ columns) x (taken_left Takes Flat senses columns x (leaf_numbered Takes Flat (sense_at plan kit floorplan) plan.word_size x s))
      | inr (inr c) ↦ taken_right Takes Flat writes (senses ++ columns) x (taken_right Takes Flat senses columns x (leaf_numbered Takes Flat (column_at plan kit floorplan) (columns_of plan) x c))
    ]

pub pre_beside : (plan : Organization) (kit : LayoutKit) (bits : BitCells) (floorplan : Floorplan) (n : List ℕ) (c : ℕ) → StandsBeside (item_of (pre_at plan kit floorplan n)) (item_of (precharge_at plan kit c)) (spot_item plan kit bits floorplan (PrechargeSpot c))
pre_beside plan kit bits floorplan n c = leaf_beside plan kit (codes "xpre") _ _ _ _ _ (PrechargeAt 0 c) (λ e. absurd cc)

pub write_beside : (plan : Organization) (kit : LayoutKit) (bits : BitCells) (floorplan : Floorplan) (n : List ℕ) (i : ℕ) → StandsBeside (item_of (data_at plan kit floorplan n)) (item_of (write_at plan kit i)) (spot_item plan kit bits floorplan (WriteSpot i))
write_beside plan kit bits floorplan n i = leaf_beside plan kit (codes "xdata") _ _ _ _ _ (WriteAt 0 i) (λ e. absurd cc)

pub sense_beside : (plan : Organization) (kit : LayoutKit) (bits : BitCells) (floorplan : Floorplan) (n : List ℕ) (i : ℕ) → StandsBeside (item_of (data_at plan kit floorplan n)) (item_of (sense_at plan kit floorplan i)) (spot_item plan kit bits floorplan (SenseSpot i))
sense_beside plan kit bits floorplan n i = leaf_beside plan kit (codes "xdata") _ _ _ _ _ (SenseAt 0 i) (λ e. absurd cc)

pub column_beside : (plan : Organization) (kit : LayoutKit) (bits : BitCells) (floorplan : Floorplan) (n : List ℕ) (c : ℕ) → StandsBeside (item_of (data_at plan kit floorplan n)) (item_of (column_at plan kit floorplan c)) (spot_item plan kit bits floorplan (ColumnSpot c))
column_beside plan kit bits floorplan n c = leaf_beside plan kit (codes "xdata") _ _ _ _ _ (column_leaf plan.col_bits 0 c) (column_some plan plan.col_bits 0 c)
