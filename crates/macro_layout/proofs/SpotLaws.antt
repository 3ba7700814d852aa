-- What a bank takes over: its spots.
use Rattle.std.proofs.Common.{inl, inr, ℕ, List, [], ◌∷◌}
use Rattle.or_geom.specs.declared.shape.Shape.{Shape}
use Rattle.cell_chains.specs.Instances.{Item}
use Rattle.cell_builder.specs.Flat.{item_of, IsTakenOver}
use Rattle.sram_netlist.specs.Organization.{Organization, inputs_of, columns_of}
use Rattle.sram_netlist.specs.BitCells.{BitCells}
use Rattle.macro_layout.specs.LayoutKit.{LayoutKit}
use Rattle.macro_layout.specs.Places.{Floorplan}
use Rattle.macro_layout.specs.Cells.{array_cell_name, pre_cell_name, data_cell_name, bank_cell, precharge_at, write_at, sense_at, column_at, array_at, pre_at, data_at}
use Rattle.macro_layout.proofs.TakenLaws.{Opens, Joins, Splits, TakesIn, taken_none, taken_first, taken_later, taken_cases, IsOf, out_of_part, into_part, taken_as}
use Rattle.macro_layout.proofs.Parts.{IsSite, site_item, Spot, ArraySpot, PrechargeSpot, WriteSpot, SenseSpot, ColumnSpot, IsSpot, spot_item}
use Rattle.macro_layout.proofs.BankLaws.{AreBare, sites_of_array, array_of_sites, array_beside, Numbers, numbered_leaf, leaf_numbered, IsDataLeaf, data_leaf, leaf_data, pre_beside, write_beside, sense_beside, column_beside}

-- out of each part

spots_of_array : {X : Type 0} (Takes : Item → (X → Type 0) → X → Type 0) (Flat : List ℕ → X → Type 0) (plan : Organization) (kit : LayoutKit) (bits : BitCells) (floorplan : Floorplan) (n : List ℕ) → Opens Takes → Joins Takes → AreBare Takes Flat plan kit bits floorplan n
    → (x : X) → TakesIn Takes Flat x (array_at floorplan n) → IsOf Takes Flat (IsSpot plan) (spot_item plan kit bits floorplan) x
spots_of_array Takes Flat plan kit bits floorplan n opens joins bare x t =
    let outer = item_of (array_at floorplan n) in
    let sites = taken_as Takes (Flat (array_cell_name n)) (IsOf Takes Flat (IsSite plan) (site_item plan kit bits)) outer opens (sites_of_array Takes Flat plan kit bits floorplan n opens joins bare) x t in
    let l = out_of_part Takes Flat (IsSite plan) (site_item plan kit bits) (λ site. spot_item plan kit bits floorplan (ArraySpot site)) outer opens joins (λ site is. array_beside plan kit bits floorplan n site) x sites in
    record { index = ArraySpot l.index; is = l.is; taken = l.taken }

spots_of_pre : {X : Type 0} (Takes : Item → (X → Type 0) → X → Type 0) (Flat : List ℕ → X → Type 0) (plan : Organization) (kit : LayoutKit) (bits : BitCells) (floorplan : Floorplan) (n : List ℕ) → Opens Takes → Joins Takes → AreBare Takes Flat plan kit bits floorplan n
    → (x : X) → TakesIn Takes Flat x (pre_at plan kit floorplan n) → IsOf Takes Flat (IsSpot plan) (spot_item plan kit bits floorplan) x
spots_of_pre Takes Flat plan kit bits floorplan n opens joins bare x t =
    let outer = item_of (pre_at plan kit floorplan n) in
    let inner : ℕ → Item = λ c. item_of (precharge_at plan kit c) in
    let leaves = taken_as Takes (Flat (pre_cell_name n)) (IsOf Takes Flat (Numbers (columns_of plan)) inner) outer opens (λ y f. numbered_leaf Takes Flat (precharge_at plan kit) (columns_of plan) y ((bare.pre y).0 f)) x t in
    let l = out_of_part Takes Flat (Numbers (columns_of plan)) inner (λ c. spot_item plan kit bits floorplan (PrechargeSpot c)) outer opens joins (λ c is. pre_beside plan kit bits floorplan n c) x leaves in
    record { index = PrechargeSpot l.index; is = l.is; taken = l.taken }

spots_of_data : {X : Type 0} (Takes : Item → (X → Type 0) → X → Type 0) (Flat : List ℕ → X → Type 0) (plan : Organization) (kit : LayoutKit) (bits : BitCells) (floorplan : Floorplan) (n : List ℕ) → Opens Takes → Joins Takes → AreBare Takes Flat plan kit bits floorplan n
    → (x : X) → TakesIn Takes Flat x (data_at plan kit floorplan n) → IsOf Takes Flat (IsSpot plan) (spot_item plan kit bits floorplan) x
spots_of_data Takes Flat plan kit bits floorplan n opens joins bare x t =
    let outer = item_of (data_at plan kit floorplan n) in
    let o = opens outer (Flat (data_cell_name n)) x t in
    elim (data_leaf Takes Flat plan kit floorplan n o.inner ((bare.data_ o.inner).0 o.has)) [
      | inl w ↦
          let inner : ℕ → Item = λ i. item_of (write_at plan kit i) in
          let l = out_of_part Takes Flat (Numbers (inputs_of plan)) inner (λ i. spot_item plan kit bits floorplan (WriteSpot i)) outer opens joins (λ i is. write_beside plan kit bits floorplan n i) x (o.again (IsOf Takes Flat (Numbers (inputs_of plan)) inner) w) in
          record { index = WriteSpot l.index; is = l.is; taken = l.taken }
      | inr (inl s) ↦
          let inner : ℕ → Item = λ i. item_of (sense_at plan kit floorplan i) in
          let l = out_of_part Takes Flat (Numbers plan.word_size) inner (λ i. spot_item plan kit bits floorplan (SenseSpot i)) outer opens joins (λ i is. sense_beside plan kit bits floorplan n i) x (o.again (IsOf Takes Flat (Numbers plan.word_size) inner) s) in
          record { index = SenseSpot l.index; is = l.is; taken = l.taken }
      | inr (inr c) ↦
          let inner : ℕ → Item = λ i. item_of (column_at plan kit floorplan i) in
          let l = out_of_part Takes Flat (Numbers (columns_of plan)) inner (λ i. spot_item plan kit bits floorplan (ColumnSpot i)) outer opens joins (λ i is. column_beside plan kit bits floorplan n i) x (o.again (IsOf Takes Flat (Numbers (columns_of plan)) inner) c) in
          record { index = ColumnSpot l.index; is = l.is; taken = l.taken }
    ]

pub spots_of_bank : {X : Type 0} (Takes : Item → (X → Type 0) → X → Type 0) (Flat : List ℕ → X → Type 0) (plan : Organization) (kit : LayoutKit) (bits : BitCells) (floorplan : Floorplan) (n : List ℕ) (wires : List Shape) → Opens Takes → Joins Takes → AreBare Takes Flat plan kit bits floorplan n
    → (x : X) → IsTakenOver Takes Flat (bank_cell plan kit floorplan n wires).instances x → IsOf Takes Flat (IsSpot plan) (spot_item plan kit bits floorplan) x
spots_of_bank Takes Flat plan kit bits floorplan n wires opens joins bare x t =
    elim (taken_cases Takes Flat (array_at floorplan n) (pre_at plan kit floorplan n ∷ data_at plan kit floorplan n ∷ []) x t) [
      | inl array ↦ spots_of_array Takes Flat plan kit bits floorplan n opens joins bare x array
      | inr others ↦ elim (taken_cases Takes Flat (pre_at plan kit floorplan n) (data_at plan kit floorplan n ∷ []) x others) [
        | inl pre ↦ spots_of_pre Takes Flat plan kit bits floorplan n opens joins bare x pre
        | inr last ↦ elim (taken_cases Takes Flat (data_at plan kit floorplan n) [] x last) [
          | inl data_ ↦ spots_of_data Takes Flat plan kit bits floorplan n opens joins bare x data_
          | inr none ↦ absurd (taken_none Takes Flat x none)
        ]
      ]
    ]

-- back into each part

leaf_of_pre : {X : Type 0} (Takes : Item → (X → Type 0) → X → Type 0) (Flat : List ℕ → X → Type 0) (plan : Organization) (kit : LayoutKit) (bits : BitCells) (floorplan : Floorplan) (n : List ℕ) → Opens Takes → Splits Takes → AreBare Takes Flat plan kit bits floorplan n
    → (x : X) → IsOf Takes Flat (Numbers (columns_of plan)) (λ c. spot_item plan kit bits floorplan (PrechargeSpot c)) x → TakesIn Takes Flat x (pre_at plan kit floorplan n)
leaf_of_pre Takes Flat plan kit bits floorplan n opens splits bare x l =
    let outer = item_of (pre_at plan kit floorplan n) in
    let inner : ℕ → Item = λ c. item_of (precharge_at plan kit c) in
    let t = into_part Takes Flat (Numbers (columns_of plan)) inner (λ c. spot_item plan kit bits floorplan (PrechargeSpot c)) outer opens splits (λ c is. pre_beside plan kit bits floorplan n c) x l in
    taken_as Takes (IsOf Takes Flat (Numbers (columns_of plan)) inner) (Flat (pre_cell_name n)) outer opens (λ y f. (bare.pre y).1 (leaf_numbered Takes Flat (precharge_at plan kit) (columns_of plan) y f)) x t

leaf_of_data : {X : Type 0} (Takes : Item → (X → Type 0) → X → Type 0) (Flat : List ℕ → X → Type 0) (plan : Organization) (kit : LayoutKit) (bits : BitCells) (floorplan : Floorplan) (n : List ℕ) → Opens Takes → AreBare Takes Flat plan kit bits floorplan n
    → (x : X) → Takes (item_of (data_at plan kit floorplan n)) (IsDataLeaf Takes Flat plan kit floorplan) x → TakesIn Takes Flat x (data_at plan kit floorplan n)
leaf_of_data Takes Flat plan kit bits floorplan n opens bare x t =
    taken_as Takes (IsDataLeaf Takes Flat plan kit floorplan) (Flat (data_cell_name n)) (item_of (data_at plan kit floorplan n)) opens (λ y f. (bare.data_ y).1 (leaf_data Takes Flat plan kit floorplan n y f)) x t

-- in the bank's list of parts

data_among : {X : Type 0} (Takes : Item → (X → Type 0) → X → Type 0) (Flat : List ℕ → X → Type 0) (plan : Organization) (kit : LayoutKit) (floorplan : Floorplan) (n : List ℕ) (wires : List Shape) (x : X) → TakesIn Takes Flat x (data_at plan kit floorplan n)
    → IsTakenOver Takes Flat (bank_cell plan kit floorplan n wires).instances x
data_among Takes Flat plan kit floorplan n wires x t =
    taken_later Takes Flat (array_at floorplan n) (pre_at plan kit floorplan n ∷ data_at plan kit floorplan n ∷ []) x
    (taken_later Takes Flat (pre_at plan kit floorplan n) (data_at plan kit floorplan n ∷ []) x (taken_first Takes Flat (data_at plan kit floorplan n) [] x t))

bank_of_spot : {X : Type 0} (Takes : Item → (X → Type 0) → X → Type 0) (Flat : List ℕ → X → Type 0) (plan : Organization) (kit : LayoutKit) (bits : BitCells) (floorplan : Floorplan) (n : List ℕ) (wires : List Shape) → Opens Takes → Splits Takes → AreBare Takes Flat plan kit bits floorplan n
    → (x : X) (spot : Spot) → IsSpot plan spot → Takes (spot_item plan kit bits floorplan spot) (Flat (spot_item plan kit bits floorplan spot).cell) x → IsTakenOver Takes Flat (bank_cell plan kit floorplan n wires).instances x
bank_of_spot Takes Flat plan kit bits floorplan n wires opens splits bare x (ArraySpot site) is t =
    let outer = item_of (array_at floorplan n) in
    let s = into_part Takes Flat (IsSite plan) (site_item plan kit bits) (λ site. spot_item plan kit bits floorplan (ArraySpot site)) outer opens splits (λ site is. array_beside plan kit bits floorplan n site) x (record { index = site; is = is; taken = t }) in
    taken_first Takes Flat (array_at floorplan n) (pre_at plan kit floorplan n ∷ data_at plan kit floorplan n ∷ []) x
    (taken_as Takes (IsOf Takes Flat (IsSite plan) (site_item plan kit bits)) (Flat (array_cell_name n)) outer opens (array_of_sites Takes Flat plan kit bits floorplan n opens splits bare) x s)
bank_of_spot Takes Flat plan kit bits floorplan n wires opens splits bare x (PrechargeSpot c) is t =
    taken_later Takes Flat (array_at floorplan n) (pre_at plan kit floorplan n ∷ data_at plan kit floorplan n ∷ []) x
    (taken_first Takes Flat (pre_at plan kit floorplan n) (data_at plan kit floorplan n ∷ []) x (leaf_of_pre Takes Flat plan kit bits floorplan n opens splits bare x (record { index = c; is = is; taken = t })))
bank_of_spot Takes Flat plan kit bits floorplan n wires opens splits bare x (WriteSpot i) is t =
    let outer = item_of (data_at plan kit floorplan n) in
    let inner : ℕ → Item = λ i. item_of (write_at plan kit i) in
    let s = into_part Takes Flat (Numbers (inputs_of plan)) inner (λ i. spot_item plan kit bits floorplan (WriteSpot i)) outer opens splits (λ i is. write_beside plan kit bits floorplan n i) x (record { index = i; is = is; taken = t }) in
    data_among Takes Flat plan kit floorplan n wires x (leaf_of_data Takes Flat plan kit bits floorplan n opens bare x (taken_as Takes (IsOf Takes Flat (Numbers (inputs_of plan)) inner) (IsDataLeaf Takes Flat plan kit floorplan) outer opens (λ y f. inl f) x s))
bank_of_spot Takes Flat plan kit bits floorplan n wires opens splits bare x (SenseSpot i) is t =
    let outer = item_of (data_at plan kit floorplan n) in
    let inner : ℕ → Item = λ i. item_of (sense_at plan kit floorplan i) in
    let s = into_part Takes Flat (Numbers plan.word_size) inner (λ i. spot_item plan kit bits floorplan (SenseSpot i)) outer opens splits (λ i is. sense_beside plan kit bits floorplan n i) x (record { index = i; is = is; taken = t }) in
    data_among Takes Flat plan kit floorplan n wires x (leaf_of_data Takes Flat plan kit bits floorplan n opens bare x (taken_as Takes (IsOf Takes Flat (Numbers plan.word_size) inner) (IsDataLeaf Takes Flat plan kit floorplan) outer opens (λ y f. inr (inl f)) x s))
bank_of_spot Takes Flat plan kit bits floorplan n wires opens splits bare x (ColumnSpot c) is t =
    let outer = item_of (data_at plan kit floorplan n) in
    let inner : ℕ → Item = λ i. item_of (column_at plan kit floorplan i) in
    let s = into_part Takes Flat (Numbers (columns_of plan)) inner (λ i. spot_item plan kit bits floorplan (ColumnSpot i)) outer opens splits (λ i is. column_beside plan kit bits floorplan n i) x (record { index = c; is = is; taken = t }) in
    data_among Takes Flat plan kit floorplan n wires x (leaf_of_data Takes Flat plan kit bits floorplan n opens bare x (taken_as Takes (IsOf Takes Flat (Numbers (columns_of plan)) inner) (IsDataLeaf Takes Flat plan kit floorplan) outer opens (λ y f. inr (inr f)) x s))

pub bank_of_spots : {X : Type 0} (Takes : Item → (X → Type 0) → X → Type 0) (Flat : List ℕ → X → Type 0) (plan : Organization) (kit : LayoutKit) (bits : BitCells) (floorplan : Floorplan) (n : List ℕ) (wires : List Shape) → Opens Takes → Splits Takes → AreBare Takes Flat plan kit bits floorplan n
    → (x : X) → IsOf Takes Flat (IsSpot plan) (spot_item plan kit bits floorplan) x → IsTakenOver Takes Flat (bank_cell plan kit floorplan n wires).instances x
bank_of_spots Takes Flat plan kit bits floorplan n wires opens splits bare x l = bank_of_spot Takes Flat plan kit bits floorplan n wires opens splits bare x l.index l.is l.taken
