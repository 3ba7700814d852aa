-- The data of a bank: its cells lie near the origin, and its heights are the same in each floorplan.
use Rattle.std.proofs.Common.{◌≡◌, ℕ, zero, suc, ◌+◌, ◌*◌, ◌<◌, ◌≤◌, ℤ, pos, ◌+ℤ◌, List, [], ◌∷◌, ◌++◌, map, refl, arith}
use Rattle.std.specs.Prelude.{◌-ℤ◌}
use Rattle.std.specs.List.{AllByRecursion}
use Rattle.std.proofs.lemmas.Int.{ints}
use Rattle.std.proofs.lemmas.Nat.{mul-le}
use Rattle.or_geom.specs.Distance.{IsNear}
use Rattle.or_geom.specs.Place.{IsNearPoint}
use Rattle.cell_builder.specs.declared.cell.PlacedInstance.{PlacedInstance}
use Rattle.tech_rules.specs.declared.tech.Wire.{Wire}
use Rattle.sram_netlist.specs.Organization.{Organization, inputs_of, columns_of, words_per_row}
use Rattle.sram_netlist.specs.InstanceList.{numbers_from, tabulate}
use Rattle.sram_netlist.proofs.Bounds.{written_fits}
use Rattle.macro_layout.specs.LayoutKit.{LayoutKit}
use Rattle.macro_layout.specs.Places.{Floorplan, bit_width}
use Rattle.macro_layout.specs.Floorplan.{IsFloorplan}
use Rattle.macro_layout.specs.Cells.{data_cell, slice_x, write_at, sense_at, column_at}

all_numbers : (P : ℕ → Type 0) (k n : ℕ) → ((j : ℕ) → j < k + n → P j) → AllByRecursion P (numbers_from k n)
all_numbers P k zero h = tt
all_numbers P k (suc n) h = (h k (omega arith), all_numbers P (suc k) n (λ j lt. h j (omega (arith, lt))))

all_mapped : {X Y : Type 0} (P : Y → Type 0) (f : X → Y) (xs : List X) → AllByRecursion (λ (x : X). P (f x)) xs → AllByRecursion P (map f xs)
all_mapped P f [] all = tt
all_mapped P f (x ∷ xs) all = (all.0, all_mapped P f xs all.1)

all_made : {X : Type 0} (P : X → Type 0) (n : ℕ) (f : ℕ → X) → ((j : ℕ) → j < n → P (f j)) → AllByRecursion P (tabulate n f)
all_made P n f h = all_mapped P f (numbers_from 0 n) (all_numbers (λ j. P (f j)) 0 n (λ j lt. h j (omega (arith, lt))))

all_of_both : {X : Type 0} (P : X → Type 0) (xs ys : List X) → AllByRecursion P xs → AllByRecursion P ys → AllByRecursion P (xs ++ ys)
all_of_both P [] ys first second = second
all_of_both P (x ∷ xs) ys first second = (first.0, all_of_both P xs ys first.1 second)

-- so many columns are at most 2^24 wide
pub few_wide : (a w : ℕ) → a ≤ 256 → w ≤ 65536 → a * w ≤ 16777216
few_wide a w few narrow = let most : a * w ≤ 256 * 65536 = mul-le a w 256 65536 few narrow in omega (arith, most)

slice_few : (plan : Organization) (i : ℕ) → i < plan.word_size → columns_of plan ≤ 256 → i * words_per_row plan ≤ 256
slice_few plan i lt few =
    let before : i * words_per_row plan ≤ columns_of plan = mul-le i (words_per_row plan) plan.word_size (words_per_row plan) (omega (arith, lt)) (omega arith) in
    omega (arith, before, few)

near_x : (x : ℕ) → x ≤ 16777216 → IsNear (pos x)
near_x x few = record { above = omega (arith, ints); below = omega (arith, ints, few) }

-- all cells lie near
pub data_near : (plan : Organization) (kit : LayoutKit) (fl : Floorplan) (n : List ℕ) → columns_of plan ≤ 256 → bit_width kit ≤ 65536 → IsNear (fl.sense_y -ℤ fl.write_y) → IsNear (fl.column_y -ℤ fl.write_y)
    → AllByRecursion (λ (i : PlacedInstance). IsNearPoint i.place.at) (data_cell plan kit fl n).instances
data_near plan kit fl n few narrow sense column =
    let P : PlacedInstance → Type 0 = λ i. IsNearPoint i.place.at in
    all_of_both P (tabulate (inputs_of plan) (write_at plan kit)) _
    (all_made P (inputs_of plan) (write_at plan kit) (λ i lt. record { x = near_x (slice_x plan kit i) (few_wide _ _ (slice_few plan i (written_fits plan.write_size plan.word_size i lt) few) narrow); y = near_x 0 (omega arith) }))
    (all_of_both P (tabulate plan.word_size (sense_at plan kit fl)) _
    (all_made P plan.word_size (sense_at plan kit fl) (λ i lt. record { x = near_x (slice_x plan kit i) (few_wide _ _ (slice_few plan i lt few) narrow); y = sense }))
    (all_made P (columns_of plan) (column_at plan kit fl) (λ c lt. record { x = near_x (c * bit_width kit) (few_wide _ _ (omega (arith, lt, few)) narrow); y = column })))

-- the heights above the write cells are the same in both
pub record HaveSameHeights (f g : Floorplan) : Type 0 where
  pub sense : f.sense_y -ℤ f.write_y ≡ g.sense_y -ℤ g.write_y
  pub column : f.column_y -ℤ f.write_y ≡ g.column_y -ℤ g.write_y
  pub array : f.array_y -ℤ f.write_y ≡ g.array_y -ℤ g.write_y

one_step : (a w b v h : ℤ) → a ≡ w +ℤ h → b ≡ v +ℤ h → a -ℤ w ≡ b -ℤ v
one_step a w b v h first second = omega (arith, ints, first, second)

further : (a b w x y v h : ℤ) → a -ℤ w ≡ x -ℤ v → b ≡ a +ℤ h → y ≡ x +ℤ h → b -ℤ w ≡ y -ℤ v
further a b w x y v h before first second = omega (arith, ints, before, first, second)

pub same_heights : (plan : Organization) (kit : LayoutKit) (wire : Wire) (tracks m k : ℕ) (f g : Floorplan) → IsFloorplan plan kit wire (record { main = m; column = tracks }) f → IsFloorplan plan kit wire (record { main = k; column = tracks }) g → HaveSameHeights f g
same_heights plan kit wire tracks m k f g on at =
    let sense = one_step f.sense_y f.write_y g.sense_y g.write_y _ on.sense_y at.sense_y in
    let channel = further f.sense_y _ f.write_y g.sense_y _ g.write_y _ sense refl refl in
    let column = further _ f.column_y f.write_y _ g.column_y g.write_y _ channel on.column_y at.column_y in
    record { sense = sense; column = column; array = further f.column_y f.array_y f.write_y g.column_y g.array_y g.write_y _ column on.array_y at.array_y }
