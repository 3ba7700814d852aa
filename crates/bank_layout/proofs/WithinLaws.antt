-- The pins of leaf cells lie in their parts.
use Rattle.std.proofs.Common.{◌≡◌, ℕ, zero, suc, ◌+◌, ◌*◌, ◌<◌, ◌≤◌, ◌%◌, ◌==◌, ℤ, pos, negsuc, ◌+ℤ◌, ◌-ℤ◌, ◌≤ℤ◌, List, [], ◌∷◌, ◌++◌, map, Bool, true, false, cond, Option, Some, None, refl, ap, sym, subst, ◌∙◌, arith}
use Rattle.std.specs.Prelude.{slice_get, option_map}
use Rattle.std.specs.Int.{int_max, int_min}
use Rattle.std.specs.List.{AllByRecursion, flat_map}
use Rattle.std.proofs.lemmas.Int.{ints, clamps}
use Rattle.std.proofs.lemmas.Nat.{mul-le}
use Rattle.or_geom.specs.declared.place.Place.{Place}
use Rattle.cell_roles.specs.declared.role.Role.{Role}
use Rattle.cell_roles.specs.declared.role.Role.TheVariants.{Bitcell, Precharge, Sense, Write}
use Rattle.netlist.specs.declared.deck.Instance.{Instance}
use Rattle.cell_builder.specs.declared.cell.PlacedInstance.{PlacedInstance}
use Rattle.sram_netlist.specs.Organization.{Organization, inputs_of, bank_rows, columns_of, words_per_row}
use Rattle.sram_netlist.proofs.Bounds.{written_fits, some_written, written_all}
use Rattle.sram_netlist.specs.InstanceList.{numbers_from, tabulate, tabulate_lists}
use Rattle.sram_deck.specs.Deck.{row_bit, pre_instances, data_instances}
use Rattle.leaf_shapes.specs.Demands.{PinDemand, role_demands}
use Rattle.leaf_shapes.specs.declared.pins.LeafPin.{LeafPin}
use Rattle.leaf_tables.specs.declared.kit.Kit.{Kit}
use Rattle.leaf_tables.specs.declared.kit.Leaf.{Leaf}
use Rattle.leaf_tables.specs.Alignment.{leaf_in}
use Rattle.leaf_tables.specs.Kits.{IsKit}
use Rattle.port_lists.specs.Cells.{cell_in}
use Rattle.macro_layout.specs.LayoutKit.{LayoutKit}
use Rattle.macro_layout.specs.Places.{Floorplan, bit_width, bit_height, drive_width, in_row_at, upright, mirrored_at}
use Rattle.macro_layout.specs.Floorplan.{column_role, write_height}
use Rattle.macro_layout.specs.Cells.{slice_x, write_at, sense_at, column_at, precharge_at}
use Rattle.floorplan.specs.LeafSides.{side_of}
use Rattle.floorplan.specs.LayoutOfKit.{layout_kit}
use Rattle.leaf_tables.proofs.RoleLaws.{near_in_kit}
use Rattle.part_edges.specs.PartPins.{PartPin, placed_pin, side_pins, pins_of_leaf, edge_pins, part_pins, is_at_side, net_of}
use Rattle.cell_roles.specs.Roles.{role_ports}
use Rattle.part_edges.proofs.PinLaws.{upright_pin, pin_at}
use Rattle.bitcell_array.specs.ArrayPart.{stored, bit_pins, array_pins}
use Rattle.port_data.specs.DataPart.{data_pins}
use Rattle.bank_layout.specs.BankPart.{pre_pins}
use Rattle.bank_layout.proofs.PinLaws.{inside_leaf}

-- it begins between 0 and 2^25, and lies between these heights
pub record IsPinWithin (low high : ℤ) (pin : PartPin) : Type 0 where
  pub left : pos 0 ≤ℤ pin.left
  pub right : pin.left ≤ℤ pos 33554432
  pub from : low ≤ℤ pin.low
  pub to : pin.high ≤ℤ high

pub widen_pin : (a b c d : ℤ) (pin : PartPin) → c ≤ℤ a → b ≤ℤ d → IsPinWithin a b pin → IsPinWithin c d pin
widen_pin a b c d pin below above is =
    let from = is.from in
    let to = is.to in
    record { left = is.left; right = is.right; from = omega (arith, ints, from, below); to = omega (arith, ints, to, above) }

-- Lists

pub both_all : {X : Type 0} (P : X → Type 0) (xs ys : List X) → AllByRecursion P xs → AllByRecursion P ys → AllByRecursion P (xs ++ ys)
both_all P [] ys first second = second
both_all P (x ∷ xs) ys first second = (first.0, both_all P xs ys first.1 second)

pub numbers_all : (P : ℕ → Type 0) (k n : ℕ) → ((j : ℕ) → j < k + n → P j) → AllByRecursion P (numbers_from k n)
numbers_all P k zero h = tt
numbers_all P k (suc n) h = (h k (omega arith), numbers_all P (suc k) n (λ j lt. h j (omega (arith, lt))))

mapped_all : {X Y : Type 0} (P : Y → Type 0) (f : X → Y) (xs : List X) → AllByRecursion (λ (x : X). P (f x)) xs → AllByRecursion P (map f xs)
mapped_all P f [] all = tt
mapped_all P f (x ∷ xs) all = (all.0, mapped_all P f xs all.1)

pub made_all : {X : Type 0} (P : X → Type 0) (n : ℕ) (f : ℕ → X) → ((j : ℕ) → j < n → P (f j)) → AllByRecursion P (tabulate n f)
made_all P n f h = mapped_all P f (numbers_from 0 n) (numbers_all (λ j. P (f j)) 0 n (λ j lt. h j (omega (arith, lt))))

flat_all : {X Y : Type 0} (P : Y → Type 0) (f : X → List Y) (xs : List X) → AllByRecursion (λ (x : X). AllByRecursion P (f x)) xs → AllByRecursion P (flat_map f xs)
flat_all P f [] all = tt
flat_all P f (x ∷ xs) all = both_all P (f x) (flat_map f xs) all.0 (flat_all P f xs all.1)

lists_all : {X : Type 0} (P : X → Type 0) (n : ℕ) (f : ℕ → List X) → ((j : ℕ) → j < n → AllByRecursion P (f j)) → AllByRecursion P (tabulate_lists n f)
lists_all P n f h = flat_all P f (numbers_from 0 n) (numbers_all (λ j. AllByRecursion P (f j)) 0 n (λ j lt. h j (omega (arith, lt))))

slice_all : {X : Type 0} (P : X → Type 0) (xs : List X) → ((k : ℕ) (x : X) → slice_get xs k ≡ Some x → P x) → AllByRecursion P xs
slice_all P [] each = tt
slice_all P (x ∷ xs) each = (each 0 x refl, slice_all P xs (λ k y at. each (suc k) y at))

-- two lists, place by place, as far as both go
abbrev AllOfTwo : {X Y : Type 0} → (X → Y → Type 0) → List X → List Y → Type 0
AllOfTwo Q [] ys = Unit {0}
AllOfTwo Q (x ∷ xs) [] = Unit {0}
AllOfTwo Q (x ∷ xs) (y ∷ ys) = Q x y × AllOfTwo Q xs ys

two_mapped : {X Y : Type 0} (Q : X → Y → Type 0) (f : ℕ → X) (g : ℕ → Y) (ks : List ℕ) (xs : List X) (ys : List Y) → AllByRecursion (λ (k : ℕ). Q (f k) (g k)) ks → AllOfTwo Q xs ys → AllOfTwo Q (map f ks ++ xs) (map g ks ++ ys)
two_mapped Q f g [] xs ys all rest = rest
two_mapped Q f g (k ∷ ks) xs ys all rest = (all.0, two_mapped Q f g ks xs ys all.1 rest)

two_last : {X Y : Type 0} (Q : X → Y → Type 0) (f : ℕ → X) (g : ℕ → Y) (ks : List ℕ) → AllByRecursion (λ (k : ℕ). Q (f k) (g k)) ks → AllOfTwo Q (map f ks) (map g ks)
two_last Q f g [] all = tt
two_last Q f g (k ∷ ks) all = (all.0, two_last Q f g ks all.1)

two_made : {X Y : Type 0} (Q : X → Y → Type 0) (n : ℕ) (f : ℕ → X) (g : ℕ → Y) (xs : List X) (ys : List Y) → ((k : ℕ) → k < n → Q (f k) (g k)) → AllOfTwo Q xs ys → AllOfTwo Q (tabulate n f ++ xs) (tabulate n g ++ ys)
two_made Q n f g xs ys each rest = two_mapped Q f g (numbers_from 0 n) xs ys (numbers_all (λ k. Q (f k) (g k)) 0 n (λ k lt. each k (omega (arith, lt)))) rest

two_made_last : {X Y : Type 0} (Q : X → Y → Type 0) (n : ℕ) (f : ℕ → X) (g : ℕ → Y) → ((k : ℕ) → k < n → Q (f k) (g k)) → AllOfTwo Q (tabulate n f) (tabulate n g)
two_made_last Q n f g each = two_last Q f g (numbers_from 0 n) (numbers_all (λ k. Q (f k) (g k)) 0 n (λ k lt. each k (omega (arith, lt))))

-- Pins of leaf cells

sides_all : (P : PartPin → Type 0) (role : Role) (nets : List (List ℕ)) (place : Place) (ds : List PinDemand) (ps : List LeafPin) → AllByRecursion (λ (p : LeafPin). (net : List ℕ) → P (placed_pin net place p.rect)) ps → AllByRecursion P (side_pins role nets place ds ps)
sides_all P role nets place [] ps all = tt
sides_all P role nets place (d ∷ ds) [] all = tt
sides_all P role nets place (d ∷ ds) (p ∷ ps) all = by (is_at_side d.fit) (sides_all P role nets place ds ps all.1) where
  by : (t : Bool) → AllByRecursion P (side_pins role nets place ds ps) → AllByRecursion P (cond t (placed_pin (net_of (role_ports role) nets d.pin) place p.rect ∷ side_pins role nets place ds ps) (side_pins role nets place ds ps))
  by true rest = (all.0 (net_of (role_ports role) nets d.pin), rest)
  by false rest = rest

-- what holds of each shape of the leaf's pins at the place
abbrev pub HoldsAt : Kit → Role → Place → (PartPin → Type 0) → Type 0
HoldsAt kit role place P = (leaf : Leaf) (k : ℕ) (pin : LeafPin) (net : List ℕ) → leaf_in kit.leaves role ≡ Some leaf → slice_get leaf.pins k ≡ Some pin → P (placed_pin net place pin.rect)

leaf_all : (kit : Kit) (role : Role) (nets : List (List ℕ)) (place : Place) (P : PartPin → Type 0) → HoldsAt kit role place P → AllByRecursion P (edge_pins kit.leaves role nets place)
leaf_all kit role nets place P each = by (leaf_in kit.leaves role) refl where
  by : (found : Option Leaf) → leaf_in kit.leaves role ≡ found → AllByRecursion P (side_pins role nets place (role_demands role) (pins_of_leaf found))
  by None is = sides_all P role nets place (role_demands role) [] tt
  by (Some leaf) is = sides_all P role nets place (role_demands role) leaf.pins (slice_all (λ (p : LeafPin). (net : List ℕ) → P (placed_pin net place p.rect)) leaf.pins (λ k pin at net. each leaf k pin net is at))

abbrev HoldsIn : Kit → (PartPin → Type 0) → Role → PlacedInstance → Type 0
HoldsIn kit P role i = HoldsAt kit role i.place P

part_all : (kit : Kit) (P : PartPin → Type 0) (roles : List Role) (instances : List Instance) (placed : List PlacedInstance) → AllOfTwo (HoldsIn kit P) roles placed → AllByRecursion P (part_pins kit.leaves roles instances placed)
part_all kit P [] instances placed all = tt
part_all kit P (r ∷ rs) [] placed all = tt
part_all kit P (r ∷ rs) (i ∷ is) [] all = tt
part_all kit P (r ∷ rs) (i ∷ is) (p ∷ ps) all = both_all P (edge_pins kit.leaves r i.nodes p.place) (part_pins kit.leaves rs is ps) (leaf_all kit r i.nodes p.place P all.0) (part_all kit P rs is ps all.1)

-- Heights

height_number : (z : ℤ) → pos 0 ≤ℤ z → z ≡ pos (side_of (Some z))
height_number (pos n) above = refl
height_number (negsuc n) above = absurd (omega (arith, ints, above))

pub high_as : (kit : Kit) (role : Role) (leaf : Leaf) → IsKit kit → leaf_in kit.leaves role ≡ Some leaf → leaf.height ≡ pos ((layout_kit kit).height role)
high_as kit role leaf is there =
    height_number leaf.height (near_in_kit kit role leaf is there).height.above
    ∙ ap (λ (found : Option Leaf). pos (side_of (option_map (λ (l : Leaf). l.height) found))) (sym there)

-- a cell that stands upright
upright_within : (kit : Kit) (role : Role) (x : ℕ) (y : ℤ) → IsKit kit → x ≤ 16908288 → HoldsAt kit role (upright (pos x) y) (IsPinWithin y (y +ℤ pos ((layout_kit kit).height role)))
upright_within kit role x y is far leaf k pin net there at =
    let inside = inside_leaf kit role leaf k pin is there at in
    let left = inside.left in
    let right = inside.right in
    let low = inside.low in
    let high = inside.high in
    let narrow = inside.narrow in
    let wide = pin.rect.wide in
    let h = high_as kit role leaf is there in
    subst (IsPinWithin y (y +ℤ pos ((layout_kit kit).height role))) (sym (upright_pin net (pos x) y pin.rect)) (record {
      left = omega (arith, ints, left);
      right = omega (arith, ints, far, right, narrow, wide);
      from = omega (arith, ints, low);
      to = omega (arith, ints, high, h);
    })

-- a cell that is mirrored
mirrored_within : (kit : Kit) (role : Role) (x : ℕ) (y : ℤ) → IsKit kit → x ≤ 16908288 → HoldsAt kit role (mirrored_at (pos x) y) (IsPinWithin (y -ℤ pos ((layout_kit kit).height role)) y)
mirrored_within kit role x y is far leaf k pin net there at =
    let inside = inside_leaf kit role leaf k pin is there at in
    let left = inside.left in
    let right = inside.right in
    let low = inside.low in
    let high = inside.high in
    let narrow = inside.narrow in
    let r = pin.rect in
    let wide = r.wide in
    let tall = r.tall in
    let h = high_as kit role leaf is there in
    let x1 : int_min (r.x1 +ℤ pos x) (r.x2 +ℤ pos x) ≡ pos x +ℤ r.x1 = omega (arith, ints, clamps, wide) in
    let y1 : int_min ((pos 0 -ℤ r.y1) +ℤ y) ((pos 0 -ℤ r.y2) +ℤ y) ≡ y -ℤ r.y2 = omega (arith, ints, clamps, tall) in
    let y2 : int_max ((pos 0 -ℤ r.y1) +ℤ y) ((pos 0 -ℤ r.y2) +ℤ y) ≡ y -ℤ r.y1 = omega (arith, ints, clamps, tall) in
    let same : placed_pin net (mirrored_at (pos x) y) r ≡ pin_at net (pos x +ℤ r.x1) (y -ℤ r.y2) (y -ℤ r.y1) = (λ i. pin_at net (x1 i) (y1 i) (y2 i)) in
    subst (IsPinWithin (y -ℤ pos ((layout_kit kit).height role)) y) (sym same) (record {
      left = omega (arith, ints, left);
      right = omega (arith, ints, far, right, narrow, wide);
      from = omega (arith, ints, high, h);
      to = omega (arith, ints, low);
    })

-- within greater heights
upright_in : (kit : Kit) (role : Role) (x : ℕ) (y low high : ℤ) → IsKit kit → x ≤ 16908288 → low ≤ℤ y → (y +ℤ pos ((layout_kit kit).height role)) ≤ℤ high → HoldsAt kit role (upright (pos x) y) (IsPinWithin low high)
upright_in kit role x y low high is far below above leaf k pin net there at =
    widen_pin y (y +ℤ pos ((layout_kit kit).height role)) low high (placed_pin net (upright (pos x) y) pin.rect) below above (upright_within kit role x y is far leaf k pin net there at)

mirrored_in : (kit : Kit) (role : Role) (x : ℕ) (y low high : ℤ) → IsKit kit → x ≤ 16908288 → low ≤ℤ (y -ℤ pos ((layout_kit kit).height role)) → y ≤ℤ high → HoldsAt kit role (mirrored_at (pos x) y) (IsPinWithin low high)
mirrored_in kit role x y low high is far below above leaf k pin net there at =
    widen_pin (y -ℤ pos ((layout_kit kit).height role)) y low high (placed_pin net (mirrored_at (pos x) y) pin.rect) below above (mirrored_within kit role x y is far leaf k pin net there at)

-- Columns and slices

few_wide : (a n w : ℕ) → a ≤ n → n ≤ 256 → w ≤ 65536 → a * w ≤ 16777216
few_wide a n w le few narrow = let most : a * w ≤ 256 * 65536 = mul-le a w 256 65536 (omega (arith, le, few)) narrow in omega (arith, most)

slice_few : (plan : Organization) (i : ℕ) → i < plan.word_size → columns_of plan ≤ 256 → i * words_per_row plan ≤ 256
slice_few plan i lt few =
    let before : i * words_per_row plan ≤ columns_of plan = mul-le i (words_per_row plan) plan.word_size (words_per_row plan) (omega (arith, lt)) (omega arith) in
    omega (arith, before, few)

-- a kit and a plan whose columns are few and narrow
pub record AreNarrow (kit : Kit) (plan : Organization) : Type 0 where
  pub is : IsKit kit
  pub few : columns_of plan ≤ 256
  pub narrow : bit_width (layout_kit kit) ≤ 65536
  pub drive : drive_width plan (layout_kit kit) ≤ 131072

-- the pins of the precharge cells
pub pre_within : (kit : Kit) (plan : Organization) (n : List ℕ) → AreNarrow kit plan → AllByRecursion (IsPinWithin (pos 0) (pos ((layout_kit kit).height Precharge))) (pre_pins kit plan n)
pre_within kit plan n s =
    let P = IsPinWithin (pos 0) (pos ((layout_kit kit).height Precharge)) in
    part_all kit P (tabulate (columns_of plan) (λ c. Precharge)) (pre_instances plan (cell_in kit.tech.roles)) (tabulate (columns_of plan) (precharge_at plan (layout_kit kit)))
    (two_made_last (HoldsIn kit P) (columns_of plan) (λ c. Precharge) (precharge_at plan (layout_kit kit)) (λ c lt.
    let far = few_wide c 256 (bit_width (layout_kit kit)) (let few = s.few in omega (arith, lt, few)) (omega arith) s.narrow in
    upright_in kit Precharge (c * bit_width (layout_kit kit)) (pos 0) (pos 0) (pos ((layout_kit kit).height Precharge)) s.is (omega (arith, far)) (omega (arith, ints)) (omega (arith, ints))))

-- the heights of the data
pub record AreStacked (kit : LayoutKit) (plan : Organization) (fl : Floorplan) : Type 0 where
  pub write : pos (write_height plan kit) ≤ℤ (fl.sense_y -ℤ fl.write_y)
  pub sense : ((fl.sense_y -ℤ fl.write_y) +ℤ pos (kit.height Sense)) ≤ℤ (fl.column_y -ℤ fl.write_y)
  pub column : (fl.column_y -ℤ fl.write_y) +ℤ pos (kit.height (column_role plan.col_bits)) ≡ fl.array_y -ℤ fl.write_y

-- the pins of the data
pub data_within : (kit : Kit) (plan : Organization) (fl : Floorplan) (n : List ℕ) → AreNarrow kit plan → AreStacked (layout_kit kit) plan fl → AllByRecursion (IsPinWithin (pos 0) (fl.array_y -ℤ fl.write_y)) (data_pins kit plan fl n)
data_within kit plan fl n s h =
    part_all kit P (tabulate (inputs_of plan) (λ i. Write) ++ (tabulate plan.word_size (λ i. Sense) ++ tabulate (columns_of plan) (λ c. column_role plan.col_bits))) (data_instances plan (cell_in kit.tech.roles))
    (tabulate (inputs_of plan) (write_at plan lk) ++ (tabulate plan.word_size (sense_at plan lk fl) ++ tabulate (columns_of plan) (column_at plan lk fl)))
    (two_made (HoldsIn kit P) (inputs_of plan) (λ i. Write) (write_at plan lk) _ _ writes
    (two_made (HoldsIn kit P) plan.word_size (λ i. Sense) (sense_at plan lk fl) _ _ senses
    (two_made_last (HoldsIn kit P) (columns_of plan) (λ c. column_role plan.col_bits) (column_at plan lk fl) columns))) where
      lk : LayoutKit
      lk = layout_kit kit

      P : PartPin → Type 0
      P = IsPinWithin (pos 0) (fl.array_y -ℤ fl.write_y)

      write_low : pos (write_height plan lk) ≤ℤ (fl.sense_y -ℤ fl.write_y)
      write_low = h.write

      sense_low : ((fl.sense_y -ℤ fl.write_y) +ℤ pos (lk.height Sense)) ≤ℤ (fl.column_y -ℤ fl.write_y)
      sense_low = h.sense

      column_low : (fl.column_y -ℤ fl.write_y) +ℤ pos (lk.height (column_role plan.col_bits)) ≡ fl.array_y -ℤ fl.write_y
      column_low = h.column

      writes : (i : ℕ) → i < inputs_of plan → HoldsIn kit P Write (write_at plan lk i)
      writes i lt =
          let far = few_wide (i * words_per_row plan) 256 (bit_width lk) (slice_few plan i (written_fits plan.write_size plan.word_size i lt) s.few) (omega arith) s.narrow in
          let high = written_all plan.write_size (lk.height Write) (some_written plan.write_size plan.word_size i lt) in
          upright_in kit Write (slice_x plan lk i) (pos 0) (pos 0) (fl.array_y -ℤ fl.write_y) s.is (omega (arith, far)) (omega (arith, ints)) (omega (arith, ints, write_low, high, sense_low, column_low))

      senses : (i : ℕ) → i < plan.word_size → HoldsIn kit P Sense (sense_at plan lk fl i)
      senses i lt =
          let far = few_wide (i * words_per_row plan) 256 (bit_width lk) (slice_few plan i lt s.few) (omega arith) s.narrow in
          upright_in kit Sense (slice_x plan lk i) (fl.sense_y -ℤ fl.write_y) (pos 0) (fl.array_y -ℤ fl.write_y) s.is (omega (arith, far)) (omega (arith, ints, write_low)) (omega (arith, ints, sense_low, column_low))

      columns : (c : ℕ) → c < columns_of plan → HoldsIn kit P (column_role plan.col_bits) (column_at plan lk fl c)
      columns c lt =
          let few = s.few in
          let far = few_wide c 256 (bit_width lk) (omega (arith, lt, few)) (omega arith) s.narrow in
          upright_in kit (column_role plan.col_bits) (c * bit_width lk) (fl.column_y -ℤ fl.write_y) (pos 0) (fl.array_y -ℤ fl.write_y) s.is (omega (arith, far)) (omega (arith, ints, write_low, sense_low)) (omega (arith, ints, column_low))

-- the pins of the array
pub array_within : (kit : Kit) (plan : Organization) → AreNarrow kit plan → AllByRecursion (IsPinWithin (pos 0) (pos (bank_rows plan * bit_height (layout_kit kit)))) (array_pins kit plan)
array_within kit plan s = lists_all P (bank_rows plan) (λ r. tabulate_lists (columns_of plan) (bit_pins kit plan r)) (λ r below. lists_all P (columns_of plan) (bit_pins kit plan r) (λ c lt. bits r c below lt)) where
  lk : LayoutKit
  lk = layout_kit kit

  high : ℕ
  high = bit_height lk

  P : PartPin → Type 0
  P = IsPinWithin (pos 0) (pos (bank_rows plan * bit_height lk))

  bits : (r c : ℕ) → r < bank_rows plan → c < columns_of plan → AllByRecursion P (bit_pins kit plan r c)
  bits r c below lt = leaf_all kit Bitcell (row_bit (stored (cell_in kit.tech.roles)) r c).nodes (in_row_at lk (pos 0) r (pos x)) P (by (r % 2 == 0)) where
    x : ℕ
    x = drive_width plan lk + c * bit_width lk

    far : (drive_width plan lk + c * bit_width lk) ≤ 16908288
    far = let few = s.few in let most = few_wide c 256 (bit_width lk) (omega (arith, lt, few)) (omega arith) s.narrow in let drive = s.drive in omega (arith, most, drive)

    rows : (r + 1) * high ≤ bank_rows plan * high
    rows = mul-le (r + 1) high (bank_rows plan) high (omega (arith, below)) (omega arith)

    split : (r + 1) * high ≡ r * high + high
    split = omega arith

    by : (t : Bool) → HoldsAt kit Bitcell (cond t (upright (pos x) (pos 0 +ℤ pos (r * high))) (mirrored_at (pos x) (pos 0 +ℤ pos ((r + 1) * high)))) P
    by true = upright_in kit Bitcell x (pos 0 +ℤ pos (r * high)) (pos 0) (pos (bank_rows plan * bit_height lk)) s.is far (omega (arith, ints)) (omega (arith, ints, rows, split))
    by false = mirrored_in kit Bitcell x (pos 0 +ℤ pos ((r + 1) * high)) (pos 0) (pos (bank_rows plan * bit_height lk)) s.is far (omega (arith, ints, split)) (omega (arith, ints, rows))
