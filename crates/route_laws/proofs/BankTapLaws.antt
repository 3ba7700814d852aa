-- The taps of a bank, as they are placed: where no two are too close in the model's bank, none are.
use Rattle.std.proofs.Common.{◌≡◌, ◌≢◌, inl, inr, ℕ, zero, suc, ◌+◌, ◌-◌, ◌*◌, ◌%◌, ◌==◌, ◌<◌, ◌≤◌, ℤ, pos, ◌+ℤ◌, ◌-ℤ◌, ◌*ℤ◌, ◌≤ℤ◌, Bool, true, false, cond, List, [], ◌∷◌, ◌++◌, map, flat_map, Some, refl, sym, ap, subst, ◌∙◌, arith}
use Rattle.std.specs.Prelude.{slice_get, slice_index, option_map}
use Rattle.std.specs.List.{AllByRecursion}
use Rattle.std.proofs.lemmas.Int.{ints}
use Rattle.std.proofs.lemmas.Bool.{cases_order}
use Rattle.std.proofs.lemmas.Option.{same_Some}
use Rattle.or_geom.specs.declared.shape.Rect.{Rect}
use Rattle.cell_roles.specs.declared.role.Role.{Role}
use Rattle.cell_roles.specs.declared.role.Role.TheVariants.{Bitcell, Sense, Write, Driver}
use Rattle.wire_drawing.specs.declared.route.Tap.{Tap}
use Rattle.tech_rules.specs.declared.tech.Wire.{Wire}
use Rattle.wire_drawing.specs.Drawing.{pitch}
use Rattle.tech_rules.specs.Facts.{AreSizes}
use Rattle.channel_router.specs.Wires.{channel_height}
use Rattle.rail_bus.specs.Rails.{tap_ys}
use Rattle.sram_netlist.specs.Organization.{Organization, bank_rows, columns_of}
use Rattle.sram_netlist.specs.Netlist.{row_gate}
use Rattle.sram_netlist.specs.InstanceList.{numbers_from, tabulate, tabulate_lists}
use Rattle.leaf_shapes.specs.declared.pins.LeafPin.{LeafPin}
use Rattle.leaf_tables.specs.declared.kit.Kit.{Kit}
use Rattle.leaf_tables.specs.declared.kit.Leaf.{Leaf}
use Rattle.leaf_tables.specs.Alignment.{leaf_in, height_in}
use Rattle.leaf_tables.specs.Kits.{IsKit}
use Rattle.macro_layout.specs.LayoutKit.{LayoutKit}
use Rattle.macro_layout.specs.Places.{Floorplan, upright, mirrored_at, columns_x, bit_width, bit_height}
use Rattle.macro_layout.specs.Cells.{slice_x}
use Rattle.macro_layout.specs.Floorplan.{Tracks, IsFloorplan, line_count, choice_count, write_height}
use Rattle.floorplan.proofs.SideLaws.{height_is}
use Rattle.row_decoder.specs.RowTaps.{corner_at, lower_end, RowLeaves, row_taps, AreRowLeaves}
use Rattle.bank_layout.specs.BankTaps.{sense_tap, precharge_tap, choice_tap, channel_low}
use Rattle.bank_layout.proofs.HighestLaws.{upright_low, mirrored_low}
use Rattle.bank_layout.proofs.PinLaws.{inside_leaf}
use Rattle.spacing_laws.proofs.CloseLaws.{AreNear, HasNear, HasClose, HasBetween}
use Rattle.spacing_laws.proofs.RepeatLaws.{IsCloseInLists, close_lists}
use Rattle.spacing_laws.proofs.RowLaws.{moved, AreUpTo, AreFrom, all_append}
use Rattle.spacing_laws.proofs.BankLaws.{product_rises, product_suc}
use Rattle.route_laws.proofs.TrackLaws.{tracks_high}
use Rattle.route_laws.proofs.TapLaws.{row_low, input_lows, row_lows, rows_lows, rows_ys, ys_append}

-- Rows: no tap stands below the first row

row_low_up : (n r : ℕ) (rect : Rect) → pos 0 ≤ℤ rect.y1 → rect.y2 ≤ℤ pos n → pos 0 ≤ℤ row_low (pos n) r rect
unfolding row_low
row_low_up n r rect low high = by (r % 2 == 0)
  where
    up : (m : ℕ) (z y : ℤ) → z ≡ (pos 0 +ℤ pos m) +ℤ y → pos 0 ≤ℤ y → pos 0 ≤ℤ z
    up m z y e le = omega (arith, ints, e, le)

    down : (m k : ℕ) (z y : ℤ) → z ≡ (pos 0 +ℤ pos m) -ℤ y → y ≤ℤ pos k → k ≤ m → pos 0 ≤ℤ z
    down m k z y e le more = omega (arith, ints, e, le, more)

    one_more : n ≤ (r + 1) * n
    one_more = let e = product_suc r n in omega (arith, e)

    by : (even : Bool) → pos 0 ≤ℤ lower_end (cond even (upright (pos 0) (pos 0 +ℤ (pos r *ℤ pos n))) (mirrored_at (pos 0) (pos 0 +ℤ (pos (r + 1) *ℤ pos n)))) rect
    by true = up (r * n) (lower_end (upright (pos 0) (pos 0 +ℤ (pos r *ℤ pos n))) rect) rect.y1 (upright_low (pos 0) (pos 0 +ℤ (pos r *ℤ pos n)) rect) low
    by false = down ((r + 1) * n) n (lower_end (mirrored_at (pos 0) (pos 0 +ℤ (pos (r + 1) *ℤ pos n))) rect) rect.y2 (mirrored_low (pos 0) (pos 0 +ℤ (pos (r + 1) *ℤ pos n)) rect) high one_more

abbrev pub AreUp : List ℤ → Type 0
AreUp zs = AllByRecursion (λ z. pos 0 ≤ℤ z) zs

inputs_up : (n r : ℕ) (pins : List LeafPin) (groups : List ℕ) → ((k : ℕ) (pin : LeafPin) → slice_get pins k ≡ Some pin → (pos 0 ≤ℤ pin.rect.y1) × (pin.rect.y2 ≤ℤ pos n)) → AreUp (input_lows (pos n) r pins groups)
unfolding input_lows
inputs_up n r pins [] each = tt
inputs_up n r [] (b ∷ bs) each = tt
inputs_up n r (p ∷ ps) (b ∷ bs) each = let in_cell = each 0 p refl in (row_low_up n r p.rect in_cell.0 in_cell.1, inputs_up n r ps bs (λ k pin at. each (suc k) pin at))

all_up : (f : ℕ → List ℤ) (ns : List ℕ) → ((k : ℕ) → AreUp (f k)) → AreUp (flat_map f ns)
all_up f [] each = tt
all_up f (n ∷ ns) each = all_append (λ z. pos 0 ≤ℤ z) (f n) (flat_map f ns) (each n) (all_up f ns each)

pub up_from : (b : ℤ) (zs : List ℤ) → AreUp zs → AreFrom b (moved b zs)
up_from b [] is = tt
up_from b (z ∷ zs) is = (let a = is.0 in omega (arith, ints, a), up_from b zs is.1)

-- the rows' leaf cells are as high as a row
gate_height : (kit : Kit) → IsKit kit → (groups : List ℕ) → height_in kit.leaves (row_gate groups) ≡ height_in kit.leaves Bitcell
gate_height kit is [] = is.aligned.heights.0
gate_height kit is (a ∷ []) = is.aligned.heights.0
gate_height kit is (a ∷ b ∷ []) = is.aligned.heights.0
gate_height kit is (a ∷ b ∷ c ∷ bs) = is.aligned.heights.1.0

pin_in_row : (kit : Kit) (is : IsKit kit) (role : Role) (leaf : Leaf) (h : ℤ) → leaf_in kit.leaves role ≡ Some leaf → height_in kit.leaves role ≡ height_in kit.leaves Bitcell → height_in kit.leaves Bitcell ≡ Some h
    → (k : ℕ) (pin : LeafPin) → slice_get leaf.pins k ≡ Some pin → (pos 0 ≤ℤ pin.rect.y1) × (pin.rect.y2 ≤ℤ h)
pin_in_row kit is role leaf h there same bit k pin at =
    let inside = inside_leaf kit role leaf k pin is there at in
    let low = inside.low in
    let high = inside.high in
    let own : height_in kit.leaves role ≡ Some leaf.height = ap (option_map (λ (l : Leaf). l.height)) there in
    let e = same_Some leaf.height h (sym own ∙ (same ∙ bit)) in
    (low, omega (arith, ints, high, e))

natural_height : (kit : Kit) (is : IsKit kit) (role : Role) (leaf : Leaf) (h : ℤ) → leaf_in kit.leaves role ≡ Some leaf → height_in kit.leaves role ≡ height_in kit.leaves Bitcell → height_in kit.leaves Bitcell ≡ Some h → (n : ℕ) × (h ≡ pos n)
natural_height kit is role leaf h there same bit =
    let own : height_in kit.leaves role ≡ Some leaf.height = ap (option_map (λ (l : Leaf). l.height)) there in
    let e = same_Some leaf.height h (sym own ∙ (same ∙ bit)) in
    (_, sym e ∙ (height_is kit is role leaf there).is)

pub rows_up : (kit : Kit) (is : IsKit kit) (groups : List ℕ) (leaves : RowLeaves) (rows : ℕ) → AreRowLeaves kit.leaves groups leaves → AreUp (rows_lows groups leaves rows)
unfolding rows_lows row_lows
rows_up kit is groups leaves rows of =
    let n = natural_height kit is (row_gate groups) of.gate leaves.height of.is_gate (gate_height kit is groups) of.height in
    let gate = pin_in_row kit is (row_gate groups) of.gate leaves.height of.is_gate (gate_height kit is groups) of.height in
    let driver = pin_in_row kit is Driver of.driver leaves.height of.is_driver is.aligned.heights.1.1.0 of.height in
    let inputs : (k : ℕ) (pin : LeafPin) → slice_get leaves.inputs k ≡ Some pin → (pos 0 ≤ℤ pin.rect.y1) × (pin.rect.y2 ≤ℤ pos n.0) = λ k pin at.
    (let two = gate k pin (ap (λ (l : List LeafPin). slice_get l k) (sym of.inputs) ∙ at) in subst (λ (h : ℤ). (pos 0 ≤ℤ pin.rect.y1) × (pin.rect.y2 ≤ℤ h)) n.1 two) in
    let enable = subst (λ (h : ℤ). (pos 0 ≤ℤ leaves.enable.rect.y1) × (leaves.enable.rect.y2 ≤ℤ h)) n.1 (driver 1 leaves.enable of.enable) in
    all_up (row_lows groups leaves) (numbers_from 0 rows)
    (λ r. all_append (λ z. pos 0 ≤ℤ z) (input_lows leaves.height r leaves.inputs groups) (row_low leaves.height r leaves.enable.rect ∷ [])
    (subst (λ (h : ℤ). AreUp (input_lows h r leaves.inputs groups)) (sym n.1) (inputs_up n.0 r leaves.inputs groups inputs))
    (subst (λ (h : ℤ). pos 0 ≤ℤ row_low h r leaves.enable.rect) (sym n.1) (row_low_up n.0 r leaves.enable.rect enable.0 enable.1), tt))

-- The heights of all taps, from the lower edge of the bank

unfoldable pub choice_ys : Wire → ℤ → List ℕ → ℕ → ℤ
choice_ys wire low track k = low +ℤ channel_height wire (slice_index track k)

choices_are : (wire : Wire) (low : ℤ) (first : ℕ) (track ns : List ℕ) → tap_ys (map (choice_tap wire low first track) ns) ≡ flat_map (λ k. choice_ys wire low track k ∷ []) ns
unfolding choice_ys
choices_are wire low first track [] = refl
choices_are wire low first track (n ∷ ns) = ap (λ (l : List ℤ). (low +ℤ channel_height wire (slice_index track n)) ∷ l) (choices_are wire low first track ns)

abbrev pub all_choices : Wire → ℤ → List ℕ → ℕ → List ℤ
all_choices wire low track n = tabulate_lists n (λ k. choice_ys wire low track k ∷ [])

abbrev pub taps_with : Organization → LayoutKit → Wire → Floorplan → List ℕ → RowLeaves → LeafPin → LeafPin → List Tap
taps_with plan kit wire f track leaves sense precharge =
    tabulate_lists (bank_rows plan) (row_taps plan.groups leaves (corner_at f.row_x (f.array_y -ℤ f.write_y)))
    ++ (sense_tap plan kit f sense ∷ precharge_tap plan kit f precharge ∷ tabulate (choice_count plan.col_bits) (choice_tap wire (channel_low kit f) (line_count plan.groups + 3) track))

-- where the sense cells' taps are, and how far above the array the precharge cells' are
abbrev pub sense_y : LayoutKit → LeafPin → ℤ
sense_y kit sense = pos (kit.height Write) +ℤ sense.rect.y1

abbrev pub precharge_up : Organization → LayoutKit → LeafPin → ℤ
precharge_up plan kit precharge = pos (bank_rows plan * bit_height kit) +ℤ precharge.rect.y1

abbrev pub low_of : LayoutKit → ℤ
low_of kit = pos (kit.height Write) +ℤ pos (kit.height Sense)

sense_is : (w s y : ℤ) (h n : ℕ) → s ≡ w +ℤ pos h → h ≡ n → (s -ℤ w) +ℤ y ≡ pos n +ℤ y
sense_is w s y h n e f = omega (arith, ints, e, f)

precharge_is : (w a p y : ℤ) (n : ℕ) → p ≡ a +ℤ pos n → (p -ℤ w) +ℤ y ≡ (a -ℤ w) +ℤ (pos n +ℤ y)
precharge_is w a p y n e = omega (arith, ints, e)

low_is : (w s : ℤ) (h n k : ℕ) → s ≡ w +ℤ pos h → h ≡ n → (s +ℤ pos k) -ℤ w ≡ pos n +ℤ pos k
low_is w s h n k e f = omega (arith, ints, e, f)

pub heights_are : (plan : Organization) (kit : LayoutKit) (wire : Wire) (tracks : Tracks) (f : Floorplan) (track : List ℕ) (leaves : RowLeaves) (sense precharge : LeafPin) → IsFloorplan plan kit wire tracks f → write_height plan kit ≡ kit.height Write
    → tap_ys (taps_with plan kit wire f track leaves sense precharge)
    ≡ moved (f.array_y -ℤ f.write_y) (rows_lows plan.groups leaves (bank_rows plan)) ++ (sense_y kit sense ∷ ((f.array_y -ℤ f.write_y) +ℤ precharge_up plan kit precharge) ∷ all_choices wire (low_of kit) track (choice_count plan.col_bits))
heights_are plan kit wire tracks f track leaves sense precharge stands written =
    let rows = tabulate_lists (bank_rows plan) (row_taps plan.groups leaves (corner_at f.row_x (f.array_y -ℤ f.write_y))) in
    let choices = tabulate (choice_count plan.col_bits) (choice_tap wire (channel_low kit f) (line_count plan.groups + 3) track) in
    let s = upright_low (columns_x plan kit f +ℤ pos (slice_x plan kit (plan.word_size - 1))) (f.sense_y -ℤ f.write_y) sense.rect ∙ sense_is f.write_y f.sense_y sense.rect.y1 (write_height plan kit) (kit.height Write) stands.sense_y written in
    let p = upright_low (columns_x plan kit f +ℤ pos ((columns_of plan - 1) * bit_width kit)) (f.precharge_y -ℤ f.write_y) precharge.rect ∙ precharge_is f.write_y f.array_y f.precharge_y precharge.rect.y1 (bank_rows plan * bit_height kit) stands.precharge_y in
    let low = low_is f.write_y f.sense_y (write_height plan kit) (kit.height Write) (kit.height Sense) stands.sense_y written in
    ys_append rows (sense_tap plan kit f sense ∷ precharge_tap plan kit f precharge ∷ choices)
    ∙ (λ i. rows_ys f.row_x (f.array_y -ℤ f.write_y) plan.groups leaves (bank_rows plan) i
    ++ (s i ∷ p i ∷ (choices_are wire (channel_low kit f) (line_count plan.groups + 3) track (numbers_from 0 (choice_count plan.col_bits)) ∙ (λ j. all_choices wire (low j) track (choice_count plan.col_bits))) i))

-- where the array begins, over the column channel
pub array_is : (w s c a z : ℤ) (h n k m : ℕ) → s ≡ w +ℤ pos h → h ≡ n → c ≡ (s +ℤ pos k) +ℤ z → a ≡ c +ℤ pos m → a -ℤ w ≡ ((pos n +ℤ pos k) +ℤ z) +ℤ pos m
array_is w s c a z h n k m e f g i = omega (arith, ints, e, f, g, i)

-- The choices, of which each has a track below a count

pub choice_up_to : (wire : Wire) (low b : ℤ) (q n m t : ℕ) → pitch wire ≡ pos q → channel_height wire t ≡ wire.space +ℤ pos (t * q) → b ≡ (low +ℤ (wire.space +ℤ pos (n * q))) +ℤ pos m → t < n → (low +ℤ channel_height wire t) ≤ℤ (b -ℤ pitch wire)
choice_up_to wire low b q n m t is high at less =
    let r = product_rises (t + 1) n q (omega (arith, less)) in
    let s = product_suc t q in
    omega (arith, ints, is, high, at, r, s)

pub all_below : (m : ℤ) (f : ℕ → ℤ) (k n : ℕ) → ((i : ℕ) → k ≤ i → i < k + n → f i ≤ℤ m) → AreUpTo m (flat_map (λ i. f i ∷ []) (numbers_from k n))
all_below m f k zero each = tt
all_below m f k (suc n) each = (each k (omega arith) (omega arith), all_below m f (suc k) n (λ i a b. each i (omega (arith, a)) (omega (arith, b))))

-- two on different tracks are a pitch apart
far_tracks : (wire : Wire) (low : ℤ) (q t u : ℕ) → pitch wire ≡ pos q → t < u → AreNear (pitch wire) (low +ℤ channel_height wire t) (low +ℤ channel_height wire u) → ⊥
far_tracks wire low q t u is less near =
    let r = product_rises (t + 1) u q (omega (arith, less)) in
    let s = product_suc t q in
    let a = tracks_high wire q t is in
    let b = tracks_high wire q u is in
    by near a b r s
  where
    by : AreNear (pitch wire) (low +ℤ channel_height wire t) (low +ℤ channel_height wire u) → channel_height wire t ≡ wire.space +ℤ pos (t * q) → channel_height wire u ≡ wire.space +ℤ pos (u * q) → (t + 1) * q ≤ u * q → (t + 1) * q ≡ t * q + q → ⊥
    by (inl (g, h)) a b r s = omega (arith, ints, is, h, a, b, r, s)
    by (inr (g, h)) a b r s = omega (arith, ints, is, g, h, a, b, r, s)

same_tracks : (wire : Wire) (low : ℤ) (q t u : ℕ) → pitch wire ≡ pos q → AreNear (pitch wire) (low +ℤ channel_height wire t) (low +ℤ channel_height wire u) → t ≡ u
same_tracks wire low q t u is near = elim (cases_order t u) [
  | inl same ↦ same
  | inr (inl less) ↦ absurd (far_tracks wire low q t u is less near)
  | inr (inr more) ↦ absurd (far_tracks wire low q u t is more (turned near))
]
  where
    turned : AreNear (pitch wire) (low +ℤ channel_height wire t) (low +ℤ channel_height wire u) → AreNear (pitch wire) (low +ℤ channel_height wire u) (low +ℤ channel_height wire t)
    turned (inl h) = inr h
    turned (inr h) = inl h

pub choices_apart : (wire : Wire) (low : ℤ) (q n : ℕ) (track : List ℕ) → pitch wire ≡ pos q → ((k l : ℕ) → k < n → l < n → k ≢ l → slice_index track k ≡ slice_index track l → ⊥) → HasClose (pitch wire) (all_choices wire low track n) → ⊥
unfolding choice_ys
choices_apart wire low q n track is differ h = by (close_lists (pitch wire) (λ k. (low +ℤ channel_height wire (slice_index track k)) ∷ []) 0 n h)
  where
    alone : (x : ℤ) → HasClose (pitch wire) (x ∷ []) → ⊥
    alone x (inl none) = none
    alone x (inr none) = none

    one : (i j : ℕ) → i < j → j < n → HasBetween (pitch wire) ((low +ℤ channel_height wire (slice_index track i)) ∷ []) ((low +ℤ channel_height wire (slice_index track j)) ∷ []) → ⊥
    one i j less in_j (inl (inl near)) = differ i j (omega (arith, less, in_j)) in_j (λ e. omega (arith, less, e)) (same_tracks wire low q (slice_index track i) (slice_index track j) is near)
    one i j less in_j (inl (inr none)) = none
    one i j less in_j (inr none) = none

    by : IsCloseInLists (pitch wire) (λ k. (low +ℤ channel_height wire (slice_index track k)) ∷ []) 0 (0 + n) → ⊥
    by (inl r) = alone (low +ℤ channel_height wire (slice_index track r.i)) r.is
    by (inr r) = let to = r.to in one r.i r.j r.rises (omega (arith, to)) r.is

-- A tap below the channel is near to the lowest track alone.

pub record IsNearOne (p s : ℤ) (f : ℕ → ℤ) (low high : ℕ) : Type 0 where
  pub at : ℕ
  pub from : low ≤ at
  pub to : at < high
  pub near : AreNear p s (f at)

pub near_one : (p s : ℤ) (f : ℕ → ℤ) (k n : ℕ) → HasNear p s (flat_map (λ i. f i ∷ []) (numbers_from k n)) → IsNearOne p s f k (k + n)
near_one p s f k zero h = absurd h
near_one p s f k (suc n) (inl h) = record { at = k; from = omega arith; to = omega arith; near = h }
near_one p s f k (suc n) (inr h) = let r = near_one p s f (suc k) n h in let a = r.from in let b = r.to in record { at = r.at; from = omega (arith, a); to = omega (arith, b); near = r.near }

pub one_near : (p s : ℤ) (f : ℕ → ℤ) (k n i : ℕ) → k ≤ i → i < k + n → AreNear p s (f i) → HasNear p s (flat_map (λ i. f i ∷ []) (numbers_from k n))
one_near p s f k zero i a b h = absurd (omega (arith, a, b))
one_near p s f k (suc n) i a b h = elim (cases_order i k) [
  | inl same ↦ inl (subst (λ (m : ℕ). AreNear p s (f m)) same h)
  | inr (inl less) ↦ absurd (omega (arith, a, less))
  | inr (inr more) ↦ inr (one_near p s f (suc k) n i (omega (arith, more)) (omega (arith, b)) h)
]

pub lowest_alone : (wire : Wire) (low s : ℤ) (q t : ℕ) → AreSizes wire → pitch wire ≡ pos q → s ≤ℤ low → AreNear (pitch wire) s (low +ℤ channel_height wire t) → t ≡ 0
lowest_alone wire low s q zero sizes is below near = refl
lowest_alone wire low s q (suc t) sizes is below near =
    let e = product_suc t q in
    let a = tracks_high wire q (suc t) is in
    let f : suc t * q ≡ (t + 1) * q = (let g : suc t ≡ t + 1 = omega arith in ap (λ (k : ℕ). k * q) g) in
    let w = sizes.width.from in
    let c = sizes.space.from in
    absurd (by near a e f w c)
  where
    by : AreNear (pitch wire) s (low +ℤ channel_height wire (suc t)) → channel_height wire (suc t) ≡ wire.space +ℤ pos (suc t * q) → (t + 1) * q ≡ t * q + q → suc t * q ≡ (t + 1) * q → pos 1 ≤ℤ wire.width → pos 1 ≤ℤ wire.space → ⊥
    by (inl (g, h)) a e f w c = omega (arith, ints, is, below, h, a, e, f, w, c)
    by (inr (g, h)) a e f w c = omega (arith, ints, is, below, g, h, a, e, f, w, c)
