-- The heights of a drawn memory, and where its rails and banks stand.
use Rattle.std.proofs.Common.{◌≡◌, ◌∙◌, ℕ, zero, suc, ◌+◌, ◌*◌, ◌<◌, ℤ, pos, ◌+ℤ◌, ◌*ℤ◌, ◌≤ℤ◌, List, [], ◌∷◌, ◌++◌, length, refl, sym, ap, subst, arith}
use Rattle.std.proofs.lemmas.Int.{ints}
use Rattle.std.proofs.lemmas.List.{length-append, length-map}
use Rattle.std.proofs.lemmas.Option.{slice_get_within}
use Rattle.cell_roles.specs.declared.role.Role.TheVariants.{Sense, Bitcell}
use Rattle.tech_rules.specs.declared.tech.Wire.{Wire}
use Rattle.wire_drawing.specs.Drawing.{pitch}
use Rattle.tech_rules.specs.Facts.{AreSizes}
use Rattle.channel_router.specs.Wires.{channel_height, track_y}
use Rattle.sram_netlist.specs.Organization.{Organization, power_of_two, columns_of, bank_rows}
use Rattle.sram_netlist.specs.Nets.{Net, Line}
use Rattle.sram_netlist.specs.InstanceList.{numbers_from, tabulate}
use Rattle.macro_layout.specs.LayoutKit.{LayoutKit}
use Rattle.macro_layout.specs.Places.{Floorplan, bank_x, columns_x, bit_width, drive_width}
use Rattle.macro_layout.specs.Floorplan.{Tracks, IsFloorplan, line_count, choice_count, rail_count, rail_x, column_channel_y, write_height, column_role}
use Rattle.macro_layout.specs.Pins.{line_nets, choice_nets, rail_nets, IsRailOf}
use Rattle.good_places.proofs.NumberLaws.{banks_before, once, times_low}
pub use Rattle.good_places.proofs.LaidLaws.{pitch_low}

count_from : (k n : ℕ) → length (numbers_from k n) ≡ n
count_from k zero = refl
count_from k (suc n) = ap suc (count_from (suc k) n)

count_all : {A : Type 0} (n : ℕ) (g : ℕ → A) → length (tabulate n g) ≡ n
count_all n g = length-map (numbers_from 0 n) g ∙ count_from 0 n

lines_count : (bs : List ℕ) (o : ℕ) → length (line_nets bs o) ≡ line_count bs
lines_count [] o = refl
lines_count (b ∷ bs) o =
    let here = count_all (power_of_two b) (Line o b) in
    let rest = lines_count bs (o + b) in
    let both = length-append (tabulate (power_of_two b) (Line o b)) (line_nets bs (o + b)) in
    omega (arith, here, rest, both)

choices_count : (n : ℕ) → length (choice_nets n) ≡ choice_count n
choices_count zero = refl
choices_count (suc n) = count_all (power_of_two (suc n)) (Line 0 (suc n))

joined_count : {A : Type 0} (xs ys : List A) (a b c : A) (m n : ℕ) → length xs ≡ m → length ys ≡ n → length (xs ++ (a ∷ b ∷ c ∷ ys)) ≡ m + (3 + n)
joined_count xs ys a b c m n p q = let both = length-append xs (a ∷ b ∷ c ∷ ys) in omega (arith, both, p, q)

pub rails_count : (plan : Organization) (b : ℕ) → length (rail_nets plan b) ≡ rail_count plan
rails_count plan b = joined_count (line_nets plan.groups plan.col_bits) (choice_nets plan.col_bits) _ _ _ (line_count plan.groups) (choice_count plan.col_bits) (lines_count plan.groups plan.col_bits) (choices_count plan.col_bits)

-- a track keeps the space from its channel's ends
pub track_above : (low : ℤ) (wire : Wire) (t : ℕ) → AreSizes wire → (low +ℤ wire.space) ≤ℤ track_y low wire t
track_above low wire t s = go low wire.space (pos t *ℤ pitch wire) (times_low t (pitch wire) (pitch_low wire s)) where
  go : (low s t : ℤ) → pos 0 ≤ℤ t → (low +ℤ s) ≤ℤ (low +ℤ (s +ℤ t))
  go low s t le = omega (arith, ints, le)

pub track_below : (low high : ℤ) (wire : Wire) (t n : ℕ) → AreSizes wire → t < n → high ≡ low +ℤ channel_height wire n → ((track_y low wire t +ℤ wire.width) +ℤ wire.space) ≤ℤ high
track_below low high wire t n s lt is = go low high wire.width wire.space (pos t *ℤ pitch wire) (pos n *ℤ pitch wire) (banks_before t n (pitch wire) lt (pitch_low wire s)) is where
  go : (low high w s t n : ℤ) → (t +ℤ (w +ℤ s)) ≤ℤ n → high ≡ low +ℤ (s +ℤ n) → (((low +ℤ (s +ℤ t)) +ℤ w) +ℤ s) ≤ℤ high
  go low high w s t n le is = omega (arith, ints, le, is)

pub record Levels (plan : Organization) (kit : LayoutKit) (wire : Wire) (f : Floorplan) : Type 0 where
  pub sense : f.write_y ≤ℤ f.sense_y
  pub channel : f.sense_y ≤ℤ column_channel_y kit f
  pub column : (column_channel_y kit f +ℤ wire.space) ≤ℤ f.column_y
  pub array : f.column_y ≤ℤ f.array_y
  pub precharge : f.array_y ≤ℤ f.precharge_y

height_from : (space all : ℤ) → pos 0 ≤ℤ all → space ≤ℤ (space +ℤ all)
height_from space all a = omega (arith, ints, a)

pub levels : (plan : Organization) (kit : LayoutKit) (wire : Wire) (tracks : Tracks) (f : Floorplan) → AreSizes wire → IsFloorplan plan kit wire tracks f → Levels plan kit wire f
levels plan kit wire tracks f s stands = record {
  sense = up f.write_y f.sense_y (write_height plan kit) stands.sense_y;
  channel = up f.sense_y (column_channel_y kit f) (kit.height Sense) refl;
  column = over (column_channel_y kit f) f.column_y wire.space (channel_height wire tracks.column) stands.column_y (height_from wire.space (pos tracks.column *ℤ pitch wire) (times_low tracks.column (pitch wire) (pitch_low wire s)));
  array = up f.column_y f.array_y (kit.height (column_role plan.col_bits)) stands.array_y;
  precharge = up f.array_y f.precharge_y (bank_rows plan * kit.height Bitcell) stands.precharge_y;
} where
  up : (a b : ℤ) (h : ℕ) → b ≡ a +ℤ pos h → a ≤ℤ b
  up a b h e = omega (arith, ints, e)

  over : (a b s h : ℤ) → b ≡ a +ℤ h → s ≤ℤ h → (a +ℤ s) ≤ℤ b
  over a b s h e le = omega (arith, ints, e, le)

-- where things stand from left to right: rails, and the columns behind them
pub record Sides (plan : Organization) (kit : LayoutKit) (wire : Wire) (f : Floorplan) : Type 0 where
  pub rail : (j : ℕ) → j < rail_count plan → ((rail_x wire j +ℤ wire.width) +ℤ wire.space) ≤ℤ f.row_x
  pub first : (j : ℕ) → pitch wire ≤ℤ rail_x wire j
  pub row : pitch wire ≤ℤ f.row_x
  pub columns : f.row_x ≤ℤ columns_x plan kit f
  pub bank : f.bank_width ≡ columns_x plan kit f +ℤ pos (columns_of plan * bit_width kit)
  pub wide : pos 0 ≤ℤ f.bank_width

pub sides : (plan : Organization) (kit : LayoutKit) (wire : Wire) (tracks : Tracks) (f : Floorplan) → AreSizes wire → IsFloorplan plan kit wire tracks f → Sides plan kit wire f
sides plan kit wire tracks f s stands =
    let row : pitch wire ≤ℤ f.row_x = subst (λ (z : ℤ). pitch wire ≤ℤ z) (sym stands.row_x) (once (rail_count plan + 1) (pitch wire) (omega arith) (pitch_low wire s)) in
    let low = pitch_low wire s in
    record {
      rail = λ j lt. before (rail_x wire j) f.row_x wire.width wire.space (rail_x wire (rail_count plan)) stands.row_x (banks_before (j + 1) (rail_count plan + 1) (pitch wire) (omega (arith, lt)) low);
      first = λ j. once (j + 1) (pitch wire) (omega arith) low;
      row = row;
      columns = up f.row_x (drive_width plan kit);
      bank = stands.bank_width;
      wide = wide f.row_x f.bank_width (pitch wire) (drive_width plan kit) (columns_of plan * bit_width kit) low row stands.bank_width;
    }
  where
    before : (x row w s all : ℤ) → row ≡ all → (x +ℤ (w +ℤ s)) ≤ℤ all → ((x +ℤ w) +ℤ s) ≤ℤ row
    before x row w s all e le = omega (arith, ints, e, le)

    up : (x : ℤ) (d : ℕ) → x ≤ℤ (x +ℤ pos d)
    up x d = omega (arith, ints)

    wide : (row bank p : ℤ) (d n : ℕ) → pos 0 ≤ℤ p → p ≤ℤ row → bank ≡ (row +ℤ pos d) +ℤ pos n → pos 0 ≤ℤ bank
    wide row bank p d n a c e = omega (arith, ints, a, c, e)

-- a rail of a bank begins a pitch behind the bank's beginning, and ends a space before its rows
pub record IsRailAt (wire : Wire) (f : Floorplan) (b : ℕ) (x : ℤ) : Type 0 where
  pub from : bank_x f b (pitch wire) ≤ℤ x
  pub to : ((x +ℤ wire.width) +ℤ wire.space) ≤ℤ bank_x f b f.row_x

pub rail_at : (plan : Organization) (kit : LayoutKit) (wire : Wire) (f : Floorplan) (b : ℕ) (net : Net) (x : ℤ) → Sides plan kit wire f → IsRailOf plan wire f b net x → IsRailAt wire f b x
rail_at plan kit wire f b net x s is =
    let few : is.rail < rail_count plan = subst (λ (n : ℕ). is.rail < n) (rails_count plan b) (slice_get_within (rail_nets plan b) is.rail net is.on) in
    record { from = left (rail_x wire is.rail) (pos b *ℤ f.bank_width) (pitch wire) x is.at (s.first is.rail); to = right (rail_x wire is.rail) (pos b *ℤ f.bank_width) wire.width wire.space f.row_x x is.at (s.rail is.rail few) }
  where
    left : (r q p x : ℤ) → x ≡ r +ℤ q → p ≤ℤ r → (p +ℤ q) ≤ℤ x
    left r q p x e le = omega (arith, ints, e, le)

    right : (r q w s row x : ℤ) → x ≡ r +ℤ q → ((r +ℤ w) +ℤ s) ≤ℤ row → ((x +ℤ w) +ℤ s) ≤ℤ (row +ℤ q)
    right r q w s row x e le = omega (arith, ints, e, le)
