-- The numbers of a laid memory, and that each leaf instance draws near its zone.
use Rattle.std.proofs.Common.{◌≡◌, ◌∙◌, ℕ, zero, suc, ◌+◌, ◌*◌, ◌%◌, ◌<◌, ◌≤◌, ◌==◌, ℤ, pos, ◌+ℤ◌, ◌*ℤ◌, ◌≤ℤ◌, refl, sym, ap, subst, arith}
use Rattle.std.proofs.lemmas.Int.{ints}
use Rattle.or_geom.specs.declared.shape.Shape.{Shape}
use Rattle.or_geom.specs.declared.place.Place.{Place}
use Rattle.or_geom.specs.Place.{placed, IsImage}
use Rattle.cell_roles.specs.declared.role.Role.{Role}
use Rattle.cell_roles.specs.declared.role.Role.TheVariants.{Bitcell, Precharge, Mux, Tie, Sense, Write, Driver, Inv}
use Rattle.tech_rules.specs.declared.tech.Wire.{Wire}
use Rattle.wire_drawing.specs.Drawing.{pitch}
use Rattle.tech_rules.specs.Facts.{AreSizes}
use Rattle.cell_hierarchy.specs.FlatSet.{IsMoved}
use Rattle.channel_router.specs.Wires.{channel_height}
use Rattle.sram_netlist.specs.Organization.{Organization, words_per_row, bank_rows, columns_of}
use Rattle.sram_netlist.specs.Instances.{LeafInstance, BitAt, NandAt, DriverAt, PrechargeAt, WriteAt, SenseAt, MuxAt, TieAt, LogicAt}
use Rattle.sram_netlist.specs.Netlist.{role, row_gate}
use Rattle.sram_netlist.specs.Membership.{HasLeafInstance}
use Rattle.macro_layout.specs.LayoutKit.{LayoutKit}
use Rattle.macro_layout.specs.Places.{Floorplan, IsPlaceOf, bank_x, column_x, columns_x, bit_width, bit_height, gate_width, drive_width, in_row_at, upright}
use Rattle.macro_layout.specs.Floorplan.{column_role, rail_count, rail_x, write_height, column_channel_y, upper_y}
use Rattle.good_places.specs.Leaves.{Zone, zone, zone_of, column_zone, slice_zone, LiesNear, PassesAtMost, ReachesNeighboursOnly}
use Rattle.good_places.specs.Zones.{IsLaid}
use Rattle.good_places.proofs.NumberLaws.{all_of, once, twice, times_low}
use Rattle.good_places.proofs.ZoneLaws.{upright_near, choice_near}
pub use Rattle.sram_netlist.proofs.Bounds.{written_all}

pub pitch_low : (wire : Wire) → AreSizes wire → pos 0 ≤ℤ pitch wire
pitch_low wire s = let a = s.width.from in let b = s.space.from in omega (arith, ints, a, b)

-- a channel with a track is so high
channel_tall : (wire : Wire) (n : ℕ) → AreSizes wire → 1 ≤ n → (wire.space +ℤ pitch wire) ≤ℤ channel_height wire n
channel_tall wire n s some = by wire.space (pitch wire) (pos n *ℤ pitch wire) (once n (pitch wire) some (pitch_low wire s)) where
  by : (a p q : ℤ) → p ≤ℤ q → (a +ℤ p) ≤ℤ (a +ℤ q)
  by a p q le = omega (arith, ints, le)

-- heights, one upon another, with a reach between the logic row, the slices and the columns; and what stands left of the columns
pub record Numbers (plan : Organization) (kit : LayoutKit) (f : Floorplan) (reach : ℤ) : Type 0 where
  pub some : pos 0 ≤ℤ reach
  pub logic : (pos (kit.height Inv) +ℤ reach) ≤ℤ f.write_y
  pub sense : f.sense_y ≡ f.write_y +ℤ pos (write_height plan kit)
  pub columns : (column_channel_y kit f +ℤ reach) ≤ℤ f.column_y
  pub array : f.array_y ≡ f.column_y +ℤ pos (kit.height (column_role plan.col_bits))
  pub precharge : f.precharge_y ≡ f.array_y +ℤ pos (bank_rows plan * kit.height Bitcell)
  pub front : reach ≤ℤ f.row_x
  pub row : pos 0 ≤ℤ f.row_x
  pub bank : f.bank_width ≡ columns_x plan kit f +ℤ pos (columns_of plan * bit_width kit)
  pub right : pos 0 ≤ℤ f.bank_width

twice_up : (space width reach all : ℤ) → reach ≤ℤ (space +ℤ (width +ℤ space)) → pos 1 ≤ℤ width → ((width +ℤ space) +ℤ (width +ℤ space)) ≤ℤ all → reach ≤ℤ all
twice_up space width reach all a b c = omega (arith, ints, a, b, c)

front_wide : (plan : Organization) (wire : Wire) (reach : ℤ) → AreSizes wire → reach ≤ℤ (wire.space +ℤ pitch wire) → reach ≤ℤ rail_x wire (rail_count plan)
front_wide plan wire reach s le = twice_up wire.space wire.width reach (rail_x wire (rail_count plan)) le s.width.from (twice (rail_count plan + 1) (pitch wire) (omega arith) (pitch_low wire s))

pub numbers : (plan : Organization) (kit : LayoutKit) (wire : Wire) (f : Floorplan) (reach : ℤ) → IsLaid plan kit wire f → ReachesNeighboursOnly kit wire reach → Numbers plan kit f reach
numbers plan kit wire f reach laid short =
    let row : pos 0 ≤ℤ f.row_x = subst (λ (z : ℤ). pos 0 ≤ℤ z) (sym laid.stands.row_x) (times_low (rail_count plan + 1) (pitch wire) (pitch_low wire laid.sizes)) in
    record {
      some = let a = short.some in omega (arith, ints, a);
      logic = by (pos (kit.height Inv)) reach (wire.space +ℤ pitch wire) (channel_height wire laid.tracks.main) f.write_y short.wires (channel_tall wire laid.tracks.main laid.sizes laid.main) laid.stands.write_y;
      sense = laid.stands.sense_y;
      columns = by (column_channel_y kit f) reach (wire.space +ℤ pitch wire) (channel_height wire laid.tracks.column) f.column_y short.wires (channel_tall wire laid.tracks.column laid.sizes laid.column) laid.stands.column_y;
      array = laid.stands.array_y;
      precharge = laid.stands.precharge_y;
      front = subst (λ (z : ℤ). reach ≤ℤ z) (sym laid.stands.row_x) (front_wide plan wire reach laid.sizes short.wires);
      row = row;
      bank = laid.stands.bank_width;
      right = wide f.row_x f.bank_width (drive_width plan kit) (columns_of plan * bit_width kit) row laid.stands.bank_width;
    }
  where
    by : (low reach tall channel high : ℤ) → reach ≤ℤ tall → tall ≤ℤ channel → high ≡ low +ℤ channel → (low +ℤ reach) ≤ℤ high
    by low reach tall channel high a b c = omega (arith, ints, a, b, c)

    wide : (row bank : ℤ) (d n : ℕ) → pos 0 ≤ℤ row → bank ≡ (row +ℤ pos d) +ℤ pos n → pos 0 ≤ℤ bank
    wide row bank d n a e = omega (arith, ints, a, e)

module _ (plan : Organization) (kit : LayoutKit) (wire : Wire) (f : Floorplan) (by : ℤ) (laid : IsLaid plan kit wire f) where
  same : (z : ℤ) → z ≤ℤ z
  same z = omega (arith, ints)

  up_to : (z : ℤ) (h k : ℕ) → h ≤ k → (z +ℤ pos h) ≤ℤ (z +ℤ pos k)
  up_to z h k le = omega (arith, ints, le)

  -- the rows stand between the columns' lower and upper ends
  row_low : (h : ℕ) → f.column_y ≤ℤ (f.array_y +ℤ pos h)
  row_low h = go f.column_y f.array_y (kit.height (column_role plan.col_bits)) h laid.stands.array_y where
    go : (c a : ℤ) (k h : ℕ) → a ≡ c +ℤ pos k → c ≤ℤ (a +ℤ pos h)
    go c a k h e = omega (arith, ints, e)

  row_high : (r h : ℕ) → r < bank_rows plan → h ≡ kit.height Bitcell → ((f.array_y +ℤ pos (r * bit_height kit)) +ℤ pos h) ≤ℤ upper_y kit f
  row_high r h lt e = go f.array_y f.precharge_y (r * bit_height kit) h (kit.height Bitcell) (bank_rows plan * bit_height kit) (kit.height Precharge) e (all_of r (bank_rows plan) (bit_height kit) lt) laid.stands.precharge_y where
    go : (a p : ℤ) (here h k all hp : ℕ) → h ≡ k → here + k ≤ all → p ≡ a +ℤ pos all → ((a +ℤ pos here) +ℤ pos h) ≤ℤ (p +ℤ pos hp)
    go a p here h k all hp e le is = omega (arith, ints, e, le, is)

  next_row : (r h : ℕ) → h ≡ bit_height kit → f.array_y +ℤ pos ((r + 1) * bit_height kit) ≡ (f.array_y +ℤ pos (r * bit_height kit)) +ℤ pos h
  next_row r h e = go f.array_y (r * bit_height kit) ((r + 1) * bit_height kit) (bit_height kit) h e (more r (bit_height kit)) where
    more : (r b : ℕ) → (r + 1) * b ≡ r * b + b
    more r b = grind arith

    go : (a : ℤ) (here there k h : ℕ) → h ≡ k → there ≡ here + k → a +ℤ pos there ≡ (a +ℤ pos here) +ℤ pos h
    go a here there k h e is = omega (arith, ints, e, is)

  in_row : (r w h : ℕ) (x left right : ℤ) (place : Place) (inner s : Shape) → r < bank_rows plan → h ≡ kit.height Bitcell → place ≡ in_row_at kit f.array_y r x → left ≤ℤ x → (x +ℤ pos w) ≤ℤ right → PassesAtMost by w h inner.rect → IsMoved place inner s
      → LiesNear by (zone left right f.column_y (upper_y kit f)) s.rect
  in_row r w h x left right place inner s lt tall is a b passes moved =
      choice_near (r % 2 == 0) by x (f.array_y +ℤ pos (r * bit_height kit)) (f.array_y +ℤ pos ((r + 1) * bit_height kit)) w h (zone left right f.column_y (upper_y kit f)) place inner.rect s.rect is (next_row r h tall) a b (row_low (r * bit_height kit)) (row_high r h lt tall) passes moved.image

  at : (x y : ℤ) (w h : ℕ) (z : Zone) (place : Place) (inner s : Shape) → place ≡ upright x y → z.left ≤ℤ x → (x +ℤ pos w) ≤ℤ z.right → z.low ≤ℤ y → (y +ℤ pos h) ≤ℤ z.high → PassesAtMost by w h inner.rect → IsMoved place inner s → LiesNear by z s.rect
  at x y w h z place inner s is a b c d passes moved = upright_near by x y w h z inner.rect s.rect a b c d passes (subst (λ (p : Place). IsImage (placed p) inner.rect s.rect) is moved.image)

  column_low : f.column_y ≤ℤ f.column_y
  column_low = same f.column_y

  column_high : (h : ℕ) (role : Role) → column_role plan.col_bits ≡ role → (f.column_y +ℤ pos (kit.height role)) ≤ℤ upper_y kit f
  column_high h role e = go f.column_y f.array_y f.precharge_y (kit.height role) (kit.height (column_role plan.col_bits)) (bank_rows plan * bit_height kit) (kit.height Precharge) (ap kit.height (sym e)) laid.stands.array_y laid.stands.precharge_y where
    go : (c a p : ℤ) (h k rows hp : ℕ) → h ≡ k → a ≡ c +ℤ pos k → p ≡ a +ℤ pos rows → (c +ℤ pos h) ≤ℤ (p +ℤ pos hp)
    go c a p h k rows hp e q r = omega (arith, ints, e, q, r)

  precharge_low : f.column_y ≤ℤ f.precharge_y
  precharge_low = subst (λ (z : ℤ). f.column_y ≤ℤ z) (sym laid.stands.precharge_y) (row_low (bank_rows plan * bit_height kit))

  mux_role : (n : ℕ) → 0 < n → column_role n ≡ Mux
  mux_role zero some = absurd (omega (arith, some))
  mux_role (suc n) some = refl

  tie_role : (n : ℕ) → n ≡ 0 → column_role n ≡ Tie
  tie_role n none = ap column_role none

  front_right : (b w : ℕ) (x : ℕ) → x + w ≤ drive_width plan kit → (bank_x f b (f.row_x +ℤ pos x) +ℤ pos w) ≤ℤ bank_x f b (columns_x plan kit f)
  front_right b w x le = go f.row_x (pos b *ℤ f.bank_width) x w (drive_width plan kit) le where
    go : (row q : ℤ) (x w d : ℕ) → x + w ≤ d → (((row +ℤ pos x) +ℤ q) +ℤ pos w) ≤ℤ ((row +ℤ pos d) +ℤ q)
    go row q x w d le = omega (arith, ints, le)

  front_left : (b x : ℕ) → bank_x f b f.row_x ≤ℤ bank_x f b (f.row_x +ℤ pos x)
  front_left b x = go f.row_x (pos b *ℤ f.bank_width) x where
    go : (row q : ℤ) (x : ℕ) → (row +ℤ q) ≤ℤ ((row +ℤ pos x) +ℤ q)
    go row q x = omega (arith, ints)

  gate_right : (b : ℕ) → (bank_x f b f.row_x +ℤ pos (gate_width plan kit)) ≤ℤ bank_x f b (columns_x plan kit f)
  gate_right b = go f.row_x (pos b *ℤ f.bank_width) (gate_width plan kit) (kit.width Driver) where
    go : (row q : ℤ) (w d : ℕ) → ((row +ℤ q) +ℤ pos w) ≤ℤ ((row +ℤ pos (w + d)) +ℤ q)
    go row q w d = omega (arith, ints)

  slice_low : f.write_y ≤ℤ f.sense_y
  slice_low = subst (λ (z : ℤ). f.write_y ≤ℤ z) (sym laid.stands.sense_y) (go f.write_y (write_height plan kit)) where
    go : (y : ℤ) (h : ℕ) → y ≤ℤ (y +ℤ pos h)
    go y h = omega (arith, ints)

  write_high : (f.write_y +ℤ pos (kit.height Write)) ≤ℤ column_channel_y kit f
  write_high = go f.write_y f.sense_y (write_height plan kit) (kit.height Write) (kit.height Sense) (written_all plan.write_size (kit.height Write) laid.written) laid.stands.sense_y where
    go : (y s : ℤ) (w h k : ℕ) → w ≡ h → s ≡ y +ℤ pos w → (y +ℤ pos h) ≤ℤ (s +ℤ pos k)
    go y s w h k e is = omega (arith, ints, e, is)

  -- each shape that an instance's cell draws, where the cell's shapes pass it by so much at most
  pub in_zone : (leaf : LeafInstance) (place : Place) (inner s : Shape) → HasLeafInstance plan leaf → IsPlaceOf plan kit f leaf place → PassesAtMost by (kit.width (role plan leaf)) (kit.height (role plan leaf)) inner.rect → IsMoved place inner s
      → LiesNear by (zone_of plan kit f leaf place) s.rect
  in_zone (BitAt b r c) place inner s has is passes moved = let x = bank_x f b (column_x plan kit f c) in in_row r (kit.width Bitcell) (kit.height Bitcell) x x (x +ℤ pos (kit.width Bitcell)) place inner s has.1.0 refl is (same x) (same (x +ℤ pos (kit.width Bitcell))) passes moved
  in_zone (NandAt b r) place inner s has is passes moved =
      in_row r (gate_width plan kit) (kit.height (row_gate plan.groups)) (bank_x f b f.row_x) (bank_x f b f.row_x) (bank_x f b (columns_x plan kit f)) place inner s has.1 laid.fits.gate is (same (bank_x f b f.row_x)) (gate_right b) passes moved
  in_zone (DriverAt b r) place inner s has is passes moved =
      in_row r (kit.width Driver) (kit.height Driver) (bank_x f b (f.row_x +ℤ pos (gate_width plan kit))) (bank_x f b f.row_x) (bank_x f b (columns_x plan kit f)) place inner s has.1 laid.fits.driver is (front_left b (gate_width plan kit)) (front_right b (kit.width Driver) (gate_width plan kit) (omega arith)) passes moved
  in_zone (PrechargeAt b c) place inner s has is passes moved =
      let x = bank_x f b (column_x plan kit f c) in
      at x f.precharge_y (kit.width Precharge) (kit.height Precharge) (column_zone plan kit f b c) place inner s is (same x) (up_to x (kit.width Precharge) (kit.width Bitcell) (let e = laid.fits.precharge in omega (arith, e))) precharge_low (same (upper_y kit f)) passes moved
  in_zone (MuxAt b c) place inner s has is passes moved =
      let x = bank_x f b (column_x plan kit f c) in
      at x f.column_y (kit.width Mux) (kit.height Mux) (column_zone plan kit f b c) place inner s is (same x) (up_to x (kit.width Mux) (kit.width Bitcell) (let e = laid.fits.mux in omega (arith, e))) column_low (column_high 0 Mux (mux_role plan.col_bits has.1.1)) passes moved
  in_zone (TieAt b c) place inner s has is passes moved =
      let x = bank_x f b (column_x plan kit f c) in
      at x f.column_y (kit.width Tie) (kit.height Tie) (column_zone plan kit f b c) place inner s is (same x) (up_to x (kit.width Tie) (kit.width Bitcell) (let e = laid.fits.tie in omega (arith, e))) column_low (column_high 0 Tie (tie_role plan.col_bits has.1.1)) passes moved
  in_zone (WriteAt b i) place inner s has is passes moved =
      let x = bank_x f b (column_x plan kit f (i * words_per_row plan)) in
      at x f.write_y (kit.width Write) (kit.height Write) (slice_zone plan kit f b i) place inner s is (same x) (up_to x (kit.width Write) (words_per_row plan * kit.width Bitcell) laid.fits.write) (same f.write_y) write_high passes moved
  in_zone (SenseAt b i) place inner s has is passes moved =
      let x = bank_x f b (column_x plan kit f (i * words_per_row plan)) in
      at x f.sense_y (kit.width Sense) (kit.height Sense) (slice_zone plan kit f b i) place inner s is (same x) (up_to x (kit.width Sense) (words_per_row plan * kit.width Bitcell) laid.fits.sense) slice_low (same (column_channel_y kit f)) passes moved
  in_zone (LogicAt cell) place inner s has is passes moved =
      let x = place.at.x in
      let w = kit.width (role plan (LogicAt cell)) in
      at x (pos 0) w (kit.height (role plan (LogicAt cell))) (zone_of plan kit f (LogicAt cell) place) place inner s (is.at ∙ ap (λ (z : ℤ). upright z (pos 0)) (sym (ap (λ (p : Place). p.at.x) is.at))) (same x) (same (x +ℤ pos w)) (same (pos 0))
      (low_up (kit.height (role plan (LogicAt cell))) (kit.height Inv) (laid.fits.logic cell)) passes moved
    where
      low_up : (h k : ℕ) → h ≡ k → (pos 0 +ℤ pos h) ≤ℤ pos k
      low_up h k e = omega (arith, ints, e)
