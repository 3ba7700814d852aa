-- Leaf instances stand within a macro's contents: those of a bank within the bank, below its upper edge.
use Rattle.std.proofs.Common.{◌≡◌, inl, ℕ, zero, suc, ◌+◌, ◌*◌, ◌<◌, ◌≤◌, ◌%◌, ℤ, pos, ◌+ℤ◌, ◌*ℤ◌, ◌≤ℤ◌, ◌<ℤ◌, List, [], ◌∷◌, ◌++◌, length, refl, sym, ap, subst, ◌∙◌, arith}
use Rattle.std.specs.Prelude.{◌==◌}
use Rattle.std.proofs.Math.Nat.{mul_assoc}
use Rattle.std.proofs.lemmas.Int.{ints}
use Rattle.or_geom.specs.declared.shape.Rect.{Rect}
use Rattle.or_geom.specs.declared.place.Place.{Place}
use Rattle.cell_roles.specs.declared.role.Role.{Role}
use Rattle.cell_roles.specs.declared.role.Role.TheVariants.{Bitcell, Precharge, Mux, Tie, Sense, Write, Driver, Inv}
use Rattle.tech_rules.specs.declared.tech.Wire.{Wire}
use Rattle.wire_drawing.specs.Drawing.{pitch}
use Rattle.sram_netlist.specs.Organization.{Organization, words_per_row, bank_rows, columns_of, banks_of}
use Rattle.sram_netlist.specs.Nets.{Net}
use Rattle.sram_netlist.specs.Instances.{LogicCell, LeafInstance, Clki, Csd, Wed, Csi, Wei, Wln, Wli, Wrn, Wri, Rdn, Rdi, Dlay, Senn, Seni, Ad, Ai, Dd, Dm, Pn, Pi, Ln, Li, Kn, Ki, Gn, Gi, BitAt, NandAt, DriverAt, PrechargeAt, WriteAt, SenseAt, MuxAt, TieAt, LogicAt}
use Rattle.sram_netlist.specs.Netlist.{role, row_gate, gate_of, logic_role, enable_inputs}
use Rattle.sram_netlist.specs.InstanceList.{logic_cells}
use Rattle.sram_netlist.specs.Membership.{HasLeafInstance}
use Rattle.sram_netlist.proofs.Bounds.{written_fits, some_written, written_all}
use Rattle.macro_layout.specs.LayoutKit.{LayoutKit}
use Rattle.macro_layout.specs.Places.{Floorplan, upright, in_row_at, bank_x, bit_width, bit_height, gate_width, drive_width, columns_x, column_x, total_width, IsPlaceOf}
use Rattle.macro_layout.specs.Floorplan.{Tracks, column_role, column_channel_y, upper_y}
use Rattle.macro_layout.specs.Wires.{row_y}
use Rattle.macro_layout.specs.Channels.{IsPinFrom}
use Rattle.view_cover.proofs.NumberLaws.{one_more, all_of, some_of, banks_before, banks_right}
use Rattle.view_cover.specs.Bits.{LiesWithin}
use Rattle.view_cover.proofs.PlaceLaws.{StandsIn, image_within, row_at}
use Rattle.view_cover.proofs.FitLaws.{IsLogicRole, FitsWires, AreGiven, contents_end, rises, reaches, logic_ends}

-- Roles

pub gate_tall : (kit : LayoutKit) (wire : Wire) (groups : List ℕ) → FitsWires kit wire → kit.height (row_gate groups) ≡ kit.height Bitcell
gate_tall kit wire [] fits = fits.nand2
gate_tall kit wire (a ∷ []) fits = fits.nand2
gate_tall kit wire (a ∷ b ∷ []) fits = fits.nand2
gate_tall kit wire (a ∷ b ∷ c ∷ groups) fits = fits.nand3

gate_is : (n : ℕ) → IsLogicRole (gate_of n)
gate_is zero = tt
gate_is (suc zero) = tt
gate_is (suc (suc zero)) = tt
gate_is (suc (suc (suc n))) = tt

pub logic_is : (plan : Organization) (cell : LogicCell) → IsLogicRole (logic_role plan cell)
logic_is plan Clki = tt
logic_is plan Csd = tt
logic_is plan Wed = tt
logic_is plan Csi = tt
logic_is plan Wei = tt
logic_is plan Wln = tt
logic_is plan Wli = tt
logic_is plan Wrn = tt
logic_is plan Wri = tt
logic_is plan Rdn = tt
logic_is plan Rdi = tt
logic_is plan Dlay = tt
logic_is plan Senn = tt
logic_is plan Seni = tt
logic_is plan (Ad i) = tt
logic_is plan (Ai i) = tt
logic_is plan (Dd i) = tt
logic_is plan (Dm m) = tt
logic_is plan (Pn o b k) = gate_is b
logic_is plan (Pi o b k) = tt
logic_is plan (Ln bank) = tt
logic_is plan (Li bank) = tt
logic_is plan (Kn bank) = tt
logic_is plan (Ki bank) = tt
logic_is plan (Gn bank m) = gate_is (length (enable_inputs plan bank m))
logic_is plan (Gi bank m) = tt

mux_role : (n : ℕ) → 0 < n → column_role n ≡ Mux
mux_role zero lt = absurd (omega (arith, lt))
mux_role (suc n) lt = refl

tie_role : (n : ℕ) → n ≡ 0 → column_role n ≡ Tie
tie_role zero e = refl
tie_role (suc n) e = absurd (omega (arith, e))

-- Numbers

-- a bit's cell lies within the columns
slice_fits : (i n m b w : ℕ) → i < n → w ≤ m * b → (i * m) * b + w ≤ (n * m) * b
slice_fits i n m b w lt small =
    let le = some_of i n (m * b) w lt small in
    let here = mul_assoc i m b in
    let all = mul_assoc n m b in
    omega (arith, le, here, all)

none_before : (n : ℕ) → n ≡ 0 + n
none_before n = omega arith

total_split : (plan : Organization) (kit : LayoutKit) (before cells : List LogicCell) → total_width plan kit (before ++ cells) ≡ total_width plan kit before + total_width plan kit cells
total_split plan kit [] cells = none_before (total_width plan kit cells)
total_split plan kit (c ∷ before) cells = let rest = total_split plan kit before cells in omega (arith, rest)

in_columns : (x w all : ℕ) (start bank : ℤ) → x + w ≤ all → bank ≡ start +ℤ pos all → ((start +ℤ pos x) +ℤ pos w) ≤ℤ bank
in_columns x w all start bank le is = omega (arith, ints, le, is)

after : (start row : ℤ) (x : ℕ) → row ≤ℤ start → row ≤ℤ (start +ℤ pos x)
after start row x le = omega (arith, ints, le)

-- a place in a bank, as the bank stands
moved_right : (a b dx : ℤ) → a ≤ℤ b → (a +ℤ dx) ≤ℤ (b +ℤ dx)
moved_right a b dx le = omega (arith, ints, le)

moved_end : (x w b dx : ℤ) → (x +ℤ w) ≤ℤ b → ((x +ℤ dx) +ℤ w) ≤ℤ (b +ℤ dx)
moved_end x w b dx le = omega (arith, ints, le)

row_under : (y0 y1 : ℤ) (r rows b : ℕ) → r * b + b ≤ rows * b → y1 ≡ y0 +ℤ pos (rows * b) → ((y0 +ℤ pos (r * b)) +ℤ pos b) ≤ℤ y1
row_under y0 y1 r rows b le is = omega (arith, ints, le, is)

next_row : (y : ℤ) (r b : ℕ) → y +ℤ pos ((r + 1) * b) ≡ (y +ℤ pos (r * b)) +ℤ pos b
next_row y r b = let more = one_more r b in omega (arith, ints, more)

low_row : (y : ℤ) (n : ℕ) → pos 0 ≤ℤ y → pos 0 ≤ℤ (y +ℤ pos n)
low_row y n le = omega (arith, ints, le)

-- Instances

pub taller : (left right high more : ℤ) (w h : ℕ) (place : Place) → StandsIn left right high w h place → high ≤ℤ more → StandsIn left right more w h place
taller left right high more w h place is le = let below = is.below in record { x = is.x; y = is.y; at = is.at; from = is.from; to = is.to; above = is.above; below = omega (arith, ints, below, le) }

pub stands_wider : (left right high left2 right2 : ℤ) (w h : ℕ) (place : Place) → StandsIn left right high w h place → left2 ≤ℤ left → right ≤ℤ right2 → StandsIn left2 right2 high w h place
stands_wider left right high left2 right2 w h place is a b = let from = is.from in let to = is.to in record { x = is.x; y = is.y; at = is.at; from = omega (arith, ints, from, a); to = omega (arith, ints, to, b); above = is.above; below = is.below }

module _ (plan : Organization) (kit : LayoutKit) (wire : Wire) (tracks : Tracks) (f : Floorplan) (g : AreGiven plan kit wire tracks f) where
  -- in bank b
  abbrev pub InBank : ℕ → ℤ → ℕ → ℕ → Place → Type 0
  InBank b high = StandsIn (bank_x f b f.row_x) (bank_x f b f.bank_width) high

  upright_in : (b w h : ℕ) (x y high : ℤ) (place : Place) → place ≡ upright (bank_x f b x) y → f.row_x ≤ℤ x → (x +ℤ pos w) ≤ℤ f.bank_width → pos 0 ≤ℤ y → (y +ℤ pos h) ≤ℤ high → InBank b high w h place
  upright_in b w h x y high place at from to above below = record {
    x = bank_x f b x;
    y = y;
    at = inl at;
    from = moved_right f.row_x x (pos b *ℤ f.bank_width) from;
    to = moved_end x (pos w) f.bank_width (pos b *ℤ f.bank_width) to;
    above = above;
    below = below;
  }

  array_low : pos 0 ≤ℤ f.array_y
  array_low =
      let r = rises plan kit wire tracks f g in
      let a = r.wire in let b = r.to_inv in let c = r.to_write in let d = r.to_sense in let e = r.to_channel in let h = r.to_column in let i = r.to_array in
      omega (arith, ints, a, b, c, d, e, h, i)

  row_in : (b r w h : ℕ) (x : ℤ) (place : Place) → r < bank_rows plan → h ≡ bit_height kit → place ≡ in_row_at kit f.array_y r (bank_x f b x) → f.row_x ≤ℤ x → (x +ℤ pos w) ≤ℤ f.bank_width → InBank b f.precharge_y w h place
  row_in b r w h x place lt tall at from to = record {
    x = bank_x f b x;
    y = row_y kit f r;
    at = row_at (r % 2 == 0) (bank_x f b x) (row_y kit f r) (f.array_y +ℤ pos ((r + 1) * bit_height kit)) h place at (next_row f.array_y r (bit_height kit) ∙ ap (λ (n : ℕ). row_y kit f r +ℤ pos n) (sym tall));
    from = moved_right f.row_x x (pos b *ℤ f.bank_width) from;
    to = moved_end x (pos w) f.bank_width (pos b *ℤ f.bank_width) to;
    above = low_row f.array_y (r * bit_height kit) array_low;
    below = subst (λ (n : ℕ). (row_y kit f r +ℤ pos n) ≤ℤ f.precharge_y) (sym tall) (row_under f.array_y f.precharge_y r (bank_rows plan) (bit_height kit) (all_of r (bank_rows plan) (bit_height kit) lt) g.stands.precharge_y);
  }

  column_from : (x : ℕ) → f.row_x ≤ℤ (columns_x plan kit f +ℤ pos x)
  column_from x = after (columns_x plan kit f) f.row_x x (reaches plan kit wire tracks f g).to_columns

  column_to : (c w : ℕ) → c < columns_of plan → w ≡ bit_width kit → (column_x plan kit f c +ℤ pos w) ≤ℤ f.bank_width
  column_to c w lt is = in_columns (c * bit_width kit) w (columns_of plan * bit_width kit) (columns_x plan kit f) f.bank_width (some_of c (columns_of plan) (bit_width kit) w lt (omega (arith, is))) g.stands.bank_width

  slice_to : (i w : ℕ) → i < plan.word_size → w ≤ words_per_row plan * bit_width kit → (column_x plan kit f (i * words_per_row plan) +ℤ pos w) ≤ℤ f.bank_width
  slice_to i w lt small = in_columns ((i * words_per_row plan) * bit_width kit) w (columns_of plan * bit_width kit) (columns_x plan kit f) f.bank_width (slice_fits i plan.word_size (words_per_row plan) (bit_width kit) w lt small) g.stands.bank_width

  row_x_to : (x w : ℕ) → x + w ≤ drive_width plan kit → ((f.row_x +ℤ pos x) +ℤ pos w) ≤ℤ f.bank_width
  row_x_to x w le = by f.row_x f.bank_width (drive_width plan kit) x w (reaches plan kit wire tracks f g).to_bank le where
    by : (row bank : ℤ) (drive x w : ℕ) → (row +ℤ pos drive) ≤ℤ bank → x + w ≤ drive → ((row +ℤ pos x) +ℤ pos w) ≤ℤ bank
    by row bank drive x w e le = omega (arith, ints, e, le)

  begin_to : (w : ℕ) → w ≤ drive_width plan kit → (f.row_x +ℤ pos w) ≤ℤ f.bank_width
  begin_to w le = by f.row_x f.bank_width (drive_width plan kit) w (reaches plan kit wire tracks f g).to_bank le where
    by : (row bank : ℤ) (drive w : ℕ) → (row +ℤ pos drive) ≤ℤ bank → w ≤ drive → (row +ℤ pos w) ≤ℤ bank
    by row bank drive w e le = omega (arith, ints, e, le)

  same_row : f.row_x ≤ℤ f.row_x
  same_row = omega (arith, ints)

  pub gate_stands : (b r : ℕ) (place : Place) → HasLeafInstance plan (NandAt b r) → IsPlaceOf plan kit f (NandAt b r) place → InBank b f.precharge_y (kit.width (row_gate plan.groups)) (kit.height (row_gate plan.groups)) place
  gate_stands b r place has at = row_in b r (gate_width plan kit) (kit.height (row_gate plan.groups)) f.row_x place has.1 (gate_tall kit wire plan.groups g.fits) at same_row (begin_to (gate_width plan kit) (omega arith))

  pub driver_stands : (b r : ℕ) (place : Place) → HasLeafInstance plan (DriverAt b r) → IsPlaceOf plan kit f (DriverAt b r) place → InBank b f.precharge_y (kit.width Driver) (kit.height Driver) place
  driver_stands b r place has at = row_in b r (kit.width Driver) (kit.height Driver) (f.row_x +ℤ pos (gate_width plan kit)) place has.1 g.fits.driver at (after f.row_x f.row_x (gate_width plan kit) same_row) (row_x_to (gate_width plan kit) (kit.width Driver) (omega arith))

  bit_stands : (b r c : ℕ) (place : Place) → HasLeafInstance plan (BitAt b r c) → IsPlaceOf plan kit f (BitAt b r c) place → InBank b f.precharge_y (kit.width Bitcell) (kit.height Bitcell) place
  bit_stands b r c place has at = row_in b r (kit.width Bitcell) (kit.height Bitcell) (column_x plan kit f c) place has.1.0 refl at (column_from (c * bit_width kit)) (column_to c (kit.width Bitcell) has.1.1 refl)

  precharge_low : pos 0 ≤ℤ f.precharge_y
  precharge_low = let a = array_low in let b = (rises plan kit wire tracks f g).to_precharge in omega (arith, ints, a, b)

  write_low : pos 0 ≤ℤ f.write_y
  write_low = let r = rises plan kit wire tracks f g in let a = r.wire in let b = r.to_inv in let c = r.to_write in omega (arith, ints, a, b, c)

  sense_low : pos 0 ≤ℤ f.sense_y
  sense_low = let r = rises plan kit wire tracks f g in let a = write_low in let b = r.to_sense in let c = r.wire in omega (arith, ints, a, b, c)

  column_low : pos 0 ≤ℤ f.column_y
  column_low = let r = rises plan kit wire tracks f g in let a = sense_low in let b = r.to_channel in let c = r.wire in let d = r.to_column in omega (arith, ints, a, b, c, d)

  pub precharge_stands : (b c : ℕ) (place : Place) → HasLeafInstance plan (PrechargeAt b c) → IsPlaceOf plan kit f (PrechargeAt b c) place → InBank b (upper_y kit f) (kit.width Precharge) (kit.height Precharge) place
  precharge_stands b c place has at = upright_in b (kit.width Precharge) (kit.height Precharge) (column_x plan kit f c) f.precharge_y (upper_y kit f) place at (column_from (c * bit_width kit)) (column_to c (kit.width Precharge) has.1 g.fits.precharge) precharge_low (omega (arith, ints))

  -- the sense cells end where the column channel begins
  pub sense_stands : (b i : ℕ) (place : Place) → HasLeafInstance plan (SenseAt b i) → IsPlaceOf plan kit f (SenseAt b i) place → InBank b (column_channel_y kit f) (kit.width Sense) (kit.height Sense) place
  sense_stands b i place has at = upright_in b (kit.width Sense) (kit.height Sense) (column_x plan kit f (i * words_per_row plan)) f.sense_y (column_channel_y kit f) place at (column_from ((i * words_per_row plan) * bit_width kit)) (slice_to i (kit.width Sense) has.1 g.sense) sense_low (omega (arith, ints))

  write_stands : (b i : ℕ) (place : Place) → HasLeafInstance plan (WriteAt b i) → IsPlaceOf plan kit f (WriteAt b i) place → InBank b f.sense_y (kit.width Write) (kit.height Write) place
  write_stands b i place has at =
      let written = some_written plan.write_size plan.word_size i has.1 in
      let tall = written_all plan.write_size (kit.height Write) written in
      upright_in b (kit.width Write) (kit.height Write) (column_x plan kit f (i * words_per_row plan)) f.write_y f.sense_y place at (column_from ((i * words_per_row plan) * bit_width kit))
      (slice_to i (kit.width Write) (written_fits plan.write_size plan.word_size i has.1) (g.write written)) write_low (let is = g.stands.sense_y in omega (arith, ints, is, tall))

  column_up : (role : Role) → column_role plan.col_bits ≡ role → (f.column_y +ℤ pos (kit.height role)) ≤ℤ f.array_y
  column_up role is = subst (λ (r : Role). (f.column_y +ℤ pos (kit.height r)) ≤ℤ f.array_y) is (by f.column_y f.array_y (kit.height (column_role plan.col_bits)) g.stands.array_y) where
    by : (y array : ℤ) (h : ℕ) → array ≡ y +ℤ pos h → (y +ℤ pos h) ≤ℤ array
    by y array h e = omega (arith, ints, e)

  pub mux_stands : (b c : ℕ) (place : Place) → HasLeafInstance plan (MuxAt b c) → IsPlaceOf plan kit f (MuxAt b c) place → InBank b f.array_y (kit.width Mux) (kit.height Mux) place
  mux_stands b c place has at = upright_in b (kit.width Mux) (kit.height Mux) (column_x plan kit f c) f.column_y f.array_y place at (column_from (c * bit_width kit)) (column_to c (kit.width Mux) has.1.0 g.fits.mux) column_low (column_up Mux (mux_role plan.col_bits has.1.1))

  pub tie_stands : (b c : ℕ) (place : Place) → HasLeafInstance plan (TieAt b c) → IsPlaceOf plan kit f (TieAt b c) place → InBank b f.array_y (kit.width Tie) (kit.height Tie) place
  tie_stands b c place has at = upright_in b (kit.width Tie) (kit.height Tie) (column_x plan kit f c) f.column_y f.array_y place at (column_from (c * bit_width kit)) (column_to c (kit.width Tie) has.1.0 g.fits.tie) column_low (column_up Tie (tie_role plan.col_bits has.1.1))

  logic_to : (x : ℤ) (before cells all : List LogicCell) (cell : LogicCell) → all ≡ before ++ (cell ∷ cells) → ((x +ℤ pos (total_width plan kit before)) +ℤ pos (kit.width (role plan (LogicAt cell)))) ≤ℤ (x +ℤ pos (total_width plan kit all))
  logic_to x before cells all cell is =
      subst (λ (l : List LogicCell). ((x +ℤ pos (total_width plan kit before)) +ℤ pos (kit.width (role plan (LogicAt cell)))) ≤ℤ (x +ℤ pos (total_width plan kit l))) (sym is)
      (by x (total_width plan kit (before ++ (cell ∷ cells))) (total_width plan kit before) (kit.width (role plan (LogicAt cell))) (total_width plan kit cells) (total_split plan kit before (cell ∷ cells)))
    where
      by : (x : ℤ) (all a b c : ℕ) → all ≡ a + (b + c) → ((x +ℤ pos a) +ℤ pos b) ≤ℤ (x +ℤ pos all)
      by x all a b c e = omega (arith, ints, e)

  logic_up : (role : Role) → IsLogicRole role → (pos 0 +ℤ pos (kit.height role)) ≤ℤ pos (kit.height Inv)
  logic_up role is = let e = g.fits.logic role is in omega (arith, ints, e)

  pub logic_stands : (cell : LogicCell) (place : Place) → IsPlaceOf plan kit f (LogicAt cell) place → StandsIn (pitch wire) (contents_end plan kit f) (pos (kit.height Inv)) (kit.width (logic_role plan cell)) (kit.height (logic_role plan cell)) place
  logic_stands cell place is =
      let end = logic_ends (pos (banks_of plan) *ℤ f.bank_width) (f.logic_x +ℤ pos (total_width plan kit (logic_cells plan))) in
      let to = logic_to f.logic_x is.before is.after (logic_cells plan) cell is.row in
      let first = g.stands.logic_x in
      record {
        x = f.logic_x +ℤ pos (total_width plan kit is.before);
        y = pos 0;
        at = inl is.at;
        from = after f.logic_x (pitch wire) (total_width plan kit is.before) (omega (arith, ints, first));
        to = trans_le _ _ _ to end;
        above = omega (arith, ints);
        below = logic_up (logic_role plan cell) (logic_is plan cell);
      }
    where
      trans_le : (a b c : ℤ) → a ≤ℤ b → b ≤ℤ c → a ≤ℤ c
      trans_le a b c p q = omega (arith, ints, p, q)

  -- Bounds of the macro

  to_upper : (z : ℤ) → z ≤ℤ f.precharge_y → z ≤ℤ upper_y kit f
  to_upper z le = let r = rises plan kit wire tracks f g in let a = r.to_upper in let b = r.wire in omega (arith, ints, le, a, b)

  pub array_upper : f.array_y ≤ℤ upper_y kit f
  array_upper = to_upper f.array_y (rises plan kit wire tracks f g).to_precharge

  pub channel_upper : column_channel_y kit f ≤ℤ upper_y kit f
  channel_upper = let a = array_upper in let r = rises plan kit wire tracks f g in let b = r.to_array in let c = r.to_column in let d = r.wire in omega (arith, ints, a, b, c, d)

  pub sense_upper : f.sense_y ≤ℤ upper_y kit f
  sense_upper = let a = channel_upper in let r = rises plan kit wire tracks f g in let b = r.to_channel in let d = r.wire in omega (arith, ints, a, b, d)

  pub write_upper : f.write_y ≤ℤ upper_y kit f
  write_upper = let a = sense_upper in let r = rises plan kit wire tracks f g in let b = r.to_sense in let d = r.wire in omega (arith, ints, a, b, d)

  pub inv_upper : pos (kit.height Inv) ≤ℤ upper_y kit f
  inv_upper = let a = write_upper in let b = (rises plan kit wire tracks f g).to_write in omega (arith, ints, a, b)

  bank_low : pos 0 ≤ℤ f.bank_width
  bank_low = let r = reaches plan kit wire tracks f g in let a = r.pitch_up in let b = r.to_row in let c = r.to_columns in let d = r.to_bank in omega (arith, ints, a, b, c, d)

  -- bank b stands from a pitch on, and ends before the contents do
  pub bank_from : (b : ℕ) (x : ℤ) → pitch wire ≤ℤ x → pitch wire ≤ℤ bank_x f b x
  bank_from b x le = let right = banks_right b f.bank_width bank_low in by (pitch wire) x (pos b *ℤ f.bank_width) le right where
    by : (p x dx : ℤ) → p ≤ℤ x → pos 0 ≤ℤ dx → p ≤ℤ (x +ℤ dx)
    by p x dx a d = omega (arith, ints, a, d)

  pub bank_to : (b : ℕ) → b < banks_of plan → bank_x f b f.bank_width ≤ℤ contents_end plan kit f
  bank_to b lt = by (pos b *ℤ f.bank_width) f.bank_width (pos (banks_of plan) *ℤ f.bank_width) (contents_end plan kit f) (banks_before b (banks_of plan) f.bank_width lt bank_low) (reaches plan kit wire tracks f g).to_end where
    by : (dx w all end : ℤ) → (dx +ℤ w) ≤ℤ all → all ≤ℤ end → (w +ℤ dx) ≤ℤ end
    by dx w all end a d = omega (arith, ints, a, d)

  -- a leaf instance
  abbrev pub InMacro : ℕ → ℕ → Place → Type 0
  InMacro = StandsIn (pitch wire) (contents_end plan kit f) (upper_y kit f)

  in_macro : (b w h : ℕ) (high : ℤ) (place : Place) → b < banks_of plan → high ≤ℤ upper_y kit f → InBank b high w h place → InMacro w h place
  in_macro b w h high place lt up is =
      stands_wider (bank_x f b f.row_x) (bank_x f b f.bank_width) (upper_y kit f) (pitch wire) (contents_end plan kit f) w h place (taller (bank_x f b f.row_x) (bank_x f b f.bank_width) high (upper_y kit f) w h place is up) (bank_from b f.row_x (reaches plan kit wire tracks f g).to_row) (bank_to b lt)

  same : (z : ℤ) → z ≤ℤ z
  same z = omega (arith, ints)

  pub leaf_stands : (leaf : LeafInstance) (place : Place) → HasLeafInstance plan leaf → IsPlaceOf plan kit f leaf place → InMacro (kit.width (role plan leaf)) (kit.height (role plan leaf)) place
  leaf_stands (BitAt b r c) place has at = in_macro b (kit.width Bitcell) (kit.height Bitcell) f.precharge_y place has.0 (to_upper f.precharge_y (same f.precharge_y)) (bit_stands b r c place has at)
  leaf_stands (NandAt b r) place has at = in_macro b (kit.width (row_gate plan.groups)) (kit.height (row_gate plan.groups)) f.precharge_y place has.0 (to_upper f.precharge_y (same f.precharge_y)) (gate_stands b r place has at)
  leaf_stands (DriverAt b r) place has at = in_macro b (kit.width Driver) (kit.height Driver) f.precharge_y place has.0 (to_upper f.precharge_y (same f.precharge_y)) (driver_stands b r place has at)
  leaf_stands (PrechargeAt b c) place has at = in_macro b (kit.width Precharge) (kit.height Precharge) (upper_y kit f) place has.0 (same (upper_y kit f)) (precharge_stands b c place has at)
  leaf_stands (WriteAt b i) place has at = in_macro b (kit.width Write) (kit.height Write) f.sense_y place has.0 sense_upper (write_stands b i place has at)
  leaf_stands (SenseAt b i) place has at = in_macro b (kit.width Sense) (kit.height Sense) (column_channel_y kit f) place has.0 channel_upper (sense_stands b i place has at)
  leaf_stands (MuxAt b c) place has at = in_macro b (kit.width Mux) (kit.height Mux) f.array_y place has.0 array_upper (mux_stands b c place has at)
  leaf_stands (TieAt b c) place has at = in_macro b (kit.width Tie) (kit.height Tie) f.array_y place has.0 array_upper (tie_stands b c place has at)
  leaf_stands (LogicAt cell) place has at = taller (pitch wire) (contents_end plan kit f) (pos (kit.height Inv)) (upper_y kit f) (kit.width (logic_role plan cell)) (kit.height (logic_role plan cell)) place (logic_stands cell place at) inv_upper

  -- Pins

  -- a pin that begins at x lies in the same bounds
  pub pin_within : (leaf : LeafInstance) (port metal : ℕ) (net : Net) (left right high x : ℤ) (from : IsPinFrom plan kit f leaf port metal net x) → StandsIn left right high (kit.width (role plan leaf)) (kit.height (role plan leaf)) from.is.place
      → LiesWithin left (pos 0) right high from.rect
  pin_within leaf port metal net left right high x from is = image_within left right high (kit.width (role plan leaf)) (kit.height (role plan leaf)) from.is.place (kit.pin (role plan leaf) port metal) from.rect is (g.fits.inside (role plan leaf) port metal) from.is.image

  pub begins_within : (left right high x : ℤ) (r : Rect) → LiesWithin left (pos 0) right high r → x ≡ r.x1 → (left ≤ℤ x) × (x <ℤ right)
  begins_within left right high x r is at = let from = is.from in let to = is.to in let wide = r.wide in (omega (arith, ints, from, at), omega (arith, ints, to, wide, at))
