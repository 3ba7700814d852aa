-- Instances of a bank have counterparts in a small memory, some slices before them.
use Rattle.std.proofs.Common.{◌≡◌, ◌∙◌, ℕ, ◌+◌, ◌*◌, ◌%◌, ◌<◌, ◌==◌, ℤ, pos, ◌+ℤ◌, ◌-ℤ◌, ◌*ℤ◌, refl, sym, ap, subst, arith}
use Rattle.std.proofs.Math.Nat.{add-mul}
use Rattle.std.proofs.lemmas.Int.{ints}
use Rattle.or_geom.specs.declared.place.Place.{Place}
use Rattle.tech_rules.specs.declared.tech.Wire.{Wire}
use Rattle.sram_netlist.specs.Organization.{Organization, words_per_row, columns_of, bank_rows}
use Rattle.sram_netlist.specs.Instances.{LeafInstance, BitAt, NandAt, DriverAt, PrechargeAt, WriteAt, SenseAt, MuxAt, TieAt, LogicAt}
use Rattle.sram_netlist.specs.Membership.{HasLeafInstance}
use Rattle.macro_layout.specs.LayoutKit.{LayoutKit}
use Rattle.macro_layout.specs.Places.{Floorplan, IsPlaceOf, bank_x, column_x, bit_width, bit_height, gate_width, drive_width, in_row_at, upright}
use Rattle.macro_layout.specs.Floorplan.{Tracks, IsFloorplan, column_role, write_height}
use Rattle.good_places.specs.Beside.{moved_place}
use Rattle.good_places.specs.Windows.{with_bits}
use Rattle.good_places.proofs.EdgeLaws.{place_at, moved_choice}
use Rattle.good_places.proofs.LaidLaws.{written_all}
use Rattle.seen_pairs.specs.Counterpart.{IsOfColumns, IsOfFronts, IsOfSlices, leaf_bank, number_of, right_by, columns_up, slices_up, IsCounterpart}

module _ (plan : Organization) (kit : LayoutKit) (wire : Wire) (tracks many : Tracks) (f g : Floorplan) (word write masks : ℕ) (stands : IsFloorplan plan kit wire tracks f) (stands_there : IsFloorplan (with_bits plan word write masks) kit wire many g) (some : 0 < plan.write_size) (some_there : 0 < write) where
  abbrev other : Organization
  other = with_bits plan word write masks

  pub same_row : g.row_x ≡ f.row_x
  same_row = stands_there.row_x ∙ sym stands.row_x

  pub array_up : f.array_y +ℤ columns_up f g ≡ g.array_y
  array_up = go f.array_y f.column_y g.array_y g.column_y (kit.height (column_role plan.col_bits)) stands.array_y stands_there.array_y where
    go : (a c b e : ℤ) (h : ℕ) → a ≡ c +ℤ pos h → b ≡ e +ℤ pos h → a +ℤ (e -ℤ c) ≡ b
    go a c b e h p q = omega (arith, ints, p, q)

  pub precharge_up : f.precharge_y +ℤ columns_up f g ≡ g.precharge_y
  precharge_up = go f.precharge_y f.array_y g.precharge_y g.array_y (columns_up f g) (bank_rows plan * bit_height kit) stands.precharge_y stands_there.precharge_y array_up where
    go : (a c b e d : ℤ) (h : ℕ) → a ≡ c +ℤ pos h → b ≡ e +ℤ pos h → c +ℤ d ≡ e → a +ℤ d ≡ b
    go a c b e d h p q r = omega (arith, ints, p, q, r)

  pub sense_up : f.sense_y +ℤ slices_up f g ≡ g.sense_y
  sense_up = go f.sense_y f.write_y g.sense_y g.write_y (write_height plan kit) (write_height other kit) (written_all plan.write_size _ some ∙ sym (written_all write _ some_there)) stands.sense_y stands_there.sense_y where
    go : (a c b e : ℤ) (h k : ℕ) → h ≡ k → a ≡ c +ℤ pos h → b ≡ e +ℤ pos k → a +ℤ (e -ℤ c) ≡ b
    go a c b e h k s p q = omega (arith, ints, s, p, q)

  pub back_to : (x y : ℤ) → x +ℤ (y -ℤ x) ≡ y
  back_to x y = omega (arith, ints)

  row_up : (h : ℕ) → (f.array_y +ℤ pos h) +ℤ columns_up f g ≡ g.array_y +ℤ pos h
  row_up h = go f.array_y g.array_y (columns_up f g) h array_up where
    go : (a b d : ℤ) (h : ℕ) → a +ℤ d ≡ b → (a +ℤ pos h) +ℤ d ≡ b +ℤ pos h
    go a b d h e = omega (arith, ints, e)

  -- so many columns further left
  pub column_right : (b c d m : ℕ) → c ≡ d + m * words_per_row plan → bank_x f b (column_x plan kit f c) +ℤ right_by plan kit f g b m ≡ bank_x g b (column_x other kit g d)
  column_right b c d m sum = go f.row_x g.row_x (drive_width plan kit) (pos b *ℤ f.bank_width) (pos b *ℤ g.bank_width) (c * bit_width kit) (d * bit_width kit) ((m * words_per_row plan) * bit_width kit) same_row (ap (λ (n : ℕ). n * bit_width kit) sum ∙ add-mul d (m * words_per_row plan) (bit_width kit)) where
    go : (rf rg : ℤ) (w : ℕ) (qf qg : ℤ) (c d m : ℕ) → rg ≡ rf → c ≡ d + m → (((rf +ℤ pos w) +ℤ pos c) +ℤ qf) +ℤ ((qg -ℤ qf) -ℤ pos m) ≡ ((rg +ℤ pos w) +ℤ pos d) +ℤ qg
    go rf rg w qf qg c d m e s = omega (arith, ints, e, s)

  pub front_right : (b w : ℕ) → bank_x f b (f.row_x +ℤ pos w) +ℤ right_by plan kit f g b 0 ≡ bank_x g b (g.row_x +ℤ pos w)
  front_right b w = go f.row_x g.row_x w (pos b *ℤ f.bank_width) (pos b *ℤ g.bank_width) ((0 * words_per_row plan) * bit_width kit) same_row (none (words_per_row plan) (bit_width kit)) where
    none : (w v : ℕ) → (0 * w) * v ≡ 0
    none w v = omega arith

    go : (rf rg : ℤ) (w : ℕ) (qf qg : ℤ) (m : ℕ) → rg ≡ rf → m ≡ 0 → ((rf +ℤ pos w) +ℤ qf) +ℤ ((qg -ℤ qf) -ℤ pos m) ≡ (rg +ℤ pos w) +ℤ qg
    go rf rg w qf qg m e z = omega (arith, ints, e, z)

  pub row_right : (b : ℕ) → bank_x f b f.row_x +ℤ right_by plan kit f g b 0 ≡ bank_x g b g.row_x
  row_right b = go (bank_x f b f.row_x) (bank_x g b g.row_x) f.row_x g.row_x (pos b *ℤ f.bank_width) (pos b *ℤ g.bank_width) (right_by plan kit f g b 0) refl refl (front_right b 0) where
    go : (x y rf rg qf qg d : ℤ) → x ≡ rf +ℤ qf → y ≡ rg +ℤ qg → ((rf +ℤ pos 0) +ℤ qf) +ℤ d ≡ (rg +ℤ pos 0) +ℤ qg → x +ℤ d ≡ y
    go x y rf rg qf qg d p q e = omega (arith, ints, p, q, e)

  pub in_row : (r : ℕ) (dx x u : ℤ) (place : Place) → place ≡ in_row_at kit f.array_y r x → x +ℤ dx ≡ u → moved_place dx (columns_up f g) place ≡ in_row_at kit g.array_y r u
  in_row r dx x u place is e = moved_choice (r % 2 == 0) dx (columns_up f g) x (f.array_y +ℤ pos (r * bit_height kit)) (f.array_y +ℤ pos ((r + 1) * bit_height kit)) u (g.array_y +ℤ pos (r * bit_height kit)) (g.array_y +ℤ pos ((r + 1) * bit_height kit)) place is e
      (row_up (r * bit_height kit)) (row_up ((r + 1) * bit_height kit))

  pub at : (dx dy x y u v : ℤ) (place : Place) → place ≡ upright x y → x +ℤ dx ≡ u → y +ℤ dy ≡ v → moved_place dx dy place ≡ upright u v
  at dx dy x y u v place is p q = ap (moved_place dx dy) is ∙ place_at (x +ℤ dx) (y +ℤ dy) u v p q

  abbrev Found : ℕ → ℤ → LeafInstance → Place → Type 0
  Found m dy leaf place = IsCounterpart plan kit g word write masks m (right_by plan kit f g (leaf_bank leaf) m) dy leaf place

  abbrev pub bit_counter : (b r c : ℕ) (place : Place) → HasLeafInstance plan (BitAt b r c) → IsPlaceOf plan kit f (BitAt b r c) place → (d m : ℕ) → c ≡ d + m * words_per_row plan → d < columns_of other → Found m (columns_up f g) (BitAt b r c) place
  bit_counter b r c place has is d m sum lt = record { there = BitAt b r d; has = (has.0, (has.1.0, lt)); inside = tt; is = ap (BitAt b r) sum; stands = in_row r (right_by plan kit f g b m) (bank_x f b (column_x plan kit f c)) (bank_x g b (column_x other kit g d)) place is (column_right b c d m sum); same_role = refl }

  abbrev pub precharge_counter : (b c : ℕ) (place : Place) → HasLeafInstance plan (PrechargeAt b c) → IsPlaceOf plan kit f (PrechargeAt b c) place → (d m : ℕ) → c ≡ d + m * words_per_row plan → d < columns_of other → Found m (columns_up f g) (PrechargeAt b c) place
  precharge_counter b c place has is d m sum lt = record {
    there = PrechargeAt b d;
    has = (has.0, lt);
    inside = tt;
    is = ap (PrechargeAt b) sum;
    stands = at (right_by plan kit f g b m) (columns_up f g) (bank_x f b (column_x plan kit f c)) f.precharge_y (bank_x g b (column_x other kit g d)) g.precharge_y place is (column_right b c d m sum) precharge_up;
    same_role = refl;
  }

  abbrev pub mux_counter : (b c : ℕ) (place : Place) → HasLeafInstance plan (MuxAt b c) → IsPlaceOf plan kit f (MuxAt b c) place → (d m : ℕ) → c ≡ d + m * words_per_row plan → d < columns_of other → Found m (columns_up f g) (MuxAt b c) place
  mux_counter b c place has is d m sum lt = record {
    there = MuxAt b d;
    has = (has.0, (lt, has.1.1));
    inside = tt;
    is = ap (MuxAt b) sum;
    stands = at (right_by plan kit f g b m) (columns_up f g) (bank_x f b (column_x plan kit f c)) f.column_y (bank_x g b (column_x other kit g d)) g.column_y place is (column_right b c d m sum) (back_to f.column_y g.column_y);
    same_role = refl;
  }

  abbrev pub tie_counter : (b c : ℕ) (place : Place) → HasLeafInstance plan (TieAt b c) → IsPlaceOf plan kit f (TieAt b c) place → (d m : ℕ) → c ≡ d + m * words_per_row plan → d < columns_of other → Found m (columns_up f g) (TieAt b c) place
  tie_counter b c place has is d m sum lt = record {
    there = TieAt b d;
    has = (has.0, (lt, has.1.1));
    inside = tt;
    is = ap (TieAt b) sum;
    stands = at (right_by plan kit f g b m) (columns_up f g) (bank_x f b (column_x plan kit f c)) f.column_y (bank_x g b (column_x other kit g d)) g.column_y place is (column_right b c d m sum) (back_to f.column_y g.column_y);
    same_role = refl;
  }

  -- An instance of a column has one in the column so many slices before.
  pub column_counter : (leaf : LeafInstance) (place : Place) → IsOfColumns leaf → HasLeafInstance plan leaf → IsPlaceOf plan kit f leaf place → (d m : ℕ) → number_of leaf ≡ d + m * words_per_row plan → d < columns_of other → Found m (columns_up f g) leaf place
  column_counter (BitAt b r c) place of has is d m sum lt = bit_counter b r c place has is d m sum lt
  column_counter (PrechargeAt b c) place of has is d m sum lt = precharge_counter b c place has is d m sum lt
  column_counter (MuxAt b c) place of has is d m sum lt = mux_counter b c place has is d m sum lt
  column_counter (TieAt b c) place of has is d m sum lt = tie_counter b c place has is d m sum lt
  column_counter (NandAt b r) place of has is d m sum lt = absurd of
  column_counter (DriverAt b r) place of has is d m sum lt = absurd of
  column_counter (WriteAt b i) place of has is d m sum lt = absurd of
  column_counter (SenseAt b i) place of has is d m sum lt = absurd of
  column_counter (LogicAt cell) place of has is d m sum lt = absurd of

  abbrev pub nand_counter : (b r : ℕ) (place : Place) → HasLeafInstance plan (NandAt b r) → IsPlaceOf plan kit f (NandAt b r) place → Found 0 (columns_up f g) (NandAt b r) place
  nand_counter b r place has is = record { there = NandAt b r; has = has; inside = tt; is = refl; stands = in_row r (right_by plan kit f g b 0) (bank_x f b f.row_x) (bank_x g b g.row_x) place is (row_right b); same_role = refl }

  abbrev pub driver_counter : (b r : ℕ) (place : Place) → HasLeafInstance plan (DriverAt b r) → IsPlaceOf plan kit f (DriverAt b r) place → Found 0 (columns_up f g) (DriverAt b r) place
  driver_counter b r place has is = record {
    there = DriverAt b r;
    has = has;
    inside = tt;
    is = refl;
    stands = in_row r (right_by plan kit f g b 0) (bank_x f b (f.row_x +ℤ pos (gate_width plan kit))) (bank_x g b (g.row_x +ℤ pos (gate_width plan kit))) place is (front_right b (gate_width plan kit));
    same_role = refl;
  }

  -- The gates and drivers of a bank's rows have their own.
  pub front_counter : (leaf : LeafInstance) (place : Place) → IsOfFronts leaf → HasLeafInstance plan leaf → IsPlaceOf plan kit f leaf place → Found 0 (columns_up f g) leaf place
  front_counter (NandAt b r) place of has is = nand_counter b r place has is
  front_counter (DriverAt b r) place of has is = driver_counter b r place has is
  front_counter (BitAt b r c) place of has is = absurd of
  front_counter (PrechargeAt b c) place of has is = absurd of
  front_counter (MuxAt b c) place of has is = absurd of
  front_counter (TieAt b c) place of has is = absurd of
  front_counter (WriteAt b i) place of has is = absurd of
  front_counter (SenseAt b i) place of has is = absurd of
  front_counter (LogicAt cell) place of has is = absurd of

  pub slice_sum : (i j m w : ℕ) → i ≡ j + m → i * w ≡ j * w + m * w
  slice_sum i j m w e = ap (λ (n : ℕ). n * w) e ∙ add-mul j m w

  abbrev pub write_counter : (b i : ℕ) (place : Place) → HasLeafInstance plan (WriteAt b i) → IsPlaceOf plan kit f (WriteAt b i) place → (j m : ℕ) → i ≡ j + m → j < word → Found m (slices_up f g) (WriteAt b i) place
  write_counter b i place has is j m sum lt = record {
    there = WriteAt b j;
    has = (has.0, subst (λ (n : ℕ). j < n) (sym (written_all write word some_there)) lt);
    inside = tt;
    is = ap (WriteAt b) sum;
    stands = at (right_by plan kit f g b m) (slices_up f g) (bank_x f b (column_x plan kit f (i * words_per_row plan))) f.write_y (bank_x g b (column_x other kit g (j * words_per_row plan))) g.write_y place is (column_right b (i * words_per_row plan) (j * words_per_row plan) m (slice_sum i j m (words_per_row plan) sum)) (back_to f.write_y g.write_y);
    same_role = refl;
  }

  abbrev pub sense_counter : (b i : ℕ) (place : Place) → HasLeafInstance plan (SenseAt b i) → IsPlaceOf plan kit f (SenseAt b i) place → (j m : ℕ) → i ≡ j + m → j < word → Found m (slices_up f g) (SenseAt b i) place
  sense_counter b i place has is j m sum lt = record {
    there = SenseAt b j;
    has = (has.0, lt);
    inside = tt;
    is = ap (SenseAt b) sum;
    stands = at (right_by plan kit f g b m) (slices_up f g) (bank_x f b (column_x plan kit f (i * words_per_row plan))) f.sense_y (bank_x g b (column_x other kit g (j * words_per_row plan))) g.sense_y place is (column_right b (i * words_per_row plan) (j * words_per_row plan) m (slice_sum i j m (words_per_row plan) sum)) sense_up;
    same_role = refl;
  }

  -- An instance of a slice has one in the slice so many before.
  pub slice_counter : (leaf : LeafInstance) (place : Place) → IsOfSlices leaf → HasLeafInstance plan leaf → IsPlaceOf plan kit f leaf place → (j m : ℕ) → number_of leaf ≡ j + m → j < word → Found m (slices_up f g) leaf place
  slice_counter (WriteAt b i) place of has is j m sum lt = write_counter b i place has is j m sum lt
  slice_counter (SenseAt b i) place of has is j m sum lt = sense_counter b i place has is j m sum lt
  slice_counter (BitAt b r c) place of has is j m sum lt = absurd of
  slice_counter (NandAt b r) place of has is j m sum lt = absurd of
  slice_counter (DriverAt b r) place of has is j m sum lt = absurd of
  slice_counter (PrechargeAt b c) place of has is j m sum lt = absurd of
  slice_counter (MuxAt b c) place of has is j m sum lt = absurd of
  slice_counter (TieAt b c) place of has is j m sum lt = absurd of
  slice_counter (LogicAt cell) place of has is j m sum lt = absurd of
