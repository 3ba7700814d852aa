-- A tap of a memory stands in each memory with the same rows, words in a row and banks.
use Rattle.std.proofs.Common.{◌≡◌, inl, inr, ◌∙◌, ℕ, ◌+◌, ◌*◌, ◌%◌, ◌==◌, ◌<◌, ℤ, pos, ◌+ℤ◌, ◌-ℤ◌, ◌*ℤ◌, ◌<ℤ◌, refl, sym, ap, subst, arith}
use Rattle.std.specs.Prelude.{slice_index, slice_get, Some}
use Rattle.std.proofs.lemmas.Int.{ints}
use Rattle.or_geom.specs.declared.shape.Rect.{Rect}
use Rattle.or_geom.specs.declared.shape.Shape.{Shape}
use Rattle.or_geom.specs.declared.place.Place.{Place}
use Rattle.or_geom.specs.Place.{placed, IsImage}
use Rattle.cell_roles.specs.declared.role.Role.{Role}
use Rattle.cell_roles.specs.declared.role.Role.TheVariants.{Write}
use Rattle.tech_rules.specs.declared.tech.Wire.{Wire}
use Rattle.wire_drawing.specs.Drawing.{IsBox}
use Rattle.sram_netlist.specs.Organization.{Organization, banks_of, bank_rows, columns_of, words_per_row}
use Rattle.sram_netlist.specs.Instances.{LeafInstance, NandAt, DriverAt, PrechargeAt, SenseAt}
use Rattle.sram_netlist.specs.Nets.{Net}
use Rattle.sram_netlist.specs.Netlist.{role, ports}
use Rattle.sram_netlist.specs.Membership.{HasLeafInstance}
use Rattle.macro_layout.specs.LayoutKit.{LayoutKit}
use Rattle.macro_layout.specs.Places.{Floorplan, IsPlaceOf, bank_x, column_x, columns_x, bit_width, bit_height, gate_width, drive_width, in_row_at, upright}
use Rattle.macro_layout.specs.Floorplan.{Tracks, column_role, rail_x, write_height}
use Rattle.macro_layout.specs.Pins.{IsRailOf}
use Rattle.macro_layout.specs.Wires.{IsPinTap, IsTapAt}
use Rattle.local_report.proofs.MovedLaws.{moved_rect}
use Rattle.good_places.specs.Beside.{moved_place}
use Rattle.good_places.specs.Windows.{with_bits}
use Rattle.good_places.proofs.EdgeLaws.{place_at, moved_choice}
use Rattle.good_places.proofs.LaidLaws.{written_all}
use Rattle.good_places.proofs.MoveLaws.{moved_image}
use Rattle.good_wires.specs.Drawn.{IsDrawnMemory, IsDrawnWire}
use Rattle.tap_spaces.proofs.RailNetLaws.{same_precharge, same_sense}

pub zero_times : (q : ℤ) → pos 0 *ℤ q ≡ pos 0
zero_times q = grind (arith, ints)

first_bank : (x y p q : ℤ) → x ≡ y → x +ℤ (pos 0 *ℤ p) ≡ y +ℤ (pos 0 *ℤ q)
first_bank x y p q e = let a = zero_times p in let b = zero_times q in omega (arith, ints, e, a, b)

-- a tap of bank 0, drawn in a bank
pub record HasTapWire (plan : Organization) (kit : LayoutKit) (wire : Wire) (tracks : Tracks) (f : Floorplan) (bank : ℕ) (x y end : ℤ) : Type 0 where
  pub image : Shape
  pub drawn : IsDrawnWire plan kit wire tracks f image
  pub box : IsBox (slice_index wire.metals 2) (x +ℤ (pos bank *ℤ f.bank_width)) y (end +ℤ (pos bank *ℤ f.bank_width)) (y +ℤ wire.width) image

pub tap_wire : (plan : Organization) (kit : LayoutKit) (wire : Wire) (tracks : Tracks) (f : Floorplan) → IsDrawnMemory plan kit wire tracks f → (bank : ℕ) → bank < banks_of plan → (x y end : ℤ) → IsTapAt plan kit wire tracks.column f x y end → x <ℤ end → HasTapWire plan kit wire tracks f bank x y end
tap_wire plan kit wire tracks f m bank below x y end tap long =
    let some = m.laid.sizes.width.from in
    let rect : Rect = record { x1 = x; y1 = y; x2 = end; y2 = y +ℤ wire.width; wide = omega (arith, ints, long); tall = omega (arith, ints, some) } in
    let inner : Shape = record { layer = slice_index wire.metals 2; rect = rect } in
    let moved = moved_rect (pos bank *ℤ f.bank_width) (pos 0) rect in
    let s : Shape = record { layer = slice_index wire.metals 2; rect = moved.0 } in
    record {
      image = s;
      drawn = inr (record {
        bank = bank;
        below = below;
        inner = inner;
        is = inr (inl (record { x = x; y = y; end = end; tap = tap; drawn = inl (record { on = refl; left = refl; low = refl; right = refl; high = refl }) }));
        shifted = record { layer = refl; x1 = moved.1.x1; y1 = moved.1.y1; x2 = moved.1.x2; y2 = moved.1.y2 };
      });
      box = record { on = refl; left = moved.1.x1; low = stays y moved.0.y1 moved.1.y1; right = moved.1.x2; high = stays (y +ℤ wire.width) moved.0.y2 moved.1.y2 };
    }
  where
    stays : (y z : ℤ) → z ≡ y +ℤ pos 0 → z ≡ y
    stays y z e = omega (arith, ints, e)

module _ (base : Organization) (kit : LayoutKit) (wire : Wire) (w1 r1 m1 w2 r2 m2 : ℕ) (tracks many : Tracks) (f g : Floorplan) (m : IsDrawnMemory (with_bits base w1 r1 m1) kit wire tracks f) (n : IsDrawnMemory (with_bits base w2 r2 m2) kit wire many g) where
  abbrev plan : Organization
  plan = with_bits base w1 r1 m1

  abbrev other : Organization
  other = with_bits base w2 r2 m2

  -- how much further up the columns stand in the other memory, and the slices
  abbrev pub up : ℤ
  up = g.column_y -ℤ f.column_y

  abbrev pub slice_up : ℤ
  slice_up = g.write_y -ℤ f.write_y

  pub same_row : f.row_x ≡ g.row_x
  same_row = m.stands.row_x ∙ sym n.stands.row_x

  pub same_columns : columns_x plan kit f ≡ columns_x other kit g
  same_columns = ap (λ (x : ℤ). x +ℤ pos (drive_width plan kit)) same_row

  array_up : f.array_y +ℤ up ≡ g.array_y
  array_up = by f.array_y f.column_y g.array_y g.column_y (kit.height (column_role base.col_bits)) m.stands.array_y n.stands.array_y where
    by : (a c b d : ℤ) (h : ℕ) → a ≡ c +ℤ pos h → b ≡ d +ℤ pos h → a +ℤ (d -ℤ c) ≡ b
    by a c b d h p q = omega (arith, ints, p, q)

  row_up : (h : ℕ) → (f.array_y +ℤ pos h) +ℤ up ≡ g.array_y +ℤ pos h
  row_up h = by f.array_y g.array_y up h array_up where
    by : (a b dy : ℤ) (h : ℕ) → a +ℤ dy ≡ b → (a +ℤ pos h) +ℤ dy ≡ b +ℤ pos h
    by a b dy h e = omega (arith, ints, e)

  precharge_up : f.precharge_y +ℤ up ≡ g.precharge_y
  precharge_up = ap (λ (y : ℤ). y +ℤ up) m.stands.precharge_y ∙ row_up (bank_rows base * bit_height kit) ∙ sym n.stands.precharge_y

  sense_up : f.sense_y +ℤ slice_up ≡ g.sense_y
  sense_up = by f.sense_y f.write_y g.sense_y g.write_y (write_height plan kit) (write_height other kit) (written_all r1 (kit.height Write) m.laid.written ∙ sym (written_all r2 (kit.height Write) n.laid.written)) m.stands.sense_y n.stands.sense_y where
    by : (a c b d : ℤ) (h k : ℕ) → h ≡ k → a ≡ c +ℤ pos h → b ≡ d +ℤ pos k → a +ℤ (d -ℤ c) ≡ b
    by a c b d h k e p q = omega (arith, ints, e, p, q)

  pub rail_moves : (net : Net) (x : ℤ) → IsRailOf plan wire f 0 net x → IsRailOf other wire g 0 net x
  rail_moves net x r = record { rail = r.rail; on = r.on; at = r.at ∙ first_bank (rail_x wire r.rail) (rail_x wire r.rail) f.bank_width g.bank_width refl }

  pin_moves : (dx dy : ℤ) (leaf there : LeafInstance) (net : Net) (y end : ℤ) → (p : IsPinTap plan kit f leaf net y end) → HasLeafInstance other there → slice_get (ports other there) p.port ≡ Some net → IsPlaceOf other kit g there (moved_place dx dy p.pin.place) → role plan leaf ≡ role other there
      → IsPinTap other kit g there net (y +ℤ dy) (end +ℤ dx)
  pin_moves dx dy leaf there net y end p has on stands plays =
      let r = moved_rect dx dy p.rect in
      record {
        port = p.port;
        rect = r.0;
        pin = record { has = has; on = on; place = moved_place dx dy p.pin.place; stands = stands; image = subst (λ (q : Role). IsImage (placed (moved_place dx dy p.pin.place)) (kit.pin q p.port 2) r.0) plays (moved_image dx dy p.pin.place (kit.pin (role plan leaf) p.port 2) p.rect r.0 p.pin.image r.1) };
        at = ap (λ (z : ℤ). z +ℤ dy) p.at ∙ sym r.1.y1;
        ends = ap (λ (z : ℤ). z +ℤ dx) p.ends ∙ sym r.1.x2;
      }

  in_row : (r : ℕ) (x u : ℤ) (place : Place) → place ≡ in_row_at kit f.array_y r x → x ≡ u → moved_place (pos 0) up place ≡ in_row_at kit g.array_y r u
  in_row r x u place is e =
      moved_choice (r % 2 == 0) (pos 0) up x (f.array_y +ℤ pos (r * bit_height kit)) (f.array_y +ℤ pos ((r + 1) * bit_height kit)) u (g.array_y +ℤ pos (r * bit_height kit)) (g.array_y +ℤ pos ((r + 1) * bit_height kit)) place is (stays x u e) (row_up (r * bit_height kit)) (row_up ((r + 1) * bit_height kit))
    where
      stays : (x u : ℤ) → x ≡ u → x +ℤ pos 0 ≡ u
      stays x u e = omega (arith, ints, e)

  pub nand_moves : (r : ℕ) (net : Net) (y end : ℤ) → IsPinTap plan kit f (NandAt 0 r) net y end → IsPinTap other kit g (NandAt 0 r) net (y +ℤ up) (end +ℤ pos 0)
  nand_moves r net y end p = pin_moves (pos 0) up (NandAt 0 r) (NandAt 0 r) net y end p p.pin.has p.pin.on (in_row r (bank_x f 0 f.row_x) (bank_x g 0 g.row_x) p.pin.place p.pin.stands (first_bank f.row_x g.row_x f.bank_width g.bank_width same_row)) refl

  pub driver_moves : (r : ℕ) (net : Net) (y end : ℤ) → IsPinTap plan kit f (DriverAt 0 r) net y end → IsPinTap other kit g (DriverAt 0 r) net (y +ℤ up) (end +ℤ pos 0)
  driver_moves r net y end p =
      pin_moves (pos 0) up (DriverAt 0 r) (DriverAt 0 r) net y end p p.pin.has p.pin.on
      (in_row r (bank_x f 0 (f.row_x +ℤ pos (gate_width plan kit))) (bank_x g 0 (g.row_x +ℤ pos (gate_width other kit))) p.pin.place p.pin.stands (first_bank (f.row_x +ℤ pos (gate_width plan kit)) (g.row_x +ℤ pos (gate_width other kit)) f.bank_width g.bank_width (ap (λ (z : ℤ). z +ℤ pos (gate_width plan kit)) same_row)))
      refl

  -- from one column to another of bank 0
  abbrev pub over : ℕ → ℕ → ℤ
  over c d = pos (d * bit_width kit) -ℤ pos (c * bit_width kit)

  column_over : (c d : ℕ) → bank_x f 0 (column_x plan kit f c) +ℤ over c d ≡ bank_x g 0 (column_x other kit g d)
  column_over c d = by (columns_x plan kit f) (columns_x other kit g) (pos 0 *ℤ f.bank_width) (pos 0 *ℤ g.bank_width) (c * bit_width kit) (d * bit_width kit) (zero_times f.bank_width) (zero_times g.bank_width) same_columns where
    by : (x z p q : ℤ) (c d : ℕ) → p ≡ pos 0 → q ≡ pos 0 → x ≡ z → ((x +ℤ pos c) +ℤ p) +ℤ (pos d -ℤ pos c) ≡ (z +ℤ pos d) +ℤ q
    by x z p q c d a b e = omega (arith, ints, a, b, e)

  upright_moves : (dx dy x y u v : ℤ) (place : Place) → place ≡ upright x y → x +ℤ dx ≡ u → y +ℤ dy ≡ v → moved_place dx dy place ≡ upright u v
  upright_moves dx dy x y u v place is p q = ap (moved_place dx dy) is ∙ place_at (x +ℤ dx) (y +ℤ dy) u v p q

  pub precharge_moves : (c d : ℕ) (net : Net) (x y end : ℤ) → IsRailOf plan wire f 0 net x → d < columns_of other → IsPinTap plan kit f (PrechargeAt 0 c) net y end → IsPinTap other kit g (PrechargeAt 0 d) net (y +ℤ up) (end +ℤ over c d)
  precharge_moves c d net x y end rail lt p =
      pin_moves (over c d) up (PrechargeAt 0 c) (PrechargeAt 0 d) net y end p (p.pin.has.0, lt) (same_precharge base w1 r1 m1 w2 r2 m2 rail.rail net rail.on c d p.port p.pin.on)
      (upright_moves (over c d) up (bank_x f 0 (column_x plan kit f c)) f.precharge_y (bank_x g 0 (column_x other kit g d)) g.precharge_y p.pin.place p.pin.stands (column_over c d) precharge_up)
      refl

  -- from one slice to another
  pub sense_moves : (i j : ℕ) (net : Net) (x y end : ℤ) → IsRailOf plan wire f 0 net x → j < other.word_size → IsPinTap plan kit f (SenseAt 0 i) net y end → IsPinTap other kit g (SenseAt 0 j) net (y +ℤ slice_up) (end +ℤ over (i * words_per_row base) (j * words_per_row base))
  sense_moves i j net x y end rail lt p =
      let wpr = words_per_row base in
      pin_moves (over (i * wpr) (j * wpr)) slice_up (SenseAt 0 i) (SenseAt 0 j) net y end p (p.pin.has.0, lt) (same_sense base w1 r1 m1 w2 r2 m2 rail.rail net rail.on i j p.port p.pin.on)
      (upright_moves (over (i * wpr) (j * wpr)) slice_up (bank_x f 0 (column_x plan kit f (i * wpr))) f.sense_y (bank_x g 0 (column_x other kit g (j * wpr))) g.sense_y p.pin.place p.pin.stands (column_over (i * wpr) (j * wpr)) sense_up)
      refl
