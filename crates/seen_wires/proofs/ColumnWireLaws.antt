-- Wires that touch an instance of a column, or one in front of the columns, are seen in the small memory.
use Rattle.std.proofs.Common.{◌≡◌, ◌⊎◌, inl, inr, ◌∙◌, ℕ, ◌+◌, ◌*◌, ◌<◌, ℤ, pos, ◌+ℤ◌, ◌-ℤ◌, ◌*ℤ◌, ◌≤ℤ◌, List, refl, sym, ap, subst, arith}
use Rattle.std.specs.Prelude.{slice_index}
use Rattle.std.proofs.lemmas.Int.{ints}
use Rattle.or_geom.specs.declared.shape.Rect.{Rect}
use Rattle.or_geom.specs.declared.shape.Shape.{Shape}
use Rattle.cell_roles.specs.declared.role.Role.TheVariants.{Sense, Inv, Precharge}
use Rattle.tech_rules.specs.declared.tech.Connect.{Connect}
use Rattle.wire_drawing.specs.Drawing.{IsBox, IsVia}
use Rattle.tech_rules.specs.WireRules.{margin}
use Rattle.tech_rules.proofs.WireLaws.{two_margins, margin_positive}
use Rattle.channel_router.specs.Wires.{channel_height}
use Rattle.sram_netlist.specs.Organization.{banks_of, columns_of}
use Rattle.sram_netlist.specs.Nets.{Net, Vdd, Gnd}
use Rattle.sram_netlist.specs.Instances.{LeafInstance, SenseAt, NandAt, DriverAt, PrechargeAt}
use Rattle.macro_layout.specs.Places.{Floorplan, bank_x, columns_x, bit_width, bit_height, drive_width}
use Rattle.macro_layout.specs.Floorplan.{column_channel_y, upper_y, rail_x}
use Rattle.macro_layout.specs.Pins.{IsPin, IsRailOf, main_nets, column_nets}
use Rattle.macro_layout.specs.Channels.{IsMainChannel, IsColumnChannel}
use Rattle.macro_layout.specs.Stated.{IsShifted}
use Rattle.macro_layout.specs.Wires.{IsTapOfNet, IsPowerWire, IsGroundWire, IsPowerBarAt, IsGroundBarAt, columns_end, trunk_x, ground_x}
use Rattle.good_places.specs.Leaves.{Zone}
use Rattle.macro_layout.specs.Wires.{row_y}
use Rattle.good_wires.proofs.LevelLaws.{track_below}
use Rattle.good_wires.proofs.TapLaws.{pin_in_zone}
use Rattle.joined_nets.specs.WireNets.{in_bank, IsChannelWireOf, IsTapWireOf, IsBankWireOf}
use Rattle.kit_nets.specs.StatedParts.{Source, Standing}
use Rattle.seen_pairs.specs.Counterpart.{IsOfColumns, IsOfFronts, leaf_bank, right_by, columns_up}
use Rattle.small_wires.specs.Seen.{IsNearZone}
use Rattle.seen_pairs.specs.Window.{IsSeenSource, HasSeenWindow}
use Rattle.small_wires.proofs.AnchorLaws.{columns_same, rows_same}
use Rattle.small_wires.proofs.BankWireLaws.{pin_there, IsPinThere}
use Rattle.small_wires.proofs.BranchLaws.{channel_kind, IsTopBox}
use Rattle.seen_pairs.proofs.CounterLaws.{nand_counter, driver_counter}
use Rattle.small_wires.proofs.FarLaws.{lv, sp, wide_wire, wide_space, logic_level, slices_level, joiner_level, inverter_level}
use Rattle.seen_pairs.proofs.SeatLaws.{zone_at}
use Rattle.small_wires.proofs.SeenWireLaws.{small, SeenThere, WireHere, power_seen, ground_seen}
use Rattle.seen_wires.proofs.ColumnSeatLaws.{IsColumnSeat, column_is_seat, front_is_seat}
use Rattle.seen_wires.proofs.ColumnPinLaws as first
use Rattle.seen_wires.proofs.ColumnTapLaws as second

module _ (connections : List Connect) (s : Source) (by reach : ℤ) (is : IsSeenSource connections s by reach) (window : HasSeenWindow connections s) (i : Standing s) (seat : IsColumnSeat connections s by reach is window i) where
  -- what is said before, of the same
  abbrev f : Floorplan
  f = s.floorplan

  abbrev g : Floorplan
  g = window.floorplan

  abbrev S : ℤ
  S = s.wire.space

  abbrev W : ℤ
  W = s.wire.width

  abbrev bw : ℕ
  bw = bit_width s.kit

  abbrev sm : Source
  sm = small connections s by reach is window

  abbrev b : ℕ
  b = leaf_bank i.leaf

  abbrev dy : ℤ
  dy = columns_up f g

  abbrev z : Zone
  z = zone_at connections s by reach is i

  abbrev m : ℕ
  m = seat.m

  abbrev dx : ℤ
  dx = right_by s.plan s.kit f g b m

  abbrev q : ℕ → ℤ
  q k = pos k *ℤ s.floorplan.bank_width

  abbrev below : (t : Shape) → IsNearZone S z t.rect → (t.rect.y2 +ℤ S) ≤ℤ f.column_y → ⊥
  below = first.below connections s by reach is window i seat

  abbrev behind : (t : Shape) → IsNearZone S z t.rect → trunk_x s.plan s.kit s.wire f ≤ℤ t.rect.x1 → ⊥
  behind = first.behind connections s by reach is window i seat

  abbrev below_bank : (k : ℕ) (t inner : Shape) → IsShifted (q k) (pos 0) inner t → IsNearZone S z t.rect → (inner.rect.y2 +ℤ S) ≤ℤ f.column_y → ⊥
  below_bank = first.below_bank connections s by reach is window i seat

  abbrev rail_far : (k : ℕ) (net : Net) (x : ℤ) (t inner : Shape) → IsRailOf s.plan s.wire f 0 net x → IsShifted (q k) (pos 0) inner t → x ≤ℤ inner.rect.x1 → inner.rect.x2 ≤ℤ (x +ℤ W) → IsNearZone S z t.rect → ⊥
  rail_far = first.rail_far connections s by reach is window i seat

  abbrev column_rises : f.column_y +ℤ dy ≡ g.column_y
  column_rises = first.column_rises connections s by reach is window i seat

  abbrev array_rises : f.array_y +ℤ dy ≡ g.array_y
  array_rises = first.array_rises connections s by reach is window i seat

  abbrev precharge_rises : f.precharge_y +ℤ dy ≡ g.precharge_y
  precharge_rises = first.precharge_rises connections s by reach is window i seat

  abbrev top_contact : (k : ℕ) → k < banks_of s.plan → (n net : Net) (t inner : Shape) → n ≡ in_bank k net → IsShifted (q k) (pos 0) inner t → (w : IsChannelWireOf (IsColumnChannel s.plan s.kit s.wire f) s.wire s.tracks.column (column_nets s.plan) net inner)
      → IsTopBox (IsColumnChannel s.plan s.kit s.wire f) s.wire s.tracks.column (column_nets s.plan) net inner w → IsNearZone S z t.rect → IsNearZone reach z t.rect → SeenThere connections s by reach is window i n t
  top_contact = first.top_contact connections s by reach is window i seat

  abbrev joiner_contact : (k : ℕ) → k < banks_of s.plan → (n : Net) (t inner : Shape) → n ≡ in_bank k Gnd → IsShifted (q k) (pos 0) inner t → IsBox (slice_index s.wire.metals 0) f.row_x (f.array_y -ℤ W) (columns_end s.plan s.kit f) f.array_y inner → IsNearZone S z t.rect → SeenThere connections s by reach is window i n t
  joiner_contact = first.joiner_contact connections s by reach is window i seat

  -- the tap there, which ends at the pin's right end
  abbrev TapThere : Net → ℕ → Rect → Type 0
  TapThere net j rect2 = IsTapOfNet sm.plan s.kit s.wire window.tracks.column g net (bank_x g 0 (rail_x s.wire j)) rect2.y1 rect2.x2

  abbrev first_pins : (rect : Rect) → rect.x2 ≤ℤ ((bank_x f 0 (columns_x s.plan s.kit f)) +ℤ pos 0) → rect.x2 ≤ℤ columns_x s.plan s.kit f
  first_pins = second.first_pins connections s by reach is window i seat

  abbrev front_pins : (rect2 : Rect) → (bank_x g 0 g.row_x) ≤ℤ (rect2.x1 +ℤ pos 0) → f.row_x ≤ℤ rect2.x1
  front_pins = second.front_pins connections s by reach is window i seat

  abbrev d00 : ℤ
  d00 = right_by s.plan s.kit f g 0 0

  abbrev row_tap : (k : ℕ) → k < banks_of s.plan → (n net : Net) (t inner : Shape) → n ≡ in_bank k net → IsShifted (q k) (pos 0) inner t → (x y end : ℤ) (rail : IsRailOf s.plan s.wire f 0 net x) (rect : Rect) → y ≡ rect.y1 → end ≡ rect.x2 → IsBox (slice_index s.wire.metals 2) x y end (y +ℤ W) inner → rect.x2 ≤ℤ columns_x s.plan s.kit f
      → (leaf : LeafInstance) (port : ℕ) → (p : IsPinThere connections s by reach is window 0 d00 dy leaf port 2 net rect) → f.row_x ≤ℤ p.rect2.x1 → (p.net2 ≡ net → TapThere net rail.rail p.rect2) → IsNearZone S z t.rect → IsNearZone reach z t.rect → SeenThere connections s by reach is window i n t
  row_tap = second.row_tap connections s by reach is window i seat

  abbrev precharge_tap : (k : ℕ) → k < banks_of s.plan → (n net : Net) (t inner : Shape) → n ≡ in_bank k net → IsShifted (q k) (pos 0) inner t → (x y end : ℤ) (rail : IsRailOf s.plan s.wire f 0 net x) (l : ℕ) → l + 1 ≡ columns_of s.plan → (port : ℕ) (rect : Rect) → IsPin s.plan s.kit f (PrechargeAt 0 l) port 2 net rect → y ≡ rect.y1 → end ≡ rect.x2
      → IsBox (slice_index s.wire.metals 2) x y end (y +ℤ W) inner → IsNearZone S z t.rect → SeenThere connections s by reach is window i n t
  precharge_tap = second.precharge_tap connections s by reach is window i seat

  column_x_there : (x : ℤ) → x ≡ columns_x s.plan s.kit f → x ≡ columns_x s.plan s.kit g
  column_x_there x e = e ∙ sym (columns_same connections s by reach is window)

  row_x_there : (x : ℤ) → x ≡ f.row_x → x ≡ g.row_x
  row_x_there x e = e ∙ sym (rows_same connections s by reach is window)

  no_more : (x y : ℤ) → x ≡ y → x ≤ℤ y
  no_more x y e = omega (arith, ints, e)

  row_no_more : (x : ℤ) → x ≡ f.row_x → x ≤ℤ columns_x s.plan s.kit g
  row_no_more x e = go x g.row_x (drive_width s.plan s.kit) (row_x_there x e) where
    go : (x r : ℤ) (d : ℕ) → x ≡ r → x ≤ℤ (r +ℤ pos d)
    go x r d h = omega (arith, ints, h)

  row_rises : (r : ℕ) → row_y s.kit f r +ℤ dy ≡ row_y s.kit g r
  row_rises r = go f.array_y g.array_y (r * bit_height s.kit) array_rises where
    go : (x y : ℤ) (h : ℕ) → x +ℤ dy ≡ y → (x +ℤ pos h) +ℤ dy ≡ y +ℤ pos h
    go x y h e = omega (arith, ints, e)

  upper_rises : (upper_y s.kit f -ℤ W) +ℤ dy ≡ upper_y s.kit g -ℤ W
  upper_rises = go f.precharge_y g.precharge_y (s.kit.height Precharge) W precharge_rises where
    go : (x y : ℤ) (h : ℕ) (w : ℤ) → x +ℤ dy ≡ y → ((x +ℤ pos h) -ℤ w) +ℤ dy ≡ (y +ℤ pos h) -ℤ w
    go x y h w e = omega (arith, ints, e)

  via_behind : (x y trunk : ℤ) (t : Shape) → trunk_x s.plan s.kit s.wire f ≤ℤ trunk → IsVia s.wire 0 trunk y t → IsNearZone S z t.rect → ⊥
  via_behind x y trunk t le box near = behind t near (let e = box.left in let p = margin_positive s.wire is.source.drawn.laid.sizes in go (trunk_x s.plan s.kit s.wire f) trunk (margin s.wire) t.rect.x1 le p e) where
    go : (a tr m x : ℤ) → a ≤ℤ tr → pos 1 ≤ℤ m → x ≡ tr +ℤ m → a ≤ℤ x
    go a tr m x h1 h2 h3 = omega (arith, ints, h1, h2, h3)

  ground_behind : trunk_x s.plan s.kit s.wire f ≤ℤ ground_x s.plan s.kit s.wire f
  ground_behind = let a = wide_wire connections s by reach is in let e = wide_space connections s by reach is in go (trunk_x s.plan s.kit s.wire f) W S a e where
    go : (t w sp : ℤ) → pos 1 ≤ℤ w → pos 1 ≤ℤ sp → t ≤ℤ (t +ℤ (w +ℤ sp))
    go t w sp h1 h2 = omega (arith, ints, h1, h2)

  slices_over : (column_channel_y s.kit f +ℤ S) ≤ℤ f.column_y
  slices_over = (lv connections s by reach is).column

  write_over : (f.write_y +ℤ W) ≤ℤ column_channel_y s.kit f
  write_over = let a = joiner_level connections s by reach is in let e = (lv connections s by reach is).channel in omega (arith, ints, a, e)

  sense_over : (f.sense_y +ℤ W) ≤ℤ column_channel_y s.kit f
  sense_over = let a = is.source.drawn.pins.cells Sense in omega (arith, ints, a)

  logic_over : (pos (s.kit.height Inv) +ℤ S) ≤ℤ f.column_y
  logic_over = let a = logic_level connections s by reach is in let e = slices_level connections s by reach is in let h = wide_space connections s by reach is in omega (arith, ints, a, e, h)

  power_contact : (t : Shape) → IsPowerWire s.plan s.kit s.wire f t → IsNearZone S z t.rect → SeenThere connections s by reach is window i Vdd t
  power_contact t (inl trunk) near = absurd (behind t near (let e = trunk.left in no_more (trunk_x s.plan s.kit s.wire f) t.rect.x1 (sym e)))
  power_contact t (inr (x, y, at, inr via)) near = absurd (via_behind x y (trunk_x s.plan s.kit s.wire f) t (no_more _ _ refl) via near)
  power_contact t (inr (x, y, at, inl box)) near = height at where
    seen : (v : ℤ) → x ≤ℤ columns_x s.plan s.kit g → y +ℤ dy ≡ v → IsPowerBarAt sm.plan s.kit s.wire g x v → SeenThere connections s by reach is window i Vdd t
    seen v le up there = power_seen connections s by reach is window m dx dy i seat.c b bw seat.anchor is.short.bitcell seat.in_bank_i x y v (trunk_x s.plan s.kit s.wire f) t le up box there

    low : ((y +ℤ W) +ℤ S) ≤ℤ f.column_y → SeenThere connections s by reach is window i Vdd t
    low le = absurd (below t near (let e = box.high in omega (arith, ints, le, e)))

    height : IsPowerBarAt s.plan s.kit s.wire f x y → SeenThere connections s by reach is window i Vdd t
    height (inl (ex, ey)) = low (let a = logic_over in omega (arith, ints, a, ey))
    height (inr (inl (w0, ex, ey))) = low (let a = slices_over in let e = write_over in omega (arith, ints, a, e, ey))
    height (inr (inr (inl (ex, ey)))) = low (let a = slices_over in omega (arith, ints, a, ey))
    height (inr (inr (inr (inl (ex, ey))))) = seen g.column_y (no_more x (columns_x s.plan s.kit g) (column_x_there x ex)) (ap (λ (v : ℤ). v +ℤ dy) ey ∙ column_rises) (inr (inr (inr (inl (column_x_there x ex, refl)))))
    height (inr (inr (inr (inr (inl (r, lt, odd, ex, ey)))))) = seen (row_y s.kit g r) (row_no_more x ex) (ap (λ (v : ℤ). v +ℤ dy) ey ∙ row_rises r) (inr (inr (inr (inr (inl (r, lt, odd, row_x_there x ex, refl))))))
    height (inr (inr (inr (inr (inr (ex, ey)))))) = seen (upper_y s.kit g -ℤ W) (no_more x (columns_x s.plan s.kit g) (column_x_there x ex)) (ap (λ (v : ℤ). v +ℤ dy) ey ∙ upper_rises) (inr (inr (inr (inr (inr (column_x_there x ex, refl))))))

  ground_contact : (t : Shape) → IsGroundWire s.plan s.kit s.wire f t → IsNearZone S z t.rect → SeenThere connections s by reach is window i Gnd t
  ground_contact t (inl trunk) near = absurd (behind t near (let e = trunk.left in let a = ground_behind in omega (arith, ints, e, a)))
  ground_contact t (inr (x, y, at, inr via)) near = absurd (via_behind x y (ground_x s.plan s.kit s.wire f) t ground_behind via near)
  ground_contact t (inr (x, y, at, inl box)) near = height at where
    seen : (v : ℤ) → x ≤ℤ columns_x s.plan s.kit g → y +ℤ dy ≡ v → IsGroundBarAt sm.plan s.kit g x v → SeenThere connections s by reach is window i Gnd t
    seen v le up there = ground_seen connections s by reach is window m dx dy i seat.c b bw seat.anchor is.short.bitcell seat.in_bank_i x y v (ground_x s.plan s.kit s.wire f) t le up box there

    low : ((y +ℤ W) +ℤ S) ≤ℤ f.column_y → SeenThere connections s by reach is window i Gnd t
    low le = absurd (below t near (let e = box.high in omega (arith, ints, le, e)))

    height : IsGroundBarAt s.plan s.kit f x y → SeenThere connections s by reach is window i Gnd t
    height (inl (ex, ey)) = low (let a = logic_over in let h = inverter_level connections s by reach is in omega (arith, ints, a, h, ey))
    height (inr (inl (ex, ey))) = low (let a = slices_over in let e = sense_over in omega (arith, ints, a, e, ey))
    height (inr (inr (inl (r, lt, even, ex, ey)))) = seen (row_y s.kit g r) (row_no_more x ex) (ap (λ (v : ℤ). v +ℤ dy) ey ∙ row_rises r) (inr (inr (inl (r, lt, even, row_x_there x ex, refl))))
    height (inr (inr (inr (ex, ey)))) = seen g.precharge_y (row_no_more x ex) (ap (λ (v : ℤ). v +ℤ dy) ey ∙ precharge_rises) (inr (inr (inr (row_x_there x ex, refl))))

  -- All wires

  main_far : (n : Net) (t : Shape) → IsChannelWireOf (IsMainChannel s.plan s.kit s.wire f) s.wire s.tracks.main (main_nets s.plan) n t → IsNearZone S z t.rect → ⊥
  main_far n t w near = elim (channel_kind (IsMainChannel s.plan s.kit s.wire f) s.wire s.tracks.main (main_nets s.plan) n t w is.source.drawn.laid.sizes) [
    | inl inner ↦ below t near (let a = inner.below in omega (arith, ints, a, upper, le, some))
    | inr (inl top) ↦ below t near (let h = top.box.high in omega (arith, ints, h, upper, le))
    | inr (inr bottom) ↦ below t near (let a = bottom.below in let h = bottom.box.high in omega (arith, ints, a, h, upper, le, some))
  ] where
    upper : w.channel.low +ℤ channel_height s.wire s.tracks.main ≡ f.write_y
    upper = ap (λ (v : ℤ). v +ℤ channel_height s.wire s.tracks.main) w.routed.meant.low ∙ sym is.source.drawn.stands.write_y

    le : (f.write_y +ℤ S) ≤ℤ f.column_y
    le = slices_level connections s by reach is

    some : pos 1 ≤ℤ S
    some = wide_space connections s by reach is

  pin_low : (l port : ℕ) (net : Net) (rect : Rect) → IsPin s.plan s.kit f (SenseAt 0 l) port 2 net rect → rect.y2 ≤ℤ column_channel_y s.kit f
  pin_low l port net rect p = let n = (pin_in_zone s.plan s.kit s.wire f (SenseAt 0 l) port 2 net rect is.source.drawn.laid is.source.drawn.pins p).high in omega (arith, ints, n)

  tap_case : (k : ℕ) → k < banks_of s.plan → (n net : Net) (t inner : Shape) → n ≡ in_bank k net → IsShifted (q k) (pos 0) inner t → IsTapWireOf s.plan s.kit s.wire s.tracks.column f net inner → IsNearZone S z t.rect → IsNearZone reach z t.rect → SeenThere connections s by reach is window i n t
  tap_case k lt n net t inner named sh tap near_s near_r = by_drawn tap.drawn where
    nand : (r : ℕ) (port : ℕ) (rect : Rect) (p : IsPin s.plan s.kit f (NandAt 0 r) port 2 net rect) → IsPinThere connections s by reach is window 0 d00 dy (NandAt 0 r) port 2 net rect
    nand r port rect p =
        pin_there connections s by reach is window 0 d00 dy (NandAt 0 r) port 2 net rect p
        (nand_counter s.plan s.kit s.wire s.tracks window.tracks f g window.word window.write window.masks is.source.drawn.stands window.source.drawn.stands is.written window.size.written 0 r p.place p.has p.stands)

    driver : (r : ℕ) (port : ℕ) (rect : Rect) (p : IsPin s.plan s.kit f (DriverAt 0 r) port 2 net rect) → IsPinThere connections s by reach is window 0 d00 dy (DriverAt 0 r) port 2 net rect
    driver r port rect p =
        pin_there connections s by reach is window 0 d00 dy (DriverAt 0 r) port 2 net rect p
        (driver_counter s.plan s.kit s.wire s.tracks window.tracks f g window.word window.write window.masks is.source.drawn.stands window.source.drawn.stands is.written window.size.written 0 r p.place p.has p.stands)

    by_tap : IsTapOfNet s.plan s.kit s.wire s.tracks.column f net tap.x tap.y tap.end → IsBox (slice_index s.wire.metals 2) tap.x tap.y tap.end (tap.y +ℤ W) inner → SeenThere connections s by reach is window i n t
    by_tap (inl (r, p)) box =
        let there = nand r p.port p.rect p.pin in
        row_tap k lt n net t inner named sh tap.x tap.y tap.end tap.rail p.rect p.at p.ends box (first_pins p.rect (pin_in_zone s.plan s.kit s.wire f (NandAt 0 r) p.port 2 net p.rect is.source.drawn.laid is.source.drawn.pins p.pin).right) (NandAt 0 r) p.port there
        (front_pins there.rect2 (pin_in_zone sm.plan s.kit s.wire g (NandAt 0 r) p.port 2 there.net2 there.rect2 window.source.drawn.laid window.source.drawn.pins there.pin).left)
        (λ own. inl (r, record { port = p.port; rect = there.rect2; pin = subst (λ (y : Net). IsPin sm.plan s.kit g (NandAt 0 r) p.port 2 y there.rect2) own there.pin; at = refl; ends = refl })) near_s near_r
    by_tap (inr (inl (r, p))) box =
        let there = driver r p.port p.rect p.pin in
        row_tap k lt n net t inner named sh tap.x tap.y tap.end tap.rail p.rect p.at p.ends box (first_pins p.rect (pin_in_zone s.plan s.kit s.wire f (DriverAt 0 r) p.port 2 net p.rect is.source.drawn.laid is.source.drawn.pins p.pin).right) (DriverAt 0 r) p.port there
        (front_pins there.rect2 (pin_in_zone sm.plan s.kit s.wire g (DriverAt 0 r) p.port 2 there.net2 there.rect2 window.source.drawn.laid window.source.drawn.pins there.pin).left)
        (λ own. inr (inl (r, record { port = p.port; rect = there.rect2; pin = subst (λ (y : Net). IsPin sm.plan s.kit g (DriverAt 0 r) p.port 2 y there.rect2) own there.pin; at = refl; ends = refl }))) near_s near_r
    by_tap (inr (inr (inl (l, last, p)))) box =
        let a = pin_low l p.port net p.rect p.pin in
        let e = is.source.drawn.sense_taps l p.port net p.rect tap.x tap.rail p.pin in
        let o = slices_over in
        let at = p.at in
        let h = box.high in
        absurd (below_bank k t inner sh near_s (omega (arith, ints, a, e, o, at, h)))
    by_tap (inr (inr (inr (inl (l, last, p))))) box = precharge_tap k lt n net t inner named sh tap.x tap.y tap.end tap.rail l last p.port p.rect p.pin p.at p.ends box near_s
    by_tap (inr (inr (inr (inr choice)))) box =
        let tr = choice.trunk in
        let upper : f.column_y ≡ tr.channel.low +ℤ channel_height s.wire s.tracks.column = is.source.drawn.stands.column_y ∙ ap (λ (v : ℤ). v +ℤ channel_height s.wire s.tracks.column) (sym tr.routed.meant.low) in
        let a = track_below tr.channel.low f.column_y s.wire tr.on s.tracks.column is.source.drawn.laid.sizes (tr.routed.count.below choice.number tr.on tr.has.on) upper in
        let at = tr.at in
        let h = box.high in
        absurd (below_bank k t inner sh near_s (omega (arith, ints, a, at, h)))

    by_drawn : IsBox (slice_index s.wire.metals 2) tap.x tap.y tap.end (tap.y +ℤ W) inner ⊎ IsVia s.wire 2 tap.x tap.y inner → SeenThere connections s by reach is window i n t
    by_drawn (inl box) = by_tap tap.tap box
    by_drawn (inr via) =
        let p = margin_positive s.wire is.source.drawn.laid.sizes in
        let two = two_margins s.wire is.source.drawn.laid.sizes in
        let l = via.left in
        let r = via.right in
        absurd (rail_far k net tap.x t inner tap.rail sh (go tap.x (margin s.wire) inner.rect.x1 p l) (og tap.x (margin s.wire) s.wire.cut W inner.rect.x2 p two r) near_s)
      where
        go : (x m a : ℤ) → pos 1 ≤ℤ m → a ≡ x +ℤ m → x ≤ℤ a
        go x m a h1 h2 = omega (arith, ints, h1, h2)

        og : (x m c w a : ℤ) → pos 1 ≤ℤ m → w ≡ c +ℤ (m +ℤ m) → a ≡ (x +ℤ m) +ℤ c → a ≤ℤ (x +ℤ w)
        og x m c w a h1 h2 h3 = omega (arith, ints, h1, h2, h3)

  bank_case : (k : ℕ) → k < banks_of s.plan → (n net : Net) (t inner : Shape) → n ≡ in_bank k net → IsShifted (q k) (pos 0) inner t → IsBankWireOf s.plan s.kit s.wire s.tracks f net inner → IsNearZone S z t.rect → IsNearZone reach z t.rect → SeenThere connections s by reach is window i n t
  bank_case k lt n net t inner named sh (inl w) near_s near_r = elim (channel_kind (IsColumnChannel s.plan s.kit s.wire f) s.wire s.tracks.column (column_nets s.plan) net inner w is.source.drawn.laid.sizes) [
    | inl middle ↦ absurd (below_bank k t inner sh near_s (let a = middle.below in omega (arith, ints, a, upper)))
    | inr (inl top) ↦ top_contact k lt n net t inner named sh w top near_s near_r
    | inr (inr bottom) ↦ absurd (below_bank k t inner sh near_s (let a = bottom.below in let h = bottom.box.high in omega (arith, ints, a, h, upper)))
  ] where
    upper : w.channel.low +ℤ channel_height s.wire s.tracks.column ≡ f.column_y
    upper = ap (λ (v : ℤ). v +ℤ channel_height s.wire s.tracks.column) w.routed.meant.low ∙ sym is.source.drawn.stands.column_y
  bank_case k lt n net t inner named sh (inr (inl tap)) near_s near_r = tap_case k lt n net t inner named sh tap near_s near_r
  bank_case k lt n net t inner named sh (inr (inr (inl rail))) near_s near_r = absurd (rail_far k net rail.x t inner rail.rail sh (let e = rail.drawn.left in no_more rail.x inner.rect.x1 (sym e)) (no_more inner.rect.x2 (rail.x +ℤ W) rail.drawn.right) near_s)
  bank_case k lt n net t inner named sh (inr (inr (inr (inl output)))) near_s near_r = absurd (below_bank k t inner sh near_s (let a = slices_over in let e = sense_over in let w = wide_wire connections s by reach is in let h = output.drawn.high in omega (arith, ints, a, e, w, h)))
  bank_case k lt n net t inner named sh (inr (inr (inr (inr (e, inl joiner))))) near_s near_r = absurd (below_bank k t inner sh near_s (let a = slices_over in let o = sense_over in let w = wide_wire connections s by reach is in let h = joiner.1.high in omega (arith, ints, a, o, w, h)))
  bank_case k lt n net t inner named sh (inr (inr (inr (inr (e, inr joiner))))) near_s near_r = joiner_contact k lt n t inner (named ∙ ap (in_bank k) e) sh joiner near_s

  wire_case : (n : Net) (t : Shape) → WireHere connections s by reach is window n t → IsNearZone S z t.rect → IsNearZone reach z t.rect → SeenThere connections s by reach is window i n t
  wire_case n t (inl (inl w)) near_s near_r = absurd (main_far n t w near_s)
  wire_case n t (inl (inr (inl power))) near_s near_r = subst (λ (v : Net). SeenThere connections s by reach is window i v t) (sym power.0) (power_contact t power.1 near_s)
  wire_case n t (inl (inr (inr ground))) near_s near_r = subst (λ (v : Net). SeenThere connections s by reach is window i v t) (sym ground.0) (ground_contact t ground.1 near_s)
  wire_case n t (inr bank) near_s near_r = bank_case bank.bank bank.below n bank.net t bank.inner bank.named bank.shifted bank.is near_s near_r

-- A wire that is near an instance of a column, or of one in front of the columns, is seen with it.
pub column_wire : (connections : List Connect) (s : Source) (by reach : ℤ) (is : IsSeenSource connections s by reach) (window : HasSeenWindow connections s) (i : Standing s) → IsOfColumns i.leaf ⊎ IsOfFronts i.leaf → (n : Net) (t : Shape) → WireHere connections s by reach is window n t → IsNearZone s.wire.space (zone_at connections s by reach is i) t.rect → IsNearZone reach (zone_at connections s by reach is i) t.rect → SeenThere connections s by reach is window i n t
column_wire connections s by reach is window i (inl column) = wire_case connections s by reach is window i (column_is_seat connections s by reach is window i column)
column_wire connections s by reach is window i (inr front) = wire_case connections s by reach is window i (front_is_seat connections s by reach is window i front)
