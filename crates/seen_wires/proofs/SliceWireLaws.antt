-- Wires that touch a slice's instance are seen in the small memory.
use Rattle.std.proofs.Common.{◌≡◌, ◌⊎◌, inl, inr, ◌∙◌, ℕ, ◌+◌, ◌*◌, ◌<◌, ℤ, pos, ◌+ℤ◌, ◌-ℤ◌, ◌*ℤ◌, ◌≤ℤ◌, List, Some, refl, sym, ap, subst, arith}
use Rattle.std.specs.Prelude.{slice_get, slice_index}
use Rattle.std.proofs.lemmas.Int.{ints}
use Rattle.std.proofs.lemmas.Option.{same_Some}
use Rattle.or_geom.specs.declared.shape.Rect.{Rect}
use Rattle.or_geom.specs.declared.shape.Shape.{Shape}
use Rattle.cell_roles.specs.declared.role.Role.TheVariants.{Sense}
use Rattle.tech_rules.specs.declared.tech.Connect.{Connect}
use Rattle.wire_drawing.specs.Drawing.{IsBox, IsVia}
use Rattle.tech_rules.specs.WireRules.{margin}
use Rattle.tech_rules.proofs.WireLaws.{two_margins, margin_positive}
use Rattle.channel_router.specs.Channel.{IsPinOf}
use Rattle.channel_router.specs.Wires.{channel_height}
use Rattle.sram_netlist.specs.Organization.{banks_of, words_per_row, inputs_of}
use Rattle.sram_netlist.specs.Nets.{Net, Vdd, Gnd}
use Rattle.sram_netlist.specs.Instances.{LeafInstance, SenseAt, WriteAt, NandAt, DriverAt, PrechargeAt}
use Rattle.macro_layout.specs.Places.{Floorplan, bank_x, columns_x, column_x, bit_width}
use Rattle.macro_layout.specs.Floorplan.{column_channel_y}
use Rattle.macro_layout.specs.Pins.{IsPin, IsRailOf, main_nets, column_nets}
use Rattle.macro_layout.specs.Channels.{IsMainChannel, IsColumnChannel, IsPinFrom, MeetsMainTop, MeetsMainTopOfBanks}
use Rattle.macro_layout.specs.Stated.{IsShifted}
use Rattle.macro_layout.specs.Wires.{IsTapOfNet, IsPowerWire, IsGroundWire, IsPowerBarAt, IsGroundBarAt, columns_end, trunk_x, ground_x}
use Rattle.good_places.specs.Leaves.{Zone, zone_of}
use Rattle.good_places.proofs.LaidLaws.{written_all}
use Rattle.good_wires.proofs.FourthLaws.{rail_in}
use Rattle.good_wires.proofs.LevelLaws.{rail_at, track_above}
use Rattle.good_wires.proofs.TapLaws.{pin_in_zone}
use Rattle.joined_nets.specs.WireNets.{in_bank, IsChannelWireOf, IsTapWireOf, IsOutputWireOf, IsBankWireOf}
use Rattle.joined_nets.proofs.WireNetLaws.{place_below}
use Rattle.kit_nets.specs.StatedParts.{Source, Standing}
use Rattle.moved_nets.specs.Moved.{slice_net}
use Rattle.seen_pairs.specs.Counterpart.{IsOfSlices, leaf_bank, right_by, slices_up}
use Rattle.small_wires.specs.Seen.{IsNearZone}
use Rattle.seen_pairs.specs.Window.{IsSeenSource, HasSeenWindow}
use Rattle.small_wires.proofs.AnchorLaws.{Anchored, columns_same}
use Rattle.seen_pairs.proofs.BankPairLaws.{Counter}
use Rattle.small_wires.proofs.BankWireLaws.{pin_there, IsPinThere}
use Rattle.small_wires.proofs.BranchLaws.{channel_kind, IsTopBox, IsBottomBox, top_there}
use Rattle.small_wires.proofs.ColumnNetLaws.{HasNumber}
use Rattle.seen_pairs.proofs.CounterLaws.{sense_counter, write_counter}
use Rattle.small_wires.proofs.FarLaws.{lv, sp, wide_wire, wide_space, logic_level, corner_level, upper_level, row_level, inverter_level, not_rail}
use Rattle.small_wires.proofs.MainNetLaws.{data_number, enable_number, result_number}
use Rattle.seen_pairs.proofs.SeatLaws.{zone_at}
use Rattle.small_wires.proofs.SeenWireLaws.{small, SeenThere, WireHere, bank_seen, power_seen, ground_seen}
use Rattle.small_wires.proofs.SpanLaws.{sense_wire, write_wire, IsWireInSpan}
use Rattle.seen_wires.proofs.SlicePinLaws as first
use Rattle.seen_wires.proofs.SliceTapLaws as second

module _ (connections : List Connect) (s : Source) (by reach : ℤ) (is : IsSeenSource connections s by reach) (window : HasSeenWindow connections s) (i : Standing s) (of : IsOfSlices i.leaf) where
  -- what is said before, of the same
  abbrev f : Floorplan
  f = s.floorplan

  abbrev g : Floorplan
  g = window.floorplan

  abbrev S : ℤ
  S = s.wire.space

  abbrev W : ℤ
  W = s.wire.width

  abbrev wpr : ℕ
  wpr = words_per_row s.plan

  abbrev unit : ℕ
  unit = wpr * bit_width s.kit

  abbrev sm : Source
  sm = small connections s by reach is window

  abbrev b : ℕ
  b = leaf_bank i.leaf

  abbrev m : ℕ
  m = (first.chosen connections s by reach is window i of).0

  abbrev dx : ℤ
  dx = right_by s.plan s.kit f g b m

  abbrev dy : ℤ
  dy = slices_up f g

  abbrev c : Counter connections s by reach is window m dx dy i
  c = first.c connections s by reach is window i of

  abbrev z : Zone
  z = zone_at connections s by reach is i

  abbrev anchor : Anchored connections s by reach is window b m unit z dx
  anchor = first.anchor connections s by reach is window i of

  abbrev low_is : z.low ≡ f.write_y
  low_is = first.low_is connections s by reach is window i of

  abbrev wide : reach ≤ℤ pos unit
  wide = first.wide connections s by reach is window i of

  abbrev in_bank_i : b < banks_of s.plan
  in_bank_i = first.in_bank_i connections s by reach is window i of

  abbrev below : (t : Shape) → IsNearZone S z t.rect → (t.rect.y2 +ℤ S) ≤ℤ f.write_y → ⊥
  below = first.below connections s by reach is window i of

  abbrev above : (t : Shape) → IsNearZone S z t.rect → (column_channel_y s.kit f +ℤ S) ≤ℤ t.rect.y1 → ⊥
  above = first.above connections s by reach is window i of

  abbrev over : (t : Shape) → IsNearZone S z t.rect → f.column_y ≤ℤ t.rect.y1 → ⊥
  over = first.over connections s by reach is window i of

  abbrev behind : (t : Shape) → IsNearZone S z t.rect → trunk_x s.plan s.kit s.wire f ≤ℤ t.rect.x1 → ⊥
  behind = first.behind connections s by reach is window i of

  abbrev sense_rises : f.sense_y +ℤ dy ≡ g.sense_y
  sense_rises = first.sense_rises connections s by reach is window i of

  abbrev write_rises : f.write_y +ℤ dy ≡ g.write_y
  write_rises = first.write_rises connections s by reach is window i of

  abbrev next_to : (e : ℕ) (t : Rect) → IsNearZone reach z t → bank_x f b (column_x s.plan s.kit f (e * wpr)) ≤ℤ t.x1 → t.x2 ≤ℤ (bank_x f b (column_x s.plan s.kit f (e * wpr)) +ℤ pos unit) → e < s.plan.word_size → (j : ℕ) × (e ≡ j + m) × (j < window.word)
  next_to = first.next_to connections s by reach is window i of

  abbrev of_bank : (k e : ℕ) (t : Rect) → e < s.plan.word_size → bank_x f k (column_x s.plan s.kit f (e * wpr)) ≤ℤ t.x1 → t.x2 ≤ℤ (bank_x f k (column_x s.plan s.kit f (e * wpr)) +ℤ pos unit) → IsNearZone S z t → k ≡ b
  of_bank = first.of_bank connections s by reach is window i of

  abbrev q : ℕ → ℤ
  q k = pos k *ℤ s.floorplan.bank_width

  abbrev IsPinSlice : (k e : ℕ) → Type 0
  IsPinSlice = first.IsPinSlice connections s by reach is window i of

  abbrev bottom_contact : (k : ℕ) → k < banks_of s.plan → (n net : Net) (t inner : Shape) → n ≡ in_bank k net → IsShifted (q k) (pos 0) inner t → (w : IsChannelWireOf (IsColumnChannel s.plan s.kit s.wire f) s.wire s.tracks.column (column_nets s.plan) net inner)
      → IsBottomBox (IsColumnChannel s.plan s.kit s.wire f) s.wire s.tracks.column (column_nets s.plan) net inner w → IsNearZone S z t.rect → IsNearZone reach z t.rect → SeenThere connections s by reach is window i n t
  bottom_contact = first.bottom_contact connections s by reach is window i of

  abbrev output_contact : (k : ℕ) → k < banks_of s.plan → (n net : Net) (t inner : Shape) → n ≡ in_bank k net → IsShifted (q k) (pos 0) inner t → (o : IsOutputWireOf s.plan s.kit s.wire f net inner) → IsNearZone S z t.rect → IsNearZone reach z t.rect → SeenThere connections s by reach is window i n t
  output_contact = first.output_contact connections s by reach is window i of

  abbrev joiner_contact : (k : ℕ) → k < banks_of s.plan → (n : Net) (t inner : Shape) → n ≡ in_bank k Gnd → IsShifted (q k) (pos 0) inner t → IsBox (slice_index s.wire.metals 0) (columns_x s.plan s.kit f) (f.sense_y -ℤ W) (columns_end s.plan s.kit f) f.sense_y inner → IsNearZone S z t.rect → SeenThere connections s by reach is window i n t
  joiner_contact = second.joiner_contact connections s by reach is window i of

  abbrev tap_contact : (k : ℕ) → k < banks_of s.plan → (n net : Net) (t inner : Shape) → n ≡ in_bank k net → IsShifted (q k) (pos 0) inner t → (x y end : ℤ) (rail : IsRailOf s.plan s.wire f 0 net x) (l : ℕ) → l + 1 ≡ s.plan.word_size → (port : ℕ) (rect : Rect) → IsPin s.plan s.kit f (SenseAt 0 l) port 2 net rect → y ≡ rect.y1 → end ≡ rect.x2
      → IsBox (slice_index s.wire.metals 2) x y end (y +ℤ W) inner → IsNearZone S z t.rect → SeenThere connections s by reach is window i n t
  tap_contact = second.tap_contact connections s by reach is window i of

  one_by_one : (sm.plan.masks ≡ 0) ⊎ ((sm.plan.write_size ≡ 1) × (sm.plan.masks ≡ sm.plan.word_size))
  one_by_one = elim window.size.masks_are [ inl none ↦ inl none.1 | inr more ↦ inr (more.2, more.3) ]

  -- where a wire at a pin of slice e of bank k stands
  main_slice : (k e : ℕ) (x : ℤ) (t : Shape) → e < s.plan.word_size → IsWireInSpan s.plan s.kit s.wire f k (e * wpr) unit x → t.rect.x1 ≡ x → t.rect.x2 ≡ x +ℤ W → IsNearZone S z t.rect → IsNearZone reach z t.rect → IsPinSlice k e
  main_slice k e x t lt span left right near_s near_r =
      let from : bank_x f k (column_x s.plan s.kit f (e * wpr)) ≤ℤ t.rect.x1 = subst (λ (y : ℤ). bank_x f k (column_x s.plan s.kit f (e * wpr)) ≤ℤ y) (sym left) span.from in
      let to : t.rect.x2 ≤ℤ (bank_x f k (column_x s.plan s.kit f (e * wpr)) +ℤ pos unit) = subst (λ (y : ℤ). y ≤ℤ (bank_x f k (column_x s.plan s.kit f (e * wpr)) +ℤ pos unit)) (sym right) span.to in
      let bank = of_bank k e t.rect lt from to near_s in
      let n = next_to e t.rect near_r (subst (λ (y : ℕ). bank_x f y (column_x s.plan s.kit f (e * wpr)) ≤ℤ t.rect.x1) bank from) (subst (λ (y : ℕ). t.rect.x2 ≤ℤ (bank_x f y (column_x s.plan s.kit f (e * wpr)) +ℤ pos unit)) bank to) lt in
      record { bank = bank; j = n.0; sum = n.1; less = n.2 }

  -- the branch of a pin of the main channel's upper side there
  top_seen : (k : ℕ) → k ≡ b → (n net2 : Net) (t : Shape) (x y : ℤ) (x2 : ℤ) → slice_net s.plan m net2 ≡ n → x2 ≡ x +ℤ right_by s.plan s.kit f g k m → IsBox (slice_index s.wire.metals 3) x y (x +ℤ W) f.write_y t
      → (num : HasNumber (main_nets sm.plan) net2) → IsPinOf window.source.drawn.main.channel.top num.0 x2 → SeenThere connections s by reach is window i n t
  top_seen k e n net2 t x y x2 named moves box num pin =
      let route = window.source.drawn.main in
      let l = place_below (main_nets sm.plan) num.0 net2 num.1 in
      let count = route.meant.nets in
      let br = top_there (IsMainChannel sm.plan s.kit s.wire g) s.wire window.tracks.main is.source.drawn.laid.sizes route window.source.main (main_nets sm.plan) num.0 net2 x2 num.1 (omega (arith, l, count)) pin in
      let top : route.channel.low +ℤ channel_height s.wire window.tracks.main ≡ g.write_y = ap (λ (v : ℤ). v +ℤ channel_height s.wire window.tracks.main) route.meant.low ∙ sym window.source.drawn.stands.write_y in
      let d : x2 ≡ x +ℤ dx = moves ∙ ap (λ (j : ℕ). x +ℤ right_by s.plan s.kit f g j m) e in
      bank_seen connections s by reach is window m dx dy i c n net2 t br.1.u named (inl (inl br.1.is)) (record {
        layer = br.1.box.on ∙ sym box.on;
        left = inl (left x x2 t.rect.x1 br.1.u.rect.x1 d box.left br.1.box.left);
        right = inl (right x x2 W t.rect.x2 br.1.u.rect.x2 d box.right br.1.box.right);
        low = inr (low z.low f.write_y g.write_y S W br.0 br.1.u.rect.y1 (route.channel.low +ℤ channel_height s.wire window.tracks.main) low_is write_rises top br.2 br.1.box.low is.space (wide_wire connections s by reach is));
        high = inl (high f.write_y g.write_y t.rect.y2 br.1.u.rect.y2 (route.channel.low +ℤ channel_height s.wire window.tracks.main) write_rises top box.high br.1.box.high);
      })
    where
      left : (x x2 a u : ℤ) → x2 ≡ x +ℤ dx → a ≡ x → u ≡ x2 → u ≤ℤ (a +ℤ dx)
      left x x2 a u h1 h2 h3 = omega (arith, ints, h1, h2, h3)

      right : (x x2 w a u : ℤ) → x2 ≡ x +ℤ dx → a ≡ x +ℤ w → u ≡ x2 +ℤ w → (a +ℤ dx) ≤ℤ u
      right x x2 w a u h1 h2 h3 = omega (arith, ints, h1, h2, h3)

      low : (zl y v sp w lo u top : ℤ) → zl ≡ y → y +ℤ dy ≡ v → top ≡ v → (lo +ℤ (sp +ℤ w)) ≤ℤ top → u ≡ lo → by ≤ℤ sp → pos 1 ≤ℤ w → (u +ℤ by) ≤ℤ (zl +ℤ dy)
      low zl y v sp w lo u top h1 h2 h3 h4 h5 h6 h7 = omega (arith, ints, h1, h2, h3, h4, h5, h6, h7)

      high : (y v a u top : ℤ) → y +ℤ dy ≡ v → top ≡ v → a ≡ y → u ≡ top → (a +ℤ dy) ≤ℤ u
      high y v a u top h1 h2 h3 h4 = omega (arith, ints, h1, h2, h3, h4)

  main_contact : (n : Net) (t : Shape) (w : IsChannelWireOf (IsMainChannel s.plan s.kit s.wire f) s.wire s.tracks.main (main_nets s.plan) n t) → IsTopBox (IsMainChannel s.plan s.kit s.wire f) s.wire s.tracks.main (main_nets s.plan) n t w → IsNearZone S z t.rect → IsNearZone reach z t.rect → SeenThere connections s by reach is window i n t
  main_contact n t w bx near_s near_r = meet meets.0 meets.2.0 (same_Some n meets.0 (sym w.named ∙ meets.1)) meets.2.1 meets.2.2 where
    meets : (net : Net) × (slice_get (main_nets s.plan) w.number ≡ Some net) × MeetsMainTopOfBanks s.plan s.kit s.wire f net bx.x
    meets = (w.routed.meant.top w.number bx.x).0 bx.pin

    box : IsBox (slice_index s.wire.metals 3) bx.x bx.y (bx.x +ℤ W) f.write_y t
    box = record { on = bx.box.on; left = bx.box.left; low = bx.box.low; right = bx.box.right; high = bx.box.high ∙ (ap (λ (v : ℤ). v +ℤ channel_height s.wire s.tracks.main) w.routed.meant.low ∙ sym is.source.drawn.stands.write_y) }

    begins : (x : ℤ) → bx.x ≡ x → IsBox (slice_index s.wire.metals 3) x bx.y (x +ℤ W) f.write_y t
    begins x e = subst (λ (v : ℤ). IsBox (slice_index s.wire.metals 3) v bx.y (v +ℤ W) f.write_y t) e box

    inputs : (e : ℕ) → e < inputs_of s.plan → e < s.plan.word_size
    inputs e lt = subst (λ (n : ℕ). e < n) (written_all s.plan.write_size s.plan.word_size is.written) lt

    write_pin : (k e port : ℕ) (net : Net) (rect : Rect) → (p : IsPin s.plan s.kit f (WriteAt k e) port 3 net rect) → (h : IsPinSlice k e) → IsPinThere connections s by reach is window m (right_by s.plan s.kit f g k m) dy (WriteAt k h.j) port 3 net rect
    write_pin k e port net rect p h =
        pin_there connections s by reach is window m (right_by s.plan s.kit f g k m) dy (WriteAt k e) port 3 net rect p
        (write_counter s.plan s.kit s.wire s.tracks window.tracks f g window.word window.write window.masks is.source.drawn.stands window.source.drawn.stands is.written window.size.written k e p.place p.has p.stands h.j m h.sum h.less)

    sense_pin : (k e port : ℕ) (net : Net) (rect : Rect) → (p : IsPin s.plan s.kit f (SenseAt k e) port 3 net rect) → (h : IsPinSlice k e) → IsPinThere connections s by reach is window m (right_by s.plan s.kit f g k m) dy (SenseAt k h.j) port 3 net rect
    sense_pin k e port net rect p h =
        pin_there connections s by reach is window m (right_by s.plan s.kit f g k m) dy (SenseAt k e) port 3 net rect p
        (sense_counter s.plan s.kit s.wire s.tracks window.tracks f g window.word window.write window.masks is.source.drawn.stands window.source.drawn.stands is.written window.size.written k e p.place p.has p.stands h.j m h.sum h.less)

    write_slice : (k e port : ℕ) (net : Net) (from : IsPinFrom s.plan s.kit f (WriteAt k e) port 3 net bx.x) → IsPinSlice k e
    write_slice k e port net from = main_slice k e from.rect.x1 t (inputs e from.is.has.1) (write_wire s.plan s.kit s.wire f is.source.drawn.laid is.source.drawn.pins k e port 3 net from.rect (inr refl) from.is) (begins from.rect.x1 from.begins).left (begins from.rect.x1 from.begins).right near_s near_r

    meet : (net : Net) (k : ℕ) → n ≡ net → k < banks_of s.plan → MeetsMainTop s.plan s.kit s.wire f k net bx.x → SeenThere connections s by reach is window i n t
    meet net k same lt (inl rail) =
        absurd (not_rail connections s by reach is b z anchor.from anchor.to k bx.x t.rect (rail_at s.plan s.kit s.wire f k net bx.x (sp connections s by reach is) rail) (let e = box.left in omega (arith, ints, e)) (let e = box.right in omega (arith, ints, e)) near_s)
    meet net k same lt (inr (inl (e, from))) =
        let h = write_slice k e 0 net from in
        let p = write_pin k e 0 net from.rect from.is h in
        let num = data_number sm.plan window.size.written one_by_one k h.j p.net2 h.less p.pin.on in
        top_seen k h.bank n p.net2 t from.rect.x1 bx.y p.rect2.x1 (p.named ∙ sym same) p.moved_by.x1 (begins from.rect.x1 from.begins) num
        ((window.source.drawn.main.meant.top num.0 p.rect2.x1).1 (p.net2, num.1, (k, lt, inr (inl (h.j, record { rect = p.rect2; is = p.pin; begins = refl })))))
    meet net k same lt (inr (inr (inl (e, from)))) =
        let h = write_slice k e 3 net from in
        let p = write_pin k e 3 net from.rect from.is h in
        let num = enable_number sm.plan window.size.written one_by_one k h.j p.net2 lt h.less p.pin.on in
        top_seen k h.bank n p.net2 t from.rect.x1 bx.y p.rect2.x1 (p.named ∙ sym same) p.moved_by.x1 (begins from.rect.x1 from.begins) num
        ((window.source.drawn.main.meant.top num.0 p.rect2.x1).1 (p.net2, num.1, (k, lt, inr (inr (inl (h.j, record { rect = p.rect2; is = p.pin; begins = refl }))))))
    meet net k same lt (inr (inr (inr (e, from)))) =
        let h = main_slice k e from.rect.x1 t from.is.has.1 (sense_wire s.plan s.kit s.wire f is.source.drawn.laid is.source.drawn.pins k e 2 3 net from.rect (inr refl) from.is) (begins from.rect.x1 from.begins).left (begins from.rect.x1 from.begins).right near_s near_r in
        let p = sense_pin k e 2 net from.rect from.is h in
        let num = result_number sm.plan window.size.written one_by_one k h.j p.net2 h.less p.pin.on in
        top_seen k h.bank n p.net2 t from.rect.x1 bx.y p.rect2.x1 (p.named ∙ sym same) p.moved_by.x1 (begins from.rect.x1 from.begins) num
        ((window.source.drawn.main.meant.top num.0 p.rect2.x1).1 (p.net2, num.1, (k, lt, inr (inr (inr (h.j, record { rect = p.rect2; is = p.pin; begins = refl }))))))

  -- Bars

  bar_x : (x : ℤ) → x ≡ columns_x s.plan s.kit f → x ≡ columns_x s.plan s.kit g
  bar_x x e = e ∙ sym (columns_same connections s by reach is window)

  no_more : (x y : ℤ) → x ≡ y → x ≤ℤ y
  no_more x y e = omega (arith, ints, e)

  channel_rises : (f.sense_y +ℤ pos (s.kit.height Sense)) +ℤ dy ≡ g.sense_y +ℤ pos (s.kit.height Sense)
  channel_rises = go f.sense_y g.sense_y (s.kit.height Sense) sense_rises where
    go : (x y : ℤ) (h : ℕ) → x +ℤ dy ≡ y → (x +ℤ pos h) +ℤ dy ≡ y +ℤ pos h
    go x y h e = omega (arith, ints, e)

  via_behind : (x y trunk : ℤ) (t : Shape) → trunk_x s.plan s.kit s.wire f ≤ℤ trunk → IsVia s.wire 0 trunk y t → IsNearZone S z t.rect → ⊥
  via_behind x y trunk t le box near = behind t near (let e = box.left in let p = margin_positive s.wire is.source.drawn.laid.sizes in go (trunk_x s.plan s.kit s.wire f) trunk (margin s.wire) t.rect.x1 le p e) where
    go : (a tr m x : ℤ) → a ≤ℤ tr → pos 1 ≤ℤ m → x ≡ tr +ℤ m → a ≤ℤ x
    go a tr m x h1 h2 h3 = omega (arith, ints, h1, h2, h3)

  ground_behind : trunk_x s.plan s.kit s.wire f ≤ℤ ground_x s.plan s.kit s.wire f
  ground_behind = let a = wide_wire connections s by reach is in let e = wide_space connections s by reach is in go (trunk_x s.plan s.kit s.wire f) W S a e where
    go : (t w sp : ℤ) → pos 1 ≤ℤ w → pos 1 ≤ℤ sp → t ≤ℤ (t +ℤ (w +ℤ sp))
    go t w sp h1 h2 = omega (arith, ints, h1, h2)

  power_contact : (t : Shape) → IsPowerWire s.plan s.kit s.wire f t → IsNearZone S z t.rect → SeenThere connections s by reach is window i Vdd t
  power_contact t (inl trunk) near = absurd (behind t near (let e = trunk.left in no_more (trunk_x s.plan s.kit s.wire f) t.rect.x1 (sym e)))
  power_contact t (inr (x, y, at, inr via)) near = absurd (via_behind x y (trunk_x s.plan s.kit s.wire f) t (no_more _ _ refl) via near)
  power_contact t (inr (x, y, at, inl box)) near = height at where
    seen : (v : ℤ) → x ≡ columns_x s.plan s.kit f → y +ℤ dy ≡ v → IsPowerBarAt sm.plan s.kit s.wire g x v → SeenThere connections s by reach is window i Vdd t
    seen v ex up there = power_seen connections s by reach is window m dx dy i c b unit anchor wide in_bank_i x y v (trunk_x s.plan s.kit s.wire f) t (no_more x (columns_x s.plan s.kit g) (bar_x x ex)) up box there

    far : f.column_y ≤ℤ y → SeenThere connections s by reach is window i Vdd t
    far le = absurd (over t near (let e = box.low in omega (arith, ints, le, e)))

    height : IsPowerBarAt s.plan s.kit s.wire f x y → SeenThere connections s by reach is window i Vdd t
    height (inl (ex, ey)) = absurd (below t near (let e = box.high in let a = logic_level connections s by reach is in omega (arith, ints, e, ey, a)))
    height (inr (inl (w0, ex, ey))) = seen g.write_y ex (ap (λ (v : ℤ). v +ℤ dy) ey ∙ write_rises) (inr (inl (window.size.written, bar_x x ex, refl)))
    height (inr (inr (inl (ex, ey)))) = seen (column_channel_y s.kit g -ℤ W) ex (let r = channel_rises in omega (arith, ints, ey, r)) (inr (inr (inl (bar_x x ex, refl))))
    height (inr (inr (inr (inl (ex, ey))))) = far (no_more f.column_y y (sym ey))
    height (inr (inr (inr (inr (inl (r, lt, odd, ex, ey)))))) = far (let a = row_level connections s by reach is r in omega (arith, ints, a, ey))
    height (inr (inr (inr (inr (inr (ex, ey)))))) = far (let a = upper_level connections s by reach is in omega (arith, ints, a, ey))

  ground_contact : (t : Shape) → IsGroundWire s.plan s.kit s.wire f t → IsNearZone S z t.rect → SeenThere connections s by reach is window i Gnd t
  ground_contact t (inl trunk) near = absurd (behind t near (let e = trunk.left in let a = ground_behind in omega (arith, ints, e, a)))
  ground_contact t (inr (x, y, at, inr via)) near = absurd (via_behind x y (ground_x s.plan s.kit s.wire f) t ground_behind via near)
  ground_contact t (inr (x, y, at, inl box)) near = height at where
    far : f.column_y ≤ℤ y → SeenThere connections s by reach is window i Gnd t
    far le = absurd (over t near (let e = box.low in omega (arith, ints, le, e)))

    height : IsGroundBarAt s.plan s.kit f x y → SeenThere connections s by reach is window i Gnd t
    height (inl (ex, ey)) = absurd (below t near (let e = box.high in let a = logic_level connections s by reach is in let h = inverter_level connections s by reach is in omega (arith, ints, e, ey, a, h)))
    height (inr (inl (ex, ey))) =
        ground_seen connections s by reach is window m dx dy i c b unit anchor wide in_bank_i x y g.sense_y (ground_x s.plan s.kit s.wire f) t (no_more x (columns_x s.plan s.kit g) (bar_x x ex)) (ap (λ (v : ℤ). v +ℤ dy) ey ∙ sense_rises) box (inr (inl (bar_x x ex, refl)))
    height (inr (inr (inl (r, lt, even, ex, ey)))) = far (let a = row_level connections s by reach is r in omega (arith, ints, a, ey))
    height (inr (inr (inr (ex, ey)))) = far (let a = (lv connections s by reach is).array in let h = (lv connections s by reach is).precharge in omega (arith, ints, a, h, ey))

  -- All wires

  main_case : (n : Net) (t : Shape) → IsChannelWireOf (IsMainChannel s.plan s.kit s.wire f) s.wire s.tracks.main (main_nets s.plan) n t → IsNearZone S z t.rect → IsNearZone reach z t.rect → SeenThere connections s by reach is window i n t
  main_case n t w near_s near_r = elim (channel_kind (IsMainChannel s.plan s.kit s.wire f) s.wire s.tracks.main (main_nets s.plan) n t w is.source.drawn.laid.sizes) [
    | inl inner ↦ absurd (below t near_s (let a = inner.below in omega (arith, ints, a, upper)))
    | inr (inl top) ↦ main_contact n t w top near_s near_r
    | inr (inr bottom) ↦ absurd (below t near_s (let a = bottom.below in let h = bottom.box.high in omega (arith, ints, a, h, upper)))
  ] where
    upper : w.channel.low +ℤ channel_height s.wire s.tracks.main ≡ f.write_y
    upper = ap (λ (v : ℤ). v +ℤ channel_height s.wire s.tracks.main) w.routed.meant.low ∙ sym is.source.drawn.stands.write_y

  rail_far : (k : ℕ) (net : Net) (x : ℤ) (t inner : Shape) → IsRailOf s.plan s.wire f 0 net x → IsShifted (q k) (pos 0) inner t → x ≤ℤ inner.rect.x1 → inner.rect.x2 ≤ℤ (x +ℤ W) → IsNearZone S z t.rect → ⊥
  rail_far k net x t inner rail sh left right near =
      not_rail connections s by reach is b z anchor.from anchor.to k (x +ℤ q k) t.rect (rail_in s.plan s.kit s.wire s.tracks f is.source.drawn k net x rail) (let e = sh.x1 in omega (arith, ints, e, left)) (let e = sh.x2 in omega (arith, ints, e, right)) near

  -- what stands so high in bank 0 stands as high in each bank
  over_bank : (k : ℕ) (t inner : Shape) → IsShifted (q k) (pos 0) inner t → IsNearZone S z t.rect → f.column_y ≤ℤ inner.rect.y1 → ⊥
  over_bank k t inner sh near le = over t near (let e = sh.y1 in omega (arith, ints, e, le))

  above_bank : (k : ℕ) (t inner : Shape) → IsShifted (q k) (pos 0) inner t → IsNearZone S z t.rect → (column_channel_y s.kit f +ℤ S) ≤ℤ inner.rect.y1 → ⊥
  above_bank k t inner sh near le = above t near (let e = sh.y1 in omega (arith, ints, e, le))

  pin_over : (leaf : LeafInstance) (port : ℕ) (net : Net) (rect : Rect) → (p : IsPin s.plan s.kit f leaf port 2 net rect) → f.column_y ≡ (zone_of s.plan s.kit f leaf p.place).low → f.column_y ≤ℤ rect.y1
  pin_over leaf port net rect p e = let n = (pin_in_zone s.plan s.kit s.wire f leaf port 2 net rect is.source.drawn.laid is.source.drawn.pins p).low in omega (arith, ints, n, e)

  tap_case : (k : ℕ) → k < banks_of s.plan → (n net : Net) (t inner : Shape) → n ≡ in_bank k net → IsShifted (q k) (pos 0) inner t → IsTapWireOf s.plan s.kit s.wire s.tracks.column f net inner → IsNearZone S z t.rect → SeenThere connections s by reach is window i n t
  tap_case k lt n net t inner named sh tap near = by_drawn tap.drawn where
    high : f.column_y ≤ℤ tap.y → IsBox (slice_index s.wire.metals 2) tap.x tap.y tap.end (tap.y +ℤ W) inner → SeenThere connections s by reach is window i n t
    high le box = absurd (over_bank k t inner sh near (let e = box.low in omega (arith, ints, le, e)))

    raised : (rect : Rect) → tap.y ≡ rect.y1 → f.column_y ≤ℤ rect.y1 → f.column_y ≤ℤ tap.y
    raised rect e le = omega (arith, ints, e, le)

    by_tap : IsTapOfNet s.plan s.kit s.wire s.tracks.column f net tap.x tap.y tap.end → IsBox (slice_index s.wire.metals 2) tap.x tap.y tap.end (tap.y +ℤ W) inner → SeenThere connections s by reach is window i n t
    by_tap (inl (r, p)) box = high (raised p.rect p.at (pin_over (NandAt 0 r) p.port net p.rect p.pin refl)) box
    by_tap (inr (inl (r, p))) box = high (raised p.rect p.at (pin_over (DriverAt 0 r) p.port net p.rect p.pin refl)) box
    by_tap (inr (inr (inl (l, last, p)))) box = tap_contact k lt n net t inner named sh tap.x tap.y tap.end tap.rail l last p.port p.rect p.pin p.at p.ends box near
    by_tap (inr (inr (inr (inl (e, last, p))))) box = high (raised p.rect p.at (pin_over (PrechargeAt 0 e) p.port net p.rect p.pin refl)) box
    by_tap (inr (inr (inr (inr choice)))) box =
        let tr = choice.trunk in
        let a = track_above tr.channel.low s.wire tr.on is.source.drawn.laid.sizes in
        let l = tr.routed.meant.low in
        let at = tr.at in
        let e = box.low in
        absurd (above_bank k t inner sh near (omega (arith, ints, a, l, at, e)))

    by_drawn : IsBox (slice_index s.wire.metals 2) tap.x tap.y tap.end (tap.y +ℤ W) inner ⊎ IsVia s.wire 2 tap.x tap.y inner → SeenThere connections s by reach is window i n t
    by_drawn (inl box) = by_tap tap.tap box
    by_drawn (inr via) =
        let p = margin_positive s.wire is.source.drawn.laid.sizes in
        let two = two_margins s.wire is.source.drawn.laid.sizes in
        let l = via.left in
        let r = via.right in
        absurd (rail_far k net tap.x t inner tap.rail sh (go tap.x (margin s.wire) inner.rect.x1 p l) (og tap.x (margin s.wire) s.wire.cut W inner.rect.x2 p two r) near)
      where
        go : (x m a : ℤ) → pos 1 ≤ℤ m → a ≡ x +ℤ m → x ≤ℤ a
        go x m a h1 h2 = omega (arith, ints, h1, h2)

        og : (x m c w a : ℤ) → pos 1 ≤ℤ m → w ≡ c +ℤ (m +ℤ m) → a ≡ (x +ℤ m) +ℤ c → a ≤ℤ (x +ℤ w)
        og x m c w a h1 h2 h3 = omega (arith, ints, h1, h2, h3)

  bank_case : (k : ℕ) → k < banks_of s.plan → (n net : Net) (t inner : Shape) → n ≡ in_bank k net → IsShifted (q k) (pos 0) inner t → IsBankWireOf s.plan s.kit s.wire s.tracks f net inner → IsNearZone S z t.rect → IsNearZone reach z t.rect → SeenThere connections s by reach is window i n t
  bank_case k lt n net t inner named sh (inl w) near_s near_r = elim (channel_kind (IsColumnChannel s.plan s.kit s.wire f) s.wire s.tracks.column (column_nets s.plan) net inner w is.source.drawn.laid.sizes) [
    | inl middle ↦ absurd (above_bank k t inner sh near_s (let a = middle.above in omega (arith, ints, a, low)))
    | inr (inl top) ↦ absurd (above_bank k t inner sh near_s (let a = top.above in let h = top.box.low in omega (arith, ints, a, h, low)))
    | inr (inr bottom) ↦ bottom_contact k lt n net t inner named sh w bottom near_s near_r
  ] where
    low : w.channel.low ≡ column_channel_y s.kit f
    low = w.routed.meant.low
  bank_case k lt n net t inner named sh (inr (inl tap)) near_s near_r = tap_case k lt n net t inner named sh tap near_s
  bank_case k lt n net t inner named sh (inr (inr (inl rail))) near_s near_r = absurd (rail_far k net rail.x t inner rail.rail sh (let e = rail.drawn.left in no_more rail.x inner.rect.x1 (sym e)) (no_more inner.rect.x2 (rail.x +ℤ W) rail.drawn.right) near_s)
  bank_case k lt n net t inner named sh (inr (inr (inr (inl output)))) near_s near_r = output_contact k lt n net t inner named sh output near_s near_r
  bank_case k lt n net t inner named sh (inr (inr (inr (inr (e, inl joiner))))) near_s near_r = joiner_contact k lt n t inner (named ∙ ap (in_bank k) e) sh joiner.1 near_s
  bank_case k lt n net t inner named sh (inr (inr (inr (inr (e, inr joiner))))) near_s near_r = absurd (over_bank k t inner sh near_s (let a = corner_level connections s by reach is in let h = joiner.low in omega (arith, ints, a, h)))

  -- A wire that is near an instance of a slice is seen with it.
  pub slice_wire : (n : Net) (t : Shape) → WireHere connections s by reach is window n t → IsNearZone S z t.rect → IsNearZone reach z t.rect → SeenThere connections s by reach is window i n t
  slice_wire n t (inl (inl w)) near_s near_r = main_case n t w near_s near_r
  slice_wire n t (inl (inr (inl power))) near_s near_r = subst (λ (v : Net). SeenThere connections s by reach is window i v t) (sym power.0) (power_contact t power.1 near_s)
  slice_wire n t (inl (inr (inr ground))) near_s near_r = subst (λ (v : Net). SeenThere connections s by reach is window i v t) (sym ground.0) (ground_contact t ground.1 near_s)
  slice_wire n t (inr bank) near_s near_r = bank_case bank.bank bank.below n bank.net t bank.inner bank.named bank.shifted bank.is near_s near_r
