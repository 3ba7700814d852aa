-- Pins, branches and joiners beside an instance of a column are seen in the small memory.
use Rattle.std.proofs.Common.{◌≡◌, ◌⊎◌, inl, inr, ◌∙◌, ℕ, zero, suc, ◌+◌, ◌*◌, ◌<◌, ◌≤◌, ℤ, pos, ◌+ℤ◌, ◌-ℤ◌, ◌*ℤ◌, ◌≤ℤ◌, ◌<ℤ◌, List, refl, sym, ap, subst, arith}
use Rattle.std.specs.Prelude.{slice_index}
use Rattle.good_places.proofs.NumberLaws.{all_of}
use Rattle.std.proofs.lemmas.Int.{ints}
use Rattle.std.proofs.lemmas.Option.{same_Some}
use Rattle.or_geom.specs.declared.shape.Rect.{Rect}
use Rattle.or_geom.specs.declared.shape.Shape.{Shape}
use Rattle.tech_rules.specs.declared.tech.Connect.{Connect}
use Rattle.wire_drawing.specs.Drawing.{IsBox}
use Rattle.channel_router.specs.Wires.{channel_height}
use Rattle.sram_netlist.specs.Organization.{banks_of, columns_of, words_per_row}
use Rattle.sram_netlist.specs.Nets.{Net, Gnd}
use Rattle.sram_netlist.specs.Instances.{MuxAt, TieAt}
use Rattle.macro_layout.specs.Places.{Floorplan, bank_x, columns_x, column_x, bit_width, drive_width}
use Rattle.macro_layout.specs.Pins.{IsPin, IsRailOf, column_nets}
use Rattle.macro_layout.specs.Channels.{IsColumnChannel}
use Rattle.macro_layout.specs.Stated.{IsShifted}
use Rattle.macro_layout.specs.Wires.{columns_end, trunk_x}
use Rattle.good_places.specs.Leaves.{Zone}
use Rattle.macro_layout.specs.Cells.{column_leaf}
use Rattle.good_wires.proofs.FourthLaws.{rail_in}
use Rattle.joined_nets.specs.WireNets.{in_bank, IsChannelWireOf}
use Rattle.joined_nets.proofs.WireNetLaws.{place_below}
use Rattle.kit_nets.specs.StatedParts.{Source, Standing}
use Rattle.kit_nets.proofs.ChannelDrawnLaws.{box_there}
use Rattle.kit_nets.proofs.ColumnHubLaws.{zero_times}
use Rattle.seen_pairs.specs.Counterpart.{leaf_bank, right_by, columns_up}
use Rattle.small_wires.specs.Seen.{IsNearZone}
use Rattle.seen_pairs.specs.Window.{IsSeenSource, HasSeenWindow}
use Rattle.small_wires.proofs.AnchorLaws.{joiner_left, end_right, width_here, width_there, columns_some, rows_same}
use Rattle.small_wires.proofs.BankWireLaws.{pin_there, IsPinThere, in_bank_seen}
use Rattle.small_wires.proofs.BranchLaws.{IsTopBox, top_there}
use Rattle.small_wires.proofs.ColumnNetLaws.{column_lines, line_back, end_number, IsLineNet}
use Rattle.seen_pairs.proofs.CounterLaws.{mux_counter, tie_counter, array_up, precharge_up}
use Rattle.small_wires.proofs.FarLaws.{sp, wide_wire, below_zone, same_bank, not_rail, not_behind}
use Rattle.seen_pairs.proofs.SeatLaws.{zone_at}
use Rattle.seen_wires.proofs.SlicePinLaws.{x_there}
use Rattle.small_wires.proofs.SeenWireLaws.{small, SeenThere}
use Rattle.small_wires.proofs.SpanLaws.{end_wire, IsWireInSpan}
use Rattle.seen_wires.proofs.ColumnSeatLaws.{IsColumnSeat, end_below}

module _ (connections : List Connect) (s : Source) (by reach : ℤ) (is : IsSeenSource connections s by reach) (window : HasSeenWindow connections s) (i : Standing s) (seat : IsColumnSeat connections s by reach is window i) where
  abbrev f : Floorplan
  f = s.floorplan

  abbrev g : Floorplan
  g = window.floorplan

  abbrev S : ℤ
  S = s.wire.space

  abbrev W : ℤ
  W = s.wire.width

  abbrev wpr : ℕ
  wpr = words_per_row s.plan

  abbrev bw : ℕ
  bw = bit_width s.kit

  abbrev sm : Source
  sm = small connections s by reach is window

  abbrev b : ℕ
  b = leaf_bank i.leaf

  abbrev dy : ℤ
  dy = columns_up f g

  abbrev z : Zone
  z = zone_at connections s by reach is i

  abbrev m : ℕ
  m = seat.m

  abbrev dx : ℤ
  dx = right_by s.plan s.kit f g b m

  abbrev q : ℕ → ℤ
  q k = pos k *ℤ s.floorplan.bank_width

  abbrev qg : ℕ → ℤ
  qg k = pos k *ℤ window.floorplan.bank_width

  abbrev dx0 : ℤ
  dx0 = right_by s.plan s.kit f g 0 m

  -- what is far
  pub below : (t : Shape) → IsNearZone S z t.rect → (t.rect.y2 +ℤ S) ≤ℤ f.column_y → ⊥
  below t near le = below_zone connections s by reach is z t.rect near (let e = seat.low_is in omega (arith, ints, e, le))

  pub behind : (t : Shape) → IsNearZone S z t.rect → trunk_x s.plan s.kit s.wire f ≤ℤ t.rect.x1 → ⊥
  behind t near le = not_behind connections s by reach is b z seat.anchor.from seat.anchor.to seat.in_bank_i t.rect le near

  pub below_bank : (k : ℕ) (t inner : Shape) → IsShifted (q k) (pos 0) inner t → IsNearZone S z t.rect → (inner.rect.y2 +ℤ S) ≤ℤ f.column_y → ⊥
  below_bank k t inner sh near le = below t near (let e = sh.y2 in omega (arith, ints, e, le))

  pub rail_far : (k : ℕ) (net : Net) (x : ℤ) (t inner : Shape) → IsRailOf s.plan s.wire f 0 net x → IsShifted (q k) (pos 0) inner t → x ≤ℤ inner.rect.x1 → inner.rect.x2 ≤ℤ (x +ℤ W) → IsNearZone S z t.rect → ⊥
  rail_far k net x t inner rail sh left right near =
      not_rail connections s by reach is b z seat.anchor.from seat.anchor.to k (x +ℤ q k) t.rect (rail_in s.plan s.kit s.wire s.tracks f is.source.drawn k net x rail) (let e = sh.x1 in omega (arith, ints, e, left)) (let e = sh.x2 in omega (arith, ints, e, right)) near

  of_bank : (k : ℕ) (t : Rect) → (f.row_x +ℤ q k) ≤ℤ t.x1 → t.x2 ≤ℤ (f.bank_width +ℤ q k) → IsNearZone S z t → k ≡ b
  of_bank k t from to near = same_bank connections s by reach is b z seat.anchor.from seat.anchor.to k t (starts f.row_x (q k) W S t.x1 (sp connections s by reach is).row (wide_wire connections s by reach is) from) to near where
    starts : (r q w sp t : ℤ) → (w +ℤ sp) ≤ℤ r → pos 1 ≤ℤ w → (r +ℤ q) ≤ℤ t → (q +ℤ sp) ≤ℤ t
    starts r q w sp t h1 h2 h3 = omega (arith, ints, h1, h2, h3)

  pub column_rises : f.column_y +ℤ dy ≡ g.column_y
  column_rises = go f.column_y g.column_y where
    go : (x y : ℤ) → x +ℤ (y -ℤ x) ≡ y
    go x y = omega (arith, ints)

  pub array_rises : f.array_y +ℤ dy ≡ g.array_y
  array_rises = array_up s.plan s.kit s.wire s.tracks window.tracks f g window.word window.write window.masks is.source.drawn.stands window.source.drawn.stands is.written window.size.written

  pub precharge_rises : f.precharge_y +ℤ dy ≡ g.precharge_y
  precharge_rises = precharge_up s.plan s.kit s.wire s.tracks window.tracks f g window.word window.write window.masks is.source.drawn.stands window.source.drawn.stands is.written window.size.written

  pub pin_x : (k : ℕ) → k ≡ b → (x : ℤ) → ((x +ℤ dx0) +ℤ qg k) ≡ ((x +ℤ q k) +ℤ dx)
  pin_x k e x = x_there x dx0 dx (q k) (qg k) (q 0) (qg 0) ((m * wpr) * bit_width s.kit) refl (zero_times f.bank_width) (zero_times g.bank_width) (ap (λ (n : ℕ). right_by s.plan s.kit f g n m) (sym e))

  side_left : (k : ℕ) → k ≡ b → (x x2 u a : ℤ) → x2 ≡ x +ℤ dx0 → u ≡ x2 → a ≡ x → (u +ℤ qg k) ≤ℤ ((a +ℤ q k) +ℤ dx)
  side_left k e x x2 u a h1 h2 h3 = go ((x +ℤ dx0) +ℤ qg k) ((x +ℤ q k) +ℤ dx) (pin_x k e x) x x2 u a (q k) (qg k) dx0 dx h1 h2 h3 refl refl where
    go : (v w : ℤ) → v ≡ w → (x x2 u a q qg d0 d : ℤ) → x2 ≡ x +ℤ d0 → u ≡ x2 → a ≡ x → v ≡ (x +ℤ d0) +ℤ qg → w ≡ (x +ℤ q) +ℤ d → (u +ℤ qg) ≤ℤ ((a +ℤ q) +ℤ d)
    go v w same x x2 u a q qg d0 d h1 h2 h3 ev ew = omega (arith, ints, same, h1, h2, h3, ev, ew)

  side_right : (k : ℕ) → k ≡ b → (x x2 w u a : ℤ) → x2 ≡ x +ℤ dx0 → u ≡ x2 +ℤ w → a ≡ x +ℤ w → ((a +ℤ q k) +ℤ dx) ≤ℤ (u +ℤ qg k)
  side_right k e x x2 w u a h1 h2 h3 = go ((x +ℤ dx0) +ℤ qg k) ((x +ℤ q k) +ℤ dx) (pin_x k e x) x x2 w u a (q k) (qg k) dx0 dx h1 h2 h3 refl refl where
    go : (v y : ℤ) → v ≡ y → (x x2 w u a q qg d0 d : ℤ) → x2 ≡ x +ℤ d0 → u ≡ x2 +ℤ w → a ≡ x +ℤ w → v ≡ (x +ℤ d0) +ℤ qg → y ≡ (x +ℤ q) +ℤ d → ((a +ℤ q) +ℤ d) ≤ℤ (u +ℤ qg)
    go v y same x x2 w u a q qg d0 d h1 h2 h3 ev ew = omega (arith, ints, same, h1, h2, h3, ev, ew)

  -- Branches of the column channel above

  end_there : (n e j : ℕ) (port : ℕ) (net : Net) (rect : Rect) → (p : IsPin s.plan s.kit f (column_leaf n 0 e) port 3 net rect) → e ≡ j + m * wpr → j < window.word * wpr → IsPinThere connections s by reach is window m dx0 dy (column_leaf n 0 j) port 3 net rect
  end_there zero e j port net rect p sum lt =
      pin_there connections s by reach is window m dx0 dy (TieAt 0 e) port 3 net rect p
      (tie_counter s.plan s.kit s.wire s.tracks window.tracks f g window.word window.write window.masks is.source.drawn.stands window.source.drawn.stands is.written window.size.written 0 e p.place p.has p.stands j m sum lt)
  end_there (suc n) e j port net rect p sum lt =
      pin_there connections s by reach is window m dx0 dy (MuxAt 0 e) port 3 net rect p
      (mux_counter s.plan s.kit s.wire s.tracks window.tracks f g window.word window.write window.masks is.source.drawn.stands window.source.drawn.stands is.written window.size.written 0 e p.place p.has p.stands j m sum lt)

  first_bank : (x y : ℤ) (k : ℕ) → (x +ℤ q 0) ≤ℤ y → (x +ℤ q k) ≤ℤ (y +ℤ q k)
  first_bank x y k le = let o = zero_times f.bank_width in go x y (q 0) (q k) o le where
    go : (x y o r : ℤ) → o ≡ pos 0 → (x +ℤ o) ≤ℤ y → (x +ℤ r) ≤ℤ (y +ℤ r)
    go x y o r e le = omega (arith, ints, e, le)

  first_bank_to : (x y : ℤ) (u k : ℕ) → y ≤ℤ ((x +ℤ q 0) +ℤ pos u) → (y +ℤ q k) ≤ℤ ((x +ℤ q k) +ℤ pos u)
  first_bank_to x y u k le = let o = zero_times f.bank_width in go x y (q 0) (q k) u o le where
    go : (x y o r : ℤ) (u : ℕ) → o ≡ pos 0 → y ≤ℤ ((x +ℤ o) +ℤ pos u) → (y +ℤ r) ≤ℤ ((x +ℤ r) +ℤ pos u)
    go x y o r u e le = omega (arith, ints, e, le)

  record IsPinColumn (k e : ℕ) : Type 0 where
    bank : k ≡ b
    j : ℕ
    sum : e ≡ j + m * wpr
    less : j < window.word * wpr

  -- columns behind the rows' beginning, before the bank's end
  columns_from : (e : ℕ) (k : ℕ) (t : ℤ) → bank_x f k (column_x s.plan s.kit f e) ≤ℤ t → (f.row_x +ℤ q k) ≤ℤ t
  columns_from e k t le = go f.row_x (q k) t (drive_width s.plan s.kit) (e * bw) le where
    go : (r q t : ℤ) (d a : ℕ) → (((r +ℤ pos d) +ℤ pos a) +ℤ q) ≤ℤ t → (r +ℤ q) ≤ℤ t
    go r q t d a h = omega (arith, ints, h)

  columns_to : (e : ℕ) (k : ℕ) (t : ℤ) → e < columns_of s.plan → t ≤ℤ (bank_x f k (column_x s.plan s.kit f e) +ℤ pos bw) → t ≤ℤ (f.bank_width +ℤ q k)
  columns_to e k t lt le = go (columns_x s.plan s.kit f) f.bank_width (q k) t (e * bw) bw (columns_of s.plan * bw) (all_of e (columns_of s.plan) bw lt) (width_here connections s by reach is window) le where
    go : (x w q t : ℤ) (a u all : ℕ) → a + u ≤ all → w ≡ x +ℤ pos all → t ≤ℤ (((x +ℤ pos a) +ℤ q) +ℤ pos u) → t ≤ℤ (w +ℤ q)
    go x w q t a u all h1 h2 h3 = omega (arith, ints, h1, h2, h3)

  pin_column : (k e : ℕ) (x : ℤ) (t inner : Shape) → e < columns_of s.plan → IsWireInSpan s.plan s.kit s.wire f 0 e bw x → inner.rect.x1 ≡ x → inner.rect.x2 ≡ x +ℤ W → IsShifted (q k) (pos 0) inner t → IsNearZone S z t.rect → IsNearZone reach z t.rect → IsPinColumn k e
  pin_column k e x t inner lt span left right sh near_s near_r =
      let from : bank_x f k (column_x s.plan s.kit f e) ≤ℤ t.rect.x1 = starts (column_x s.plan s.kit f e) x (q k) t.rect.x1 inner.rect.x1 (first_bank (column_x s.plan s.kit f e) x k span.from) sh.x1 left in
      let to : t.rect.x2 ≤ℤ (bank_x f k (column_x s.plan s.kit f e) +ℤ pos bw) = ends (x +ℤ W) (q k) t.rect.x2 inner.rect.x2 (bank_x f k (column_x s.plan s.kit f e) +ℤ pos bw) (first_bank_to (column_x s.plan s.kit f e) (x +ℤ W) bw k span.to) sh.x2 right in
      let bank = of_bank k t.rect (columns_from e k t.rect.x1 from) (columns_to e k t.rect.x2 lt to) near_s in
      let n = seat.next_to e t.rect near_r (subst (λ (y : ℕ). bank_x f y (column_x s.plan s.kit f e) ≤ℤ t.rect.x1) bank from) (subst (λ (y : ℕ). t.rect.x2 ≤ℤ (bank_x f y (column_x s.plan s.kit f e) +ℤ pos bw)) bank to) lt in
      record { bank = bank; j = n.0; sum = n.1; less = n.2 }
    where
      starts : (c x r t a : ℤ) → (c +ℤ r) ≤ℤ (x +ℤ r) → t ≡ a +ℤ r → a ≡ x → (c +ℤ r) ≤ℤ t
      starts c x r t a le h1 h2 = omega (arith, ints, le, h1, h2)

      ends : (y r t a l : ℤ) → (y +ℤ r) ≤ℤ l → t ≡ a +ℤ r → a ≡ y → t ≤ℤ l
      ends y r t a l le h1 h2 = omega (arith, ints, le, h1, h2)

  pub top_contact : (k : ℕ) → k < banks_of s.plan → (n net : Net) (t inner : Shape) → n ≡ in_bank k net → IsShifted (q k) (pos 0) inner t → (w : IsChannelWireOf (IsColumnChannel s.plan s.kit s.wire f) s.wire s.tracks.column (column_nets s.plan) net inner)
      → IsTopBox (IsColumnChannel s.plan s.kit s.wire f) s.wire s.tracks.column (column_nets s.plan) net inner w → IsNearZone S z t.rect → IsNearZone reach z t.rect → SeenThere connections s by reach is window i n t
  top_contact k lt n net t inner named sh w bx near_s near_r =
      let meets = (w.routed.meant.top w.number bx.x).0 bx.pin in
      let e = meets.2.0 in
      let port = meets.2.1 in
      let from = meets.2.2 in
      let left = bx.box.left ∙ from.begins in
      let right = bx.box.right ∙ ap (λ (y : ℤ). y +ℤ W) from.begins in
      let h = pin_column k e from.rect.x1 t inner (end_below s.plan s.plan.col_bits e from.is.has) (end_wire s.plan s.kit s.wire f is.source.drawn.laid is.source.drawn.pins s.plan.col_bits 0 e port 3 meets.0 from.rect (inr refl) from.is) left right sh near_s near_r in
      let p = end_there s.plan.col_bits e h.j port meets.0 from.rect from.is h.sum h.less in
      let line = line_back s.plan m s.plan.col_bits p.net2 (subst (IsLineNet s.plan.col_bits) (sym p.named) (column_lines s.plan w.number meets.0 meets.1)) in
      let num = end_number sm.plan s.plan.col_bits h.j port p.net2 refl h.less p.pin.on line in
      let route = window.source.drawn.column in
      let l = place_below (column_nets sm.plan) num.0 p.net2 num.1 in
      let count = route.meant.nets in
      let br = top_there (IsColumnChannel sm.plan s.kit s.wire g) s.wire window.tracks.column is.source.drawn.laid.sizes route window.source.column (column_nets sm.plan) num.0 p.net2 p.rect2.x1 num.1 (omega (arith, l, count))
      ((route.meant.top num.0 p.rect2.x1).1 (p.net2, num.1, (h.j, port, record { rect = p.rect2; is = p.pin; begins = refl }))) in
      let upper : w.channel.low +ℤ channel_height s.wire s.tracks.column ≡ f.column_y = ap (λ (v : ℤ). v +ℤ channel_height s.wire s.tracks.column) w.routed.meant.low ∙ sym is.source.drawn.stands.column_y in
      let upper2 : route.channel.low +ℤ channel_height s.wire window.tracks.column ≡ g.column_y = ap (λ (v : ℤ). v +ℤ channel_height s.wire window.tracks.column) route.meant.low ∙ sym window.source.drawn.stands.column_y in
      in_bank_seen connections s by reach is window m dx dy i seat.c k lt n meets.0 p.net2 t inner br.1.u (named ∙ ap (in_bank k) (same_Some net meets.0 (sym w.named ∙ meets.1))) p.named sh (inl br.1.is) (record {
        layer = br.1.box.on ∙ sym bx.box.on;
        left = inl (side_left k h.bank from.rect.x1 p.rect2.x1 br.1.u.rect.x1 inner.rect.x1 p.moved_by.x1 br.1.box.left left);
        right = inl (side_right k h.bank from.rect.x1 p.rect2.x1 W br.1.u.rect.x2 inner.rect.x2 p.moved_by.x1 br.1.box.right right);
        low = inr (low z.low f.column_y g.column_y S W br.0 br.1.u.rect.y1 (route.channel.low +ℤ channel_height s.wire window.tracks.column) seat.low_is column_rises upper2 br.2 br.1.box.low is.space (wide_wire connections s by reach is));
        high = inl (high f.column_y g.column_y inner.rect.y2 br.1.u.rect.y2 (w.channel.low +ℤ channel_height s.wire s.tracks.column) (route.channel.low +ℤ channel_height s.wire window.tracks.column) column_rises upper upper2 bx.box.high br.1.box.high);
      })
    where
      low : (zl y v sp w lo u top : ℤ) → zl ≡ y → y +ℤ dy ≡ v → top ≡ v → (lo +ℤ (sp +ℤ w)) ≤ℤ top → u ≡ lo → by ≤ℤ sp → pos 1 ≤ℤ w → (u +ℤ by) ≤ℤ (zl +ℤ dy)
      low zl y v sp w lo u top h1 h2 h3 h4 h5 h6 h7 = omega (arith, ints, h1, h2, h3, h4, h5, h6, h7)

      high : (y v a u top top2 : ℤ) → y +ℤ dy ≡ v → top ≡ y → top2 ≡ v → a ≡ top → u ≡ top2 → (a +ℤ dy) ≤ℤ u
      high y v a u top top2 h1 h2 h3 h4 h5 = omega (arith, ints, h1, h2, h3, h4, h5)

  -- Joiners along the columns' ends
  pub joiner_contact : (k : ℕ) → k < banks_of s.plan → (n : Net) (t inner : Shape) → n ≡ in_bank k Gnd → IsShifted (q k) (pos 0) inner t → IsBox (slice_index s.wire.metals 0) f.row_x (f.array_y -ℤ W) (columns_end s.plan s.kit f) f.array_y inner → IsNearZone S z t.rect → SeenThere connections s by reach is window i n t
  joiner_contact k lt n t inner named sh drawn near =
      let e = of_bank k t.rect (starts f.row_x (q k) t.rect.x1 inner.rect.x1 sh.x1 drawn.left) (ends (columns_x s.plan s.kit f) f.bank_width (q k) t.rect.x2 inner.rect.x2 (columns_of s.plan * bit_width s.kit) (width_here connections s by reach is window) sh.x2 drawn.right) near in
      let box = box_there (slice_index s.wire.metals 0) g.row_x (g.array_y -ℤ W) (columns_end sm.plan s.kit g) g.array_y (wider g.row_x (drive_width s.plan s.kit) ((window.word * wpr) * bit_width s.kit) (columns_some connections s by reach is window)) (taller g.array_y W (wide_wire connections s by reach is)) in
      in_bank_seen connections s by reach is window m dx dy i seat.c k lt n Gnd Gnd t inner box.0 named refl sh (inr (inr (inr (inr (refl, inr box.1))))) (record {
        layer = box.1.on ∙ sym drawn.on;
        left = subst (λ (y : ℕ). ((box.0.rect.x1 +ℤ qg y) ≤ℤ ((inner.rect.x1 +ℤ q y) +ℤ dx)) ⊎ (((box.0.rect.x1 +ℤ qg y) +ℤ by) ≤ℤ (z.left +ℤ dx))) (sym e) (left (joiner_left connections s by reach is window b m bw z dx seat.anchor is.short.bitcell g.row_x (front_of g.row_x (drive_width s.plan s.kit))) box.0.rect.x1 box.1.left inner.rect.x1 drawn.left);
        right = subst (λ (y : ℕ). (((inner.rect.x2 +ℤ q y) +ℤ dx) ≤ℤ (box.0.rect.x2 +ℤ qg y)) ⊎ (((z.right +ℤ dx) +ℤ by) ≤ℤ (box.0.rect.x2 +ℤ qg y))) (sym e)
            (end_right connections s by reach is window b m bw z dx seat.anchor is.short.bitcell inner.rect.x2 box.0.rect.x2 (pos 0) (at_end inner.rect.x2 f.bank_width _ drawn.right (width_here connections s by reach is window)) (at_end box.0.rect.x2 g.bank_width _ box.1.right (width_there connections s by reach is window)) (nothing bw));
        low = inl (low f.array_y g.array_y W inner.rect.y1 box.0.rect.y1 drawn.low box.1.low array_rises);
        high = inl (high f.array_y g.array_y inner.rect.y2 box.0.rect.y2 drawn.high box.1.high array_rises);
      })
    where
      front_of : (r : ℤ) (d : ℕ) → r ≤ℤ (r +ℤ pos d)
      front_of r d = omega (arith, ints)

      nothing : (u : ℕ) → pos 0 ≤ℤ pos u
      nothing u = omega (arith, ints)

      starts : (r q t a : ℤ) → t ≡ a +ℤ q → a ≡ r → (r +ℤ q) ≤ℤ t
      starts r q t a h1 h2 = omega (arith, ints, h1, h2)

      ends : (x w q t a : ℤ) (all : ℕ) → w ≡ x +ℤ pos all → t ≡ a +ℤ q → a ≡ x +ℤ pos all → t ≤ℤ (w +ℤ q)
      ends x w q t a all h1 h2 h3 = omega (arith, ints, h1, h2, h3)

      wider : (x : ℤ) (d n : ℕ) → 1 ≤ n → x <ℤ ((x +ℤ pos d) +ℤ pos n)
      wider x d n a = omega (arith, ints, a)

      taller : (y w : ℤ) → pos 1 ≤ℤ w → (y -ℤ w) <ℤ y
      taller y w a = omega (arith, ints, a)

      at_end : (x w e : ℤ) → x ≡ e → w ≡ e → x +ℤ pos 0 ≡ w
      at_end x w e p r = omega (arith, ints, p, r)

      left : ((g.row_x +ℤ qg b) ≤ℤ ((g.row_x +ℤ q b) +ℤ dx)) ⊎ (((g.row_x +ℤ qg b) +ℤ by) ≤ℤ (z.left +ℤ dx)) → (u : ℤ) → u ≡ g.row_x → (a : ℤ) → a ≡ f.row_x → ((u +ℤ qg b) ≤ℤ ((a +ℤ q b) +ℤ dx)) ⊎ (((u +ℤ qg b) +ℤ by) ≤ℤ (z.left +ℤ dx))
      left (inl h) u p a r = inl (let e = rows_same connections s by reach is window in omega (arith, ints, h, p, r, e))
      left (inr h) u p a r = inr (omega (arith, ints, h, p))

      low : (y v w a u : ℤ) → a ≡ y -ℤ w → u ≡ v -ℤ w → y +ℤ dy ≡ v → u ≤ℤ (a +ℤ dy)
      low y v w a u p r e = omega (arith, ints, p, r, e)

      high : (y v a u : ℤ) → a ≡ y → u ≡ v → y +ℤ dy ≡ v → (a +ℤ dy) ≤ℤ u
      high y v a u p r e = omega (arith, ints, p, r, e)
      -- Taps of rows
