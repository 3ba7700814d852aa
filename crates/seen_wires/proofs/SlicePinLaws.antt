-- Pins of a slice and the branches at them, beside a slice's instance, are seen in the small memory.
use Rattle.std.proofs.Common.{◌≡◌, inl, inr, ◌∙◌, ℕ, zero, suc, ◌+◌, ◌*◌, ◌<◌, ◌≤◌, ℤ, pos, ◌+ℤ◌, ◌-ℤ◌, ◌*ℤ◌, ◌≤ℤ◌, ◌<ℤ◌, List, refl, sym, ap, subst, arith}
use Rattle.std.specs.Prelude.{slice_index}
use Rattle.std.proofs.Math.Nat.{mul_assoc, mul-le-mul_right}
use Rattle.good_places.proofs.NumberLaws.{all_of}
use Rattle.std.proofs.lemmas.Int.{ints}
use Rattle.std.proofs.lemmas.Option.{same_Some}
use Rattle.or_geom.specs.declared.shape.Rect.{Rect}
use Rattle.or_geom.specs.declared.shape.Shape.{Shape}
use Rattle.cell_roles.specs.declared.role.Role.TheVariants.{Sense}
use Rattle.tech_rules.specs.declared.tech.Connect.{Connect}
use Rattle.sram_netlist.specs.Organization.{banks_of, columns_of, words_per_row, power_of_two}
use Rattle.sram_netlist.specs.Nets.{Net}
use Rattle.sram_netlist.specs.Instances.{LeafInstance, SenseAt, WriteAt, BitAt, NandAt, DriverAt, PrechargeAt, MuxAt, TieAt, LogicAt}
use Rattle.sram_netlist.specs.Membership.{HasLeafInstance}
use Rattle.macro_layout.specs.Places.{Floorplan, bank_x, columns_x, column_x, bit_width}
use Rattle.macro_layout.specs.Floorplan.{column_channel_y}
use Rattle.macro_layout.specs.Pins.{IsPin, column_nets}
use Rattle.macro_layout.specs.Channels.{IsColumnChannel}
use Rattle.macro_layout.specs.Stated.{IsShifted}
use Rattle.macro_layout.specs.Wires.{trunk_x}
use Rattle.good_places.specs.Leaves.{Zone, slice_zone}
use Rattle.good_places.proofs.LaidLaws.{written_all}
use Rattle.joined_nets.specs.WireNets.{in_bank, IsChannelWireOf, IsOutputWireOf}
use Rattle.joined_nets.proofs.WireNetLaws.{place_below}
use Rattle.kit_nets.specs.StatedParts.{Source, Standing}
use Rattle.kit_nets.proofs.ChannelDrawnLaws.{box_there}
use Rattle.kit_nets.proofs.ColumnHubLaws.{zero_times}
use Rattle.seen_pairs.specs.Counterpart.{IsOfSlices, leaf_bank, number_of, right_by, slices_up}
use Rattle.small_rows.specs.Few.{IsAmongFew}
use Rattle.small_wires.specs.Seen.{IsNearZone}
use Rattle.seen_pairs.specs.Window.{IsSeenSource, HasSeenWindow}
use Rattle.small_wires.proofs.AnchorLaws.{Anchored, slice_anchor, width_here}
use Rattle.seen_pairs.proofs.BankPairLaws.{Counter, few, slice_found}
use Rattle.small_wires.proofs.BankWireLaws.{pin_there, IsPinThere, in_bank_seen}
use Rattle.small_wires.proofs.BranchLaws.{IsBottomBox, bottom_there}
use Rattle.small_wires.proofs.ColumnNetLaws.{column_lines, line_back, sense_number, IsLineNet}
use Rattle.seen_pairs.proofs.CounterLaws.{sense_counter, sense_up}
use Rattle.small_wires.proofs.FarLaws.{lv, sp, wide_wire, joiner_level, below_zone, above_zone, same_bank, not_behind}
use Rattle.small_rows.proofs.FewLaws.{among_few}
use Rattle.seen_pairs.proofs.SeatLaws.{zone_at, slice_seat, slice_below}
use Rattle.small_wires.proofs.SeenWireLaws.{small, SeenThere}
use Rattle.small_wires.proofs.SpanLaws.{beside_few, near_numbers, sense_wire, IsWireInSpan}

slice_bank : (s : Source) (leaf : LeafInstance) → IsOfSlices leaf → HasLeafInstance s.plan leaf → leaf_bank leaf < banks_of s.plan
slice_bank s (WriteAt b i) of has = has.0
slice_bank s (SenseAt b i) of has = has.0
slice_bank s (BitAt b r c) of has = absurd of
slice_bank s (NandAt b r) of has = absurd of
slice_bank s (DriverAt b r) of has = absurd of
slice_bank s (PrechargeAt b c) of has = absurd of
slice_bank s (MuxAt b c) of has = absurd of
slice_bank s (TieAt b c) of has = absurd of
slice_bank s (LogicAt cell) of has = absurd of

-- what stands so much further right in bank 0 stands as far in another bank
pub x_there : (x dx0 dx q qg q0 qg0 : ℤ) (m : ℕ) → dx0 ≡ (qg0 -ℤ q0) -ℤ pos m → q0 ≡ pos 0 → qg0 ≡ pos 0 → dx ≡ (qg -ℤ q) -ℤ pos m → ((x +ℤ dx0) +ℤ qg) ≡ ((x +ℤ q) +ℤ dx)
x_there x dx0 dx q qg q0 qg0 m a b c d = omega (arith, ints, a, b, c, d)

module _ (connections : List Connect) (s : Source) (by reach : ℤ) (is : IsSeenSource connections s by reach) (window : HasSeenWindow connections s) (i : Standing s) (of : IsOfSlices i.leaf) where
  abbrev f : Floorplan
  f = s.floorplan

  abbrev g : Floorplan
  g = window.floorplan

  abbrev S : ℤ
  S = s.wire.space

  abbrev W : ℤ
  W = s.wire.width

  abbrev wpr : ℕ
  wpr = words_per_row s.plan

  abbrev unit : ℕ
  unit = wpr * bit_width s.kit

  abbrev sm : Source
  sm = small connections s by reach is window

  abbrev b : ℕ
  b = leaf_bank i.leaf

  below_i : number_of i.leaf < s.plan.word_size
  below_i = slice_below s.plan i.leaf is.written of i.has

  pub chosen : (m : ℕ) × IsAmongFew s.plan.word_size window.word (number_of i.leaf) m
  chosen = among_few s.plan.word_size window.word (number_of i.leaf) below_i (few connections s by reach is window)

  abbrev m : ℕ
  m = chosen.0

  abbrev dx : ℤ
  dx = right_by s.plan s.kit f g b m

  abbrev dy : ℤ
  dy = slices_up f g

  pub c : Counter connections s by reach is window m dx dy i
  c = slice_found connections s by reach is window i of chosen.1.d m chosen.1.sum chosen.1.inside

  abbrev z : Zone
  z = zone_at connections s by reach is i

  zone_is : z ≡ slice_zone s.plan s.kit f b (number_of i.leaf)
  zone_is = slice_seat s.plan s.kit f i.leaf i.place of

  pub anchor : Anchored connections s by reach is window b m unit z dx
  anchor = subst (λ (y : Zone). Anchored connections s by reach is window b m unit y dx) (sym zone_is) (slice_anchor connections s by reach is window b (number_of i.leaf) m below_i chosen.1)

  pub low_is : z.low ≡ f.write_y
  low_is = ap (λ (y : Zone). y.low) zone_is

  high_is : z.high ≡ column_channel_y s.kit f
  high_is = ap (λ (y : Zone). y.high) zone_is

  pub wide : reach ≤ℤ pos unit
  wide = go reach (bit_width s.kit) unit is.short.bitcell (at_least wpr (bit_width s.kit) (power_low s.plan.col_bits)) where
    go : (r : ℤ) (w v : ℕ) → r ≤ℤ pos w → w ≤ v → r ≤ℤ pos v
    go r w v a le = omega (arith, ints, a, le)

    at_least : (m w : ℕ) → 1 ≤ m → w ≤ m * w
    at_least m w some = let le = mul-le-mul_right w some in let one : 1 * w ≡ w = omega arith in omega (arith, le, one)

    power_low : (k : ℕ) → 1 ≤ power_of_two k
    power_low zero = omega arith
    power_low (suc k) = let p = power_low k in omega (arith, p)

  pub in_bank_i : b < banks_of s.plan
  in_bank_i = slice_bank s i.leaf of i.has

  -- what is far
  pub below : (t : Shape) → IsNearZone S z t.rect → (t.rect.y2 +ℤ S) ≤ℤ f.write_y → ⊥
  below t near le = below_zone connections s by reach is z t.rect near (let e = low_is in omega (arith, ints, e, le))

  pub above : (t : Shape) → IsNearZone S z t.rect → (column_channel_y s.kit f +ℤ S) ≤ℤ t.rect.y1 → ⊥
  above t near le = above_zone connections s by reach is z t.rect near (let e = high_is in omega (arith, ints, e, le))

  pub over : (t : Shape) → IsNearZone S z t.rect → f.column_y ≤ℤ t.rect.y1 → ⊥
  over t near le = above t near (let a = (lv connections s by reach is).column in omega (arith, ints, a, le))

  pub behind : (t : Shape) → IsNearZone S z t.rect → trunk_x s.plan s.kit s.wire f ≤ℤ t.rect.x1 → ⊥
  behind t near le = not_behind connections s by reach is b z anchor.from anchor.to in_bank_i t.rect le near

  pub sense_rises : f.sense_y +ℤ dy ≡ g.sense_y
  sense_rises = sense_up s.plan s.kit s.wire s.tracks window.tracks f g window.word window.write window.masks is.source.drawn.stands window.source.drawn.stands is.written window.size.written

  pub write_rises : f.write_y +ℤ dy ≡ g.write_y
  write_rises = go f.write_y g.write_y where
    go : (x y : ℤ) → x +ℤ (y -ℤ x) ≡ y
    go x y = omega (arith, ints)

  -- which slices are near
  pub next_to : (e : ℕ) (t : Rect) → IsNearZone reach z t → bank_x f b (column_x s.plan s.kit f (e * wpr)) ≤ℤ t.x1 → t.x2 ≤ℤ (bank_x f b (column_x s.plan s.kit f (e * wpr)) +ℤ pos unit) → e < s.plan.word_size → (j : ℕ) × (e ≡ j + m) × (j < window.word)
  next_to e t near from to lt =
      beside_few s.plan.word_size window.word (number_of i.leaf) m e chosen.1
      (near_numbers unit (number_of i.leaf) e reach (columns_x s.plan s.kit f +ℤ (pos b *ℤ f.bank_width)) z t wide (go (columns_x s.plan s.kit f) (pos b *ℤ f.bank_width) z.left ((number_of i.leaf * wpr) * bit_width s.kit) (number_of i.leaf * unit) (mul_assoc (number_of i.leaf) wpr (bit_width s.kit)) (ap (λ (y : Zone). y.left) zone_is))
      (go2 (columns_x s.plan s.kit f) (pos b *ℤ f.bank_width) z.right ((number_of i.leaf * wpr) * bit_width s.kit) (number_of i.leaf * unit) unit (mul_assoc (number_of i.leaf) wpr (bit_width s.kit)) (ap (λ (y : Zone). y.right) zone_is))
      (go3 (columns_x s.plan s.kit f) (pos b *ℤ f.bank_width) t.x1 ((e * wpr) * bit_width s.kit) (e * unit) (mul_assoc e wpr (bit_width s.kit)) from) (go4 (columns_x s.plan s.kit f) (pos b *ℤ f.bank_width) t.x2 ((e * wpr) * bit_width s.kit) (e * unit) unit (mul_assoc e wpr (bit_width s.kit)) to) near) lt
    where
      go : (x q l : ℤ) (a k : ℕ) → a ≡ k → l ≡ (x +ℤ pos a) +ℤ q → l ≡ (x +ℤ q) +ℤ pos k
      go x q l a k e h = omega (arith, ints, e, h)

      go2 : (x q l : ℤ) (a k u : ℕ) → a ≡ k → l ≡ ((x +ℤ pos a) +ℤ q) +ℤ pos u → l ≡ ((x +ℤ q) +ℤ pos k) +ℤ pos u
      go2 x q l a k u e h = omega (arith, ints, e, h)

      go3 : (x q t : ℤ) (a k : ℕ) → a ≡ k → ((x +ℤ pos a) +ℤ q) ≤ℤ t → ((x +ℤ q) +ℤ pos k) ≤ℤ t
      go3 x q t a k e h = omega (arith, ints, e, h)

      go4 : (x q t : ℤ) (a k u : ℕ) → a ≡ k → t ≤ℤ (((x +ℤ pos a) +ℤ q) +ℤ pos u) → t ≤ℤ (((x +ℤ q) +ℤ pos k) +ℤ pos u)
      go4 x q t a k u e h = omega (arith, ints, e, h)

  -- a wire in a span of a bank is of that bank
  pub of_bank : (k e : ℕ) (t : Rect) → e < s.plan.word_size → bank_x f k (column_x s.plan s.kit f (e * wpr)) ≤ℤ t.x1 → t.x2 ≤ℤ (bank_x f k (column_x s.plan s.kit f (e * wpr)) +ℤ pos unit) → IsNearZone S z t → k ≡ b
  of_bank k e t lt from to near =
      same_bank connections s by reach is b z anchor.from anchor.to k t (starts (columns_x s.plan s.kit f) f.row_x (pos k *ℤ f.bank_width) W S t.x1 ((e * wpr) * bit_width s.kit) (sp connections s by reach is).columns (sp connections s by reach is).row (wide_wire connections s by reach is) from)
      (ends (columns_x s.plan s.kit f) f.bank_width (pos k *ℤ f.bank_width) t.x2 ((e * wpr) * bit_width s.kit) unit (columns_of s.plan * bit_width s.kit) (inside e s.plan.word_size lt) (width_here connections s by reach is window) to) near
    where
      inside : (e n : ℕ) → e < n → (e * wpr) * bit_width s.kit + unit ≤ (n * wpr) * bit_width s.kit
      inside e n lt = let le = all_of e n unit lt in let a = mul_assoc e wpr (bit_width s.kit) in let h = mul_assoc n wpr (bit_width s.kit) in omega (arith, le, a, h)

      starts : (x r q w sp t : ℤ) (a : ℕ) → r ≤ℤ x → (w +ℤ sp) ≤ℤ r → pos 1 ≤ℤ w → ((x +ℤ pos a) +ℤ q) ≤ℤ t → (q +ℤ sp) ≤ℤ t
      starts x r q w sp t a h1 h2 h3 h4 = omega (arith, ints, h1, h2, h3, h4)

      ends : (x w q t : ℤ) (a u all : ℕ) → a + u ≤ all → w ≡ x +ℤ pos all → t ≤ℤ (((x +ℤ pos a) +ℤ q) +ℤ pos u) → t ≤ℤ (w +ℤ q)
      ends x w q t a u all h1 h2 h3 = omega (arith, ints, h1, h2, h3)

  -- A wire of a bank that begins at a pin of a slice

  abbrev q : ℕ → ℤ
  q k = pos k *ℤ s.floorplan.bank_width

  abbrev qg : ℕ → ℤ
  qg k = pos k *ℤ window.floorplan.bank_width

  abbrev dx0 : ℤ
  dx0 = right_by s.plan s.kit f g 0 m

  pin_x : (k : ℕ) → k ≡ b → (x : ℤ) → ((x +ℤ dx0) +ℤ qg k) ≡ ((x +ℤ q k) +ℤ dx)
  pin_x k e x = x_there x dx0 dx (q k) (qg k) (q 0) (qg 0) ((m * wpr) * bit_width s.kit) refl (zero_times f.bank_width) (zero_times g.bank_width) (ap (λ (n : ℕ). right_by s.plan s.kit f g n m) (sym e))

  first_bank : (x y : ℤ) (k : ℕ) → (x +ℤ q 0) ≤ℤ y → (x +ℤ q k) ≤ℤ (y +ℤ q k)
  first_bank x y k le = let o = zero_times f.bank_width in go x y (q 0) (q k) o le where
    go : (x y o r : ℤ) → o ≡ pos 0 → (x +ℤ o) ≤ℤ y → (x +ℤ r) ≤ℤ (y +ℤ r)
    go x y o r e le = omega (arith, ints, e, le)

  first_bank_to : (x y : ℤ) (u k : ℕ) → y ≤ℤ ((x +ℤ q 0) +ℤ pos u) → (y +ℤ q k) ≤ℤ ((x +ℤ q k) +ℤ pos u)
  first_bank_to x y u k le = let o = zero_times f.bank_width in go x y (q 0) (q k) u o le where
    go : (x y o r : ℤ) (u : ℕ) → o ≡ pos 0 → y ≤ℤ ((x +ℤ o) +ℤ pos u) → (y +ℤ r) ≤ℤ ((x +ℤ r) +ℤ pos u)
    go x y o r u e le = omega (arith, ints, e, le)

  -- where the wire at a pin of bank 0's slice e stands in bank k, it is of this bank, and the slice has a counterpart
  pub record IsPinSlice (k e : ℕ) : Type 0 where
    pub bank : k ≡ b
    pub j : ℕ
    pub sum : e ≡ j + m
    pub less : j < window.word

  pin_slice : (k e : ℕ) (x : ℤ) (t inner : Shape) → e < s.plan.word_size → IsWireInSpan s.plan s.kit s.wire f 0 (e * wpr) unit x → inner.rect.x1 ≡ x → inner.rect.x2 ≡ x +ℤ W → IsShifted (q k) (pos 0) inner t → IsNearZone S z t.rect → IsNearZone reach z t.rect → IsPinSlice k e
  pin_slice k e x t inner lt span left right sh near_s near_r =
      let from : bank_x f k (column_x s.plan s.kit f (e * wpr)) ≤ℤ t.rect.x1 = starts (column_x s.plan s.kit f (e * wpr)) x (q k) t.rect.x1 inner.rect.x1 (first_bank (column_x s.plan s.kit f (e * wpr)) x k span.from) sh.x1 left in
      let to : t.rect.x2 ≤ℤ (bank_x f k (column_x s.plan s.kit f (e * wpr)) +ℤ pos unit) = ends (x +ℤ W) (q k) t.rect.x2 inner.rect.x2 (bank_x f k (column_x s.plan s.kit f (e * wpr)) +ℤ pos unit) (first_bank_to (column_x s.plan s.kit f (e * wpr)) (x +ℤ W) unit k span.to) sh.x2 right in
      let bank = of_bank k e t.rect lt from to near_s in
      let n = next_to e t.rect near_r (subst (λ (y : ℕ). bank_x f y (column_x s.plan s.kit f (e * wpr)) ≤ℤ t.rect.x1) bank from) (subst (λ (y : ℕ). t.rect.x2 ≤ℤ (bank_x f y (column_x s.plan s.kit f (e * wpr)) +ℤ pos unit)) bank to) lt in
      record { bank = bank; j = n.0; sum = n.1; less = n.2 }
    where
      starts : (c x r t i : ℤ) → (c +ℤ r) ≤ℤ (x +ℤ r) → t ≡ i +ℤ r → i ≡ x → (c +ℤ r) ≤ℤ t
      starts c x r t i le a e = omega (arith, ints, le, a, e)

      ends : (y r t i l : ℤ) → (y +ℤ r) ≤ℤ l → t ≡ i +ℤ r → i ≡ y → t ≤ℤ l
      ends y r t i l le a e = omega (arith, ints, le, a, e)

  abbrev sense_there : (e : ℕ) (k : ℕ) (port metal : ℕ) (net : Net) (rect : Rect) → (p : IsPin s.plan s.kit f (SenseAt 0 e) port metal net rect) → (h : IsPinSlice k e) → IsPinThere connections s by reach is window m dx0 dy (SenseAt 0 h.j) port metal net rect
  sense_there e k port metal net rect p h =
      pin_there connections s by reach is window m dx0 dy (SenseAt 0 e) port metal net rect p
      (sense_counter s.plan s.kit s.wire s.tracks window.tracks f g window.word window.write window.masks is.source.drawn.stands window.source.drawn.stands is.written window.size.written 0 e p.place p.has p.stands h.j m h.sum h.less)

  -- the four sides of a wire's width at such a pin
  side_left : (k : ℕ) → k ≡ b → (x x2 u i : ℤ) → x2 ≡ x +ℤ dx0 → u ≡ x2 → i ≡ x → (u +ℤ qg k) ≤ℤ ((i +ℤ q k) +ℤ dx)
  side_left k e x x2 u i a h r = go ((x +ℤ dx0) +ℤ qg k) ((x +ℤ q k) +ℤ dx) (pin_x k e x) x x2 u i (q k) (qg k) dx0 dx a h r refl refl where
    go : (v w : ℤ) → v ≡ w → (x x2 u i q qg d0 d : ℤ) → x2 ≡ x +ℤ d0 → u ≡ x2 → i ≡ x → v ≡ (x +ℤ d0) +ℤ qg → w ≡ (x +ℤ q) +ℤ d → (u +ℤ qg) ≤ℤ ((i +ℤ q) +ℤ d)
    go v w same x x2 u i q qg d0 d a h r ev ew = omega (arith, ints, same, a, h, r, ev, ew)

  side_right : (k : ℕ) → k ≡ b → (x x2 w u i : ℤ) → x2 ≡ x +ℤ dx0 → u ≡ x2 +ℤ w → i ≡ x +ℤ w → ((i +ℤ q k) +ℤ dx) ≤ℤ (u +ℤ qg k)
  side_right k e x x2 w u i a h r = go ((x +ℤ dx0) +ℤ qg k) ((x +ℤ q k) +ℤ dx) (pin_x k e x) x x2 w u i (q k) (qg k) dx0 dx a h r refl refl where
    go : (v y : ℤ) → v ≡ y → (x x2 w u i q qg d0 d : ℤ) → x2 ≡ x +ℤ d0 → u ≡ x2 +ℤ w → i ≡ x +ℤ w → v ≡ (x +ℤ d0) +ℤ qg → y ≡ (x +ℤ q) +ℤ d → ((i +ℤ q) +ℤ d) ≤ℤ (u +ℤ qg)
    go v y same x x2 w u i q qg d0 d a h r ev ew = omega (arith, ints, same, a, h, r, ev, ew)

  -- Branches of the column channel below sense cells
  pub bottom_contact : (k : ℕ) → k < banks_of s.plan → (n net : Net) (t inner : Shape) → n ≡ in_bank k net → IsShifted (q k) (pos 0) inner t → (w : IsChannelWireOf (IsColumnChannel s.plan s.kit s.wire f) s.wire s.tracks.column (column_nets s.plan) net inner)
      → IsBottomBox (IsColumnChannel s.plan s.kit s.wire f) s.wire s.tracks.column (column_nets s.plan) net inner w → IsNearZone S z t.rect → IsNearZone reach z t.rect → SeenThere connections s by reach is window i n t
  bottom_contact k lt n net t inner named sh w bx near_s near_r =
      let meets = (w.routed.meant.bottom w.number bx.x).0 bx.pin in
      let e = meets.2.0 in
      let port = meets.2.1 in
      let from = meets.2.2 in
      let left = bx.box.left ∙ from.begins in
      let h = pin_slice k e from.rect.x1 t inner from.is.has.1 (sense_wire s.plan s.kit s.wire f is.source.drawn.laid is.source.drawn.pins 0 e port 1 meets.0 from.rect (inl refl) from.is) left (bx.box.right ∙ ap (λ (y : ℤ). y +ℤ W) from.begins) sh near_s near_r in
      let p = sense_there e k port 1 meets.0 from.rect from.is h in
      let line = line_back s.plan m s.plan.col_bits p.net2 (subst (IsLineNet s.plan.col_bits) (sym p.named) (column_lines s.plan w.number meets.0 meets.1)) in
      let num = sense_number sm.plan h.j port p.net2 h.less p.pin.on line in
      let route = window.source.drawn.column in
      let l = place_below (column_nets sm.plan) num.0 p.net2 num.1 in
      let count = route.meant.nets in
      let br = bottom_there (IsColumnChannel sm.plan s.kit s.wire g) s.wire window.tracks.column is.source.drawn.laid.sizes route window.source.column (column_nets sm.plan) num.0 p.net2 p.rect2.x1 num.1 (omega (arith, l, count))
      ((route.meant.bottom num.0 p.rect2.x1).1 (p.net2, num.1, (h.j, port, record { rect = p.rect2; is = p.pin; begins = refl }))) in
      in_bank_seen connections s by reach is window m dx dy i c k lt n meets.0 p.net2 t inner br.1.u (named ∙ ap (in_bank k) (same_Some net meets.0 (sym w.named ∙ meets.1))) p.named sh (inl br.1.is) (record {
        layer = br.1.box.on ∙ sym bx.box.on;
        left = inl (side_left k h.bank from.rect.x1 p.rect2.x1 br.1.u.rect.x1 inner.rect.x1 p.moved_by.x1 br.1.box.left left);
        right = inl (side_right k h.bank from.rect.x1 p.rect2.x1 W br.1.u.rect.x2 inner.rect.x2 p.moved_by.x1 br.1.box.right (bx.box.right ∙ ap (λ (y : ℤ). y +ℤ W) from.begins));
        low = inl (low f.sense_y g.sense_y (s.kit.height Sense) w.channel.low route.channel.low inner.rect.y1 br.1.u.rect.y1 w.routed.meant.low route.meant.low bx.box.low br.1.box.low sense_rises);
        high = inr (high z.high f.sense_y g.sense_y (s.kit.height Sense) route.channel.low S W br.0 br.1.u.rect.y2 high_is route.meant.low br.2 br.1.box.high sense_rises is.space (wide_wire connections s by reach is));
      })
    where
      low : (y v : ℤ) (h : ℕ) (a c i u : ℤ) → a ≡ y +ℤ pos h → c ≡ v +ℤ pos h → i ≡ a → u ≡ c → y +ℤ dy ≡ v → u ≤ℤ (i +ℤ dy)
      low y v h a c i u e1 e2 e3 e4 e5 = omega (arith, ints, e1, e2, e3, e4, e5)

      high : (zh y v : ℤ) (h : ℕ) (c sp w top u : ℤ) → zh ≡ y +ℤ pos h → c ≡ v +ℤ pos h → (c +ℤ (sp +ℤ w)) ≤ℤ top → u ≡ top → y +ℤ dy ≡ v → by ≤ℤ sp → pos 1 ≤ℤ w → ((zh +ℤ dy) +ℤ by) ≤ℤ u
      high zh y v h c sp w top u e1 e2 e3 e4 e5 e6 e7 = omega (arith, ints, e1, e2, e3, e4, e5, e6, e7)

  -- Outputs over write cells
  write_high : f.write_y <ℤ f.sense_y
  write_high = let a = joiner_level connections s by reach is in let w = wide_wire connections s by reach is in omega (arith, ints, a, w)

  pub output_contact : (k : ℕ) → k < banks_of s.plan → (n net : Net) (t inner : Shape) → n ≡ in_bank k net → IsShifted (q k) (pos 0) inner t → (o : IsOutputWireOf s.plan s.kit s.wire f net inner) → IsNearZone S z t.rect → IsNearZone reach z t.rect → SeenThere connections s by reach is window i n t
  output_contact k lt n net t inner named sh o near_s near_r =
      let h = pin_slice k o.bit o.rect.x1 t inner o.pin.has.1 (sense_wire s.plan s.kit s.wire f is.source.drawn.laid is.source.drawn.pins 0 o.bit 2 3 net o.rect (inr refl) o.pin) o.drawn.left o.drawn.right sh near_s near_r in
      let p = sense_there o.bit k 2 3 net o.rect o.pin h in
      let box = box_there (slice_index s.wire.metals 3) p.rect2.x1 g.write_y (p.rect2.x1 +ℤ W) g.sense_y (wider p.rect2.x1 W (wide_wire connections s by reach is)) (taller f.write_y f.sense_y g.write_y g.sense_y write_high write_rises sense_rises) in
      in_bank_seen connections s by reach is window m dx dy i c k lt n net p.net2 t inner box.0 named p.named sh
      (inr (inr (inr (inl (record { bit = h.j; below = subst (λ (y : ℕ). h.j < y) (sym (written_all window.write window.word window.size.written)) h.less; rect = p.rect2; pin = p.pin; drawn = box.1 })))))
      (record {
        layer = box.1.on ∙ sym o.drawn.on;
        left = inl (side_left k h.bank o.rect.x1 p.rect2.x1 box.0.rect.x1 inner.rect.x1 p.moved_by.x1 box.1.left o.drawn.left);
        right = inl (side_right k h.bank o.rect.x1 p.rect2.x1 W box.0.rect.x2 inner.rect.x2 p.moved_by.x1 box.1.right o.drawn.right);
        low = inl (low f.write_y g.write_y inner.rect.y1 box.0.rect.y1 o.drawn.low box.1.low write_rises);
        high = inl (high f.sense_y g.sense_y inner.rect.y2 box.0.rect.y2 o.drawn.high box.1.high sense_rises);
      })
    where
      wider : (x w : ℤ) → pos 1 ≤ℤ w → x <ℤ (x +ℤ w)
      wider x w a = omega (arith, ints, a)

      taller : (a c d e : ℤ) → a <ℤ c → a +ℤ dy ≡ d → c +ℤ dy ≡ e → d <ℤ e
      taller a c d e lt p r = omega (arith, ints, lt, p, r)

      low : (y v a u : ℤ) → a ≡ y → u ≡ v → y +ℤ dy ≡ v → u ≤ℤ (a +ℤ dy)
      low y v a u p r e = omega (arith, ints, p, r, e)

      high : (y v a u : ℤ) → a ≡ y → u ≡ v → y +ℤ dy ≡ v → (a +ℤ dy) ≤ℤ u
      high y v a u p r e = omega (arith, ints, p, r, e)
