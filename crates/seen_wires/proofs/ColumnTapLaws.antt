-- Taps beside an instance of a column, or of one in front of the columns, are seen in the small memory.
use Rattle.std.proofs.Common.{◌≡◌, ◌⊎◌, inl, inr, ◌∙◌, ℕ, ◌+◌, ◌-◌, ◌*◌, ◌<◌, ◌≤◌, ℤ, pos, ◌+ℤ◌, ◌-ℤ◌, ◌*ℤ◌, ◌≤ℤ◌, ◌<ℤ◌, List, refl, sym, ap, subst, arith}
use Rattle.std.specs.Prelude.{slice_index}
use Rattle.std.proofs.Math.Nat.{add-mul, mul-le-mul_right}
use Rattle.std.proofs.lemmas.Int.{ints}
use Rattle.or_geom.specs.declared.shape.Rect.{Rect}
use Rattle.or_geom.specs.declared.shape.Shape.{Shape}
use Rattle.tech_rules.specs.declared.tech.Connect.{Connect}
use Rattle.wire_drawing.specs.Drawing.{IsBox}
use Rattle.sram_netlist.specs.Organization.{banks_of, columns_of, words_per_row}
use Rattle.sram_netlist.specs.Nets.{Net}
use Rattle.sram_netlist.specs.Instances.{LeafInstance, PrechargeAt}
use Rattle.macro_layout.specs.Places.{Floorplan, bank_x, columns_x, bit_width, drive_width}
use Rattle.macro_layout.specs.Floorplan.{rail_x}
use Rattle.macro_layout.specs.Pins.{IsPin, IsRailOf}
use Rattle.macro_layout.specs.Stated.{IsShifted}
use Rattle.macro_layout.specs.Wires.{IsTapOfNet}
use Rattle.good_places.specs.Leaves.{Zone}
use Rattle.good_wires.proofs.LevelLaws.{rail_at}
use Rattle.joined_nets.specs.WireNets.{in_bank}
use Rattle.kit_nets.specs.StatedParts.{Source, Standing}
use Rattle.kit_nets.proofs.ChannelDrawnLaws.{box_there}
use Rattle.kit_nets.proofs.ColumnHubLaws.{zero_times}
use Rattle.seen_pairs.specs.Counterpart.{leaf_bank, right_by, columns_up}
use Rattle.small_wires.specs.Seen.{IsNearZone}
use Rattle.seen_pairs.specs.Window.{IsSeenSource, HasSeenWindow}
use Rattle.small_wires.proofs.AnchorLaws.{end_right, rail_left, columns_same, width_here, width_there, rows_same}
use Rattle.small_wires.proofs.BankWireLaws.{pin_there, IsPinThere, in_bank_seen}
use Rattle.small_wires.proofs.ColumnNetLaws.{rail_still}
use Rattle.seen_pairs.proofs.CounterLaws.{precharge_counter}
use Rattle.small_wires.proofs.FarLaws.{sp, wide_wire, wide_space, same_bank}
use Rattle.seen_pairs.proofs.SeatLaws.{zone_at}
use Rattle.small_wires.proofs.SeenWireLaws.{small, SeenThere}
use Rattle.small_wires.proofs.SpanLaws.{precharge_span, rail_net, same_rail_net}
use Rattle.seen_wires.proofs.ColumnSeatLaws.{IsColumnSeat, column_later, power_low}
use Rattle.seen_wires.proofs.ColumnPinLaws as first

module _ (connections : List Connect) (s : Source) (by reach : ℤ) (is : IsSeenSource connections s by reach) (window : HasSeenWindow connections s) (i : Standing s) (seat : IsColumnSeat connections s by reach is window i) where
  -- what is said before, of the same
  abbrev f : Floorplan
  f = s.floorplan

  abbrev g : Floorplan
  g = window.floorplan

  abbrev S : ℤ
  S = s.wire.space

  abbrev W : ℤ
  W = s.wire.width

  abbrev wpr : ℕ
  wpr = words_per_row s.plan

  abbrev bw : ℕ
  bw = bit_width s.kit

  abbrev sm : Source
  sm = small connections s by reach is window

  abbrev b : ℕ
  b = leaf_bank i.leaf

  abbrev dy : ℤ
  dy = columns_up f g

  abbrev z : Zone
  z = zone_at connections s by reach is i

  abbrev m : ℕ
  m = seat.m

  abbrev dx : ℤ
  dx = right_by s.plan s.kit f g b m

  abbrev q : ℕ → ℤ
  q k = pos k *ℤ s.floorplan.bank_width

  abbrev qg : ℕ → ℤ
  qg k = pos k *ℤ window.floorplan.bank_width

  abbrev dx0 : ℤ
  dx0 = right_by s.plan s.kit f g 0 m

  abbrev pin_x : (k : ℕ) → k ≡ b → (x : ℤ) → ((x +ℤ dx0) +ℤ qg k) ≡ ((x +ℤ q k) +ℤ dx)
  pin_x = first.pin_x connections s by reach is window i seat

  -- a tap of bank 0 that ends at a pin x2 behind the rails and before the bank's end, where it stands in bank k
  tap_bank : (k : ℕ) (net : Net) (x end : ℤ) (t inner : Shape) → IsRailOf s.plan s.wire f 0 net x → IsShifted (q k) (pos 0) inner t → inner.rect.x1 ≡ x → inner.rect.x2 ≡ end → end ≤ℤ f.bank_width → IsNearZone S z t.rect → k ≡ b
  tap_bank k net x end t inner rail sh left right to near =
      same_bank connections s by reach is b z seat.anchor.from seat.anchor.to k t.rect (starts (rail_x s.wire rail.rail) (q 0) (q k) W S x t.rect.x1 inner.rect.x1 rail.at (zero_times f.bank_width) ((sp connections s by reach is).first rail.rail) (wide_wire connections s by reach is) sh.x1 left)
      (ends f.bank_width (q k) t.rect.x2 inner.rect.x2 end sh.x2 right to) near
    where
      starts : (xr o q w sp x t a : ℤ) → x ≡ xr +ℤ o → o ≡ pos 0 → (w +ℤ sp) ≤ℤ xr → pos 1 ≤ℤ w → t ≡ a +ℤ q → a ≡ x → (q +ℤ sp) ≤ℤ t
      starts xr o q w sp x t a h1 h2 h3 h4 h5 h6 = omega (arith, ints, h1, h2, h3, h4, h5, h6)

      ends : (wd q t a end : ℤ) → t ≡ a +ℤ q → a ≡ end → end ≤ℤ wd → t ≤ℤ (wd +ℤ q)
      ends wd q t a end h1 h2 h3 = omega (arith, ints, h1, h2, h3)

  rail_before : (net : Net) (x : ℤ) (rail : IsRailOf s.plan s.wire f 0 net x) → ((rail_x s.wire rail.rail +ℤ W) +ℤ S) ≤ℤ f.row_x
  rail_before net x rail = go (rail_x s.wire rail.rail) W S f.row_x x (q 0) rail.at (zero_times f.bank_width) (rail_at s.plan s.kit s.wire f 0 net x (sp connections s by reach is) rail).to where
    go : (xr w sp r x o : ℤ) → x ≡ xr +ℤ o → o ≡ pos 0 → ((x +ℤ w) +ℤ sp) ≤ℤ (r +ℤ o) → ((xr +ℤ w) +ℤ sp) ≤ℤ r
    go xr w sp r x o h1 h2 h3 = omega (arith, ints, h1, h2, h3)

  -- the tap there, which ends at the pin's right end
  abbrev TapThere : Net → ℕ → Rect → Type 0
  TapThere net j rect2 = IsTapOfNet sm.plan s.kit s.wire window.tracks.column g net (bank_x g 0 (rail_x s.wire j)) rect2.y1 rect2.x2

  tap_seen : (k : ℕ) → k < banks_of s.plan → k ≡ b → (n net : Net) (t inner : Shape) → n ≡ in_bank k net → IsShifted (q k) (pos 0) inner t → (x y end : ℤ) (rail : IsRailOf s.plan s.wire f 0 net x) (rect rect2 : Rect) → y ≡ rect.y1 → end ≡ rect.x2 → rect2.y1 ≡ rect.y1 +ℤ dy → IsBox (slice_index s.wire.metals 2) x y end (y +ℤ W) inner
      → f.row_x ≤ℤ rect2.x1 → TapThere net rail.rail rect2 → (((rect.x2 +ℤ q b) +ℤ dx) ≤ℤ (rect2.x2 +ℤ qg b)) ⊎ (((z.right +ℤ dx) +ℤ by) ≤ℤ (rect2.x2 +ℤ qg b)) → SeenThere connections s by reach is window i n t
  tap_seen k lt e n net t inner named sh x y end rail rect rect2 at ends rises box behind_rail tap right =
      let xr = rail_x s.wire rail.rail in
      let before = rail_before net x rail in
      let u = box_there (slice_index s.wire.metals 2) (bank_x g 0 xr) rect2.y1 rect2.x2 (rect2.y1 +ℤ W) (wider xr W S f.row_x (qg 0) rect2.x1 rect2.x2 before behind_rail (zero_times g.bank_width) rect2.wide (wide_wire connections s by reach is) (wide_space connections s by reach is)) (taller rect2.y1 W (wide_wire connections s by reach is)) in
      in_bank_seen connections s by reach is window m dx dy i seat.c k lt n net net t inner u.0 named (rail_still s.plan m 0 rail.rail net rail.on) sh
      (inr (inl (record { x = bank_x g 0 xr; y = rect2.y1; end = rect2.x2; rail = record { rail = rail.rail; on = rail.on; at = refl }; tap = tap; drawn = inl u.1 })))
      (record {
        layer = u.1.on ∙ sym box.on;
        left = inr (subst (λ (j : ℕ). ((u.0.rect.x1 +ℤ qg j) +ℤ by) ≤ℤ (z.left +ℤ dx)) (sym e) (left u.0.rect.x1 xr (qg 0) (qg b) (z.left +ℤ dx) u.1.left (zero_times g.bank_width) (rail_left connections s by reach is window b m bw z dx seat.anchor is.short.bitcell xr before)));
        right = subst (λ (j : ℕ). (((inner.rect.x2 +ℤ q j) +ℤ dx) ≤ℤ (u.0.rect.x2 +ℤ qg j)) ⊎ (((z.right +ℤ dx) +ℤ by) ≤ℤ (u.0.rect.x2 +ℤ qg j))) (sym e)
            (subst (λ (v : ℤ). (((inner.rect.x2 +ℤ q b) +ℤ dx) ≤ℤ (v +ℤ qg b)) ⊎ (((z.right +ℤ dx) +ℤ by) ≤ℤ (v +ℤ qg b))) (sym u.1.right) (subst (λ (v : ℤ). (((v +ℤ q b) +ℤ dx) ≤ℤ (rect2.x2 +ℤ qg b)) ⊎ (((z.right +ℤ dx) +ℤ by) ≤ℤ (rect2.x2 +ℤ qg b))) (sym (box.right ∙ ends)) right));
        low = inl (low rect.y1 rect2.y1 y inner.rect.y1 u.0.rect.y1 rises at box.low u.1.low);
        high = inl (high rect.y1 rect2.y1 W y inner.rect.y2 u.0.rect.y2 rises at box.high u.1.high);
      })
    where
      wider : (xr w sp rf o r1 r2 : ℤ) → ((xr +ℤ w) +ℤ sp) ≤ℤ rf → rf ≤ℤ r1 → o ≡ pos 0 → r1 <ℤ r2 → pos 1 ≤ℤ w → pos 1 ≤ℤ sp → (xr +ℤ o) <ℤ r2
      wider xr w sp rf o r1 r2 h1 h2 h3 h4 h5 h6 = omega (arith, ints, h1, h2, h3, h4, h5, h6)

      taller : (y w : ℤ) → pos 1 ≤ℤ w → y <ℤ (y +ℤ w)
      taller y w a = omega (arith, ints, a)

      left : (u xr o qg l : ℤ) → u ≡ xr +ℤ o → o ≡ pos 0 → ((xr +ℤ qg) +ℤ by) ≤ℤ l → ((u +ℤ qg) +ℤ by) ≤ℤ l
      left u xr o qg l h1 h2 h3 = omega (arith, ints, h1, h2, h3)

      low : (r r2 y a u : ℤ) → r2 ≡ r +ℤ dy → y ≡ r → a ≡ y → u ≡ r2 → u ≤ℤ (a +ℤ dy)
      low r r2 y a u h1 h2 h3 h4 = omega (arith, ints, h1, h2, h3, h4)

      high : (r r2 w y a u : ℤ) → r2 ≡ r +ℤ dy → y ≡ r → a ≡ y +ℤ w → u ≡ r2 +ℤ w → (a +ℤ dy) ≤ℤ u
      high r r2 w y a u h1 h2 h3 h4 = omega (arith, ints, h1, h2, h3, h4)

  -- A tap of a gate or a driver is near to what stands in front of the columns and to the first column alone.
  only_first : (k : ℕ) → k ≡ b → (t : Rect) → t.x2 ≤ℤ (columns_x s.plan s.kit f +ℤ q k) → IsNearZone reach z t → m ≡ 0
  only_first k e t to near = elim seat.anchor.left [
    | inl none ↦ none
    | inr some ↦ absurd (column_later reach (columns_x s.plan s.kit f) (columns_x s.plan s.kit g) (q k) (q b) (qg b) z.left t.x2 bw ((m * wpr) * bw) (columns_same connections s by reach is window) (ap (λ (n : ℕ). q n) e) some to near.left is.short.bitcell)
  ]

  pub first_pins : (rect : Rect) → rect.x2 ≤ℤ ((bank_x f 0 (columns_x s.plan s.kit f)) +ℤ pos 0) → rect.x2 ≤ℤ columns_x s.plan s.kit f
  first_pins rect le = let o = zero_times f.bank_width in go (columns_x s.plan s.kit f) (q 0) rect.x2 o le where
    go : (c o x : ℤ) → o ≡ pos 0 → x ≤ℤ ((c +ℤ o) +ℤ pos 0) → x ≤ℤ c
    go c o x h1 h2 = omega (arith, ints, h1, h2)

  columns_inside : columns_x s.plan s.kit f ≤ℤ f.bank_width
  columns_inside = go (columns_x s.plan s.kit f) f.bank_width (columns_of s.plan * bw) (width_here connections s by reach is window) where
    go : (c w : ℤ) (n : ℕ) → w ≡ c +ℤ pos n → c ≤ℤ w
    go c w n e = omega (arith, ints, e)

  pub front_pins : (rect2 : Rect) → (bank_x g 0 g.row_x) ≤ℤ (rect2.x1 +ℤ pos 0) → f.row_x ≤ℤ rect2.x1
  front_pins rect2 le = let o = zero_times g.bank_width in let r = rows_same connections s by reach is window in go f.row_x g.row_x (qg 0) rect2.x1 o r le where
    go : (rf rg o x : ℤ) → o ≡ pos 0 → rg ≡ rf → (rg +ℤ o) ≤ℤ (x +ℤ pos 0) → rf ≤ℤ x
    go rf rg o x h1 h2 h3 = omega (arith, ints, h1, h2, h3)

  abbrev d00 : ℤ
  d00 = right_by s.plan s.kit f g 0 0

  row_right_end : (x x2 : ℤ) → m ≡ 0 → x2 ≡ x +ℤ d00 → (((x +ℤ q b) +ℤ dx) ≤ℤ (x2 +ℤ qg b)) ⊎ (((z.right +ℤ dx) +ℤ by) ≤ℤ (x2 +ℤ qg b))
  row_right_end x x2 none e = inl (go x x2 d00 dx0 (q b) (qg b) dx (ap (λ (n : ℕ). right_by s.plan s.kit f g 0 n) none) e (pin_x b refl x)) where
    go : (x x2 d00 d0 q qg d : ℤ) → d0 ≡ d00 → x2 ≡ x +ℤ d00 → ((x +ℤ d0) +ℤ qg) ≡ ((x +ℤ q) +ℤ d) → ((x +ℤ q) +ℤ d) ≤ℤ (x2 +ℤ qg)
    go x x2 d00 d0 q qg d h1 h2 h3 = omega (arith, ints, h1, h2, h3)

  pub row_tap : (k : ℕ) → k < banks_of s.plan → (n net : Net) (t inner : Shape) → n ≡ in_bank k net → IsShifted (q k) (pos 0) inner t → (x y end : ℤ) (rail : IsRailOf s.plan s.wire f 0 net x) (rect : Rect) → y ≡ rect.y1 → end ≡ rect.x2 → IsBox (slice_index s.wire.metals 2) x y end (y +ℤ W) inner → rect.x2 ≤ℤ columns_x s.plan s.kit f
      → (leaf : LeafInstance) (port : ℕ) → (p : IsPinThere connections s by reach is window 0 d00 dy leaf port 2 net rect) → f.row_x ≤ℤ p.rect2.x1 → (p.net2 ≡ net → TapThere net rail.rail p.rect2) → IsNearZone S z t.rect → IsNearZone reach z t.rect → SeenThere connections s by reach is window i n t
  row_tap k lt n net t inner named sh x y end rail rect at ends box to leaf port p front tap near_s near_r =
      let e = tap_bank k net x end t inner rail sh box.left box.right (ended columns_inside) near_s in
      let none = only_first k e t.rect (stops inner.rect.x2 t.rect.x2 (q k) sh.x2 box.right) near_r in
      let own = same_rail_net s.plan 0 p.net2 net p.named (rail_net s.plan 0 rail.rail net rail.on) in
      tap_seen k lt e n net t inner named sh x y end rail rect p.rect2 at ends p.moved_by.y1 box front (tap own) (row_right_end rect.x2 p.rect2.x2 none p.moved_by.x2)
    where
      ended : columns_x s.plan s.kit f ≤ℤ f.bank_width → end ≤ℤ f.bank_width
      ended le = omega (arith, ints, le, ends, to)

      stops : (a t q : ℤ) → t ≡ a +ℤ q → a ≡ end → t ≤ℤ (columns_x s.plan s.kit f +ℤ q)
      stops a t q h1 h2 = omega (arith, ints, h1, h2, ends, to)

  -- The taps of the clock inverted

  abbrev gap : ℕ
  gap = s.plan.word_size - window.word

  fits : (window.word ≤ s.plan.word_size) × (1 ≤ window.word)
  fits = least window.size.few where
    least : ((window.word ≡ s.plan.word_size) × (window.word ≤ 4)) ⊎ ((window.word ≡ 4) × (4 ≤ s.plan.word_size)) → (window.word ≤ s.plan.word_size) × (1 ≤ window.word)
    least (inl all) = let a = all.0 in let w0 = is.words in (omega (arith, a), omega (arith, a, w0))
    least (inr four) = let a = four.0 in let d = four.1 in (omega (arith, a, d), omega (arith, a))

  columns_sum : columns_of s.plan ≡ window.word * wpr + gap * wpr
  columns_sum = let a = fits.0 in ap (λ (n : ℕ). n * wpr) (let h : s.plan.word_size ≡ window.word + gap = omega (arith, a) in h) ∙ add-mul window.word gap wpr

  columns_few_some : 1 ≤ window.word * wpr
  columns_few_some = let le = mul-le-mul_right wpr fits.1 in let p = power_low s.plan.col_bits in let one : 1 * wpr ≡ wpr = omega arith in omega (arith, le, p, one)

  abbrev dxg : ℤ
  dxg = right_by s.plan s.kit f g 0 gap

  end_there_is : (x x2 : ℤ) → x2 ≡ x +ℤ dxg → x2 +ℤ (f.bank_width -ℤ x) ≡ g.bank_width
  end_there_is x x2 e =
      go (columns_x s.plan s.kit f) (columns_x s.plan s.kit g) f.bank_width g.bank_width x x2 (q 0) (qg 0) (columns_of s.plan * bw) ((window.word * wpr) * bw) ((gap * wpr) * bw) (columns_same connections s by reach is window) (width_here connections s by reach is window) (width_there connections s by reach is window)
      (ap (λ (n : ℕ). n * bw) columns_sum ∙ add-mul (window.word * wpr) (gap * wpr) bw) (zero_times f.bank_width) (zero_times g.bank_width) e
    where
      go : (cf cg wf wg x x2 q qg : ℤ) (n k m : ℕ) → cg ≡ cf → wf ≡ cf +ℤ pos n → wg ≡ cg +ℤ pos k → n ≡ k + m → q ≡ pos 0 → qg ≡ pos 0 → x2 ≡ x +ℤ ((qg -ℤ q) -ℤ pos m) → x2 +ℤ (wf -ℤ x) ≡ wg
      go cf cg wf wg x x2 q qg n k m h1 h2 h3 h4 h5 h6 h7 = omega (arith, ints, h1, h2, h3, h4, h5, h6, h7)

  pub precharge_tap : (k : ℕ) → k < banks_of s.plan → (n net : Net) (t inner : Shape) → n ≡ in_bank k net → IsShifted (q k) (pos 0) inner t → (x y end : ℤ) (rail : IsRailOf s.plan s.wire f 0 net x) (l : ℕ) → l + 1 ≡ columns_of s.plan → (port : ℕ) (rect : Rect) → IsPin s.plan s.kit f (PrechargeAt 0 l) port 2 net rect → y ≡ rect.y1 → end ≡ rect.x2
      → IsBox (slice_index s.wire.metals 2) x y end (y +ℤ W) inner → IsNearZone S z t.rect → SeenThere connections s by reach is window i n t
  precharge_tap k lt n net t inner named sh x y end rail l last port rect pin at ends box near =
      let cs = columns_sum in
      let some = columns_few_some in
      let p = pin_there connections s by reach is window gap dxg dy (PrechargeAt 0 l) port 2 net rect pin
      (precharge_counter s.plan s.kit s.wire s.tracks window.tracks f g window.word window.write window.masks is.source.drawn.stands window.source.drawn.stands is.written window.size.written 0 l pin.place pin.has pin.stands (window.word * wpr - 1) gap (omega (arith, cs, some, last)) (omega (arith, some))) in
      let own = same_rail_net s.plan gap p.net2 net p.named (rail_net s.plan 0 rail.rail net rail.on) in
      let span = precharge_span s.plan s.kit s.wire f is.source.drawn.laid is.source.drawn.pins 0 l port 2 net rect pin in
      let span2 = precharge_span sm.plan s.kit s.wire g window.source.drawn.laid window.source.drawn.pins 0 (window.word * wpr - 1) port 2 p.net2 p.rect2 p.pin in
      let unit : columns_of s.plan * bw ≡ l * bw + bw = ap (λ (n : ℕ). n * bw) (sym last) ∙ (add-mul l 1 bw ∙ ap (λ (n : ℕ). l * bw + n) (once bw)) in
      let e = tap_bank k net x end t inner rail sh box.left box.right (stops (columns_x s.plan s.kit f) f.bank_width (q 0) end rect.x2 (l * bw) bw (columns_of s.plan * bw) unit (width_here connections s by reach is window) (zero_times f.bank_width) span.to ends) near in
      tap_seen k lt e n net t inner named sh x y end rail rect p.rect2 at ends p.moved_by.y1 box (front f.row_x g.row_x (drive_width s.plan s.kit) ((window.word * wpr - 1) * bw) (qg 0) p.rect2.x1 (rows_same connections s by reach is window) (zero_times g.bank_width) span2.from)
      (inr (inr (inr (inl (window.word * wpr - 1, omega (arith, some), record { port = port; rect = p.rect2; pin = subst (λ (y : Net). IsPin sm.plan s.kit g (PrechargeAt 0 (window.word * wpr - 1)) port 2 y p.rect2) own p.pin; at = refl; ends = refl })))))
      (end_right connections s by reach is window b m bw z dx seat.anchor is.short.bitcell rect.x2 p.rect2.x2 (f.bank_width -ℤ rect.x2) (to_end rect.x2 f.bank_width) (end_there_is rect.x2 p.rect2.x2 p.moved_by.x2)
      (one_unit (columns_x s.plan s.kit f) f.bank_width rect.x1 rect.x2 (q 0) (l * bw) bw (columns_of s.plan * bw) unit (width_here connections s by reach is window) (zero_times f.bank_width) span.from rect.wide))
    where
      once : (w : ℕ) → 1 * w ≡ w
      once w = omega arith

      stops : (cx wd o end r2 : ℤ) (a u all : ℕ) → all ≡ a + u → wd ≡ cx +ℤ pos all → o ≡ pos 0 → r2 ≤ℤ (((cx +ℤ pos a) +ℤ o) +ℤ pos u) → end ≡ r2 → end ≤ℤ wd
      stops cx wd o end r2 a u all h1 h2 h3 h4 h5 = omega (arith, ints, h1, h2, h3, h4, h5)

      front : (rf rg : ℤ) (d a : ℕ) (o r1 : ℤ) → rg ≡ rf → o ≡ pos 0 → (((rg +ℤ pos d) +ℤ pos a) +ℤ o) ≤ℤ r1 → rf ≤ℤ r1
      front rf rg d a o r1 h1 h2 h3 = omega (arith, ints, h1, h2, h3)

      to_end : (x w : ℤ) → x +ℤ (w -ℤ x) ≡ w
      to_end x w = omega (arith, ints)

      one_unit : (cx wd r1 r2 o : ℤ) (a u all : ℕ) → all ≡ a + u → wd ≡ cx +ℤ pos all → o ≡ pos 0 → ((cx +ℤ pos a) +ℤ o) ≤ℤ r1 → r1 <ℤ r2 → (wd -ℤ r2) ≤ℤ pos u
      one_unit cx wd r1 r2 o a u all h1 h2 h3 h4 h5 = omega (arith, ints, h1, h2, h3, h4, h5)
      -- Bars
