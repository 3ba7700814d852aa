-- Joiners and taps beside a slice's instance are seen in the small memory.
use Rattle.std.proofs.Common.{◌≡◌, ◌⊎◌, inl, inr, ◌∙◌, ℕ, ◌+◌, ◌-◌, ◌*◌, ◌<◌, ◌≤◌, ℤ, pos, ◌+ℤ◌, ◌-ℤ◌, ◌*ℤ◌, ◌≤ℤ◌, ◌<ℤ◌, List, refl, sym, ap, subst, arith}
use Rattle.std.specs.Prelude.{slice_index}
use Rattle.std.proofs.Math.Nat.{add-mul}
use Rattle.std.proofs.lemmas.Int.{ints}
use Rattle.or_geom.specs.declared.shape.Rect.{Rect}
use Rattle.or_geom.specs.declared.shape.Shape.{Shape}
use Rattle.tech_rules.specs.declared.tech.Connect.{Connect}
use Rattle.wire_drawing.specs.Drawing.{IsBox}
use Rattle.sram_netlist.specs.Organization.{banks_of, columns_of, words_per_row}
use Rattle.sram_netlist.specs.Nets.{Net, Gnd}
use Rattle.sram_netlist.specs.Instances.{SenseAt}
use Rattle.macro_layout.specs.Places.{Floorplan, bank_x, columns_x, bit_width, drive_width}
use Rattle.macro_layout.specs.Floorplan.{rail_x}
use Rattle.macro_layout.specs.Pins.{IsPin, IsRailOf}
use Rattle.macro_layout.specs.Stated.{IsShifted}
use Rattle.macro_layout.specs.Wires.{columns_end}
use Rattle.good_places.specs.Leaves.{Zone}
use Rattle.good_wires.proofs.LevelLaws.{rail_at}
use Rattle.joined_nets.specs.WireNets.{in_bank}
use Rattle.kit_nets.specs.StatedParts.{Source, Standing}
use Rattle.kit_nets.proofs.ChannelDrawnLaws.{box_there}
use Rattle.kit_nets.proofs.ColumnHubLaws.{zero_times}
use Rattle.moved_nets.specs.Moved.{slice_net}
use Rattle.seen_pairs.specs.Counterpart.{IsOfSlices, leaf_bank, right_by, slices_up}
use Rattle.small_wires.specs.Seen.{IsNearZone}
use Rattle.seen_pairs.specs.Window.{IsSeenSource, HasSeenWindow}
use Rattle.small_wires.proofs.AnchorLaws.{Anchored, joiner_left, end_right, rail_left, columns_same, width_here, width_there, columns_some, rows_same}
use Rattle.seen_pairs.proofs.BankPairLaws.{Counter}
use Rattle.small_wires.proofs.BankWireLaws.{pin_there, in_bank_seen}
use Rattle.small_wires.proofs.ColumnNetLaws.{rail_still}
use Rattle.seen_pairs.proofs.CounterLaws.{sense_counter}
use Rattle.small_wires.proofs.FarLaws.{sp, wide_wire, wide_space, same_bank}
use Rattle.seen_pairs.proofs.SeatLaws.{zone_at}
use Rattle.small_wires.proofs.SeenWireLaws.{small, SeenThere}
use Rattle.small_wires.proofs.SpanLaws.{sense_span, rail_net, same_rail_net}
use Rattle.seen_wires.proofs.SlicePinLaws as first

module _ (connections : List Connect) (s : Source) (by reach : ℤ) (is : IsSeenSource connections s by reach) (window : HasSeenWindow connections s) (i : Standing s) (of : IsOfSlices i.leaf) where
  -- what is said before, of the same
  abbrev f : Floorplan
  f = s.floorplan

  abbrev g : Floorplan
  g = window.floorplan

  abbrev S : ℤ
  S = s.wire.space

  abbrev W : ℤ
  W = s.wire.width

  abbrev wpr : ℕ
  wpr = words_per_row s.plan

  abbrev unit : ℕ
  unit = wpr * bit_width s.kit

  abbrev sm : Source
  sm = small connections s by reach is window

  abbrev b : ℕ
  b = leaf_bank i.leaf

  abbrev m : ℕ
  m = (first.chosen connections s by reach is window i of).0

  abbrev dx : ℤ
  dx = right_by s.plan s.kit f g b m

  abbrev dy : ℤ
  dy = slices_up f g

  abbrev c : Counter connections s by reach is window m dx dy i
  c = first.c connections s by reach is window i of

  abbrev z : Zone
  z = zone_at connections s by reach is i

  abbrev anchor : Anchored connections s by reach is window b m unit z dx
  anchor = first.anchor connections s by reach is window i of

  abbrev wide : reach ≤ℤ pos unit
  wide = first.wide connections s by reach is window i of

  abbrev sense_rises : f.sense_y +ℤ dy ≡ g.sense_y
  sense_rises = first.sense_rises connections s by reach is window i of

  abbrev q : ℕ → ℤ
  q k = pos k *ℤ s.floorplan.bank_width

  abbrev qg : ℕ → ℤ
  qg k = pos k *ℤ window.floorplan.bank_width

  -- Joiners along write cells
  pub joiner_contact : (k : ℕ) → k < banks_of s.plan → (n : Net) (t inner : Shape) → n ≡ in_bank k Gnd → IsShifted (q k) (pos 0) inner t → IsBox (slice_index s.wire.metals 0) (columns_x s.plan s.kit f) (f.sense_y -ℤ W) (columns_end s.plan s.kit f) f.sense_y inner → IsNearZone S z t.rect → SeenThere connections s by reach is window i n t
  joiner_contact k lt n t inner named sh drawn near =
      let e = same_bank connections s by reach is b z anchor.from anchor.to k t.rect (starts (columns_x s.plan s.kit f) f.row_x (q k) W S t.rect.x1 inner.rect.x1 (sp connections s by reach is).columns (sp connections s by reach is).row (wide_wire connections s by reach is) sh.x1 drawn.left)
      (ends (columns_x s.plan s.kit f) f.bank_width (q k) t.rect.x2 inner.rect.x2 (columns_of s.plan * bit_width s.kit) (width_here connections s by reach is window) sh.x2 drawn.right) near in
      let box = box_there (slice_index s.wire.metals 0) (columns_x s.plan s.kit g) (g.sense_y -ℤ W) (columns_end sm.plan s.kit g) g.sense_y (wider (columns_x s.plan s.kit g) ((window.word * wpr) * bit_width s.kit) (columns_some connections s by reach is window)) (taller g.sense_y W (wide_wire connections s by reach is)) in
      in_bank_seen connections s by reach is window m dx dy i c k lt n Gnd Gnd t inner box.0 named refl sh (inr (inr (inr (inr (refl, inl (window.size.written, box.1)))))) (record {
        layer = box.1.on ∙ sym drawn.on;
        left = subst (λ (y : ℕ). ((box.0.rect.x1 +ℤ qg y) ≤ℤ ((inner.rect.x1 +ℤ q y) +ℤ dx)) ⊎ (((box.0.rect.x1 +ℤ qg y) +ℤ by) ≤ℤ (z.left +ℤ dx))) (sym e) (left (joiner_left connections s by reach is window b m unit z dx anchor wide (columns_x s.plan s.kit g) (same (columns_x s.plan s.kit g))) box.0.rect.x1 box.1.left inner.rect.x1 drawn.left);
        right = subst (λ (y : ℕ). (((inner.rect.x2 +ℤ q y) +ℤ dx) ≤ℤ (box.0.rect.x2 +ℤ qg y)) ⊎ (((z.right +ℤ dx) +ℤ by) ≤ℤ (box.0.rect.x2 +ℤ qg y))) (sym e)
            (end_right connections s by reach is window b m unit z dx anchor wide inner.rect.x2 box.0.rect.x2 (pos 0) (at_end inner.rect.x2 f.bank_width _ drawn.right (width_here connections s by reach is window)) (at_end box.0.rect.x2 g.bank_width _ box.1.right (width_there connections s by reach is window)) (nothing unit));
        low = inl (low f.sense_y g.sense_y W inner.rect.y1 box.0.rect.y1 drawn.low box.1.low sense_rises);
        high = inl (high f.sense_y g.sense_y inner.rect.y2 box.0.rect.y2 drawn.high box.1.high sense_rises);
      })
    where
      same : (x : ℤ) → x ≤ℤ x
      same x = omega (arith, ints)

      nothing : (u : ℕ) → pos 0 ≤ℤ pos u
      nothing u = omega (arith, ints)

      starts : (x r q w sp t i : ℤ) → r ≤ℤ x → (w +ℤ sp) ≤ℤ r → pos 1 ≤ℤ w → t ≡ i +ℤ q → i ≡ x → (q +ℤ sp) ≤ℤ t
      starts x r q w sp t i h1 h2 h3 h4 h5 = omega (arith, ints, h1, h2, h3, h4, h5)

      ends : (x w q t i : ℤ) (all : ℕ) → w ≡ x +ℤ pos all → t ≡ i +ℤ q → i ≡ x +ℤ pos all → t ≤ℤ (w +ℤ q)
      ends x w q t i all h1 h2 h3 = omega (arith, ints, h1, h2, h3)

      wider : (x : ℤ) (n : ℕ) → 1 ≤ n → x <ℤ (x +ℤ pos n)
      wider x n a = omega (arith, ints, a)

      taller : (y w : ℤ) → pos 1 ≤ℤ w → (y -ℤ w) <ℤ y
      taller y w a = omega (arith, ints, a)

      at_end : (x w e : ℤ) → x ≡ e → w ≡ e → x +ℤ pos 0 ≡ w
      at_end x w e p r = omega (arith, ints, p, r)

      left : (((columns_x s.plan s.kit g) +ℤ qg b) ≤ℤ (((columns_x s.plan s.kit g) +ℤ q b) +ℤ dx)) ⊎ ((((columns_x s.plan s.kit g) +ℤ qg b) +ℤ by) ≤ℤ (z.left +ℤ dx)) → (u : ℤ) → u ≡ columns_x s.plan s.kit g → (a : ℤ) → a ≡ columns_x s.plan s.kit f → ((u +ℤ qg b) ≤ℤ ((a +ℤ q b) +ℤ dx)) ⊎ (((u +ℤ qg b) +ℤ by) ≤ℤ (z.left +ℤ dx))
      left (inl h) u p a r = inl (let e = columns_same connections s by reach is window in omega (arith, ints, h, p, r, e))
      left (inr h) u p a r = inr (omega (arith, ints, h, p))

      low : (y v w a u : ℤ) → a ≡ y -ℤ w → u ≡ v -ℤ w → y +ℤ dy ≡ v → u ≤ℤ (a +ℤ dy)
      low y v w a u p r e = omega (arith, ints, p, r, e)

      high : (y v a u : ℤ) → a ≡ y → u ≡ v → y +ℤ dy ≡ v → (a +ℤ dy) ≤ℤ u
      high y v a u p r e = omega (arith, ints, p, r, e)

  -- The sense enable's tap

  abbrev gap : ℕ
  gap = s.plan.word_size - window.word

  fits : (window.word ≤ s.plan.word_size) × (1 ≤ window.word)
  fits = least window.size.few where
    least : ((window.word ≡ s.plan.word_size) × (window.word ≤ 4)) ⊎ ((window.word ≡ 4) × (4 ≤ s.plan.word_size)) → (window.word ≤ s.plan.word_size) × (1 ≤ window.word)
    least (inl all) = let a = all.0 in let w0 = is.words in (omega (arith, a), omega (arith, a, w0))
    least (inr four) = let a = four.0 in let d = four.1 in (omega (arith, a, d), omega (arith, a))

  abbrev dxg : ℤ
  dxg = right_by s.plan s.kit f g 0 gap

  -- how far before its bank's end the last slice's pin ends
  end_there : (x x2 : ℤ) → x2 ≡ x +ℤ dxg → x2 +ℤ (f.bank_width -ℤ x) ≡ g.bank_width
  end_there x x2 e =
      let a = fits.0 in
      let sum : s.plan.word_size ≡ window.word + gap = omega (arith, a) in
      go (columns_x s.plan s.kit f) (columns_x s.plan s.kit g) f.bank_width g.bank_width x x2 (q 0) (qg 0) (columns_of s.plan * bit_width s.kit) ((window.word * wpr) * bit_width s.kit) ((gap * wpr) * bit_width s.kit) (columns_same connections s by reach is window) (width_here connections s by reach is window) (width_there connections s by reach is window)
      (ap (λ (n : ℕ). (n * wpr) * bit_width s.kit) sum ∙ (ap (λ (n : ℕ). n * bit_width s.kit) (add-mul window.word gap wpr) ∙ add-mul (window.word * wpr) (gap * wpr) (bit_width s.kit))) (zero_times f.bank_width) (zero_times g.bank_width) e
    where
      go : (cf cg wf wg x x2 q qg : ℤ) (n k m : ℕ) → cg ≡ cf → wf ≡ cf +ℤ pos n → wg ≡ cg +ℤ pos k → n ≡ k + m → q ≡ pos 0 → qg ≡ pos 0 → x2 ≡ x +ℤ ((qg -ℤ q) -ℤ pos m) → x2 +ℤ (wf -ℤ x) ≡ wg
      go cf cg wf wg x x2 q qg n k m h1 h2 h3 h4 h5 h6 h7 = omega (arith, ints, h1, h2, h3, h4, h5, h6, h7)

  last_unit : (l : ℕ) → l + 1 ≡ s.plan.word_size → columns_of s.plan * bit_width s.kit ≡ (l * wpr) * bit_width s.kit + unit
  last_unit l e = ap (λ (n : ℕ). (n * wpr) * bit_width s.kit) (sym e) ∙ (ap (λ (n : ℕ). n * bit_width s.kit) (add-mul l 1 wpr) ∙ (add-mul (l * wpr) (1 * wpr) (bit_width s.kit) ∙ ap (λ (n : ℕ). (l * wpr) * bit_width s.kit + n * bit_width s.kit) (once wpr))) where
    once : (w : ℕ) → 1 * w ≡ w
    once w = omega arith

  pub tap_contact : (k : ℕ) → k < banks_of s.plan → (n net : Net) (t inner : Shape) → n ≡ in_bank k net → IsShifted (q k) (pos 0) inner t → (x y end : ℤ) (rail : IsRailOf s.plan s.wire f 0 net x) (l : ℕ) → l + 1 ≡ s.plan.word_size → (port : ℕ) (rect : Rect) → IsPin s.plan s.kit f (SenseAt 0 l) port 2 net rect → y ≡ rect.y1 → end ≡ rect.x2
      → IsBox (slice_index s.wire.metals 2) x y end (y +ℤ W) inner → IsNearZone S z t.rect → SeenThere connections s by reach is window i n t
  tap_contact k lt n net t inner named sh x y end rail l last port rect pin at ends box near =
      let a = fits.0 in
      let a1 = fits.1 in
      let p = pin_there connections s by reach is window gap dxg dy (SenseAt 0 l) port 2 net rect pin
      (sense_counter s.plan s.kit s.wire s.tracks window.tracks f g window.word window.write window.masks is.source.drawn.stands window.source.drawn.stands is.written window.size.written 0 l pin.place pin.has pin.stands (window.word - 1) gap (omega (arith, a, a1, last)) (omega (arith, a1))) in
      let own = same_rail_net s.plan gap p.net2 net p.named (rail_net s.plan 0 rail.rail net rail.on) in
      let span = sense_span s.plan s.kit s.wire f is.source.drawn.laid is.source.drawn.pins 0 l port 2 net rect pin in
      let span2 = sense_span sm.plan s.kit s.wire g window.source.drawn.laid window.source.drawn.pins 0 (window.word - 1) port 2 p.net2 p.rect2 p.pin in
      let r = rail_at s.plan s.kit s.wire f 0 net x (sp connections s by reach is) rail in
      let xr = rail_x s.wire rail.rail in
      let before : ((xr +ℤ W) +ℤ S) ≤ℤ f.row_x = no_shift xr W S f.row_x x (q 0) rail.at (zero_times f.bank_width) r.to in
      let e = same_bank connections s by reach is b z anchor.from anchor.to k t.rect (starts xr (q 0) (q k) W S x t.rect.x1 inner.rect.x1 rail.at (zero_times f.bank_width) ((sp connections s by reach is).first rail.rail) (wide_wire connections s by reach is) sh.x1 box.left)
      (stops (columns_x s.plan s.kit f) f.bank_width (q 0) (q k) t.rect.x2 inner.rect.x2 end rect.x2 ((l * wpr) * bit_width s.kit) unit (columns_of s.plan * bit_width s.kit) (last_unit l last) (width_here connections s by reach is window) (zero_times f.bank_width) span.to ends box.right sh.x2) near in
      let u = box_there (slice_index s.wire.metals 2) (bank_x g 0 xr) p.rect2.y1 p.rect2.x2 (p.rect2.y1 +ℤ W) (wider xr W S f.row_x g.row_x (drive_width sm.plan s.kit) (((window.word - 1) * wpr) * bit_width s.kit) (qg 0) p.rect2.x1 p.rect2.x2 before (rows_same connections s by reach is window) span2.from p.rect2.wide (wide_wire connections s by reach is) (wide_space connections s by reach is)) (taller p.rect2.y1 W (wide_wire connections s by reach is)) in
      in_bank_seen connections s by reach is window m dx dy i c k lt n net net t inner u.0 named (still_net net rail) sh
      (inr (inl (record {
        x = bank_x g 0 xr;
        y = p.rect2.y1;
        end = p.rect2.x2;
        rail = record { rail = rail.rail; on = rail.on; at = refl };
        tap = inr (inr (inl (window.word - 1, omega (arith, a1), record { port = port; rect = p.rect2; pin = subst (λ (y : Net). IsPin sm.plan s.kit g (SenseAt 0 (window.word - 1)) port 2 y p.rect2) own p.pin; at = refl; ends = refl })));
        drawn = inl u.1;
      })))
      (record {
        layer = u.1.on ∙ sym box.on;
        left = inr (subst (λ (j : ℕ). ((u.0.rect.x1 +ℤ qg j) +ℤ by) ≤ℤ (z.left +ℤ dx)) (sym e) (left u.0.rect.x1 xr (qg 0) (qg b) (z.left +ℤ dx) u.1.left (zero_times g.bank_width) (rail_left connections s by reach is window b m unit z dx anchor wide xr before)));
        right = subst (λ (j : ℕ). (((inner.rect.x2 +ℤ q j) +ℤ dx) ≤ℤ (u.0.rect.x2 +ℤ qg j)) ⊎ (((z.right +ℤ dx) +ℤ by) ≤ℤ (u.0.rect.x2 +ℤ qg j))) (sym e)
            (subst (λ (v : ℤ). (((inner.rect.x2 +ℤ q b) +ℤ dx) ≤ℤ (v +ℤ qg b)) ⊎ (((z.right +ℤ dx) +ℤ by) ≤ℤ (v +ℤ qg b))) (sym u.1.right) (subst (λ (v : ℤ). (((v +ℤ q b) +ℤ dx) ≤ℤ (p.rect2.x2 +ℤ qg b)) ⊎ (((z.right +ℤ dx) +ℤ by) ≤ℤ (p.rect2.x2 +ℤ qg b))) (sym (box.right ∙ ends))
            (end_right connections s by reach is window b m unit z dx anchor wide rect.x2 p.rect2.x2 (f.bank_width -ℤ rect.x2) (to_end rect.x2 f.bank_width) (end_there rect.x2 p.rect2.x2 p.moved_by.x2)
            (one_unit (columns_x s.plan s.kit f) f.bank_width rect.x1 rect.x2 (q 0) ((l * wpr) * bit_width s.kit) unit (columns_of s.plan * bit_width s.kit) (last_unit l last) (width_here connections s by reach is window) (zero_times f.bank_width) span.from rect.wide))));
        low = inl (low rect.y1 p.rect2.y1 y inner.rect.y1 u.0.rect.y1 p.moved_by.y1 at box.low u.1.low);
        high = inl (high rect.y1 p.rect2.y1 W y inner.rect.y2 u.0.rect.y2 p.moved_by.y1 at box.high u.1.high);
      })
    where
      still_net : (net : Net) (rail : IsRailOf s.plan s.wire f 0 net x) → slice_net s.plan m net ≡ net
      still_net net rail = rail_still s.plan m 0 rail.rail net rail.on

      no_shift : (xr w sp r x o : ℤ) → x ≡ xr +ℤ o → o ≡ pos 0 → ((x +ℤ w) +ℤ sp) ≤ℤ (r +ℤ o) → ((xr +ℤ w) +ℤ sp) ≤ℤ r
      no_shift xr w sp r x o h1 h2 h3 = omega (arith, ints, h1, h2, h3)

      starts : (xr o q w sp x t i : ℤ) → x ≡ xr +ℤ o → o ≡ pos 0 → (w +ℤ sp) ≤ℤ xr → pos 1 ≤ℤ w → t ≡ i +ℤ q → i ≡ x → (q +ℤ sp) ≤ℤ t
      starts xr o q w sp x t i h1 h2 h3 h4 h5 h6 = omega (arith, ints, h1, h2, h3, h4, h5, h6)

      stops : (cx wd o q t i end r2 : ℤ) (a u all : ℕ) → all ≡ a + u → wd ≡ cx +ℤ pos all → o ≡ pos 0 → r2 ≤ℤ (((cx +ℤ pos a) +ℤ o) +ℤ pos u) → end ≡ r2 → i ≡ end → t ≡ i +ℤ q → t ≤ℤ (wd +ℤ q)
      stops cx wd o q t i end r2 a u all h1 h2 h3 h4 h5 h6 h7 = omega (arith, ints, h1, h2, h3, h4, h5, h6, h7)

      wider : (xr w sp rf rg : ℤ) (d a : ℕ) (o r1 r2 : ℤ) → ((xr +ℤ w) +ℤ sp) ≤ℤ rf → rg ≡ rf → (((rg +ℤ pos d) +ℤ pos a) +ℤ o) ≤ℤ r1 → r1 <ℤ r2 → pos 1 ≤ℤ w → pos 1 ≤ℤ sp → (xr +ℤ o) <ℤ r2
      wider xr w sp rf rg d a o r1 r2 h1 h2 h3 h4 h5 h6 = omega (arith, ints, h1, h2, h3, h4, h5, h6)

      taller : (y w : ℤ) → pos 1 ≤ℤ w → y <ℤ (y +ℤ w)
      taller y w a = omega (arith, ints, a)

      left : (u xr o qg l : ℤ) → u ≡ xr +ℤ o → o ≡ pos 0 → ((xr +ℤ qg) +ℤ by) ≤ℤ l → ((u +ℤ qg) +ℤ by) ≤ℤ l
      left u xr o qg l h1 h2 h3 = omega (arith, ints, h1, h2, h3)

      to_end : (x w : ℤ) → x +ℤ (w -ℤ x) ≡ w
      to_end x w = omega (arith, ints)

      one_unit : (cx wd r1 r2 o : ℤ) (a u all : ℕ) → all ≡ a + u → wd ≡ cx +ℤ pos all → o ≡ pos 0 → ((cx +ℤ pos a) +ℤ o) ≤ℤ r1 → r1 <ℤ r2 → (wd -ℤ r2) ≤ℤ pos u
      one_unit cx wd r1 r2 o a u all h1 h2 h3 h4 h5 = omega (arith, ints, h1, h2, h3, h4, h5)

      low : (r r2 y a u : ℤ) → r2 ≡ r +ℤ dy → y ≡ r → a ≡ y → u ≡ r2 → u ≤ℤ (a +ℤ dy)
      low r r2 y a u h1 h2 h3 h4 = omega (arith, ints, h1, h2, h3, h4)

      high : (r r2 w y a u : ℤ) → r2 ≡ r +ℤ dy → y ≡ r → a ≡ y +ℤ w → u ≡ r2 +ℤ w → (a +ℤ dy) ≤ℤ u
      high r r2 w y a u h1 h2 h3 h4 = omega (arith, ints, h1, h2, h3, h4)
      -- Branches of the main channel above
