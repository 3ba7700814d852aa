-- Each port above a channel has its branch, and each over a write cell its wire.
use Rattle.std.proofs.Common.{◌≡◌, ◌⊎◌, inl, inr, ◌∙◌, ℕ, zero, suc, ◌*◌, ◌<◌, ℤ, pos, ◌+ℤ◌, ◌*ℤ◌, ◌≤ℤ◌, ◌<ℤ◌, Some, refl, sym, subst, arith}
use Rattle.std.specs.Prelude.{slice_get, slice_index}
use Rattle.std.proofs.lemmas.Int.{ints}
use Rattle.or_geom.specs.declared.shape.Rect.{Rect}
use Rattle.or_geom.specs.declared.shape.Shape.{Shape}
use Rattle.or_geom.specs.declared.place.Place.{Place}
use Rattle.or_geom.specs.Place.{placed, IsImage}
use Rattle.cell_roles.specs.declared.role.Role.{Role}
use Rattle.cell_roles.specs.declared.role.Role.TheVariants.{Sense, Write, Mux, Tie}
use Rattle.tech_rules.specs.declared.tech.Wire.{Wire}
use Rattle.wire_drawing.specs.Drawing.{IsBox}
use Rattle.channel_router.specs.Channel.{IsPinOf}
use Rattle.channel_router.specs.Wires.{channel_height, track_y}
use Rattle.sram_netlist.specs.Organization.{Organization, IsBuildable, banks_of, words_per_row, written_bits}
use Rattle.sram_netlist.specs.Nets.{Net, D, Dout}
use Rattle.sram_netlist.specs.Instances.{LeafInstance, BitAt, NandAt, DriverAt, PrechargeAt, WriteAt, SenseAt, MuxAt, TieAt, LogicAt, Dd}
use Rattle.sram_netlist.specs.Netlist.{role, enable_at, enables_of, mask_of, ports}
use Rattle.macro_layout.specs.LayoutKit.{LayoutKit}
use Rattle.macro_layout.specs.Places.{Floorplan, bank_x, column_x, columns_x, bit_width, upright}
use Rattle.macro_layout.specs.Floorplan.{Tracks, column_channel_y}
use Rattle.macro_layout.specs.Pins.{column_nets, main_nets}
use Rattle.macro_layout.specs.Channels.{IsColumnChannel, IsMainChannel, IsPinFrom}
use Rattle.macro_layout.specs.Wires.{IsOutputWire}
use Rattle.macro_layout.proofs.RoutingLaws.{below_length}
use Rattle.memory_laws.proofs.Decode.{twice_some}
use Rattle.sram_macro.specs.Stated.{TakesTracks}
use Rattle.sram_netlist.proofs.InstanceLists.{place_in}
use Rattle.route_laws.proofs.NumberLaws.{output_main, result_main}
use Rattle.good_wires.specs.Drawn.{IsDrawnMemory, IsDrawnWire}
use Rattle.good_wires.specs.Branches.{IsPlacedPin}
use Rattle.good_wires.specs.Kept.{IsAmong}
use Rattle.good_wires.proofs.LevelLaws.{Levels, levels, track_below}
use Rattle.drawn_memories.specs.Ports.{ports_above, ports_over, drop_of}
use Rattle.drawn_memories.proofs.PortLaws.{IsLowerPin, is_above, is_over, over_above, sense_listed}
use Rattle.drawn_memories.proofs.StandLaws.{zero_times, box_there, image_there, shift_there, box_shifted, box_as, down_there}
use Rattle.drawn_memories.proofs.TopPortLaws.{gate_not, logic_not, enable_main, IsNumberedAt, mux_numbered, tie_numbered, IsLowerAt, stands_lower, sense_stands, main_top, column_reaches, long_by, none_more, moves, wide_to}

module _ (plan : Organization) (kit : LayoutKit) (wire : Wire) (tracks : Tracks) (f : Floorplan) (m : IsDrawnMemory plan kit wire tracks f) (built : IsBuildable plan) (masked : (i : ℕ) → i < plan.word_size → mask_of plan.masks plan.write_size i < enables_of plan)
    (main : TakesTracks (IsMainChannel plan kit wire f) wire tracks.main) (column : TakesTracks (IsColumnChannel plan kit wire f) wire tracks.column) (lower : (r : Role) (port : ℕ) → IsAmong ports_above r port → IsLowerPin kit wire r port) where
  abbrev Met : Role → ℕ → Type 0
  Met = IsAmong ports_above

  abbrev Out : Role → ℕ → Type 0
  Out = IsAmong ports_over

  abbrev metal : ℕ → ℕ
  metal k = slice_index wire.metals k

  abbrev offset : ℕ → ℤ
  offset b = pos b *ℤ f.bank_width

  l : Levels plan kit wire f
  l = levels plan kit wire tracks f m.laid.sizes m.stands

  lower_at : (rect : Rect) (x y : ℤ) (r : Role) (port : ℕ) → IsAmong ports_above r port → IsImage (placed (upright x y)) (kit.pin r port 3) rect → IsLowerAt kit wire rect x y r port
  lower_at = stands_lower kit wire lower

  sense_over : f.sense_y ≡ f.write_y +ℤ pos (kit.height Write)
  sense_over = sense_stands plan kit wire tracks f m

  column_top : (low : ℤ) → low ≡ column_channel_y kit f → low +ℤ channel_height wire tracks.column ≡ f.column_y
  column_top = column_reaches plan kit wire tracks f m

  abbrev slice_at : ℕ → ℕ → ℤ
  slice_at b i = bank_x f b (column_x plan kit f (i * words_per_row plan))

  pub all_wide : (leaf : LeafInstance) (rect : Rect) → IsPlacedPin Met 3 plan kit f leaf rect → rect.x2 ≡ rect.x1 +ℤ wire.width
  all_wide (BitAt b r c) rect p = absurd (is_above _ p.port p.met)
  all_wide (NandAt b r) rect p = absurd (gate_not plan.groups p.port (is_above _ p.port p.met))
  all_wide (DriverAt b r) rect p = absurd (is_above _ p.port p.met)
  all_wide (PrechargeAt b c) rect p = absurd (is_above _ p.port p.met)
  all_wide (LogicAt cell) rect p = absurd (logic_not plan cell p.port (is_above _ p.port p.met))
  all_wide (WriteAt b i) rect p = (lower_at rect (slice_at b i) f.write_y Write p.port p.met (subst (λ (q : Place). IsImage (placed q) (kit.pin Write p.port 3) rect) p.stands p.image)).wide
  all_wide (SenseAt b i) rect p = (lower_at rect (slice_at b i) f.sense_y Sense p.port p.met (subst (λ (q : Place). IsImage (placed q) (kit.pin Sense p.port 3) rect) p.stands p.image)).wide
  all_wide (MuxAt b c) rect p = (lower_at rect (bank_x f b (column_x plan kit f c)) f.column_y Mux p.port p.met (subst (λ (q : Place). IsImage (placed q) (kit.pin Mux p.port 3) rect) p.stands p.image)).wide
  all_wide (TieAt b c) rect p = (lower_at rect (bank_x f b (column_x plan kit f c)) f.column_y Tie p.port p.met (subst (λ (q : Place). IsImage (placed q) (kit.pin Tie p.port 3) rect) p.stands p.image)).wide

  pub as_above : (leaf : LeafInstance) (rect : Rect) → IsPlacedPin Out 3 plan kit f leaf rect → IsPlacedPin Met 3 plan kit f leaf rect
  as_above leaf rect p = record { port = p.port; met = over_above (role plan leaf) p.port p.met; place = p.place; has = p.has; stands = p.stands; image = p.image }

  -- Each such pin has its branch.

  unfoldable pub HasItsBranch : LeafInstance → Rect → Type 0
  HasItsBranch leaf rect =
      (s : Shape) × IsDrawnWire plan kit wire tracks f s × (y : ℤ) × (edge : ℤ) × (rect.y1 ≡ edge +ℤ pos (drop_of kit (role plan leaf))) × IsBox (slice_index wire.metals 3) rect.x1 y (rect.x1 +ℤ wire.width) edge s × ((y +ℤ (wire.space +ℤ wire.width)) ≤ℤ edge)

  main_has : (leaf : LeafInstance) (rect : Rect) (number : ℕ) (net : Net) → slice_get (main_nets plan) number ≡ Some net → IsPinOf main.channel.top number rect.x1 → rect.y1 ≡ f.write_y +ℤ pos (drop_of kit (role plan leaf)) → HasItsBranch leaf rect
  unfolding HasItsBranch
  main_has leaf rect number net at pin edge =
      let lt = below_length (main_nets plan) number net at in
      let nets = main.routed.meant.nets in
      let branch = down_there (IsMainChannel plan kit wire f) wire m.laid.sizes tracks.main main number rect.x1 (omega (arith, lt, nets)) pin in
      let top = main_top kit wire main.channel.low f.write_y tracks.main main.routed.meant.low m.stands.write_y in
      let under = track_below main.channel.low (main.channel.low +ℤ channel_height wire tracks.main) wire branch.on tracks.main m.laid.sizes branch.under refl in (
        branch.has.shape,
        inl (inl branch.has.is),
        track_y main.channel.low wire branch.on,
        f.write_y,
        edge,
        box_as (metal 3) _ _ _ _ rect.x1 (track_y main.channel.low wire branch.on) (rect.x1 +ℤ wire.width) f.write_y branch.has.shape refl refl refl top branch.has.drawn,
        long_by (track_y main.channel.low wire branch.on) wire.width wire.space (main.channel.low +ℤ channel_height wire tracks.main) f.write_y under top,
      )

  column_has : (leaf : LeafInstance) (b : ℕ) (rect : Rect) (x : ℤ) → b < banks_of plan → IsNumberedAt plan kit f x → rect.x1 ≡ (x +ℤ columns_x plan kit f) +ℤ offset b → rect.y1 ≡ f.column_y +ℤ pos (drop_of kit (role plan leaf)) → HasItsBranch leaf rect
  unfolding HasItsBranch
  column_has leaf b rect x below numbered left edge =
      let at = x +ℤ columns_x plan kit f in
      let number = numbered.number in
      let pin = (column.routed.meant.top number at).1 numbered.is in
      let lt = below_length (column_nets plan) number numbered.is.0 numbered.is.1 in
      let nets = column.routed.meant.nets in
      let branch = down_there (IsColumnChannel plan kit wire f) wire m.laid.sizes tracks.column column number at (omega (arith, lt, nets)) pin in
      let top = column_top column.channel.low column.routed.meant.low in
      let under = track_below column.channel.low (column.channel.low +ℤ channel_height wire tracks.column) wire branch.on tracks.column m.laid.sizes branch.under refl in
      let y = track_y column.channel.low wire branch.on in
      let shifted = shift_there (offset b) (pos 0) branch.has.shape in
      let box = box_shifted (offset b) (metal 3) at y (at +ℤ wire.width) (column.channel.low +ℤ channel_height wire tracks.column) branch.has.shape shifted.0 shifted.1 branch.has.drawn in (
        shifted.0,
        inr (record { bank = b; below = below; inner = branch.has.shape; is = inl branch.has.is; shifted = shifted.1 }),
        y,
        f.column_y,
        edge,
        box_as (metal 3) _ _ _ _ rect.x1 y (rect.x1 +ℤ wire.width) f.column_y shifted.0 (sym left) refl (wide_as at wire.width (offset b) rect.x1 left) top box,
        long_by y wire.width wire.space (column.channel.low +ℤ channel_height wire tracks.column) f.column_y under top,
      )
    where
      wide_as : (x w o y : ℤ) → y ≡ x +ℤ o → (x +ℤ w) +ℤ o ≡ y +ℤ w
      wide_as x w o y e = omega (arith, ints, e)

  column_left : (x p c o : ℤ) (n : ℕ) → x ≡ p +ℤ ((c +ℤ pos n) +ℤ o) → x ≡ ((pos n +ℤ p) +ℤ c) +ℤ o
  column_left x p c o n e = omega (arith, ints, e)

  inputs_all : (w n i : ℕ) → i < written_bits w n → i < n
  inputs_all zero n i lt = absurd (omega (arith, lt))
  inputs_all (suc w) n i lt = lt

  pub each_has : (leaf : LeafInstance) (rect : Rect) → IsPlacedPin Met 3 plan kit f leaf rect → HasItsBranch leaf rect
  each_has (BitAt b r c) rect p = absurd (is_above _ p.port p.met)
  each_has (NandAt b r) rect p = absurd (gate_not plan.groups p.port (is_above _ p.port p.met))
  each_has (DriverAt b r) rect p = absurd (is_above _ p.port p.met)
  each_has (PrechargeAt b c) rect p = absurd (is_above _ p.port p.met)
  each_has (LogicAt cell) rect p = absurd (logic_not plan cell p.port (is_above _ p.port p.met))
  each_has (WriteAt b i) rect p =
      let u = lower_at rect (slice_at b i) f.write_y Write p.port p.met (subst (λ (q : Place). IsImage (placed q) (kit.pin Write p.port 3) rect) p.stands p.image) in
      by (is_above Write p.port p.met) (u.low ∙ none_more f.write_y)
    where
      net_at : (port : ℕ) (net : Net) → p.port ≡ port → slice_get (ports plan (WriteAt b i)) port ≡ Some net → IsPinFrom plan kit f (WriteAt b i) port 3 net rect.x1
      net_at port net e on = record { rect = rect; is = record { has = p.has; on = on; place = p.place; stands = p.stands; image = subst (λ (k : ℕ). IsImage (placed p.place) (kit.pin Write k 3) rect) e p.image }; begins = refl }

      by : (p.port ≡ 0) ⊎ (p.port ≡ 3) → rect.y1 ≡ f.write_y +ℤ pos 0 → HasItsBranch (WriteAt b i) rect
      by (inl e) low =
          let number = place_in (D i) (main_nets plan) (output_main plan (Dd i) (D i) p.has.1 refl) in
          main_has (WriteAt b i) rect number.0 (D i) number.1 ((main.routed.meant.top number.0 rect.x1).1 (D i, number.1, (b, p.has.0, inr (inl (i, net_at 0 (D i) e refl))))) low
      by (inr e) low =
          let net = enable_at plan.bank_bits plan.masks b (mask_of plan.masks plan.write_size i) in
          let number = place_in net (main_nets plan) (enable_main plan plan.bank_bits plan.masks b (mask_of plan.masks plan.write_size i) refl refl m.laid.written p.has.0 (masked i (inputs_all plan.write_size plan.word_size i p.has.1))) in
          main_has (WriteAt b i) rect number.0 net number.1 ((main.routed.meant.top number.0 rect.x1).1 (net, number.1, (b, p.has.0, inr (inr (inl (i, net_at 3 net e refl)))))) low
  each_has (SenseAt b i) rect p =
      let u = lower_at rect (slice_at b i) f.sense_y Sense p.port p.met (subst (λ (q : Place). IsImage (placed q) (kit.pin Sense p.port 3) rect) p.stands p.image) in
      let number = place_in (Dout i) (main_nets plan) (result_main plan i p.has.1) in
      let from : IsPinFrom plan kit f (SenseAt b i) 2 3 (Dout i) rect.x1 = record { rect = rect; is = record { has = p.has; on = refl; place = p.place; stands = p.stands; image = subst (λ (k : ℕ). IsImage (placed p.place) (kit.pin Sense k 3) rect) (is_above Sense p.port p.met) p.image }; begins = refl } in
      main_has (SenseAt b i) rect number.0 (Dout i) number.1 ((main.routed.meant.top number.0 rect.x1).1 (Dout i, number.1, (b, p.has.0, inr (inr (inr (i, from)))))) (u.low ∙ sense_over)
  each_has (MuxAt b c) rect p =
      let u = lower_at rect (bank_x f b (column_x plan kit f c)) f.column_y Mux p.port p.met (subst (λ (q : Place). IsImage (placed q) (kit.pin Mux p.port 3) rect) p.stands p.image) in
      let which = is_above Mux p.port p.met in
      column_has (MuxAt b c) b rect (pos (c * bit_width kit) +ℤ (kit.pin Mux p.port 3).x1) p.has.0 (mux_numbered plan kit f c p.port p.has.1.1 p.has.1.0 which.0 which.1)
      (column_left rect.x1 (kit.pin Mux p.port 3).x1 (columns_x plan kit f) (offset b) (c * bit_width kit) u.left) (u.low ∙ none_more f.column_y)
  each_has (TieAt b c) rect p =
      let u = lower_at rect (bank_x f b (column_x plan kit f c)) f.column_y Tie p.port p.met (subst (λ (q : Place). IsImage (placed q) (kit.pin Tie p.port 3) rect) p.stands p.image) in
      column_has (TieAt b c) b rect (pos (c * bit_width kit) +ℤ (kit.pin Tie p.port 3).x1) p.has.0 (tie_numbered plan kit f c p.port p.has.1.1 p.has.1.0 (is_above Tie p.port p.met))
      (column_left rect.x1 (kit.pin Tie p.port 3).x1 (columns_x plan kit f) (offset b) (c * bit_width kit) u.left) (u.low ∙ none_more f.column_y)

  -- So has each pin over a write cell.

  unfoldable pub HasItsOutput : LeafInstance → Rect → Type 0
  HasItsOutput leaf rect = (s : Shape) × IsDrawnWire plan kit wire tracks f s × (edge : ℤ) × (rect.y1 ≡ edge +ℤ pos (drop_of kit (role plan leaf))) × IsBox (slice_index wire.metals 3) rect.x1 edge (rect.x1 +ℤ wire.width) rect.y1 s

  inputs_some : (w n i : ℕ) → 0 < w → i < n → i < written_bits w n
  inputs_some zero n i some lt = absurd (omega (arith, some))
  inputs_some (suc w) n i some lt = lt

  sense_has : (b i : ℕ) (rect : Rect) → IsPlacedPin Out 3 plan kit f (SenseAt b i) rect → HasItsOutput (SenseAt b i) rect
  unfolding HasItsOutput
  sense_has b i rect p =
      let c = column_x plan kit f (i * words_per_row plan) in
      let two : p.port ≡ 2 = is_over Sense p.port p.met in
      let u = lower_at rect (bank_x f b c) f.sense_y Sense 2 sense_listed (subst (λ (k : ℕ). IsImage (placed (upright (bank_x f b c) f.sense_y)) (kit.pin Sense k 3) rect) two (subst (λ (q : Place). IsImage (placed q) (kit.pin Sense p.port 3) rect) p.stands p.image)) in
      let first = image_there (bank_x f 0 c) f.sense_y (kit.pin Sense 2 3) in
      let v = lower_at first.0 (bank_x f 0 c) f.sense_y Sense 2 sense_listed first.1 in
      let high = m.pins.cells Write in
      let box = box_there (metal 3) first.0.x1 f.write_y (first.0.x1 +ℤ wire.width) f.sense_y (wide first.0.x1 wire.width m.laid.sizes.width.from) (tall f.write_y f.sense_y wire.width (kit.height Write) sense_over high m.laid.sizes.width.from) in
      let out : IsOutputWire plan kit wire f box.0 = record {
        bit = i;
        below = inputs_some plan.write_size plan.word_size i m.laid.written p.has.1;
        net = Dout i;
        rect = first.0;
        pin = record { has = (twice_some plan.bank_bits, p.has.1); on = refl; place = upright (bank_x f 0 c) f.sense_y; stands = refl; image = first.1 };
        drawn = box.1;
      } in
      let shifted = shift_there (offset b) (pos 0) box.0 in
      let x = moves (kit.pin Sense 2 3).x1 c (offset 0) (offset b) first.0.x1 rect.x1 (zero_times f.bank_width) v.left u.left in (
        shifted.0,
        inr (record { bank = b; below = p.has.0; inner = box.0; is = inr (inr (inr (inl out))); shifted = shifted.1 }),
        f.write_y,
        u.low ∙ sense_over,
        box_as (metal 3) _ _ _ _ rect.x1 f.write_y (rect.x1 +ℤ wire.width) rect.y1 shifted.0 x refl (wide_to first.0.x1 wire.width (offset b) rect.x1 x) (sym u.low)
            (box_shifted (offset b) (metal 3) first.0.x1 f.write_y (first.0.x1 +ℤ wire.width) f.sense_y box.0 shifted.0 shifted.1 box.1),
      )
    where
      wide : (x w : ℤ) → pos 1 ≤ℤ w → x <ℤ (x +ℤ w)
      wide x w le = omega (arith, ints, le)

      tall : (y s w : ℤ) (h : ℕ) → s ≡ y +ℤ pos h → w ≤ℤ pos h → pos 1 ≤ℤ w → y <ℤ s
      tall y s w h e a b = omega (arith, ints, e, a, b)

  pub each_output : (leaf : LeafInstance) (rect : Rect) → IsPlacedPin Out 3 plan kit f leaf rect → HasItsOutput leaf rect
  each_output (BitAt b r c) rect p = absurd (is_over _ p.port p.met)
  each_output (NandAt b r) rect p = absurd (gate_not plan.groups p.port (is_above _ p.port (over_above _ p.port p.met)))
  each_output (DriverAt b r) rect p = absurd (is_over _ p.port p.met)
  each_output (PrechargeAt b c) rect p = absurd (is_over _ p.port p.met)
  each_output (LogicAt cell) rect p = absurd (logic_not plan cell p.port (is_above _ p.port (over_above _ p.port p.met)))
  each_output (WriteAt b i) rect p = absurd (is_over _ p.port p.met)
  each_output (MuxAt b c) rect p = absurd (is_over _ p.port p.met)
  each_output (TieAt b c) rect p = absurd (is_over _ p.port p.met)
  each_output (SenseAt b i) rect p = sense_has b i rect p
