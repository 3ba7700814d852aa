-- The wires of the second metal are the branches of the ports below channels, and trunks.
use Rattle.std.proofs.Common.{◌≡◌, ◌⊎◌, inl, inr, ◌∙◌, ℕ, zero, suc, ◌+◌, ◌*◌, ◌<◌, ℤ, pos, ◌+ℤ◌, ◌*ℤ◌, ◌≤ℤ◌, List, [], ◌∷◌, length, Some, refl, sym, ap, subst, arith}
use Rattle.std.specs.Prelude.{slice_get, slice_index}
use Rattle.std.proofs.lemmas.Int.{ints}
use Rattle.or_geom.specs.declared.shape.Rect.{Rect}
use Rattle.or_geom.specs.declared.shape.Shape.{Shape}
use Rattle.or_geom.specs.declared.place.Place.{Place}
use Rattle.or_geom.specs.Place.{placed, IsImage}
use Rattle.cell_roles.specs.declared.role.Role.{Role}
use Rattle.cell_roles.specs.declared.role.Role.TheVariants.{Sense, Inv}
use Rattle.tech_rules.specs.declared.tech.Wire.{Wire}
use Rattle.wire_drawing.specs.Drawing.{IsBox}
use Rattle.channel_router.specs.Wires.{IsOfNet, IsWireOf, channel_height, track_y}
use Rattle.sram_netlist.specs.Organization.{Organization, IsBuildable, banks_of, words_per_row}
use Rattle.sram_netlist.specs.Nets.{Net, Vdd, Gnd, Dout}
use Rattle.sram_netlist.specs.Instances.{LogicCell, LeafInstance, BitAt, NandAt, DriverAt, PrechargeAt, WriteAt, SenseAt, MuxAt, TieAt, LogicAt, Clki, Pn, Gn}
use Rattle.sram_netlist.specs.Netlist.{row_gate, logic_role, gate_of, enable_inputs, lo_net, ro_net, sen_at, ports, logic_cell_ports}
use Rattle.macro_layout.specs.LayoutKit.{LayoutKit}
use Rattle.macro_layout.specs.Places.{Floorplan, bank_x, column_x, total_width, upright}
use Rattle.macro_layout.specs.Floorplan.{Tracks}
use Rattle.macro_layout.specs.Pins.{column_nets, main_nets}
use Rattle.macro_layout.specs.Channels.{IsColumnChannel, IsMainChannel, IsPinFrom}
use Rattle.macro_layout.specs.Wires.{IsBar, IsWireInBank, trunk_x}
use Rattle.macro_layout.specs.Stated.{IsShifted}
use Rattle.macro_layout.proofs.RoutingLaws.{below_length}
use Rattle.main_channel.proofs.NetLaws.{not_vdd, not_gnd}
use Rattle.main_channel.proofs.PortLaws.{which_port}
use Rattle.memory_laws.proofs.Decode.{twice_some}
use Rattle.port_data.proofs.NetLaws.{column_net, among, lo_numbered, ro_numbered}
use Rattle.port_data.proofs.SenseLaws.{never}
use Rattle.row_nets.proofs.SizedLaws.{leaf_sized}
use Rattle.sram_macro.specs.Stated.{TakesTracks}
use Rattle.sram_netlist.proofs.InstanceLists.{place_in}
use Rattle.route_laws.proofs.NumberLaws.{ports_main}
use Rattle.good_wires.specs.Drawn.{IsDrawnMemory, IsDrawnWire}
use Rattle.good_wires.specs.Branches.{IsPlacedPin, IsBottomBranch, HasBottomBranches}
use Rattle.good_wires.specs.Kept.{IsAmong}
use Rattle.good_wires.proofs.LayerLaws.{metals_differ, cut_no_metal}
use Rattle.good_wires.proofs.LevelLaws.{track_above, track_below}
use Rattle.drawn_memories.specs.Ports.{ports_below}
use Rattle.drawn_memories.proofs.PortLaws.{IsUpperPin, IsBelow, IsSignal, is_below, below_listed}
use Rattle.drawn_memories.proofs.StandLaws.{zero_times, up_at, image_there, shift_there, box_shifted, box_as, up_there}

-- Which leaf instances have such ports

gate_not : (groups : List ℕ) (port : ℕ) → IsBelow (row_gate groups) port → ⊥
gate_not [] port is = is
gate_not (a ∷ []) port is = is
gate_not (a ∷ b ∷ []) port is = is
gate_not (a ∷ b ∷ c ∷ bs) port is = is

gate_signal : (n port : ℕ) → IsBelow (gate_of n) port → IsSignal (gate_of n) port
gate_signal zero port is = is
gate_signal (suc zero) port is = is
gate_signal (suc (suc zero)) port is = is
gate_signal (suc (suc (suc n))) port is = is

logic_signal : (plan : Organization) (cell : LogicCell) (port : ℕ) → IsBelow (logic_role plan cell) port → IsSignal (logic_role plan cell) port
logic_signal plan (Pn o b k) port is = gate_signal b port is
logic_signal plan (Gn b m) port is = gate_signal (length (enable_inputs plan b m)) port is
logic_signal plan Clki port is = is
logic_signal plan _ port is = is

gate_back : (n port : ℕ) → IsSignal (gate_of n) port → IsBelow (gate_of n) port
gate_back zero port is = is
gate_back (suc zero) port is = is
gate_back (suc (suc zero)) port is = is
gate_back (suc (suc (suc n))) port is = is

logic_back : (plan : Organization) (cell : LogicCell) (port : ℕ) → IsSignal (logic_role plan cell) port → IsBelow (logic_role plan cell) port
logic_back plan (Pn o b k) port is = gate_back b port is
logic_back plan (Gn b m) port is = gate_back (length (enable_inputs plan b m)) port is
logic_back plan Clki port is = is
logic_back plan _ port is = is

-- a port of a sense cell in the column channel
sense_line : (plan : Organization) (i port number : ℕ) (net : Net) → slice_get (column_nets plan) number ≡ Some net → slice_get (ports plan (SenseAt 0 i)) port ≡ Some net → port < 2
sense_line plan i zero number net at on = omega arith
sense_line plan i (suc zero) number net at on = omega arith
sense_line plan i (suc (suc zero)) number net at on = absurd (never net (Dout i) (among plan number net (column_net plan number net at)) on refl)
sense_line plan i (suc (suc (suc zero))) number net at on = absurd (enable plan.bank_bits refl) where
  enable : (n : ℕ) → plan.bank_bits ≡ n → ⊥
  enable n e = by n (subst (λ (m : ℕ). Some (sen_at m 0) ≡ Some net) e on) where
    by : (n : ℕ) → Some (sen_at n 0) ≡ Some net → ⊥
    by zero on = never net (sen_at 0 0) (among plan number net (column_net plan number net at)) on refl
    by (suc n) on = never net (sen_at (suc n) 0) (among plan number net (column_net plan number net at)) on refl
sense_line plan i (suc (suc (suc (suc zero)))) number net at on = absurd (never net Vdd (among plan number net (column_net plan number net at)) on refl)
sense_line plan i (suc (suc (suc (suc (suc zero))))) number net at on = absurd (never net Gnd (among plan number net (column_net plan number net at)) on refl)
sense_line plan i (suc (suc (suc (suc (suc (suc port)))))) number net at on = absurd cc

record HasNumber (plan : Organization) (i port : ℕ) : Type 0 where
  net : Net
  number : ℕ
  on : slice_get (ports plan (SenseAt 0 i)) port ≡ Some net
  at : slice_get (column_nets plan) number ≡ Some net

sense_numbered : (plan : Organization) (i port : ℕ) → i < plan.word_size → port < 2 → HasNumber plan i port
sense_numbered plan i zero lt below = record { net = lo_net plan.col_bits 0 i; number = _; on = refl; at = lo_numbered plan i lt }
sense_numbered plan i (suc zero) lt below = record { net = ro_net plan.col_bits 0 i; number = _; on = refl; at = ro_numbered plan i lt }
sense_numbered plan i (suc (suc port)) lt below = absurd (omega (arith, below))

module _ (plan : Organization) (kit : LayoutKit) (wire : Wire) (tracks : Tracks) (f : Floorplan) (m : IsDrawnMemory plan kit wire tracks f) (built : IsBuildable plan) (main : TakesTracks (IsMainChannel plan kit wire f) wire tracks.main)
    (column : TakesTracks (IsColumnChannel plan kit wire f) wire tracks.column) (upper : (r : Role) (port : ℕ) → IsAmong ports_below r port → IsUpperPin kit wire r port) where
  abbrev Met : Role → ℕ → Type 0
  Met = IsAmong ports_below

  abbrev metal : ℕ → ℕ
  metal k = slice_index wire.metals k

  abbrev offset : ℕ → ℤ
  offset b = pos b *ℤ f.bank_width

  -- where the pin stands, upright
  record IsUpperAt (rect : Rect) (x y : ℤ) (r : Role) (port : ℕ) : Type 0 where
    left : rect.x1 ≡ (kit.pin r port 1).x1 +ℤ x
    wide : rect.x2 ≡ rect.x1 +ℤ wire.width
    high : rect.y2 ≡ pos (kit.height r) +ℤ y

  upper_at : (rect : Rect) (x y : ℤ) (r : Role) (port : ℕ) → Met r port → IsImage (placed (upright x y)) (kit.pin r port 1) rect → IsUpperAt rect x y r port
  upper_at rect x y r port met image =
      let u = up_at x y (kit.pin r port 1) rect image in
      let p = upper r port met in
      record {
        left = u.left;
        wide = let a = u.left in let b = u.right in let c = p.wide in omega (arith, ints, a, b, c);
        high = u.high ∙ ap (λ (z : ℤ). z +ℤ y) p.high;
      }

  all_wide : (leaf : LeafInstance) (rect : Rect) → IsPlacedPin Met 1 plan kit f leaf rect → rect.x2 ≡ rect.x1 +ℤ wire.width
  all_wide (BitAt b r c) rect p = absurd (is_below _ p.port p.met)
  all_wide (NandAt b r) rect p = absurd (gate_not plan.groups p.port (is_below _ p.port p.met))
  all_wide (DriverAt b r) rect p = absurd (is_below _ p.port p.met)
  all_wide (PrechargeAt b c) rect p = absurd (is_below _ p.port p.met)
  all_wide (WriteAt b i) rect p = absurd (is_below _ p.port p.met)
  all_wide (MuxAt b c) rect p = absurd (is_below _ p.port p.met)
  all_wide (TieAt b c) rect p = absurd (is_below _ p.port p.met)
  all_wide (SenseAt b i) rect p = (upper_at rect (bank_x f b (column_x plan kit f (i * words_per_row plan))) f.sense_y Sense p.port p.met (subst (λ (q : Place). IsImage (placed q) (kit.pin Sense p.port 1) rect) p.stands p.image)).wide
  all_wide (LogicAt cell) rect p =
      (upper_at rect (f.logic_x +ℤ pos (total_width plan kit p.stands.before)) (pos 0) (logic_role plan cell) p.port p.met (subst (λ (q : Place). IsImage (placed q) (kit.pin (logic_role plan cell) p.port 1) rect) p.stands.at p.image)).wide

  -- Each such pin has its branch.

  HasItsBranch : Rect → Type 0
  HasItsBranch rect = (s : Shape) × IsDrawnWire plan kit wire tracks f s × (y : ℤ) × IsBox (slice_index wire.metals 1) rect.x1 rect.y2 (rect.x1 +ℤ wire.width) y s × ((rect.y2 +ℤ (wire.space +ℤ wire.width)) ≤ℤ y)

  long_by : (low y w s e : ℤ) → (low +ℤ s) ≤ℤ y → e ≡ low → (e +ℤ (s +ℤ w)) ≤ℤ (y +ℤ w)
  long_by low y w s e le at = omega (arith, ints, le, at)

  sense_has : (b i : ℕ) (rect : Rect) → IsPlacedPin Met 1 plan kit f (SenseAt b i) rect → HasItsBranch rect
  unfolding HasItsBranch
  sense_has b i rect p =
      let c = column_x plan kit f (i * words_per_row plan) in
      let port = p.port in
      let u = upper_at rect (bank_x f b c) f.sense_y Sense port p.met (subst (λ (q : Place). IsImage (placed q) (kit.pin Sense port 1) rect) p.stands p.image) in
      let number = sense_numbered plan i port p.has.1 (is_below Sense port p.met) in
      let first = image_there (bank_x f 0 c) f.sense_y (kit.pin Sense port 1) in
      let v = up_at (bank_x f 0 c) f.sense_y (kit.pin Sense port 1) first.0 first.1 in
      let from : IsPinFrom plan kit f (SenseAt 0 i) port 1 number.net first.0.x1 = record { rect = first.0; is = record { has = (twice_some plan.bank_bits, p.has.1); on = number.on; place = upright (bank_x f 0 c) f.sense_y; stands = refl; image = first.1 }; begins = refl } in
      let pin = (column.routed.meant.bottom number.number first.0.x1).1 (number.net, number.at, (i, port, from)) in
      let lt = below_length (column_nets plan) number.number number.net number.at in
      let nets = column.routed.meant.nets in
      let branch = up_there (IsColumnChannel plan kit wire f) wire m.laid.sizes tracks.column column number.number first.0.x1 (omega (arith, lt, nets)) pin in
      let shifted = shift_there (offset b) (pos 0) branch.has.shape in
      let box = box_shifted (offset b) (metal 1) first.0.x1 column.channel.low (first.0.x1 +ℤ wire.width) (track_y column.channel.low wire branch.on +ℤ wire.width) branch.has.shape shifted.0 shifted.1 branch.has.drawn in
      let x = moves (kit.pin Sense port 1).x1 c (offset 0) (offset b) first.0.x1 rect.x1 (zero_times f.bank_width) v.left u.left in
      let y : column.channel.low ≡ rect.y2 = column.routed.meant.low ∙ top f.sense_y (kit.height Sense) rect.y2 u.high in
      let over = track_above column.channel.low wire branch.on m.laid.sizes in (
        shifted.0,
        inr (record { bank = b; below = p.has.0; inner = branch.has.shape; is = inl branch.has.is; shifted = shifted.1 }),
        track_y column.channel.low wire branch.on +ℤ wire.width,
        box_as (metal 1) _ _ _ _ rect.x1 rect.y2 (rect.x1 +ℤ wire.width) (track_y column.channel.low wire branch.on +ℤ wire.width) shifted.0 x y (wide_as first.0.x1 wire.width (offset b) rect.x1 x) refl box,
        long_by column.channel.low (track_y column.channel.low wire branch.on) wire.width wire.space rect.y2 over (sym y),
      )
    where
      moves : (p c z o x y : ℤ) → z ≡ pos 0 → x ≡ p +ℤ (c +ℤ z) → y ≡ p +ℤ (c +ℤ o) → x +ℤ o ≡ y
      moves p c z o x y e a b = omega (arith, ints, e, a, b)

      wide_as : (x w o y : ℤ) → x +ℤ o ≡ y → (x +ℤ w) +ℤ o ≡ y +ℤ w
      wide_as x w o y e = omega (arith, ints, e)

      top : (s : ℤ) (h : ℕ) (y : ℤ) → y ≡ pos h +ℤ s → s +ℤ pos h ≡ y
      top s h y e = omega (arith, ints, e)

  logic_has : (cell : LogicCell) (rect : Rect) → IsPlacedPin Met 1 plan kit f (LogicAt cell) rect → HasItsBranch rect
  unfolding HasItsBranch
  logic_has cell rect p =
      let port = p.port in
      let u = upper_at rect (f.logic_x +ℤ pos (total_width plan kit p.stands.before)) (pos 0) (logic_role plan cell) port p.met (subst (λ (q : Place). IsImage (placed q) (kit.pin (logic_role plan cell) port 1) rect) p.stands.at p.image) in
      let signal = logic_signal plan cell port (is_below (logic_role plan cell) port p.met) in
      let sized = leaf_sized plan (LogicAt cell) built p.has in
      let below : port + 2 < length (logic_cell_ports plan cell) = omega (arith, signal, sized) in
      let net = net_at (logic_cell_ports plan cell) port (omega (arith, below)) in
      let number = place_in net.0 (main_nets plan) ((ports_main plan cell m.laid.written p.has).each port net.0 net.1 below) in
      let from : IsPinFrom plan kit f (LogicAt cell) port 1 net.0 rect.x1 = record { rect = rect; is = record { has = p.has; on = net.1; place = p.place; stands = p.stands; image = p.image }; begins = refl } in
      let pin = (main.routed.meant.bottom number.0 rect.x1).1 (net.0, number.1, (cell, port, from)) in
      let lt = below_length (main_nets plan) number.0 net.0 number.1 in
      let nets = main.routed.meant.nets in
      let branch = up_there (IsMainChannel plan kit wire f) wire m.laid.sizes tracks.main main number.0 rect.x1 (omega (arith, lt, nets)) pin in
      let y : main.channel.low ≡ rect.y2 = main.routed.meant.low ∙ top (kit.height (logic_role plan cell)) (kit.height Inv) rect.y2 (m.laid.fits.logic cell) u.high in
      let over = track_above main.channel.low wire branch.on m.laid.sizes in (
        branch.has.shape,
        inl (inl branch.has.is),
        track_y main.channel.low wire branch.on +ℤ wire.width,
        box_as (metal 1) _ _ _ _ rect.x1 rect.y2 (rect.x1 +ℤ wire.width) (track_y main.channel.low wire branch.on +ℤ wire.width) branch.has.shape refl y refl refl branch.has.drawn,
        long_by main.channel.low (track_y main.channel.low wire branch.on) wire.width wire.space rect.y2 over (sym y),
      )
    where
      net_at : (ns : List Net) (k : ℕ) → k < length ns → (n : Net) × (slice_get ns k ≡ Some n)
      net_at [] k lt = absurd (omega (arith, lt))
      net_at (n ∷ ns) zero lt = (n, refl)
      net_at (n ∷ ns) (suc k) lt = net_at ns k (omega (arith, lt))

      top : (h k : ℕ) (y : ℤ) → h ≡ k → y ≡ pos h +ℤ pos 0 → pos k ≡ y
      top h k y e at = omega (arith, ints, e, at)

  each_has : (leaf : LeafInstance) (rect : Rect) → IsPlacedPin Met 1 plan kit f leaf rect → HasItsBranch rect
  each_has (BitAt b r c) rect p = absurd (is_below _ p.port p.met)
  each_has (NandAt b r) rect p = absurd (gate_not plan.groups p.port (is_below _ p.port p.met))
  each_has (DriverAt b r) rect p = absurd (is_below _ p.port p.met)
  each_has (PrechargeAt b c) rect p = absurd (is_below _ p.port p.met)
  each_has (WriteAt b i) rect p = absurd (is_below _ p.port p.met)
  each_has (MuxAt b c) rect p = absurd (is_below _ p.port p.met)
  each_has (TieAt b c) rect p = absurd (is_below _ p.port p.met)
  each_has (SenseAt b i) rect p = sense_has b i rect p
  each_has (LogicAt cell) rect p = logic_has cell rect p

  -- Each wire is one of these, or a trunk.

  no_metal : (k n : ℕ) → k < 4 → (k ≡ 1 → ⊥) → n ≡ metal k → n ≡ metal 1 → ⊥
  no_metal k n lt other e z = metals_differ wire k 1 m.seven lt (omega arith) other (sym e ∙ z)

  no_cut : (k n : ℕ) → k < 3 → n ≡ slice_index wire.cuts k → n ≡ metal 1 → ⊥
  no_cut k n lt e z = cut_no_metal wire k 1 m.seven lt (omega arith) (sym e ∙ z)

  main_kind : (s : Shape) → s.layer ≡ metal 1 → (net : ℕ) → IsOfNet m.main.channel wire m.main.intervals m.main.track tracks.main net s → IsBottomBranch Met plan kit wire f s
  main_kind s on number is = by is.wires where
    by : IsWireOf m.main.channel wire tracks.main number is.interval is.t s → IsBottomBranch Met plan kit wire f s
    by (inl trunk) = absurd (no_metal 2 s.layer (omega arith) (λ e. omega (arith, e)) trunk.on on)
    by (inr (inl (x, p, inl box))) = absurd (no_metal 3 s.layer (omega arith) (λ e. omega (arith, e)) box.on on)
    by (inr (inl (x, p, inr via))) = absurd (no_cut 2 s.layer (omega arith) via.on on)
    by (inr (inr (x, p, inr via))) = absurd (no_cut 1 s.layer (omega arith) via.on on)
    by (inr (inr (x, p, inl box))) =
        let meets = (m.main.meant.bottom number x).0 p in
        at meets.2.0 meets.2.1 meets.0 x meets.1 meets.2.2 box
      where
        at : (cell : LogicCell) (port : ℕ) (net : Net) (x : ℤ) → slice_get (main_nets plan) number ≡ Some net → (p : IsPinFrom plan kit f (LogicAt cell) port 1 net x)
            → IsBox (metal 1) x m.main.channel.low (x +ℤ wire.width) (track_y m.main.channel.low wire is.t +ℤ wire.width) s → IsBottomBranch Met plan kit wire f s
        at cell port net x numbered p box =
            let sized = leaf_sized plan (LogicAt cell) built p.is.has in
            let below : port + 2 < length (logic_cell_ports plan cell) = elim (which_port plan cell port net p.is.on) [
              | inl lt ↦ lt
              | inr (inl e) ↦ absurd (not_vdd plan number (numbered ∙ ap (λ (n : Net). Some n) e))
              | inr (inr e) ↦ absurd (not_gnd plan number (numbered ∙ ap (λ (n : Net). Some n) e))
            ] in
            let met = below_listed (logic_role plan cell) port (logic_back plan cell port (omega (arith, below, sized))) in
            let u = upper_at p.rect (f.logic_x +ℤ pos (total_width plan kit p.is.stands.before)) (pos 0) (logic_role plan cell) port met (subst (λ (q : Place). IsImage (placed q) (kit.pin (logic_role plan cell) port 1) p.rect) p.is.stands.at p.is.image) in
            let low : m.main.channel.low ≡ p.rect.y2 = m.main.meant.low ∙ top (kit.height (logic_role plan cell)) (kit.height Inv) p.rect.y2 (m.laid.fits.logic cell) u.high in
            let over = track_above m.main.channel.low wire is.t m.laid.sizes in
            let under = track_below m.main.channel.low f.write_y wire is.t tracks.main m.laid.sizes (m.main.count.below number is.t is.has.on) (m.stands.write_y ∙ ap (λ (z : ℤ). z +ℤ channel_height wire tracks.main) (sym m.main.meant.low)) in
            record {
              leaf = LogicAt cell;
              rect = p.rect;
              pin = record { port = port; met = met; place = p.is.place; has = p.is.has; stands = p.is.stands; image = p.is.image };
              y = track_y m.main.channel.low wire is.t +ℤ wire.width;
              drawn = box_as (metal 1) _ _ _ _ p.rect.x1 p.rect.y2 (p.rect.x1 +ℤ wire.width) _ s p.begins low (ap (λ (z : ℤ). z +ℤ wire.width) p.begins) refl box;
              long = long_by m.main.channel.low (track_y m.main.channel.low wire is.t) wire.width wire.space p.rect.y2 over (sym low);
              kind = inl (sym low ∙ m.main.meant.low, under);
            }
          where
            top : (h k : ℕ) (y : ℤ) → h ≡ k → y ≡ pos h +ℤ pos 0 → pos k ≡ y
            top h k y e at = omega (arith, ints, e, at)

  column_kind : (b : ℕ) (inner s : Shape) → b < banks_of plan → IsShifted (offset b) (pos 0) inner s → s.layer ≡ metal 1 → (net : ℕ) → IsOfNet m.column.channel wire m.column.intervals m.column.track tracks.column net inner → IsBottomBranch Met plan kit wire f s
  column_kind b inner s in_banks sh on number is = by is.wires where
    on_inner : inner.layer ≡ metal 1
    on_inner = sym sh.layer ∙ on

    by : IsWireOf m.column.channel wire tracks.column number is.interval is.t inner → IsBottomBranch Met plan kit wire f s
    by (inl trunk) = absurd (no_metal 2 inner.layer (omega arith) (λ e. omega (arith, e)) trunk.on on_inner)
    by (inr (inl (x, p, inl box))) = absurd (no_metal 3 inner.layer (omega arith) (λ e. omega (arith, e)) box.on on_inner)
    by (inr (inl (x, p, inr via))) = absurd (no_cut 2 inner.layer (omega arith) via.on on_inner)
    by (inr (inr (x, p, inr via))) = absurd (no_cut 1 inner.layer (omega arith) via.on on_inner)
    by (inr (inr (x, p, inl box))) =
        let meets = (m.column.meant.bottom number x).0 p in
        at meets.2.0 meets.2.1 meets.0 x meets.1 meets.2.2 box
      where
        at : (i port : ℕ) (net : Net) (x : ℤ) → slice_get (column_nets plan) number ≡ Some net → (p : IsPinFrom plan kit f (SenseAt 0 i) port 1 net x)
            → IsBox (metal 1) x m.column.channel.low (x +ℤ wire.width) (track_y m.column.channel.low wire is.t +ℤ wire.width) inner → IsBottomBranch Met plan kit wire f s
        at i port net x numbered p box =
            let c = column_x plan kit f (i * words_per_row plan) in
            let met = below_listed Sense port (sense_line plan i port number net numbered p.is.on) in
            let there = image_there (bank_x f b c) f.sense_y (kit.pin Sense port 1) in
            let u = upper_at there.0 (bank_x f b c) f.sense_y Sense port met there.1 in
            let v = up_at (bank_x f 0 c) f.sense_y (kit.pin Sense port 1) p.rect (subst (λ (q : Place). IsImage (placed q) (kit.pin Sense port 1) p.rect) p.is.stands p.is.image) in
            let e = moves (kit.pin Sense port 1).x1 c (offset 0) (offset b) x p.rect.x1 there.0.x1 (zero_times f.bank_width) p.begins v.left u.left in
            let low : m.column.channel.low ≡ there.0.y2 = m.column.meant.low ∙ top f.sense_y (kit.height Sense) there.0.y2 u.high in
            let over = track_above m.column.channel.low wire is.t m.laid.sizes in
            let under = track_below m.column.channel.low f.column_y wire is.t tracks.column m.laid.sizes (m.column.count.below number is.t is.has.on) (m.stands.column_y ∙ ap (λ (z : ℤ). z +ℤ channel_height wire tracks.column) (sym m.column.meant.low)) in
            record {
              leaf = SenseAt b i;
              rect = there.0;
              pin = record { port = port; met = met; place = upright (bank_x f b c) f.sense_y; has = (in_banks, p.is.has.1); stands = refl; image = there.1 };
              y = track_y m.column.channel.low wire is.t +ℤ wire.width;
              drawn = box_as (metal 1) _ _ _ _ there.0.x1 there.0.y2 (there.0.x1 +ℤ wire.width) _ s e low (wide_as x wire.width (offset b) there.0.x1 e) refl
                  (box_shifted (offset b) (metal 1) x m.column.channel.low (x +ℤ wire.width) (track_y m.column.channel.low wire is.t +ℤ wire.width) inner s sh box);
              long = long_by m.column.channel.low (track_y m.column.channel.low wire is.t) wire.width wire.space there.0.y2 over (sym low);
              kind = inr (sym low ∙ m.column.meant.low, under);
            }
          where
            moves : (p c z o x r y : ℤ) → z ≡ pos 0 → x ≡ r → r ≡ p +ℤ (c +ℤ z) → y ≡ p +ℤ (c +ℤ o) → x +ℤ o ≡ y
            moves p c z o x r y e g a b = omega (arith, ints, e, g, a, b)

            wide_as : (x w o y : ℤ) → x +ℤ o ≡ y → (x +ℤ w) +ℤ o ≡ y +ℤ w
            wide_as x w o y e = omega (arith, ints, e)

            top : (s : ℤ) (h : ℕ) (y : ℤ) → y ≡ pos h +ℤ s → s +ℤ pos h ≡ y
            top s h y e = omega (arith, ints, e)

  bank_kind : (b : ℕ) (inner s : Shape) → b < banks_of plan → IsShifted (offset b) (pos 0) inner s → s.layer ≡ metal 1 → IsWireInBank plan kit wire tracks f inner → IsBottomBranch Met plan kit wire f s
  bank_kind b inner s below sh on (inl channel) = let n = m.column.each inner channel in column_kind b inner s below sh on n.0 n.1
  bank_kind b inner s below sh on (inr (inl tap)) = elim tap.drawn [
    | inl box ↦ absurd (no_metal 2 s.layer (omega arith) (λ e. omega (arith, e)) (sh.layer ∙ box.on) on)
    | inr via ↦ absurd (no_cut 2 s.layer (omega arith) (sh.layer ∙ via.on) on)
  ]
  bank_kind b inner s below sh on (inr (inr (inl rail))) = absurd (no_metal 3 s.layer (omega arith) (λ e. omega (arith, e)) (sh.layer ∙ rail.drawn.on) on)
  bank_kind b inner s below sh on (inr (inr (inr (inl out)))) = absurd (no_metal 3 s.layer (omega arith) (λ e. omega (arith, e)) (sh.layer ∙ out.drawn.on) on)
  bank_kind b inner s below sh on (inr (inr (inr (inr (inl joiner))))) = absurd (no_metal 0 s.layer (omega arith) (λ e. omega (arith, e)) (sh.layer ∙ joiner.1.on) on)
  bank_kind b inner s below sh on (inr (inr (inr (inr (inr joiner))))) = absurd (no_metal 0 s.layer (omega arith) (λ e. omega (arith, e)) (sh.layer ∙ joiner.on) on)

  bar_elsewhere : (trunk x y : ℤ) (s : Shape) → s.layer ≡ metal 1 → IsBar wire trunk x y s → ⊥
  bar_elsewhere trunk x y s on (inl box) = no_metal 0 s.layer (omega arith) (λ e. omega (arith, e)) box.on on
  bar_elsewhere trunk x y s on (inr via) = no_cut 0 s.layer (omega arith) via.on on

  from_trunk : (x t w s : ℤ) → x ≡ t +ℤ (w +ℤ s) → pos 1 ≤ℤ w → pos 1 ≤ℤ s → t ≤ℤ x
  from_trunk x t w s e a b = omega (arith, ints, e, a, b)

  which : (s : Shape) → IsDrawnWire plan kit wire tracks f s → s.layer ≡ metal 1 → (trunk_x plan kit wire f ≤ℤ s.rect.x1) ⊎ IsBottomBranch Met plan kit wire f s
  which s (inl (inl channel)) on = let n = m.main.each s channel in inr (main_kind s on n.0 n.1)
  which s (inl (inr (inl (inl trunk)))) on = inl (let e = trunk.left in omega (arith, ints, e))
  which s (inl (inr (inl (inr (x, y, at, bar))))) on = absurd (bar_elsewhere _ x y s on bar)
  which s (inl (inr (inr (inl trunk)))) on = inl (from_trunk s.rect.x1 (trunk_x plan kit wire f) wire.width wire.space trunk.left m.laid.sizes.width.from m.laid.sizes.space.from)
  which s (inl (inr (inr (inr (x, y, at, bar))))) on = absurd (bar_elsewhere _ x y s on bar)
  which s (inr banks) on = inr (bank_kind banks.bank banks.inner s banks.below banks.shifted on banks.is)

  pub bottom_branches : HasBottomBranches (IsAmong ports_below) plan kit wire tracks f
  unfolding HasItsBranch
  bottom_branches = record { wide = all_wide; to = which; from = each_has }
