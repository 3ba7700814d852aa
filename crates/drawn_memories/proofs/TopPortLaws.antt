-- The pins at ports above channels: what else has none, and where they stand.
use Rattle.std.proofs.Common.{◌≡◌, inl, inr, ◌∙◌, ℕ, zero, suc, ◌*◌, ◌<◌, true, false, ℤ, pos, ◌+ℤ◌, ◌≤ℤ◌, Some, refl, sym, ap, arith}
use Rattle.std.specs.Prelude.{slice_get}
use Rattle.std.proofs.lemmas.Int.{ints}
use Rattle.std.proofs.lemmas.Option.{same_Some}
use Rattle.or_geom.specs.declared.shape.Rect.{Rect}
use Rattle.or_geom.specs.Place.{placed, IsImage}
use Rattle.cell_roles.specs.declared.role.Role.{Role}
use Rattle.cell_roles.specs.declared.role.Role.TheVariants.{Write, Mux, Tie, Inv}
use Rattle.tech_rules.specs.declared.tech.Wire.{Wire}
use Rattle.channel_router.specs.Wires.{channel_height}
use Rattle.sram_netlist.specs.Organization.{Organization, IsWritten, banks_of, columns_of}
use Rattle.sram_netlist.specs.Nets.{Net, Vdd, Gnd, Control, Wen, WenAt, Bl, Br}
use Rattle.sram_netlist.specs.Instances.{LogicCell, MuxAt, TieAt, Wri, Gi, Clki, Pn, Gn}
use Rattle.sram_netlist.specs.Netlist.{row_gate, logic_role, gate_of, enable_inputs, enable_at, enables_of, ports}
use Rattle.std.specs.Prelude.{length, List, [], ◌∷◌}
use Rattle.sram_netlist.specs.Membership.{IsOneOf}
use Rattle.macro_layout.specs.LayoutKit.{LayoutKit}
use Rattle.macro_layout.specs.Places.{Floorplan, columns_x, bit_width, upright}
use Rattle.macro_layout.specs.Floorplan.{Tracks, column_channel_y}
use Rattle.macro_layout.specs.Pins.{column_nets, main_nets}
use Rattle.macro_layout.specs.Channels.{Numbered, MeetsColumnTop}
use Rattle.port_data.specs.Pins.{column_ends}
use Rattle.port_data.proofs.NetLaws.{is_behind, column_net, among, among_muxed}
use Rattle.port_data.proofs.SenseLaws.{never}
use Rattle.port_data.proofs.TopLaws.{line_meets, choice_meets}
use Rattle.route_laws.proofs.NumberLaws.{output_main}
use Rattle.good_places.proofs.LaidLaws.{written_all}
use Rattle.good_wires.specs.Drawn.{IsDrawnMemory}
use Rattle.good_wires.specs.Kept.{IsAmong}
use Rattle.drawn_memories.specs.Ports.{ports_above}
use Rattle.drawn_memories.proofs.PortLaws.{IsLowerPin, IsAbove}
use Rattle.drawn_memories.proofs.StandLaws.{up_at}

-- Which leaf instances have such ports

pub gate_not : (groups : List ℕ) (port : ℕ) → IsAbove (row_gate groups) port → ⊥
gate_not [] port is = is
gate_not (a ∷ []) port is = is
gate_not (a ∷ b ∷ []) port is = is
gate_not (a ∷ b ∷ c ∷ bs) port is = is

pub logic_gate_not : (n port : ℕ) → IsAbove (gate_of n) port → ⊥
logic_gate_not zero port is = is
logic_gate_not (suc zero) port is = is
logic_gate_not (suc (suc zero)) port is = is
logic_gate_not (suc (suc (suc n))) port is = is

pub logic_not : (plan : Organization) (cell : LogicCell) (port : ℕ) → IsAbove (logic_role plan cell) port → ⊥
logic_not plan (Pn o b k) port is = logic_gate_not b port is
logic_not plan (Gn b m) port is = logic_gate_not (length (enable_inputs plan b m)) port is
logic_not plan Clki port is = is
logic_not plan _ port is = is

-- ports of multiplexers and ties in the column channel

never_muxed : (net other : Net) → is_behind net ≡ true → Some other ≡ Some net → is_behind other ≡ false → ⊥
never_muxed net other is same not = let t : true ≡ false = sym is ∙ (ap is_behind (sym (same_Some other net same)) ∙ not) in cc

pub mux_port : (plan : Organization) (c port number : ℕ) (net : Net) → 0 < plan.col_bits → slice_get (column_nets plan) number ≡ Some net → slice_get (ports plan (MuxAt 0 c)) port ≡ Some net → (1 < port) × (port < 5)
mux_port plan c zero number net some at on = absurd (never_muxed net (Bl 0 c) (among_muxed plan number net some (column_net plan number net at)) on refl)
mux_port plan c (suc zero) number net some at on = absurd (never_muxed net (Br 0 c) (among_muxed plan number net some (column_net plan number net at)) on refl)
mux_port plan c (suc (suc zero)) number net some at on = (omega arith, omega arith)
mux_port plan c (suc (suc (suc zero))) number net some at on = (omega arith, omega arith)
mux_port plan c (suc (suc (suc (suc zero)))) number net some at on = (omega arith, omega arith)
mux_port plan c (suc (suc (suc (suc (suc zero))))) number net some at on = absurd (never_muxed net Vdd (among_muxed plan number net some (column_net plan number net at)) on refl)
mux_port plan c (suc (suc (suc (suc (suc (suc zero)))))) number net some at on = absurd (never_muxed net Gnd (among_muxed plan number net some (column_net plan number net at)) on refl)
mux_port plan c (suc (suc (suc (suc (suc (suc (suc port))))))) number net some at on = absurd cc

pub tie_port : (plan : Organization) (c port number : ℕ) (net : Net) → slice_get (column_nets plan) number ≡ Some net → slice_get (ports plan (TieAt 0 c)) port ≡ Some net → port < 2
tie_port plan c zero number net at on = omega arith
tie_port plan c (suc zero) number net at on = omega arith
tie_port plan c (suc (suc zero)) number net at on = absurd (never net Vdd (among plan number net (column_net plan number net at)) on refl)
tie_port plan c (suc (suc (suc zero))) number net at on = absurd (never net Gnd (among plan number net (column_net plan number net at)) on refl)
tie_port plan c (suc (suc (suc (suc port)))) number net at on = absurd cc

-- numbers of the nets of write cells in the main channel

pub enable_main : (plan : Organization) (n masks bank mask : ℕ) → plan.bank_bits ≡ n → plan.masks ≡ masks → IsWritten plan → bank < banks_of plan → mask < enables_of plan → IsOneOf (enable_at n masks bank mask) (main_nets plan)
enable_main plan zero zero bank mask e f w in_bank in_mask = output_main plan Wri (Control Wen) w refl
enable_main plan zero (suc masks) bank mask e f w in_bank in_mask = output_main plan (Gi bank mask) (WenAt bank mask) ((in_bank, in_mask), inr (omega (arith, f))) refl
enable_main plan (suc n) masks bank mask e f w in_bank in_mask = output_main plan (Gi bank mask) (WenAt bank mask) ((in_bank, in_mask), inl (omega (arith, e))) refl

-- pins of what a column ends in, by formula

line_low : (bits : ℕ) (kit : LayoutKit) → 0 < bits → (column_ends bits kit).lo ≡ (kit.pin Mux 2 3).x1
line_low zero kit some = absurd (omega (arith, some))
line_low (suc n) kit some = refl

line_high : (bits : ℕ) (kit : LayoutKit) → 0 < bits → (column_ends bits kit).ro ≡ (kit.pin Mux 3 3).x1
line_high zero kit some = absurd (omega (arith, some))
line_high (suc n) kit some = refl

tie_low : (bits : ℕ) (kit : LayoutKit) → bits ≡ 0 → (column_ends bits kit).lo ≡ (kit.pin Tie 0 3).x1
tie_low zero kit none = refl
tie_low (suc n) kit none = absurd (omega (arith, none))

tie_high : (bits : ℕ) (kit : LayoutKit) → bits ≡ 0 → (column_ends bits kit).ro ≡ (kit.pin Tie 1 3).x1
tie_high zero kit none = refl
tie_high (suc n) kit none = absurd (omega (arith, none))

pub record IsNumberedAt (plan : Organization) (kit : LayoutKit) (f : Floorplan) (x : ℤ) : Type 0 where
  pub number : ℕ
  pub is : Numbered (column_nets plan) (MeetsColumnTop plan kit f) number (x +ℤ columns_x plan kit f)

pub mux_numbered : (plan : Organization) (kit : LayoutKit) (f : Floorplan) (c port : ℕ) → 0 < plan.col_bits → c < columns_of plan → 1 < port → port < 5 → IsNumberedAt plan kit f (pos (c * bit_width kit) +ℤ (kit.pin Mux port 3).x1)
mux_numbered plan kit f c zero some lt a b = absurd (omega (arith, a))
mux_numbered plan kit f c (suc zero) some lt a b = absurd (omega (arith, a))
mux_numbered plan kit f c (suc (suc zero)) some lt a b = record { number = _; is = line_meets plan kit f _ _ (record { column = c; below = lt; is = inl (refl, ap (λ (z : ℤ). pos (c * bit_width kit) +ℤ z) (sym (line_low plan.col_bits kit some))) }) }
mux_numbered plan kit f c (suc (suc (suc zero))) some lt a b = record { number = _; is = line_meets plan kit f _ _ (record { column = c; below = lt; is = inr (refl, ap (λ (z : ℤ). pos (c * bit_width kit) +ℤ z) (sym (line_high plan.col_bits kit some))) }) }
mux_numbered plan kit f c (suc (suc (suc (suc zero)))) some lt a b = record { number = _; is = choice_meets plan kit f _ _ (record { some = some; column = c; below = lt; of_net = refl; at = refl }) }
mux_numbered plan kit f c (suc (suc (suc (suc (suc n))))) some lt a b = absurd (omega (arith, b))

pub tie_numbered : (plan : Organization) (kit : LayoutKit) (f : Floorplan) (c port : ℕ) → plan.col_bits ≡ 0 → c < columns_of plan → port < 2 → IsNumberedAt plan kit f (pos (c * bit_width kit) +ℤ (kit.pin Tie port 3).x1)
tie_numbered plan kit f c zero none lt b = record { number = _; is = line_meets plan kit f _ _ (record { column = c; below = lt; is = inl (refl, ap (λ (z : ℤ). pos (c * bit_width kit) +ℤ z) (sym (tie_low plan.col_bits kit none))) }) }
tie_numbered plan kit f c (suc zero) none lt b = record { number = _; is = line_meets plan kit f _ _ (record { column = c; below = lt; is = inr (refl, ap (λ (z : ℤ). pos (c * bit_width kit) +ℤ z) (sym (tie_high plan.col_bits kit none))) }) }
tie_numbered plan kit f c (suc (suc n)) none lt b = absurd (omega (arith, b))

-- Where such a pin stands, upright

pub record IsLowerAt (kit : LayoutKit) (wire : Wire) (rect : Rect) (x y : ℤ) (r : Role) (port : ℕ) : Type 0 where
  pub left : rect.x1 ≡ (kit.pin r port 3).x1 +ℤ x
  pub wide : rect.x2 ≡ rect.x1 +ℤ wire.width
  pub low : rect.y1 ≡ y

pub stands_lower : (kit : LayoutKit) (wire : Wire) → ((r : Role) (port : ℕ) → IsAmong ports_above r port → IsLowerPin kit wire r port) → (rect : Rect) (x y : ℤ) (r : Role) (port : ℕ) → IsAmong ports_above r port → IsImage (placed (upright x y)) (kit.pin r port 3) rect
    → IsLowerAt kit wire rect x y r port
stands_lower kit wire lower rect x y r port met image =
    let u = up_at x y (kit.pin r port 3) rect image in
    let p = lower r port met in
    record {
      left = u.left;
      wide = let a = u.left in let b = u.right in let c = p.wide in omega (arith, ints, a, b, c);
      low = let a = u.low in let b = p.low in omega (arith, ints, a, b);
    }

-- the sense cells stand on the write cells, and channels reach up to what stands above them
pub sense_stands : (plan : Organization) (kit : LayoutKit) (wire : Wire) (tracks : Tracks) (f : Floorplan) → IsDrawnMemory plan kit wire tracks f → f.sense_y ≡ f.write_y +ℤ pos (kit.height Write)
sense_stands plan kit wire tracks f m = m.stands.sense_y ∙ ap (λ (n : ℕ). f.write_y +ℤ pos n) (written_all plan.write_size (kit.height Write) m.laid.written)

pub main_top : (kit : LayoutKit) (wire : Wire) (low top : ℤ) (n : ℕ) → low ≡ pos (kit.height Inv) → top ≡ pos (kit.height Inv) +ℤ channel_height wire n → low +ℤ channel_height wire n ≡ top
main_top kit wire low top n e z = ap (λ (q : ℤ). q +ℤ channel_height wire n) e ∙ sym z

pub column_reaches : (plan : Organization) (kit : LayoutKit) (wire : Wire) (tracks : Tracks) (f : Floorplan) → IsDrawnMemory plan kit wire tracks f → (low : ℤ) → low ≡ column_channel_y kit f → low +ℤ channel_height wire tracks.column ≡ f.column_y
column_reaches plan kit wire tracks f m low e = ap (λ (q : ℤ). q +ℤ channel_height wire tracks.column) e ∙ sym m.stands.column_y

-- Sums

pub long_by : (y w s top edge : ℤ) → ((y +ℤ w) +ℤ s) ≤ℤ top → top ≡ edge → (y +ℤ (s +ℤ w)) ≤ℤ edge
long_by y w s top edge le e = omega (arith, ints, le, e)

pub none_more : (z : ℤ) → z ≡ z +ℤ pos 0
none_more z = omega (arith, ints)

pub moves : (p c z o x y : ℤ) → z ≡ pos 0 → x ≡ p +ℤ (c +ℤ z) → y ≡ p +ℤ (c +ℤ o) → x +ℤ o ≡ y
moves p c z o x y e a b = omega (arith, ints, e, a, b)

pub wide_to : (x w o y : ℤ) → x +ℤ o ≡ y → (x +ℤ w) +ℤ o ≡ y +ℤ w
wide_to x w o y e = omega (arith, ints, e)
