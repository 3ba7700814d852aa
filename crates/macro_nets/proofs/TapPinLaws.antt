-- The four kinds of pins with taps: row gates' inputs, drivers' enables, and the enables of sense and of precharge cells.
use Rattle.std.proofs.Common.{◌≡◌, ◌⊎◌, inl, inr, ℕ, zero, suc, ◌+◌, ◌*◌, ◌<◌, ◌≤◌, ℤ, pos, ◌≤ℤ◌, ◌+ℤ◌, List, [], ◌∷◌, ◌++◌, length, Some, refl, sym, ap, subst, arith}
use Rattle.std.specs.Prelude.{slice_get}
use Rattle.std.proofs.Math.Nat.{mul-le-mul_right}
use Rattle.std.proofs.lemmas.Int.{ints}
use Rattle.or_geom.specs.declared.shape.Shape.{Shape}
use Rattle.or_geom.specs.declared.place.Place.{Place}
use Rattle.cell_roles.specs.declared.role.Role.TheVariants.{Precharge, Sense, Driver}
use Rattle.tech_rules.specs.declared.tech.Tech.{Tech}
use Rattle.cell_hierarchy.specs.Plain.{FlatLists}
use Rattle.leaf_shapes.specs.declared.demand.Metal.TheVariants.{M3}
use Rattle.leaf_shapes.specs.declared.fit.Fit.TheVariants.{Anywhere}
use Rattle.sram_netlist.specs.Organization.{columns_of, banks_of, words_per_row}
use Rattle.sram_netlist.specs.Nets.{Net, Clkb, Control, Zb}
use Rattle.sram_netlist.specs.Instances.{NandAt, DriverAt, PrechargeAt, SenseAt}
use Rattle.sram_netlist.specs.Netlist.{row_gate, row_lines, wlen_at, sen_at, supply_nets, high_bits}
use Rattle.sram_netlist.specs.Membership.{HasLeafInstance}
use Rattle.macro_layout.specs.Places.{IsPlaceOf, columns_x, column_x, drive_width, gate_width, bit_width}
use Rattle.macro_layout.specs.Pins.{main_nets}
use Rattle.joined_nets.specs.WireNets.{in_bank}
use Rattle.joined_nets.proofs.WireNetLaws.{place_below}
use Rattle.kit_nets.specs.StatedParts.{Source}
use Rattle.kit_nets.specs.Hubs.{IsPortJoined}
use Rattle.kit_nets.specs.RolePins.{IsDemand}
use Rattle.kit_nets.proofs.ChannelDrawnLaws.{IsOfMain}
use Rattle.kit_nets.proofs.PinJoinLaws.{standing}
use Rattle.supply_nets.specs.LaidMacro.{IsLaidMacro}
use Rattle.supply_nets.proofs.LevelLaws.{write_under_sense, write_under_precharge}
use Rattle.wire_nets.proofs.NamedLaws.{wlen_in, sen_in}
use Rattle.good_wires.specs.Held.{DoRailsReach}
use Rattle.macro_nets.proofs.RailNumberLaws.{row_line, line_rail, wlen_rail, sen_rail, clock_rail}
use Rattle.macro_nets.proofs.TapLaws.{row_pin_joined, upright_pin_joined}

-- the inputs of a row's gate
gate_demand : (groups : List ℕ) (port : ℕ) → (length groups ≡ 2) ⊎ (length groups ≡ 3) → port < length groups → IsDemand (row_gate groups) port M3 Anywhere
gate_demand [] port e lt = absurd (omega (arith, lt))
gate_demand (a ∷ []) port (inl e) lt = absurd (omega (arith, e))
gate_demand (a ∷ []) port (inr e) lt = absurd (omega (arith, e))
gate_demand (a ∷ b ∷ []) zero e lt = record { place = 0; name = _; there = refl; named = refl }
gate_demand (a ∷ b ∷ []) (suc zero) e lt = record { place = 1; name = _; there = refl; named = refl }
gate_demand (a ∷ b ∷ []) (suc (suc port)) e lt = absurd (omega (arith, lt))
gate_demand (a ∷ b ∷ c ∷ []) zero e lt = record { place = 0; name = _; there = refl; named = refl }
gate_demand (a ∷ b ∷ c ∷ []) (suc zero) e lt = record { place = 1; name = _; there = refl; named = refl }
gate_demand (a ∷ b ∷ c ∷ []) (suc (suc zero)) e lt = record { place = 2; name = _; there = refl; named = refl }
gate_demand (a ∷ b ∷ c ∷ []) (suc (suc (suc port))) e lt = absurd (omega (arith, lt))
gate_demand (a ∷ b ∷ c ∷ d ∷ gs) port (inl e) lt = absurd (omega (arith, e))
gate_demand (a ∷ b ∷ c ∷ d ∷ gs) port (inr e) lt = absurd (omega (arith, e))

pub lines_long : (groups : List ℕ) (o r : ℕ) → length (row_lines groups o r) ≡ length groups
lines_long [] o r = refl
lines_long (g ∷ gs) o r = ap suc (lines_long gs (o + g) (high_bits g r))

pub in_front_at : (xs ys : List Net) (i : ℕ) (n : Net) → slice_get xs i ≡ Some n → slice_get (xs ++ ys) i ≡ Some n
in_front_at [] ys i n h = absurd cc
in_front_at (x ∷ xs) ys zero n h = h
in_front_at (x ∷ xs) ys (suc i) n h = in_front_at xs ys i n h

-- the last of so many
last_of : (n i : ℕ) → i < n → (j : ℕ) × (j + 1 ≡ n) × (i ≤ j)
last_of zero i lt = absurd (omega (arith, lt))
last_of (suc n) i lt = (n, omega arith, omega (arith, lt))

module _ (tech : Tech) (s : Source) (flat : FlatLists) (k : IsLaidMacro tech s flat) (reach : DoRailsReach s.plan s.kit s.wire s.tracks.column s.floorplan) where
  abbrev IsMain : ℕ → Shape → Type 0
  IsMain number hub = IsOfMain tech s flat k.by k.joins k.sizes k.first k.main number hub

  some_bank : (b : ℕ) → b < banks_of s.plan → 0 < banks_of s.plan
  some_bank b lt = omega (arith, lt)

  further : (x : ℤ) (n : ℕ) → x ≤ℤ (x +ℤ pos n)
  further x n = omega (arith, ints)

  -- A line in a row's gate
  pub gate_joined : (b r port number : ℕ) (has : HasLeafInstance s.plan (NandAt b r)) (place : Place) (stands : IsPlaceOf s.plan s.kit s.floorplan (NandAt b r) place) (net : Net) (hub : Shape) → slice_get (row_lines s.plan.groups s.plan.col_bits r) port ≡ Some net
      → slice_get (main_nets s.plan) number ≡ Some net → IsOfMain tech s flat k.by k.joins k.sizes k.first k.main number hub → IsPortJoined tech.connects s flat (standing tech.connects s flat k.by (NandAt b r) has place stands) port hub
  gate_joined b r port number has place stands net hub on named of_hub =
      let line = row_line s.plan.groups s.plan.col_bits r port net on in
      let within = place_below (row_lines s.plan.groups s.plan.col_bits r) port net on in
      let lt : port < length s.plan.groups = subst (λ (n : ℕ). port < n) (lines_long s.plan.groups s.plan.col_bits r) within in
      let drawn = k.pins.drawn (row_gate s.plan.groups) port M3 Anywhere (gate_demand s.plan.groups port k.build.groups lt) in
      row_pin_joined tech s flat k reach (NandAt b r) (NandAt 0 r) has (some_bank b has.0, has.1) place stands b r port number s.floorplan.row_x net net hub has.0 stands refl refl drawn drawn k.fits.gate (omega (arith, ints))
      (in_front_at (row_lines s.plan.groups s.plan.col_bits r) (Zb 0 r ∷ supply_nets) port net on) (line_rail s.plan net line) (subst (λ (n : Net). n ≡ in_bank b n) (sym line.is) refl) (λ x y end tap. inl (r, tap)) named of_hub

  -- The word line enable in a driver
  pub driver_enabled : (b r number : ℕ) (has : HasLeafInstance s.plan (DriverAt b r)) (place : Place) (stands : IsPlaceOf s.plan s.kit s.floorplan (DriverAt b r) place) (hub : Shape) → slice_get (main_nets s.plan) number ≡ Some (wlen_at s.plan.bank_bits b)
      → IsOfMain tech s flat k.by k.joins k.sizes k.first k.main number hub → IsPortJoined tech.connects s flat (standing tech.connects s flat k.by (DriverAt b r) has place stands) 1 hub
  driver_enabled b r number has place stands hub named of_hub =
      let drawn = k.pins.drawn Driver 1 M3 Anywhere (record { place = 1; name = _; there = refl; named = refl }) in
      row_pin_joined tech s flat k reach (DriverAt b r) (DriverAt 0 r) has (some_bank b has.0, has.1) place stands b r 1 number (s.floorplan.row_x +ℤ pos (gate_width s.plan s.kit)) (wlen_at s.plan.bank_bits 0) (wlen_at s.plan.bank_bits b) hub has.0 stands refl refl drawn drawn k.fits.driver
      (further s.floorplan.row_x (gate_width s.plan s.kit)) refl (wlen_rail s.plan) (sym (wlen_in b s.plan.bank_bits)) (λ x y end tap. inr (inl (r, tap))) named of_hub

  -- columns further right
  column_right : (c : ℕ) → s.floorplan.row_x ≤ℤ column_x s.plan s.kit s.floorplan c
  column_right c = by s.floorplan.row_x (drive_width s.plan s.kit) (c * bit_width s.kit) where
    by : (x : ℤ) (d n : ℕ) → x ≤ℤ ((x +ℤ pos d) +ℤ pos n)
    by x d n = omega (arith, ints)

  columns_in_order : (c d : ℕ) → c ≤ d → column_x s.plan s.kit s.floorplan c ≤ℤ column_x s.plan s.kit s.floorplan d
  columns_in_order c d le = by (columns_x s.plan s.kit s.floorplan) (c * bit_width s.kit) (d * bit_width s.kit) (mul-le-mul_right (bit_width s.kit) le) where
    by : (x : ℤ) (m n : ℕ) → m ≤ n → (x +ℤ pos m) ≤ℤ (x +ℤ pos n)
    by x m n le = omega (arith, ints, le)

  -- The clock in a precharge cell
  pub precharge_clocked : (b c number : ℕ) (has : HasLeafInstance s.plan (PrechargeAt b c)) (place : Place) (stands : IsPlaceOf s.plan s.kit s.floorplan (PrechargeAt b c) place) (hub : Shape) → slice_get (main_nets s.plan) number ≡ Some (Control Clkb)
      → IsOfMain tech s flat k.by k.joins k.sizes k.first k.main number hub → IsPortJoined tech.connects s flat (standing tech.connects s flat k.by (PrechargeAt b c) has place stands) 2 hub
  precharge_clocked b c number has place stands hub named of_hub =
      let last = last_of (columns_of s.plan) c has.1 in
      let drawn = k.pins.drawn Precharge 2 M3 Anywhere (record { place = 2; name = _; there = refl; named = refl }) in
      upright_pin_joined tech s flat k reach (PrechargeAt b c) (PrechargeAt 0 last.0) has (some_bank b has.0, within last.0 (columns_of s.plan) last.1) place stands b 2 number (column_x s.plan s.kit s.floorplan c) (column_x s.plan s.kit s.floorplan last.0) s.floorplan.precharge_y (Control Clkb) (Control Clkb) hub
      has.0 stands refl refl drawn drawn (column_right c) (columns_in_order c last.0 last.2) (write_under_precharge s k.sizes k.floor k.inside) refl (clock_rail s.plan) refl (λ x y end tap. inr (inr (inr (inl (last.0, last.1, tap))))) named of_hub
    where
      within : (j n : ℕ) → j + 1 ≡ n → j < n
      within j n e = omega (arith, e)

  -- The sense enable in a sense cell
  pub sense_enabled : (b i number : ℕ) (has : HasLeafInstance s.plan (SenseAt b i)) (place : Place) (stands : IsPlaceOf s.plan s.kit s.floorplan (SenseAt b i) place) (hub : Shape) → slice_get (main_nets s.plan) number ≡ Some (sen_at s.plan.bank_bits b)
      → IsOfMain tech s flat k.by k.joins k.sizes k.first k.main number hub → IsPortJoined tech.connects s flat (standing tech.connects s flat k.by (SenseAt b i) has place stands) 3 hub
  sense_enabled b i number has place stands hub named of_hub =
      let last = last_of s.plan.word_size i has.1 in
      let drawn = k.pins.drawn Sense 3 M3 Anywhere (record { place = 3; name = _; there = refl; named = refl }) in
      upright_pin_joined tech s flat k reach (SenseAt b i) (SenseAt 0 last.0) has (some_bank b has.0, within last.0 s.plan.word_size last.1) place stands b 3 number (column_x s.plan s.kit s.floorplan (i * words_per_row s.plan)) (column_x s.plan s.kit s.floorplan (last.0 * words_per_row s.plan)) s.floorplan.sense_y
      (sen_at s.plan.bank_bits 0) (sen_at s.plan.bank_bits b) hub has.0 stands refl refl drawn drawn (column_right (i * words_per_row s.plan)) (columns_in_order (i * words_per_row s.plan) (last.0 * words_per_row s.plan) (mul-le-mul_right (words_per_row s.plan) last.2))
      (write_under_sense s k.sizes k.floor k.inside) refl (sen_rail s.plan) (sym (sen_in b s.plan.bank_bits)) (λ x y end tap. inr (inr (inl (last.0, last.1, tap)))) named of_hub
    where
      within : (j n : ℕ) → j + 1 ≡ n → j < n
      within j n e = omega (arith, e)
