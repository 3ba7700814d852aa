-- Each port of a leaf instance that is on a net of the array is joined with the net's hub.
use Rattle.std.proofs.Common.{◌≡◌, ℕ, zero, suc, ◌+◌, ◌*◌, ◌<◌, ◌+ℤ◌, pos, List, length, Some, refl, sym, subst, arith}
use Rattle.std.specs.Prelude.{slice_get, slice_index}
use Rattle.or_geom.specs.declared.shape.Shape.{Shape}
use Rattle.or_geom.specs.declared.place.Place.{Place}
use Rattle.tech_rules.specs.declared.tech.Connect.{Connect}
use Rattle.tech_rules.specs.Touch.{IsConductor}
use Rattle.tech_rules.specs.Net.{AreOnOneNet}
use Rattle.cell_hierarchy.specs.Plain.{FlatLists}
use Rattle.leaf_shapes.specs.declared.demand.Metal.TheVariants.{M1, M2}
use Rattle.sram_netlist.specs.Organization.{Organization, IsBuildable, bank_rows, columns_of, banks_of, words_per_row}
use Rattle.sram_netlist.specs.Nets.{Net, Zb, Wl, Bl, Br}
use Rattle.sram_netlist.specs.Instances.{BitAt, NandAt, DriverAt, PrechargeAt, MuxAt, TieAt}
use Rattle.sram_netlist.specs.Netlist.{ports}
use Rattle.sram_netlist.specs.Membership.{HasLeafInstance}
use Rattle.sram_netlist.proofs.Bounds.{twice_above}
use Rattle.sram_rows.proofs.RowKinds.{some_rows}
use Rattle.macro_layout.specs.Places.{IsPlaceOf, in_row_at, upright, bank_x, column_x, gate_width}
use Rattle.macro_layout.specs.Floorplan.{IsFloorplan, column_role}
use Rattle.macro_layout.specs.Cells.{column_leaf}
use Rattle.good_nets.proofs.NetLaws.{nets_on, net_back}
use Rattle.joined_nets.specs.Joints.{JoinsWires}
use Rattle.joined_nets.specs.Lines.{HasPinShape}
use Rattle.joined_nets.proofs.LineLaws.{word_line_joined, bit_line_joined}
use Rattle.joined_nets.proofs.FacingLaws.{gate_joined, driver_joined, column_joined, precharge_joined}
use Rattle.kit_nets.specs.StatedParts.{Source, IsStatedBy}
use Rattle.kit_nets.specs.RolePins.{AreRolePins}
use Rattle.kit_nets.specs.Hubs.{IsPortJoined}
use Rattle.kit_nets.proofs.DemandLaws.{metal_conducts}
use Rattle.kit_nets.proofs.ArrayNetLaws.{pin_at, pin_listed}
use Rattle.kit_nets.proofs.PinJoinLaws.{standing, pin_joined_by, facing_joined}
use Rattle.kit_nets.proofs.ArrayHubLaws.{word_drawn, driver_in_drawn, driver_out_drawn, gate_drawn, bit_drawn, column_drawn, precharge_drawn, across_cell, up_through, gate_faces, driver_faces, column_faces, precharge_faces}

-- the bit line of a column on port 0, the other on port 1
abbrev pub bit_line : ℕ → ℕ → ℕ → Net
bit_line zero b c = Bl b c
bit_line (suc port) b c = Br b c

before : (n : ℕ) → 0 < n → (r : ℕ) × (r + 1 ≡ n)
before zero lt = absurd (omega (arith, lt))
before (suc n) lt = (n, omega arith)

pub some_columns : (plan : Organization) → IsBuildable plan → 0 < columns_of plan
some_columns plan build =
    let words = build.words in
    let some = twice_above plan.col_bits in
    product_some plan.word_size (words_per_row plan) words (omega (arith, some))
  where
    product_some : (m n : ℕ) → 0 < m → 0 < n → 0 < m * n
    product_some (suc m) (suc n) a b = omega arith
    product_some zero n a b = absurd (omega (arith, a))
    product_some (suc m) zero a b = absurd (omega (arith, b))

module _ (s : Source) where
  abbrev pub bit_place : ℕ → ℕ → ℕ → Place
  bit_place b r c = in_row_at s.kit s.floorplan.array_y r (bank_x s.floorplan b (column_x s.plan s.kit s.floorplan c))

  abbrev pub gate_place : ℕ → ℕ → Place
  gate_place b r = in_row_at s.kit s.floorplan.array_y r (bank_x s.floorplan b s.floorplan.row_x)

  abbrev pub driver_place : ℕ → ℕ → Place
  driver_place b r = in_row_at s.kit s.floorplan.array_y r (bank_x s.floorplan b (s.floorplan.row_x +ℤ pos (gate_width s.plan s.kit)))

  abbrev pub column_place : ℕ → ℕ → Place
  column_place b c = upright (bank_x s.floorplan b (column_x s.plan s.kit s.floorplan c)) s.floorplan.column_y

  abbrev pub precharge_place : ℕ → ℕ → Place
  precharge_place b c = upright (bank_x s.floorplan b (column_x s.plan s.kit s.floorplan c)) s.floorplan.precharge_y

  -- The hubs of the array's nets: the driver's input, the word line in the first bitcell, the bit lines in the lowest.
  abbrev pub array_hub : (Net → Shape) → Net → Shape
  array_hub other (Zb b r) = pin_at s (DriverAt b r) (driver_place b r) 0 0
  array_hub other (Wl b r) = pin_at s (BitAt b r 0) (bit_place b r 0) 2 0
  array_hub other (Bl b c) = pin_at s (BitAt b 0 c) (bit_place b 0 c) 0 1
  array_hub other (Br b c) = pin_at s (BitAt b 0 c) (bit_place b 0 c) 1 1
  array_hub other net = other net

module _ (connections : List Connect) (s : Source) (flat : FlatLists) (by : IsStatedBy connections s flat) (joins : JoinsWires connections s.wire) (pins : AreRolePins s) (build : IsBuildable s.plan) (fp : IsFloorplan s.plan s.kit s.wire s.tracks s.floorplan) where
  pub first_metal : IsConductor connections (slice_index s.wire.metals 0)
  first_metal = metal_conducts connections s.wire joins M1

  pub second_metal : IsConductor connections (slice_index s.wire.metals 1)
  second_metal = metal_conducts connections s.wire joins M2

  -- Word lines

  word_listed : (b r c : ℕ) → b < banks_of s.plan → r < bank_rows s.plan → c < columns_of s.plan → HasPinShape s.plan s.kit s.floorplan flat.shapes (slice_index s.wire.metals 0) (BitAt b r c) 2 0 (Wl b r) (pin_at s (BitAt b r c) (bit_place s b r c) 2 0).rect
  word_listed b r c of_bank of_row of_column = pin_listed connections s flat by (BitAt b r c) (bit_place s b r c) 2 0 (Wl b r) (of_bank, (of_row, of_column)) refl refl (word_drawn s pins).bound

  pub word_in_bit : (b r c : ℕ) → b < banks_of s.plan → r < bank_rows s.plan → c < columns_of s.plan → AreOnOneNet connections flat.shapes (pin_at s (BitAt b r c) (bit_place s b r c) 2 0) (pin_at s (BitAt b r 0) (bit_place s b r 0) 2 0)
  word_in_bit b r c of_bank of_row of_column =
      let some : 0 < columns_of s.plan = omega (arith, of_column) in
      net_back connections flat.shapes (pin_at s (BitAt b r 0) (bit_place s b r 0) 2 0) (pin_at s (BitAt b r c) (bit_place s b r c) 2 0) (word_listed b r 0 of_bank of_row some).listed
      (word_line_joined s.plan s.kit s.floorplan connections flat.shapes (slice_index s.wire.metals 0) first_metal (across_cell s pins) b r (λ (k : ℕ). (pin_at s (BitAt b r k) (bit_place s b r k) 2 0).rect)
      (λ k below. word_listed b r k of_bank of_row below) c of_column)

  pub word_in_driver : (b r : ℕ) → b < banks_of s.plan → r < bank_rows s.plan → 0 < columns_of s.plan → AreOnOneNet connections flat.shapes (pin_at s (DriverAt b r) (driver_place s b r) 2 0) (pin_at s (BitAt b r 0) (bit_place s b r 0) 2 0)
  word_in_driver b r of_bank of_row some =
      let driver = pin_listed connections s flat by (DriverAt b r) (driver_place s b r) 2 0 (Wl b r) (of_bank, of_row) refl refl (driver_out_drawn s pins).bound in
      let bit = word_listed b r 0 of_bank of_row some in
      facing_joined connections s flat by (slice_index s.wire.metals 0) (pin_at s (DriverAt b r) (driver_place s b r) 2 0) (pin_at s (BitAt b r 0) (bit_place s b r 0) 2 0) first_metal refl refl
      (driver_joined s.plan s.kit s.floorplan b r (pin_at s (DriverAt b r) (driver_place s b r) 2 0).rect (pin_at s (BitAt b r 0) (bit_place s b r 0) 2 0).rect (driver_faces s pins) driver.pin bit.pin) bit.listed

  -- What a row's gate drives

  pub gate_in_driver : (b r : ℕ) → b < banks_of s.plan → r < bank_rows s.plan → slice_get (ports s.plan (NandAt b r)) (length s.plan.groups) ≡ Some (Zb b r) → AreOnOneNet connections flat.shapes (pin_at s (NandAt b r) (gate_place s b r) (length s.plan.groups) 0) (pin_at s (DriverAt b r) (driver_place s b r) 0 0)
  gate_in_driver b r of_bank of_row on =
      let gate = pin_listed connections s flat by (NandAt b r) (gate_place s b r) (length s.plan.groups) 0 (Zb b r) (of_bank, of_row) refl on (gate_drawn s pins build.groups).bound in
      let driver = pin_listed connections s flat by (DriverAt b r) (driver_place s b r) 0 0 (Zb b r) (of_bank, of_row) refl refl (driver_in_drawn s pins).bound in
      facing_joined connections s flat by (slice_index s.wire.metals 0) (pin_at s (NandAt b r) (gate_place s b r) (length s.plan.groups) 0) (pin_at s (DriverAt b r) (driver_place s b r) 0 0) first_metal refl refl
      (gate_joined s.plan s.kit s.floorplan b r (length s.plan.groups) (pin_at s (NandAt b r) (gate_place s b r) (length s.plan.groups) 0).rect (pin_at s (DriverAt b r) (driver_place s b r) 0 0).rect (gate_faces s pins build.groups) gate.pin driver.pin) driver.listed

  -- Bit lines

  on_bit : (port b r c : ℕ) → port < 2 → slice_get (ports s.plan (BitAt b r c)) port ≡ Some (bit_line port b c)
  on_bit zero b r c lt = refl
  on_bit (suc zero) b r c lt = refl
  on_bit (suc (suc port)) b r c lt = absurd (omega (arith, lt))

  pub bit_listed : (port b r c : ℕ) → port < 2 → b < banks_of s.plan → r < bank_rows s.plan → c < columns_of s.plan → HasPinShape s.plan s.kit s.floorplan flat.shapes (slice_index s.wire.metals 1) (BitAt b r c) port 1 (bit_line port b c) (pin_at s (BitAt b r c) (bit_place s b r c) port 1).rect
  bit_listed port b r c lt of_bank of_row of_column = pin_listed connections s flat by (BitAt b r c) (bit_place s b r c) port 1 (bit_line port b c) (of_bank, (of_row, of_column)) refl (on_bit port b r c lt) (bit_drawn s pins port lt).bound

  pub line_in_bit : (port b r c : ℕ) → port < 2 → b < banks_of s.plan → r < bank_rows s.plan → c < columns_of s.plan → AreOnOneNet connections flat.shapes (pin_at s (BitAt b r c) (bit_place s b r c) port 1) (pin_at s (BitAt b 0 c) (bit_place s b 0 c) port 1)
  line_in_bit port b r c lt of_bank of_row of_column =
      net_back connections flat.shapes (pin_at s (BitAt b 0 c) (bit_place s b 0 c) port 1) (pin_at s (BitAt b r c) (bit_place s b r c) port 1) (bit_listed port b 0 c lt of_bank (omega (arith, of_row)) of_column).listed
      (bit_line_joined s.plan s.kit s.floorplan connections flat.shapes (slice_index s.wire.metals 1) second_metal port (up_through s pins port lt) b c (bit_line port b c) (λ (k : ℕ). (pin_at s (BitAt b k c) (bit_place s b k c) port 1).rect)
      (λ k below. bit_listed port b k c lt of_bank below of_column) r of_row)

  pub line_in_precharge : (port b c : ℕ) → port < 2 → b < banks_of s.plan → c < columns_of s.plan → slice_get (ports s.plan (PrechargeAt b c)) port ≡ Some (bit_line port b c) → AreOnOneNet connections flat.shapes (pin_at s (PrechargeAt b c) (precharge_place s b c) port 1) (pin_at s (BitAt b 0 c) (bit_place s b 0 c) port 1)
  line_in_precharge port b c lt of_bank of_column on =
      let last = before (bank_rows s.plan) (some_rows s.plan) in
      let is : last.0 + 1 ≡ bank_rows s.plan = last.1 in
      let of_row : last.0 < bank_rows s.plan = omega (arith, is) in
      let precharge = pin_listed connections s flat by (PrechargeAt b c) (precharge_place s b c) port 1 (bit_line port b c) (of_bank, of_column) refl on (precharge_drawn s pins port lt).bound in
      let bit = bit_listed port b last.0 c lt of_bank of_row of_column in
      nets_on connections flat.shapes (pin_at s (PrechargeAt b c) (precharge_place s b c) port 1) (pin_at s (BitAt b last.0 c) (bit_place s b last.0 c) port 1) (pin_at s (BitAt b 0 c) (bit_place s b 0 c) port 1)
      (net_back connections flat.shapes (pin_at s (BitAt b last.0 c) (bit_place s b last.0 c) port 1) (pin_at s (PrechargeAt b c) (precharge_place s b c) port 1) bit.listed
      (facing_joined connections s flat by (slice_index s.wire.metals 1) (pin_at s (BitAt b last.0 c) (bit_place s b last.0 c) port 1) (pin_at s (PrechargeAt b c) (precharge_place s b c) port 1) second_metal refl refl
      (precharge_joined s.plan s.kit s.floorplan port b last.0 c (bit_line port b c) (pin_at s (BitAt b last.0 c) (bit_place s b last.0 c) port 1).rect (pin_at s (PrechargeAt b c) (precharge_place s b c) port 1).rect (precharge_faces s pins port lt) (up_through s pins port lt) fp.precharge_y is bit.pin precharge.pin)
      precharge.listed))
      (line_in_bit port b last.0 c lt of_bank of_row of_column)

  column_has : (n b c : ℕ) → n ≡ s.plan.col_bits → b < banks_of s.plan → c < columns_of s.plan → HasLeafInstance s.plan (column_leaf n b c)
  column_has zero b c e of_bank of_column = (of_bank, (of_column, sym e))
  column_has (suc n) b c e of_bank of_column = (of_bank, (of_column, omega (arith, e)))

  column_stands : (n b c : ℕ) → IsPlaceOf s.plan s.kit s.floorplan (column_leaf n b c) (column_place s b c)
  column_stands zero b c = refl
  column_stands (suc n) b c = refl

  column_on : (n port b c : ℕ) → port < 2 → slice_get (ports s.plan (column_leaf n b c)) port ≡ Some (bit_line port b c)
  column_on zero zero b c lt = refl
  column_on zero (suc zero) b c lt = refl
  column_on zero (suc (suc port)) b c lt = absurd (omega (arith, lt))
  column_on (suc n) zero b c lt = refl
  column_on (suc n) (suc zero) b c lt = refl
  column_on (suc n) (suc (suc port)) b c lt = absurd (omega (arith, lt))

  pub column_listed : (n port b c : ℕ) → port < 2 → n ≡ s.plan.col_bits → b < banks_of s.plan → c < columns_of s.plan → HasPinShape s.plan s.kit s.floorplan flat.shapes (slice_index s.wire.metals 1) (column_leaf n b c) port 1 (bit_line port b c) (pin_at s (column_leaf n b c) (column_place s b c) port 1).rect
  column_listed zero port b c lt e of_bank of_column = pin_listed connections s flat by (TieAt b c) (column_place s b c) port 1 (bit_line port b c) (column_has zero b c e of_bank of_column) refl (column_on zero port b c lt) (column_drawn s pins zero port lt).bound
  column_listed (suc n) port b c lt e of_bank of_column = pin_listed connections s flat by (MuxAt b c) (column_place s b c) port 1 (bit_line port b c) (column_has (suc n) b c e of_bank of_column) refl (column_on (suc n) port b c lt) (column_drawn s pins (suc n) port lt).bound

  pub line_in_column : (n port b c : ℕ) → port < 2 → n ≡ s.plan.col_bits → b < banks_of s.plan → c < columns_of s.plan → AreOnOneNet connections flat.shapes (pin_at s (column_leaf n b c) (column_place s b c) port 1) (pin_at s (BitAt b 0 c) (bit_place s b 0 c) port 1)
  line_in_column n port b c lt e of_bank of_column =
      let column = column_listed n port b c lt e of_bank of_column in
      let bit = bit_listed port b 0 c lt of_bank (some_rows s.plan) of_column in
      facing_joined connections s flat by (slice_index s.wire.metals 1) (pin_at s (column_leaf n b c) (column_place s b c) port 1) (pin_at s (BitAt b 0 c) (bit_place s b 0 c) port 1) second_metal refl refl
      (column_joined s.plan s.kit s.floorplan port b c n (bit_line port b c) (pin_at s (column_leaf n b c) (column_place s b c) port 1).rect (pin_at s (BitAt b 0 c) (bit_place s b 0 c) port 1).rect e (column_faces s pins n port lt) (up_through s pins port lt)
      (subst (λ (m : ℕ). s.floorplan.array_y ≡ s.floorplan.column_y +ℤ pos (s.kit.height (column_role m))) (sym e) fp.array_y) column.pin bit.pin) bit.listed

  -- a multiplexer's bit line is joined with the lowest bitcell's
  pub mux_joined : (port : ℕ) → port < 2 → (b c : ℕ) (has : HasLeafInstance s.plan (MuxAt b c)) (place : Place) (stands : IsPlaceOf s.plan s.kit s.floorplan (MuxAt b c) place) → IsPortJoined connections s flat (standing connections s flat by (MuxAt b c) has place stands) port (pin_at s (BitAt b 0 c) (bit_place s b 0 c) port 1)
  mux_joined port lt b c has place stands =
      let n = before s.plan.col_bits has.1.1 in
      let is : suc n.0 ≡ s.plan.col_bits = (let e = n.1 in omega (arith, e)) in
      pin_joined_by connections s flat by (MuxAt b c) has place (column_place s b c) stands port 1 (pin_at s (BitAt b 0 c) (bit_place s b 0 c) port 1) stands (column_drawn s pins (suc n.0) port lt).bound (line_in_column (suc n.0) port b c lt is has.0 has.1.0)
