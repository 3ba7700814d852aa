-- Each supply port of a leaf instance is joined with its supply's trunk.
use Rattle.std.proofs.Common.{◌≡◌, inl, inr, ℕ, zero, suc, ◌*◌, ◌<◌, ℤ, pos, ◌+ℤ◌, refl, sym, ap, subst, ◌∙◌, arith}
use Rattle.std.proofs.lemmas.Int.{ints}
use Rattle.or_geom.specs.declared.shape.Shape.{Shape}
use Rattle.or_geom.specs.declared.place.Place.{Place}
use Rattle.cell_roles.specs.declared.role.Role.{Role}
use Rattle.cell_roles.specs.declared.role.Role.TheVariants.{Bitcell, Precharge, Mux, Tie, Sense, Write, Inv}
use Rattle.tech_rules.specs.declared.tech.Tech.{Tech}
use Rattle.cell_hierarchy.specs.Plain.{FlatLists}
use Rattle.sram_netlist.specs.Organization.{IsWritten, columns_of, banks_of, words_per_row}
use Rattle.sram_netlist.specs.Instances.{LeafInstance, BitAt, NandAt, DriverAt, PrechargeAt, WriteAt, SenseAt, MuxAt, TieAt, LogicAt}
use Rattle.sram_netlist.specs.Netlist.{role, logic_role}
use Rattle.sram_netlist.specs.Membership.{HasLeafInstance}
use Rattle.sram_netlist.proofs.Bounds.{some_written, written_all}
use Rattle.sram_rows.proofs.PlainNames.{inputs_within}
use Rattle.sram_rows.proofs.RowKinds.{some_rows}
use Rattle.macro_layout.specs.Places.{IsPlaceOf, bank_x, columns_x, column_x, gate_width, bit_height, bit_width}
use Rattle.macro_layout.specs.Floorplan.{column_channel_y, upper_y, column_role}
use Rattle.macro_layout.specs.Wires.{trunk_x, ground_x, row_y, IsSupplyTrunk}
use Rattle.kit_nets.specs.StatedParts.{Source}
use Rattle.kit_nets.specs.Hubs.{IsPortJoined}
use Rattle.kit_nets.proofs.PinJoinLaws.{standing}
use Rattle.supply_nets.specs.Rails.{power_port, ground_port}
use Rattle.supply_nets.specs.LaidMacro.{IsLaidMacro}
use Rattle.supply_nets.proofs.LevelLaws.{logic_ground_level, logic_power_level, write_level, sense_ground_level, sense_power_level, column_level, row_level, precharge_ground_level, precharge_power_level}
use Rattle.supply_nets.proofs.SpanLaws.{IsSpan, column_span, slice_span, gate_span, driver_span, from_row, logic_span}
use Rattle.supply_nets.proofs.RailDemandLaws.{cell_above, gate_above}
use Rattle.supply_nets.proofs.RowBarLaws.{row_power, row_ground}
use Rattle.supply_nets.proofs.UprightBarLaws.{upright_upper_power, upright_lower_ground, upright_lower_power, upright_upper_ground}

module _ (tech : Tech) (s : Source) (flat : FlatLists) (k : IsLaidMacro tech s flat) where
  -- the columns, as wide as bitcells
  as_wide : (from x : ℤ) (r : Role) → s.kit.width r ≡ s.kit.width Bitcell → IsSpan s from x (s.kit.width Bitcell) → IsSpan s from x (s.kit.width r)
  as_wide from x r same = subst (IsSpan s from x) (sym same)

  abbrev at_columns : ℤ
  at_columns = columns_x s.plan s.kit s.floorplan

  in_column : (b c : ℕ) (r : Role) → b < banks_of s.plan → c < columns_of s.plan → s.kit.width r ≡ s.kit.width Bitcell → IsSpan s at_columns (bank_x s.floorplan b (column_x s.plan s.kit s.floorplan c)) (s.kit.width r)
  in_column b c r of_bank of_column same = as_wide at_columns (bank_x s.floorplan b (column_x s.plan s.kit s.floorplan c)) r same (column_span s k.sizes k.floor b c of_bank of_column)

  row_begins : (a z : ℤ) (h : ℕ) → z ≡ a +ℤ pos h → a +ℤ pos h ≡ z +ℤ pos (0 * bit_height s.kit)
  row_begins a z h e = omega (arith, ints, e)

  mux_role : (n : ℕ) → 0 < n → column_role n ≡ Mux
  mux_role zero some = absurd (omega (arith, some))
  mux_role (suc n) some = refl

  column_high : (r : Role) → column_role s.plan.col_bits ≡ r → s.floorplan.column_y +ℤ pos (s.kit.height r) ≡ row_y s.kit s.floorplan 0
  column_high r e = row_begins s.floorplan.column_y s.floorplan.array_y (s.kit.height r) (k.floor.array_y ∙ ap (λ (x : Role). s.floorplan.column_y +ℤ pos (s.kit.height x)) e)

  is_written : (i : ℕ) (b : ℕ) → HasLeafInstance s.plan (WriteAt b i) → IsWritten s.plan
  is_written i b has = some_written s.plan.write_size s.plan.word_size i has.1

  write_high : IsWritten s.plan → s.floorplan.write_y +ℤ pos (s.kit.height Write) ≡ s.floorplan.sense_y
  write_high written = sym (k.floor.sense_y ∙ ap (λ (h : ℕ). s.floorplan.write_y +ℤ pos h) (written_all s.plan.write_size (s.kit.height Write) written))

  logic_high : (h : ℕ) → h ≡ s.kit.height Inv → pos 0 +ℤ pos h ≡ pos (s.kit.height Inv)
  logic_high h e = omega (arith, ints, e)

  -- vdd
  pub power_joined : (leaf : LeafInstance) (has : HasLeafInstance s.plan leaf) (place : Place) (stands : IsPlaceOf s.plan s.kit s.floorplan leaf place) (hub : Shape) → IsSupplyTrunk s.kit s.wire s.floorplan (trunk_x s.plan s.kit s.wire s.floorplan) hub
      → IsPortJoined tech.connects s flat (standing tech.connects s flat k.by leaf has place stands) (power_port (role s.plan leaf)) hub
  power_joined (BitAt b r c) has place stands hub is_hub =
      row_power tech s flat k (BitAt b r c) has place stands r (bank_x s.floorplan b (column_x s.plan s.kit s.floorplan c)) has.1.0 stands (from_row s k.sizes k.floor (bank_x s.floorplan b (column_x s.plan s.kit s.floorplan c)) (bit_width s.kit) (column_span s k.sizes k.floor b c has.0 has.1.1)) refl tt hub is_hub
  power_joined (NandAt b r) has place stands hub is_hub =
      row_power tech s flat k (NandAt b r) has place stands r (bank_x s.floorplan b s.floorplan.row_x) has.1 stands (gate_span s k.sizes k.floor b has.0) k.fits.gate (gate_above s.plan.groups) hub is_hub
  power_joined (DriverAt b r) has place stands hub is_hub =
      row_power tech s flat k (DriverAt b r) has place stands r (bank_x s.floorplan b (s.floorplan.row_x +ℤ pos (gate_width s.plan s.kit))) has.1 stands (driver_span s k.sizes k.floor b has.0) k.fits.driver tt hub is_hub
  power_joined (PrechargeAt b c) has place stands hub is_hub =
      upright_upper_power tech s flat k (PrechargeAt b c) has place stands at_columns (bank_x s.floorplan b (column_x s.plan s.kit s.floorplan c)) s.floorplan.precharge_y stands (in_column b c Precharge has.0 has.1 k.fits.precharge)
      (upper_y s.kit s.floorplan) hub tt refl (inr (inr (inr (inr (inr (refl, refl)))))) (precharge_power_level s k.sizes k.floor k.inside) is_hub
  power_joined (WriteAt b i) has place stands hub is_hub =
      upright_lower_power tech s flat k (WriteAt b i) has place stands at_columns (bank_x s.floorplan b (column_x s.plan s.kit s.floorplan (i * words_per_row s.plan))) s.floorplan.write_y stands (slice_span s k.sizes k.floor b i (s.kit.width Write) has.0 (inputs_within s.plan i has.1) k.fits.write)
      hub tt (inr (inl (is_written i b has, refl, refl))) (write_level s k.sizes k.floor k.inside) is_hub
  power_joined (SenseAt b i) has place stands hub is_hub =
      upright_upper_power tech s flat k (SenseAt b i) has place stands at_columns (bank_x s.floorplan b (column_x s.plan s.kit s.floorplan (i * words_per_row s.plan))) s.floorplan.sense_y stands (slice_span s k.sizes k.floor b i (s.kit.width Sense) has.0 has.1 k.fits.sense)
      (column_channel_y s.kit s.floorplan) hub tt refl (inr (inr (inl (refl, refl)))) (sense_power_level s k.sizes k.floor k.inside) is_hub
  power_joined (MuxAt b c) has place stands hub is_hub =
      upright_lower_power tech s flat k (MuxAt b c) has place stands at_columns (bank_x s.floorplan b (column_x s.plan s.kit s.floorplan c)) s.floorplan.column_y stands (in_column b c Mux has.0 has.1.0 k.fits.mux)
      hub tt (inr (inr (inr (inl (refl, refl))))) (column_level s k.sizes k.floor k.inside) is_hub
  power_joined (TieAt b c) has place stands hub is_hub =
      upright_lower_power tech s flat k (TieAt b c) has place stands at_columns (bank_x s.floorplan b (column_x s.plan s.kit s.floorplan c)) s.floorplan.column_y stands (in_column b c Tie has.0 has.1.0 k.fits.tie)
      hub tt (inr (inr (inr (inl (refl, refl))))) (column_level s k.sizes k.floor k.inside) is_hub
  power_joined (LogicAt cell) has place stands hub is_hub =
      let row = logic_span s k.sizes k.floor cell place stands in
      upright_upper_power tech s flat k (LogicAt cell) has place stands s.floorplan.logic_x row.x (pos 0) row.at row.span
      (pos (s.kit.height Inv)) hub (cell_above s.plan cell) (logic_high (s.kit.height (logic_role s.plan cell)) (k.fits.logic cell)) (inl (refl, refl)) (logic_power_level s k.sizes k.floor k.inside) is_hub

  -- gnd
  pub ground_joined : (leaf : LeafInstance) (has : HasLeafInstance s.plan leaf) (place : Place) (stands : IsPlaceOf s.plan s.kit s.floorplan leaf place) (hub : Shape) → IsSupplyTrunk s.kit s.wire s.floorplan (ground_x s.plan s.kit s.wire s.floorplan) hub
      → IsPortJoined tech.connects s flat (standing tech.connects s flat k.by leaf has place stands) (ground_port (role s.plan leaf)) hub
  ground_joined (BitAt b r c) has place stands hub is_hub =
      row_ground tech s flat k (BitAt b r c) has place stands r (bank_x s.floorplan b (column_x s.plan s.kit s.floorplan c)) has.1.0 stands (from_row s k.sizes k.floor (bank_x s.floorplan b (column_x s.plan s.kit s.floorplan c)) (bit_width s.kit) (column_span s k.sizes k.floor b c has.0 has.1.1)) refl tt hub is_hub
  ground_joined (NandAt b r) has place stands hub is_hub =
      row_ground tech s flat k (NandAt b r) has place stands r (bank_x s.floorplan b s.floorplan.row_x) has.1 stands (gate_span s k.sizes k.floor b has.0) k.fits.gate (gate_above s.plan.groups) hub is_hub
  ground_joined (DriverAt b r) has place stands hub is_hub =
      row_ground tech s flat k (DriverAt b r) has place stands r (bank_x s.floorplan b (s.floorplan.row_x +ℤ pos (gate_width s.plan s.kit))) has.1 stands (driver_span s k.sizes k.floor b has.0) k.fits.driver tt hub is_hub
  ground_joined (PrechargeAt b c) has place stands hub is_hub =
      let x = bank_x s.floorplan b (column_x s.plan s.kit s.floorplan c) in
      upright_lower_ground tech s flat k (PrechargeAt b c) has place stands s.floorplan.row_x x s.floorplan.precharge_y stands (from_row s k.sizes k.floor x (s.kit.width Precharge) (in_column b c Precharge has.0 has.1 k.fits.precharge))
      hub tt (inr (inr (inr (refl, refl)))) (precharge_ground_level s k.sizes k.floor k.inside) is_hub
  ground_joined (WriteAt b i) has place stands hub is_hub =
      upright_upper_ground tech s flat k (WriteAt b i) has place stands at_columns (bank_x s.floorplan b (column_x s.plan s.kit s.floorplan (i * words_per_row s.plan))) s.floorplan.write_y stands (slice_span s k.sizes k.floor b i (s.kit.width Write) has.0 (inputs_within s.plan i has.1) k.fits.write)
      s.floorplan.sense_y hub tt (write_high (is_written i b has)) (inr (inl (refl, refl))) (sense_ground_level s k.sizes k.floor k.inside) is_hub
  ground_joined (SenseAt b i) has place stands hub is_hub =
      upright_lower_ground tech s flat k (SenseAt b i) has place stands at_columns (bank_x s.floorplan b (column_x s.plan s.kit s.floorplan (i * words_per_row s.plan))) s.floorplan.sense_y stands (slice_span s k.sizes k.floor b i (s.kit.width Sense) has.0 has.1 k.fits.sense)
      hub tt (inr (inl (refl, refl))) (sense_ground_level s k.sizes k.floor k.inside) is_hub
  ground_joined (MuxAt b c) has place stands hub is_hub =
      let x = bank_x s.floorplan b (column_x s.plan s.kit s.floorplan c) in
      upright_upper_ground tech s flat k (MuxAt b c) has place stands s.floorplan.row_x x s.floorplan.column_y stands (from_row s k.sizes k.floor x (s.kit.width Mux) (in_column b c Mux has.0 has.1.0 k.fits.mux))
      (row_y s.kit s.floorplan 0) hub tt (column_high Mux (mux_role s.plan.col_bits has.1.1)) (inr (inr (inl (0, some_rows s.plan, refl, refl, refl)))) (row_level s k.sizes k.floor k.inside 0 (some_rows s.plan)) is_hub
  ground_joined (TieAt b c) has place stands hub is_hub =
      let x = bank_x s.floorplan b (column_x s.plan s.kit s.floorplan c) in
      upright_upper_ground tech s flat k (TieAt b c) has place stands s.floorplan.row_x x s.floorplan.column_y stands (from_row s k.sizes k.floor x (s.kit.width Tie) (in_column b c Tie has.0 has.1.0 k.fits.tie))
      (row_y s.kit s.floorplan 0) hub tt (column_high Tie (ap column_role has.1.1)) (inr (inr (inl (0, some_rows s.plan, refl, refl, refl)))) (row_level s k.sizes k.floor k.inside 0 (some_rows s.plan)) is_hub
  ground_joined (LogicAt cell) has place stands hub is_hub =
      let row = logic_span s k.sizes k.floor cell place stands in
      upright_lower_ground tech s flat k (LogicAt cell) has place stands s.floorplan.logic_x row.x (pos 0) row.at row.span
      hub (cell_above s.plan cell) (inl (refl, refl)) (logic_ground_level s k.sizes k.floor k.inside) is_hub
