-- The metal wires of supplies, bars, trunks and joiners, are joined with their supply's trunk.
use Rattle.std.proofs.Common.{◌≡◌, inl, inr, ℕ, ◌*◌, ◌<◌, ℤ, pos, ◌≤ℤ◌, ◌+ℤ◌, ◌-ℤ◌, ◌*ℤ◌, Contains, refl, sym, ap, subst, ◌∙◌, arith}
use Rattle.std.specs.Prelude.{slice_index}
use Rattle.std.specs.Int.{int_max}
use Rattle.std.proofs.lemmas.Int.{ints, clamps}
use Rattle.or_geom.specs.declared.shape.Shape.{Shape}
use Rattle.cell_roles.specs.declared.role.Role.TheVariants.{Inv}
use Rattle.tech_rules.specs.declared.tech.Tech.{Tech}
use Rattle.wire_drawing.specs.Drawing.{IsBox}
use Rattle.tech_rules.specs.Net.{AreOnOneNet}
use Rattle.cell_hierarchy.specs.Plain.{FlatLists}
use Rattle.leaf_shapes.specs.declared.demand.Metal.TheVariants.{M2}
use Rattle.sram_netlist.specs.Organization.{banks_of}
use Rattle.sram_netlist.specs.Nets.{Net, Vdd, Gnd}
use Rattle.sram_netlist.specs.InstanceList.{logic_cells}
use Rattle.sram_rows.proofs.RowKinds.{some_rows}
use Rattle.macro_layout.specs.Places.{columns_x, bit_height, total_width}
use Rattle.macro_layout.specs.Floorplan.{column_channel_y, upper_y}
use Rattle.macro_layout.specs.Stated.{IsShifted}
use Rattle.macro_layout.specs.Wires.{trunk_x, ground_x, row_y, columns_end, IsBar, IsSupplyTrunk, IsPowerBarAt, IsGroundBarAt, IsPowerWire, IsGroundWire, IsWriteJoiner, IsCornerJoiner}
use Rattle.good_places.proofs.NumberLaws.{banks_before, times_low}
use Rattle.good_wires.specs.Drawn.{IsDrawnMemory}
use Rattle.good_wires.proofs.LevelLaws.{sides}
use Rattle.good_wires.proofs.WideLaws as wide
use Rattle.joined_nets.proofs.EdgeLaws.{joined_within}
use Rattle.kit_nets.specs.StatedParts.{Source}
use Rattle.kit_nets.specs.OuterHubs.{AreOuterHubs}
use Rattle.kit_nets.proofs.DemandLaws.{metal_conducts}
use Rattle.kit_nets.proofs.PartsLaws.{stated_are_parts}
use Rattle.kit_nets.proofs.PinJoinLaws.{facing_joined}
use Rattle.kit_nets.proofs.SupplyHubLaws.{at_power_bar, at_ground_bar, power_trunk_is, ground_trunk_is}
use Rattle.supply_nets.specs.LaidMacro.{IsLaidMacro}
use Rattle.supply_nets.proofs.LevelLaws.{IsLevel, logic_ground_level, logic_power_level, write_level, sense_ground_level, sense_power_level, column_level, row_level, precharge_ground_level, precharge_power_level}

one_below : (a b : ℤ) → a ≡ b → a ≤ℤ b
one_below a b e = omega (arith, ints, e)

module _ (tech : Tech) (s : Source) (flat : FlatLists) (k : IsLaidMacro tech s flat) (m : IsDrawnMemory s.plan s.kit s.wire s.tracks s.floorplan) (outer : Net → Shape) (are : AreOuterHubs s k.main outer) where
  at_level : (y z : ℤ) → y ≡ z → IsLevel s z → IsLevel s y
  at_level y z e = subst (IsLevel s) (sym e)

  power_level : (x y : ℤ) → IsPowerBarAt s.plan s.kit s.wire s.floorplan x y → IsLevel s y
  power_level x y (inl at) = at_level y (pos (s.kit.height Inv) -ℤ s.wire.width) at.1 (logic_power_level s k.sizes k.floor k.inside)
  power_level x y (inr (inl at)) = at_level y s.floorplan.write_y at.2 (write_level s k.sizes k.floor k.inside)
  power_level x y (inr (inr (inl at))) = at_level y (column_channel_y s.kit s.floorplan -ℤ s.wire.width) at.1 (sense_power_level s k.sizes k.floor k.inside)
  power_level x y (inr (inr (inr (inl at)))) = at_level y s.floorplan.column_y at.1 (column_level s k.sizes k.floor k.inside)
  power_level x y (inr (inr (inr (inr (inl (r, lt, odd, e, at)))))) = at_level y (row_y s.kit s.floorplan r) at (row_level s k.sizes k.floor k.inside r lt)
  power_level x y (inr (inr (inr (inr (inr at))))) = at_level y (upper_y s.kit s.floorplan -ℤ s.wire.width) at.1 (precharge_power_level s k.sizes k.floor k.inside)

  ground_level : (x y : ℤ) → IsGroundBarAt s.plan s.kit s.floorplan x y → IsLevel s y
  ground_level x y (inl at) = at_level y (pos 0) at.1 (logic_ground_level s k.sizes k.floor k.inside)
  ground_level x y (inr (inl at)) = at_level y s.floorplan.sense_y at.1 (sense_ground_level s k.sizes k.floor k.inside)
  ground_level x y (inr (inr (inl (r, lt, even, e, at)))) = at_level y (row_y s.kit s.floorplan r) at (row_level s k.sizes k.floor k.inside r lt)
  ground_level x y (inr (inr (inr at))) = at_level y s.floorplan.precharge_y at.1 (precharge_ground_level s k.sizes k.floor k.inside)

  before : (x t w : ℤ) → (x +ℤ w) ≤ℤ (t +ℤ w) → x ≤ℤ t
  before x t w le = omega (arith, ints, le)

  power_begins : (x y : ℤ) → IsPowerBarAt s.plan s.kit s.wire s.floorplan x y → x ≤ℤ trunk_x s.plan s.kit s.wire s.floorplan
  power_begins x y at = before x (trunk_x s.plan s.kit s.wire s.floorplan) s.wire.width (wide.contents s.plan s.kit s.wire s.tracks s.floorplan m k.build.words x (wide.power_from s.plan s.kit s.wire s.tracks s.floorplan m k.build.words x y at))

  ground_begins : (x y : ℤ) → IsGroundBarAt s.plan s.kit s.floorplan x y → x ≤ℤ ground_x s.plan s.kit s.wire s.floorplan
  ground_begins x y at =
      before x (ground_x s.plan s.kit s.wire s.floorplan) s.wire.width
      (wide.ground s.plan s.kit s.wire s.tracks s.floorplan m k.build.words x (wide.contents s.plan s.kit s.wire s.tracks s.floorplan m k.build.words x (wide.ground_from s.plan s.kit s.wire s.tracks s.floorplan m k.build.words x y at)))

  -- the same trunk
  one_trunk : (x : ℤ) (u hub : Shape) → IsSupplyTrunk s.kit s.wire s.floorplan x u → IsSupplyTrunk s.kit s.wire s.floorplan x hub → Contains flat.shapes hub → AreOnOneNet tech.connects flat.shapes u hub
  one_trunk x u hub a b listed =
      facing_joined tech.connects s flat k.by (slice_index s.wire.metals 1) u hub (metal_conducts tech.connects s.wire k.joins M2) a.on b.on
      (joined_within u.rect hub.rect (one_below hub.rect.x1 u.rect.x1 (b.left ∙ sym a.left)) (one_below u.rect.x2 hub.rect.x2 (a.right ∙ sym b.right)) (one_below hub.rect.y1 u.rect.y1 (b.low ∙ sym a.low)) (one_below u.rect.y2 hub.rect.y2 (a.high ∙ sym b.high))) listed

  -- A metal wire of vdd
  pub power_wire_joined : (u : Shape) → IsPowerWire s.plan s.kit s.wire s.floorplan u → ((x y : ℤ) → IsBar s.wire (trunk_x s.plan s.kit s.wire s.floorplan) x y u → IsBox (slice_index s.wire.metals 0) x y (trunk_x s.plan s.kit s.wire s.floorplan +ℤ s.wire.width) (y +ℤ s.wire.width) u) → AreOnOneNet tech.connects flat.shapes u (outer Vdd)
  power_wire_joined u (inl trunk) metal = one_trunk (trunk_x s.plan s.kit s.wire s.floorplan) u (outer Vdd) trunk are.power ((stated_are_parts tech.connects s flat k.by).wires Vdd (outer Vdd) (power_trunk_is tech s flat k.by k.joins k.sizes k.first (outer Vdd) are.power))
  power_wire_joined u (inr (x, y, at, bar)) metal =
      let box = metal x y bar in
      let level = power_level x y at in
      at_power_bar tech s flat k.by k.joins k.sizes k.first x y u (outer Vdd) at are.power (power_begins x y at) level.low level.high box.on (one_below x u.rect.x1 (sym box.left)) (one_below u.rect.x2 (trunk_x s.plan s.kit s.wire s.floorplan +ℤ s.wire.width) box.right) (record { is = inl (box.low, box.high) })

  -- and of gnd
  pub ground_wire_joined : (u : Shape) → IsGroundWire s.plan s.kit s.wire s.floorplan u → ((x y : ℤ) → IsBar s.wire (ground_x s.plan s.kit s.wire s.floorplan) x y u → IsBox (slice_index s.wire.metals 0) x y (ground_x s.plan s.kit s.wire s.floorplan +ℤ s.wire.width) (y +ℤ s.wire.width) u) → AreOnOneNet tech.connects flat.shapes u (outer Gnd)
  ground_wire_joined u (inl trunk) metal = one_trunk (ground_x s.plan s.kit s.wire s.floorplan) u (outer Gnd) trunk are.ground ((stated_are_parts tech.connects s flat k.by).wires Gnd (outer Gnd) (ground_trunk_is tech s flat k.by k.joins k.sizes k.first (outer Gnd) are.ground))
  ground_wire_joined u (inr (x, y, at, bar)) metal =
      let box = metal x y bar in
      let level = ground_level x y at in
      at_ground_bar tech s flat k.by k.joins k.sizes k.first x y u (outer Gnd) at are.ground (ground_begins x y at) level.low level.high box.on (one_below x u.rect.x1 (sym box.left)) (one_below u.rect.x2 (ground_x s.plan s.kit s.wire s.floorplan +ℤ s.wire.width) box.right) (record { is = inl (box.low, box.high) })

  -- Joiners of gnd, in a bank

  bank_end : (b : ℕ) → b < banks_of s.plan → (columns_end s.plan s.kit s.floorplan +ℤ (pos b *ℤ s.floorplan.bank_width)) ≤ℤ (ground_x s.plan s.kit s.wire s.floorplan +ℤ s.wire.width)
  bank_end b lt =
      by (columns_end s.plan s.kit s.floorplan) s.floorplan.bank_width (pos b *ℤ s.floorplan.bank_width) (pos (banks_of s.plan) *ℤ s.floorplan.bank_width) (s.floorplan.logic_x +ℤ pos (total_width s.plan s.kit (logic_cells s.plan))) s.wire.width s.wire.space
      k.floor.bank_width (banks_before b (banks_of s.plan) s.floorplan.bank_width lt (sides s.plan s.kit s.wire s.tracks s.floorplan k.sizes k.floor).wide) k.sizes.width.from k.sizes.space.from
    where
      by : (end bank d all logic w space : ℤ) → bank ≡ end → (d +ℤ bank) ≤ℤ all → pos 1 ≤ℤ w → pos 1 ≤ℤ space → (end +ℤ d) ≤ℤ (((int_max all logic +ℤ space) +ℤ (w +ℤ space)) +ℤ w)
      by end bank d all logic w space is le a b = omega (arith, ints, clamps, is, le, a, b)

  right_by : (x u d : ℤ) → u ≡ x +ℤ d → pos 0 ≤ℤ d → x ≤ℤ u
  right_by x u d is le = omega (arith, ints, is, le)

  offset_low : (b : ℕ) → pos 0 ≤ℤ (pos b *ℤ s.floorplan.bank_width)
  offset_low b = times_low b s.floorplan.bank_width (sides s.plan s.kit s.wire s.tracks s.floorplan k.sizes k.floor).wide

  up_to : (a z end : ℤ) → a ≡ z → z ≤ℤ end → a ≤ℤ end
  up_to a z end e le = omega (arith, ints, e, le)

  still : (a : ℤ) → a +ℤ pos 0 ≡ a
  still a = omega (arith, ints)

  row_zero : (a : ℤ) (h : ℕ) → a ≡ a +ℤ pos (0 * h)
  row_zero a h = omega (arith, ints)

  -- a joiner whose upper edge is where a bar begins
  joiner_joined : (b : ℕ) (x low y : ℤ) (inner u : Shape) → b < banks_of s.plan → IsBox (slice_index s.wire.metals 0) x low (columns_end s.plan s.kit s.floorplan) y inner → IsShifted (pos b *ℤ s.floorplan.bank_width) (pos 0) inner u → (bar : ℤ) → y ≡ bar → IsGroundBarAt s.plan s.kit s.floorplan x bar
      → AreOnOneNet tech.connects flat.shapes u (outer Gnd)
  joiner_joined b x low y inner u of_bank box shift bar is_bar at =
      let level = ground_level x bar at in
      let d = pos b *ℤ s.floorplan.bank_width in
      at_ground_bar tech s flat k.by k.joins k.sizes k.first x bar u (outer Gnd) at are.ground (ground_begins x bar at) level.low level.high (shift.layer ∙ box.on)
      (right_by x u.rect.x1 d (shift.x1 ∙ ap (λ (z : ℤ). z +ℤ d) box.left) (offset_low b)) (up_to u.rect.x2 (columns_end s.plan s.kit s.floorplan +ℤ d) (ground_x s.plan s.kit s.wire s.floorplan +ℤ s.wire.width) (shift.x2 ∙ ap (λ (z : ℤ). z +ℤ d) box.right) (bank_end b of_bank))
      (record { is = inr (shift.y2 ∙ (ap (λ (z : ℤ). z +ℤ pos 0) box.high ∙ (still y ∙ is_bar))) })

  pub write_joiner_joined : (b : ℕ) (inner u : Shape) → b < banks_of s.plan → IsWriteJoiner s.plan s.kit s.wire s.floorplan inner → IsShifted (pos b *ℤ s.floorplan.bank_width) (pos 0) inner u → AreOnOneNet tech.connects flat.shapes u (outer Gnd)
  write_joiner_joined b inner u of_bank joiner shift = joiner_joined b (columns_x s.plan s.kit s.floorplan) (s.floorplan.sense_y -ℤ s.wire.width) s.floorplan.sense_y inner u of_bank joiner.1 shift s.floorplan.sense_y refl (inr (inl (refl, refl)))

  pub corner_joiner_joined : (b : ℕ) (inner u : Shape) → b < banks_of s.plan → IsCornerJoiner s.plan s.kit s.wire s.floorplan inner → IsShifted (pos b *ℤ s.floorplan.bank_width) (pos 0) inner u → AreOnOneNet tech.connects flat.shapes u (outer Gnd)
  corner_joiner_joined b inner u of_bank joiner shift =
      joiner_joined b s.floorplan.row_x (s.floorplan.array_y -ℤ s.wire.width) s.floorplan.array_y inner u of_bank joiner shift (row_y s.kit s.floorplan 0) (row_zero s.floorplan.array_y (bit_height s.kit)) (inr (inr (inl (0, some_rows s.plan, refl, refl, refl))))
