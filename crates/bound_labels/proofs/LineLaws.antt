-- The nets of the array, and the lines of bits, are anchored: what lies opposite a pin's shape at a corner is joined with the shape beside it.
use Rattle.std.proofs.Common.{◌≡◌, ◌⊎◌, inl, inr, ℕ, zero, suc, ◌+◌, ◌*◌, ◌<◌, pos, ◌+ℤ◌, ◌*ℤ◌, List, [], ◌∷◌, Contains, length, Some, refl, sym, ap, subst, ◌∙◌, arith}
use Rattle.std.specs.Prelude.{slice_get, slice_index, ◌%◌, ◌==◌}
use Rattle.std.specs.List.{AllByRecursion}
use Rattle.std.proofs.lemmas.Int.{ints}
use Rattle.or_geom.specs.declared.shape.Shape.{Shape}
use Rattle.or_geom.specs.declared.place.Place.{Place}
use Rattle.netlist.specs.declared.rows.RowPin.{RowPin}
use Rattle.cell_roles.specs.declared.role.Role.{Role}
use Rattle.cell_roles.specs.declared.role.Role.TheVariants.{Driver, Write}
use Rattle.tech_rules.specs.declared.tech.Tech.{Tech}
use Rattle.tech_rules.specs.Net.{AreOnOneNet}
use Rattle.cell_hierarchy.specs.Plain.{FlatLists}
use Rattle.cell_hierarchy.specs.FlatSet.{IsMoved}
use Rattle.net_extractor.specs.PlainNetLabel.{PlainNetLabel}
use Rattle.sram_netlist.specs.Organization.{Organization, IsGroupSize, IsWritten, total_bits, power_of_two, bank_rows, columns_of, banks_of, words_per_row, inputs_of}
use Rattle.sram_netlist.specs.Nets.{Net, Zb, Wl}
use Rattle.sram_netlist.specs.Instances.{LeafInstance, BitAt, NandAt, DriverAt, WriteAt, SenseAt}
use Rattle.sram_netlist.specs.Netlist.{role, ports}
use Rattle.sram_netlist.specs.Membership.{HasLeafInstance}
use Rattle.sram_netlist.proofs.Bounds.{twice_above, written_all}
use Rattle.sram_rows.proofs.RowKinds.{some_rows}
use Rattle.macro_layout.specs.Places.{bank_x, column_x, gate_width, bit_height}
use Rattle.macro_layout.specs.Floorplan.{column_role}
use Rattle.macro_layout.specs.Cells.{column_leaf}
use Rattle.macro_layout.specs.Pins.{column_nets}
use Rattle.macro_layout.specs.Channels.{IsColumnChannel}
use Rattle.good_nets.proofs.CellLaws.{has_image}
use Rattle.good_nets.proofs.NetLaws.{net_back}
use Rattle.joined_nets.proofs.LineLaws.{bit_on_row}
use Rattle.joined_nets.proofs.FacingLaws.{wire_above}
use Rattle.joined_nets.proofs.WireNetLaws.{place_below}
use Rattle.kit_nets.specs.StatedParts.{Source}
use Rattle.kit_nets.proofs.ArrayNetLaws.{pin_of, pin_at, pin_listed}
use Rattle.kit_nets.proofs.ArrayHubLaws.{word_drawn, driver_in_drawn, driver_out_drawn, gate_drawn, bit_drawn, up_through, gate_faces, driver_faces, column_faces}
use Rattle.kit_nets.proofs.ArrayJoinLaws.{bit_line, some_columns, bit_place, gate_place, driver_place, column_place, array_hub, first_metal, second_metal, word_in_driver, gate_in_driver, bit_listed, line_in_bit, column_listed, line_in_column}
use Rattle.kit_nets.proofs.ArrayNetsLaws.{gate_on}
use Rattle.kit_nets.proofs.ChannelDrawnLaws.{moved_is_shifted, bank_shift, column_stands}
use Rattle.kit_nets.proofs.ColumnHubLaws.{bottom_branch, pin_shifted, zero_times}
use Rattle.kit_nets.proofs.DataHubLaws.{data_line, line_number, sense_on, write_on, slice_place, write_place, line_hub, data_hub, sense_drawn, write_drawn, line_in_write}
use Rattle.kit_nets.proofs.PinJoinLaws.{standing, facing_joined}
use Rattle.supply_nets.specs.LaidMacro.{IsLaidMacro}
use Rattle.label_nets.specs.Anchored.{IsMatchedMacro, IsAnchored}
use Rattle.bound_labels.proofs.SideLaws.{ends_in_row, met_west, met_north, met_south, BeginsOn, EndsUnder}
use Rattle.bound_labels.proofs.CaughtLaws.{IsMetBeside, anchored_beside}

-- a bank has more than one row
more_rows : (groups : List ℕ) → AllByRecursion IsGroupSize groups → (length groups ≡ 2) ⊎ (length groups ≡ 3) → 1 < power_of_two (total_bits groups)
more_rows [] sizes (inl e) = absurd (omega (arith, e))
more_rows [] sizes (inr e) = absurd (omega (arith, e))
more_rows (g ∷ gs) sizes e = by g (total_bits gs) sizes.0 where
  by : (g more : ℕ) → IsGroupSize g → 1 < power_of_two (g + more)
  by zero more (inl e) = absurd (omega (arith, e))
  by zero more (inr e) = absurd (omega (arith, e))
  by (suc g) more size = let t = twice_above (g + more) in let e : suc g + more ≡ suc (g + more) = omega arith in subst (λ (n : ℕ). 1 < power_of_two n) (sym e) (omega (arith, t))

column_is : (plan : Organization) (n b c : ℕ) → role plan (column_leaf n b c) ≡ column_role n
column_is plan zero b c = refl
column_is plan (suc n) b c = refl

on_bit : (plan : Organization) (port b r c : ℕ) → port < 2 → slice_get (ports plan (BitAt b r c)) port ≡ Some (bit_line port b c)
on_bit plan zero b r c lt = refl
on_bit plan (suc zero) b r c lt = refl
on_bit plan (suc (suc port)) b r c lt = absurd (omega (arith, lt))

module _ (tech : Tech) (s : Source) (flat : FlatLists) (k : IsLaidMacro tech s flat) (outer : Net → Shape) (labels : List PlainNetLabel) (rows : List RowPin) (m : IsMatchedMacro tech.connects s flat labels rows (array_hub s (data_hub s outer))) where
  abbrev H : Net → Shape
  H net = array_hub s (data_hub s outer) net

  abbrev OneNet : Shape → Shape → Type 0
  OneNet a b = AreOnOneNet tech.connects flat.shapes a b

  abbrev Anchored : Net → Type 0
  Anchored n = IsAnchored tech.connects s flat labels rows (array_hub s (data_hub s outer)) n

  abbrev Met : Net → Shape → Shape → Type 0
  Met n shape u = IsMetBeside tech.connects s flat labels rows (array_hub s (data_hub s outer)) m n shape u

  pin_moved : (leaf : LeafInstance) (place : Place) (port metal : ℕ) → IsMoved place (pin_of s leaf port metal) (pin_at s leaf place port metal)
  pin_moved leaf place port metal = record { layer = refl; image = (has_image place (pin_of s leaf port metal)).1.image }

  -- What a row's gate drives
  pub gate_anchored : (b r : ℕ) → b < banks_of s.plan → r < bank_rows s.plan → Anchored (Zb b r)
  gate_anchored b r of_bank of_row =
      let driver = pin_at s (DriverAt b r) (driver_place s b r) 0 0 in
      let gate = pin_at s (NandAt b r) (gate_place s b r) (length s.plan.groups) 0 in
      let on = gate_on s.plan.groups s.plan.col_bits r b r in
      let drawn = gate_drawn s k.pins k.build.groups in
      let ends = ends_in_row (r % 2 == 0) (gate_width s.plan s.kit) (bank_x s.floorplan b s.floorplan.row_x) (bank_x s.floorplan b (s.floorplan.row_x +ℤ pos (gate_width s.plan s.kit))) (s.floorplan.array_y +ℤ pos (r * bit_height s.kit)) (s.floorplan.array_y +ℤ pos ((r + 1) * bit_height s.kit))
      (pin_of s (NandAt b r) (length s.plan.groups) 0).rect (pin_of s (DriverAt b r) 0 0).rect gate.rect driver.rect (gate_faces s k.pins k.build.groups) (omega (arith, ints)) (pin_moved (NandAt b r) (gate_place s b r) (length s.plan.groups) 0).image (pin_moved (DriverAt b r) (driver_place s b r) 0 0).image in
      anchored_beside tech.connects s flat labels rows (array_hub s (data_hub s outer)) m (standing tech.connects s flat k.by (DriverAt b r) (of_bank, of_row) (driver_place s b r) refl) 0 (Zb b r) (pin_of s (DriverAt b r) 0 0) driver refl (driver_in_drawn s k.pins).bound (pin_moved (DriverAt b r) (driver_place s b r) 0 0)
      (pin_listed tech.connects s flat k.by (DriverAt b r) (driver_place s b r) 0 0 (Zb b r) (of_bank, of_row) refl refl (driver_in_drawn s k.pins).bound).listed (first_metal tech.connects s flat k.by k.joins k.pins k.build k.floor)
      (λ u p in_u in_s o. record {
        t = gate;
        listed = (pin_listed tech.connects s flat k.by (NandAt b r) (gate_place s b r) (length s.plan.groups) 0 (Zb b r) (of_bank, of_row) refl on drawn.bound).listed;
        layer = refl;
        joined = met_west u.rect driver.rect gate.rect p in_u in_s o ends;
        net = gate_in_driver tech.connects s flat k.by k.joins k.pins k.build k.floor b r of_bank of_row on;
      })

  -- A word line
  pub word_anchored : (b r : ℕ) → b < banks_of s.plan → r < bank_rows s.plan → Anchored (Wl b r)
  word_anchored b r of_bank of_row =
      let some = some_columns s.plan k.build in
      let bit = pin_at s (BitAt b r 0) (bit_place s b r 0) 2 0 in
      let driver = pin_at s (DriverAt b r) (driver_place s b r) 2 0 in
      let ends = ends_in_row (r % 2 == 0) (s.kit.width Driver) (bank_x s.floorplan b (s.floorplan.row_x +ℤ pos (gate_width s.plan s.kit))) (bank_x s.floorplan b (column_x s.plan s.kit s.floorplan 0)) (s.floorplan.array_y +ℤ pos (r * bit_height s.kit)) (s.floorplan.array_y +ℤ pos ((r + 1) * bit_height s.kit))
      (pin_of s (DriverAt b r) 2 0).rect (pin_of s (BitAt b r 0) 2 0).rect driver.rect bit.rect (driver_faces s k.pins) (omega (arith, ints)) (pin_moved (DriverAt b r) (driver_place s b r) 2 0).image (pin_moved (BitAt b r 0) (bit_place s b r 0) 2 0).image in
      anchored_beside tech.connects s flat labels rows (array_hub s (data_hub s outer)) m (standing tech.connects s flat k.by (BitAt b r 0) (of_bank, (of_row, some)) (bit_place s b r 0) refl) 2 (Wl b r) (pin_of s (BitAt b r 0) 2 0) bit refl (word_drawn s k.pins).bound (pin_moved (BitAt b r 0) (bit_place s b r 0) 2 0)
      (pin_listed tech.connects s flat k.by (BitAt b r 0) (bit_place s b r 0) 2 0 (Wl b r) (of_bank, (of_row, some)) refl refl (word_drawn s k.pins).bound).listed (first_metal tech.connects s flat k.by k.joins k.pins k.build k.floor)
      (λ u p in_u in_s o. record {
        t = driver;
        listed = (pin_listed tech.connects s flat k.by (DriverAt b r) (driver_place s b r) 2 0 (Wl b r) (of_bank, of_row) refl refl (driver_out_drawn s k.pins).bound).listed;
        layer = refl;
        joined = met_west u.rect bit.rect driver.rect p in_u in_s o ends;
        net = word_in_driver tech.connects s flat k.by k.joins k.pins k.build k.floor b r of_bank of_row some;
      })

  -- A bit line, by its shape in the lowest bitcell

  line_is : (port b c : ℕ) → port < 2 → H (bit_line port b c) ≡ pin_at s (BitAt b 0 c) (bit_place s b 0 c) port 1
  line_is zero b c lt = refl
  line_is (suc zero) b c lt = refl
  line_is (suc (suc port)) b c lt = absurd (omega (arith, lt))

  column_under : (port b c : ℕ) (lt : port < 2) (of_bank : b < banks_of s.plan) (of_column : c < columns_of s.plan) → EndsUnder (pin_at s (column_leaf s.plan.col_bits b c) (column_place s b c) port 1).rect (pin_at s (BitAt b 0 c) (bit_place s b 0 c) port 1).rect
  column_under port b c lt of_bank of_column =
      let n = s.plan.col_bits in
      let x = bank_x s.floorplan b (column_x s.plan s.kit s.floorplan c) in
      let bit = bit_listed tech.connects s flat k.by k.joins k.pins k.build k.floor port b 0 c lt of_bank (some_rows s.plan) of_column in
      let on = bit_on_row s.plan s.kit s.floorplan port (up_through s k.pins port lt) b 0 c (bit_line port b c) (pin_at s (BitAt b 0 c) (bit_place s b 0 c) port 1).rect bit.pin in
      let at = pin_shifted s (column_leaf n b c) x s.floorplan.column_y port 1 in
      let faces = column_faces s k.pins n port lt in
      let same_x : (pin_of s (column_leaf n b c) port 1).rect.x1 ≡ (s.kit.pin (column_role n) port 1).x1 = ap (λ (r : Role). (s.kit.pin r port 1).x1) (column_is s.plan n b c) in
      let same_y : (pin_of s (column_leaf n b c) port 1).rect.y2 ≡ (s.kit.pin (column_role n) port 1).y2 = ap (λ (r : Role). (s.kit.pin r port 1).y2) (column_is s.plan n b c) in
      let a1 = at.x1 in
      let a2 = at.y2 in
      let o1 = on.left in
      let o2 = on.low in
      let f1 = faces.left in
      let f2 = faces.ends in
      let up = k.floor.array_y in
      record { left = omega (arith, ints, a1, o1, f1, same_x); high = omega (arith, ints, a2, o2, f2, same_y, up) }

  row_over : (port b c : ℕ) (lt : port < 2) (of_bank : b < banks_of s.plan) (of_column : c < columns_of s.plan) (more : 1 < bank_rows s.plan) → BeginsOn (pin_at s (BitAt b 1 c) (bit_place s b 1 c) port 1).rect (pin_at s (BitAt b 0 c) (bit_place s b 0 c) port 1).rect
  row_over port b c lt of_bank of_column more =
      let up = up_through s k.pins port lt in
      let bit = bit_listed tech.connects s flat k.by k.joins k.pins k.build k.floor port b 0 c lt of_bank (some_rows s.plan) of_column in
      let next = bit_listed tech.connects s flat k.by k.joins k.pins k.build k.floor port b 1 c lt of_bank more of_column in
      let on = bit_on_row s.plan s.kit s.floorplan port up b 0 c (bit_line port b c) (pin_at s (BitAt b 0 c) (bit_place s b 0 c) port 1).rect bit.pin in
      let over = bit_on_row s.plan s.kit s.floorplan port up b 1 c (bit_line port b c) (pin_at s (BitAt b 1 c) (bit_place s b 1 c) port 1).rect next.pin in
      record { left = over.left ∙ sym on.left; low = over.low ∙ sym on.high }

  pub bit_anchored : (port b c : ℕ) → port < 2 → b < banks_of s.plan → c < columns_of s.plan → Anchored (bit_line port b c)
  bit_anchored port b c lt of_bank of_column =
      let n = s.plan.col_bits in
      let some = some_rows s.plan in
      let more = more_rows s.plan.groups k.build.sizes k.build.groups in
      let bit = pin_at s (BitAt b 0 c) (bit_place s b 0 c) port 1 in
      let next = pin_at s (BitAt b 1 c) (bit_place s b 1 c) port 1 in
      let column = pin_at s (column_leaf n b c) (column_place s b c) port 1 in
      let hub = sym (line_is port b c lt) in
      anchored_beside tech.connects s flat labels rows (array_hub s (data_hub s outer)) m (standing tech.connects s flat k.by (BitAt b 0 c) (of_bank, (some, of_column)) (bit_place s b 0 c) refl) port (bit_line port b c) (pin_of s (BitAt b 0 c) port 1) bit (on_bit s.plan port b 0 c lt) (bit_drawn s k.pins port lt).bound
      (pin_moved (BitAt b 0 c) (bit_place s b 0 c) port 1) (bit_listed tech.connects s flat k.by k.joins k.pins k.build k.floor port b 0 c lt of_bank some of_column).listed (second_metal tech.connects s flat k.by k.joins k.pins k.build k.floor)
      (λ u p in_u in_s o. elim o.across [
        | inl y ↦ record {
          t = column;
          listed = (column_listed tech.connects s flat k.by k.joins k.pins k.build k.floor n port b c lt refl of_bank of_column).listed;
          layer = refl;
          joined = met_south u.rect bit.rect column.rect p in_u o y (column_under port b c lt of_bank of_column);
          net = subst (OneNet column) hub (line_in_column tech.connects s flat k.by k.joins k.pins k.build k.floor n port b c lt refl of_bank of_column);
        }
        | inr y ↦ record {
          t = next;
          listed = (bit_listed tech.connects s flat k.by k.joins k.pins k.build k.floor port b 1 c lt of_bank more of_column).listed;
          layer = refl;
          joined = met_north u.rect bit.rect next.rect p in_u o y (row_over port b c lt of_bank of_column more);
          net = subst (OneNet next) hub (line_in_bit tech.connects s flat k.by k.joins k.pins k.build k.floor port b 1 c lt of_bank more of_column);
        }
      ])

  -- A line of a bit behind multiplexers, by its shape in the sense cell

  write_under : (port b i : ℕ) → port < 2 → IsWritten s.plan → EndsUnder (pin_at s (WriteAt b i) (write_place s b i) (suc port) 1).rect (line_hub s port b i).rect
  write_under port b i lt written =
      let x = bank_x s.floorplan b (column_x s.plan s.kit s.floorplan (i * words_per_row s.plan)) in
      let sense = pin_shifted s (SenseAt b i) x s.floorplan.sense_y port 1 in
      let write = pin_shifted s (WriteAt b i) x s.floorplan.write_y (suc port) 1 in
      let s1 = sense.x1 in
      let s2 = sense.y1 in
      let w1 = write.x1 in
      let w2 = write.y2 in
      let left = k.pins.facing.write port lt in
      let low = (sense_drawn s k.pins port lt).fits.1 in
      let high = (write_drawn s k.pins port lt).fits.0 in
      let up = k.floor.sense_y ∙ ap (λ (h : ℕ). s.floorplan.write_y +ℤ pos h) (written_all s.plan.write_size (s.kit.height Write) written) in
      record { left = omega (arith, ints, s1, w1, left); high = omega (arith, ints, s2, w2, low, high, up) }

  -- the branch of the column channel over it
  record HasBranchOver (port b i : ℕ) : Type 0 where
    branch : Shape
    listed : Contains flat.shapes branch
    layer : branch.layer ≡ slice_index s.wire.metals 1
    over : BeginsOn branch.rect (line_hub s port b i).rect
    net : OneNet branch (line_hub s port b i)

  branch_over : (port b i : ℕ) → port < 2 → b < banks_of s.plan → i < s.plan.word_size → HasBranchOver port b i
  branch_over port b i lt of_bank of_bit =
      let c = k.column in
      let line = line_hub s port b i in
      let number = line_number s.plan port i lt of_bit in
      let few = place_below (column_nets s.plan) number.0 (data_line s.plan.col_bits port 0 i) number.1 in
      let count = c.routed.meant.nets in
      let at_home : HasLeafInstance s.plan (SenseAt 0 i) = (omega (arith, of_bank), of_bit) in
      let drawn = sense_drawn s k.pins port lt in
      let home = pin_listed tech.connects s flat k.by (SenseAt 0 i) (slice_place s 0 i) port 1 (data_line s.plan.col_bits port 0 i) at_home refl (sense_on s.plan port 0 i lt) drawn.bound in
      let here = pin_listed tech.connects s flat k.by (SenseAt b i) (slice_place s b i) port 1 (data_line s.plan.col_bits port b i) (of_bank, of_bit) refl (sense_on s.plan port b i lt) drawn.bound in
      let x = (pin_at s (SenseAt 0 i) (slice_place s 0 i) port 1).rect.x1 in
      let pin = (c.routed.meant.bottom number.0 x).1 (data_line s.plan.col_bits port 0 i, number.1, (i, port, record { rect = (pin_at s (SenseAt 0 i) (slice_place s 0 i) port 1).rect; is = home.pin; begins = refl })) in
      let branch = bottom_branch (IsColumnChannel s.plan s.kit s.wire s.floorplan) s.wire s.tracks.column k.sizes c number.0 x (omega (arith, few, count)) pin in
      let image = has_image (bank_shift tech s flat k.by k.joins k.sizes k.first c b) branch.0 in
      let u = image.0 in
      let shift = moved_is_shifted (pos b *ℤ s.floorplan.bank_width) (pos 0) branch.0 u image.1 in
      let up = pin_shifted s (SenseAt b i) (bank_x s.floorplan b (column_x s.plan s.kit s.floorplan (i * words_per_row s.plan))) s.floorplan.sense_y port 1 in
      let there = pin_shifted s (SenseAt 0 i) (bank_x s.floorplan 0 (column_x s.plan s.kit s.floorplan (i * words_per_row s.plan))) s.floorplan.sense_y port 1 in
      let none = zero_times s.floorplan.bank_width in
      let low = c.routed.meant.low in
      let high = drawn.fits.0 in
      let b1 = branch.2.box.left in
      let b2 = branch.2.box.low in
      let b3 = branch.2.box.right in
      let s1 = shift.x1 in
      let s2 = shift.y1 in
      let s3 = shift.x2 in
      let h1 = up.x1 in
      let h2 = up.y2 in
      let t1 = there.x1 in
      let left : u.rect.x1 ≡ line.rect.x1 = omega (arith, ints, none, b1, s1, h1, t1) in
      let bottom : u.rect.y1 ≡ line.rect.y2 = omega (arith, ints, low, high, b2, s2, h2) in
      let on : u.layer ≡ slice_index s.wire.metals 1 = shift.layer ∙ branch.2.box.on in
      let listed = column_stands tech s flat k.by k.joins k.sizes k.first c b number.0 branch.0 u of_bank branch.2.of image.1 in
      let joined = wire_above (slice_index s.wire.metals 1) u.rect.x1 u.rect.y1 u.rect.y2 s.wire.width line.rect u k.sizes.width.from (sym left) (sym bottom) (record { on = on; left = refl; low = refl; right = omega (arith, ints, b1, b3, s1, s3); high = refl }) in
      record {
        branch = u;
        listed = listed;
        layer = on;
        over = record { left = left; low = bottom };
        net = net_back tech.connects flat.shapes line u here.listed (facing_joined tech.connects s flat k.by (slice_index s.wire.metals 1) line u (second_metal tech.connects s flat k.by k.joins k.pins k.build k.floor) refl on joined listed);
      }

  line_anchored : (port b i : ℕ) (lt : port < 2) → IsWritten s.plan → b < banks_of s.plan → i < s.plan.word_size → H (data_line s.plan.col_bits port b i) ≡ line_hub s port b i → Anchored (data_line s.plan.col_bits port b i)
  line_anchored port b i lt written of_bank of_bit hub_is =
      let line = line_hub s port b i in
      let write = pin_at s (WriteAt b i) (write_place s b i) (suc port) 1 in
      let of_input : i < inputs_of s.plan = subst (λ (n : ℕ). i < n) (sym (written_all s.plan.write_size s.plan.word_size written)) of_bit in
      let on = sense_on s.plan port b i lt in
      let drawn = sense_drawn s k.pins port lt in
      let over = branch_over port b i lt of_bank of_bit in
      anchored_beside tech.connects s flat labels rows (array_hub s (data_hub s outer)) m (standing tech.connects s flat k.by (SenseAt b i) (of_bank, of_bit) (slice_place s b i) refl) port (data_line s.plan.col_bits port b i) (pin_of s (SenseAt b i) port 1) line on drawn.bound (pin_moved (SenseAt b i) (slice_place s b i) port 1)
      (pin_listed tech.connects s flat k.by (SenseAt b i) (slice_place s b i) port 1 (data_line s.plan.col_bits port b i) (of_bank, of_bit) refl on drawn.bound).listed (second_metal tech.connects s flat k.by k.joins k.pins k.build k.floor)
      (λ u p in_u in_s o. elim o.across [
        | inl y ↦ record {
          t = write;
          listed = (pin_listed tech.connects s flat k.by (WriteAt b i) (write_place s b i) (suc port) 1 (data_line s.plan.col_bits port b i) (of_bank, of_input) refl (write_on s.plan port b i lt) (write_drawn s k.pins port lt).bound).listed;
          layer = refl;
          joined = met_south u.rect line.rect write.rect p in_u o y (write_under port b i lt written);
          net = subst (OneNet write) (sym hub_is) (line_in_write tech s flat k.by k.joins k.sizes k.first k.pins k.build k.floor k.column port b i lt of_bank of_input);
        }
        | inr y ↦ record {
          t = over.branch;
          listed = over.listed;
          layer = over.layer;
          joined = met_north u.rect line.rect over.branch.rect p in_u o y over.over;
          net = subst (OneNet over.branch) (sym hub_is) over.net;
        }
      ])

  -- (Where a row has one word the line is a bit line.)
  pub data_anchored : (port b i : ℕ) → port < 2 → IsWritten s.plan → b < banks_of s.plan → i < s.plan.word_size → Anchored (data_line s.plan.col_bits port b i)
  data_anchored port b i lt written of_bank of_bit = by s.plan.col_bits refl port lt where
    of_column : s.plan.col_bits ≡ 0 → i < columns_of s.plan
    of_column none = let whole : columns_of s.plan ≡ s.plan.word_size * 1 = ap (λ (n : ℕ). s.plan.word_size * power_of_two n) none in omega (arith, of_bit, whole)

    behind : (n port : ℕ) → s.plan.col_bits ≡ n → (lt : port < 2) → H (data_line n port b i) ≡ line_hub s port b i → Anchored (data_line n port b i)
    behind n port e lt is = subst (λ (c : ℕ). Anchored (data_line c port b i)) e (line_anchored port b i lt written of_bank of_bit (subst (λ (c : ℕ). H (data_line c port b i) ≡ line_hub s port b i) (sym e) is))

    by : (n : ℕ) → s.plan.col_bits ≡ n → (port : ℕ) → port < 2 → Anchored (data_line n port b i)
    by zero e zero lt = bit_anchored 0 b i lt of_bank (of_column e)
    by zero e (suc zero) lt = bit_anchored 1 b i lt of_bank (of_column e)
    by (suc n) e zero lt = behind (suc n) 0 e lt refl
    by (suc n) e (suc zero) lt = behind (suc n) 1 e lt refl
    by n e (suc (suc port)) lt = absurd (omega (arith, lt))
