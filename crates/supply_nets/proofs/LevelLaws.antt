-- Heights of supply bars: each lies between the macro's lower and upper edge.
use Rattle.std.proofs.Common.{◌≡◌, ℕ, ◌+◌, ◌*◌, ◌<◌, ◌≤◌, ℤ, pos, ◌≤ℤ◌, ◌+ℤ◌, ◌-ℤ◌, ◌*ℤ◌, refl, arith}
use Rattle.std.proofs.lemmas.Int.{ints}
use Rattle.cell_roles.specs.declared.role.Role.TheVariants.{Bitcell, Precharge, Sense, Inv}
use Rattle.wire_drawing.specs.Drawing.{pitch}
use Rattle.tech_rules.specs.Facts.{AreSizes}
use Rattle.channel_router.specs.Wires.{channel_height}
use Rattle.sram_netlist.specs.Organization.{bank_rows}
use Rattle.macro_layout.specs.Places.{bit_height}
use Rattle.macro_layout.specs.Floorplan.{IsFloorplan, column_role, column_channel_y, upper_y, write_height}
use Rattle.macro_layout.specs.Wires.{row_y}
use Rattle.good_places.proofs.NumberLaws.{all_of, times_low}
use Rattle.good_wires.specs.Drawn.{PinsFit}
use Rattle.kit_nets.specs.StatedParts.{Source}

-- a bar at this height lies inside of the macro
pub record IsLevel (s : Source) (y : ℤ) : Type 0 where
  pub low : pos 0 ≤ℤ y
  pub high : (y +ℤ s.wire.width) ≤ℤ upper_y s.kit s.floorplan

-- rows above each other: the heights of their cells, where they begin, and the widths of wires
record Stack : Type 0 where
  logic : ℕ
  sense : ℕ
  columns : ℕ
  rows : ℕ
  precharge : ℕ
  write_y : ℤ
  sense_y : ℤ
  channel_y : ℤ
  column_y : ℤ
  array_y : ℤ
  precharge_y : ℤ
  upper_y : ℤ
  width : ℤ
  write_low : pos logic ≤ℤ write_y
  sense_low : write_y ≤ℤ sense_y
  channel_is : channel_y ≡ sense_y +ℤ pos sense
  column_low : channel_y ≤ℤ column_y
  array_is : array_y ≡ column_y +ℤ pos columns
  precharge_is : precharge_y ≡ array_y +ℤ pos rows
  upper_is : upper_y ≡ precharge_y +ℤ pos precharge
  some : pos 1 ≤ℤ width
  over_logic : width ≤ℤ pos logic
  over_sense : width ≤ℤ pos sense
  over_columns : width ≤ℤ pos columns
  over_precharge : width ≤ℤ pos precharge

-- a bar at this height lies inside of the stack
record LiesIn (k : Stack) (y : ℤ) : Type 0 where
  low : pos 0 ≤ℤ y
  high : (y +ℤ k.width) ≤ℤ k.upper_y

module _ (k : Stack) where
  in_logic : LiesIn k (pos 0)
  in_logic = record { low = omega (arith, ints); high = omega (arith, ints) }

  over_logic : LiesIn k (pos k.logic -ℤ k.width)
  over_logic = record { low = omega (arith, ints); high = omega (arith, ints) }

  in_write : LiesIn k k.write_y
  in_write = record { low = omega (arith, ints); high = omega (arith, ints) }

  in_sense : LiesIn k k.sense_y
  in_sense = record { low = omega (arith, ints); high = omega (arith, ints) }

  over_sense : LiesIn k (k.channel_y -ℤ k.width)
  over_sense = record { low = omega (arith, ints); high = omega (arith, ints) }

  in_column : LiesIn k k.column_y
  in_column = record { low = omega (arith, ints); high = omega (arith, ints) }

  in_row : (low high : ℕ) → low + high ≤ k.rows → k.width ≤ℤ pos high → LiesIn k (k.array_y +ℤ pos low)
  in_row low high within tall = record { low = omega (arith, ints, within, tall); high = omega (arith, ints, within, tall) }

  in_precharge : LiesIn k k.precharge_y
  in_precharge = record { low = omega (arith, ints); high = omega (arith, ints) }

  under_row : (n : ℕ) → k.write_y ≤ℤ (k.array_y +ℤ pos n)
  under_row n = omega (arith, ints)

  under_precharge : k.write_y ≤ℤ k.precharge_y
  under_precharge = omega (arith, ints)

  over_precharge : LiesIn k (k.upper_y -ℤ k.width)
  over_precharge = record { low = omega (arith, ints); high = omega (arith, ints) }

further : (a h z : ℤ) → pos 0 ≤ℤ h → z ≡ a +ℤ h → a ≤ℤ z
further a h z low is = omega (arith, ints, low, is)

over : (a z : ℤ) (h : ℕ) → z ≡ a +ℤ pos h → a ≤ℤ z
over a z h is = omega (arith, ints, is)

module _ (s : Source) (sizes : AreSizes s.wire) (floor : IsFloorplan s.plan s.kit s.wire s.tracks s.floorplan) (inside : PinsFit s.kit s.wire) where
  some_channel : (n : ℕ) → pos 0 ≤ℤ channel_height s.wire n
  some_channel n = by s.wire.space (pos n *ℤ pitch s.wire) sizes.space.from (times_low n (pitch s.wire) (pitch_low s.wire.space s.wire.width sizes.space.from sizes.width.from)) where
    pitch_low : (space width : ℤ) → pos 1 ≤ℤ space → pos 1 ≤ℤ width → pos 0 ≤ℤ (width +ℤ space)
    pitch_low space width a b = omega (arith, ints, a, b)

    by : (space all : ℤ) → pos 1 ≤ℤ space → pos 0 ≤ℤ all → pos 0 ≤ℤ (space +ℤ all)
    by space all a b = omega (arith, ints, a, b)

  abbrev stack : Stack
  stack = record {
    logic = s.kit.height Inv;
    sense = s.kit.height Sense;
    columns = s.kit.height (column_role s.plan.col_bits);
    rows = bank_rows s.plan * bit_height s.kit;
    precharge = s.kit.height Precharge;
    write_y = s.floorplan.write_y;
    sense_y = s.floorplan.sense_y;
    channel_y = column_channel_y s.kit s.floorplan;
    column_y = s.floorplan.column_y;
    array_y = s.floorplan.array_y;
    precharge_y = s.floorplan.precharge_y;
    upper_y = upper_y s.kit s.floorplan;
    width = s.wire.width;
    write_low = further (pos (s.kit.height Inv)) (channel_height s.wire s.tracks.main) s.floorplan.write_y (some_channel s.tracks.main) floor.write_y;
    sense_low = over s.floorplan.write_y s.floorplan.sense_y (write_height s.plan s.kit) floor.sense_y;
    channel_is = refl;
    column_low = further (column_channel_y s.kit s.floorplan) (channel_height s.wire s.tracks.column) s.floorplan.column_y (some_channel s.tracks.column) floor.column_y;
    array_is = floor.array_y;
    precharge_is = floor.precharge_y;
    upper_is = refl;
    some = sizes.width.from;
    over_logic = inside.cells Inv;
    over_sense = inside.cells Sense;
    over_columns = inside.cells (column_role s.plan.col_bits);
    over_precharge = inside.cells Precharge;
  }

  level : (y : ℤ) → LiesIn stack y → IsLevel s y
  level y lies = record { low = lies.low; high = lies.high }

  -- Each bar does: of the logic row,
  pub logic_ground_level : IsLevel s (pos 0)
  logic_ground_level = level (pos 0) (in_logic stack)

  pub logic_power_level : IsLevel s (pos (s.kit.height Inv) -ℤ s.wire.width)
  logic_power_level = level (pos (s.kit.height Inv) -ℤ s.wire.width) (over_logic stack)

  -- of write and sense cells,
  pub write_level : IsLevel s s.floorplan.write_y
  write_level = level s.floorplan.write_y (in_write stack)

  pub sense_ground_level : IsLevel s s.floorplan.sense_y
  sense_ground_level = level s.floorplan.sense_y (in_sense stack)

  pub sense_power_level : IsLevel s (column_channel_y s.kit s.floorplan -ℤ s.wire.width)
  sense_power_level = level (column_channel_y s.kit s.floorplan -ℤ s.wire.width) (over_sense stack)

  -- of columns' ends and rows,
  pub column_level : IsLevel s s.floorplan.column_y
  column_level = level s.floorplan.column_y (in_column stack)

  pub row_level : (r : ℕ) → r < bank_rows s.plan → IsLevel s (row_y s.kit s.floorplan r)
  row_level r lt = level (row_y s.kit s.floorplan r) (in_row stack (r * bit_height s.kit) (bit_height s.kit) (all_of r (bank_rows s.plan) (bit_height s.kit) lt) (inside.cells Bitcell))

  -- and of precharge cells.
  pub precharge_ground_level : IsLevel s s.floorplan.precharge_y
  precharge_ground_level = level s.floorplan.precharge_y (in_precharge stack)

  pub precharge_power_level : IsLevel s (upper_y s.kit s.floorplan -ℤ s.wire.width)
  precharge_power_level = level (upper_y s.kit s.floorplan -ℤ s.wire.width) (over_precharge stack)

  -- Above the write cells' lower edge stand the sense cells, the rows and the precharge cells.
  pub write_under_sense : s.floorplan.write_y ≤ℤ s.floorplan.sense_y
  write_under_sense = stack.sense_low

  pub write_under_row : (r : ℕ) → s.floorplan.write_y ≤ℤ row_y s.kit s.floorplan r
  write_under_row r = under_row stack (r * bit_height s.kit)

  pub write_under_precharge : s.floorplan.write_y ≤ℤ s.floorplan.precharge_y
  write_under_precharge = under_precharge stack
