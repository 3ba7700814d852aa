-- The column channel by formula, from the left end of the columns and the lower edge of the data.
use Rattle.std.specs.Prelude.{◌≡◌, ◌<◌, ◌≤◌, ℕ, zero, suc, ◌+◌, ◌*◌, ◌/◌, ◌%◌, ℤ, pos, ◌+ℤ◌, ◌-ℤ◌, ◌*ℤ◌, List, [], ◌∷◌, ◌++◌}
use Rattle.cell_roles.specs.declared.role.Role.TheVariants.{Mux, Tie, Sense}
use Rattle.tech_rules.specs.declared.tech.Wire.{Wire}
use Rattle.wire_drawing.specs.Drawing.{pitch}
use Rattle.channel_router.specs.declared.channel.Channel.{Channel}
use Rattle.channel_router.specs.declared.channel.ChannelPin.{ChannelPin}
use Rattle.sram_netlist.specs.Organization.{Organization, words_per_row, columns_of}
use Rattle.sram_netlist.specs.InstanceList.{tabulate, tabulate_lists}
use Rattle.macro_layout.specs.LayoutKit.{LayoutKit}
use Rattle.macro_layout.specs.Places.{bit_width, drive_width}
use Rattle.macro_layout.specs.Floorplan.{choice_count, write_height}
use Rattle.leaf_tables.specs.NearLeaf.{IsLeafLength}
use Rattle.port_data.specs.declared.columns.Columns.{Columns}
use Rattle.port_data.specs.declared.lines.LineEnds.{LineEnds}

-- both lines begin in the cell
pub record AreNearEnds (ends : LineEnds) : Type 0 where
  pub lo : IsLeafLength ends.lo
  pub ro : IsLeafLength ends.ro

-- the columns of a bank
abbrev pub columns_in : Organization → LayoutKit → Columns
columns_in plan kit = record { bits = plan.word_size; words = words_per_row plan; count = columns_of plan; choices = choice_count plan.col_bits; width = bit_width kit }

-- there are at most 256, and words of a row divide them into bits
pub record AreFewColumns (columns : Columns) : Type 0 where
  pub words : 0 < columns.words
  pub count : columns.count ≤ 256
  pub product : columns.count ≡ columns.bits * columns.words
  pub choices : columns.choices ≤ 8
  pub width : columns.width ≤ 65536

-- a net's pin that begins so far right in a cell that begins at x
abbrev pub pin_in : ℕ → ℕ → ℤ → ChannelPin
pin_in net x left = record { x = pos x +ℤ left; net = net }

-- The pins of the two lines of a bit, in a cell that begins at x. Nets are the column choices, and then the two lines of each bit.
abbrev pub line_pins : ℕ → LineEnds → ℕ → ℕ → List ChannelPin
line_pins choices ends bit x = pin_in (choices + 2 * bit) x ends.lo ∷ pin_in (choices + 2 * bit + 1) x ends.ro ∷ []

-- At the top

-- bl and br of a tie where there are no column bits, or else blo and bro of a multiplexer, on the fourth metal
abbrev pub column_ends : ℕ → LayoutKit → LineEnds
column_ends zero kit = record { lo = (kit.pin Tie 0 3).x1; ro = (kit.pin Tie 1 3).x1 }
column_ends (suc col_bits) kit = record { lo = (kit.pin Mux 2 3).x1; ro = (kit.pin Mux 3 3).x1 }

abbrev pub column_lines : Columns → LineEnds → ℕ → List ChannelPin
column_lines columns ends c = line_pins columns.choices ends (c / columns.words) (c * columns.width)

-- sel of a multiplexer
abbrev pub column_choice : Columns → ℤ → ℕ → ChannelPin
column_choice columns left c = pin_in (c % columns.words) (c * columns.width) left

abbrev pub choice_pins : ℕ → LayoutKit → Columns → List ChannelPin
choice_pins zero kit columns = []
choice_pins (suc col_bits) kit columns = tabulate columns.count (column_choice columns (kit.pin Mux 4 3).x1)

abbrev pub top_pins : ℕ → LayoutKit → Columns → List ChannelPin
top_pins col_bits kit columns = tabulate_lists columns.count (column_lines columns (column_ends col_bits kit)) ++ choice_pins col_bits kit columns

-- At the bottom

-- bl and br of a sense cell, on the second metal
abbrev pub sense_ends : LayoutKit → LineEnds
sense_ends kit = record { lo = (kit.pin Sense 0 1).x1; ro = (kit.pin Sense 1 1).x1 }

abbrev pub sense_lines : Columns → LineEnds → ℕ → List ChannelPin
sense_lines columns ends i = line_pins columns.choices ends i ((i * columns.words) * columns.width)

abbrev pub bottom_pins : LayoutKit → Columns → List ChannelPin
bottom_pins kit columns = tabulate_lists columns.bits (sense_lines columns (sense_ends kit))

-- Exits

-- choice k leaves at its rail, which is as many pitches before the rows as there are choices from it on
abbrev pub exit_at : ℕ → ℕ → ℤ → ℕ → ChannelPin
exit_at choices drive pitch k = record { x = pos 0 -ℤ (((pos choices -ℤ pos k) *ℤ pitch) +ℤ pos drive); net = k }

-- the width of a row's gate and driver
pub record IsDriveWidth (plan : Organization) (kit : LayoutKit) (width : ℕ) : Type 0 where
  pub is : width ≡ drive_width plan kit
  pub few : width ≤ 131072

abbrev pub column_channel : Organization → LayoutKit → Wire → Channel
column_channel plan kit wire = record {
  low = pos (write_height plan kit + kit.height Sense);
  top = top_pins plan.col_bits kit (columns_in plan kit);
  bottom = bottom_pins kit (columns_in plan kit);
  exits = tabulate (choice_count plan.col_bits) (exit_at (choice_count plan.col_bits) (drive_width plan kit) (pitch wire));
  nets = choice_count plan.col_bits + 2 * plan.word_size;
}
