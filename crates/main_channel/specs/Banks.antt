-- The pins of the banks, one by one: those of their rails, and of their write and sense cells.
use Rattle.std.specs.Prelude.{ℕ, zero, suc, ◌+◌, ◌*◌, ℤ, pos, ◌+ℤ◌, ◌*ℤ◌, List, [], ◌++◌, map, length, get_or, Option}
use Rattle.cell_roles.specs.declared.role.Role.{Role}
use Rattle.cell_roles.specs.declared.role.Role.TheVariants.{Bitcell, Sense, Write, Driver}
use Rattle.channel_router.specs.declared.channel.ChannelPin.{ChannelPin}
use Rattle.sram_netlist.specs.Organization.{Organization, words_per_row}
use Rattle.sram_netlist.specs.Nets.{D, Dout}
use Rattle.sram_netlist.specs.Netlist.{row_gate, enable_at, mask_of}
use Rattle.sram_netlist.specs.Names.{net_name}
use Rattle.sram_netlist.specs.InstanceList.{tabulate_lists}
use Rattle.macro_layout.specs.Pins.{rail_nets}
use Rattle.main_channel.specs.Pins.{numbered_net}

-- In what follows `begin` says where a pin begins in a role's cell, by its port, `width` how wide the cell is, and `look` which
-- number a net has by its name.

-- the first of these names stands a step behind the beginning, and each other one a step behind the one before it
abbrev pub rail_channel_pin : (List ℕ → Option ℕ) → List (List ℕ) → ℤ → ℤ → ℕ → List ChannelPin
rail_channel_pin look names from step rail = numbered_net look (get_or names rail []) (from +ℤ (pos (rail + 1) *ℤ step))

abbrev pub bank_rail_pins : (List ℕ → Option ℕ) → List (List ℕ) → ℤ → ℤ → List ChannelPin
bank_rail_pins look names from step = tabulate_lists (length names) (rail_channel_pin look names from step)

-- din and en of a write cell that begins here
abbrev pub write_pins : (Role → ℕ → ℤ) → (List ℕ → Option ℕ) → Organization → ℕ → ℕ → ℤ → List ChannelPin
write_pins begin look plan bank bit from =
    numbered_net look (net_name plan (D bit)) (from +ℤ begin Write 0)
    ++ numbered_net look (net_name plan (enable_at plan.bank_bits plan.masks bank (mask_of plan.masks plan.write_size bit))) (from +ℤ begin Write 3)

-- where a bit begins, at the first of its columns
abbrev pub bit_begin : (Role → ℕ) → Organization → ℤ → ℕ → ℤ
bit_begin width plan from bit = from +ℤ pos ((bit * words_per_row plan) * width Bitcell)

-- those of a write cell, which stands there where a write has bits
abbrev pub written_pins : ℕ → List ChannelPin → List ChannelPin
written_pins zero pins = []
written_pins (suc write_size) pins = pins

-- those of its write cell, and dout of its sense cell
abbrev pub bit_channel_pins : (Role → ℕ → ℤ) → (Role → ℕ) → (List ℕ → Option ℕ) → Organization → ℕ → ℤ → ℕ → List ChannelPin
bit_channel_pins begin width look plan bank from bit =
    written_pins plan.write_size (write_pins begin look plan bank bit (bit_begin width plan from bit)) ++ numbered_net look (net_name plan (Dout bit)) (bit_begin width plan from bit +ℤ begin Sense 2)

-- those of the bits of the word, if the bank's columns begin here
abbrev pub slice_pins : (Role → ℕ → ℤ) → (Role → ℕ) → (List ℕ → Option ℕ) → Organization → ℕ → ℤ → List ChannelPin
slice_pins begin width look plan bank from = tabulate_lists plan.word_size (bit_channel_pins begin width look plan bank from)

-- how far behind a bank's beginning its columns begin, if its rows do here
abbrev pub columns_begin : (Role → ℕ) → Organization → ℤ → ℤ
columns_begin width plan row_x = row_x +ℤ pos (width (row_gate plan.groups) + width Driver)

-- the rails of a bank, and then its bits; each bank begins so far behind the one before it
abbrev pub bank_pins : (Role → ℕ → ℤ) → (Role → ℕ) → (List ℕ → Option ℕ) → Organization → ℤ → ℤ → ℤ → ℕ → List ChannelPin
bank_pins begin width look plan step row_x bank_width bank =
    bank_rail_pins look (map (net_name plan) (rail_nets plan bank)) (pos bank *ℤ bank_width) step
    ++ slice_pins begin width look plan bank ((pos bank *ℤ bank_width) +ℤ columns_begin width plan row_x)
