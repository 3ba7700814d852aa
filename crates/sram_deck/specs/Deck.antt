-- The subcircuits of a memory, as they are written: its rows' and six more, each after those that it refers to.
use Rattle.std.specs.Prelude.{ℕ, zero, suc, ◌/◌, ◌%◌, List, [], ◌∷◌, ◌++◌, map, codes}
use Rattle.netlist.specs.declared.deck.Subckt.{Subckt}
use Rattle.netlist.specs.declared.deck.Instance.{Instance}
use Rattle.sram_netlist.specs.Organization.{Organization, inputs_of, power_of_two, bank_rows, words_per_row, columns_of, banks_of, addr_bits}
use Rattle.sram_netlist.specs.Instances.{LogicCell}
use Rattle.cell_roles.specs.declared.role.Role.{Role}
use Rattle.cell_roles.specs.declared.role.Role.TheVariants.{Precharge, Mux, Tie, Sense, Write, Driver}
use Rattle.cell_roles.specs.Roles.{supplies}
use Rattle.sram_netlist.specs.Netlist.{row_gate, low_bits, high_bits, mask_of, enables_of, enable_at, wlen_at, sen_at, logic_role, logic_cell_ports}
use Rattle.sram_netlist.specs.Names.{with_number, with_numbers, with_index, bank_name, net_name, cell_name}
use Rattle.sram_netlist.specs.BitCells.{BitCells, bit_cell, row_kinds, row_name}
use Rattle.sram_netlist.specs.InstanceList.{tabulate, tabulate_lists, logic_cells}

abbrev pub subckt_instance : List ℕ → List (List ℕ) → List ℕ → Instance
subckt_instance name nodes of = record { name = name; nodes = nodes; of = of }

abbrev pub made_subckt : List ℕ → List (List ℕ) → List Instance → Subckt
made_subckt name ports instances = record { name = name; ports = ports; instances = instances; raw = [] }

-- Lists of ports and nodes

-- the inputs of a row's gate: a, b and so on
abbrev pub row_inputs : ℕ → List ℕ → List (List ℕ)
row_inputs letter [] = []
row_inputs letter (b ∷ bs) = (letter ∷ []) ∷ row_inputs (suc letter) bs

-- the predecode lines of all groups, and those of a row
abbrev pub predecode_lines_from : List ℕ → ℕ → List (List ℕ)
predecode_lines_from [] g = []
predecode_lines_from (b ∷ bs) g = tabulate (power_of_two b) (with_numbers (codes "p") g) ++ predecode_lines_from bs (suc g)

abbrev pub row_lines_from : List ℕ → ℕ → ℕ → List (List ℕ)
row_lines_from [] g r = []
row_lines_from (b ∷ bs) g r = with_numbers (codes "p") g (low_bits b r) ∷ row_lines_from bs (suc g) (high_bits b r)

abbrev pub predecode_lines : Organization → List (List ℕ)
predecode_lines plan = predecode_lines_from plan.groups 0

abbrev pub column_bit_lines : ℕ → List (List ℕ)
column_bit_lines c = with_number (codes "bl") c ∷ with_number (codes "br") c ∷ []

abbrev pub all_bit_lines : Organization → List (List ℕ)
all_bit_lines plan = tabulate_lists (columns_of plan) column_bit_lines

-- the column choices, if a row has several words
abbrev pub column_choices : ℕ → List (List ℕ)
column_choices zero = []
column_choices (suc m) = tabulate (power_of_two (suc m)) (with_number (codes "sel"))

-- a bank's write enables, by their names inside it and outside
abbrev pub enable_name : ℕ → ℕ → List ℕ
enable_name zero m = codes "wen"
enable_name (suc n) m = with_number (codes "en") m

abbrev pub write_enables : Organization → List (List ℕ)
write_enables plan = tabulate (enables_of plan) (enable_name plan.masks)

abbrev pub bank_enable : Organization → ℕ → ℕ → List ℕ
bank_enable plan b m = net_name plan (enable_at plan.bank_bits plan.masks b m)

abbrev pub bank_enables : Organization → ℕ → List (List ℕ)
bank_enables plan b = tabulate (enables_of plan) (bank_enable plan b)

abbrev pub wlen_name : Organization → ℕ → List ℕ
wlen_name plan b = net_name plan (wlen_at plan.bank_bits b)

abbrev pub sen_name : Organization → ℕ → List ℕ
sen_name plan b = net_name plan (sen_at plan.bank_bits b)

-- the data bits that a bank is given and gives, and the bits of a port of the memory
abbrev pub data_inputs : Organization → List (List ℕ)
data_inputs plan = tabulate (inputs_of plan) (with_number (codes "d"))

abbrev pub data_outputs : Organization → List (List ℕ)
data_outputs plan = tabulate plan.word_size (with_number (codes "o"))

abbrev pub port_bits : ℕ → List ℕ → List (List ℕ)
port_bits n letters = tabulate n (with_index letters)

-- the lines of a bit of the word: its bit lines where a row has one word
abbrev pub lo_name : ℕ → ℕ → List ℕ
lo_name zero i = with_number (codes "bl") i
lo_name (suc m) i = with_number (codes "lo") i

abbrev pub ro_name : ℕ → ℕ → List ℕ
ro_name zero i = with_number (codes "br") i
ro_name (suc m) i = with_number (codes "ro") i

-- n_row, or n_row0 and so on: a row's gate, its driver and the cells of its bits
abbrev pub row_ports : Organization → List (List ℕ)
row_ports plan = row_inputs 97 plan.groups ++ (codes "wlen" ∷ (all_bit_lines plan ++ supplies))

abbrev pub row_bit : BitCells → ℕ → ℕ → Instance
row_bit bits r c = subckt_instance (with_number (codes "xb") c) (with_number (codes "bl") c ∷ with_number (codes "br") c ∷ codes "wl" ∷ supplies) (bit_cell bits r c)

abbrev pub row_nand : Organization → (Role → List ℕ) → Instance
row_nand plan cell = subckt_instance (codes "xnand") (row_inputs 97 plan.groups ++ (codes "zb" ∷ supplies)) (cell (row_gate plan.groups))

abbrev pub row_driver : (Role → List ℕ) → Instance
row_driver cell = subckt_instance (codes "xdrv") (codes "zb" ∷ codes "wlen" ∷ codes "wl" ∷ supplies) (cell Driver)

abbrev pub row_instances : Organization → (Role → List ℕ) → BitCells → ℕ → List Instance
row_instances plan cell bits r = row_nand plan cell ∷ (row_driver cell ∷ tabulate (columns_of plan) (row_bit bits r))

abbrev pub row_subckt : Organization → (Role → List ℕ) → BitCells → List ℕ → ℕ → Subckt
row_subckt plan cell bits n r = made_subckt (row_name bits n r) (row_ports plan) (row_instances plan cell bits r)

-- n_array: the rows
abbrev pub array_ports : Organization → List (List ℕ)
array_ports plan = predecode_lines plan ++ (codes "wlen" ∷ (all_bit_lines plan ++ supplies))

abbrev pub array_row : Organization → BitCells → List ℕ → ℕ → Instance
array_row plan bits n r = subckt_instance (with_number (codes "xr") r) (row_lines_from plan.groups 0 r ++ (codes "wlen" ∷ (all_bit_lines plan ++ supplies))) (row_name bits n r)

abbrev pub array_instances : Organization → BitCells → List ℕ → List Instance
array_instances plan bits n = tabulate (bank_rows plan) (array_row plan bits n)

-- n_pre: the precharge
abbrev pub pre_ports : Organization → List (List ℕ)
pre_ports plan = all_bit_lines plan ++ (codes "clkb" ∷ supplies)

abbrev pub pre_column : (Role → List ℕ) → ℕ → Instance
pre_column cell c = subckt_instance (with_number (codes "xp") c) (with_number (codes "bl") c ∷ with_number (codes "br") c ∷ codes "clkb" ∷ supplies) (cell Precharge)

abbrev pub pre_instances : Organization → (Role → List ℕ) → List Instance
pre_instances plan cell = tabulate (columns_of plan) (pre_column cell)

-- n_data: the write and sense cells, and the multiplexers or ties
abbrev pub data_ports : Organization → List (List ℕ)
data_ports plan = all_bit_lines plan ++ (column_choices plan.col_bits ++ (data_inputs plan ++ (write_enables plan ++ (codes "sen" ∷ (data_outputs plan ++ supplies)))))

abbrev pub data_write : Organization → (Role → List ℕ) → ℕ → Instance
data_write plan cell i = subckt_instance (with_number (codes "xw") i) (with_number (codes "d") i ∷ lo_name plan.col_bits i ∷ ro_name plan.col_bits i ∷ enable_name plan.masks (mask_of plan.masks plan.write_size i) ∷ supplies) (cell Write)

abbrev pub data_sense : Organization → (Role → List ℕ) → ℕ → Instance
data_sense plan cell i = subckt_instance (with_number (codes "xs") i) (lo_name plan.col_bits i ∷ ro_name plan.col_bits i ∷ with_number (codes "o") i ∷ codes "sen" ∷ supplies) (cell Sense)

abbrev pub data_mux : Organization → (Role → List ℕ) → ℕ → Instance
data_mux plan cell c = subckt_instance (with_number (codes "xm") c)
    (with_number (codes "bl") c ∷ with_number (codes "br") c ∷ with_number (codes "lo") (c / words_per_row plan) ∷ with_number (codes "ro") (c / words_per_row plan) ∷ with_number (codes "sel") (c % words_per_row plan) ∷ supplies) (cell Mux)

abbrev pub data_tie : (Role → List ℕ) → ℕ → Instance
data_tie cell c = subckt_instance (with_number (codes "xt") c) (with_number (codes "bl") c ∷ with_number (codes "br") c ∷ supplies) (cell Tie)

abbrev pub data_links : Organization → (Role → List ℕ) → ℕ → List Instance
data_links plan cell zero = tabulate (columns_of plan) (data_tie cell)
data_links plan cell (suc m) = tabulate (columns_of plan) (data_mux plan cell)

abbrev pub data_instances : Organization → (Role → List ℕ) → List Instance
data_instances plan cell = tabulate (inputs_of plan) (data_write plan cell) ++ (tabulate plan.word_size (data_sense plan cell) ++ data_links plan cell plan.col_bits)

-- n_bank: array, precharge and data
abbrev pub bank_ports : Organization → List (List ℕ)
bank_ports plan = predecode_lines plan ++ (codes "wlen" ∷ codes "sen" ∷ codes "clkb" ∷ (column_choices plan.col_bits ++ (data_inputs plan ++ (write_enables plan ++ (data_outputs plan ++ supplies)))))

abbrev pub bank_array : Organization → List ℕ → Instance
bank_array plan n = subckt_instance (codes "xarray") (array_ports plan) (n ++ codes "_array")

abbrev pub bank_pre : Organization → List ℕ → Instance
bank_pre plan n = subckt_instance (codes "xpre") (pre_ports plan) (n ++ codes "_pre")

abbrev pub bank_data : Organization → List ℕ → Instance
bank_data plan n = subckt_instance (codes "xdata") (data_ports plan) (n ++ codes "_data")

abbrev pub bank_instances : Organization → List ℕ → List Instance
bank_instances plan n = bank_array plan n ∷ (bank_pre plan n ∷ (bank_data plan n ∷ []))

-- n_logic: the logic row
abbrev pub bank_control_names : Organization → ℕ → List (List ℕ)
bank_control_names plan b = wlen_name plan b ∷ (bank_enables plan b ++ (sen_name plan b ∷ []))

-- the port that tells reads from writes, by the bits of a write
abbrev pub web_ports : ℕ → List (List ℕ)
web_ports zero = []
web_ports (suc write_size) = codes "web0" ∷ []

abbrev pub macro_inputs : Organization → List (List ℕ) → List (List ℕ)
macro_inputs plan more = codes "clk0" ∷ codes "csb0" ∷ (web_ports plan.write_size ++ (port_bits plan.masks (codes "wmask0") ++ (port_bits (addr_bits plan) (codes "addr0") ++ (port_bits (inputs_of plan) (codes "din0") ++ more))))

abbrev pub logic_ports : Organization → List (List ℕ)
logic_ports plan = macro_inputs plan (codes "clkb" ∷ (tabulate_lists (banks_of plan) (bank_control_names plan) ++ (column_choices plan.col_bits ++ (predecode_lines plan ++ (data_inputs plan ++ supplies)))))

abbrev pub logic_cell : Organization → (Role → List ℕ) → LogicCell → Instance
logic_cell plan cell c = subckt_instance (cell_name plan c) (map (net_name plan) (logic_cell_ports plan c)) (cell (logic_role plan c))

abbrev pub logic_instances : Organization → (Role → List ℕ) → List Instance
logic_instances plan cell = map (logic_cell plan cell) (logic_cells plan)

-- n: the logic row and the banks
abbrev pub top_ports : Organization → List (List ℕ)
top_ports plan = macro_inputs plan (port_bits plan.word_size (codes "dout0") ++ supplies)

abbrev pub top_bank : Organization → List ℕ → ℕ → Instance
top_bank plan n b = subckt_instance (bank_name plan.bank_bits b)
    (predecode_lines plan ++ (wlen_name plan b ∷ sen_name plan b ∷ codes "clkb" ∷ (column_choices plan.col_bits ++ (data_inputs plan ++ (bank_enables plan b ++ (port_bits plan.word_size (codes "dout0") ++ supplies)))))) (n ++ codes "_bank")

abbrev pub top_logic : Organization → List ℕ → Instance
top_logic plan n = subckt_instance (codes "xlogic") (logic_ports plan) (n ++ codes "_logic")

abbrev pub top_instances : Organization → List ℕ → List Instance
top_instances plan n = top_logic plan n ∷ tabulate (banks_of plan) (top_bank plan n)

-- those behind the rows'
abbrev pub other_subckts : Organization → (Role → List ℕ) → BitCells → List ℕ → List Subckt
other_subckts plan cell bits n =
    made_subckt (n ++ codes "_array") (array_ports plan) (array_instances plan bits n)
    ∷ made_subckt (n ++ codes "_pre") (pre_ports plan) (pre_instances plan cell)
    ∷ made_subckt (n ++ codes "_data") (data_ports plan) (data_instances plan cell)
    ∷ made_subckt (n ++ codes "_bank") (bank_ports plan) (bank_instances plan n)
    ∷ made_subckt (n ++ codes "_logic") (logic_ports plan) (logic_instances plan cell)
    ∷ made_subckt n (top_ports plan) (top_instances plan n)
    ∷ []

-- What is written for the output name n, behind the subcircuits of the leaf cells; cell is the name of a role's cell, bits of the cells
-- of the bits.
abbrev pub written_subckts : Organization → (Role → List ℕ) → BitCells → List ℕ → List Subckt
written_subckts plan cell bits n = tabulate (row_kinds bits (bank_rows plan)) (row_subckt plan cell bits n) ++ other_subckts plan cell bits n
