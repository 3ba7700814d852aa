-- Names of nets.
use Rattle.std.specs.Prelude.{ℕ, ◌+◌, ◌-◌, ◌≤◌, List, [], ◌∷◌, ◌++◌, map, length, get_or, codes}
use Rattle.std.specs.List.{AllByRecursion}
use Rattle.netlist.specs.declared.deck.Instance.{Instance}
use Rattle.sram_netlist.specs.Organization.{Organization, written_bits, inputs_of, addr_bits}
use Rattle.sram_netlist.specs.Netlist.{mask_of}
use Rattle.sram_deck.specs.Deck.{macro_inputs, port_bits, predecode_lines, column_choices, wlen_name, sen_name, bank_enable}

-- the node of a cell's output: the last before the supplies
abbrev pub output_name : Instance → List ℕ
output_name gate = get_or gate.nodes (length gate.nodes - 3) []

-- each has an output and supplies
abbrev pub AreGates : List Instance → Type 0
AreGates = AllByRecursion (λ gate. 3 ≤ length gate.nodes)

-- how many signal ports the macro has
abbrev pub port_count : Organization → ℕ
port_count plan = 2 + written_bits plan.write_size 1 + plan.masks + addr_bits plan + inputs_of plan + plan.word_size

-- the names of the signal ports
abbrev pub port_names : Organization → List (List ℕ)
port_names plan = macro_inputs plan (port_bits plan.word_size (codes "dout0"))

-- the names of the channel's nets
abbrev pub channel_names : Organization → List Instance → List (List ℕ)
channel_names plan gates = port_names plan ++ map output_name gates

-- the names on the rails of a bank, in their order
abbrev pub rail_names : Organization → ℕ → List (List ℕ)
rail_names plan b = predecode_lines plan ++ (wlen_name plan b ∷ sen_name plan b ∷ codes "clkb" ∷ column_choices plan.col_bits)

-- the write enable of a bit of the word in a bank
abbrev pub enable_name : Organization → ℕ → ℕ → List ℕ
enable_name plan b i = bank_enable plan b (mask_of plan.masks plan.write_size i)
