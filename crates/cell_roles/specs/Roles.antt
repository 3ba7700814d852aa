-- The roles of leaf cells: their names and ports, and the pins and bits that a cell's act is about.
use Rattle.std.specs.Prelude.{ℕ, suc, List, [], ◌∷◌, nat_eq, if◌then◌else◌, codes}
use Rattle.std.specs.Cmp.Lexicographic.{pointwise}
use Rattle.cell_roles.specs.declared.role.Role.{Role}
use Rattle.cell_roles.specs.declared.role.Role.TheVariants.{Bitcell, Precharge, Mux, Tie, Sense, Write, RowNand2, RowNand3, Driver, Nand2, Nand3, Inv, Dff, Delay}

abbrev pub all_roles : List Role
all_roles = Bitcell ∷ Precharge ∷ Mux ∷ Tie ∷ Sense ∷ Write ∷ RowNand2 ∷ RowNand3 ∷ Driver ∷ Nand2 ∷ Nand3 ∷ Inv ∷ Dff ∷ Delay ∷ []

abbrev pub role_name : Role → List ℕ
role_name Bitcell = codes "bitcell"
role_name Precharge = codes "precharge"
role_name Mux = codes "mux"
role_name Tie = codes "tie"
role_name Sense = codes "sense"
role_name Write = codes "write"
role_name RowNand2 = codes "rownand2"
role_name RowNand3 = codes "rownand3"
role_name Driver = codes "driver"
role_name Nand2 = codes "nand2"
role_name Nand3 = codes "nand3"
role_name Inv = codes "inv"
role_name Dff = codes "dff"
role_name Delay = codes "delay"

-- the last two ports of each role
abbrev pub supplies : List (List ℕ)
supplies = codes "vdd" ∷ codes "gnd" ∷ []

-- a role's ports in order
abbrev pub role_ports : Role → List (List ℕ)
role_ports Bitcell = codes "bl" ∷ codes "br" ∷ codes "wl" ∷ supplies
role_ports Precharge = codes "bl" ∷ codes "br" ∷ codes "en_bar" ∷ supplies
role_ports Mux = codes "bl" ∷ codes "br" ∷ codes "blo" ∷ codes "bro" ∷ codes "sel" ∷ supplies
role_ports Tie = codes "bl" ∷ codes "br" ∷ supplies
role_ports Sense = codes "bl" ∷ codes "br" ∷ codes "dout" ∷ codes "en" ∷ supplies
role_ports Write = codes "din" ∷ codes "bl" ∷ codes "br" ∷ codes "en" ∷ supplies
role_ports RowNand2 = codes "a" ∷ codes "b" ∷ codes "z" ∷ supplies
role_ports RowNand3 = codes "a" ∷ codes "b" ∷ codes "c" ∷ codes "z" ∷ supplies
role_ports Driver = codes "a" ∷ codes "en" ∷ codes "z" ∷ supplies
role_ports Nand2 = codes "a" ∷ codes "b" ∷ codes "z" ∷ supplies
role_ports Nand3 = codes "a" ∷ codes "b" ∷ codes "c" ∷ codes "z" ∷ supplies
role_ports Inv = codes "a" ∷ codes "z" ∷ supplies
role_ports Dff = codes "d" ∷ codes "clk" ∷ codes "q" ∷ supplies
role_ports Delay = codes "a" ∷ codes "z" ∷ supplies

-- the pins that the act looks at
abbrev pub input_pins : Role → List (List ℕ)
input_pins Bitcell = codes "wl" ∷ codes "bl" ∷ codes "br" ∷ []
input_pins Precharge = codes "en_bar" ∷ []
input_pins Mux = codes "sel" ∷ []
input_pins Tie = []
input_pins Sense = codes "en" ∷ codes "bl" ∷ codes "br" ∷ []
input_pins Write = codes "en" ∷ codes "din" ∷ []
input_pins RowNand2 = codes "a" ∷ codes "b" ∷ []
input_pins RowNand3 = codes "a" ∷ codes "b" ∷ codes "c" ∷ []
input_pins Driver = codes "a" ∷ codes "en" ∷ []
input_pins Nand2 = codes "a" ∷ codes "b" ∷ []
input_pins Nand3 = codes "a" ∷ codes "b" ∷ codes "c" ∷ []
input_pins Inv = codes "a" ∷ []
input_pins Dff = codes "d" ∷ codes "clk" ∷ []
input_pins Delay = codes "a" ∷ []

-- the bits that it stores: of a flip-flop q is the output, and p the clock of the phase before
abbrev pub stored_bits : Role → List (List ℕ)
stored_bits Bitcell = codes "q" ∷ []
stored_bits Dff = codes "q" ∷ codes "p" ∷ []
stored_bits Delay = codes "s" ∷ []
stored_bits role = []

-- the pins that it may drive
abbrev pub driven_pins : Role → List (List ℕ)
driven_pins Bitcell = codes "bl" ∷ codes "br" ∷ []
driven_pins Precharge = codes "bl" ∷ codes "br" ∷ []
driven_pins Mux = []
driven_pins Tie = []
driven_pins Sense = codes "dout" ∷ []
driven_pins Write = codes "bl" ∷ codes "br" ∷ []
driven_pins Dff = codes "q" ∷ []
driven_pins role = codes "z" ∷ []

-- the pairs of pins that it may join
abbrev pub joined_pins : Role → List (List ℕ × List ℕ)
joined_pins Mux = (codes "bl", codes "blo") ∷ (codes "br", codes "bro") ∷ []
joined_pins role = []

-- the number, from 0, of a port among ports
abbrev pub number_in : List (List ℕ) → List ℕ → ℕ
number_in [] name = 0
number_in (p ∷ ps) name = if pointwise nat_eq p name then 0 else suc (number_in ps name)
