-- The reference netlist: each leaf instance's role, and the nets on its ports in order.
use Rattle.std.specs.Prelude.{ℕ, zero, suc, ◌+◌, ◌*◌, ◌/◌, ◌%◌, List, [], ◌∷◌, ◌++◌, Bool, true, false, length, if◌then◌else◌}
use Rattle.cell_roles.specs.declared.role.Role.{Role}
use Rattle.cell_roles.specs.declared.role.Role.TheVariants.{Bitcell, Precharge, Mux, Tie, Sense, Write, RowNand2, RowNand3, Driver, Nand2, Nand3, Inv, Dff, Delay}
use Rattle.sram_netlist.specs.Organization.{Organization, words_per_row, bank_bit, written_bits}
use Rattle.sram_netlist.specs.Nets.{Net, Clk0, Csb0, Web0, Clkb, Csq, Weq, Cs, We, Wlb, Wlen, Wrb, Wen, Rdb, Rd, Dly, Seb, Sen, Vdd, Gnd, Control, Addr, Din, Dout, Wmask, A, Na, D, M, LineB, Line, WlenB, WlenAt, SenB, SenAt, WenB, WenAt, Zb, Wl, Bl, Br, Lo, Ro}
use Rattle.sram_netlist.specs.Instances.{LogicCell, LeafInstance, Clki, Csd, Wed, Csi, Wei, Wln, Wli, Wrn, Wri, Rdn, Rdi, Dlay, Senn, Seni, Ad, Ai, Dd, Dm, Pn, Pi, Ln, Li, Kn, Ki, Gn, Gi, BitAt, NandAt, DriverAt, PrechargeAt, WriteAt, SenseAt, MuxAt, TieAt, LogicAt}

-- Bits of numbers

-- the lowest bit
abbrev pub lowest_bit : ℕ → Bool
lowest_bit zero = false
lowest_bit (suc zero) = true
lowest_bit (suc (suc n)) = lowest_bit n

-- the number that the lowest b bits of r make, and the number that the others make
abbrev pub low_bits : ℕ → ℕ → ℕ
low_bits zero r = 0
low_bits (suc b) r = (if lowest_bit r then 1 else 0) + 2 * low_bits b (r / 2)

abbrev pub high_bits : ℕ → ℕ → ℕ
high_bits zero r = r
high_bits (suc b) r = high_bits b (r / 2)

-- Lines

-- a latched address bit where a bit of the line's number is 1, else its complement
abbrev pub pick : ℕ → Bool → Net
pick i true = A i
pick i false = Na i

-- the inputs of line k's gate over b address bits from bit o on, lowest first
abbrev pub picks : ℕ → ℕ → ℕ → List Net
picks o zero k = []
picks o (suc b) k = pick o (lowest_bit k) ∷ picks (suc o) b (k / 2)

-- the lines of row r, one a group, whose bits begin at address bit o
abbrev pub row_lines : List ℕ → ℕ → ℕ → List Net
row_lines [] o r = []
row_lines (b ∷ bs) o r = Line o b (low_bits b r) ∷ row_lines bs (o + b) (high_bits b r)

-- the line of a bank
abbrev pub bank_line : Organization → ℕ → Net
bank_line plan bank = Line (bank_bit plan) plan.bank_bits bank

-- Choices by counts: the first argument is the count of column bits, of bank bits or of masks

-- the lines of bit i of the word: its bit lines where a row has one word
abbrev pub lo_net : ℕ → ℕ → ℕ → Net
lo_net zero bank i = Bl bank i
lo_net (suc col_bits) bank i = Lo bank i

abbrev pub ro_net : ℕ → ℕ → ℕ → Net
ro_net zero bank i = Br bank i
ro_net (suc col_bits) bank i = Ro bank i

-- a bank's word line enable and sense enable: wlen and sen themselves where there is one bank
abbrev pub wlen_at : ℕ → ℕ → Net
wlen_at zero bank = Control Wlen
wlen_at (suc bank_bits) bank = WlenAt bank

abbrev pub sen_at : ℕ → ℕ → Net
sen_at zero bank = Control Sen
sen_at (suc bank_bits) bank = SenAt bank

-- a bank's write enables are one for each mask, or one
abbrev pub enable_count : ℕ → ℕ
enable_count zero = 1
enable_count (suc n) = suc n

-- and none where nothing is written
abbrev pub enables_of : Organization → ℕ
enables_of plan = written_bits plan.write_size (enable_count plan.masks)

-- What starts the sense enable, by the bits of a write: a read, or where nothing is written the word line enable.
abbrev pub sense_start : ℕ → Net
sense_start zero = Control Wlen
sense_start (suc write_size) = Control Rd

-- a bank's write enable for mask m: wen itself where there is one bank and no mask
abbrev pub enable_at : ℕ → ℕ → ℕ → ℕ → Net
enable_at zero zero bank m = Control Wen
enable_at zero (suc masks) bank m = WenAt bank m
enable_at (suc bank_bits) masks bank m = WenAt bank m

-- the port that tells reads from writes, by the bits of a write
abbrev pub web_nets : ℕ → List Net
web_nets zero = []
web_nets (suc write_size) = Control Web0 ∷ []

-- the mask of bit i of the word
abbrev pub mask_of : ℕ → ℕ → ℕ → ℕ
mask_of zero write_size i = 0
mask_of (suc masks) write_size i = i / write_size

-- what the gate of a write enable looks at: wen, then the bank where there are several, then the mask where there are masks
abbrev pub bank_input : Organization → ℕ → ℕ → List Net
bank_input plan zero bank = []
bank_input plan (suc bank_bits) bank = bank_line plan bank ∷ []

abbrev pub mask_input : ℕ → ℕ → List Net
mask_input zero m = []
mask_input (suc masks) m = M m ∷ []

abbrev pub enable_inputs : Organization → ℕ → ℕ → List Net
enable_inputs plan bank m = Control Wen ∷ (bank_input plan plan.bank_bits bank ++ mask_input plan.masks m)

-- Roles

-- the gate of so many inputs: inv, nand2 or nand3
abbrev pub gate_of : ℕ → Role
gate_of (suc (suc zero)) = Nand2
gate_of (suc (suc (suc n))) = Nand3
gate_of n = Inv

-- the gate of a row over so many groups
abbrev pub row_gate : List ℕ → Role
row_gate (a ∷ b ∷ c ∷ bs) = RowNand3
row_gate bs = RowNand2

abbrev pub logic_role : Organization → LogicCell → Role
logic_role plan Csd = Dff
logic_role plan Wed = Dff
logic_role plan (Ad i) = Dff
logic_role plan (Dd i) = Dff
logic_role plan (Dm m) = Dff
logic_role plan Dlay = Delay
logic_role plan Wln = Nand2
logic_role plan Senn = Nand2
logic_role plan Wrn = Nand3
logic_role plan Rdn = Nand3
logic_role plan (Pn o b k) = gate_of b
logic_role plan (Ln bank) = Nand2
logic_role plan (Kn bank) = Nand2
logic_role plan (Gn bank m) = gate_of (length (enable_inputs plan bank m))
logic_role plan cell = Inv

abbrev pub role : Organization → LeafInstance → Role
role plan (BitAt bank r c) = Bitcell
role plan (NandAt bank r) = row_gate plan.groups
role plan (DriverAt bank r) = Driver
role plan (PrechargeAt bank c) = Precharge
role plan (WriteAt bank i) = Write
role plan (SenseAt bank i) = Sense
role plan (MuxAt bank c) = Mux
role plan (TieAt bank c) = Tie
role plan (LogicAt cell) = logic_role plan cell

-- Nets of ports

abbrev pub supply_nets : List Net
supply_nets = Vdd ∷ Gnd ∷ []

-- the nets on the ports of a logic cell, in the order of its role's ports
abbrev pub logic_cell_ports : Organization → LogicCell → List Net
-- clock and control
logic_cell_ports plan Clki = Control Clk0 ∷ Control Clkb ∷ supply_nets
logic_cell_ports plan Csd = Control Csb0 ∷ Control Clk0 ∷ Control Csq ∷ supply_nets
logic_cell_ports plan Wed = Control Web0 ∷ Control Clk0 ∷ Control Weq ∷ supply_nets
logic_cell_ports plan Csi = Control Csq ∷ Control Cs ∷ supply_nets
logic_cell_ports plan Wei = Control Weq ∷ Control We ∷ supply_nets
-- word line enable, write enable, sense enable
logic_cell_ports plan Wln = Control Cs ∷ Control Clkb ∷ Control Wlb ∷ supply_nets
logic_cell_ports plan Wli = Control Wlb ∷ Control Wlen ∷ supply_nets
logic_cell_ports plan Wrn = Control Cs ∷ Control We ∷ Control Clkb ∷ Control Wrb ∷ supply_nets
logic_cell_ports plan Wri = Control Wrb ∷ Control Wen ∷ supply_nets
logic_cell_ports plan Rdn = Control Cs ∷ Control Weq ∷ Control Clkb ∷ Control Rdb ∷ supply_nets
logic_cell_ports plan Rdi = Control Rdb ∷ Control Rd ∷ supply_nets
logic_cell_ports plan Dlay = Control Clkb ∷ Control Dly ∷ supply_nets
logic_cell_ports plan Senn = sense_start plan.write_size ∷ Control Dly ∷ Control Seb ∷ supply_nets
logic_cell_ports plan Seni = Control Seb ∷ Control Sen ∷ supply_nets
-- for each address bit: latched, and its complement
logic_cell_ports plan (Ad i) = Addr i ∷ Control Clk0 ∷ A i ∷ supply_nets
logic_cell_ports plan (Ai i) = A i ∷ Na i ∷ supply_nets
-- for each column choice, predecode line and bank choice
logic_cell_ports plan (Pn o b k) = picks o b k ++ (LineB o b k ∷ supply_nets)
logic_cell_ports plan (Pi o b k) = LineB o b k ∷ Line o b k ∷ supply_nets
-- for each data bit and mask bit: latched
logic_cell_ports plan (Dd i) = Din i ∷ Control Clk0 ∷ D i ∷ supply_nets
logic_cell_ports plan (Dm m) = Wmask m ∷ Control Clk0 ∷ M m ∷ supply_nets
-- for each bank, where there are several: its word line enable and its sense enable
logic_cell_ports plan (Ln bank) = Control Wlen ∷ bank_line plan bank ∷ WlenB bank ∷ supply_nets
logic_cell_ports plan (Li bank) = WlenB bank ∷ WlenAt bank ∷ supply_nets
logic_cell_ports plan (Kn bank) = Control Sen ∷ bank_line plan bank ∷ SenB bank ∷ supply_nets
logic_cell_ports plan (Ki bank) = SenB bank ∷ SenAt bank ∷ supply_nets
-- for each bank and mask, where there are several banks or masks: its write enable
logic_cell_ports plan (Gn bank m) = enable_inputs plan bank m ++ (WenB bank m ∷ supply_nets)
logic_cell_ports plan (Gi bank m) = WenB bank m ∷ WenAt bank m ∷ supply_nets

-- the nets on the ports of an instance, in the order of its role's ports
abbrev pub ports : Organization → LeafInstance → List Net
-- bl br wl
ports plan (BitAt bank r c) = Bl bank c ∷ Br bank c ∷ Wl bank r ∷ supply_nets
-- a b (c) z
ports plan (NandAt bank r) = row_lines plan.groups plan.col_bits r ++ (Zb bank r ∷ supply_nets)
-- a en z
ports plan (DriverAt bank r) = Zb bank r ∷ wlen_at plan.bank_bits bank ∷ Wl bank r ∷ supply_nets
-- bl br en_bar
ports plan (PrechargeAt bank c) = Bl bank c ∷ Br bank c ∷ Control Clkb ∷ supply_nets
-- din bl br en
ports plan (WriteAt bank i) =
    D i ∷ lo_net plan.col_bits bank i ∷ ro_net plan.col_bits bank i ∷ enable_at plan.bank_bits plan.masks bank (mask_of plan.masks plan.write_size i) ∷ supply_nets
-- bl br dout en
ports plan (SenseAt bank i) = lo_net plan.col_bits bank i ∷ ro_net plan.col_bits bank i ∷ Dout i ∷ sen_at plan.bank_bits bank ∷ supply_nets
-- bl br blo bro sel
ports plan (MuxAt bank c) =
    Bl bank c ∷ Br bank c ∷ lo_net plan.col_bits bank (c / words_per_row plan) ∷ ro_net plan.col_bits bank (c / words_per_row plan) ∷ Line 0 plan.col_bits (c % words_per_row plan) ∷ supply_nets
-- bl br
ports plan (TieAt bank c) = Bl bank c ∷ Br bank c ∷ supply_nets
ports plan (LogicAt cell) = logic_cell_ports plan cell
