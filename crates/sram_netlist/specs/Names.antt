-- Names: of nets where they are local and as seen from the top, and paths of leaf instances.
use Rattle.std.specs.Prelude.{ℕ, zero, suc, ◌+◌, List, [], ◌∷◌, ◌++◌, nat_eq, if◌then◌else◌, codes}
use Rattle.std.specs.Fmt.{decimal}
use Rattle.sram_netlist.specs.Organization.{Organization}
use Rattle.sram_netlist.specs.Nets.{Net, Clk0, Csb0, Web0, Clkb, Csq, Weq, Cs, We, Wlb, Wlen, Wrb, Wen, Rdb, Rd, Dly, Seb, Sen, Vdd, Gnd, Control, Addr, Din, Dout, Wmask, A, Na, D, M, LineB, Line, WlenB, WlenAt, SenB, SenAt, WenB, WenAt, Zb, Wl, Bl, Br, Lo, Ro}
use Rattle.sram_netlist.specs.Instances.{LogicCell, LeafInstance, Clki, Csd, Wed, Csi, Wei, Wln, Wli, Wrn, Wri, Rdn, Rdi, Dlay, Senn, Seni, Ad, Ai, Dd, Dm, Pn, Pi, Ln, Li, Kn, Ki, Gn, Gi, BitAt, NandAt, DriverAt, PrechargeAt, WriteAt, SenseAt, MuxAt, TieAt, LogicAt}

-- letters and a number, letters and two numbers with _ between, and a bit of a port
abbrev pub with_number : List ℕ → ℕ → List ℕ
with_number letters i = letters ++ (decimal i ++ [])

abbrev pub with_numbers : List ℕ → ℕ → ℕ → List ℕ
with_numbers letters i j = letters ++ (decimal i ++ (95 ∷ (decimal j ++ [])))

abbrev pub with_index : List ℕ → ℕ → List ℕ
with_index letters i = letters ++ (91 ∷ (decimal i ++ (93 ∷ [])))

-- Names of nets

-- what a line chooses
pub data LineKind : Type 0 where
  Column : LineKind
  Group : ℕ → LineKind
  Bank : LineKind

-- what the lines whose bits begin at address bit o choose: in groups from group g on, which begins at address bit from
abbrev pub line_kind_in : List ℕ → ℕ → ℕ → ℕ → LineKind
line_kind_in [] from g o = Bank
line_kind_in (b ∷ bs) from g o = if nat_eq o from then Group g else line_kind_in bs (from + b) (suc g) o

abbrev pub line_kind_at : ℕ → List ℕ → ℕ → LineKind
line_kind_at (suc m) groups zero = Column
line_kind_at m groups o = line_kind_in groups m 0 o

abbrev pub line_kind : Organization → ℕ → LineKind
line_kind plan o = line_kind_at plan.col_bits plan.groups o

abbrev pub line_name : LineKind → ℕ → List ℕ
line_name Column k = with_number (codes "sel") k
line_name (Group g) k = with_numbers (codes "p") g k
line_name Bank k = with_number (codes "e") k

abbrev pub lineb_name : LineKind → ℕ → List ℕ
lineb_name Column k = with_number (codes "sb") k
lineb_name (Group g) k = with_numbers (codes "pb") g k
lineb_name Bank k = with_number (codes "eb") k

-- the name of a net in the subcircuit where it is local
abbrev pub net_name : Organization → Net → List ℕ
net_name plan Vdd = codes "vdd"
net_name plan Gnd = codes "gnd"
net_name plan (Control Clk0) = codes "clk0"
net_name plan (Control Csb0) = codes "csb0"
net_name plan (Control Web0) = codes "web0"
net_name plan (Control Clkb) = codes "clkb"
net_name plan (Control Csq) = codes "csq"
net_name plan (Control Weq) = codes "weq"
net_name plan (Control Cs) = codes "cs"
net_name plan (Control We) = codes "we"
net_name plan (Control Wlb) = codes "wlb"
net_name plan (Control Wlen) = codes "wlen"
net_name plan (Control Wrb) = codes "wrb"
net_name plan (Control Wen) = codes "wen"
net_name plan (Control Rdb) = codes "rdb"
net_name plan (Control Rd) = codes "rd"
net_name plan (Control Dly) = codes "dly"
net_name plan (Control Seb) = codes "seb"
net_name plan (Control Sen) = codes "sen"
net_name plan (Addr i) = with_index (codes "addr0") i
net_name plan (Din i) = with_index (codes "din0") i
net_name plan (Dout i) = with_index (codes "dout0") i
net_name plan (Wmask m) = with_index (codes "wmask0") m
net_name plan (A i) = with_number (codes "a") i
net_name plan (Na i) = with_number (codes "n") i
net_name plan (D i) = with_number (codes "d") i
net_name plan (M m) = with_number (codes "m") m
net_name plan (LineB o b k) = lineb_name (line_kind plan o) k
net_name plan (Line o b k) = line_name (line_kind plan o) k
net_name plan (WlenB b) = with_number (codes "lb") b
net_name plan (WlenAt b) = with_number (codes "wlen") b
net_name plan (SenB b) = with_number (codes "kb") b
net_name plan (SenAt b) = with_number (codes "sen") b
net_name plan (WenB b m) = with_numbers (codes "wx") b m
net_name plan (WenAt b m) = with_numbers (codes "we") b m
net_name plan (Zb b r) = codes "zb"
net_name plan (Wl b r) = codes "wl"
net_name plan (Bl b c) = with_number (codes "bl") c
net_name plan (Br b c) = with_number (codes "br") c
net_name plan (Lo b i) = with_number (codes "lo") i
net_name plan (Ro b i) = with_number (codes "ro") i

-- Names of nets seen from the top

-- the name of a bank: without a number where there is one bank
abbrev pub bank_name : ℕ → ℕ → List ℕ
bank_name zero b = codes "xbank"
bank_name (suc n) b = with_number (codes "xbank") b

-- the path to the subcircuit of an instance: an A behind each name, which no name in lower case holds
abbrev pub in_bank : Organization → ℕ → List ℕ
in_bank plan b = bank_name plan.bank_bits b ++ (65 ∷ [])

abbrev pub in_data : Organization → ℕ → List ℕ
in_data plan b = in_bank plan b ++ (codes "xdata" ++ (65 ∷ []))

abbrev pub in_array : Organization → ℕ → List ℕ
in_array plan b = in_bank plan b ++ (codes "xarray" ++ (65 ∷ []))

abbrev pub in_row : Organization → ℕ → ℕ → List ℕ
in_row plan b r = in_array plan b ++ (with_number (codes "xr") r ++ (65 ∷ []))

abbrev pub in_logic : List ℕ
in_logic = codes "xlogic" ++ (65 ∷ [])

-- an enable for all banks is local to the logic row where each bank has its own
abbrev pub in_one : ℕ → List ℕ
in_one zero = []
in_one (suc n) = in_logic

abbrev pub in_two : ℕ → ℕ → List ℕ
in_two zero zero = []
in_two zero (suc n) = in_logic
in_two (suc k) n = in_logic

abbrev pub in_kind : LineKind → List ℕ
in_kind Bank = in_logic
in_kind k = []

-- where a net is local: the top, or the path to its subcircuit
abbrev pub net_scope : Organization → Net → List ℕ
net_scope plan (Control Csq) = in_logic
net_scope plan (Control Weq) = in_logic
net_scope plan (Control Cs) = in_logic
net_scope plan (Control We) = in_logic
net_scope plan (Control Wlb) = in_logic
net_scope plan (Control Wlen) = in_one plan.bank_bits
net_scope plan (Control Wrb) = in_logic
net_scope plan (Control Wen) = in_two plan.bank_bits plan.masks
net_scope plan (Control Rdb) = in_logic
net_scope plan (Control Rd) = in_logic
net_scope plan (Control Dly) = in_logic
net_scope plan (Control Seb) = in_logic
net_scope plan (Control Sen) = in_one plan.bank_bits
net_scope plan (A i) = in_logic
net_scope plan (Na i) = in_logic
net_scope plan (M m) = in_logic
net_scope plan (LineB o b k) = in_logic
net_scope plan (Line o b k) = in_kind (line_kind plan o)
net_scope plan (WlenB b) = in_logic
net_scope plan (SenB b) = in_logic
net_scope plan (WenB b m) = in_logic
net_scope plan (Zb b r) = in_row plan b r
net_scope plan (Wl b r) = in_row plan b r
net_scope plan (Bl b c) = in_bank plan b
net_scope plan (Br b c) = in_bank plan b
net_scope plan (Lo b i) = in_data plan b
net_scope plan (Ro b i) = in_data plan b
net_scope plan x = []

-- the name of a net seen from the top
abbrev pub full_name : Organization → Net → List ℕ
full_name plan x = net_scope plan x ++ net_name plan x

-- Names and paths of leaf instances

-- the name of a cell of the logic row
abbrev pub gate_name : LineKind → ℕ → List ℕ
gate_name Column k = with_number (codes "xsn") k
gate_name (Group g) k = with_numbers (codes "xpn") g k
gate_name Bank k = with_number (codes "xbn") k

abbrev pub inv_name : LineKind → ℕ → List ℕ
inv_name Column k = with_number (codes "xsi") k
inv_name (Group g) k = with_numbers (codes "xpi") g k
inv_name Bank k = with_number (codes "xbi") k

abbrev pub cell_name : Organization → LogicCell → List ℕ
cell_name plan Clki = codes "xclki"
cell_name plan Csd = codes "xcsd"
cell_name plan Wed = codes "xwed"
cell_name plan Csi = codes "xcsi"
cell_name plan Wei = codes "xwei"
cell_name plan Wln = codes "xwln"
cell_name plan Wli = codes "xwli"
cell_name plan Wrn = codes "xwrn"
cell_name plan Wri = codes "xwri"
cell_name plan Rdn = codes "xrdn"
cell_name plan Rdi = codes "xrdi"
cell_name plan Dlay = codes "xdly"
cell_name plan Senn = codes "xsen"
cell_name plan Seni = codes "xsei"
cell_name plan (Ad i) = with_number (codes "xad") i
cell_name plan (Ai i) = with_number (codes "xai") i
cell_name plan (Dd i) = with_number (codes "xdd") i
cell_name plan (Dm m) = with_number (codes "xdm") m
cell_name plan (Pn o b k) = gate_name (line_kind plan o) k
cell_name plan (Pi o b k) = inv_name (line_kind plan o) k
cell_name plan (Ln b) = with_number (codes "xln") b
cell_name plan (Li b) = with_number (codes "xli") b
cell_name plan (Kn b) = with_number (codes "xkn") b
cell_name plan (Ki b) = with_number (codes "xki") b
cell_name plan (Gn b m) = with_numbers (codes "xgn") b m
cell_name plan (Gi b m) = with_numbers (codes "xgi") b m

-- an instance's name in its subcircuit
abbrev pub leaf_name : Organization → LeafInstance → List ℕ
leaf_name plan (BitAt b r c) = with_number (codes "xb") c
leaf_name plan (NandAt b r) = codes "xnand"
leaf_name plan (DriverAt b r) = codes "xdrv"
leaf_name plan (PrechargeAt b c) = with_number (codes "xp") c
leaf_name plan (WriteAt b i) = with_number (codes "xw") i
leaf_name plan (SenseAt b i) = with_number (codes "xs") i
leaf_name plan (MuxAt b c) = with_number (codes "xm") c
leaf_name plan (TieAt b c) = with_number (codes "xt") c
leaf_name plan (LogicAt cell) = cell_name plan cell

-- the path to an instance's subcircuit, a / behind each name
abbrev pub to_bank : Organization → ℕ → List ℕ
to_bank plan b = bank_name plan.bank_bits b ++ (47 ∷ [])

abbrev pub to_array : Organization → ℕ → List ℕ
to_array plan b = to_bank plan b ++ (codes "xarray" ++ (47 ∷ []))

abbrev pub to_row : Organization → ℕ → ℕ → List ℕ
to_row plan b r = to_array plan b ++ (with_number (codes "xr") r ++ (47 ∷ []))

abbrev pub to_leaf : Organization → LeafInstance → List ℕ
to_leaf plan (BitAt b r c) = to_row plan b r
to_leaf plan (NandAt b r) = to_row plan b r
to_leaf plan (DriverAt b r) = to_row plan b r
to_leaf plan (PrechargeAt b c) = to_bank plan b ++ (codes "xpre" ++ (47 ∷ []))
to_leaf plan (WriteAt b i) = to_bank plan b ++ (codes "xdata" ++ (47 ∷ []))
to_leaf plan (SenseAt b i) = to_bank plan b ++ (codes "xdata" ++ (47 ∷ []))
to_leaf plan (MuxAt b c) = to_bank plan b ++ (codes "xdata" ++ (47 ∷ []))
to_leaf plan (TieAt b c) = to_bank plan b ++ (codes "xdata" ++ (47 ∷ []))
to_leaf plan (LogicAt cell) = codes "xlogic" ++ (47 ∷ [])

abbrev pub leaf_path : Organization → LeafInstance → List ℕ
leaf_path plan leaf = to_leaf plan leaf ++ leaf_name plan leaf
