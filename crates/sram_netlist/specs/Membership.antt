-- Which nets and which leaf instances a memory has.
use Rattle.std.specs.Prelude.{◌≡◌, ℕ, ◌+◌, ◌<◌, ◌⊎◌, List, [], ◌∷◌}
use Rattle.sram_netlist.specs.Organization.{Organization, IsWritten, inputs_of, power_of_two, bank_rows, columns_of, banks_of, bank_bit, addr_bits}
use Rattle.sram_netlist.specs.Nets.{Net, Web0, Weq, We, Wrb, Wen, Rdb, Rd, Control, Addr, Din, Dout, Wmask, A, Na, D, M, LineB, Line, WlenB, WlenAt, SenB, SenAt, WenB, WenAt, Zb, Wl, Bl, Br, Lo, Ro}
use Rattle.sram_netlist.specs.Instances.{LogicCell, LeafInstance, Wed, Wei, Wrn, Wri, Rdn, Rdi, Ad, Ai, Dd, Dm, Pn, Pi, Ln, Li, Kn, Ki, Gn, Gi, BitAt, NandAt, DriverAt, PrechargeAt, WriteAt, SenseAt, MuxAt, TieAt, LogicAt}
use Rattle.sram_netlist.specs.Netlist.{enable_count, enables_of}

abbrev pub IsOneOf : {A : Type 0} → A → List A → Type 0
IsOneOf x [] = ⊥
IsOneOf x (y ∷ ys) = (y ≡ x) ⊎ IsOneOf x ys

-- one of the groups, which begin at address bit from, has the b bits from bit o on
abbrev pub IsGroup : List ℕ → ℕ → ℕ → ℕ → Type 0
IsGroup [] from o b = ⊥
IsGroup (c ∷ cs) from o b = ((o ≡ from) × (b ≡ c)) ⊎ IsGroup cs (from + c) o b

-- lines are made of these bits: the column bits or the bank bits, where there are any, or a group of row bits
abbrev pub IsChoice : Organization → ℕ → ℕ → Type 0
IsChoice plan o b = (((o ≡ 0) × (b ≡ plan.col_bits)) × (0 < b)) ⊎ (IsGroup plan.groups plan.col_bits o b ⊎ (((o ≡ bank_bit plan) × (b ≡ plan.bank_bits)) × (0 < b)))

-- write enables have gates of their own where there are several banks or masks
abbrev pub IsGated : Organization → Type 0
IsGated plan = (0 < plan.bank_bits) ⊎ (0 < plan.masks)

abbrev pub HasEnable : Organization → ℕ → ℕ → Type 0
HasEnable plan bank m = ((bank < banks_of plan) × (m < enables_of plan)) × IsGated plan

-- the cells of the logic row
abbrev pub HasLogicCell : Organization → LogicCell → Type 0
HasLogicCell plan Wed = IsWritten plan
HasLogicCell plan Wei = IsWritten plan
HasLogicCell plan Wrn = IsWritten plan
HasLogicCell plan Wri = IsWritten plan
HasLogicCell plan Rdn = IsWritten plan
HasLogicCell plan Rdi = IsWritten plan
HasLogicCell plan (Ad i) = i < addr_bits plan
HasLogicCell plan (Ai i) = i < addr_bits plan
HasLogicCell plan (Dd i) = i < inputs_of plan
HasLogicCell plan (Dm m) = m < plan.masks
HasLogicCell plan (Pn o b k) = IsChoice plan o b × (k < power_of_two b)
HasLogicCell plan (Pi o b k) = IsChoice plan o b × (k < power_of_two b)
HasLogicCell plan (Ln bank) = (bank < banks_of plan) × (0 < plan.bank_bits)
HasLogicCell plan (Li bank) = (bank < banks_of plan) × (0 < plan.bank_bits)
HasLogicCell plan (Kn bank) = (bank < banks_of plan) × (0 < plan.bank_bits)
HasLogicCell plan (Ki bank) = (bank < banks_of plan) × (0 < plan.bank_bits)
HasLogicCell plan (Gn bank m) = HasEnable plan bank m
HasLogicCell plan (Gi bank m) = HasEnable plan bank m
HasLogicCell plan cell = Unit {0}

-- the leaf instances
abbrev pub HasLeafInstance : Organization → LeafInstance → Type 0
HasLeafInstance plan (BitAt bank r c) = (bank < banks_of plan) × ((r < bank_rows plan) × (c < columns_of plan))
HasLeafInstance plan (NandAt bank r) = (bank < banks_of plan) × (r < bank_rows plan)
HasLeafInstance plan (DriverAt bank r) = (bank < banks_of plan) × (r < bank_rows plan)
HasLeafInstance plan (PrechargeAt bank c) = (bank < banks_of plan) × (c < columns_of plan)
HasLeafInstance plan (WriteAt bank i) = (bank < banks_of plan) × (i < inputs_of plan)
HasLeafInstance plan (SenseAt bank i) = (bank < banks_of plan) × (i < plan.word_size)
HasLeafInstance plan (MuxAt bank c) = (bank < banks_of plan) × ((c < columns_of plan) × (0 < plan.col_bits))
HasLeafInstance plan (TieAt bank c) = (bank < banks_of plan) × ((c < columns_of plan) × (plan.col_bits ≡ 0))
HasLeafInstance plan (LogicAt cell) = HasLogicCell plan cell

-- the nets on the ports of leaf instances
abbrev pub HasLeafNet : Organization → Net → Type 0
HasLeafNet plan (Control Web0) = IsWritten plan
HasLeafNet plan (Control Weq) = IsWritten plan
HasLeafNet plan (Control We) = IsWritten plan
HasLeafNet plan (Control Wrb) = IsWritten plan
HasLeafNet plan (Control Wen) = IsWritten plan
HasLeafNet plan (Control Rdb) = IsWritten plan
HasLeafNet plan (Control Rd) = IsWritten plan
HasLeafNet plan (Addr i) = i < addr_bits plan
HasLeafNet plan (A i) = i < addr_bits plan
HasLeafNet plan (Na i) = i < addr_bits plan
HasLeafNet plan (Din i) = i < inputs_of plan
HasLeafNet plan (Dout i) = i < plan.word_size
HasLeafNet plan (D i) = i < inputs_of plan
HasLeafNet plan (Wmask m) = m < plan.masks
HasLeafNet plan (M m) = m < plan.masks
HasLeafNet plan (LineB o b k) = IsChoice plan o b × (k < power_of_two b)
HasLeafNet plan (Line o b k) = IsChoice plan o b × (k < power_of_two b)
HasLeafNet plan (WlenB bank) = (bank < banks_of plan) × (0 < plan.bank_bits)
HasLeafNet plan (WlenAt bank) = (bank < banks_of plan) × (0 < plan.bank_bits)
HasLeafNet plan (SenB bank) = (bank < banks_of plan) × (0 < plan.bank_bits)
HasLeafNet plan (SenAt bank) = (bank < banks_of plan) × (0 < plan.bank_bits)
HasLeafNet plan (WenB bank m) = HasEnable plan bank m
HasLeafNet plan (WenAt bank m) = HasEnable plan bank m
HasLeafNet plan (Zb bank r) = (bank < banks_of plan) × (r < bank_rows plan)
HasLeafNet plan (Wl bank r) = (bank < banks_of plan) × (r < bank_rows plan)
HasLeafNet plan (Bl bank c) = (bank < banks_of plan) × (c < columns_of plan)
HasLeafNet plan (Br bank c) = (bank < banks_of plan) × (c < columns_of plan)
HasLeafNet plan (Lo bank i) = (bank < banks_of plan) × ((i < plan.word_size) × (0 < plan.col_bits))
HasLeafNet plan (Ro bank i) = (bank < banks_of plan) × ((i < plan.word_size) × (0 < plan.col_bits))
HasLeafNet plan net = Unit {0}

-- nets that names tell apart: those, and the ones that a memory with another count of banks, masks or words in a row has
abbrev pub IsNameable : Organization → Net → Type 0
IsNameable plan (Addr i) = i < addr_bits plan
IsNameable plan (A i) = i < addr_bits plan
IsNameable plan (Na i) = i < addr_bits plan
IsNameable plan (Din i) = i < plan.word_size
IsNameable plan (Dout i) = i < plan.word_size
IsNameable plan (D i) = i < plan.word_size
IsNameable plan (Wmask m) = m < plan.masks
IsNameable plan (M m) = m < plan.masks
IsNameable plan (LineB o b k) = IsChoice plan o b × (k < power_of_two b)
IsNameable plan (Line o b k) = IsChoice plan o b × (k < power_of_two b)
IsNameable plan (WlenB bank) = bank < banks_of plan
IsNameable plan (WlenAt bank) = bank < banks_of plan
IsNameable plan (SenB bank) = bank < banks_of plan
IsNameable plan (SenAt bank) = bank < banks_of plan
IsNameable plan (WenB bank m) = (bank < banks_of plan) × (m < enable_count plan.masks)
IsNameable plan (WenAt bank m) = (bank < banks_of plan) × (m < enable_count plan.masks)
IsNameable plan (Zb bank r) = (bank < banks_of plan) × (r < bank_rows plan)
IsNameable plan (Wl bank r) = (bank < banks_of plan) × (r < bank_rows plan)
IsNameable plan (Bl bank c) = (bank < banks_of plan) × (c < columns_of plan)
IsNameable plan (Br bank c) = (bank < banks_of plan) × (c < columns_of plan)
IsNameable plan (Lo bank i) = (bank < banks_of plan) × (i < plan.word_size)
IsNameable plan (Ro bank i) = (bank < banks_of plan) × (i < plan.word_size)
IsNameable plan net = Unit {0}
