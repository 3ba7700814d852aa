-- The leaf instances of a memory as a list, in the order in which they are written.
use Rattle.std.specs.Prelude.{ℕ, zero, suc, ◌+◌, List, [], ◌∷◌, ◌++◌, map}
use Rattle.std.specs.List.{flat_map}
use Rattle.sram_netlist.specs.Organization.{Organization, inputs_of, power_of_two, bank_rows, columns_of, banks_of, bank_bit, addr_bits}
use Rattle.sram_netlist.specs.Instances.{LogicCell, LeafInstance, Clki, Csd, Wed, Csi, Wei, Wln, Wli, Wrn, Wri, Rdn, Rdi, Dlay, Senn, Seni, Ad, Ai, Dd, Dm, Pn, Pi, Ln, Li, Kn, Ki, Gn, Gi, BitAt, NandAt, DriverAt, PrechargeAt, WriteAt, SenseAt, MuxAt, TieAt, LogicAt}
use Rattle.sram_netlist.specs.Netlist.{enables_of}

-- n numbers from k on
abbrev pub numbers_from : ℕ → ℕ → List ℕ
numbers_from k zero = []
numbers_from k (suc n) = k ∷ numbers_from (suc k) n

-- f 0, f 1 and so on, n of them
abbrev pub tabulate : {A : Type 0} → ℕ → (ℕ → A) → List A
tabulate n f = map f (numbers_from 0 n)

-- the same for lists, one after another
abbrev pub tabulate_lists : {A : Type 0} → ℕ → (ℕ → List A) → List A
tabulate_lists n f = flat_map f (numbers_from 0 n)

-- The logic row

-- clock and control, by the bits of a write
abbrev pub fixed_cells : ℕ → List LogicCell
fixed_cells zero = Clki ∷ Csd ∷ Csi ∷ Wln ∷ Wli ∷ Dlay ∷ Senn ∷ Seni ∷ []
fixed_cells (suc write_size) = Clki ∷ Csd ∷ Wed ∷ Csi ∷ Wei ∷ Wln ∷ Wli ∷ Wrn ∷ Wri ∷ Rdn ∷ Rdi ∷ Dlay ∷ Senn ∷ Seni ∷ []

abbrev pub address_cells : ℕ → List LogicCell
address_cells i = Ad i ∷ (Ai i ∷ [])

-- the gates of a line, and of all lines over b address bits from bit o on
abbrev pub line_gates : ℕ → ℕ → ℕ → List LogicCell
line_gates o b k = Pn o b k ∷ (Pi o b k ∷ [])

abbrev pub gates : ℕ → ℕ → List LogicCell
gates o b = tabulate_lists (power_of_two b) (line_gates o b)

-- the gates of the column choices, where there are column bits
abbrev pub choice_gates : ℕ → List LogicCell
choice_gates zero = []
choice_gates (suc m) = gates 0 (suc m)

-- the gates of the predecode lines, group by group
abbrev pub groups_gates : List ℕ → ℕ → List LogicCell
groups_gates [] o = []
groups_gates (b ∷ bs) o = gates o b ++ groups_gates bs (o + b)

-- the bank choices and then the enables of each bank, where there are bank bits
abbrev pub bank_cells : ℕ → List LogicCell
bank_cells bank = Ln bank ∷ Li bank ∷ Kn bank ∷ Ki bank ∷ []

abbrev pub banks_cells : Organization → ℕ → List LogicCell
banks_cells plan zero = []
banks_cells plan (suc n) = gates (bank_bit plan) (suc n) ++ tabulate_lists (power_of_two (suc n)) bank_cells

-- the write enables, bank by bank and so many in each, where there are bank bits or masks
abbrev pub enable_gates : ℕ → ℕ → List LogicCell
enable_gates bank m = Gn bank m ∷ Gi bank m ∷ []

abbrev pub enable_cells : ℕ → ℕ → ℕ → List LogicCell
enable_cells zero zero enables = []
enable_cells zero (suc masks) enables = tabulate_lists 1 (λ bank. tabulate_lists enables (enable_gates bank))
enable_cells (suc n) masks enables = tabulate_lists (power_of_two (suc n)) (λ bank. tabulate_lists enables (enable_gates bank))

abbrev pub logic_cells : Organization → List LogicCell
logic_cells plan = fixed_cells plan.write_size ++ (tabulate_lists (addr_bits plan) address_cells ++ (choice_gates plan.col_bits ++ (groups_gates plan.groups plan.col_bits
    ++ (tabulate (inputs_of plan) Dd ++ (tabulate plan.masks Dm ++ (banks_cells plan plan.bank_bits ++ enable_cells plan.bank_bits plan.masks (enables_of plan)))))))

-- A bank

-- a row: its gate, its driver and its bitcells
abbrev pub row_leaves : Organization → ℕ → ℕ → List LeafInstance
row_leaves plan bank r = NandAt bank r ∷ (DriverAt bank r ∷ tabulate (columns_of plan) (BitAt bank r))

-- multiplexers, or ties where a row has one word
abbrev pub column_cells : ℕ → ℕ → ℕ → List LeafInstance
column_cells zero bank n = tabulate n (TieAt bank)
column_cells (suc m) bank n = tabulate n (MuxAt bank)

abbrev pub data_leaves : Organization → ℕ → List LeafInstance
data_leaves plan bank = tabulate (inputs_of plan) (WriteAt bank) ++ (tabulate plan.word_size (SenseAt bank) ++ column_cells plan.col_bits bank (columns_of plan))

abbrev pub bank_leaves : Organization → ℕ → List LeafInstance
bank_leaves plan bank = tabulate_lists (bank_rows plan) (row_leaves plan bank) ++ (tabulate (columns_of plan) (PrechargeAt bank) ++ data_leaves plan bank)

-- the logic row, and then bank by bank
abbrev pub leaf_instances : Organization → List LeafInstance
leaf_instances plan = map LogicAt (logic_cells plan) ++ tabulate_lists (banks_of plan) (bank_leaves plan)
