-- The value of each net, in the order in which they follow from ports and stored bits.
use Rattle.std.proofs.Common.{ℕ, zero, suc, ◌+◌, ◌*◌, ◌/◌, ◌%◌, eqb, Bool, true, false, cond, ◌&&◌, not, List, [], ◌∷◌}
use Rattle.sram_netlist.specs.Organization.{Organization, power_of_two, bank_rows, bank_bit}
use Rattle.sram_netlist.specs.Nets.{ControlSignal, Net, Clk0, Csb0, Web0, Clkb, Csq, Weq, Cs, We, Wlb, Wlen, Wrb, Wen, Rdb, Rd, Dly, Seb, Sen, Vdd, Gnd, Control, Addr, Din, Dout, Wmask, A, Na, D, M, LineB, Line, WlenB, WlenAt, SenB, SenAt, WenB, WenAt, Zb, Wl, Bl, Br, Lo, Ro}
use Rattle.sram_netlist.specs.Instances.{LogicCell, Csd, Wed, Dlay, Ad, Dd, Dm, BitAt, LogicAt}
use Rattle.sram_netlist.specs.Netlist.{lowest_bit, low_bits, high_bits, mask_of}
use Rattle.cell_roles.specs.Acts.{differ, flop_bit}
use Rattle.memory_laws.specs.Phase.{State, PortInputs}

abbrev pub gate1 : Bool → Bool
gate1 x = not (x && true)

abbrev pub gate2 : Bool → Bool → Bool
gate2 x y = not (x && (y && true))

abbrev pub gate3 : Bool → Bool → Bool → Bool
gate3 x y z = not (x && (y && (z && true)))

abbrev pub flop : State → PortInputs → LogicCell → Bool → Bool
flop s i cell d = flop_bit d i.clk (s.q (LogicAt cell)) (s.p (LogicAt cell))

abbrev pub signal : State → PortInputs → ControlSignal → Bool
signal s i Clk0 = i.clk
signal s i Csb0 = i.csb
signal s i Web0 = i.web
signal s i Clkb = gate1 i.clk
signal s i Csq = flop s i Csd i.csb
signal s i Weq = flop s i Wed i.web
signal s i Cs = gate1 (flop s i Csd i.csb)
signal s i We = gate1 (flop s i Wed i.web)
signal s i Wlb = gate2 (gate1 (flop s i Csd i.csb)) (gate1 i.clk)
signal s i Wlen = gate1 (gate2 (gate1 (flop s i Csd i.csb)) (gate1 i.clk))
signal s i Wrb = gate3 (gate1 (flop s i Csd i.csb)) (gate1 (flop s i Wed i.web)) (gate1 i.clk)
signal s i Wen = gate1 (gate3 (gate1 (flop s i Csd i.csb)) (gate1 (flop s i Wed i.web)) (gate1 i.clk))
signal s i Rdb = gate3 (gate1 (flop s i Csd i.csb)) (flop s i Wed i.web) (gate1 i.clk)
signal s i Rd = gate1 (gate3 (gate1 (flop s i Csd i.csb)) (flop s i Wed i.web) (gate1 i.clk))
signal s i Dly = s.q (LogicAt Dlay)
signal s i Seb = gate2 (gate1 (gate3 (gate1 (flop s i Csd i.csb)) (flop s i Wed i.web) (gate1 i.clk))) (s.q (LogicAt Dlay))
signal s i Sen = gate1 (gate2 (gate1 (gate3 (gate1 (flop s i Csd i.csb)) (flop s i Wed i.web) (gate1 i.clk))) (s.q (LogicAt Dlay)))

abbrev pub address : State → PortInputs → ℕ → Bool
address s i j = flop s i (Ad j) (i.addr j)

abbrev pub datum : State → PortInputs → ℕ → Bool
datum s i j = flop s i (Dd j) (i.din j)

abbrev pub mask : State → PortInputs → ℕ → Bool
mask s i j = flop s i (Dm j) (i.wmask j)

abbrev pub picked : (ℕ → Bool) → ℕ → Bool → Bool
picked a o true = a o
picked a o false = gate1 (a o)

abbrev pub all_picked : (ℕ → Bool) → ℕ → ℕ → ℕ → Bool
all_picked a o zero k = true
all_picked a o (suc b) k = picked a o (lowest_bit k) && all_picked a (suc o) b (k / 2)

-- the value of a line
abbrev pub line : State → PortInputs → ℕ → ℕ → ℕ → Bool
line s i o b k = gate1 (not (all_picked (address s i) o b k))

abbrev pub all_lines : (ℕ → Bool) → List ℕ → ℕ → ℕ → Bool
all_lines a [] o r = true
all_lines a (b ∷ bs) o r = gate1 (not (all_picked a o b (low_bits b r))) && all_lines a bs (o + b) (high_bits b r)

-- a bank's enables
abbrev pub wlen_b : Organization → State → PortInputs → ℕ → Bool
wlen_b p s i bank = gate2 (signal s i Wlen) (line s i (bank_bit p) p.bank_bits bank)

abbrev pub sen_b : Organization → State → PortInputs → ℕ → Bool
sen_b p s i bank = gate2 (signal s i Sen) (line s i (bank_bit p) p.bank_bits bank)

abbrev pub bank_on : Bool → ℕ → Bool → Bool
bank_on l zero t = t
bank_on l (suc n) t = l && t

abbrev pub mask_on : State → PortInputs → ℕ → ℕ → Bool
mask_on s i zero j = true
mask_on s i (suc k) j = mask s i j && true

-- a write enable's gate gives its opposite
abbrev pub wen_on : Organization → State → PortInputs → ℕ → ℕ → Bool
wen_on p s i bank j = signal s i Wen && bank_on (line s i (bank_bit p) p.bank_bits bank) p.bank_bits (mask_on s i p.masks j)

abbrev pub enabled : ℕ → Bool → Bool → Bool
enabled zero t u = t
enabled (suc n) t u = u

abbrev pub wlen : Organization → State → PortInputs → ℕ → Bool
wlen p s i bank = enabled p.bank_bits (signal s i Wlen) (gate1 (wlen_b p s i bank))

abbrev pub sen : Organization → State → PortInputs → ℕ → Bool
sen p s i bank = enabled p.bank_bits (signal s i Sen) (gate1 (sen_b p s i bank))

-- the write enable of bit j
abbrev pub wen : Organization → State → PortInputs → ℕ → ℕ → Bool
wen p s i bank j = enabled p.bank_bits (enabled p.masks (signal s i Wen) (gate1 (not (wen_on p s i bank (mask_of p.masks p.write_size j))))) (gate1 (not (wen_on p s i bank (mask_of p.masks p.write_size j))))

-- one of the rows below n has it
abbrev pub any_below : ℕ → (ℕ → Bool) → Bool
any_below zero f = false
any_below (suc n) f = cond (f n) true (any_below n f)

-- a bit line with its precharge, write enable, datum, pull and charge
abbrev pub bit_line : Bool → Bool → Bool → Bool → Bool → Bool
bit_line false e d pulled charge = true
bit_line true true d pulled charge = d
bit_line true false d true charge = false
bit_line true false d false charge = charge

-- the number that b bits from o on make
abbrev pub index : (ℕ → Bool) → ℕ → ℕ → ℕ
index a o zero = 0
index a o (suc b) = cond (a o) 1 0 + 2 * index a (suc o) b

-- the column choice and the bank of the address
abbrev pub choice : Organization → State → PortInputs → ℕ
choice p s i = index (address s i) 0 p.col_bits

abbrev pub here : Organization → State → PortInputs → ℕ
here p s i = index (address s i) (bank_bit p) p.bank_bits

-- the chosen column of bit j's slice
abbrev pub column : Organization → State → PortInputs → ℕ → ℕ
column p s i j = j * power_of_two p.col_bits + choice p s i

abbrev pub word_line : Organization → State → PortInputs → ℕ → ℕ → Bool
word_line p s i bank r = wlen p s i bank && not (not (all_lines (address s i) p.groups p.col_bits r))

-- a column is written
abbrev pub opened : Organization → State → PortInputs → ℕ → ℕ → Bool
opened p s i bank c = wen p s i bank (c / power_of_two p.col_bits) && eqb (c % power_of_two p.col_bits) (choice p s i)

abbrev pub left : Organization → State → PortInputs → ℕ → ℕ → Bool
left p s i bank c = bit_line (signal s i Clkb) (opened p s i bank c) (datum s i (c / power_of_two p.col_bits))
    (any_below (bank_rows p) (λ r. word_line p s i bank r && not (s.q (BitAt bank r c)))) (s.charge (Bl bank c))

abbrev pub right : Organization → State → PortInputs → ℕ → ℕ → Bool
right p s i bank c = bit_line (signal s i Clkb) (opened p s i bank c) (not (datum s i (c / power_of_two p.col_bits)))
    (any_below (bank_rows p) (λ r. word_line p s i bank r && s.q (BitAt bank r c))) (s.charge (Br bank c))

-- the sense cell of bit j in a bank gives its left line
abbrev pub sensed : Organization → State → PortInputs → ℕ → ℕ → Bool
sensed p s i bank j = sen p s i bank && differ (left p s i bank (column p s i j)) (right p s i bank (column p s i j))

abbrev pub value : Organization → State → PortInputs → Net → Bool
value p s i Vdd = true
value p s i Gnd = false
value p s i (Control x) = signal s i x
value p s i (Addr j) = i.addr j
value p s i (Din j) = i.din j
value p s i (Wmask j) = i.wmask j
value p s i (Dout j) = cond (sensed p s i (here p s i) j) (left p s i (here p s i) (column p s i j)) (s.charge (Dout j))
value p s i (A j) = address s i j
value p s i (Na j) = gate1 (address s i j)
value p s i (D j) = datum s i j
value p s i (M j) = mask s i j
value p s i (LineB o b k) = not (all_picked (address s i) o b k)
value p s i (Line o b k) = line s i o b k
value p s i (WlenB bank) = wlen_b p s i bank
value p s i (WlenAt bank) = gate1 (wlen_b p s i bank)
value p s i (SenB bank) = sen_b p s i bank
value p s i (SenAt bank) = gate1 (sen_b p s i bank)
value p s i (WenB bank j) = not (wen_on p s i bank j)
value p s i (WenAt bank j) = gate1 (not (wen_on p s i bank j))
value p s i (Zb bank r) = not (all_lines (address s i) p.groups p.col_bits r)
value p s i (Wl bank r) = word_line p s i bank r
value p s i (Bl bank c) = left p s i bank c
value p s i (Br bank c) = right p s i bank c
value p s i (Lo bank j) = left p s i bank (column p s i j)
value p s i (Ro bank j) = right p s i bank (column p s i j)
