-- Which instances drive a net, for any values.
use Rattle.std.proofs.Common.{◌≡◌, ℕ, ◌*◌, ◌/◌, ◌%◌, ◌<◌, Bool, true, false, ◌&&◌, not, List, [], ◌∷◌, ◌++◌, map, refl, sym, ap, subst, ◌∙◌, eqb, eqb-true, inl, inr, ◌⊎◌}
use Rattle.std.proofs.lemmas.Nat.{div_below}
use Rattle.sram_netlist.specs.Nets.{Net, Clk0, Csb0, Web0, Clkb, Csq, Weq, Cs, We, Wlb, Wlen, Wrb, Wen, Rdb, Rd, Dly, Seb, Sen, Vdd, Gnd, Control, Addr, Din, Dout, Wmask, A, Na, D, M, LineB, Line, WlenB, WlenAt, SenB, SenAt, WenB, WenAt, Zb, Wl, Bl, Br, Lo, Ro}
use Rattle.sram_netlist.specs.Instances.{LogicCell, LeafInstance, Clki, Csd, Wed, Csi, Wei, Wln, Wli, Wrn, Wri, Rdn, Rdi, Dlay, Senn, Seni, Ad, Ai, Dd, Dm, Pn, Pi, Ln, Li, Kn, Ki, Gn, Gi, BitAt, NandAt, DriverAt, PrechargeAt, WriteAt, SenseAt, MuxAt, TieAt, LogicAt}
use Rattle.sram_netlist.specs.Organization.{power_of_two, Organization, bank_rows, bank_bit}
use Rattle.cell_roles.specs.Acts.{Drive, Strong, Weak, all_high, differ, flop_bit, high_unless, strong_if}
use Rattle.sram_netlist.specs.Netlist.{picks, row_lines, lo_net, ro_net, wlen_at, sen_at, bank_input, mask_input}
use Rattle.sram_netlist.specs.Membership.{HasLeafInstance, HasLogicCell, HasLeafNet}
use Rattle.memory_laws.specs.Phase.{State, PortInputs, Gives, InGroup, HasNone, IsDriven, given, act_at}
use Rattle.memory_laws.proofs.Values.{gate1, gate2, gate3}
use Rattle.memory_laws.proofs.Decode.{twice_some}
use Rattle.memory_laws.proofs.Direct.{cell_drives, drives, enable, direct, writable}
use Rattle.memory_laws.proofs.Groups.{IsChosen, follow, to_lo, to_ro, some_choice, lo_some, ro_some, lo_none, ro_none}
use Rattle.memory_laws.proofs.Exists.{low_not_strong, low_is_weak, high_is_strong, high_not_weak, strong_is, strong_not_weak}

-- what the driver of a net gives, where it has one
abbrev pub local : Organization → State → PortInputs → (Net → Bool) → Net → Bool
local p s i v Vdd = true
local p s i v Gnd = false
local p s i v (Control Clk0) = i.clk
local p s i v (Control Csb0) = i.csb
local p s i v (Control Web0) = i.web
local p s i v (Control Clkb) = gate1 (v (Control Clk0))
local p s i v (Control Csq) = flop_bit (v (Control Csb0)) (v (Control Clk0)) (s.q (LogicAt Csd)) (s.p (LogicAt Csd))
local p s i v (Control Weq) = flop_bit (v (Control Web0)) (v (Control Clk0)) (s.q (LogicAt Wed)) (s.p (LogicAt Wed))
local p s i v (Control Cs) = gate1 (v (Control Csq))
local p s i v (Control We) = gate1 (v (Control Weq))
local p s i v (Control Wlb) = gate2 (v (Control Cs)) (v (Control Clkb))
local p s i v (Control Wlen) = gate1 (v (Control Wlb))
local p s i v (Control Wrb) = gate3 (v (Control Cs)) (v (Control We)) (v (Control Clkb))
local p s i v (Control Wen) = gate1 (v (Control Wrb))
local p s i v (Control Rdb) = gate3 (v (Control Cs)) (v (Control Weq)) (v (Control Clkb))
local p s i v (Control Rd) = gate1 (v (Control Rdb))
local p s i v (Control Dly) = s.q (LogicAt Dlay)
local p s i v (Control Seb) = gate2 (v (Control Rd)) (v (Control Dly))
local p s i v (Control Sen) = gate1 (v (Control Seb))
local p s i v (Addr j) = i.addr j
local p s i v (Din j) = i.din j
local p s i v (A j) = flop_bit (v (Addr j)) (v (Control Clk0)) (s.q (LogicAt (Ad j))) (s.p (LogicAt (Ad j)))
local p s i v (Na j) = gate1 (v (A j))
local p s i v (Wmask j) = i.wmask j
local p s i v (D j) = flop_bit (v (Din j)) (v (Control Clk0)) (s.q (LogicAt (Dd j))) (s.p (LogicAt (Dd j)))
local p s i v (M j) = flop_bit (v (Wmask j)) (v (Control Clk0)) (s.q (LogicAt (Dm j))) (s.p (LogicAt (Dm j)))
local p s i v (LineB o b k) = not (all_high (map v (picks o b k)))
local p s i v (Line o b k) = gate1 (v (LineB o b k))
local p s i v (WlenB bank) = gate2 (v (Control Wlen)) (v (Line (bank_bit p) p.bank_bits bank))
local p s i v (WlenAt bank) = gate1 (v (WlenB bank))
local p s i v (SenB bank) = gate2 (v (Control Sen)) (v (Line (bank_bit p) p.bank_bits bank))
local p s i v (SenAt bank) = gate1 (v (SenB bank))
local p s i v (WenB bank j) = not (v (Control Wen) && all_high (map v (bank_input p p.bank_bits bank ++ mask_input p.masks j)))
local p s i v (WenAt bank j) = gate1 (v (WenB bank j))
local p s i v (Zb bank r) = not (all_high (map v (row_lines p.groups p.col_bits r)))
local p s i v (Wl bank r) = v (wlen_at p.bank_bits bank) && not (v (Zb bank r))
local p s i v y = false

-- a gate gives that
cell_says : (p : Organization) (s : State) (i : PortInputs) (v : Net → Bool) (cell : LogicCell) → (act_at (direct p) s v (LogicAt cell)).drives ≡ Strong (local p s i v (cell_drives cell)) ∷ []
cell_says p s i v Clki = refl
cell_says p s i v cell = refl

pub only : (x y : Net) (d : Drive) (a : Bool) (ds : List Drive) → ds ≡ Strong a ∷ [] → IsDriven y d (x ∷ []) ds → (x ≡ y) × (Strong a ≡ d)
only x y d a [] e h = absurd cc
only x y d a (f ∷ fs) e (inl h) = let first : f ≡ Strong a = cc in (h.0, sym first ∙ h.1)
only x y d a (f ∷ fs) e (inr h) = absurd h

abbrev pub Pulled : Organization → State → (Net → Bool) → ℕ → ℕ → Type 0
Pulled p s v bank c = (r : ℕ) × (r < bank_rows p) × ((v (Wl bank r) && not (s.q (BitAt bank r c))) ≡ true)

abbrev pub PulledRight : Organization → State → (Net → Bool) → ℕ → ℕ → Type 0
PulledRight p s v bank c = (r : ℕ) × (r < bank_rows p) × ((v (Wl bank r) && s.q (BitAt bank r c)) ≡ true)

abbrev pub WeakEnds : Organization → State → (Net → Bool) → Net → Type 0
WeakEnds p s v y = ((bank : ℕ) × (c : ℕ) × (bank < power_of_two p.bank_bits) × (c < p.word_size * power_of_two p.col_bits) × (Bl bank c ≡ y) × Pulled p s v bank c)
    ⊎ ((bank : ℕ) × (c : ℕ) × (bank < power_of_two p.bank_bits) × (c < p.word_size * power_of_two p.col_bits) × (Br bank c ≡ y) × PulledRight p s v bank c)

some : PortInputs
some = record { clk = true; csb = true; web = true; addr = λ j. true; din = λ j. true; wmask = λ j. true }

weak_place : (p : Organization) (s : State) (v : Net → Bool) (y : Net) (b : Bool) (leaf : LeafInstance) → HasLeafInstance (writable p) leaf
    → IsDriven y (Weak b) (drives p leaf) (act_at (direct p) s v leaf).drives → (b ≡ false) × WeakEnds p s v y
weak_place p s v y b (BitAt bank r c) there (inl h) = let e = low_is_weak _ b h.1 in (e.1, inl (bank, c, there.0, there.1.1, h.0, (r, there.1.0, e.0)))
weak_place p s v y b (BitAt bank r c) there (inr (inl h)) = let e = low_is_weak _ b h.1 in (e.1, inr (bank, c, there.0, there.1.1, h.0, (r, there.1.0, e.0)))
weak_place p s v y b (BitAt bank r c) there (inr (inr h)) = absurd h
weak_place p s v y b (PrechargeAt bank c) there (inl h) = absurd (high_not_weak _ b h.1)
weak_place p s v y b (PrechargeAt bank c) there (inr (inl h)) = absurd (high_not_weak _ b h.1)
weak_place p s v y b (PrechargeAt bank c) there (inr (inr h)) = absurd h
weak_place p s v y b (WriteAt bank c) there (inl h) = absurd (strong_not_weak _ _ b h.1)
weak_place p s v y b (WriteAt bank c) there (inr (inl h)) = absurd (strong_not_weak _ _ b h.1)
weak_place p s v y b (WriteAt bank c) there (inr (inr h)) = absurd h
weak_place p s v y b (SenseAt bank c) there (inl h) = absurd (strong_not_weak _ _ b h.1)
weak_place p s v y b (SenseAt bank c) there (inr h) = absurd h
weak_place p s v y b (NandAt bank r) there (inl h) = absurd (let e = h.1 in cc)
weak_place p s v y b (NandAt bank r) there (inr h) = absurd h
weak_place p s v y b (DriverAt bank r) there (inl h) = absurd (let e = h.1 in cc)
weak_place p s v y b (DriverAt bank r) there (inr h) = absurd h
weak_place p s v y b (MuxAt bank r) there h = absurd h
weak_place p s v y b (TieAt bank r) there h = absurd h
weak_place p s v y b (LogicAt cell) there h = absurd (let e = (only (cell_drives cell) y (Weak b) _ _ (cell_says p s some v cell) h).1 in cc)

given_not_weak : (i : PortInputs) (y : Net) (b : Bool) → given i y ≡ Weak b → ⊥
given_not_weak i Vdd b e = cc
given_not_weak i Gnd b e = cc
given_not_weak i (Control Clk0) b e = cc
given_not_weak i (Control Csb0) b e = cc
given_not_weak i (Control Web0) b e = cc
given_not_weak i (Addr j) b e = cc
given_not_weak i (Din j) b e = cc
given_not_weak i (Wmask j) b e = cc
given_not_weak i y b e = cc

pub weak_from : (p : Organization) (s : State) (i : PortInputs) (v : Net → Bool) (y : Net) (b : Bool) → Gives (direct p) s i v y (Weak b) → (b ≡ false) × WeakEnds p s v y
weak_from p s i v y b (inl e) = absurd (given_not_weak i y b e)
weak_from p s i v y b (inr d) = weak_place p s v y b d.leaf d.there d.driven

-- the nets that no gate drives
abbrev pub is_loose : Net → Bool
is_loose (Bl bank c) = true
is_loose (Br bank c) = true
is_loose (Lo bank c) = true
is_loose (Ro bank c) = true
is_loose (Dout c) = true
is_loose y = false

abbrev pub StrongEnds : Organization → (Net → Bool) → Net → Type 0
StrongEnds p v (Bl bank c) = (v (Control Clkb) ≡ false) ⊎ ((v (enable p bank c) ≡ true) × (p.col_bits ≡ 0))
StrongEnds p v (Br bank c) = (v (Control Clkb) ≡ false) ⊎ ((v (enable p bank c) ≡ true) × (p.col_bits ≡ 0))
StrongEnds p v (Lo bank c) = v (enable p bank c) ≡ true
StrongEnds p v (Ro bank c) = v (enable p bank c) ≡ true
StrongEnds p v (Dout c) = (bank : ℕ) × (bank < power_of_two p.bank_bits) × ((v (sen_at p.bank_bits bank) && differ (v (lo_net p.col_bits bank c)) (v (ro_net p.col_bits bank c))) ≡ true)
StrongEnds p v y = Unit {0}

lo_ends : (p : Organization) (v : Net → Bool) (bank c : ℕ) → v (enable p bank c) ≡ true → StrongEnds p v (lo_net p.col_bits bank c)
lo_ends p v bank c e = by_choice (some_choice p.col_bits)
  where
    by_choice : (p.col_bits ≡ 0) ⊎ (0 < p.col_bits) → StrongEnds p v (lo_net p.col_bits bank c)
    by_choice (inl none) = subst (StrongEnds p v) (sym (lo_none p.col_bits bank c none)) (inr (e, none))
    by_choice (inr some) = subst (StrongEnds p v) (sym (lo_some p.col_bits bank c some)) e

ro_ends : (p : Organization) (v : Net → Bool) (bank c : ℕ) → v (enable p bank c) ≡ true → StrongEnds p v (ro_net p.col_bits bank c)
ro_ends p v bank c e = by_choice (some_choice p.col_bits)
  where
    by_choice : (p.col_bits ≡ 0) ⊎ (0 < p.col_bits) → StrongEnds p v (ro_net p.col_bits bank c)
    by_choice (inl none) = subst (StrongEnds p v) (sym (ro_none p.col_bits bank c none)) (inr (e, none))
    by_choice (inr some) = subst (StrongEnds p v) (sym (ro_some p.col_bits bank c some)) e

gate_tight : (p : Organization) (v : Net → Bool) (cell : LogicCell) → StrongEnds p v (cell_drives cell)
gate_tight p v Clki = tt
gate_tight p v cell = tt

strong_place : (p : Organization) (s : State) (v : Net → Bool) (y : Net) (b : Bool) (leaf : LeafInstance) → HasLeafInstance (writable p) leaf
    → IsDriven y (Strong b) (drives p leaf) (act_at (direct p) s v leaf).drives → StrongEnds p v y
strong_place p s v y b (BitAt bank r c) there (inl h) = absurd (low_not_strong _ b h.1)
strong_place p s v y b (BitAt bank r c) there (inr (inl h)) = absurd (low_not_strong _ b h.1)
strong_place p s v y b (BitAt bank r c) there (inr (inr h)) = absurd h
strong_place p s v y b (PrechargeAt bank c) there (inl h) = subst (StrongEnds p v) h.0 (inl (high_is_strong _ b h.1).0)
strong_place p s v y b (PrechargeAt bank c) there (inr (inl h)) = subst (StrongEnds p v) h.0 (inl (high_is_strong _ b h.1).0)
strong_place p s v y b (PrechargeAt bank c) there (inr (inr h)) = absurd h
strong_place p s v y b (WriteAt bank c) there (inl h) = subst (StrongEnds p v) h.0 (lo_ends p v bank c (strong_is _ _ b h.1).0)
strong_place p s v y b (WriteAt bank c) there (inr (inl h)) = subst (StrongEnds p v) h.0 (ro_ends p v bank c (strong_is _ _ b h.1).0)
strong_place p s v y b (WriteAt bank c) there (inr (inr h)) = absurd h
strong_place p s v y b (SenseAt bank c) there (inl h) = subst (StrongEnds p v) h.0 (bank, there.0, (strong_is _ _ b h.1).0)
strong_place p s v y b (SenseAt bank c) there (inr h) = absurd h
strong_place p s v y b (NandAt bank r) there (inl h) = subst (StrongEnds p v) h.0 tt
strong_place p s v y b (NandAt bank r) there (inr h) = absurd h
strong_place p s v y b (DriverAt bank r) there (inl h) = subst (StrongEnds p v) h.0 tt
strong_place p s v y b (DriverAt bank r) there (inr h) = absurd h
strong_place p s v y b (MuxAt bank r) there h = absurd h
strong_place p s v y b (TieAt bank r) there h = absurd h
strong_place p s v y b (LogicAt cell) there h = subst (StrongEnds p v) (only (cell_drives cell) y (Strong b) _ _ (cell_says p s some v cell) h).0 (gate_tight p v cell)

given_tight : (p : Organization) (i : PortInputs) (v : Net → Bool) (y : Net) (b : Bool) → given i y ≡ Strong b → StrongEnds p v y
given_tight p i v (Bl bank c) b e = absurd cc
given_tight p i v (Br bank c) b e = absurd cc
given_tight p i v (Dout c) b e = absurd cc
given_tight p i v (Lo bank c) b e = absurd cc
given_tight p i v (Ro bank c) b e = absurd cc
given_tight p i v y b e = tt

pub strong_from : (p : Organization) (s : State) (i : PortInputs) (v : Net → Bool) (y : Net) (b : Bool) → Gives (direct p) s i v y (Strong b) → StrongEnds p v y
strong_from p s i v y b (inl e) = given_tight p i v y b e
strong_from p s i v y b (inr d) = strong_place p s v y b d.leaf d.there d.driven

cell_gives : (p : Organization) (s : State) (i : PortInputs) (v : Net → Bool) (cell : LogicCell) → HasLogicCell (writable p) cell
    → Gives (direct p) s i v (cell_drives cell) (Strong (local p s i v (cell_drives cell)))
cell_gives p s i v cell there = inr (record { leaf = LogicAt cell; there = there; driven = subst (IsDriven (cell_drives cell) (Strong (local p s i v (cell_drives cell))) (cell_drives cell ∷ [])) (sym (cell_says p s i v cell)) (inl (refl, refl)) })

pub has_driver : (p : Organization) (s : State) (i : PortInputs) (v : Net → Bool) (y : Net) → HasLeafNet (writable p) y → is_loose y ≡ false
    → Gives (direct p) s i v y (Strong (local p s i v y))
has_driver p s i v (Control Clkb) h t = cell_gives p s i v Clki h
has_driver p s i v (Control Csq) h t = cell_gives p s i v Csd h
has_driver p s i v (Control Weq) h t = cell_gives p s i v Wed h
has_driver p s i v (Control Cs) h t = cell_gives p s i v Csi h
has_driver p s i v (Control We) h t = cell_gives p s i v Wei h
has_driver p s i v (Control Wlb) h t = cell_gives p s i v Wln h
has_driver p s i v (Control Wlen) h t = cell_gives p s i v Wli h
has_driver p s i v (Control Wrb) h t = cell_gives p s i v Wrn h
has_driver p s i v (Control Wen) h t = cell_gives p s i v Wri h
has_driver p s i v (Control Rdb) h t = cell_gives p s i v Rdn h
has_driver p s i v (Control Rd) h t = cell_gives p s i v Rdi h
has_driver p s i v (Control Dly) h t = cell_gives p s i v Dlay h
has_driver p s i v (Control Seb) h t = cell_gives p s i v Senn h
has_driver p s i v (Control Sen) h t = cell_gives p s i v Seni h
has_driver p s i v (A j) h t = cell_gives p s i v (Ad j) h
has_driver p s i v (Na j) h t = cell_gives p s i v (Ai j) h
has_driver p s i v (D j) h t = cell_gives p s i v (Dd j) h
has_driver p s i v (M j) h t = cell_gives p s i v (Dm j) h
has_driver p s i v (LineB o b k) h t = cell_gives p s i v (Pn o b k) h
has_driver p s i v (Line o b k) h t = cell_gives p s i v (Pi o b k) h
has_driver p s i v (WlenB bank) h t = cell_gives p s i v (Ln bank) h
has_driver p s i v (WlenAt bank) h t = cell_gives p s i v (Li bank) h
has_driver p s i v (SenB bank) h t = cell_gives p s i v (Kn bank) h
has_driver p s i v (SenAt bank) h t = cell_gives p s i v (Ki bank) h
has_driver p s i v (WenB bank j) h t = cell_gives p s i v (Gn bank j) h
has_driver p s i v (WenAt bank j) h t = cell_gives p s i v (Gi bank j) h
has_driver p s i v (Zb bank r) h t = inr (record { leaf = NandAt bank r; there = h; driven = inl (refl, refl) })
has_driver p s i v (Wl bank r) h t = inr (record { leaf = DriverAt bank r; there = h; driven = inl (refl, refl) })
has_driver p s i v (Bl bank r) h t = absurd cc
has_driver p s i v (Br bank r) h t = absurd cc
has_driver p s i v (Dout r) h t = absurd cc
has_driver p s i v (Lo bank r) h t = absurd cc
has_driver p s i v (Ro bank r) h t = absurd cc
has_driver p s i v y h t = inl refl

-- a column's drives where its enables say so
pub precharges : (p : Organization) (s : State) (i : PortInputs) (v : Net → Bool) (bank c : ℕ) → bank < power_of_two p.bank_bits → c < p.word_size * power_of_two p.col_bits → v (Control Clkb) ≡ false
    → Gives (direct p) s i v (Bl bank c) (Strong true) × Gives (direct p) s i v (Br bank c) (Strong true)
precharges p s i v bank c bank_fits fits e = (
  inr (record { leaf = PrechargeAt bank c; there = (bank_fits, fits); driven = inl (refl, ap high_unless e) }),
  inr (record { leaf = PrechargeAt bank c; there = (bank_fits, fits); driven = inr (inl (refl, ap high_unless e)) }),
)

pub driven_ports : (p : Organization) (s : State) (i : PortInputs) (v : Net → Bool) (bank j : ℕ) → bank < power_of_two p.bank_bits → j < p.word_size → v (enable p bank j) ≡ true
    → Gives (direct p) s i v (lo_net p.col_bits bank j) (Strong (v (D j))) × Gives (direct p) s i v (ro_net p.col_bits bank j) (Strong (not (v (D j))))
driven_ports p s i v bank j bank_fits fits e = (
  inr (record { leaf = WriteAt bank j; there = (bank_fits, fits); driven = inl (refl, ap (λ (t : Bool). strong_if t (v (D j))) e) }),
  inr (record { leaf = WriteAt bank j; there = (bank_fits, fits); driven = inr (inl (refl, ap (λ (t : Bool). strong_if t (not (v (D j)))) e)) }),
)

both_on : (x y : Bool) → (x && y) ≡ true → (x ≡ true) × (y ≡ true)
both_on true y e = (refl, e)
both_on false y e = absurd cc

-- a column is written, by any values
abbrev pub is_open : Organization → (Net → Bool) → ℕ → ℕ → ℕ → Bool
is_open p v k bank c = v (enable p bank (c / power_of_two p.col_bits)) && eqb (c % power_of_two p.col_bits) k

-- a group without strong contributions has neither a precharge nor a write
pub off_left : (p : Organization) (s : State) (i : PortInputs) (v : Net → Bool) (k bank c : ℕ) (x : Net) → IsChosen p.col_bits v k → bank < power_of_two p.bank_bits → c < p.word_size * power_of_two p.col_bits → InGroup (direct p) s v x (Bl bank c)
    → HasNone (direct p) s i v Strong x → (v (Control Clkb) ≡ true) × (is_open p v k bank c ≡ false)
off_left p s i v k bank c x is bank_fits fits g none = (clocked _ refl, idle _ refl)
  where
    clocked : (t : Bool) → v (Control Clkb) ≡ t → v (Control Clkb) ≡ true
    clocked true e = e
    clocked false e = absurd (none (Bl bank c) true g (precharges p s i v bank c bank_fits fits e).0)

    idle : (t : Bool) → is_open p v k bank c ≡ t → is_open p v k bank c ≡ false
    idle false e = e
    idle true e =
        let b = both_on _ _ e in
        absurd (none (lo_net p.col_bits bank (c / power_of_two p.col_bits)) _ (follow p s v x (Bl bank c) _ g (to_lo p s v k bank c is bank_fits fits (eqb-true _ _ b.1)).0)
        (driven_ports p s i v bank (c / power_of_two p.col_bits) bank_fits (div_below c (power_of_two p.col_bits) p.word_size (twice_some p.col_bits) fits) b.0).0)

pub off_right : (p : Organization) (s : State) (i : PortInputs) (v : Net → Bool) (k bank c : ℕ) (x : Net) → IsChosen p.col_bits v k → bank < power_of_two p.bank_bits → c < p.word_size * power_of_two p.col_bits → InGroup (direct p) s v x (Br bank c)
    → HasNone (direct p) s i v Strong x → (v (Control Clkb) ≡ true) × (is_open p v k bank c ≡ false)
off_right p s i v k bank c x is bank_fits fits g none = (clocked _ refl, idle _ refl)
  where
    clocked : (t : Bool) → v (Control Clkb) ≡ t → v (Control Clkb) ≡ true
    clocked true e = e
    clocked false e = absurd (none (Br bank c) true g (precharges p s i v bank c bank_fits fits e).1)

    idle : (t : Bool) → is_open p v k bank c ≡ t → is_open p v k bank c ≡ false
    idle false e = e
    idle true e =
        let b = both_on _ _ e in
        absurd (none (ro_net p.col_bits bank (c / power_of_two p.col_bits)) _ (follow p s v x (Br bank c) _ g (to_ro p s v k bank c is bank_fits fits (eqb-true _ _ b.1)).0)
        (driven_ports p s i v bank (c / power_of_two p.col_bits) bank_fits (div_below c (power_of_two p.col_bits) p.word_size (twice_some p.col_bits) fits) b.0).1)
