-- The values are those of a phase.
use Rattle.std.proofs.Common.{◌≡◌, ℕ, zero, suc, ◌+◌, ◌*◌, ◌/◌, ◌%◌, ◌<◌, ◌≤◌, Bool, true, false, cond, ◌&&◌, not, List, [], ◌∷◌, ◌++◌, map, refl, sym, ap, subst, ◌∙◌, arith, eqb-true, eq-eqb, inl, inr, ◌⊎◌}
use Rattle.std.proofs.lemmas.Nat.{div-mul-add, mod-mul-add}
use Rattle.sram_netlist.specs.Nets.{Net, Clk0, Csb0, Web0, Clkb, Cs, We, Wen, Sen, Vdd, Gnd, Control, Addr, Din, Dout, Wmask, A, Na, M, Line, Zb, Wl, Bl, Br, Lo, Ro}
use Rattle.sram_netlist.specs.Instances.{LogicCell, LeafInstance, Pn, Gn, BitAt, NandAt, DriverAt, PrechargeAt, WriteAt, SenseAt, MuxAt, TieAt, LogicAt}
use Rattle.sram_netlist.specs.Organization.{power_of_two, Organization, bank_bit}
use Rattle.sram_netlist.specs.Netlist.{lowest_bit, picks, pick, row_lines, low_bits, high_bits, lo_net, ro_net, wlen_at, sen_at, enable_at, mask_of, bank_input, mask_input}
use Rattle.sram_netlist.specs.Membership.{IsGroup, HasLeafInstance}
use Rattle.cell_roles.specs.Acts.{Drive, Strong, Weak, all_high, differ, low_if, high_unless, strong_if}
use Rattle.memory_laws.specs.Phase.{State, PortInputs, InGroup, IsDriven, given, act_at}
use Rattle.memory_laws.proofs.Values.{index, choice, here, column, gate1, gate2, gate3, signal, address, datum, mask, line, picked, all_picked, all_lines, bank_on, mask_on, enabled, wlen, sen, wen, bit_line, left, right, sensed, value}
use Rattle.memory_laws.proofs.Decode.{line_is, index_fits}
use Rattle.memory_laws.proofs.Direct.{cell_drives, drives, enable, direct, writable}
use Rattle.memory_laws.proofs.Groups.{IsChosen, Ends, carried, column_is, some_choice, lo_some, ro_some, lo_none, ro_none}

-- the values choose one column of a slice
pub chosen_value : (p : Organization) (s : State) (i : PortInputs) → IsChosen p.col_bits (value p s i) (choice p s i)
chosen_value p s i j fits some = line_is (address s i) 0 p.col_bits j fits

value_step : (p : Organization) (s : State) (i : PortInputs) (b : Bool) (x y : Net) → Ends p (choice p s i) x y → value p s i x ≡ b → value p s i y ≡ b
value_step p s i b x y h g = by_ends h.ends
  where
    there : h.c / power_of_two p.col_bits * power_of_two p.col_bits + choice p s i ≡ h.c
    there = column_is p.col_bits h.c (choice p s i) h.chosen

    by_ends : (((Bl h.bank h.c ≡ x) × (Lo h.bank (h.c / power_of_two p.col_bits) ≡ y)) ⊎ ((Bl h.bank h.c ≡ y) × (Lo h.bank (h.c / power_of_two p.col_bits) ≡ x))) ⊎ (((Br h.bank h.c ≡ x) × (Ro h.bank (h.c / power_of_two p.col_bits) ≡ y)) ⊎ ((Br h.bank h.c ≡ y) × (Ro h.bank (h.c / power_of_two p.col_bits) ≡ x))) → value p s i y ≡ b
    by_ends (inl (inl e)) = ap (value p s i) (sym e.1) ∙ ap (left p s i h.bank) there ∙ ap (value p s i) e.0 ∙ g
    by_ends (inl (inr e)) = ap (value p s i) (sym e.0) ∙ ap (left p s i h.bank) (sym there) ∙ ap (value p s i) e.1 ∙ g
    by_ends (inr (inl e)) = ap (value p s i) (sym e.1) ∙ ap (right p s i h.bank) there ∙ ap (value p s i) e.0 ∙ g
    by_ends (inr (inr e)) = ap (value p s i) (sym e.0) ∙ ap (right p s i h.bank) (sym there) ∙ ap (value p s i) e.1 ∙ g

-- a group has one value
pub group_value : (p : Organization) (s : State) (i : PortInputs) (x y : Net) → InGroup (direct p) s (value p s i) x y → value p s i x ≡ value p s i y
group_value p s i x y g = sym (carried p s (value p s i) (choice p s i) (λ z. value p s i z ≡ value p s i x)
    (chosen_value p s i) (λ u v h q. value_step p s i (value p s i x) u v h q) x y g refl)

pub one_column_is : (a : ℕ → Bool) (m j : ℕ) → m ≡ 0 → j * power_of_two m + index a 0 m ≡ j
one_column_is a m j e = subst (λ (n : ℕ). j * power_of_two n + index a 0 n ≡ j) (sym e) (omega arith)

pub lo_value : (p : Organization) (s : State) (i : PortInputs) (bank j : ℕ) → value p s i (lo_net p.col_bits bank j) ≡ left p s i bank (column p s i j)
lo_value p s i bank j = by_choice (some_choice p.col_bits)
  where
    by_choice : (p.col_bits ≡ 0) ⊎ (0 < p.col_bits) → value p s i (lo_net p.col_bits bank j) ≡ left p s i bank (column p s i j)
    by_choice (inl e) = ap (value p s i) (lo_none p.col_bits bank j e) ∙ ap (left p s i bank) (sym (one_column_is (address s i) p.col_bits j e))
    by_choice (inr h) = ap (value p s i) (lo_some p.col_bits bank j h)

pub ro_value : (p : Organization) (s : State) (i : PortInputs) (bank j : ℕ) → value p s i (ro_net p.col_bits bank j) ≡ right p s i bank (column p s i j)
ro_value p s i bank j = by_choice (some_choice p.col_bits)
  where
    by_choice : (p.col_bits ≡ 0) ⊎ (0 < p.col_bits) → value p s i (ro_net p.col_bits bank j) ≡ right p s i bank (column p s i j)
    by_choice (inl e) = ap (value p s i) (ro_none p.col_bits bank j e) ∙ ap (right p s i bank) (sym (one_column_is (address s i) p.col_bits j e))
    by_choice (inr h) = ap (value p s i) (ro_some p.col_bits bank j h)

-- what stands for an enable, by the counts of bank bits and masks
pub by_banks : (f : Net → Bool) (n bank : ℕ) → (f (wlen_at n bank) ≡ enabled n (f (wlen_at 0 bank)) (f (wlen_at 1 bank))) × (f (sen_at n bank) ≡ enabled n (f (sen_at 0 bank)) (f (sen_at 1 bank)))
by_banks f zero bank = (refl, refl)
by_banks f (suc n) bank = (refl, refl)

pub by_masks : (f : Net → Bool) (n k bank t : ℕ) → f (enable_at n k bank t) ≡ enabled n (enabled k (f (enable_at 0 0 bank t)) (f (enable_at 1 0 bank t))) (f (enable_at 1 0 bank t))
by_masks f zero zero bank t = refl
by_masks f zero (suc k) bank t = refl
by_masks f (suc n) k bank t = refl

pub wlen_value : (p : Organization) (s : State) (i : PortInputs) (bank : ℕ) → value p s i (wlen_at p.bank_bits bank) ≡ wlen p s i bank
wlen_value p s i bank = (by_banks (value p s i) p.bank_bits bank).0

pub sen_value : (p : Organization) (s : State) (i : PortInputs) (bank : ℕ) → value p s i (sen_at p.bank_bits bank) ≡ sen p s i bank
sen_value p s i bank = (by_banks (value p s i) p.bank_bits bank).1

pub wen_value : (p : Organization) (s : State) (i : PortInputs) (bank j : ℕ) → value p s i (enable p bank j) ≡ wen p s i bank j
wen_value p s i bank j = by_masks (value p s i) p.bank_bits p.masks bank (mask_of p.masks p.write_size j)

-- the picked bits have the values of their lines
pub picks_are : (v : Net → Bool) (a : ℕ → Bool) (n o b k : ℕ) → ((j : ℕ) → j < n → v (A j) ≡ a j) → ((j : ℕ) → j < n → v (Na j) ≡ gate1 (a j)) → o + b ≤ n
    → all_high (map v (picks o b k)) ≡ all_picked a o b k
picks_are v a n o zero k pos neg fits = refl
picks_are v a n o (suc b) k pos neg fits =
    let head : v (pick o (lowest_bit k)) ≡ picked a o (lowest_bit k) = one (lowest_bit k) in
    let tail : all_high (map v (picks (suc o) b (k / 2))) ≡ all_picked a (suc o) b (k / 2) = picks_are v a n (suc o) b (k / 2) pos neg (omega arith) in
    rw (head, tail) refl
  where
    one : (t : Bool) → v (pick o t) ≡ picked a o t
    one true = pos o (omega arith)
    one false = neg o (omega arith)

pub low_fits : (b r : ℕ) → low_bits b r < power_of_two b
low_fits zero r = omega arith
low_fits (suc b) r = by_odd (lowest_bit r) (low_fits b (r / 2))
  where
    by_odd : (t : Bool) → low_bits b (r / 2) < power_of_two b → cond t 1 0 + 2 * low_bits b (r / 2) < 2 * power_of_two b
    by_odd true h = omega arith
    by_odd false h = omega arith

pub lines_are : (v : Net → Bool) (a : ℕ → Bool) (groups : List ℕ) (o r : ℕ)
    → ((from b k : ℕ) → IsGroup groups o from b → k < power_of_two b → v (Line from b k) ≡ gate1 (not (all_picked a from b k)))
    → all_high (map v (row_lines groups o r)) ≡ all_lines a groups o r
lines_are v a [] o r are = refl
lines_are v a (b ∷ bs) o r are =
    let head : v (Line o b (low_bits b r)) ≡ gate1 (not (all_picked a o b (low_bits b r))) = are o b (low_bits b r) (inl (refl, refl)) (low_fits b r) in
    let tail : all_high (map v (row_lines bs (o + b) (high_bits b r))) ≡ all_lines a bs (o + b) (high_bits b r) = lines_are v a bs (o + b) (high_bits b r) (λ from c k h. are from c k (inr h)) in
    rw (head, tail) refl

-- what a write enable's gate takes
pub inputs_are : (p : Organization) (v : Net → Bool) (s : State) (i : PortInputs) (n k bank j : ℕ) → (0 < n → v (Line (bank_bit p) p.bank_bits bank) ≡ line s i (bank_bit p) p.bank_bits bank) → (0 < k → v (M j) ≡ mask s i j)
    → all_high (map v (bank_input p n bank ++ mask_input k j)) ≡ bank_on (line s i (bank_bit p) p.bank_bits bank) n (mask_on s i k j)
inputs_are p v s i zero zero bank j f g = refl
inputs_are p v s i zero (suc k) bank j f g = let e = g (omega arith) in rw e refl
inputs_are p v s i (suc n) zero bank j f g = let e = f (omega arith) in rw e refl
inputs_are p v s i (suc n) (suc k) bank j f g = let e = f (omega arith) in let h = g (omega arith) in rw (e, h) refl

-- what a gate gives at the values is the value of its net
cell_out : (p : Organization) (s : State) (i : PortInputs) (cell : LogicCell) → (act_at (direct p) s (value p s i) (LogicAt cell)).drives ≡ Strong (value p s i (cell_drives cell)) ∷ []
cell_out p s i (Pn o b k) = ap (λ (t : Bool). Strong (not t) ∷ []) (picks_are (value p s i) (address s i) (o + b) o b k (λ j h. refl) (λ j h. refl) (omega arith))
cell_out p s i (Gn bank j) = ap (λ (t : Bool). Strong (not (signal s i Wen && t)) ∷ []) (inputs_are p (value p s i) s i p.bank_bits p.masks bank j (λ h. refl) (λ h. refl))
cell_out p s i cell = refl

nand_out : (p : Organization) (s : State) (i : PortInputs) (bank r : ℕ) → (act_at (direct p) s (value p s i) (NandAt bank r)).drives ≡ Strong (value p s i (Zb bank r)) ∷ []
nand_out p s i bank r = ap (λ (t : Bool). Strong (not t) ∷ []) (lines_are (value p s i) (address s i) p.groups p.col_bits r (λ o b k g h. refl))

drv_out : (p : Organization) (s : State) (i : PortInputs) (bank r : ℕ) → (act_at (direct p) s (value p s i) (DriverAt bank r)).drives ≡ Strong (value p s i (Wl bank r)) ∷ []
drv_out p s i bank r = ap (λ (t : Bool). Strong (t && not (value p s i (Zb bank r))) ∷ []) (wlen_value p s i bank)

-- a net's value where a drive says it
pub close : (f : Net → Bool) (x y : Net) (a b : Bool) → x ≡ y → Strong a ≡ Strong b → f x ≡ a → f y ≡ b
close f x y a b e d h = cc

pub alone_driven : (f : Net → Bool) (x y : Net) (b : Bool) (ds : List Drive) → ds ≡ Strong (f x) ∷ [] → IsDriven y (Strong b) (x ∷ []) ds → f y ≡ b
alone_driven f x y b [] e h = absurd cc
alone_driven f x y b (d ∷ ds) e (inl h) = let first : d ≡ Strong (f x) = cc in close f x y (f x) b h.0 (sym first ∙ h.1) refl
alone_driven f x y b (d ∷ ds) e (inr h) = absurd h

pub low_not_strong : (t b : Bool) → low_if t ≡ Strong b → ⊥
low_not_strong true b e = absurd cc
low_not_strong false b e = absurd cc

pub low_is_weak : (t b : Bool) → low_if t ≡ Weak b → (t ≡ true) × (b ≡ false)
low_is_weak true b e = (refl, cc)
low_is_weak false b e = absurd cc

pub high_is_strong : (t b : Bool) → high_unless t ≡ Strong b → (t ≡ false) × (b ≡ true)
high_is_strong true b e = absurd cc
high_is_strong false b e = (refl, cc)

pub high_not_weak : (t b : Bool) → high_unless t ≡ Weak b → ⊥
high_not_weak true b e = absurd cc
high_not_weak false b e = absurd cc

pub strong_is : (t d b : Bool) → strong_if t d ≡ Strong b → (t ≡ true) × (b ≡ d)
strong_is true d b e = (refl, cc)
strong_is false d b e = absurd cc

pub strong_not_weak : (t d b : Bool) → strong_if t d ≡ Weak b → ⊥
strong_not_weak true d b e = absurd cc
strong_not_weak false d b e = absurd cc

-- a precharged line isn't written
quiet : (x y c : Bool) → c ≡ false → gate1 (gate3 x y c) ≡ false
quiet true true c e = rw e refl
quiet true false c e = refl
quiet false y c e = refl

no_wen : (n k : ℕ) (t u : Bool) → t ≡ false → enabled n (enabled k t (gate1 (not (t && u)))) (gate1 (not (t && u))) ≡ false
no_wen zero zero t u e = e
no_wen zero (suc k) t u e = rw e refl
no_wen (suc n) k t u e = rw e refl

pub wen_quiet : (p : Organization) (s : State) (i : PortInputs) (bank j : ℕ) → signal s i Clkb ≡ false → wen p s i bank j ≡ false
wen_quiet p s i bank j e = no_wen p.bank_bits p.masks (signal s i Wen) _ (quiet (signal s i Cs) (signal s i We) (signal s i Clkb) e)

pub precharged : (c w d p h : Bool) → c ≡ false → bit_line c w d p h ≡ true
precharged c w d p h e = rw e refl

pub written : (c w w2 d d2 p h : Bool) → (c ≡ false → w ≡ false) → w ≡ true → w2 ≡ true → d ≡ d2 → bit_line c (w && w2) d p h ≡ d2
written true w w2 d d2 p h q e f g = rw (e, f, g) refl
written false w w2 d d2 p h q e f g = absurd (let f = q refl in cc)

-- the chosen column of a slice
pub column_choice : (p : Organization) (s : State) (i : PortInputs) (j : ℕ) → (column p s i j % power_of_two p.col_bits ≡ choice p s i) × (column p s i j / power_of_two p.col_bits ≡ j)
column_choice p s i j = (mod-mul-add j (power_of_two p.col_bits) (choice p s i) (index_fits (address s i) 0 p.col_bits), div-mul-add j (power_of_two p.col_bits) (choice p s i) (index_fits (address s i) 0 p.col_bits))

pub gate_both : (x y : Bool) → gate1 (gate2 x y) ≡ (x && y)
gate_both true true = refl
gate_both true false = refl
gate_both false y = refl

both_true : (x y : Bool) → (x && y) ≡ true → (x ≡ true) × (y ≡ true)
both_true true y e = (refl, e)
both_true false y e = absurd cc

-- an enabled bank is that of the address
enabled_here : (s : State) (i : PortInputs) (o n bank : ℕ) (t : Bool) → bank < power_of_two n → enabled n t (gate1 (gate2 t (line s i o n bank))) ≡ true → bank ≡ index (address s i) o n
enabled_here s i o zero bank t fits e = omega arith
enabled_here s i o (suc n) bank t fits e = eqb-true _ _ (sym (line_is (address s i) o (suc n) bank fits) ∙ (both_true t (line s i o (suc n) bank) (sym (gate_both t (line s i o (suc n) bank)) ∙ e)).1)

pub sen_here : (p : Organization) (s : State) (i : PortInputs) (bank : ℕ) → bank < power_of_two p.bank_bits → sen p s i bank ≡ true → bank ≡ here p s i
sen_here p s i bank fits e = enabled_here s i (bank_bit p) p.bank_bits bank (signal s i Sen) fits e

sense_at : (e x y e2 x2 y2 h b : Bool) → e ≡ e2 → x ≡ x2 → y ≡ y2 → (e && differ x y) ≡ true → b ≡ x → cond (e2 && differ x2 y2) x2 h ≡ b
sense_at e x y e2 x2 y2 h b o p q t u = let t2 : (e2 && differ x2 y2) ≡ true = (λ j. sym o j && differ (sym p j) (sym q j)) ∙ t in ap (λ (r : Bool). cond r x2 h) t2 ∙ sym p ∙ sym u

place_strong_sense : (p : Organization) (s : State) (i : PortInputs) (b : Bool) (bank c : ℕ) → bank < power_of_two p.bank_bits → (value p s i (sen_at p.bank_bits bank) && differ (value p s i (lo_net p.col_bits bank c)) (value p s i (ro_net p.col_bits bank c))) ≡ true
    → b ≡ value p s i (lo_net p.col_bits bank c) → value p s i (Dout c) ≡ b
place_strong_sense p s i b bank c fits e f =
    let same = sen_here p s i bank fits (sym (sen_value p s i bank) ∙ (both_true _ _ e).0) in
    ap (λ (n : ℕ). cond (sensed p s i n c) (left p s i n (column p s i c)) (s.charge (Dout c))) (sym same)
    ∙ sense_at _ _ _ _ _ _ (s.charge (Dout c)) b (sen_value p s i bank) (lo_value p s i bank c) (ro_value p s i bank c) e f

pub place_strong : (p : Organization) (s : State) (i : PortInputs) (y : Net) (b : Bool) (leaf : LeafInstance) → HasLeafInstance (writable p) leaf
    → IsDriven y (Strong b) (drives p leaf) (act_at (direct p) s (value p s i) leaf).drives → value p s i y ≡ b
place_strong p s i y b (BitAt bank r c) there (inl h) = absurd (low_not_strong _ b h.1)
place_strong p s i y b (BitAt bank r c) there (inr (inl h)) = absurd (low_not_strong _ b h.1)
place_strong p s i y b (BitAt bank r c) there (inr (inr h)) = absurd h
place_strong p s i y b (NandAt bank r) there h = alone_driven (value p s i) (Zb bank r) y b _ (nand_out p s i bank r) h
place_strong p s i y b (DriverAt bank r) there h = alone_driven (value p s i) (Wl bank r) y b _ (drv_out p s i bank r) h
place_strong p s i y b (PrechargeAt bank c) there (inl h) = let e = high_is_strong _ b h.1 in ap (value p s i) (sym h.0) ∙ precharged (signal s i Clkb) _ _ _ _ e.0 ∙ sym e.1
place_strong p s i y b (PrechargeAt bank c) there (inr (inl h)) = let e = high_is_strong _ b h.1 in ap (value p s i) (sym h.0) ∙ precharged (signal s i Clkb) _ _ _ _ e.0 ∙ sym e.1
place_strong p s i y b (PrechargeAt bank c) there (inr (inr h)) = absurd h
place_strong p s i y b (WriteAt bank c) there (inl h) =
    let e = strong_is _ _ b h.1 in
    let k = column_choice p s i c in
    ap (value p s i) (sym h.0) ∙ lo_value p s i bank c
    ∙ written (signal s i Clkb) (wen p s i bank (column p s i c / power_of_two p.col_bits)) _ _ (datum s i c) _ _ (wen_quiet p s i bank (column p s i c / power_of_two p.col_bits)) (ap (wen p s i bank) k.1 ∙ sym (wen_value p s i bank c) ∙ e.0)
    (eq-eqb _ _ k.0) (ap (datum s i) k.1) ∙ sym e.1
place_strong p s i y b (WriteAt bank c) there (inr (inl h)) =
    let e = strong_is _ _ b h.1 in
    let k = column_choice p s i c in
    ap (value p s i) (sym h.0) ∙ ro_value p s i bank c
    ∙ written (signal s i Clkb) (wen p s i bank (column p s i c / power_of_two p.col_bits)) _ _ (not (datum s i c)) _ _ (wen_quiet p s i bank (column p s i c / power_of_two p.col_bits)) (ap (wen p s i bank) k.1 ∙ sym (wen_value p s i bank c) ∙ e.0)
    (eq-eqb _ _ k.0) (ap (λ (n : ℕ). not (datum s i n)) k.1) ∙ sym e.1
place_strong p s i y b (WriteAt bank c) there (inr (inr h)) = absurd h
place_strong p s i y b (SenseAt bank c) there (inl h) = let e = strong_is _ _ b h.1 in ap (value p s i) (sym h.0) ∙ place_strong_sense p s i b bank c there.0 e.0 e.1
place_strong p s i y b (SenseAt bank c) there (inr h) = absurd h
place_strong p s i y b (MuxAt bank c) there h = absurd h
place_strong p s i y b (TieAt bank c) there h = absurd h
place_strong p s i y b (LogicAt cell) there h = alone_driven (value p s i) (cell_drives cell) y b _ (cell_out p s i cell) h

pub given_strong : (p : Organization) (s : State) (i : PortInputs) (y : Net) (b : Bool) → given i y ≡ Strong b → value p s i y ≡ b
given_strong p s i Vdd b e = cc
given_strong p s i Gnd b e = cc
given_strong p s i (Control Clk0) b e = cc
given_strong p s i (Control Csb0) b e = cc
given_strong p s i (Control Web0) b e = cc
given_strong p s i (Addr j) b e = cc
given_strong p s i (Din j) b e = cc
given_strong p s i (Wmask j) b e = cc
given_strong p s i y b e = absurd cc
