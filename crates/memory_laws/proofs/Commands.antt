-- What a command leaves, and what it answers.
use Rattle.std.proofs.Common.{◌≡◌, ℕ, zero, suc, ◌+◌, ◌*◌, ◌/◌, ◌%◌, ◌<◌, Bool, true, false, cond, ◌&&◌, not, refl, sym, ap, ◌∙◌, arith, eqb, eq-eqb}
use Rattle.std.proofs.lemmas.Nat.{div_below}
use Rattle.sram_netlist.specs.Nets.{Net, Clkb, Cs, Wlen, Wen, Sen, Dout, Bl, Br}
use Rattle.sram_netlist.specs.Organization.{total_bits, power_of_two, Organization, bank_rows, bank_bit}
use Rattle.sram_netlist.specs.Instances.{Csd, Wed, Dlay, Ad, Dd, Dm, BitAt, LogicAt}
use Rattle.sram_netlist.specs.Netlist.{enable_count, low_bits, high_bits, mask_of}
use Rattle.cell_roles.specs.Acts.{differ, flop_bit, cell_bit}
use Rattle.memory_laws.specs.Phase.{State, PortInputs, IsPhase}
use Rattle.memory_laws.specs.Run.{MemoryCommand, bit_of, port_values, IsCycle, IsStartState, is_masked_in}
use Rattle.memory_laws.proofs.Values.{index, choice, here, gate1, gate2, gate3, signal, address, mask, line, all_lines, any_below, bank_on, mask_on, enabled, wlen, sen, wen, bit_line, word_line, opened, left, right}
use Rattle.memory_laws.proofs.Direct.{direct}
use Rattle.memory_laws.proofs.Decode.{line_is, hits, hits_only, index_low, low_all, low_below, twice_some}
use Rattle.memory_laws.proofs.Exists.{gate_both}
use Rattle.memory_laws.proofs.Groups.{column_fits}
use Rattle.memory_laws.proofs.PhaseLaws.{any_true, any_row}
use Rattle.memory_laws.proofs.Unique.{MasksFit, csd_next, wed_next, ad_next, dd_next, dm_next, dly_next, bit_next, left_next, right_next, dout_is}

-- the row and the bank of a command's address
abbrev pub at_row : Organization → MemoryCommand → ℕ
at_row p c = low_bits (total_bits p.groups) (high_bits p.col_bits c.addr)

abbrev pub at_bank : Organization → MemoryCommand → ℕ
at_bank p c = high_bits (bank_bit p) c.addr

-- the flip-flops hold the command
pub record Latched (p : Organization) (s : State) (c : MemoryCommand) : Type 0 where
  pub csd : s.q (LogicAt Csd) ≡ c.csb
  pub wed : s.q (LogicAt Wed) ≡ c.web
  pub ad : (j : ℕ) → j < bank_bit p + p.bank_bits → s.q (LogicAt (Ad j)) ≡ bit_of c.addr j
  pub dd : (j : ℕ) → j < p.word_size → s.q (LogicAt (Dd j)) ≡ c.din j
  pub dm : (j : ℕ) → j < p.masks → s.q (LogicAt (Dm j)) ≡ c.wmask j

pub caught_open : (d q p : Bool) → p ≡ false → flop_bit d true q p ≡ d
caught_open d q p e = rw e refl

pub wlen_shut : (x : Bool) → gate1 (gate2 x false) ≡ false
wlen_shut true = refl
wlen_shut false = refl

pub wlen_open : (x : Bool) → gate1 (gate2 (gate1 x) true) ≡ not x
wlen_open true = refl
wlen_open false = refl

pub wen_open : (x y : Bool) → gate1 (gate3 (gate1 x) (gate1 y) true) ≡ (not x && not y)
wen_open true y = refl
wen_open false true = refl
wen_open false false = refl

pub sen_open : (x y z : Bool) → gate1 (gate2 (gate1 (gate3 (gate1 x) y true)) z) ≡ ((not x && y) && z)
sen_open true y z = refl
sen_open false true true = refl
sen_open false true false = refl
sen_open false false z = refl

both_true : (x : Bool) → x ≡ (x && true)
both_true true = refl
both_true false = refl

-- one bank is always the addressed one
one_bank : (bank : ℕ) → bank < 1 → eqb bank 0 ≡ true
one_bank bank h = eq-eqb bank 0 (omega arith)

-- an enable of a bank, and a write enable
pub bank_gate : (s : State) (i : PortInputs) (o n bank : ℕ) (t : Bool) → bank < power_of_two n → enabled n t (gate1 (gate2 t (line s i o n bank))) ≡ (t && eqb bank (index (address s i) o n))
bank_gate s i o zero bank t fits = both_true t ∙ ap (λ (u : Bool). t && u) (sym (one_bank bank fits))
bank_gate s i o (suc n) bank t fits = gate_both t (line s i o (suc n) bank) ∙ ap (λ (u : Bool). t && u) (line_is (address s i) o (suc n) bank fits)

one_gate : (t b m : Bool) → b ≡ true → t ≡ (t && (b && true))
one_gate true b m e = rw e refl
one_gate false b m e = refl

mask_gate : (t b m : Bool) → b ≡ true → gate1 (not (t && (m && true))) ≡ (t && (b && m))
mask_gate true b true e = rw e refl
mask_gate true b false e = rw e refl
mask_gate false b m e = refl

line_gate : (t b l : Bool) → l ≡ b → gate1 (not (t && (l && true))) ≡ (t && (b && true))
line_gate true true l e = rw e refl
line_gate true false l e = rw e refl
line_gate false b l e = refl

full_gate : (t b l m : Bool) → l ≡ b → gate1 (not (t && (l && (m && true)))) ≡ (t && (b && m))
full_gate true true l true e = rw e refl
full_gate true true l false e = rw e refl
full_gate true false l m e = rw e refl
full_gate false b l m e = refl

pub wen_gate : (s : State) (i : PortInputs) (n k j : ℕ) (t l b : Bool) → (n ≡ 0 → b ≡ true) → l ≡ b
    → enabled n (enabled k t (gate1 (not (t && bank_on l n (mask_on s i k j))))) (gate1 (not (t && bank_on l n (mask_on s i k j)))) ≡ (t && (b && enabled k true (mask s i j)))
wen_gate s i zero zero j t l b none e = one_gate t b true (none refl)
wen_gate s i zero (suc k) j t l b none e = mask_gate t b (mask s i j) (none refl)
wen_gate s i (suc n) zero j t l b none e = line_gate t b l e
wen_gate s i (suc n) (suc k) j t l b none e = full_gate t b l (mask s i j) e

masked_is : (s : State) (c : MemoryCommand) (z k j : ℕ) → mask_of k z j < enable_count k → ((t : ℕ) → t < k → s.q (LogicAt (Dm t)) ≡ c.wmask t) → enabled k true (mask s (port_values false c) (mask_of k z j)) ≡ is_masked_in k z c j
masked_is s c z zero j fits dm = refl
masked_is s c z (suc k) j fits dm = dm (j / z) fits

-- what a command does in a bank: whether it is addressed, and whether a column is written
abbrev pub on : Organization → MemoryCommand → ℕ → Bool
on p c bank = not c.csb && eqb bank (at_bank p c)

abbrev pub masked : Organization → MemoryCommand → ℕ → Bool
masked p c j = not c.web && is_masked_in p.masks p.write_size c j

abbrev pub is_put : Organization → MemoryCommand → ℕ → ℕ → Bool
is_put p c bank k = (on p c bank && masked p c (k / power_of_two p.col_bits)) && eqb (k % power_of_two p.col_bits) (low_bits p.col_bits c.addr)

-- one column over two phases with the clock low: chosen row u, written g, datum d, bit q
abbrev pub l1 : Bool → Bool → Bool → Bool → Bool
l1 u g d q = bit_line true g d (u && not q) true

abbrev pub r1 : Bool → Bool → Bool → Bool → Bool
r1 u g d q = bit_line true g (not d) (u && q) true

abbrev pub q1 : Bool → Bool → Bool → Bool → Bool
q1 u g d q = cell_bit u (l1 u g d q) (r1 u g d q) q

abbrev pub l2 : Bool → Bool → Bool → Bool → Bool
l2 u g d q = bit_line true g d (u && not (q1 u g d q)) (l1 u g d q)

abbrev pub r2 : Bool → Bool → Bool → Bool → Bool
r2 u g d q = bit_line true g (not d) (u && q1 u g d q) (r1 u g d q)

abbrev pub q2 : Bool → Bool → Bool → Bool → Bool
q2 u g d q = cell_bit u (l2 u g d q) (r2 u g d q) (q1 u g d q)

-- a cell keeps its bit unless its row is on and its column is written: one that is half selected, or masked out, keeps it
pub column_keeps : (u e t d q : Bool) → q2 u ((u && e) && t) d q ≡ cond ((u && e) && t) d q
column_keeps true true true true true = refl
column_keeps true true true true false = refl
column_keeps true true true false true = refl
column_keeps true true true false false = refl
column_keeps true true false d true = refl
column_keeps true true false d false = refl
column_keeps true false t d true = refl
column_keeps true false t d false = refl
column_keeps false e t d q = refl

word_on : (e t : Bool) (u : Bool) → e ≡ u → t ≡ true → (e && not (not t)) ≡ u
word_on e t true a b = rw (a, b) refl
word_on e t false a b = rw a refl

word_off : (e t : Bool) → t ≡ false → (e && not (not t)) ≡ false
word_off true t b = rw b refl
word_off false t b = refl

-- one row decides
one_row : (n x : ℕ) (f : ℕ → Bool) (t : Bool) → x < n → f x ≡ t → ((r : ℕ) → r < n → (r ≡ x → ⊥) → f r ≡ false) → any_below n f ≡ t
one_row n x f true fits e others = any_true n x f fits e
one_row n x f false fits e others = by_any _ refl
  where
    by_any : (u : Bool) → any_below n f ≡ u → any_below n f ≡ false
    by_any false h = h
    by_any true h =
        let row = any_row n f h in
        let same : row.0 ≡ x → ⊥ = λ k. let g : f row.0 ≡ false = ap f k ∙ e in let k2 = row.2 in cc in
        let g = others row.0 row.1 same in let k2 = row.2 in absurd cc

bit_line_is : (k e d p h e2 d2 p2 : Bool) → k ≡ true → e ≡ e2 → d ≡ d2 → p ≡ p2 → bit_line k e d p h ≡ bit_line true e2 d2 p2 h
bit_line_is k e d p h e2 d2 p2 a b c f = rw (a, b, c, f) refl

turned : (x y b m : Bool) → ((x && y) && (b && m)) ≡ ((x && b) && (y && m))
turned true true b m = by_bank b m
  where
    by_bank : (b m : Bool) → (b && m) ≡ (b && (true && m))
    by_bank true m = refl
    by_bank false m = refl
turned true false true m = refl
turned true false false m = refl
turned false y b m = refl

module _ (p : Organization) (masks : MasksFit p) (s : State) (c : MemoryCommand) (l : Latched p s c) (range : at_bank p c < power_of_two p.bank_bits) where
  -- the chosen column and the bank are those of the address
  pub choice_is : choice p s (port_values false c) ≡ low_bits p.col_bits c.addr
  choice_is = index_low (address s (port_values false c)) c.addr p.col_bits 0 (λ j h. l.ad j (omega arith))

  pub here_is : here p s (port_values false c) ≡ at_bank p c
  here_is = index_low (address s (port_values false c)) c.addr p.bank_bits (bank_bit p) (λ j h. l.ad j h) ∙ low_all p.bank_bits (at_bank p c) range

  pub wlen_low : (bank : ℕ) → bank < power_of_two p.bank_bits → wlen p s (port_values false c) bank ≡ on p c bank
  wlen_low bank fits =
      bank_gate s (port_values false c) (bank_bit p) p.bank_bits bank (signal s (port_values false c) Wlen) fits
      ∙ (λ j. (wlen_open (s.q (LogicAt Csd)) ∙ ap not l.csd) j && eqb bank (here_is j))

  pub wen_low : (bank j : ℕ) → bank < power_of_two p.bank_bits → j < p.word_size → wen p s (port_values false c) bank j ≡ (on p c bank && masked p c j)
  wen_low bank j fits j_fits =
      wen_gate s (port_values false c) p.bank_bits p.masks (mask_of p.masks p.write_size j) (signal s (port_values false c) Wen) (line s (port_values false c) (bank_bit p) p.bank_bits bank) (eqb bank (index (address s (port_values false c)) (bank_bit p) p.bank_bits))
      (λ none. sym (line_is (address s (port_values false c)) (bank_bit p) p.bank_bits bank fits) ∙ ap (λ (n : ℕ). line s (port_values false c) (bank_bit p) n bank) none)
      (line_is (address s (port_values false c)) (bank_bit p) p.bank_bits bank fits)
      ∙ (λ t. (wen_open (s.q (LogicAt Csd)) (s.q (LogicAt Wed)) ∙ (λ j. not (l.csd j) && not (l.wed j))) t && (eqb bank (here_is t) && masked_is s c p.write_size p.masks j (masks j j_fits) l.dm t))
      ∙ turned (not c.csb) (not c.web) (eqb bank (at_bank p c)) (is_masked_in p.masks p.write_size c j)

  pub open_low : (bank k : ℕ) → bank < power_of_two p.bank_bits → k < p.word_size * power_of_two p.col_bits → opened p s (port_values false c) bank k ≡ is_put p c bank k
  open_low bank k fits k_fits = λ j. wen_low bank (k / power_of_two p.col_bits) fits (div_below k (power_of_two p.col_bits) p.word_size (twice_some p.col_bits) k_fits) j && eqb (k % power_of_two p.col_bits) (choice_is j)

  pub sen_low : (bank : ℕ) → bank < power_of_two p.bank_bits → sen p s (port_values false c) bank ≡ (((not c.csb && c.web) && s.q (LogicAt Dlay)) && eqb bank (at_bank p c))
  sen_low bank fits =
      bank_gate s (port_values false c) (bank_bit p) p.bank_bits bank (signal s (port_values false c) Sen) fits
      ∙ (λ j. (sen_open (s.q (LogicAt Csd)) (s.q (LogicAt Wed)) (s.q (LogicAt Dlay)) ∙ (λ j. (not (l.csd j) && l.wed j) && s.q (LogicAt Dlay))) j && eqb bank (here_is j))

  lines_at : (j : ℕ) → j < p.col_bits + total_bits p.groups → address s (port_values false c) j ≡ bit_of c.addr j
  lines_at j h = l.ad j (omega arith)

  -- in a bank the row of the address alone may be on, where the bank is the addressed one
  pub row_on : (bank : ℕ) → bank < power_of_two p.bank_bits → word_line p s (port_values false c) bank (at_row p c) ≡ on p c bank
  row_on bank fits = word_on (wlen p s (port_values false c) bank) _ _ (wlen_low bank fits) (hits (address s (port_values false c)) c.addr p.col_bits p.groups lines_at)

  pub row_off : (bank r : ℕ) → r < bank_rows p → (r ≡ at_row p c → ⊥) → word_line p s (port_values false c) bank r ≡ false
  row_off bank r r_fits other = word_off (wlen p s (port_values false c) bank) _ (by_lines _ refl)
    where
      by_lines : (t : Bool) → all_lines (address s (port_values false c)) p.groups p.col_bits r ≡ t → all_lines (address s (port_values false c)) p.groups p.col_bits r ≡ false
      by_lines false e = e
      by_lines true e = absurd (other (hits_only (address s (port_values false c)) c.addr p.col_bits r p.groups lines_at r_fits e))

  pub row_fits : at_row p c < bank_rows p
  row_fits = low_below (total_bits p.groups) (high_bits p.col_bits c.addr)

  -- the bit lines while the clock is low
  pub low_left : (bank k : ℕ) → bank < power_of_two p.bank_bits → k < p.word_size * power_of_two p.col_bits
      → left p s (port_values false c) bank k ≡ bit_line true (is_put p c bank k) (c.din (k / power_of_two p.col_bits)) (on p c bank && not (s.q (BitAt bank (at_row p c) k))) (s.charge (Bl bank k))
  low_left bank k fits k_fits =
      bit_line_is (signal s (port_values false c) Clkb) _ _ _ (s.charge (Bl bank k)) _ _ _ refl (open_low bank k fits k_fits) (l.dd (k / power_of_two p.col_bits) (div_below k (power_of_two p.col_bits) p.word_size (twice_some p.col_bits) k_fits))
      (one_row (bank_rows p) (at_row p c) (λ r. word_line p s (port_values false c) bank r && not (s.q (BitAt bank r k))) (on p c bank && not (s.q (BitAt bank (at_row p c) k))) row_fits
      (ap (λ (t : Bool). t && not (s.q (BitAt bank (at_row p c) k))) (row_on bank fits))
      (λ r r_fits other. ap (λ (t : Bool). t && not (s.q (BitAt bank r k))) (row_off bank r r_fits other)))

  pub low_right : (bank k : ℕ) → bank < power_of_two p.bank_bits → k < p.word_size * power_of_two p.col_bits
      → right p s (port_values false c) bank k ≡ bit_line true (is_put p c bank k) (not (c.din (k / power_of_two p.col_bits))) (on p c bank && s.q (BitAt bank (at_row p c) k)) (s.charge (Br bank k))
  low_right bank k fits k_fits =
      bit_line_is (signal s (port_values false c) Clkb) _ _ _ (s.charge (Br bank k)) _ _ _ refl (open_low bank k fits k_fits) (ap not (l.dd (k / power_of_two p.col_bits) (div_below k (power_of_two p.col_bits) p.word_size (twice_some p.col_bits) k_fits)))
      (one_row (bank_rows p) (at_row p c) (λ r. word_line p s (port_values false c) bank r && s.q (BitAt bank r k)) (on p c bank && s.q (BitAt bank (at_row p c) k)) row_fits
      (ap (λ (t : Bool). t && s.q (BitAt bank (at_row p c) k)) (row_on bank fits))
      (λ r r_fits other. ap (λ (t : Bool). t && s.q (BitAt bank r k)) (row_off bank r r_fits other)))

  module _ (v : Net → Bool) (next : State) (ph : IsPhase (direct p) s (port_values false c) v next) where
    -- the flip-flops keep the command while the clock is low
    pub held : Latched p next c
    held = record {
      csd = (csd_next p masks s (port_values false c) v next ph).0 ∙ l.csd;
      wed = (wed_next p masks s (port_values false c) v next ph).0 ∙ l.wed;
      ad = λ j h. (ad_next p masks s (port_values false c) v next ph j h).0 ∙ l.ad j h;
      dd = λ j h. (dd_next p masks s (port_values false c) v next ph j h).0 ∙ l.dd j h;
      dm = λ j h. (dm_next p masks s (port_values false c) v next ph j h).0 ∙ l.dm j h;
    }

    -- what a phase with the clock low does to the bits
    pub low_bit : (bank k : ℕ) → bank < power_of_two p.bank_bits → k < p.word_size * power_of_two p.col_bits → (x y : Bool) → s.charge (Bl bank k) ≡ x → s.charge (Br bank k) ≡ y → (q : Bool) → s.q (BitAt bank (at_row p c) k) ≡ q
        → (next.charge (Bl bank k) ≡ bit_line true (is_put p c bank k) (c.din (k / power_of_two p.col_bits)) (on p c bank && not q) x)
        × (next.charge (Br bank k) ≡ bit_line true (is_put p c bank k) (not (c.din (k / power_of_two p.col_bits))) (on p c bank && q) y)
        × (next.q (BitAt bank (at_row p c) k) ≡ cell_bit (on p c bank) (bit_line true (is_put p c bank k) (c.din (k / power_of_two p.col_bits)) (on p c bank && not q) x) (bit_line true (is_put p c bank k) (not (c.din (k / power_of_two p.col_bits))) (on p c bank && q) y) q)
    low_bit bank k fits k_fits x y ex ey q eq =
        let a = low_left bank k fits k_fits in
        let b = low_right bank k fits k_fits in
        let a2 = a ∙ (λ j. bit_line true (is_put p c bank k) (c.din (k / power_of_two p.col_bits)) (on p c bank && not (eq j)) (ex j)) in
        let b2 = b ∙ (λ j. bit_line true (is_put p c bank k) (not (c.din (k / power_of_two p.col_bits))) (on p c bank && eq j) (ey j)) in
        let d = left_next p masks s (port_values false c) v next ph bank k fits k_fits in
        let e = right_next p masks s (port_values false c) v next ph bank k fits k_fits in
        let f = bit_next p masks s (port_values false c) v next ph bank (at_row p c) k fits row_fits k_fits in
        let g = row_on bank fits in
        (d ∙ a2, e ∙ b2, f ∙ (λ j. cell_bit (g j) (a2 j) (b2 j) (eq j)))

    pub low_other : (bank r k : ℕ) → bank < power_of_two p.bank_bits → r < bank_rows p → (r ≡ at_row p c → ⊥) → k < p.word_size * power_of_two p.col_bits → next.q (BitAt bank r k) ≡ s.q (BitAt bank r k)
    low_other bank r k fits r_fits other k_fits =
        bit_next p masks s (port_values false c) v next ph bank r k fits r_fits k_fits
        ∙ ap (λ (t : Bool). cell_bit t (left p s (port_values false c) bank k) (right p s (port_values false c) bank k) (s.q (BitAt bank r k))) (row_off bank r r_fits other)

-- after the first phase
pub fetched : (p : Organization) (masks : MasksFit p) (s : State) (c : MemoryCommand) (v : Net → Bool) (next : State) → IsStartState (direct p) s → IsPhase (direct p) s (port_values true c) v next → Latched p next c
fetched p masks s c v next start ph = record {
  csd = (csd_next p masks s (port_values true c) v next ph).0 ∙ caught_open _ _ _ (start (LogicAt Csd) tt refl);
  wed = (wed_next p masks s (port_values true c) v next ph).0 ∙ caught_open _ _ _ (start (LogicAt Wed) (omega arith) refl);
  ad = λ j h. (ad_next p masks s (port_values true c) v next ph j h).0 ∙ caught_open _ _ _ (start (LogicAt (Ad j)) h refl);
  dd = λ j h. (dd_next p masks s (port_values true c) v next ph j h).0 ∙ caught_open _ _ _ (start (LogicAt (Dd j)) h refl);
  dm = λ j h. (dm_next p masks s (port_values true c) v next ph j h).0 ∙ caught_open _ _ _ (start (LogicAt (Dm j)) h refl);
}

no_row : (n : ℕ) (t u : Bool) → t ≡ false → enabled n t (gate1 (gate2 t u)) ≡ false
no_row zero t u e = e
no_row (suc n) t u e = rw e refl

-- no word line is on while the clock is high
pub dark : (p : Organization) (s : State) (c : MemoryCommand) (bank r : ℕ) → word_line p s (port_values true c) bank r ≡ false
dark p s c bank r = shut _ _ (no_row p.bank_bits (signal s (port_values true c) Wlen) _ (wlen_shut (signal s (port_values true c) Cs)))
  where
    shut : (e f : Bool) → e ≡ false → (e && f) ≡ false
    shut e f h = rw h refl

fetched_bits : (p : Organization) (masks : MasksFit p) (s : State) (c : MemoryCommand) (v : Net → Bool) (next : State) → IsPhase (direct p) s (port_values true c) v next
    → (bank r k : ℕ) → bank < power_of_two p.bank_bits → r < bank_rows p → k < p.word_size * power_of_two p.col_bits → next.q (BitAt bank r k) ≡ s.q (BitAt bank r k)
fetched_bits p masks s c v next ph bank r k bank_fits r_fits fits =
    bit_next p masks s (port_values true c) v next ph bank r k bank_fits r_fits fits
    ∙ ap (λ (t : Bool). cell_bit t (left p s (port_values true c) bank k) (right p s (port_values true c) bank k) (s.q (BitAt bank r k))) (dark p s c bank r)

pub start_after : (p : Organization) (masks : MasksFit p) (s : State) (c : MemoryCommand) (v : Net → Bool) (next : State) → IsPhase (direct p) s (port_values false c) v next → IsStartState (direct p) next
start_after p masks s c v next ph (LogicAt Csd) there e = (csd_next p masks s (port_values false c) v next ph).1
start_after p masks s c v next ph (LogicAt Wed) there e = (wed_next p masks s (port_values false c) v next ph).1
start_after p masks s c v next ph (LogicAt (Ad j)) there e = (ad_next p masks s (port_values false c) v next ph j there).1
start_after p masks s c v next ph (LogicAt (Dd j)) there e = (dd_next p masks s (port_values false c) v next ph j there).1
start_after p masks s c v next ph (LogicAt (Dm j)) there e = (dm_next p masks s (port_values false c) v next ph j there).1
start_after p masks s c v next ph leaf there e = absurd cc

pub record Done (p : Organization) (s : State) (c : MemoryCommand) (v : Net → Bool) (end : State) : Type 0 where
  pub start : IsStartState (direct p) end
  pub row : (bank k : ℕ) → bank < power_of_two p.bank_bits → k < p.word_size * power_of_two p.col_bits → end.q (BitAt bank (at_row p c) k) ≡ cond (is_put p c bank k) (c.din (k / power_of_two p.col_bits)) (s.q (BitAt bank (at_row p c) k))
  pub others : (bank r k : ℕ) → bank < power_of_two p.bank_bits → r < bank_rows p → (r ≡ at_row p c → ⊥) → k < p.word_size * power_of_two p.col_bits → end.q (BitAt bank r k) ≡ s.q (BitAt bank r k)
  pub answer : c.csb ≡ false → c.web ≡ true → (j : ℕ) → j < p.word_size → v (Dout j) ≡ s.q (BitAt (at_bank p c) (at_row p c) (j * power_of_two p.col_bits + low_bits p.col_bits c.addr))

module _ (p : Organization) (masks : MasksFit p) (s : State) (c : MemoryCommand) (v : Net → Bool) (end : State) (start : IsStartState (direct p) s) (range : at_bank p c < power_of_two p.bank_bits) (run : IsCycle (direct p) s c v end) where
  pub once : Latched p run.s1 c
  once = fetched p masks s c run.first run.s1 start run.fetch

  pub again : Latched p run.s2 c
  again = held p masks run.s1 c once range run.second run.s2 run.select

  -- after the two phases with the clock low: the lines and the bit of one column in the row
  two_phases : (bank k : ℕ) → bank < power_of_two p.bank_bits → k < p.word_size * power_of_two p.col_bits
      → (left p run.s2 (port_values false c) bank k ≡ l2 (on p c bank) (is_put p c bank k) (c.din (k / power_of_two p.col_bits)) (s.q (BitAt bank (at_row p c) k)))
      × (right p run.s2 (port_values false c) bank k ≡ r2 (on p c bank) (is_put p c bank k) (c.din (k / power_of_two p.col_bits)) (s.q (BitAt bank (at_row p c) k)))
      × (end.q (BitAt bank (at_row p c) k) ≡ q2 (on p c bank) (is_put p c bank k) (c.din (k / power_of_two p.col_bits)) (s.q (BitAt bank (at_row p c) k)))
  two_phases bank k fits k_fits =
      let q = fetched_bits p masks s c run.first run.s1 run.fetch bank (at_row p c) k fits (row_fits p masks run.s1 c once range) k_fits in
      let x = left_next p masks s (port_values true c) run.first run.s1 run.fetch bank k fits k_fits in
      let y = right_next p masks s (port_values true c) run.first run.s1 run.fetch bank k fits k_fits in
      let a = low_bit p masks run.s1 c once range run.second run.s2 run.select bank k fits k_fits true true x y (s.q (BitAt bank (at_row p c) k)) q in
      let b = low_bit p masks run.s2 c again range v end run.finish bank k fits k_fits _ _ a.0 a.1 _ a.2 in
      (sym (left_next p masks run.s2 (port_values false c) v end run.finish bank k fits k_fits) ∙ b.0, sym (right_next p masks run.s2 (port_values false c) v end run.finish bank k fits k_fits) ∙ b.1, b.2)

  pub late : run.s2.q (LogicAt Dlay) ≡ true
  late = dly_next p masks run.s1 (port_values false c) run.second run.s2 run.select

  chosen_left : (u e t d q : Bool) → u ≡ true → e ≡ false → l2 u ((u && e) && t) d q ≡ q
  chosen_left u e t d true a b = rw (a, b) refl
  chosen_left u e t d false a b = rw (a, b) refl

  chosen_right : (u e t d q : Bool) → u ≡ true → e ≡ false → r2 u ((u && e) && t) d q ≡ not q
  chosen_right u e t d true a b = rw (a, b) refl
  chosen_right u e t d false a b = rw (a, b) refl

  is_sensed : (e x y h q : Bool) → e ≡ true → x ≡ q → y ≡ not q → cond (e && differ x y) x h ≡ q
  is_sensed e x y h true a b c = rw (a, b, c) refl
  is_sensed e x y h false a b c = rw (a, b, c) refl

  is_read : (x y z b : Bool) → x ≡ false → y ≡ true → z ≡ true → b ≡ true → (((not x && y) && z) && b) ≡ true
  is_read x y z b e f g h = rw (e, f, g, h) refl

  is_on : (x b : Bool) → x ≡ false → b ≡ true → (not x && b) ≡ true
  is_on x b e f = rw (e, f) refl

  no_write : (y m : Bool) → y ≡ true → (not y && m) ≡ false
  no_write y m e = rw e refl

  pub done : Done p s c v end
  done = record {
    start = start_after p masks run.s2 c v end run.finish;
    row = λ bank k fits k_fits. (two_phases bank k fits k_fits).2 ∙ column_keeps (on p c bank) (masked p c (k / power_of_two p.col_bits)) (eqb (k % power_of_two p.col_bits) (low_bits p.col_bits c.addr)) (c.din (k / power_of_two p.col_bits)) (s.q (BitAt bank (at_row p c) k));
    others = λ bank r k fits r_fits other k_fits.
        low_other p masks run.s2 c again range v end run.finish bank r k fits r_fits other k_fits
        ∙ low_other p masks run.s1 c once range run.second run.s2 run.select bank r k fits r_fits other k_fits
        ∙ fetched_bits p masks s c run.first run.s1 run.fetch bank r k fits r_fits k_fits;
    answer = λ csb web j j_fits.
        let k : ℕ = j * power_of_two p.col_bits + low_bits p.col_bits c.addr in
        let lines = two_phases (at_bank p c) k range (column_fits p.col_bits p.word_size j (low_bits p.col_bits c.addr) j_fits (low_below p.col_bits c.addr)) in
        let one : eqb (at_bank p c) (at_bank p c) ≡ true = eq-eqb (at_bank p c) (at_bank p c) refl in
        let bank_is = here_is p masks run.s2 c again range in
        let column_is = choice_is p masks run.s2 c again range in
        dout_is p masks run.s2 (port_values false c) v end run.finish j j_fits
        ∙ (λ t. cond (sen p run.s2 (port_values false c) (bank_is t) && differ (left p run.s2 (port_values false c) (bank_is t) (j * power_of_two p.col_bits + column_is t)) (right p run.s2 (port_values false c) (bank_is t) (j * power_of_two p.col_bits + column_is t)))
        (left p run.s2 (port_values false c) (bank_is t) (j * power_of_two p.col_bits + column_is t)) (run.s2.charge (Dout j)))
        ∙ is_sensed _ _ _ _ (s.q (BitAt (at_bank p c) (at_row p c) k))
        (sen_low p masks run.s2 c again range (at_bank p c) range ∙ is_read c.csb c.web (run.s2.q (LogicAt Dlay)) _ csb web late one)
        (lines.0 ∙ chosen_left (on p c (at_bank p c)) (masked p c (k / power_of_two p.col_bits)) (eqb (k % power_of_two p.col_bits) (low_bits p.col_bits c.addr)) (c.din (k / power_of_two p.col_bits)) (s.q (BitAt (at_bank p c) (at_row p c) k)) (is_on c.csb _ csb one) (no_write c.web _ web))
        (lines.1 ∙ chosen_right (on p c (at_bank p c)) (masked p c (k / power_of_two p.col_bits)) (eqb (k % power_of_two p.col_bits) (low_bits p.col_bits c.addr)) (c.din (k / power_of_two p.col_bits)) (s.q (BitAt (at_bank p c) (at_row p c) k)) (is_on c.csb _ csb one) (no_write c.web _ web));
  }
