-- What a cell of the logic row drives is read by another leaf instance.
use Rattle.std.proofs.Common.{◌≡◌, ◌⊎◌, inl, inr, ℕ, zero, suc, ◌+◌, ◌-◌, ◌*◌, ◌/◌, ◌%◌, ◌<◌, ◌≤◌, List, [], ◌∷◌, ◌++◌, Some, refl, sym, ap, subst, ◌∙◌, arith}
use Rattle.std.specs.Prelude.{slice_get}
use Rattle.std.proofs.lemmas.Bool.{cases_lt}
use Rattle.std.proofs.Math.Nat.{mod-eq_of_lt, mul-div_cancel_left}
use Rattle.sram_netlist.specs.Organization.{Organization, IsBuildable, IsWritten, total_bits, power_of_two, words_per_row, columns_of, banks_of, bank_bit, addr_bits, inputs_of}
use Rattle.sram_netlist.specs.Nets.{Net, Clkb, Csq, Weq, Cs, We, Wlb, Wlen, Wrb, Wen, Rdb, Rd, Dly, Seb, Sen, Control, Na, M, Line, LineB, WlenAt, SenAt, WenB, WenAt, Zb}
use Rattle.sram_netlist.specs.Instances.{LogicCell, LeafInstance, Clki, Csd, Wed, Csi, Wei, Wln, Wli, Wrn, Wri, Rdn, Rdi, Dlay, Senn, Seni, Ad, Ai, Dd, Dm, Pn, Pi, Ln, Li, Kn, Ki, Gn, Gi, NandAt, DriverAt, WriteAt, SenseAt, MuxAt, LogicAt}
use Rattle.sram_netlist.specs.Netlist.{ports, row_lines, picks, high_bits, wlen_at, sen_at, enable_at, enable_count, enables_of, mask_of, mask_input, bank_input, enable_inputs, sense_start, supply_nets, logic_cell_ports}
use Rattle.sram_netlist.specs.Membership.{HasLeafInstance, HasLogicCell, IsGroup, IsChoice, IsGated}
use Rattle.sram_netlist.proofs.Bounds.{twice_above, written_all}
use Rattle.memory_laws.proofs.Decode.{low_all, twice_add}
use Rattle.sram_rows.proofs.RowKinds.{some_rows}
use Rattle.macro_layout.specs.Pins.{output_of}
use Rattle.main_channel.proofs.NetLaws.{last_before}
use Rattle.macro_nets.proofs.TapPinLaws.{in_front_at}

-- Lines of rows: each is that of some row

half : (x : ℕ) → (2 * x) / 2 ≡ x
half x = omega arith

high_product : (b r : ℕ) → high_bits b (power_of_two b * r) ≡ r
high_product zero r = omega arith
high_product (suc b) r =
    let e : (2 * power_of_two b) * r ≡ 2 * (power_of_two b * r) = grind arith in
    ap (λ (x : ℕ). high_bits b (x / 2)) e ∙ (ap (high_bits b) (half (power_of_two b * r)) ∙ high_product b r)

product_below : (a b r : ℕ) → 0 < a → r < b → a * r < a * b
product_below (suc zero) b r some lt = omega (arith, lt)
product_below (suc (suc a)) b r some lt = let h = product_below (suc a) b r (omega arith) lt in omega (arith, lt, h)
product_below zero b r some lt = absurd (omega (arith, some))

some_power : (b : ℕ) → 0 < power_of_two b
some_power b = let t = twice_above b in omega (arith, t)

power_below : (b more k : ℕ) → k < power_of_two b → k < power_of_two (b + more)
power_below b more k lt =
    let add = twice_add b more in
    let some = some_power more in
    let up = at_least (power_of_two b) (power_of_two more) some in
    omega (arith, lt, add, up)
  where
    at_least : (a n : ℕ) → 0 < n → a ≤ a * n
    at_least a (suc n) some = omega arith
    at_least a zero some = absurd (omega (arith, some))

record HasRow (groups : List ℕ) (from o b k : ℕ) : Type 0 where
  row : ℕ
  few : row < power_of_two (total_bits groups)
  port : ℕ
  on : slice_get (row_lines groups from row) port ≡ Some (Line o b k)

row_of_line : (groups : List ℕ) (from o b k : ℕ) → IsGroup groups from o b → k < power_of_two b → HasRow groups from o b k
row_of_line [] from o b k none lt = absurd none
row_of_line (c ∷ cs) from o b k (inl is) lt =
    let here : k < power_of_two c = subst (λ (n : ℕ). k < power_of_two n) is.1 lt in
    record {
      row = k;
      few = power_below c (total_bits cs) k here;
      port = 0;
      on = λ i. Some (Line (sym is.0 i) (sym is.1 i) (low_all c k here i));
    }
row_of_line (c ∷ cs) from o b k (inr later) lt =
    let rest = row_of_line cs (from + c) o b k later lt in
    let r = power_of_two c * rest.row in
    record {
      row = r;
      few = subst (λ (n : ℕ). r < n) (sym (twice_add c (total_bits cs))) (product_below (power_of_two c) (power_of_two (total_bits cs)) rest.row (some_power c) rest.few);
      port = suc rest.port;
      on = subst (λ (n : ℕ). slice_get (row_lines cs (from + c) n) rest.port ≡ Some (Line o b k)) (sym (high_product c rest.row)) rest.on;
    }

-- Complements: each is picked by line 0 over some bits

pick_zero : (o b j : ℕ) → j < b → slice_get (picks o b 0) j ≡ Some (Na (o + j))
pick_zero o zero j lt = absurd (omega (arith, lt))
pick_zero o (suc b) zero lt = let e : o ≡ o + 0 = omega arith in ap (λ (n : ℕ). Some (Na n)) e
pick_zero o (suc b) (suc j) lt = let e : suc o + j ≡ o + suc j = omega arith in pick_zero (suc o) b j (omega (arith, lt)) ∙ ap (λ (n : ℕ). Some (Na n)) e

record IsAmongBits (plan : Organization) (i : ℕ) : Type 0 where
  o : ℕ
  b : ℕ
  choice : IsChoice plan o b
  from : o ≤ i
  to : i < o + b

record IsInGroup (groups : List ℕ) (from i : ℕ) : Type 0 where
  o : ℕ
  b : ℕ
  group : IsGroup groups from o b
  low : o ≤ i
  high : i < o + b

group_of : (groups : List ℕ) (from i : ℕ) → from ≤ i → i < from + total_bits groups → IsInGroup groups from i
group_of [] from i low high = absurd (omega (arith, low, high))
group_of (c ∷ cs) from i low high = elim (cases_lt i (from + c)) [
  | inl lt ↦ record { o = from; b = c; group = inl (refl, refl); low = low; high = lt }
  | inr ge ↦ let h = group_of cs (from + c) i (omega (arith, ge)) (omega (arith, high)) in record { o = h.o; b = h.b; group = inr h.group; low = h.low; high = h.high }
]

among_bits : (plan : Organization) (i : ℕ) → i < addr_bits plan → IsAmongBits plan i
among_bits plan i lt = elim (cases_lt i plan.col_bits) [
  | inl few ↦ record { o = 0; b = plan.col_bits; choice = inl ((refl, refl), omega (arith, few)); from = omega arith; to = omega (arith, few) }
  | inr ge ↦ elim (cases_lt i (bank_bit plan)) [
    | inl few ↦ let g = group_of plan.groups plan.col_bits i (omega (arith, ge)) few in record { o = g.o; b = g.b; choice = inr (inl g.group); from = g.low; to = g.high }
    | inr more ↦ record { o = bank_bit plan; b = plan.bank_bits; choice = inr (inr ((refl, refl), omega (arith, lt, more))); from = omega (arith, more); to = lt }
  ]
]

-- Readers

-- another leaf instance than the cell has the net on a port
pub record IsReader (plan : Organization) (c : LogicCell) (n : Net) : Type 0 where
  pub leaf : LeafInstance
  pub there : HasLeafInstance plan leaf
  pub port : ℕ
  pub on : slice_get (ports plan leaf) port ≡ Some n
  pub other : leaf ≡ LogicAt c → ⊥

module _ (plan : Organization) (build : IsBuildable plan) (written : IsWritten plan) where
  cell : (c r : LogicCell) (n : Net) (port : ℕ) → HasLogicCell plan r → slice_get (logic_cell_ports plan r) port ≡ Some n → (LogicAt r ≡ LogicAt c → ⊥) → IsReader plan c n
  cell c r n port has on other = record { leaf = LogicAt r; there = has; port = port; on = on; other = other }

  some_bank : 0 < banks_of plan
  some_bank = some_power plan.bank_bits

  inputs_all : inputs_of plan ≡ plan.word_size
  inputs_all = written_all plan.write_size plan.word_size written

  enables_all : enables_of plan ≡ enable_count plan.masks
  enables_all = written_all plan.write_size (enable_count plan.masks) written

  some_enable : (masks : ℕ) → 0 < enable_count masks
  some_enable zero = omega arith
  some_enable (suc masks) = omega arith

  -- by the count of bank bits
  word_enabled : (n : ℕ) → plan.bank_bits ≡ n → IsReader plan Wli (Control Wlen)
  word_enabled zero e = record { leaf = DriverAt 0 0; there = (some_bank, some_rows plan); port = 1; on = ap (λ (m : ℕ). Some (wlen_at m 0)) e; other = λ same. cc }
  word_enabled (suc n) e = cell Wli (Ln 0) (Control Wlen) 0 (some_bank, omega (arith, e)) refl (λ same. cc)

  sense_enabled : (n : ℕ) → plan.bank_bits ≡ n → IsReader plan Seni (Control Sen)
  sense_enabled zero e = record { leaf = SenseAt 0 0; there = (some_bank, build.words); port = 3; on = ap (λ (m : ℕ). Some (sen_at m 0)) e; other = λ same. cc }
  sense_enabled (suc n) e = cell Seni (Kn 0) (Control Sen) 0 (some_bank, omega (arith, e)) refl (λ same. cc)

  gated_enable : IsGated plan → IsReader plan Wri (Control Wen)
  gated_enable gated = cell Wri (Gn 0 0) (Control Wen) 0 ((some_bank, subst (λ (n : ℕ). 0 < n) (sym enables_all) (some_enable plan.masks)), gated) refl (λ same. cc)

  write_enabled : (n masks : ℕ) → plan.bank_bits ≡ n → plan.masks ≡ masks → IsReader plan Wri (Control Wen)
  write_enabled zero zero e d = record {
    leaf = WriteAt 0 0;
    there = (some_bank, subst (λ (m : ℕ). 0 < m) (sym inputs_all) build.words);
    port = 3;
    on = λ i. Some (enable_at (e i) (d i) 0 (mask_of plan.masks plan.write_size 0));
    other = λ same. cc;
  }
  write_enabled zero (suc masks) e d = gated_enable (inr (omega (arith, d)))
  write_enabled (suc n) masks e d = gated_enable (inl (omega (arith, e)))

  read_started : (w : ℕ) → 0 < w → sense_start w ≡ Control Rd
  read_started zero some = absurd (omega (arith, some))
  read_started (suc w) some = refl

  -- a mask's latch
  mask_on : (n masks m : ℕ) → plan.bank_bits ≡ n → plan.masks ≡ suc masks → (port : ℕ) × (slice_get (enable_inputs plan 0 m) port ≡ Some (M m))
  mask_on zero masks m e d = (1, ap (λ (l : List Net). slice_get (Control Wen ∷ l) 1) (λ i. bank_input plan (e i) 0 ++ mask_input (d i) m))
  mask_on (suc n) masks m e d = (2, ap (λ (l : List Net). slice_get (Control Wen ∷ l) 2) (λ i. bank_input plan (e i) 0 ++ mask_input (d i) m))

  mask_read : (m masks : ℕ) → m < plan.masks → plan.masks ≡ masks → IsReader plan (Dm m) (M m)
  mask_read m zero lt d = absurd (omega (arith, lt, d))
  mask_read m (suc masks) lt d =
      let at = mask_on plan.bank_bits masks m refl d in
      let enables : enable_count plan.masks ≡ suc masks = ap enable_count d in
      cell (Dm m) (Gn 0 m) (M m) at.0 ((some_bank, subst (λ (n : ℕ). m < n) (sym enables_all) (omega (arith, lt, d, enables))), inr (omega (arith, lt))) (in_front_at (enable_inputs plan 0 m) (WenB 0 m ∷ supply_nets) at.0 (M m) at.1) (λ same. cc)

  -- lines
  choice_read : (k : ℕ) → k < words_per_row plan → 0 < plan.col_bits → IsReader plan (Pi 0 plan.col_bits k) (Line 0 plan.col_bits k)
  choice_read k lt some =
      let words = build.words in
      let few : k < columns_of plan = within plan.word_size (words_per_row plan) k words lt in
      record { leaf = MuxAt 0 k; there = (some_bank, (few, some)); port = 4; on = ap (λ (n : ℕ). Some (Line 0 plan.col_bits n)) (small k (words_per_row plan) lt); other = λ same. cc }
    where
      within : (m n k : ℕ) → 0 < m → k < n → k < m * n
      within zero n k some lt = absurd (omega (arith, some))
      within (suc m) n k some lt = omega (arith, lt)

      small : (k n : ℕ) → k < n → k % n ≡ k
      small k n lt = mod-eq_of_lt lt

  line_read : (o b k : ℕ) → IsChoice plan o b → k < power_of_two b → IsReader plan (Pi o b k) (Line o b k)
  line_read o b k (inl choice) lt =
      let words : k < words_per_row plan = subst (λ (n : ℕ). k < power_of_two n) choice.0.1 lt in
      let some : 0 < plan.col_bits = subst (λ (n : ℕ). 0 < n) choice.0.1 choice.1 in
      subst (λ (at : ℕ × ℕ). IsReader plan (Pi at.0 at.1 k) (Line at.0 at.1 k)) (λ i. (sym choice.0.0 i, sym choice.0.1 i)) (choice_read k words some)
  line_read o b k (inr (inl group)) lt =
      let at = row_of_line plan.groups plan.col_bits o b k group lt in
      record { leaf = NandAt 0 at.row; there = (some_bank, at.few); port = at.port; on = in_front_at (row_lines plan.groups plan.col_bits at.row) (Zb 0 at.row ∷ supply_nets) at.port (Line o b k) at.on; other = λ same. cc }
  line_read o b k (inr (inr choice)) lt =
      let few : k < banks_of plan = subst (λ (n : ℕ). k < power_of_two n) choice.0.1 lt in
      let some : 0 < plan.bank_bits = subst (λ (n : ℕ). 0 < n) choice.0.1 choice.1 in
      subst (λ (at : ℕ × ℕ). IsReader plan (Pi at.0 at.1 k) (Line at.0 at.1 k)) (λ i. (sym choice.0.0 i, sym choice.0.1 i)) (cell (Pi (bank_bit plan) plan.bank_bits k) (Ln k) (Line (bank_bit plan) plan.bank_bits k) 1 (few, some) refl (λ same. cc))

  complement_read : (i : ℕ) → i < addr_bits plan → IsReader plan (Ai i) (Na i)
  complement_read i lt =
      let at = among_bits plan i lt in
      let from = at.from in
      let to = at.to in
      let j = i - at.o in
      let sum : at.o + j ≡ i = omega (arith, from) in
      let on = pick_zero at.o at.b j (omega (arith, to, from)) ∙ ap (λ (n : ℕ). Some (Na n)) sum in
      cell (Ai i) (Pn at.o at.b 0) (Na i) j (at.choice, some_power at.b) (in_front_at (picks at.o at.b 0) (LineB at.o at.b 0 ∷ supply_nets) j (Na i) on) (λ same. cc)

  -- a bank's enables
  bank_word_read : (b n : ℕ) → b < banks_of plan → plan.bank_bits ≡ n → 0 < n → IsReader plan (Li b) (WlenAt b)
  bank_word_read b zero lt e some = absurd (omega (arith, some))
  bank_word_read b (suc n) lt e some = record { leaf = DriverAt b 0; there = (lt, some_rows plan); port = 1; on = ap (λ (m : ℕ). Some (wlen_at m b)) e; other = λ same. cc }

  bank_sense_read : (b n : ℕ) → b < banks_of plan → plan.bank_bits ≡ n → 0 < n → IsReader plan (Ki b) (SenAt b)
  bank_sense_read b zero lt e some = absurd (omega (arith, some))
  bank_sense_read b (suc n) lt e some = record { leaf = SenseAt b 0; there = (lt, build.words); port = 3; on = ap (λ (m : ℕ). Some (sen_at m b)) e; other = λ same. cc }

  enable_is : (n masks b m : ℕ) → (0 < n) ⊎ (0 < masks) → enable_at n masks b m ≡ WenAt b m
  enable_is zero zero b m (inl some) = absurd (omega (arith, some))
  enable_is zero zero b m (inr some) = absurd (omega (arith, some))
  enable_is zero (suc masks) b m gated = refl
  enable_is (suc n) masks b m gated = refl

  -- the first bit that the mask writes
  mask_bit : (masks m : ℕ) → plan.masks ≡ masks → m < enable_count masks → (i : ℕ) × (i < plan.word_size) × (mask_of masks plan.write_size i ≡ m)
  mask_bit zero m e lt = (0, build.words, omega (arith, lt))
  mask_bit (suc masks) m e lt = elim build.masks [
    | inl none ↦ absurd (omega (arith, none, e))
    | inr (some, all) ↦
        let inside = product_below plan.write_size (suc masks) m some lt in
        let whole : plan.write_size * suc masks ≡ plan.word_size = (let turned : plan.write_size * suc masks ≡ suc masks * plan.write_size = grind arith in turned ∙ (ap (λ (n : ℕ). n * plan.write_size) (sym e) ∙ all)) in
        (plan.write_size * m, omega (arith, inside, whole), mul-div_cancel_left m some)
  ]

  enable_read : (b m : ℕ) → HasLogicCell plan (Gi b m) → IsReader plan (Gi b m) (WenAt b m)
  enable_read b m has =
      let lt : m < enable_count plan.masks = subst (λ (n : ℕ). m < n) enables_all has.0.1 in
      let at = mask_bit plan.masks m refl lt in
      record {
        leaf = WriteAt b at.0;
        there = (has.0.0, subst (λ (n : ℕ). at.0 < n) (sym inputs_all) at.1);
        port = 3;
        on = ap (λ (n : Net). Some n) (enable_is plan.bank_bits plan.masks b (mask_of plan.masks plan.write_size at.0) has.1 ∙ ap (WenAt b) at.2);
        other = λ same. cc;
      }

  -- What each cell drives is read.
  pub reader : (c : LogicCell) → HasLogicCell plan c → IsReader plan c (output_of plan c)
  reader Clki has = cell Clki Wln (Control Clkb) 1 tt refl (λ same. cc)
  reader Csd has = cell Csd Csi (Control Csq) 0 tt refl (λ same. cc)
  reader Wed has = cell Wed Wei (Control Weq) 0 written refl (λ same. cc)
  reader Csi has = cell Csi Wln (Control Cs) 0 tt refl (λ same. cc)
  reader Wei has = cell Wei Wrn (Control We) 1 written refl (λ same. cc)
  reader Wln has = cell Wln Wli (Control Wlb) 0 tt refl (λ same. cc)
  reader Wli has = word_enabled plan.bank_bits refl
  reader Wrn has = cell Wrn Wri (Control Wrb) 0 written refl (λ same. cc)
  reader Wri has = write_enabled plan.bank_bits plan.masks refl refl
  reader Rdn has = cell Rdn Rdi (Control Rdb) 0 written refl (λ same. cc)
  reader Rdi has = cell Rdi Senn (Control Rd) 0 tt (ap (λ (n : Net). Some n) (read_started plan.write_size written)) (λ same. cc)
  reader Dlay has = cell Dlay Senn (Control Dly) 1 tt refl (λ same. cc)
  reader Senn has = cell Senn Seni (Control Seb) 0 tt refl (λ same. cc)
  reader Seni has = sense_enabled plan.bank_bits refl
  reader (Ad i) has = cell (Ad i) (Ai i) (output_of plan (Ad i)) 0 has refl (λ same. cc)
  reader (Ai i) has = complement_read i has
  reader (Dd i) has = record { leaf = WriteAt 0 i; there = (some_bank, has); port = 0; on = refl; other = λ same. cc }
  reader (Dm m) has = mask_read m plan.masks has refl
  reader (Pn o b k) has = subst (IsReader plan (Pn o b k)) (sym (last_before (picks o b k) (LineB o b k))) (cell (Pn o b k) (Pi o b k) (LineB o b k) 0 has refl (λ same. cc))
  reader (Pi o b k) has = line_read o b k has.0 has.1
  reader (Ln b) has = cell (Ln b) (Li b) (output_of plan (Ln b)) 0 has refl (λ same. cc)
  reader (Li b) has = bank_word_read b plan.bank_bits has.0 refl has.1
  reader (Kn b) has = cell (Kn b) (Ki b) (output_of plan (Kn b)) 0 has refl (λ same. cc)
  reader (Ki b) has = bank_sense_read b plan.bank_bits has.0 refl has.1
  reader (Gn b m) has = subst (IsReader plan (Gn b m)) (sym (last_before (enable_inputs plan b m) (WenB b m))) (cell (Gn b m) (Gi b m) (WenB b m) 0 has refl (λ same. cc))
  reader (Gi b m) has = enable_read b m has
