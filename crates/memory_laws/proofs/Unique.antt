-- The values of a phase are the only ones.
use Rattle.std.proofs.Common.{◌≡◌, ℕ, zero, suc, ◌+◌, ◌*◌, ◌/◌, ◌%◌, ◌<◌, ◌≤◌, Bool, true, false, cond, ◌&&◌, not, List, [], ◌∷◌, refl, sym, ap, subst, ◌∙◌, arith, eqb, eqb-true, eq-eqb, inl, inr, ◌⊎◌}
use Rattle.std.proofs.lemmas.Nat.{div_below}
use Rattle.sram_netlist.specs.Nets.{Net, Clk0, Csb0, Web0, Clkb, Csq, Weq, Cs, We, Wlb, Wlen, Wrb, Wen, Rdb, Rd, Dly, Seb, Sen, Vdd, Gnd, Control, Addr, Din, Dout, Wmask, A, Na, D, M, LineB, Line, WlenB, WlenAt, SenB, SenAt, WenB, WenAt, Zb, Wl, Bl, Br, Lo, Ro}
use Rattle.sram_netlist.specs.Organization.{total_bits, power_of_two, Organization, bank_rows, bank_bit}
use Rattle.sram_netlist.specs.Instances.{Csd, Wed, Dlay, Ad, Dd, Dm, BitAt, LogicAt}
use Rattle.sram_netlist.specs.Netlist.{enable_count, lo_net, ro_net, wlen_at, sen_at, mask_of}
use Rattle.sram_netlist.specs.Membership.{IsGroup, IsChoice, HasLeafNet, IsGated}
use Rattle.cell_roles.specs.Acts.{Strong, differ, cell_bit}
use Rattle.memory_laws.specs.Phase.{State, PortInputs, IsPhase, Gives, InGroup}
use Rattle.memory_laws.proofs.Values.{choice, here, column, gate1, flop, signal, address, datum, mask, line, all_lines, enabled, wlen_b, sen_b, wen_on, wlen, sen, wen, any_below, bit_line, word_line, opened, left, right, value}
use Rattle.memory_laws.proofs.Decode.{line_is, index_fits, twice_some}
use Rattle.memory_laws.proofs.Direct.{direct, enable, writable}
use Rattle.memory_laws.proofs.Groups.{IsChosen, carried, self, follow, to_lo, to_ro, InLeft, InRight, left_step, right_step, alone_step, column_fits, some_choice, lo_some, ro_some, lo_none, ro_none, slice_none}
use Rattle.memory_laws.proofs.Exists.{column_choice, picks_are, lines_are, inputs_are, one_column_is, by_banks, by_masks, sen_here}
use Rattle.memory_laws.proofs.Drivers.{Pulled, PulledRight, WeakEnds, weak_from, StrongEnds, strong_from, local, has_driver, is_loose, is_open, precharges, driven_ports}
use Rattle.memory_laws.proofs.PhaseLaws.{lo_column, ro_column, any_true, any_row, pulls_left, pulls_right, senses}

any_same : (n : ℕ) (f g : ℕ → Bool) → ((r : ℕ) → r < n → f r ≡ g r) → any_below n f ≡ any_below n g
any_same zero f g same = refl
any_same (suc n) f g same =
    let last : f n ≡ g n = same n (omega arith) in
    let rest : any_below n f ≡ any_below n g = any_same n f g (λ r h. same r (omega arith)) in
    rw (last, rest) refl

group_fits : (groups : List ℕ) (from o b : ℕ) → IsGroup groups from o b → o + b ≤ from + total_bits groups
group_fits [] from o b g = absurd g
group_fits (c ∷ cs) from o b (inl g) = let e = g.0 in let f = g.1 in omega arith
group_fits (c ∷ cs) from o b (inr g) = let h = group_fits cs (from + c) o b g in omega arith

choice_fits : (p : Organization) (o b : ℕ) → IsChoice p o b → o + b ≤ bank_bit p + p.bank_bits
choice_fits p o b (inl g) = let e = g.0.0 in let f = g.0.1 in omega arith
choice_fits p o b (inr (inr g)) = let e = g.0.0 in let f = g.0.1 in omega arith
choice_fits p o b (inr (inl g)) = let h = group_fits p.groups p.col_bits o b g in omega arith

enabled_same : (n : ℕ) (t u t2 u2 : Bool) → t ≡ t2 → (0 < n → u ≡ u2) → enabled n t u ≡ enabled n t2 u2
enabled_same zero t u t2 u2 e f = e
enabled_same (suc n) t u t2 u2 e f = f (omega arith)

both_fit : (k j : ℕ) → j < enable_count k → 0 < k → j < k
both_fit zero j h some = absurd (omega arith)
both_fit (suc k) j h some = h

-- each bit has a mask
abbrev pub MasksFit : Organization → Type 0
MasksFit p = (j : ℕ) → j < p.word_size → mask_of p.masks p.write_size j < enable_count p.masks

-- and each mask has a bit
abbrev pub MasksReached : Organization → Type 0
MasksReached p = (j : ℕ) → j < enable_count p.masks → (i : ℕ) × (i < p.word_size) × (mask_of p.masks p.write_size i ≡ j)

module _ (p : Organization) (masks : MasksFit p) (s : State) (i : PortInputs) (v : Net → Bool) (next : State) (ph : IsPhase (direct p) s i v next) where
  strong_at : (x : Net) (b : Bool) → Gives (direct p) s i v x (Strong b) → v x ≡ b
  strong_at x b g = ph.strong x x b (self p s v x) g

  tight : (x : Net) → HasLeafNet (writable p) x → is_loose x ≡ false → v x ≡ local p s i v x
  tight x h t = strong_at x _ (has_driver p s i v x h t)

  pub clk0_is : v (Control Clk0) ≡ i.clk
  clk0_is = tight (Control Clk0) tt refl

  pub clkb_is : v (Control Clkb) ≡ gate1 i.clk
  clkb_is = let a = tight (Control Clkb) tt refl in let b = clk0_is in cc

  pub csq_is : v (Control Csq) ≡ signal s i Csq
  csq_is = let a = tight (Control Csq) tt refl in let b = clk0_is in let c = tight (Control Csb0) tt refl in cc

  pub weq_is : v (Control Weq) ≡ signal s i Weq
  weq_is = let a = tight (Control Weq) (omega arith) refl in let b = clk0_is in let c = tight (Control Web0) (omega arith) refl in cc

  pub cs_is : v (Control Cs) ≡ signal s i Cs
  cs_is = let a = tight (Control Cs) tt refl in let b = csq_is in cc

  pub we_is : v (Control We) ≡ signal s i We
  we_is = let a = tight (Control We) (omega arith) refl in let b = weq_is in cc

  pub wlb_is : v (Control Wlb) ≡ signal s i Wlb
  wlb_is = let a = tight (Control Wlb) tt refl in let b = cs_is in let c = clkb_is in cc

  pub wlen_is : v (Control Wlen) ≡ signal s i Wlen
  wlen_is = let a = tight (Control Wlen) tt refl in let b = wlb_is in cc

  pub wrb_is : v (Control Wrb) ≡ signal s i Wrb
  wrb_is = let a = tight (Control Wrb) (omega arith) refl in let b = cs_is in let c = clkb_is in let d = we_is in cc

  pub wen_is : v (Control Wen) ≡ signal s i Wen
  wen_is = let a = tight (Control Wen) (omega arith) refl in let b = wrb_is in cc

  pub rdb_is : v (Control Rdb) ≡ signal s i Rdb
  rdb_is = let a = tight (Control Rdb) (omega arith) refl in let b = cs_is in let c = clkb_is in let d = weq_is in cc

  pub rd_is : v (Control Rd) ≡ signal s i Rd
  rd_is = let a = tight (Control Rd) (omega arith) refl in let b = rdb_is in cc

  pub seb_is : v (Control Seb) ≡ signal s i Seb
  seb_is = let a = tight (Control Seb) tt refl in let b = rd_is in let c = tight (Control Dly) tt refl in cc

  pub sen_is : v (Control Sen) ≡ signal s i Sen
  sen_is = let a = tight (Control Sen) tt refl in let b = seb_is in cc

  pub a_is : (j : ℕ) → j < bank_bit p + p.bank_bits → v (A j) ≡ address s i j
  a_is j h = let a = tight (A j) h refl in let b = clk0_is in let c = tight (Addr j) h refl in cc

  pub na_is : (j : ℕ) → j < bank_bit p + p.bank_bits → v (Na j) ≡ gate1 (address s i j)
  na_is j h = let a = tight (Na j) h refl in let b = a_is j h in cc

  pub d_is : (j : ℕ) → j < p.word_size → v (D j) ≡ datum s i j
  d_is j h = let a = tight (D j) h refl in let b = clk0_is in let c = tight (Din j) h refl in cc

  pub m_is : (j : ℕ) → j < p.masks → v (M j) ≡ mask s i j
  m_is j h = let a = tight (M j) h refl in let b = clk0_is in let c = tight (Wmask j) h refl in cc

  pub line_at : (o b k : ℕ) → HasLeafNet (writable p) (Line o b k) → v (Line o b k) ≡ line s i o b k
  line_at o b k h =
      let a = tight (Line o b k) h refl in
      let c = tight (LineB o b k) h refl in
      let e = picks_are v (address s i) (bank_bit p + p.bank_bits) o b k a_is na_is (choice_fits p o b h.0) in cc

  pub is_chosen : IsChosen p.col_bits v (choice p s i)
  is_chosen j fits some = line_at 0 p.col_bits j (inl ((refl, refl), some), fits) ∙ line_is (address s i) 0 p.col_bits j fits

  bank_at : (bank : ℕ) → bank < power_of_two p.bank_bits → 0 < p.bank_bits → v (Line (bank_bit p) p.bank_bits bank) ≡ line s i (bank_bit p) p.bank_bits bank
  bank_at bank fits some = line_at (bank_bit p) p.bank_bits bank (inr (inr ((refl, refl), some)), fits)

  len_b_is : (bank : ℕ) → bank < power_of_two p.bank_bits → 0 < p.bank_bits → v (WlenB bank) ≡ wlen_b p s i bank
  len_b_is bank fits some = let a = tight (WlenB bank) (fits, some) refl in let b = bank_at bank fits some in let c = wlen_is in cc

  len_is : (bank : ℕ) → bank < power_of_two p.bank_bits → 0 < p.bank_bits → v (WlenAt bank) ≡ gate1 (wlen_b p s i bank)
  len_is bank fits some = let a = tight (WlenAt bank) (fits, some) refl in let b = len_b_is bank fits some in cc

  ken_b_is : (bank : ℕ) → bank < power_of_two p.bank_bits → 0 < p.bank_bits → v (SenB bank) ≡ sen_b p s i bank
  ken_b_is bank fits some = let a = tight (SenB bank) (fits, some) refl in let b = bank_at bank fits some in let c = sen_is in cc

  ken_is : (bank : ℕ) → bank < power_of_two p.bank_bits → 0 < p.bank_bits → v (SenAt bank) ≡ gate1 (sen_b p s i bank)
  ken_is bank fits some = let a = tight (SenAt bank) (fits, some) refl in let b = ken_b_is bank fits some in cc

  gen_b_is : (bank j : ℕ) → bank < power_of_two p.bank_bits → j < enable_count p.masks → IsGated p → v (WenB bank j) ≡ not (wen_on p s i bank j)
  gen_b_is bank j fits j_fits gated =
      let a = tight (WenB bank j) ((fits, j_fits), gated) refl in
      let b = inputs_are p v s i p.bank_bits p.masks bank j (bank_at bank fits) (λ some. m_is j (both_fit p.masks j j_fits some)) in let c = wen_is in cc

  gen_is : (bank j : ℕ) → bank < power_of_two p.bank_bits → j < enable_count p.masks → IsGated p → v (WenAt bank j) ≡ gate1 (not (wen_on p s i bank j))
  gen_is bank j fits j_fits gated = let a = tight (WenAt bank j) ((fits, j_fits), gated) refl in let b = gen_b_is bank j fits j_fits gated in cc

  pub wlen_there : (bank : ℕ) → bank < power_of_two p.bank_bits → v (wlen_at p.bank_bits bank) ≡ wlen p s i bank
  wlen_there bank fits = (by_banks v p.bank_bits bank).0 ∙ enabled_same p.bank_bits _ _ _ _ wlen_is (len_is bank fits)

  pub sen_there : (bank : ℕ) → bank < power_of_two p.bank_bits → v (sen_at p.bank_bits bank) ≡ sen p s i bank
  sen_there bank fits = (by_banks v p.bank_bits bank).1 ∙ enabled_same p.bank_bits _ _ _ _ sen_is (ken_is bank fits)

  pub wen_there : (bank j : ℕ) → bank < power_of_two p.bank_bits → j < p.word_size → v (enable p bank j) ≡ wen p s i bank j
  wen_there bank j fits j_fits =
      by_masks v p.bank_bits p.masks bank (mask_of p.masks p.write_size j)
      ∙ enabled_same p.bank_bits _ _ _ _ (enabled_same p.masks _ _ _ _ wen_is (λ some. gen_is bank (mask_of p.masks p.write_size j) fits (masks j j_fits) (inr some))) (λ some. gen_is bank (mask_of p.masks p.write_size j) fits (masks j j_fits) (inl some))

  pub zb_is : (bank r : ℕ) → bank < power_of_two p.bank_bits → r < bank_rows p → v (Zb bank r) ≡ not (all_lines (address s i) p.groups p.col_bits r)
  zb_is bank r bank_fits h =
      let a = tight (Zb bank r) (bank_fits, h) refl in
      let e = lines_are v (address s i) p.groups p.col_bits r (λ o b k g k_fits. line_at o b k (inr (inl g), k_fits)) in cc

  pub wl_is : (bank r : ℕ) → bank < power_of_two p.bank_bits → r < bank_rows p → v (Wl bank r) ≡ word_line p s i bank r
  wl_is bank r bank_fits h = let a = tight (Wl bank r) (bank_fits, h) refl in let b = zb_is bank r bank_fits h in let c = wlen_there bank bank_fits in cc

  -- the place of a pull
  no_pull : (bank c : ℕ) (y : Net) → any_below (bank_rows p) (λ r. v (Wl bank r) && not (s.q (BitAt bank r c))) ≡ false → InLeft p.col_bits (choice p s i) bank c y → WeakEnds p s v y → ⊥
  no_pull bank c y none (inl g) (inl e) =
      let one : e.0 ≡ bank = let h = e.4 in cc in
      let same : e.1 ≡ c = let h = e.4 in cc in
      let pull : Pulled p s v bank c = subst (Pulled p s v bank) same (subst (λ (n : ℕ). Pulled p s v n e.1) one e.5) in
      let some = any_true (bank_rows p) pull.0 (λ r. v (Wl bank r) && not (s.q (BitAt bank r c))) pull.1 pull.2 in cc
  no_pull bank c y none (inl g) (inr e) = let h = e.4 in cc
  no_pull bank c y none (inr g) (inl e) = let h = e.4 in let f = g.2 in cc
  no_pull bank c y none (inr g) (inr e) = let h = e.4 in let f = g.2 in cc

  no_pull_right : (bank c : ℕ) (y : Net) → any_below (bank_rows p) (λ r. v (Wl bank r) && s.q (BitAt bank r c)) ≡ false → InRight p.col_bits (choice p s i) bank c y → WeakEnds p s v y → ⊥
  no_pull_right bank c y none (inl g) (inr e) =
      let one : e.0 ≡ bank = let h = e.4 in cc in
      let same : e.1 ≡ c = let h = e.4 in cc in
      let pull : PulledRight p s v bank c = subst (PulledRight p s v bank) same (subst (λ (n : ℕ). PulledRight p s v n e.1) one e.5) in
      let some = any_true (bank_rows p) pull.0 (λ r. v (Wl bank r) && s.q (BitAt bank r c)) pull.1 pull.2 in cc
  no_pull_right bank c y none (inl g) (inl e) = let h = e.4 in cc
  no_pull_right bank c y none (inr g) (inl e) = let h = e.4 in let f = g.2 in cc
  no_pull_right bank c y none (inr g) (inr e) = let h = e.4 in let f = g.2 in cc

  -- with one column in a slice, it is the chosen one
  zero_choice : (c : ℕ) → p.col_bits ≡ 0 → eqb (c % power_of_two p.col_bits) (choice p s i) ≡ true
  zero_choice c e =
      let one : power_of_two p.col_bits ≡ 1 = ap power_of_two e in
      let f = index_fits (address s i) 0 p.col_bits in
      let g : c % power_of_two p.col_bits ≡ 0 = ap (λ (n : ℕ). c % n) one ∙ omega arith in
      eq-eqb _ _ (omega arith)

  quiet_end : (bank c : ℕ) → v (Control Clkb) ≡ true → is_open p v (choice p s i) bank c ≡ false → (v (Control Clkb) ≡ false) ⊎ ((v (enable p bank c) ≡ true) × (p.col_bits ≡ 0)) → ⊥
  quiet_end bank c a b (inl e) = cc
  quiet_end bank c a b (inr e) =
      let f = zero_choice c e.1 in
      let h : v (enable p bank (c / power_of_two p.col_bits)) ≡ true = ap (λ (n : ℕ). v (enable p bank n)) (slice_none p.col_bits c e.1) ∙ e.0 in
      let k : (true && true) ≡ false = (λ j. sym h j && sym f j) ∙ b in cc

  quiet_left : (bank c : ℕ) (y : Net) → v (Control Clkb) ≡ true → is_open p v (choice p s i) bank c ≡ false → InLeft p.col_bits (choice p s i) bank c y → StrongEnds p v y → ⊥
  quiet_left bank c y a b (inl g) ends = quiet_end bank c a b (subst (StrongEnds p v) (sym g) ends)
  quiet_left bank c y a b (inr g) ends =
      let h : v (enable p bank (c / power_of_two p.col_bits)) ≡ true = subst (StrongEnds p v) (sym g.2) ends in
      let f = eq-eqb _ _ g.1 in let k : (true && true) ≡ false = (λ j. sym h j && sym f j) ∙ b in cc

  quiet_right : (bank c : ℕ) (y : Net) → v (Control Clkb) ≡ true → is_open p v (choice p s i) bank c ≡ false → InRight p.col_bits (choice p s i) bank c y → StrongEnds p v y → ⊥
  quiet_right bank c y a b (inl g) ends = quiet_end bank c a b (subst (StrongEnds p v) (sym g) ends)
  quiet_right bank c y a b (inr g) ends =
      let h : v (enable p bank (c / power_of_two p.col_bits)) ≡ true = subst (StrongEnds p v) (sym g.2) ends in
      let f = eq-eqb _ _ g.1 in let k : (true && true) ≡ false = (λ j. sym h j && sym f j) ∙ b in cc

  in_left : (bank c : ℕ) (x y : Net) → InGroup (direct p) s v x y → InLeft p.col_bits (choice p s i) bank c x → InLeft p.col_bits (choice p s i) bank c y
  in_left bank c x y g h = carried p s v (choice p s i) (InLeft p.col_bits (choice p s i) bank c) is_chosen (left_step p (choice p s i) bank c) x y g h

  in_right : (bank c : ℕ) (x y : Net) → InGroup (direct p) s v x y → InRight p.col_bits (choice p s i) bank c x → InRight p.col_bits (choice p s i) bank c y
  in_right bank c x y g h = carried p s v (choice p s i) (InRight p.col_bits (choice p s i) bank c) is_chosen (right_step p (choice p s i) bank c) x y g h

  and_true : (x y : Bool) → (x && y) ≡ true → (x ≡ true) × (y ≡ true)
  and_true true y e = (refl, e)
  and_true false y e = absurd cc

  -- the value of a group of bit lines
  pub bl_is : (x : Net) (bank c : ℕ) → bank < power_of_two p.bank_bits → c < p.word_size * power_of_two p.col_bits → HasLeafNet (writable p) x → InGroup (direct p) s v x (Bl bank c) → InLeft p.col_bits (choice p s i) bank c x → (k e t : Bool)
      → v (Control Clkb) ≡ k → is_open p v (choice p s i) bank c ≡ e → any_below (bank_rows p) (λ r. v (Wl bank r) && not (s.q (BitAt bank r c))) ≡ t
      → v x ≡ bit_line k e (v (D (c / power_of_two p.col_bits))) t (s.charge (Bl bank c))
  bl_is x bank c bank_fits fits net g back false e t a b h = ph.strong x (Bl bank c) true g (precharges p s i v bank c bank_fits fits a).0
  bl_is x bank c bank_fits fits net g back true true t a b h =
      let on = and_true _ _ b in
      ph.strong x (lo_net p.col_bits bank (c / power_of_two p.col_bits)) (v (D (c / power_of_two p.col_bits))) (follow p s v x (Bl bank c) _ g (to_lo p s v (choice p s i) bank c is_chosen bank_fits fits (eqb-true _ _ on.1)).0)
      (driven_ports p s i v bank (c / power_of_two p.col_bits) bank_fits (div_below c (power_of_two p.col_bits) p.word_size (twice_some p.col_bits) fits) on.0).0
  bl_is x bank c bank_fits fits net g back true false true a b h = ph.weak x (Bl bank c) false g (λ y t u k. quiet_left bank c y a b (in_left bank c x y u back) (strong_from p s i v y t k))
      (pulls_left p s i v bank c bank_fits fits (any_row (bank_rows p) (λ r. v (Wl bank r) && not (s.q (BitAt bank r c))) h))
  bl_is x bank c bank_fits fits net g back true false false a b h = ph.charge x (Bl bank c) net g (λ y t u k. quiet_left bank c y a b (in_left bank c x y u back) (strong_from p s i v y t k))
      (λ y t u k. no_pull bank c y h (in_left bank c x y u back) (weak_from p s i v y t k).1)

  pub br_is : (x : Net) (bank c : ℕ) → bank < power_of_two p.bank_bits → c < p.word_size * power_of_two p.col_bits → HasLeafNet (writable p) x → InGroup (direct p) s v x (Br bank c) → InRight p.col_bits (choice p s i) bank c x → (k e t : Bool)
      → v (Control Clkb) ≡ k → is_open p v (choice p s i) bank c ≡ e → any_below (bank_rows p) (λ r. v (Wl bank r) && s.q (BitAt bank r c)) ≡ t
      → v x ≡ bit_line k e (not (v (D (c / power_of_two p.col_bits)))) t (s.charge (Br bank c))
  br_is x bank c bank_fits fits net g back false e t a b h = ph.strong x (Br bank c) true g (precharges p s i v bank c bank_fits fits a).1
  br_is x bank c bank_fits fits net g back true true t a b h =
      let on = and_true _ _ b in
      ph.strong x (ro_net p.col_bits bank (c / power_of_two p.col_bits)) (not (v (D (c / power_of_two p.col_bits)))) (follow p s v x (Br bank c) _ g (to_ro p s v (choice p s i) bank c is_chosen bank_fits fits (eqb-true _ _ on.1)).0)
      (driven_ports p s i v bank (c / power_of_two p.col_bits) bank_fits (div_below c (power_of_two p.col_bits) p.word_size (twice_some p.col_bits) fits) on.0).1
  br_is x bank c bank_fits fits net g back true false true a b h = ph.weak x (Br bank c) false g (λ y t u k. quiet_right bank c y a b (in_right bank c x y u back) (strong_from p s i v y t k))
      (pulls_right p s i v bank c bank_fits fits (any_row (bank_rows p) (λ r. v (Wl bank r) && s.q (BitAt bank r c)) h))
  br_is x bank c bank_fits fits net g back true false false a b h = ph.charge x (Br bank c) net g (λ y t u k. quiet_right bank c y a b (in_right bank c x y u back) (strong_from p s i v y t k))
      (λ y t u k. no_pull_right bank c y h (in_right bank c x y u back) (weak_from p s i v y t k).1)

  open_is : (bank c : ℕ) → bank < power_of_two p.bank_bits → c < p.word_size * power_of_two p.col_bits → is_open p v (choice p s i) bank c ≡ opened p s i bank c
  open_is bank c bank_fits fits = ap (λ (t : Bool). t && eqb (c % power_of_two p.col_bits) (choice p s i)) (wen_there bank (c / power_of_two p.col_bits) bank_fits (div_below c (power_of_two p.col_bits) p.word_size (twice_some p.col_bits) fits))

  group_left : (x : Net) (bank c : ℕ) → bank < power_of_two p.bank_bits → c < p.word_size * power_of_two p.col_bits → HasLeafNet (writable p) x → InGroup (direct p) s v x (Bl bank c) → InLeft p.col_bits (choice p s i) bank c x → v x ≡ left p s i bank c
  group_left x bank c bank_fits fits net g back =
      bl_is x bank c bank_fits fits net g back (signal s i Clkb) (opened p s i bank c) (any_below (bank_rows p) (λ r. word_line p s i bank r && not (s.q (BitAt bank r c)))) clkb_is (open_is bank c bank_fits fits)
      (any_same (bank_rows p) (λ r. v (Wl bank r) && not (s.q (BitAt bank r c))) (λ r. word_line p s i bank r && not (s.q (BitAt bank r c))) (λ r h. ap (λ (t : Bool). t && not (s.q (BitAt bank r c))) (wl_is bank r bank_fits h)))
      ∙ ap (λ (t : Bool). bit_line (signal s i Clkb) (opened p s i bank c) t (any_below (bank_rows p) (λ r. word_line p s i bank r && not (s.q (BitAt bank r c)))) (s.charge (Bl bank c)))
      (d_is (c / power_of_two p.col_bits) (div_below c (power_of_two p.col_bits) p.word_size (twice_some p.col_bits) fits))

  group_right : (x : Net) (bank c : ℕ) → bank < power_of_two p.bank_bits → c < p.word_size * power_of_two p.col_bits → HasLeafNet (writable p) x → InGroup (direct p) s v x (Br bank c) → InRight p.col_bits (choice p s i) bank c x → v x ≡ right p s i bank c
  group_right x bank c bank_fits fits net g back =
      br_is x bank c bank_fits fits net g back (signal s i Clkb) (opened p s i bank c) (any_below (bank_rows p) (λ r. word_line p s i bank r && s.q (BitAt bank r c))) clkb_is (open_is bank c bank_fits fits)
      (any_same (bank_rows p) (λ r. v (Wl bank r) && s.q (BitAt bank r c)) (λ r. word_line p s i bank r && s.q (BitAt bank r c)) (λ r h. ap (λ (t : Bool). t && s.q (BitAt bank r c)) (wl_is bank r bank_fits h)))
      ∙ ap (λ (t : Bool). bit_line (signal s i Clkb) (opened p s i bank c) (not t) (any_below (bank_rows p) (λ r. word_line p s i bank r && s.q (BitAt bank r c))) (s.charge (Br bank c)))
      (d_is (c / power_of_two p.col_bits) (div_below c (power_of_two p.col_bits) p.word_size (twice_some p.col_bits) fits))

  pub left_is : (bank c : ℕ) → bank < power_of_two p.bank_bits → c < p.word_size * power_of_two p.col_bits → v (Bl bank c) ≡ left p s i bank c
  left_is bank c bank_fits fits = group_left (Bl bank c) bank c bank_fits fits (bank_fits, fits) (self p s v (Bl bank c)) (inl refl)

  pub right_is : (bank c : ℕ) → bank < power_of_two p.bank_bits → c < p.word_size * power_of_two p.col_bits → v (Br bank c) ≡ right p s i bank c
  right_is bank c bank_fits fits = group_right (Br bank c) bank c bank_fits fits (bank_fits, fits) (self p s v (Br bank c)) (inl refl)

  pub lo_is : (bank j : ℕ) → bank < power_of_two p.bank_bits → j < p.word_size → 0 < p.col_bits → v (Lo bank j) ≡ left p s i bank (column p s i j)
  lo_is bank j bank_fits fits some =
      let k_fits = index_fits (address s i) 0 p.col_bits in let choose = column_choice p s i j in
      group_left (Lo bank j) bank (column p s i j) bank_fits (column_fits p.col_bits p.word_size j _ fits k_fits) (bank_fits, (fits, some)) (lo_column p s v (choice p s i) bank j is_chosen k_fits bank_fits fits some)
      (inr (some, choose.0, λ t. Lo bank (choose.1 t)))

  pub ro_is : (bank j : ℕ) → bank < power_of_two p.bank_bits → j < p.word_size → 0 < p.col_bits → v (Ro bank j) ≡ right p s i bank (column p s i j)
  ro_is bank j bank_fits fits some =
      let k_fits = index_fits (address s i) 0 p.col_bits in let choose = column_choice p s i j in
      group_right (Ro bank j) bank (column p s i j) bank_fits (column_fits p.col_bits p.word_size j _ fits k_fits) (bank_fits, (fits, some)) (ro_column p s v (choice p s i) bank j is_chosen k_fits bank_fits fits some)
      (inr (some, choose.0, λ t. Ro bank (choose.1 t)))

  lo_by : (bank j : ℕ) → bank < power_of_two p.bank_bits → j < p.word_size → (p.col_bits ≡ 0) ⊎ (0 < p.col_bits) → v (lo_net p.col_bits bank j) ≡ left p s i bank (column p s i j)
  lo_by bank j bank_fits fits (inl e) = let f = one_column_is (address s i) p.col_bits j e in ap v (lo_none p.col_bits bank j e) ∙ ap (λ (n : ℕ). v (Bl bank n)) (sym f) ∙ left_is bank (column p s i j) bank_fits (column_fits p.col_bits p.word_size j _ fits (index_fits (address s i) 0 p.col_bits))
  lo_by bank j bank_fits fits (inr some) = ap v (lo_some p.col_bits bank j some) ∙ lo_is bank j bank_fits fits some

  ro_by : (bank j : ℕ) → bank < power_of_two p.bank_bits → j < p.word_size → (p.col_bits ≡ 0) ⊎ (0 < p.col_bits) → v (ro_net p.col_bits bank j) ≡ right p s i bank (column p s i j)
  ro_by bank j bank_fits fits (inl e) = let f = one_column_is (address s i) p.col_bits j e in ap v (ro_none p.col_bits bank j e) ∙ ap (λ (n : ℕ). v (Br bank n)) (sym f) ∙ right_is bank (column p s i j) bank_fits (column_fits p.col_bits p.word_size j _ fits (index_fits (address s i) 0 p.col_bits))
  ro_by bank j bank_fits fits (inr some) = ap v (ro_some p.col_bits bank j some) ∙ ro_is bank j bank_fits fits some

  dout_alone : (c : ℕ) (y : Net) → InGroup (direct p) s v (Dout c) y → Dout c ≡ y
  dout_alone c y g = carried p s v (choice p s i) (λ z. Dout c ≡ z) is_chosen (λ x z h q. alone_step p (choice p s i) x z (Dout c) refl h q) (Dout c) y g refl

  -- the sense cell of the addressed bank alone may drive
  dout_shut : (c : ℕ) (y : Net) → (v (sen_at p.bank_bits (here p s i)) && differ (v (lo_net p.col_bits (here p s i) c)) (v (ro_net p.col_bits (here p s i) c))) ≡ false → Dout c ≡ y → StrongEnds p v y → ⊥
  dout_shut c y e f ends =
      let g : StrongEnds p v (Dout c) = subst (StrongEnds p v) (sym f) ends in
      let same : g.0 ≡ here p s i = sen_here p s i g.0 g.1 (sym (sen_there g.0 g.1) ∙ (and_true _ _ g.2).0) in
      let h : true ≡ false = sym g.2 ∙ ap (λ (n : ℕ). v (sen_at p.bank_bits n) && differ (v (lo_net p.col_bits n c)) (v (ro_net p.col_bits n c))) same ∙ e in cc

  dout_free : (c : ℕ) (y : Net) → Dout c ≡ y → WeakEnds p s v y → ⊥
  dout_free c y f (inl e) = let h = e.4 in cc
  dout_free c y f (inr e) = let h = e.4 in cc

  dout_by : (c : ℕ) → c < p.word_size → (t : Bool) → (v (sen_at p.bank_bits (here p s i)) && differ (v (lo_net p.col_bits (here p s i) c)) (v (ro_net p.col_bits (here p s i) c))) ≡ t → v (Dout c) ≡ cond t (v (lo_net p.col_bits (here p s i) c)) (s.charge (Dout c))
  dout_by c fits true e = strong_at (Dout c) (v (lo_net p.col_bits (here p s i) c)) (senses p s i v (here p s i) c (index_fits (address s i) (bank_bit p) p.bank_bits) fits e)
  dout_by c fits false e = ph.charge (Dout c) (Dout c) fits (self p s v (Dout c)) (λ y t g h. dout_shut c y e (dout_alone c y g) (strong_from p s i v y t h)) (λ y t g h. dout_free c y (dout_alone c y g) (weak_from p s i v y t h).1)

  pub dout_is : (c : ℕ) → c < p.word_size → v (Dout c) ≡ value p s i (Dout c)
  dout_is c fits =
      let h = index_fits (address s i) (bank_bit p) p.bank_bits in
      let x = sen_there (here p s i) h in
      let y = lo_by (here p s i) c h fits (some_choice p.col_bits) in
      let z = ro_by (here p s i) c h fits (some_choice p.col_bits) in
      dout_by c fits _ refl ∙ (λ j. cond (x j && differ (y j) (z j)) (y j) (s.charge (Dout c)))

  pub is_value : (x : Net) → HasLeafNet (writable p) x → v x ≡ value p s i x
  is_value Vdd h = tight Vdd h refl
  is_value Gnd h = tight Gnd h refl
  is_value (Control Clk0) h = clk0_is
  is_value (Control Csb0) h = tight (Control Csb0) h refl
  is_value (Control Web0) h = tight (Control Web0) h refl
  is_value (Control Clkb) h = clkb_is
  is_value (Control Csq) h = csq_is
  is_value (Control Weq) h = weq_is
  is_value (Control Cs) h = cs_is
  is_value (Control We) h = we_is
  is_value (Control Wlb) h = wlb_is
  is_value (Control Wlen) h = wlen_is
  is_value (Control Wrb) h = wrb_is
  is_value (Control Wen) h = wen_is
  is_value (Control Rdb) h = rdb_is
  is_value (Control Rd) h = rd_is
  is_value (Control Dly) h = tight (Control Dly) h refl
  is_value (Control Seb) h = seb_is
  is_value (Control Sen) h = sen_is
  is_value (Addr j) h = tight (Addr j) h refl
  is_value (Din j) h = tight (Din j) h refl
  is_value (Wmask j) h = tight (Wmask j) h refl
  is_value (Dout j) h = dout_is j h
  is_value (A j) h = a_is j h
  is_value (Na j) h = na_is j h
  is_value (D j) h = d_is j h
  is_value (M j) h = m_is j h
  is_value (LineB o b k) h =
      let c = tight (LineB o b k) h refl in
      let e = picks_are v (address s i) (bank_bit p + p.bank_bits) o b k a_is na_is (choice_fits p o b h.0) in cc
  is_value (Line o b k) h = line_at o b k h
  is_value (WlenB bank) h = len_b_is bank h.0 h.1
  is_value (WlenAt bank) h = len_is bank h.0 h.1
  is_value (SenB bank) h = ken_b_is bank h.0 h.1
  is_value (SenAt bank) h = ken_is bank h.0 h.1
  is_value (WenB bank j) h = gen_b_is bank j h.0.0 h.0.1 h.1
  is_value (WenAt bank j) h = gen_is bank j h.0.0 h.0.1 h.1
  is_value (Zb bank r) h = zb_is bank r h.0 h.1
  is_value (Wl bank r) h = wl_is bank r h.0 h.1
  is_value (Bl bank c) h = left_is bank c h.0 h.1
  is_value (Br bank c) h = right_is bank c h.0 h.1
  is_value (Lo bank c) h = lo_is bank c h.0 h.1.0 h.1.1
  is_value (Ro bank c) h = ro_is bank c h.0 h.1.0 h.1.1

  -- the state after the phase
  pub csd_next : (next.q (LogicAt Csd) ≡ flop s i Csd i.csb) × (next.p (LogicAt Csd) ≡ i.clk)
  csd_next = let a = ph.stored (LogicAt Csd) tt in let b = clk0_is in let c = tight (Control Csb0) tt refl in (cc, cc)

  pub wed_next : (next.q (LogicAt Wed) ≡ flop s i Wed i.web) × (next.p (LogicAt Wed) ≡ i.clk)
  wed_next = let a = ph.stored (LogicAt Wed) (omega arith) in let b = clk0_is in let c = tight (Control Web0) (omega arith) refl in (cc, cc)

  pub ad_next : (j : ℕ) → j < bank_bit p + p.bank_bits → (next.q (LogicAt (Ad j)) ≡ address s i j) × (next.p (LogicAt (Ad j)) ≡ i.clk)
  ad_next j h = let a = ph.stored (LogicAt (Ad j)) h in let b = clk0_is in let c = tight (Addr j) h refl in (cc, cc)

  pub dd_next : (j : ℕ) → j < p.word_size → (next.q (LogicAt (Dd j)) ≡ datum s i j) × (next.p (LogicAt (Dd j)) ≡ i.clk)
  dd_next j h = let a = ph.stored (LogicAt (Dd j)) h in let b = clk0_is in let c = tight (Din j) h refl in (cc, cc)

  pub dm_next : (j : ℕ) → j < p.masks → (next.q (LogicAt (Dm j)) ≡ mask s i j) × (next.p (LogicAt (Dm j)) ≡ i.clk)
  dm_next j h = let a = ph.stored (LogicAt (Dm j)) h in let b = clk0_is in let c = tight (Wmask j) h refl in (cc, cc)

  pub dly_next : next.q (LogicAt Dlay) ≡ gate1 i.clk
  dly_next = let a = ph.stored (LogicAt Dlay) tt in let b = clkb_is in cc

  pub bit_next : (bank r c : ℕ) → bank < power_of_two p.bank_bits → r < bank_rows p → c < p.word_size * power_of_two p.col_bits → next.q (BitAt bank r c) ≡ cell_bit (word_line p s i bank r) (left p s i bank c) (right p s i bank c) (s.q (BitAt bank r c))
  bit_next bank r c bank_fits r_fits fits =
      let a = ph.stored (BitAt bank r c) (bank_fits, (r_fits, fits)) in
      let x = wl_is bank r bank_fits r_fits in let y = left_is bank c bank_fits fits in let z = right_is bank c bank_fits fits in
      let e : next.q (BitAt bank r c) ≡ cell_bit (v (Wl bank r)) (v (Bl bank c)) (v (Br bank c)) (s.q (BitAt bank r c)) = cc in
      e ∙ (λ j. cell_bit (x j) (y j) (z j) (s.q (BitAt bank r c)))

  pub left_next : (bank c : ℕ) → bank < power_of_two p.bank_bits → c < p.word_size * power_of_two p.col_bits → next.charge (Bl bank c) ≡ left p s i bank c
  left_next bank c bank_fits fits = ph.charges (Bl bank c) (bank_fits, fits) ∙ left_is bank c bank_fits fits

  pub right_next : (bank c : ℕ) → bank < power_of_two p.bank_bits → c < p.word_size * power_of_two p.col_bits → next.charge (Br bank c) ≡ right p s i bank c
  right_next bank c bank_fits fits = ph.charges (Br bank c) (bank_fits, fits) ∙ right_is bank c bank_fits fits
