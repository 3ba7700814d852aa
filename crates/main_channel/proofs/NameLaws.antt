-- The names of the channel's nets tell them apart, though each is local to the logic row or to the macro.
use Rattle.std.proofs.Common.{◌≡◌, ◌⊎◌, inl, inr, ℕ, zero, suc, ◌+◌, ◌<◌, Bool, true, false, ◌&&◌, cond, nat_eq, List, [], ◌∷◌, ◌++◌, Option, is_some, refl, sym, ap, subst, ◌∙◌, arith, ◌^◌}
use Rattle.std.specs.Prelude.{codes}
use Rattle.spice_netlist.specs.Names.{index_of}
use Rattle.row_laws.proofs.LookLaws.{IsOneOf, AreOther}
use Rattle.sram_netlist.specs.Organization.{Organization, IsWritten, power_of_two, banks_of, IsBuildable, addr_bits}
use Rattle.sram_netlist.specs.Nets.{Net, Clk0, Csb0, Web0, Clkb, Csq, Weq, Cs, We, Wlb, Wlen, Wrb, Wen, Rdb, Rd, Dly, Seb, Sen, Vdd, Gnd, Control, Addr, Din, Dout, Wmask, A, Na, D, M, LineB, Line, WlenB, WlenAt, SenB, SenAt, WenB, WenAt, Zb, Wl, Bl, Br, Lo, Ro}
use Rattle.sram_netlist.specs.Membership.{IsNameable, IsChoice}
use Rattle.sram_netlist.specs.Netlist.{wlen_at, sen_at, enable_at, enable_count, enables_of}
use Rattle.sram_netlist.specs.Names.{LineKind, Column, Group, Bank, line_kind, line_name, lineb_name, in_kind, in_logic, in_one, in_two, with_number, with_numbers, net_name, full_name}
use Rattle.sram_netlist.proofs.Bounds.{bounds, written_all, twice_above, line_few}
use Rattle.sram_netlist.proofs.ChoiceLaws.{above_from, behind, column, past_groups, group_is}
use Rattle.sram_netlist.proofs.TextLaws.{texts_tell}
use Rattle.sram_deck.specs.Deck.{predecode_lines, logic_ports}
use Rattle.sram_rows.proofs.FindLaws.{find_none, find_some}
use Rattle.sram_rows.proofs.PlainNetNames.{few_banks, IsSmallKind, kind_small}
use Rattle.sram_rows.proofs.PlainNames.{few_enables}
use Rattle.sram_rows.proofs.LogicCells.{IsInLogic}
use Rattle.sram_rows.proofs.LogicPorts.{port_web, port_wmask, port_addr, port_din, port_clkb, port_wlen, port_sen, port_enable, port_sel, port_line, port_d, port_supply, wlen_other, sen_other, wen_other, word_other, number_other, numbers_other}
use Rattle.main_channel.proofs.LineLaws.{group_line_there}

-- what a name of the logic row is from the macro: a port's is the same
abbrev seen_from : List (List ℕ) → List ℕ → List ℕ
seen_from ports n = cond (is_some (index_of ports n)) n (in_logic ++ n)

abbrev seen_by : Bool → List ℕ → List ℕ
seen_by found n = cond found n (in_logic ++ n)

passed : (ports : List (List ℕ)) (n : List ℕ) → IsOneOf n ports → seen_from ports n ≡ n
passed ports n there = ap (λ (b : Bool). seen_by b n) (find_some n 0 ports there)

own : (ports : List (List ℕ)) (n : List ℕ) → AreOther n ports → seen_from ports n ≡ in_logic ++ n
own ports n other = ap (λ (o : Option ℕ). seen_by (is_some o) n) (find_none n 0 ports other)

-- a net of the logic row, or an output of the macro
abbrev pub IsChannelNet : Organization → Net → Type 0
IsChannelNet plan x = (IsNameable plan x × IsInLogic plan x) ⊎ ((i : ℕ) × (i < plan.word_size) × (x ≡ Dout i))

module _ (plan : Organization) (p : IsBuildable plan) where
  some_banks : 0 < banks_of plan
  some_banks = let t = twice_above plan.bank_bits in omega (arith, t)

  abbrev seen : List ℕ → List ℕ
  seen n = seen_from (logic_ports plan) n

  port : (n : List ℕ) → IsOneOf n (logic_ports plan) → seen n ≡ n
  port n there = passed (logic_ports plan) n there

  inner : (n : List ℕ) → AreOther n (logic_ports plan) → seen n ≡ in_logic ++ n
  inner n other = own (logic_ports plan) n other

  wlen_seen : (n : ℕ) → plan.bank_bits ≡ n → seen (codes "wlen") ≡ in_one n ++ codes "wlen"
  wlen_seen zero e = port (codes "wlen") (subst (λ (m : ℕ). IsOneOf (net_name plan (wlen_at m 0)) (logic_ports plan)) e (port_wlen plan 0 some_banks))
  wlen_seen (suc n) e = inner (codes "wlen") (wlen_other plan p (omega (arith, e)))

  sen_seen : (n : ℕ) → plan.bank_bits ≡ n → seen (codes "sen") ≡ in_one n ++ codes "sen"
  sen_seen zero e = port (codes "sen") (subst (λ (m : ℕ). IsOneOf (net_name plan (sen_at m 0)) (logic_ports plan)) e (port_sen plan 0 some_banks))
  sen_seen (suc n) e = inner (codes "sen") (sen_other plan p (omega (arith, e)))

  some_enables : IsWritten plan → 0 < enables_of plan
  some_enables some = let all = written_all plan.write_size (enable_count plan.masks) some in let one = some_enable plan.masks in omega (arith, all, one)
    where
      some_enable : (k : ℕ) → 0 < enable_count k
      some_enable zero = omega arith
      some_enable (suc k) = omega arith

  wen_seen : (n k : ℕ) → plan.bank_bits ≡ n → plan.masks ≡ k → IsWritten plan → seen (codes "wen") ≡ in_two n k ++ codes "wen"
  wen_seen zero zero e f some =
      port (codes "wen") (subst (λ (m : ℕ). IsOneOf (net_name plan (enable_at m zero 0 0)) (logic_ports plan)) e
      (subst (λ (m : ℕ). IsOneOf (net_name plan (enable_at plan.bank_bits m 0 0)) (logic_ports plan)) f (port_enable plan 0 0 some_banks (some_enables some))))
  wen_seen zero (suc k) e f some = inner (codes "wen") (wen_other plan p (inr (omega (arith, f))))
  wen_seen (suc n) k e f some = inner (codes "wen") (wen_other plan p (inl (omega (arith, e))))

  wlen_at_seen : (n b : ℕ) → plan.bank_bits ≡ n → 0 < n → b < banks_of plan → seen (with_number (codes "wlen") b) ≡ with_number (codes "wlen") b
  wlen_at_seen zero b e some lt = absurd (omega arith)
  wlen_at_seen (suc n) b e some lt = port (with_number (codes "wlen") b) (subst (λ (m : ℕ). IsOneOf (net_name plan (wlen_at m b)) (logic_ports plan)) e (port_wlen plan b lt))

  sen_at_seen : (n b : ℕ) → plan.bank_bits ≡ n → 0 < n → b < banks_of plan → seen (with_number (codes "sen") b) ≡ with_number (codes "sen") b
  sen_at_seen zero b e some lt = absurd (omega arith)
  sen_at_seen (suc n) b e some lt = port (with_number (codes "sen") b) (subst (λ (m : ℕ). IsOneOf (net_name plan (sen_at m b)) (logic_ports plan)) e (port_sen plan b lt))

  wen_at_seen : (n k b m : ℕ) → plan.bank_bits ≡ n → plan.masks ≡ k → (0 < n) ⊎ (0 < k) → b < banks_of plan → m < enables_of plan → seen (with_numbers (codes "we") b m) ≡ with_numbers (codes "we") b m
  wen_at_seen zero zero b m e f (inl some) lt few = absurd (omega arith)
  wen_at_seen zero zero b m e f (inr some) lt few = absurd (omega arith)
  wen_at_seen zero (suc k) b m e f some lt few = port (with_numbers (codes "we") b m) (subst (λ (x : ℕ × ℕ). IsOneOf (net_name plan (enable_at x.0 x.1 b m)) (logic_ports plan)) (λ i. (e i, f i)) (port_enable plan b m lt few))
  wen_at_seen (suc n) k b m e f some lt few = port (with_numbers (codes "we") b m) (subst (λ (x : ℕ × ℕ). IsOneOf (net_name plan (enable_at x.0 x.1 b m)) (logic_ports plan)) (λ i. (e i, f i)) (port_enable plan b m lt few))

  line_seen : (o b k : ℕ) → IsChoice plan o b → k < power_of_two b → seen (line_name (line_kind plan o) k) ≡ in_kind (line_kind plan o) ++ line_name (line_kind plan o) k
  line_seen o b k (inl c) lt =
      let some = c.1 in
      let bits = c.0.1 in
      let choice : 0 < plan.col_bits = omega (arith, some, bits) in
      let is : line_kind plan o ≡ Column = column plan.col_bits o plan.groups c.0.0 choice in
      subst (λ (κ : LineKind). seen (line_name κ k) ≡ in_kind κ ++ line_name κ k) (sym is) (port (with_number (codes "sel") k) (port_sel plan k choice (subst (λ (n : ℕ). k < power_of_two n) c.0.1 lt)))
  line_seen o b k (inr (inl c)) lt =
      let above = above_from plan.groups plan.col_bits o b c in
      let r = group_is plan.groups plan.col_bits 0 o b p.sizes c in
      let is : line_kind plan o ≡ Group (0 + r.index) = behind plan.col_bits o plan.groups above ∙ r.line_kind in
      let there = subst (λ (κ : LineKind). IsOneOf (line_name κ k) (predecode_lines plan)) r.line_kind (group_line_there plan.groups plan.col_bits 0 o b k p.sizes c lt) in
      subst (λ (κ : LineKind). seen (line_name κ k) ≡ in_kind κ ++ line_name κ k) (sym is) (port (with_numbers (codes "p") (0 + r.index) k) (port_line plan (with_numbers (codes "p") (0 + r.index) k) there))
  line_seen o b k (inr (inr c)) lt =
      let low = c.0.0 in
      let is : line_kind plan o ≡ Bank = behind plan.col_bits o plan.groups (omega (arith, low)) ∙ past_groups plan.groups plan.col_bits 0 o p.sizes (omega (arith, low)) in
      subst (λ (κ : LineKind). seen (line_name κ k) ≡ in_kind κ ++ line_name κ k) (sym is) (inner (with_number (codes "e") k) (number_other plan p (codes "e") k (line_few plan o b k p (inr (inr c)) lt) refl))

  lineb_seen : (κ : LineKind) (k : ℕ) → IsSmallKind κ → k < 2 ^ 64 → seen (lineb_name κ k) ≡ in_logic ++ lineb_name κ k
  lineb_seen Column k small few = inner (with_number (codes "sb") k) (number_other plan p (codes "sb") k few refl)
  lineb_seen (Group g) k small few = inner (with_numbers (codes "pb") g k) (numbers_other plan p (codes "pb") g k (omega arith) few refl)
  lineb_seen Bank k small few = inner (with_number (codes "eb") k) (number_other plan p (codes "eb") k few refl)

  few_address : (k : ℕ) → k < addr_bits plan → k < 2 ^ 64
  few_address k lt = let e = (bounds plan p).address in omega (arith, e, lt)

  few_masks : (k : ℕ) → k < plan.masks → k < 2 ^ 64
  few_masks k lt = let e = (bounds plan p).masks in omega (arith, e, lt)

  net_seen : (x : Net) → IsNameable plan x → IsInLogic plan x → seen (net_name plan x) ≡ full_name plan x
  net_seen (Control Clk0) h i = port (codes "clk0") (inl refl)
  net_seen (Control Csb0) h i = port (codes "csb0") (inr (inl refl))
  net_seen (Control Web0) h i = port (codes "web0") (port_web plan i)
  net_seen (Control Clkb) h i = port (codes "clkb") (port_clkb plan)
  net_seen (Control Csq) h i = inner (codes "csq") (word_other plan p (codes "csq") refl)
  net_seen (Control Weq) h i = inner (codes "weq") (word_other plan p (codes "weq") refl)
  net_seen (Control Cs) h i = inner (codes "cs") (word_other plan p (codes "cs") refl)
  net_seen (Control We) h i = inner (codes "we") (word_other plan p (codes "we") refl)
  net_seen (Control Wlb) h i = inner (codes "wlb") (word_other plan p (codes "wlb") refl)
  net_seen (Control Wrb) h i = inner (codes "wrb") (word_other plan p (codes "wrb") refl)
  net_seen (Control Rdb) h i = inner (codes "rdb") (word_other plan p (codes "rdb") refl)
  net_seen (Control Rd) h i = inner (codes "rd") (word_other plan p (codes "rd") refl)
  net_seen (Control Dly) h i = inner (codes "dly") (word_other plan p (codes "dly") refl)
  net_seen (Control Seb) h i = inner (codes "seb") (word_other plan p (codes "seb") refl)
  net_seen (Control Wlen) h i = wlen_seen plan.bank_bits refl
  net_seen (Control Sen) h i = sen_seen plan.bank_bits refl
  net_seen (Control Wen) h i = wen_seen plan.bank_bits plan.masks refl refl i
  net_seen (Addr k) h i = port (net_name plan (Addr k)) (port_addr plan k h)
  net_seen (Din k) h i = port (net_name plan (Din k)) (port_din plan k i)
  net_seen (Wmask k) h i = port (net_name plan (Wmask k)) (port_wmask plan k h)
  net_seen (D k) h i = port (net_name plan (D k)) (port_d plan k i)
  net_seen (A k) h i = inner (with_number (codes "a") k) (number_other plan p (codes "a") k (few_address k h) refl)
  net_seen (Na k) h i = inner (with_number (codes "n") k) (number_other plan p (codes "n") k (few_address k h) refl)
  net_seen (M k) h i = inner (with_number (codes "m") k) (number_other plan p (codes "m") k (few_masks k h) refl)
  net_seen (Line o b k) h i = line_seen o b k h.0 h.1
  net_seen (LineB o b k) h i = lineb_seen (line_kind plan o) k (kind_small plan o b p h.0) (line_few plan o b k p h.0 h.1)
  net_seen (WlenB b) h i = inner (with_number (codes "lb") b) (number_other plan p (codes "lb") b (few_banks plan p b h) refl)
  net_seen (SenB b) h i = inner (with_number (codes "kb") b) (number_other plan p (codes "kb") b (few_banks plan p b h) refl)
  net_seen (WenB b m) h i = inner (with_numbers (codes "wx") b m) (numbers_other plan p (codes "wx") b m (few_banks plan p b h.0) (few_enables plan p m h.1) refl)
  net_seen (WlenAt b) h i = wlen_at_seen plan.bank_bits b refl i h
  net_seen (SenAt b) h i = sen_at_seen plan.bank_bits b refl i h
  net_seen (WenAt b m) h i = wen_at_seen plan.bank_bits plan.masks b m refl refl i.0 h.0 i.1
  net_seen Vdd h i = port (codes "vdd") (port_supply plan (codes "vdd") (inl refl))
  net_seen Gnd h i = port (codes "gnd") (port_supply plan (codes "gnd") (inr (inl refl)))
  net_seen (Dout k) h i = absurd i
  net_seen (Zb b r) h i = absurd i
  net_seen (Wl b r) h i = absurd i
  net_seen (Bl b c) h i = absurd i
  net_seen (Br b c) h i = absurd i
  net_seen (Lo b c) h i = absurd i
  net_seen (Ro b c) h i = absurd i

  logic_told : (x y : Net) → IsNameable plan x → IsNameable plan y → IsInLogic plan x → IsInLogic plan y → net_name plan x ≡ net_name plan y → x ≡ y
  logic_told x y hx hy ix iy e = texts_tell plan x y p hx hy (sym (net_seen x hx ix) ∙ (ap seen e ∙ net_seen y hy iy))

  -- of the names in the logic row only those of data bits may begin as those of outputs do
  abbrev is_second : List ℕ → Bool
  is_second [] = false
  is_second (c ∷ cs) = nat_eq c 111

  abbrev is_output_name : List ℕ → Bool
  is_output_name [] = false
  is_output_name (c ∷ cs) = nat_eq c 100 && is_second cs

  abbrev IsOther : Net → Type 0
  IsOther x = (is_output_name (net_name plan x) ≡ false) ⊎ ((k : ℕ) × (x ≡ D k))

  line_other : (κ : LineKind) (k : ℕ) → is_output_name (line_name κ k) ≡ false
  line_other Column k = refl
  line_other (Group g) k = refl
  line_other Bank k = refl

  lineb_other : (κ : LineKind) (k : ℕ) → is_output_name (lineb_name κ k) ≡ false
  lineb_other Column k = refl
  lineb_other (Group g) k = refl
  lineb_other Bank k = refl

  net_other : (x : Net) → IsInLogic plan x → IsOther x
  net_other (Control Clk0) i = inl refl
  net_other (Control Csb0) i = inl refl
  net_other (Control Web0) i = inl refl
  net_other (Control Clkb) i = inl refl
  net_other (Control Csq) i = inl refl
  net_other (Control Weq) i = inl refl
  net_other (Control Cs) i = inl refl
  net_other (Control We) i = inl refl
  net_other (Control Wlb) i = inl refl
  net_other (Control Wrb) i = inl refl
  net_other (Control Rdb) i = inl refl
  net_other (Control Rd) i = inl refl
  net_other (Control Dly) i = inl refl
  net_other (Control Seb) i = inl refl
  net_other (Control Wlen) i = inl refl
  net_other (Control Sen) i = inl refl
  net_other (Control Wen) i = inl refl
  net_other (Addr k) i = inl refl
  net_other (Din k) i = inl refl
  net_other (Wmask k) i = inl refl
  net_other (D k) i = inr (k, refl)
  net_other (A k) i = inl refl
  net_other (Na k) i = inl refl
  net_other (M k) i = inl refl
  net_other (Line o b k) i = inl (line_other (line_kind plan o) k)
  net_other (LineB o b k) i = inl (lineb_other (line_kind plan o) k)
  net_other (WlenB b) i = inl refl
  net_other (SenB b) i = inl refl
  net_other (WenB b m) i = inl refl
  net_other (WlenAt b) i = inl refl
  net_other (SenAt b) i = inl refl
  net_other (WenAt b m) i = inl refl
  net_other Vdd i = inl refl
  net_other Gnd i = inl refl
  net_other (Dout k) i = absurd i
  net_other (Zb b r) i = absurd i
  net_other (Wl b r) i = absurd i
  net_other (Bl b c) i = absurd i
  net_other (Br b c) i = absurd i
  net_other (Lo b c) i = absurd i
  net_other (Ro b c) i = absurd i

  output_told : (k : ℕ) (x : Net) → k < plan.word_size → IsNameable plan x → IsInLogic plan x → net_name plan (Dout k) ≡ net_name plan x → Dout k ≡ x
  output_told k x lt h i e = elim (net_other x i) [
    | inl other ↦ let never : true ≡ false = ap is_output_name e ∙ other in absurd cc
    | inr bit ↦
        let same : net_name plan (Dout k) ≡ net_name plan (D bit.0) = e ∙ ap (net_name plan) bit.1 in
        texts_tell plan (Dout k) (D bit.0) p lt (subst (IsNameable plan) bit.1 h) same ∙ sym bit.1
  ]

  -- two nets that a channel may have
  pub names_told : (x y : Net) → IsChannelNet plan x → IsChannelNet plan y → net_name plan x ≡ net_name plan y → x ≡ y
  names_told x y (inl a) (inl b) e = logic_told x y a.0 b.0 a.1 b.1 e
  names_told x y (inl a) (inr b) e = sym (output_told b.0 x b.1 a.0 a.1 (sym (e ∙ ap (net_name plan) b.2))) ∙ sym b.2
  names_told x y (inr a) (inl b) e = a.2 ∙ output_told a.0 y a.1 b.0 b.1 (ap (net_name plan) (sym a.2) ∙ e)
  names_told x y (inr a) (inr b) e =
      let same : net_name plan (Dout a.0) ≡ net_name plan (Dout b.0) = ap (net_name plan) (sym a.2) ∙ (e ∙ ap (net_name plan) b.2) in
      a.2 ∙ (texts_tell plan (Dout a.0) (Dout b.0) p a.1 b.1 same ∙ sym b.2)
