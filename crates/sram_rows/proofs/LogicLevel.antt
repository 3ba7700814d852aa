-- The logic row: what it flattens to.
use Rattle.std.proofs.Common.{◌≡◌, ◌⊎◌, inl, inr, ℕ, zero, suc, ◌+◌, ◌<◌, Bool, cond, nat_eq, List, [], ◌∷◌, ◌++◌, map, Option, refl, sym, ap, subst, ◌∙◌, arith, ◌^◌}
use Rattle.std.specs.Prelude.{codes}
use Rattle.std.specs.List.{AllByRecursion}
use Rattle.netlist.specs.declared.deck.Instance.{Instance}
use Rattle.spice_netlist.specs.declared.resolved.ResolvedSubckt.{ResolvedSubckt}
use Rattle.spice_text.specs.Words.{lower}
use Rattle.spice_netlist.specs.Resolved.{resolved_instance}
use Rattle.spice_netlist.specs.Walk.{visits_in, FlatNet}
use Rattle.row_laws.specs.Flattens.{Flattens, see_in}
use Rattle.row_laws.proofs.FlatLaws.{flat_each}
use Rattle.row_laws.proofs.LookLaws.{look_name, look_none, IsOneOf, AreOther, one_left, one_right}
use Rattle.sram_netlist.specs.Organization.{Organization, IsWritten, power_of_two, banks_of, IsBuildable, IsGroupSize, addr_bits}
use Rattle.sram_netlist.specs.Nets.{Net, Clk0, Csb0, Web0, Clkb, Csq, Weq, Cs, We, Wlb, Wlen, Wrb, Wen, Rdb, Rd, Dly, Seb, Sen, Vdd, Gnd, Control, Addr, Din, Dout, Wmask, A, Na, D, M, LineB, Line, WlenB, WlenAt, SenB, SenAt, WenB, WenAt, Zb, Wl, Bl, Br, Lo, Ro}
use Rattle.sram_netlist.specs.Instances.{LogicCell, LogicAt}
use Rattle.cell_roles.specs.declared.role.Role.{Role}
use Rattle.sram_netlist.specs.Membership.{IsNameable, IsChoice, IsGroup, HasLogicCell}
use Rattle.sram_netlist.specs.Netlist.{wlen_at, sen_at, enable_at, enable_count, enables_of, logic_role, logic_cell_ports}
use Rattle.sram_netlist.specs.Names.{LineKind, Column, Group, Bank, line_kind, line_kind_in, line_name, lineb_name, in_kind, in_logic, in_one, in_two, with_number, with_numbers, net_name, full_name, cell_name}
use Rattle.sram_netlist.specs.BitCells.{BitCells}
use Rattle.sram_netlist.specs.InstanceList.{tabulate, logic_cells}
use Rattle.sram_netlist.proofs.Bounds.{bounds, written_all, twice_above, size_small, line_few}
use Rattle.sram_netlist.proofs.ChoiceLaws.{nat_same, nat_other, above_from, behind, column, past_groups, group_is}
use Rattle.sram_deck.specs.Deck.{subckt_instance, predecode_lines, predecode_lines_from, logic_ports, logic_cell, logic_instances}
use Rattle.sram_rows.proofs.DigitLaws.{plain_all, plain_low}
use Rattle.sram_rows.proofs.PlainNetNames.{name_plain, few_banks, IsSmallKind, kind_small}
use Rattle.sram_rows.proofs.Segments.{one_tabulate}
use Rattle.sram_rows.proofs.LogicCells.{IsInLogic, IsGood, cells_in, ports_good, ports_sized, cell_name_plain}
use Rattle.sram_rows.proofs.LeafInstances.{HasLeaves, row_of, below, IsLeafOf, leaf_flat, by_name}
use Rattle.sram_rows.proofs.SubcktInstances.{HasSubckt, IsInstanceOf, seen_is, subckt_flat, net_within}
use Rattle.spice_netlist.specs.NetKeys.{net_key}
use Rattle.sram_rows.proofs.PlainPorts.{logic_plain}
use Rattle.sram_rows.proofs.LogicPorts.{port_web, port_wmask, port_addr, port_din, port_clkb, port_wlen, port_sen, port_enable, port_sel, port_line, port_d, port_supply, wlen_other, sen_other, wen_other, word_other, number_other, numbers_other}
use Rattle.sram_rows.proofs.PlainNames.{few_enables}

-- a line of a group stands in the list of lines
lines_have : (bs : List ℕ) (from g o b k : ℕ) → AllByRecursion IsGroupSize bs → IsGroup bs from o b → k < power_of_two b → IsOneOf (line_name (line_kind_in bs from g o) k) (predecode_lines_from bs g)
lines_have [] from g o b k sizes h lt = absurd h
lines_have (c ∷ cs) from g o b k sizes (inl e) lt =
    let is : line_kind_in (c ∷ cs) from g o ≡ Group g = ap (λ (t : Bool). cond t (Group g) (line_kind_in cs (from + c) (suc g) o)) (ap (λ (n : ℕ). nat_eq n from) e.0 ∙ nat_same from) in
    subst (λ (κ : LineKind). IsOneOf (line_name κ k) (predecode_lines_from (c ∷ cs) g)) (sym is)
    (one_left (with_numbers (codes "p") g k) (tabulate (power_of_two c) (with_numbers (codes "p") g)) (predecode_lines_from cs (suc g)) (one_tabulate (power_of_two c) (with_numbers (codes "p") g) k (subst (λ (n : ℕ). k < power_of_two n) e.1 lt)))
lines_have (c ∷ cs) from g o b k sizes (inr h) lt =
    let above = above_from cs (from + c) o b h in
    let some = (size_small c sizes.0).0 in
    let is : line_kind_in (c ∷ cs) from g o ≡ line_kind_in cs (from + c) (suc g) o = ap (λ (t : Bool). cond t (Group g) (line_kind_in cs (from + c) (suc g) o)) (nat_other o from (λ e. omega (arith, above, some, e))) in
    subst (λ (κ : LineKind). IsOneOf (line_name κ k) (predecode_lines_from (c ∷ cs) g)) (sym is)
    (one_right (line_name (line_kind_in cs (from + c) (suc g) o) k) (tabulate (power_of_two c) (with_numbers (codes "p") g)) (predecode_lines_from cs (suc g)) (lines_have cs (from + c) (suc g) o b k sizes.1 h lt))

module _ (plan : Organization) (p : IsBuildable plan) (cell : Role → List ℕ) (bits : BitCells) (own_name : List ℕ) (subckts : List ResolvedSubckt) (find : List ℕ → Option ℕ) (leaf : HasLeaves plan cell bits subckts find)
    (logic : HasSubckt subckts find (own_name ++ codes "_logic") (logic_ports plan) (logic_instances plan cell)) where
  some_banks : 0 < banks_of plan
  some_banks = let t = twice_above plan.bank_bits in omega (arith, t)

  abbrev top_see : FlatNet → List ℕ
  top_see = net_key

  abbrev instance : Instance
  instance = subckt_instance (codes "xlogic") (logic_ports plan) (own_name ++ codes "_logic")

  part_is : IsInstanceOf instance (own_name ++ codes "_logic") (codes "xlogic") (logic_ports plan) (logic_ports plan)
  part_is = record { of = refl; named = refl; joined = plain_all (logic_ports plan) (logic_plain plan p); sized = refl }

  abbrev seen : FlatNet → List ℕ
  seen = see_in subckts top_see (resolved_instance find instance) logic.index

  passed : (n : List ℕ) → IsOneOf n (logic_ports plan) → by_name seen n ≡ n
  passed n there =
      seen_is subckts find (own_name ++ codes "_logic") (logic_ports plan) (logic_instances plan cell) logic top_see instance (codes "xlogic") (logic_ports plan) part_is n
      ∙ ap top_see (look_name (net_within (codes "xlogic") n) n (logic_ports plan) there)

  own : (n : List ℕ) → AreOther n (logic_ports plan) → by_name seen n ≡ in_logic ++ n
  own n other =
      seen_is subckts find (own_name ++ codes "_logic") (logic_ports plan) (logic_instances plan cell) logic top_see instance (codes "xlogic") (logic_ports plan) part_is n
      ∙ ap top_see (look_none (net_within (codes "xlogic") n) n (logic_ports plan) (logic_ports plan) other)

  wlen_seen : (n : ℕ) → plan.bank_bits ≡ n → by_name seen (codes "wlen") ≡ in_one n ++ codes "wlen"
  wlen_seen zero e = passed (codes "wlen") (subst (λ (m : ℕ). IsOneOf (net_name plan (wlen_at m 0)) (logic_ports plan)) e (port_wlen plan 0 some_banks))
  wlen_seen (suc n) e = own (codes "wlen") (wlen_other plan p (omega (arith, e)))

  sen_seen : (n : ℕ) → plan.bank_bits ≡ n → by_name seen (codes "sen") ≡ in_one n ++ codes "sen"
  sen_seen zero e = passed (codes "sen") (subst (λ (m : ℕ). IsOneOf (net_name plan (sen_at m 0)) (logic_ports plan)) e (port_sen plan 0 some_banks))
  sen_seen (suc n) e = own (codes "sen") (sen_other plan p (omega (arith, e)))

  wen_seen : (n k : ℕ) → plan.bank_bits ≡ n → plan.masks ≡ k → IsWritten plan → by_name seen (codes "wen") ≡ in_two n k ++ codes "wen"
  wen_seen zero zero e f some =
      passed (codes "wen") (subst (λ (m : ℕ). IsOneOf (net_name plan (enable_at m zero 0 0)) (logic_ports plan)) e
      (subst (λ (m : ℕ). IsOneOf (net_name plan (enable_at plan.bank_bits m 0 0)) (logic_ports plan)) f (port_enable plan 0 0 some_banks (subst (λ (m : ℕ). 0 < m) (sym (written_all plan.write_size (enable_count plan.masks) some)) (subst (λ (m : ℕ). 0 < enable_count m) (sym f) (omega arith))))))
  wen_seen zero (suc k) e f some = own (codes "wen") (wen_other plan p (inr (omega (arith, f))))
  wen_seen (suc n) k e f some = own (codes "wen") (wen_other plan p (inl (omega (arith, e))))

  wlen_at_seen : (n b : ℕ) → plan.bank_bits ≡ n → 0 < n → b < banks_of plan → by_name seen (with_number (codes "wlen") b) ≡ with_number (codes "wlen") b
  wlen_at_seen zero b e some lt = absurd (omega arith)
  wlen_at_seen (suc n) b e some lt = passed (with_number (codes "wlen") b) (subst (λ (m : ℕ). IsOneOf (net_name plan (wlen_at m b)) (logic_ports plan)) e (port_wlen plan b lt))

  sen_at_seen : (n b : ℕ) → plan.bank_bits ≡ n → 0 < n → b < banks_of plan → by_name seen (with_number (codes "sen") b) ≡ with_number (codes "sen") b
  sen_at_seen zero b e some lt = absurd (omega arith)
  sen_at_seen (suc n) b e some lt = passed (with_number (codes "sen") b) (subst (λ (m : ℕ). IsOneOf (net_name plan (sen_at m b)) (logic_ports plan)) e (port_sen plan b lt))

  wen_at_seen : (n k b m : ℕ) → plan.bank_bits ≡ n → plan.masks ≡ k → (0 < n) ⊎ (0 < k) → b < banks_of plan → m < enables_of plan → by_name seen (with_numbers (codes "we") b m) ≡ with_numbers (codes "we") b m
  wen_at_seen zero zero b m e f (inl some) lt few = absurd (omega arith)
  wen_at_seen zero zero b m e f (inr some) lt few = absurd (omega arith)
  wen_at_seen zero (suc k) b m e f some lt few = passed (with_numbers (codes "we") b m) (subst (λ (x : ℕ × ℕ). IsOneOf (net_name plan (enable_at x.0 x.1 b m)) (logic_ports plan)) (λ i. (e i, f i)) (port_enable plan b m lt few))
  wen_at_seen (suc n) k b m e f some lt few = passed (with_numbers (codes "we") b m) (subst (λ (x : ℕ × ℕ). IsOneOf (net_name plan (enable_at x.0 x.1 b m)) (logic_ports plan)) (λ i. (e i, f i)) (port_enable plan b m lt few))

  line_seen : (o b k : ℕ) → IsChoice plan o b → k < power_of_two b → by_name seen (line_name (line_kind plan o) k) ≡ in_kind (line_kind plan o) ++ line_name (line_kind plan o) k
  line_seen o b k (inl c) lt =
      let some = c.1 in
      let bits = c.0.1 in
      let choice : 0 < plan.col_bits = omega (arith, some, bits) in
      let is : line_kind plan o ≡ Column = column plan.col_bits o plan.groups c.0.0 choice in
      subst (λ (κ : LineKind). by_name seen (line_name κ k) ≡ in_kind κ ++ line_name κ k) (sym is) (passed (with_number (codes "sel") k) (port_sel plan k choice (subst (λ (n : ℕ). k < power_of_two n) c.0.1 lt)))
  line_seen o b k (inr (inl c)) lt =
      let above = above_from plan.groups plan.col_bits o b c in
      let r = group_is plan.groups plan.col_bits 0 o b p.sizes c in
      let is : line_kind plan o ≡ Group (0 + r.index) = behind plan.col_bits o plan.groups above ∙ r.line_kind in
      let there = subst (λ (κ : LineKind). IsOneOf (line_name κ k) (predecode_lines plan)) r.line_kind (lines_have plan.groups plan.col_bits 0 o b k p.sizes c lt) in
      subst (λ (κ : LineKind). by_name seen (line_name κ k) ≡ in_kind κ ++ line_name κ k) (sym is) (passed (with_numbers (codes "p") (0 + r.index) k) (port_line plan (with_numbers (codes "p") (0 + r.index) k) there))
  line_seen o b k (inr (inr c)) lt =
      let low = c.0.0 in
      let is : line_kind plan o ≡ Bank = behind plan.col_bits o plan.groups (omega (arith, low)) ∙ past_groups plan.groups plan.col_bits 0 o p.sizes (omega (arith, low)) in
      subst (λ (κ : LineKind). by_name seen (line_name κ k) ≡ in_kind κ ++ line_name κ k) (sym is) (own (with_number (codes "e") k) (number_other plan p (codes "e") k (line_few plan o b k p (inr (inr c)) lt) refl))

  lineb_seen : (κ : LineKind) (k : ℕ) → IsSmallKind κ → k < 2 ^ 64 → by_name seen (lineb_name κ k) ≡ in_logic ++ lineb_name κ k
  lineb_seen Column k small few = own (with_number (codes "sb") k) (number_other plan p (codes "sb") k few refl)
  lineb_seen (Group g) k small few = own (with_numbers (codes "pb") g k) (numbers_other plan p (codes "pb") g k (omega arith) few refl)
  lineb_seen Bank k small few = own (with_number (codes "eb") k) (number_other plan p (codes "eb") k few refl)

  few_address : (k : ℕ) → k < addr_bits plan → k < 2 ^ 64
  few_address k lt = let e = (bounds plan p).address in omega (arith, e, lt)

  few_masks : (k : ℕ) → k < plan.masks → k < 2 ^ 64
  few_masks k lt = let e = (bounds plan p).masks in omega (arith, e, lt)

  net_seen : (x : Net) → IsNameable plan x → IsInLogic plan x → by_name seen (net_name plan x) ≡ full_name plan x
  net_seen (Control Clk0) h i = passed (codes "clk0") (inl refl)
  net_seen (Control Csb0) h i = passed (codes "csb0") (inr (inl refl))
  net_seen (Control Web0) h i = passed (codes "web0") (port_web plan i)
  net_seen (Control Clkb) h i = passed (codes "clkb") (port_clkb plan)
  net_seen (Control Csq) h i = own (codes "csq") (word_other plan p (codes "csq") refl)
  net_seen (Control Weq) h i = own (codes "weq") (word_other plan p (codes "weq") refl)
  net_seen (Control Cs) h i = own (codes "cs") (word_other plan p (codes "cs") refl)
  net_seen (Control We) h i = own (codes "we") (word_other plan p (codes "we") refl)
  net_seen (Control Wlb) h i = own (codes "wlb") (word_other plan p (codes "wlb") refl)
  net_seen (Control Wrb) h i = own (codes "wrb") (word_other plan p (codes "wrb") refl)
  net_seen (Control Rdb) h i = own (codes "rdb") (word_other plan p (codes "rdb") refl)
  net_seen (Control Rd) h i = own (codes "rd") (word_other plan p (codes "rd") refl)
  net_seen (Control Dly) h i = own (codes "dly") (word_other plan p (codes "dly") refl)
  net_seen (Control Seb) h i = own (codes "seb") (word_other plan p (codes "seb") refl)
  net_seen (Control Wlen) h i = wlen_seen plan.bank_bits refl
  net_seen (Control Sen) h i = sen_seen plan.bank_bits refl
  net_seen (Control Wen) h i = wen_seen plan.bank_bits plan.masks refl refl i
  net_seen (Addr k) h i = passed (net_name plan (Addr k)) (port_addr plan k h)
  net_seen (Din k) h i = passed (net_name plan (Din k)) (port_din plan k i)
  net_seen (Wmask k) h i = passed (net_name plan (Wmask k)) (port_wmask plan k h)
  net_seen (D k) h i = passed (net_name plan (D k)) (port_d plan k i)
  net_seen (A k) h i = own (with_number (codes "a") k) (number_other plan p (codes "a") k (few_address k h) refl)
  net_seen (Na k) h i = own (with_number (codes "n") k) (number_other plan p (codes "n") k (few_address k h) refl)
  net_seen (M k) h i = own (with_number (codes "m") k) (number_other plan p (codes "m") k (few_masks k h) refl)
  net_seen (Line o b k) h i = line_seen o b k h.0 h.1
  net_seen (LineB o b k) h i = lineb_seen (line_kind plan o) k (kind_small plan o b p h.0) (line_few plan o b k p h.0 h.1)
  net_seen (WlenB b) h i = own (with_number (codes "lb") b) (number_other plan p (codes "lb") b (few_banks plan p b h) refl)
  net_seen (SenB b) h i = own (with_number (codes "kb") b) (number_other plan p (codes "kb") b (few_banks plan p b h) refl)
  net_seen (WenB b m) h i = own (with_numbers (codes "wx") b m) (numbers_other plan p (codes "wx") b m (few_banks plan p b h.0) (few_enables plan p m h.1) refl)
  net_seen (WlenAt b) h i = wlen_at_seen plan.bank_bits b refl i h
  net_seen (SenAt b) h i = sen_at_seen plan.bank_bits b refl i h
  net_seen (WenAt b m) h i = wen_at_seen plan.bank_bits plan.masks b m refl refl i.0 h.0 i.1
  net_seen Vdd h i = passed (codes "vdd") (port_supply plan (codes "vdd") (inl refl))
  net_seen Gnd h i = passed (codes "gnd") (port_supply plan (codes "gnd") (inr (inl refl)))
  net_seen (Dout k) h i = absurd i
  net_seen (Zb b r) h i = absurd i
  net_seen (Wl b r) h i = absurd i
  net_seen (Bl b c) h i = absurd i
  net_seen (Br b c) h i = absurd i
  net_seen (Lo b c) h i = absurd i
  net_seen (Ro b c) h i = absurd i

  nets_seen : (xs : List Net) → AllByRecursion (IsGood plan) xs → map (by_name seen) (map lower (map (net_name plan) xs)) ≡ map (full_name plan) xs
  nets_seen [] all = refl
  nets_seen (x ∷ xs) all = λ i. (ap (by_name seen) (plain_low (net_name plan x) (name_plain plan p x all.0.has)) ∙ net_seen x all.0.has all.0.logic) i ∷ nets_seen xs all.1 i

  abbrev above : List ℕ
  above = codes "xlogic" ++ (47 ∷ [])

  cell_is : (c : LogicCell) → HasLogicCell plan c → IsLeafOf plan cell bits above seen (logic_cell plan cell c) (LogicAt c)
  cell_is c h = record { of = refl; named = plain_low (cell_name plan c) (cell_name_plain plan p c h); there = refl; nets = nets_seen (logic_cell_ports plan c) (ports_good plan c h); sized = ports_sized plan c p h }

  along : (d : ℕ) (cs : List LogicCell) → AllByRecursion (HasLogicCell plan) cs
      → AllByRecursion (λ c. Flattens (row_of plan cell bits) subckts above seen (visits_in subckts (below subckts d) (resolved_instance find (logic_cell plan cell c)) (resolved_instance find (logic_cell plan cell c)).index) (LogicAt c ∷ [])) cs
  along d [] all = tt
  along d (c ∷ cs) all = (leaf_flat plan cell bits subckts find d above seen (logic_cell plan cell c) (LogicAt c) (leaf.role_cell (logic_role plan c)) (cell_is c all.0), along d cs all.1)

  -- the logic row's rows
  pub logic_flat : (d : ℕ) → Flattens (row_of plan cell bits) subckts [] top_see (visits_in subckts (below subckts (suc d)) (resolved_instance find instance) (resolved_instance find instance).index) (map LogicAt (logic_cells plan))
  logic_flat d =
      subckt_flat subckts find (own_name ++ codes "_logic") (logic_ports plan) (logic_instances plan cell) logic top_see instance (codes "xlogic") (logic_ports plan) part_is (row_of plan cell bits) d [] (map LogicAt (logic_cells plan))
      (flat_each (row_of plan cell bits) subckts above seen (below subckts d) (resolved_instance find) (logic_cell plan cell) LogicAt (logic_cells plan) (along d (logic_cells plan) (cells_in plan)))
