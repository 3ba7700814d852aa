-- A bank: what it flattens to, where its names are seen as the nets of bank b.
use Rattle.std.proofs.Common.{◌≡◌, inl, inr, ℕ, zero, suc, ◌<◌, false, List, [], ◌∷◌, ◌++◌, map, Option, refl, sym, ap, subst, ◌∙◌}
use Rattle.std.specs.Prelude.{codes}
use Rattle.std.proofs.lemmas.List.{append-nil}
use Rattle.netlist.specs.declared.deck.Instance.{Instance}
use Rattle.spice_netlist.specs.declared.resolved.ResolvedSubckt.{ResolvedSubckt}
use Rattle.spice_netlist.specs.Names.{same_name}
use Rattle.spice_netlist.specs.Resolved.{resolved_instance}
use Rattle.spice_netlist.specs.Walk.{FlatInstance, visits_in, visits_by, FlatNet}
use Rattle.row_laws.specs.Flattens.{Flattens, see_in, IsDeep}
use Rattle.row_laws.proofs.FlatLaws.{flat_both}
use Rattle.row_laws.proofs.InLaws.{local_in}
use Rattle.row_laws.proofs.LookLaws.{look_name, look_none, IsOneOf, AreOther, one_left, one_right, all_append}
use Rattle.sram_netlist.specs.Organization.{Organization, inputs_of, columns_of, bank_rows, words_per_row, IsBuildable}
use Rattle.sram_netlist.specs.Nets.{Control, Clkb, D, Dout, Line, Bl, Br}
use Rattle.sram_netlist.specs.Instances.{PrechargeAt}
use Rattle.cell_roles.specs.declared.role.Role.{Role}
use Rattle.cell_roles.specs.Roles.{supplies}
use Rattle.sram_netlist.specs.Netlist.{lo_net, ro_net, enable_at, enables_of, wlen_at, sen_at}
use Rattle.sram_netlist.specs.Names.{with_number, full_name, to_bank, in_bank, in_data}
use Rattle.sram_netlist.specs.InstanceList.{tabulate, tabulate_lists, row_leaves, data_leaves, bank_leaves}
use Rattle.sram_netlist.specs.BitCells.{BitCells, row_name}
use Rattle.sram_deck.specs.Deck.{subckt_instance, predecode_lines, all_bit_lines, column_choices, data_inputs, write_enables, data_outputs, enable_name, lo_name, ro_name, row_ports, row_instances, array_ports, array_instances, pre_ports, pre_instances, data_ports, data_instances, bank_instances}
use Rattle.sram_rows.proofs.DigitLaws.{plain_all}
use Rattle.sram_rows.proofs.PlainNames.{array_plain, pre_plain, data_plain, column_of_bit}
use Rattle.sram_rows.proofs.Segments.{all_tabulate, of_bit_lines, all_choices, one_bl, one_br, one_choice, one_tabulate}
use Rattle.sram_rows.proofs.LeafInstances.{HasLeaves, row_of, below, by_name}
use Rattle.sram_rows.proofs.SubcktInstances.{HasSubckt, IsInstanceOf, seen_is, seen_deep, subckt_flat, net_within}
use Rattle.sram_rows.proofs.ArrayLevel.{ArraySees, array_flat}
use Rattle.sram_rows.proofs.PreLevel.{PreSees, pre_flat}
use Rattle.sram_rows.proofs.DataLevel.{DataSees, data_flat}

-- what is seen from the top of the names in a bank
pub record BankSees (plan : Organization) (b : ℕ) (see : FlatNet → List ℕ) : Type 0 where
  pub line : (n : List ℕ) → IsOneOf n (predecode_lines plan) → by_name see n ≡ n
  pub wlen : by_name see (codes "wlen") ≡ full_name plan (wlen_at plan.bank_bits b)
  pub sen : by_name see (codes "sen") ≡ full_name plan (sen_at plan.bank_bits b)
  pub clkb : by_name see (codes "clkb") ≡ full_name plan (Control Clkb)
  pub sel : (k : ℕ) → 0 < plan.col_bits → k < words_per_row plan → by_name see (with_number (codes "sel") k) ≡ full_name plan (Line 0 plan.col_bits k)
  pub d : (i : ℕ) → i < inputs_of plan → by_name see (with_number (codes "d") i) ≡ full_name plan (D i)
  pub enable : (m : ℕ) → m < enables_of plan → by_name see (enable_name plan.masks m) ≡ full_name plan (enable_at plan.bank_bits plan.masks b m)
  pub o : (i : ℕ) → i < plan.word_size → by_name see (with_number (codes "o") i) ≡ full_name plan (Dout i)
  pub bl : (c : ℕ) → c < columns_of plan → by_name see (with_number (codes "bl") c) ≡ full_name plan (Bl b c)
  pub br : (c : ℕ) → c < columns_of plan → by_name see (with_number (codes "br") c) ≡ full_name plan (Br b c)
  pub vdd : by_name see (codes "vdd") ≡ codes "vdd"
  pub gnd : by_name see (codes "gnd") ≡ codes "gnd"
  pub deep : IsDeep see (in_bank plan b)

-- the subcircuits of a bank
pub record BankCells (plan : Organization) (cell : Role → List ℕ) (bits : BitCells) (name : List ℕ) (subckts : List ResolvedSubckt) (find : List ℕ → Option ℕ) : Type 0 where
  pub row : (r : ℕ) → r < bank_rows plan → HasSubckt subckts find (row_name bits name r) (row_ports plan) (row_instances plan cell bits r)
  pub array : HasSubckt subckts find (name ++ codes "_array") (array_ports plan) (array_instances plan bits name)
  pub pre : HasSubckt subckts find (name ++ codes "_pre") (pre_ports plan) (pre_instances plan cell)
  pub data_cell : HasSubckt subckts find (name ++ codes "_data") (data_ports plan) (data_instances plan cell)

module _ (plan : Organization) (p : IsBuildable plan) (cell : Role → List ℕ) (bits : BitCells) (name : List ℕ) (subckts : List ResolvedSubckt) (find : List ℕ → Option ℕ) (leaf : HasLeaves plan cell bits subckts find)
    (cells : BankCells plan cell bits name subckts find) (b : ℕ) (see : FlatNet → List ℕ) (s : BankSees plan b see) where
  -- the array
  abbrev array : Instance
  array = subckt_instance (codes "xarray") (array_ports plan) (name ++ codes "_array")

  array_is : IsInstanceOf array (name ++ codes "_array") (codes "xarray") (array_ports plan) (array_ports plan)
  array_is = record { of = refl; named = refl; joined = plain_all (array_ports plan) (array_plain plan p); sized = refl }

  abbrev in_the_array : FlatNet → List ℕ
  in_the_array = see_in subckts see (resolved_instance find array) cells.array.index

  array_passed : (n : List ℕ) → IsOneOf n (array_ports plan) → by_name in_the_array n ≡ by_name see n
  array_passed n there =
      seen_is subckts find (name ++ codes "_array") (array_ports plan) (array_instances plan bits name) cells.array see array (codes "xarray") (array_ports plan) array_is n
      ∙ ap see (look_name (net_within (codes "xarray") n) n (array_ports plan) there)

  in_array_tail : (n : List ℕ) → IsOneOf n (codes "wlen" ∷ (all_bit_lines plan ++ supplies)) → by_name in_the_array n ≡ by_name see n
  in_array_tail n there = array_passed n (one_right n (predecode_lines plan) (codes "wlen" ∷ (all_bit_lines plan ++ supplies)) there)

  array_sees : ArraySees plan b in_the_array
  array_sees = record {
    line = λ n h. array_passed n (one_left n (predecode_lines plan) (codes "wlen" ∷ (all_bit_lines plan ++ supplies)) h) ∙ s.line n h;
    wlen = in_array_tail (codes "wlen") (inl refl) ∙ s.wlen;
    bl = λ c lt. in_array_tail (with_number (codes "bl") c) (inr (one_left (with_number (codes "bl") c) (all_bit_lines plan) supplies (one_bl plan c lt))) ∙ s.bl c lt;
    br = λ c lt. in_array_tail (with_number (codes "br") c) (inr (one_left (with_number (codes "br") c) (all_bit_lines plan) supplies (one_br plan c lt))) ∙ s.br c lt;
    vdd = in_array_tail (codes "vdd") (inr (one_right (codes "vdd") (all_bit_lines plan) supplies (inl refl))) ∙ s.vdd;
    gnd = in_array_tail (codes "gnd") (inr (one_right (codes "gnd") (all_bit_lines plan) supplies (inr (inl refl)))) ∙ s.gnd;
    deep = seen_deep subckts find (name ++ codes "_array") (array_ports plan) (array_instances plan bits name) cells.array see array (codes "xarray") (array_ports plan) array_is (in_bank plan b) s.deep;
  }

  -- the precharge
  abbrev pre : Instance
  pre = subckt_instance (codes "xpre") (pre_ports plan) (name ++ codes "_pre")

  pre_is : IsInstanceOf pre (name ++ codes "_pre") (codes "xpre") (pre_ports plan) (pre_ports plan)
  pre_is = record { of = refl; named = refl; joined = plain_all (pre_ports plan) (pre_plain plan p); sized = refl }

  abbrev in_the_pre : FlatNet → List ℕ
  in_the_pre = see_in subckts see (resolved_instance find pre) cells.pre.index

  pre_passed : (n : List ℕ) → IsOneOf n (pre_ports plan) → by_name in_the_pre n ≡ by_name see n
  pre_passed n there =
      seen_is subckts find (name ++ codes "_pre") (pre_ports plan) (pre_instances plan cell) cells.pre see pre (codes "xpre") (pre_ports plan) pre_is n
      ∙ ap see (look_name (net_within (codes "xpre") n) n (pre_ports plan) there)

  pre_sees : PreSees plan b in_the_pre
  pre_sees = record {
    bl = λ c lt. pre_passed (with_number (codes "bl") c) (one_left (with_number (codes "bl") c) (all_bit_lines plan) (codes "clkb" ∷ supplies) (one_bl plan c lt)) ∙ s.bl c lt;
    br = λ c lt. pre_passed (with_number (codes "br") c) (one_left (with_number (codes "br") c) (all_bit_lines plan) (codes "clkb" ∷ supplies) (one_br plan c lt)) ∙ s.br c lt;
    clkb = pre_passed (codes "clkb") (one_right (codes "clkb") (all_bit_lines plan) (codes "clkb" ∷ supplies) (inl refl)) ∙ s.clkb;
    vdd = pre_passed (codes "vdd") (one_right (codes "vdd") (all_bit_lines plan) (codes "clkb" ∷ supplies) (inr (inl refl))) ∙ s.vdd;
    gnd = pre_passed (codes "gnd") (one_right (codes "gnd") (all_bit_lines plan) (codes "clkb" ∷ supplies) (inr (inr (inl refl)))) ∙ s.gnd;
  }

  -- the data
  abbrev data_part : Instance
  data_part = subckt_instance (codes "xdata") (data_ports plan) (name ++ codes "_data")

  data_is : IsInstanceOf data_part (name ++ codes "_data") (codes "xdata") (data_ports plan) (data_ports plan)
  data_is = record { of = refl; named = refl; joined = plain_all (data_ports plan) (data_plain plan p); sized = refl }

  abbrev in_the_data : FlatNet → List ℕ
  in_the_data = see_in subckts see (resolved_instance find data_part) cells.data_cell.index

  data_passed : (n : List ℕ) → IsOneOf n (data_ports plan) → by_name in_the_data n ≡ by_name see n
  data_passed n there =
      seen_is subckts find (name ++ codes "_data") (data_ports plan) (data_instances plan cell) cells.data_cell see data_part (codes "xdata") (data_ports plan) data_is n
      ∙ ap see (look_name (net_within (codes "xdata") n) n (data_ports plan) there)

  data_own : (n : List ℕ) → AreOther n (data_ports plan) → by_name in_the_data n ≡ in_data plan b ++ n
  data_own n other =
      seen_is subckts find (name ++ codes "_data") (data_ports plan) (data_instances plan cell) cells.data_cell see data_part (codes "xdata") (data_ports plan) data_is n
      ∙ ap see (look_none (net_within (codes "xdata") n) n (data_ports plan) (data_ports plan) other)
      ∙ local_in see (in_bank plan b) (codes "xdata") n s.deep

  -- the parts of its list of ports
  abbrev ports4 : List (List ℕ)
  ports4 = codes "sen" ∷ (data_outputs plan ++ supplies)

  abbrev ports3 : List (List ℕ)
  ports3 = write_enables plan ++ ports4

  abbrev ports2 : List (List ℕ)
  ports2 = data_inputs plan ++ ports3

  abbrev ports1 : List (List ℕ)
  ports1 = column_choices plan.col_bits ++ ports2

  in4 : (n : List ℕ) → IsOneOf n ports4 → IsOneOf n (data_ports plan)
  in4 n h = one_right n (all_bit_lines plan) ports1 (one_right n (column_choices plan.col_bits) ports2 (one_right n (data_inputs plan) ports3 (one_right n (write_enables plan) ports4 h)))

  bl_seen : (c : ℕ) → c < columns_of plan → by_name in_the_data (with_number (codes "bl") c) ≡ full_name plan (Bl b c)
  bl_seen c lt = data_passed (with_number (codes "bl") c) (one_left (with_number (codes "bl") c) (all_bit_lines plan) ports1 (one_bl plan c lt)) ∙ s.bl c lt

  br_seen : (c : ℕ) → c < columns_of plan → by_name in_the_data (with_number (codes "br") c) ≡ full_name plan (Br b c)
  br_seen c lt = data_passed (with_number (codes "br") c) (one_left (with_number (codes "br") c) (all_bit_lines plan) ports1 (one_br plan c lt)) ∙ s.br c lt

  enable_other : (n : List ℕ) → same_name n (codes "wen") ≡ false → ((m : ℕ) → same_name n (with_number (codes "en") m) ≡ false) → (masks m : ℕ) → same_name n (enable_name masks m) ≡ false
  enable_other n one many zero m = one
  enable_other n one many (suc k) m = many m

  lo_other : (i : ℕ) → AreOther (with_number (codes "lo") i) (data_ports plan)
  lo_other i =
      let P = λ (q : List ℕ). same_name (with_number (codes "lo") i) q ≡ false in
      all_append P (all_bit_lines plan) ports1 (of_bit_lines P plan (λ c lt. refl) (λ c lt. refl))
      (all_append P (column_choices plan.col_bits) ports2 (all_choices P plan.col_bits (λ k lt. refl))
      (all_append P (data_inputs plan) ports3 (all_tabulate P (inputs_of plan) (with_number (codes "d")) (λ j lt. refl))
      (all_append P (write_enables plan) ports4 (all_tabulate P (enables_of plan) (enable_name plan.masks) (λ m lt. enable_other (with_number (codes "lo") i) refl (λ k. refl) plan.masks m))
      (refl, all_append P (data_outputs plan) supplies (all_tabulate P plan.word_size (with_number (codes "o")) (λ j lt. refl)) (refl, (refl, tt))))))

  ro_other : (i : ℕ) → AreOther (with_number (codes "ro") i) (data_ports plan)
  ro_other i =
      let P = λ (q : List ℕ). same_name (with_number (codes "ro") i) q ≡ false in
      all_append P (all_bit_lines plan) ports1 (of_bit_lines P plan (λ c lt. refl) (λ c lt. refl))
      (all_append P (column_choices plan.col_bits) ports2 (all_choices P plan.col_bits (λ k lt. refl))
      (all_append P (data_inputs plan) ports3 (all_tabulate P (inputs_of plan) (with_number (codes "d")) (λ j lt. refl))
      (all_append P (write_enables plan) ports4 (all_tabulate P (enables_of plan) (enable_name plan.masks) (λ m lt. enable_other (with_number (codes "ro") i) refl (λ k. refl) plan.masks m))
      (refl, all_append P (data_outputs plan) supplies (all_tabulate P plan.word_size (with_number (codes "o")) (λ j lt. refl)) (refl, (refl, tt))))))

  lo_seen : (m i : ℕ) → i < plan.word_size → by_name in_the_data (lo_name m i) ≡ full_name plan (lo_net m b i)
  lo_seen zero i lt = bl_seen i (column_of_bit plan p i lt)
  lo_seen (suc m) i lt = data_own (with_number (codes "lo") i) (lo_other i)

  ro_seen : (m i : ℕ) → i < plan.word_size → by_name in_the_data (ro_name m i) ≡ full_name plan (ro_net m b i)
  ro_seen zero i lt = br_seen i (column_of_bit plan p i lt)
  ro_seen (suc m) i lt = data_own (with_number (codes "ro") i) (ro_other i)

  data_sees : DataSees plan b in_the_data
  data_sees = record {
    bl = bl_seen;
    br = br_seen;
    sel = λ k some lt.
        data_passed (with_number (codes "sel") k) (one_right (with_number (codes "sel") k) (all_bit_lines plan) ports1 (one_left (with_number (codes "sel") k) (column_choices plan.col_bits) ports2 (one_choice plan.col_bits k some lt))) ∙ s.sel k some lt;
    d = λ i lt.
        data_passed (with_number (codes "d") i) (one_right (with_number (codes "d") i) (all_bit_lines plan) ports1 (one_right (with_number (codes "d") i) (column_choices plan.col_bits) ports2
        (one_left (with_number (codes "d") i) (data_inputs plan) ports3 (one_tabulate (inputs_of plan) (with_number (codes "d")) i lt)))) ∙ s.d i lt;
    enable = λ m lt.
        let n = enable_name plan.masks m in
        data_passed n (one_right n (all_bit_lines plan) ports1 (one_right n (column_choices plan.col_bits) ports2 (one_right n (data_inputs plan) ports3
        (one_left n (write_enables plan) ports4 (one_tabulate (enables_of plan) (enable_name plan.masks) m lt))))) ∙ s.enable m lt;
    lo = lo_seen plan.col_bits;
    ro = ro_seen plan.col_bits;
    o = λ i lt. data_passed (with_number (codes "o") i) (in4 (with_number (codes "o") i) (inr (one_left (with_number (codes "o") i) (data_outputs plan) supplies (one_tabulate plan.word_size (with_number (codes "o")) i lt)))) ∙ s.o i lt;
    sen = data_passed (codes "sen") (in4 (codes "sen") (inl refl)) ∙ s.sen;
    vdd = data_passed (codes "vdd") (in4 (codes "vdd") (inr (one_right (codes "vdd") (data_outputs plan) supplies (inl refl)))) ∙ s.vdd;
    gnd = data_passed (codes "gnd") (in4 (codes "gnd") (inr (one_right (codes "gnd") (data_outputs plan) supplies (inr (inl refl))))) ∙ s.gnd;
  }

  -- a bank's rows
  pub bank_flat : (d : ℕ) → Flattens (row_of plan cell bits) subckts (to_bank plan b) see (visits_by subckts (below subckts (suc (suc d))) (map (resolved_instance find) (bank_instances plan name))) (bank_leaves plan b)
  bank_flat d =
      let f = below subckts (suc (suc d)) in
      let arrays : List FlatInstance = visits_in subckts f (resolved_instance find array) (resolved_instance find array).index in
      let pres : List FlatInstance = visits_in subckts f (resolved_instance find pre) (resolved_instance find pre).index in
      let datas : List FlatInstance = visits_in subckts f (resolved_instance find data_part) (resolved_instance find data_part).index in
      let rows = tabulate_lists (bank_rows plan) (row_leaves plan b) in
      let columns = tabulate (columns_of plan) (PrechargeAt b) in
      flat_both (row_of plan cell bits) subckts (to_bank plan b) see arrays (pres ++ (datas ++ [])) rows (columns ++ data_leaves plan b)
      (subckt_flat subckts find (name ++ codes "_array") (array_ports plan) (array_instances plan bits name) cells.array see array (codes "xarray") (array_ports plan) array_is (row_of plan cell bits) (suc d) (to_bank plan b) rows
      (array_flat plan p cell bits name subckts find leaf cells.row b in_the_array array_sees d))
      (flat_both (row_of plan cell bits) subckts (to_bank plan b) see pres (datas ++ []) columns (data_leaves plan b)
      (subckt_flat subckts find (name ++ codes "_pre") (pre_ports plan) (pre_instances plan cell) cells.pre see pre (codes "xpre") (pre_ports plan) pre_is (row_of plan cell bits) (suc d) (to_bank plan b) columns
      (pre_flat plan p cell bits subckts find leaf (suc d) b in_the_pre pre_sees))
      (subst (λ (vs : List FlatInstance). Flattens (row_of plan cell bits) subckts (to_bank plan b) see vs (data_leaves plan b)) (sym (append-nil datas))
      (subckt_flat subckts find (name ++ codes "_data") (data_ports plan) (data_instances plan cell) cells.data_cell see data_part (codes "xdata") (data_ports plan) data_is (row_of plan cell bits) (suc d) (to_bank plan b) (data_leaves plan b)
      (data_flat plan p cell bits subckts find leaf (suc d) b in_the_data data_sees))))
