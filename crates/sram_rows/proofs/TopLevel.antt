-- The memory: what it flattens to.
use Rattle.std.proofs.Common.{◌≡◌, ℕ, zero, suc, ◌<◌, ◌≤◌, ◌^◌, false, List, [], ◌∷◌, ◌++◌, map, length, Option, refl, sym, ap, ◌∙◌, append_assoc, arith}
use Rattle.std.specs.Prelude.{codes}
use Rattle.std.specs.Fmt.{decimal}
use Rattle.std.proofs.lemmas.List.{append-nil, length-map}
use Rattle.netlist.specs.declared.deck.Instance.{Instance}
use Rattle.spice_netlist.specs.declared.resolved.ResolvedSubckt.{ResolvedSubckt}
use Rattle.spice_netlist.specs.Names.{same_name}
use Rattle.spice_netlist.specs.Resolved.{resolved_instance}
use Rattle.spice_netlist.specs.Walk.{visits_in, visits_by, FlatNet}
use Rattle.row_laws.specs.Flattens.{Flattens, see_in}
use Rattle.std.proofs.lemmas.Fmt.{decimal_injective}
use Rattle.row_laws.proofs.FlatLaws.{flat_both, flat_eachs}
use Rattle.row_laws.proofs.LookLaws.{look, look_append, look_past, look_front, look_skip, look_map, append_long}
use Rattle.sram_netlist.specs.Organization.{Organization, inputs_of, banks_of, IsBuildable}
use Rattle.sram_netlist.specs.Instances.{LogicAt}
use Rattle.sram_netlist.specs.Nets.{Line}
use Rattle.cell_roles.specs.declared.role.Role.{Role}
use Rattle.cell_roles.specs.Roles.{supplies}
use Rattle.sram_netlist.specs.Netlist.{wlen_at, sen_at, enable_at, enable_count, enables_of}
use Rattle.sram_netlist.specs.Names.{LineKind, in_kind, line_name, in_one, in_two, with_number, with_numbers, with_index, bank_name, net_name, full_name, in_bank}
use Rattle.sram_netlist.specs.BitCells.{BitCells}
use Rattle.sram_netlist.specs.InstanceList.{numbers_from, tabulate, tabulate_lists, logic_cells, bank_leaves, leaf_instances}
use Rattle.sram_netlist.proofs.Bounds.{bounds}
use Rattle.sram_netlist.proofs.ChoiceLaws.{column}
use Rattle.sram_deck.specs.Deck.{subckt_instance, predecode_lines, column_choices, data_inputs, write_enables, data_outputs, port_bits, enable_name, bank_enable, bank_enables, wlen_name, sen_name, bank_ports, bank_instances, logic_ports, logic_instances, top_bank, top_instances}
use Rattle.sram_rows.proofs.DigitLaws.{plain_all, plain_low}
use Rattle.sram_rows.proofs.PlainNames.{few_words, enables_within}
use Rattle.sram_rows.proofs.Segments.{all_numbers, one_number, all_tabulate, all_lines, all_choices, one_tabulate, one_choice}
use Rattle.sram_rows.proofs.LeafInstances.{HasLeaves, row_of, below, by_name}
use Rattle.sram_rows.proofs.SubcktInstances.{HasSubckt, IsInstanceOf, seen_is, seen_deep, subckt_flat, net_within}
use Rattle.sram_rows.proofs.BankLevel.{BankSees, BankCells, bank_flat}
use Rattle.sram_rows.proofs.LogicLevel.{logic_flat}
use Rattle.spice_netlist.specs.NetKeys.{net_key}
use Rattle.sram_rows.proofs.PlainPorts.{bank_name_plain, bank_nodes_plain}

pub num_same : (ls : List ℕ) (f : List ℕ → ℕ → List ℕ) (j k : ℕ) → j < 2 ^ 64 → k < 2 ^ 64 → decimal j ++ [] ≡ decimal k ++ [] → j ≡ k
num_same ls f j k few few' e = decimal_injective j k few few' (sym (append-nil (decimal j)) ∙ e ∙ append-nil (decimal k))

-- nets of the memory have their names for texts
wlen_by : (plan : Organization) (n b : ℕ) → plan.bank_bits ≡ n → full_name plan (wlen_at n b) ≡ net_name plan (wlen_at n b)
wlen_by plan zero b e = ap (λ (m : ℕ). in_one m ++ codes "wlen") e
wlen_by plan (suc n) b e = refl

sen_by : (plan : Organization) (n b : ℕ) → plan.bank_bits ≡ n → full_name plan (sen_at n b) ≡ net_name plan (sen_at n b)
sen_by plan zero b e = ap (λ (m : ℕ). in_one m ++ codes "sen") e
sen_by plan (suc n) b e = refl

enable_by : (plan : Organization) (n k b m : ℕ) → plan.bank_bits ≡ n → plan.masks ≡ k → full_name plan (enable_at n k b m) ≡ net_name plan (enable_at n k b m)
enable_by plan zero zero b m e f = λ i. in_two (e i) (f i) ++ codes "wen"
enable_by plan zero (suc k) b m e f = refl
enable_by plan (suc n) k b m e f = refl

sel_by : (plan : Organization) (k : ℕ) → 0 < plan.col_bits → full_name plan (Line 0 plan.col_bits k) ≡ with_number (codes "sel") k
sel_by plan k some = ap (λ (κ : LineKind). in_kind κ ++ line_name κ k) (column plan.col_bits 0 plan.groups refl some)

enable_cases_in : (Q : List ℕ → Type 0) (masks m : ℕ) → Q (codes "wen") → Q (with_number (codes "en") m) → Q (enable_name masks m)
enable_cases_in Q zero m one many = one
enable_cases_in Q (suc n) m one many = many

-- a write enable of a bank is one of those outside
one_enable : (masks j k : ℕ) → j < enable_count masks → k < enable_count masks → enable_count masks ≤ 256 → enable_name masks j ≡ enable_name masks k → j ≡ k
one_enable zero j k lt lt' few e = omega arith
one_enable (suc n) j k lt lt' few e = let tail : decimal j ++ [] ≡ decimal k ++ [] = cc in num_same [] with_number j k (omega arith) (omega arith) tail

module _ (plan : Organization) (p : IsBuildable plan) (cell : Role → List ℕ) (bits : BitCells) (own_name : List ℕ) (subckts : List ResolvedSubckt) (find : List ℕ → Option ℕ) (leaf : HasLeaves plan cell bits subckts find)
    (own_cells : BankCells plan cell bits own_name subckts find) (logic : HasSubckt subckts find (own_name ++ codes "_logic") (logic_ports plan) (logic_instances plan cell))
    (bank : HasSubckt subckts find (own_name ++ codes "_bank") (bank_ports plan) (bank_instances plan own_name)) where
  abbrev douts : List (List ℕ)
  douts = port_bits plan.word_size (codes "dout0")

  -- the ports of a bank, and its nodes, from each part on
  abbrev ports4 : List (List ℕ)
  ports4 = data_outputs plan ++ supplies

  abbrev ports3 : List (List ℕ)
  ports3 = write_enables plan ++ ports4

  abbrev ports2 : List (List ℕ)
  ports2 = data_inputs plan ++ ports3

  abbrev ports1 : List (List ℕ)
  ports1 = column_choices plan.col_bits ++ ports2

  abbrev nodes4 : List (List ℕ)
  nodes4 = douts ++ supplies

  module _ (b : ℕ) (lt_b : b < banks_of plan) where
    abbrev nodes3 : List (List ℕ)
    nodes3 = bank_enables plan b ++ nodes4

    abbrev nodes2 : List (List ℕ)
    nodes2 = data_inputs plan ++ nodes3

    abbrev nodes1 : List (List ℕ)
    nodes1 = column_choices plan.col_bits ++ nodes2

    abbrev ports0 : List (List ℕ)
    ports0 = codes "wlen" ∷ codes "sen" ∷ codes "clkb" ∷ ports1

    abbrev nodes0 : List (List ℕ)
    nodes0 = wlen_name plan b ∷ sen_name plan b ∷ codes "clkb" ∷ nodes1

    abbrev nodes : List (List ℕ)
    nodes = predecode_lines plan ++ nodes0

    abbrev label : List ℕ
    label = bank_name plan.bank_bits b

    enables_long : length (write_enables plan) ≡ length (bank_enables plan b)
    enables_long = length-map (numbers_from 0 (enables_of plan)) (enable_name plan.masks) ∙ sym (length-map (numbers_from 0 (enables_of plan)) (bank_enable plan b))

    outputs_long : length (data_outputs plan) ≡ length douts
    outputs_long = length-map (numbers_from 0 plan.word_size) (with_number (codes "o")) ∙ sym (length-map (numbers_from 0 plan.word_size) (with_index (codes "dout0")))

    long0 : length ports0 ≡ length nodes0
    long0 = ap (λ (n : ℕ). suc (suc (suc n))) (append_long (column_choices plan.col_bits) ports2 (column_choices plan.col_bits) nodes2 refl
        (append_long (data_inputs plan) ports3 (data_inputs plan) nodes3 refl (append_long (write_enables plan) ports4 (bank_enables plan b) nodes4 enables_long (append_long (data_outputs plan) supplies douts supplies outputs_long refl))))

    bank_is : IsInstanceOf (top_bank plan own_name b) (own_name ++ codes "_bank") label (bank_ports plan) nodes
    bank_is = record { of = refl; named = plain_low label (bank_name_plain plan p plan.bank_bits b lt_b); joined = plain_all nodes (bank_nodes_plain plan p b lt_b); sized = append_long (predecode_lines plan) ports0 (predecode_lines plan) nodes0 refl long0 }

    abbrev seen : FlatNet → List ℕ
    seen = see_in subckts net_key (resolved_instance find (top_bank plan own_name b)) bank.index

    is : (n : List ℕ) → by_name seen n ≡ net_key (look (net_within label n) (bank_ports plan) nodes n)
    is n = seen_is subckts find (own_name ++ codes "_bank") (bank_ports plan) (bank_instances plan own_name) bank net_key (top_bank plan own_name b) label nodes bank_is n

    -- past the lines
    past0 : (n : List ℕ) → ((h k : ℕ) → same_name n (with_numbers (codes "p") h k) ≡ false) → look (net_within label n) (bank_ports plan) nodes n ≡ look (net_within label n) ports0 nodes0 n
    past0 n off = look_past (net_within label n) n (predecode_lines plan) ports0 (predecode_lines plan) nodes0 refl (all_lines (λ (q : List ℕ). same_name n q ≡ false) plan.groups 0 p.sizes (λ h k lt few. off h k))

    -- no line, and none of the three names behind the lines
    record IsFurther (n : List ℕ) : Type 0 where
      pub line : (h k : ℕ) → same_name n (with_numbers (codes "p") h k) ≡ false
      pub wlen : same_name n (codes "wlen") ≡ false
      pub sen : same_name n (codes "sen") ≡ false
      pub clkb : same_name n (codes "clkb") ≡ false

    past1 : (n : List ℕ) → IsFurther n → look (net_within label n) (bank_ports plan) nodes n ≡ look (net_within label n) ports1 nodes1 n
    past1 n off =
        past0 n off.line
        ∙ look_skip (net_within label n) n (codes "wlen") (wlen_name plan b) (codes "sen" ∷ codes "clkb" ∷ ports1) (sen_name plan b ∷ codes "clkb" ∷ nodes1) off.wlen
        ∙ look_skip (net_within label n) n (codes "sen") (sen_name plan b) (codes "clkb" ∷ ports1) (codes "clkb" ∷ nodes1) off.sen
        ∙ look_skip (net_within label n) n (codes "clkb") (codes "clkb") ports1 nodes1 off.clkb

    past2 : (n : List ℕ) → IsFurther n → ((k : ℕ) → same_name n (with_number (codes "sel") k) ≡ false) → look (net_within label n) (bank_ports plan) nodes n ≡ look (net_within label n) ports2 nodes2 n
    past2 n off sel =
        past1 n off ∙ look_past (net_within label n) n (column_choices plan.col_bits) ports2 (column_choices plan.col_bits) nodes2 refl (all_choices (λ (q : List ℕ). same_name n q ≡ false) plan.col_bits (λ k lt. sel k))

    past3 : (n : List ℕ) → IsFurther n → ((k : ℕ) → same_name n (with_number (codes "sel") k) ≡ false) → ((i : ℕ) → same_name n (with_number (codes "d") i) ≡ false) → look (net_within label n) (bank_ports plan) nodes n ≡ look (net_within label n) ports3 nodes3 n
    past3 n off sel d =
        past2 n off sel ∙ look_past (net_within label n) n (data_inputs plan) ports3 (data_inputs plan) nodes3 refl (all_tabulate (λ (q : List ℕ). same_name n q ≡ false) (inputs_of plan) (with_number (codes "d")) (λ i lt. d i))

    past4 : (n : List ℕ) → IsFurther n → ((k : ℕ) → same_name n (with_number (codes "sel") k) ≡ false) → ((i : ℕ) → same_name n (with_number (codes "d") i) ≡ false) → ((m : ℕ) → same_name n (enable_name plan.masks m) ≡ false) → look (net_within label n) (bank_ports plan) nodes n ≡ look (net_within label n) ports4 nodes4 n
    past4 n off sel d en =
        past3 n off sel d
        ∙ look_past (net_within label n) n (write_enables plan) ports4 (bank_enables plan b) nodes4 enables_long (all_tabulate (λ (q : List ℕ). same_name n q ≡ false) (enables_of plan) (enable_name plan.masks) (λ m lt. en m))

    past5 : (n : List ℕ) → IsFurther n → ((k : ℕ) → same_name n (with_number (codes "sel") k) ≡ false) → ((i : ℕ) → same_name n (with_number (codes "d") i) ≡ false) → ((m : ℕ) → same_name n (enable_name plan.masks m) ≡ false) → ((i : ℕ) → same_name n (with_number (codes "o") i) ≡ false)
        → look (net_within label n) (bank_ports plan) nodes n ≡ look (net_within label n) supplies supplies n
    past5 n off sel d en o =
        past4 n off sel d en
        ∙ look_past (net_within label n) n (data_outputs plan) supplies douts supplies outputs_long (all_tabulate (λ (q : List ℕ). same_name n q ≡ false) plan.word_size (with_number (codes "o")) (λ i lt. o i))

    enable_seen : (m : ℕ) → m < enables_of plan → by_name seen (enable_name plan.masks m) ≡ bank_enable plan b m
    enable_seen m lt =
        let n = enable_name plan.masks m in
        is n
        ∙ ap net_key (past3 n
        (record {
          line = λ h k. enable_cases_in (λ q. same_name q (with_numbers (codes "p") h k) ≡ false) plan.masks m refl refl;
          wlen = enable_cases_in (λ q. same_name q (codes "wlen") ≡ false) plan.masks m refl refl;
          sen = enable_cases_in (λ q. same_name q (codes "sen") ≡ false) plan.masks m refl refl;
          clkb = enable_cases_in (λ q. same_name q (codes "clkb") ≡ false) plan.masks m refl refl;
        })
        (λ k. enable_cases_in (λ q. same_name q (with_number (codes "sel") k) ≡ false) plan.masks m refl refl) (λ i. enable_cases_in (λ q. same_name q (with_number (codes "d") i) ≡ false) plan.masks m refl refl)
        ∙ look_append (net_within label n) n (write_enables plan) ports4 (bank_enables plan b) nodes4 enables_long
        ∙ look_map (look (net_within label n) ports4 nodes4 n) n (enable_name plan.masks) (bank_enable plan b) (numbers_from 0 (enables_of plan)) m (one_number 0 (enables_of plan) m (omega arith) (omega arith)) refl
        (all_numbers (λ j. enable_name plan.masks j ≡ n → bank_enable plan b j ≡ bank_enable plan b m) 0 (enables_of plan)
        (λ j from lt_j e. ap (bank_enable plan b) (one_enable plan.masks j m (enables_within plan j (omega arith)) (enables_within plan m lt) (bounds plan p).enables e))))

    output_seen : (i : ℕ) → i < plan.word_size → by_name seen (with_number (codes "o") i) ≡ with_index (codes "dout0") i
    output_seen i lt =
        let n = with_number (codes "o") i in
        is n
        ∙ ap net_key (past4 n (record { line = λ h k. refl; wlen = refl; sen = refl; clkb = refl }) (λ k. refl) (λ j. refl) (λ m. enable_cases_in (λ q. same_name n q ≡ false) plan.masks m refl refl)
        ∙ look_append (net_within label n) n (data_outputs plan) supplies douts supplies outputs_long
        ∙ look_map (look (net_within label n) supplies supplies n) n (with_number (codes "o")) (with_index (codes "dout0")) (numbers_from 0 plan.word_size) i (one_number 0 plan.word_size i (omega arith) (omega arith)) refl
        (all_numbers (λ j. with_number (codes "o") j ≡ n → with_index (codes "dout0") j ≡ with_index (codes "dout0") i) 0 plan.word_size
        (λ j from lt_j e. ap (with_index (codes "dout0")) (let tail : decimal j ++ [] ≡ decimal i ++ [] = cc in num_same [] with_number j i (few_words plan p j (omega arith)) (few_words plan p i lt) tail))))

    local_bank : (n : List ℕ) → label ++ 65 ∷ n ≡ in_bank plan b ++ n
    local_bank n = sym (append_assoc label (65 ∷ []) n)

    bank_sees : BankSees plan b seen
    bank_sees = record {
      line = λ n h. is n ∙ ap net_key (look_front (net_within label n) n (predecode_lines plan) ports0 nodes0 h);
      wlen = is (codes "wlen") ∙ ap net_key (past0 (codes "wlen") (λ h k. refl)) ∙ sym (wlen_by plan plan.bank_bits b refl);
      sen = is (codes "sen") ∙ ap net_key (past0 (codes "sen") (λ h k. refl)) ∙ sym (sen_by plan plan.bank_bits b refl);
      clkb = is (codes "clkb") ∙ ap net_key (past0 (codes "clkb") (λ h k. refl));
      sel = λ k some lt.
          is (with_number (codes "sel") k)
          ∙ ap net_key (past1 (with_number (codes "sel") k) (record { line = λ h k. refl; wlen = refl; sen = refl; clkb = refl })
          ∙ look_front (net_within label (with_number (codes "sel") k)) (with_number (codes "sel") k) (column_choices plan.col_bits) ports2 nodes2 (one_choice plan.col_bits k some lt))
          ∙ sym (sel_by plan k some);
      d = λ i lt.
          is (with_number (codes "d") i)
          ∙ ap net_key (past2 (with_number (codes "d") i) (record { line = λ h k. refl; wlen = refl; sen = refl; clkb = refl }) (λ k. refl)
          ∙ look_front (net_within label (with_number (codes "d") i)) (with_number (codes "d") i) (data_inputs plan) ports3 nodes3 (one_tabulate (inputs_of plan) (with_number (codes "d")) i lt));
      enable = λ m lt. enable_seen m lt ∙ sym (enable_by plan plan.bank_bits plan.masks b m refl refl);
      o = output_seen;
      bl = λ c lt.
          is (with_number (codes "bl") c) ∙ ap net_key (past5 (with_number (codes "bl") c) (record { line = λ h k. refl; wlen = refl; sen = refl; clkb = refl }) (λ k. refl) (λ i. refl) (λ m. enable_cases_in (λ q. same_name (with_number (codes "bl") c) q ≡ false) plan.masks m refl refl) (λ i. refl))
          ∙ local_bank (with_number (codes "bl") c);
      br = λ c lt.
          is (with_number (codes "br") c) ∙ ap net_key (past5 (with_number (codes "br") c) (record { line = λ h k. refl; wlen = refl; sen = refl; clkb = refl }) (λ k. refl) (λ i. refl) (λ m. enable_cases_in (λ q. same_name (with_number (codes "br") c) q ≡ false) plan.masks m refl refl) (λ i. refl))
          ∙ local_bank (with_number (codes "br") c);
      vdd = is (codes "vdd") ∙ ap net_key (past5 (codes "vdd") (record { line = λ h k. refl; wlen = refl; sen = refl; clkb = refl }) (λ k. refl) (λ i. refl) (λ m. enable_cases_in (λ q. same_name (codes "vdd") q ≡ false) plan.masks m refl refl) (λ i. refl));
      gnd = is (codes "gnd") ∙ ap net_key (past5 (codes "gnd") (record { line = λ h k. refl; wlen = refl; sen = refl; clkb = refl }) (λ k. refl) (λ i. refl) (λ m. enable_cases_in (λ q. same_name (codes "gnd") q ≡ false) plan.masks m refl refl) (λ i. refl));
      deep = seen_deep subckts find (own_name ++ codes "_bank") (bank_ports plan) (bank_instances plan own_name) bank net_key (top_bank plan own_name b) label nodes bank_is [] (λ instance path name. refl);
    }

    bank_part : (d : ℕ) → Flattens (row_of plan cell bits) subckts [] net_key (visits_in subckts (below subckts (suc (suc (suc d)))) (resolved_instance find (top_bank plan own_name b)) (resolved_instance find (top_bank plan own_name b)).index) (bank_leaves plan b)
    bank_part d =
        subckt_flat subckts find (own_name ++ codes "_bank") (bank_ports plan) (bank_instances plan own_name) bank net_key (top_bank plan own_name b) label nodes bank_is (row_of plan cell bits) (suc (suc d)) [] (bank_leaves plan b)
        (bank_flat plan p cell bits own_name subckts find leaf own_cells b seen bank_sees d)

  -- all rows
  pub top_flat : (d : ℕ) → Flattens (row_of plan cell bits) subckts [] net_key (visits_by subckts (below subckts (suc (suc (suc d)))) (map (resolved_instance find) (top_instances plan own_name))) (leaf_instances plan)
  top_flat d =
      let f = below subckts (suc (suc (suc d))) in
      let row : Instance = subckt_instance (codes "xlogic") (logic_ports plan) (own_name ++ codes "_logic") in
      flat_both (row_of plan cell bits) subckts [] net_key (visits_in subckts f (resolved_instance find row) (resolved_instance find row).index) (visits_by subckts f (map (resolved_instance find) (tabulate (banks_of plan) (top_bank plan own_name)))) (map LogicAt (logic_cells plan)) (tabulate_lists (banks_of plan) (bank_leaves plan))
      (logic_flat plan p cell bits own_name subckts find leaf logic (suc (suc d)))
      (flat_eachs (row_of plan cell bits) subckts [] net_key f (resolved_instance find) (top_bank plan own_name) (bank_leaves plan) (numbers_from 0 (banks_of plan))
      (all_numbers (λ b. Flattens (row_of plan cell bits) subckts [] net_key (visits_in subckts f (resolved_instance find (top_bank plan own_name b)) (resolved_instance find (top_bank plan own_name b)).index) (bank_leaves plan b)) 0 (banks_of plan)
      (λ b from lt. bank_part b (omega arith) d)))
