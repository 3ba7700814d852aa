-- The instances of each written subcircuit have names that differ.
use Rattle.std.proofs.Common.{◌≡◌, ℕ, zero, suc, ◌+◌, ◌<◌, ◌≤◌, ◌^◌, List, [], ◌∷◌, ◌++◌, map, true, Bool, cond, length, refl, sym, ap, subst, ◌∙◌, arith}
use Rattle.std.specs.Prelude.{codes}
use Rattle.std.specs.List.{AllByRecursion}
use Rattle.netlist.specs.declared.deck.Instance.{Instance}
use Rattle.row_laws.proofs.LookLaws.{all_append, all_map}
use Rattle.cell_roles.specs.declared.role.Role.{Role}
use Rattle.sram_netlist.specs.Organization.{Organization, inputs_of, IsBuildable, IsGroupSize, power_of_two, bank_rows, columns_of, banks_of, bank_bit, addr_bits}
use Rattle.sram_netlist.specs.Instances.{LogicCell, Pn, Pi, Ad, Ai, Dd, Dm, Ln, Li, Kn, Ki, Gn, Gi}
use Rattle.sram_netlist.specs.Netlist.{enables_of}
use Rattle.sram_netlist.specs.Names.{LineKind, Column, Group, Bank, line_kind, line_kind_in, gate_name, inv_name, bank_name, cell_name, with_number}
use Rattle.sram_netlist.specs.InstanceList.{tabulate, tabulate_lists, fixed_cells, address_cells, line_gates, gates, choice_gates, groups_gates, bank_cells, banks_cells, enable_gates, enable_cells, logic_cells}
use Rattle.sram_netlist.proofs.Bounds.{bounds, size_small}
use Rattle.sram_netlist.proofs.ChoiceLaws.{nat_same, nat_other, behind, column, past_groups}
use Rattle.sram_netlist.proofs.NamesTell.{letters, first, rest}
use Rattle.sram_netlist.specs.BitCells.{BitCells}
use Rattle.sram_deck.specs.Deck.{row_nand, row_driver, row_bit, row_instances, array_row, array_instances, pre_column, pre_instances, data_write, data_sense, data_mux, data_tie, data_links, data_instances, bank_instances, logic_cell, logic_instances, top_logic, top_bank, top_instances}
use Rattle.sram_rows.proofs.DifferLaws.{among, apart, kinds_of, DifferBy, AreTold, told_none, told_both, told_more, told_lists, told_tabulate, told_pair, told_list, all_follow}
use Rattle.sram_rows.proofs.NumberedNames.{number_letters, numbers_letters, first_number, second_number, has_no_digit, number_is, numbers_are}
use Rattle.sram_rows.proofs.PlainNames.{few_columns, few_rows, few_words, few_inputs, few_written, few_choices}
use Rattle.sram_rows.proofs.PlainNetNames.{few_banks}
use Rattle.sram_rows.proofs.Segments.{few_of, few_groups, all_tabulate_lists}

abbrev pub name_of_instance : Instance → List ℕ
name_of_instance i = i.name

-- items that are numbered
numbered : {X : Type 0} (name : X → List ℕ) (n : ℕ) (f : ℕ → X) (ls : List ℕ) (ks : List (List ℕ)) → ((k : ℕ) → name (f k) ≡ with_number ls k) → ((k : ℕ) → k < n → k < 2 ^ 64) → has_no_digit ls ≡ true → among ks (letters ls) ≡ true → AreTold name (tabulate n f) ks
numbered name n f ls ks is few none e =
    told_tabulate name first_number n f ks (λ k lt. ap (λ (l : List ℕ). among ks (letters l)) (is k) ∙ ap (among ks) (number_letters ls k (few k lt)) ∙ e) (λ k lt. ap first_number (is k) ∙ number_is ls k none (few k lt))

differ_map : {X Y : Type 0} (name : Y → List ℕ) (f : X → Y) (xs : List X) → DifferBy (λ x. name (f x)) xs → DifferBy name (map f xs)
differ_map name f [] d = tt
differ_map name f (x ∷ xs) d = (all_map (λ y. name (f x) ≡ name y → ⊥) f xs d.0, differ_map name f xs d.1)

-- The logic row

module _ (plan : Organization) (p : IsBuildable plan) where
  abbrev AreToldCells : List LogicCell → List (List ℕ) → Type 0
  AreToldCells cs ks = AreTold (cell_name plan) cs ks

  -- the gates of lines whose names have one number
  gates_told : (o b : ℕ) (κ : LineKind) (l m : List ℕ) → line_kind plan o ≡ κ → ((k : ℕ) → gate_name κ k ≡ with_number l k) → ((k : ℕ) → inv_name κ k ≡ with_number m k) → ((k : ℕ) → k < power_of_two b → k < 2 ^ 64)
      → has_no_digit l ≡ true → has_no_digit m ≡ true → apart (letters l ∷ []) (letters m ∷ []) ≡ true → AreToldCells (gates o b) (letters l ∷ letters m ∷ [])
  gates_told o b κ l m is gate inv few none none' off = told_lists (cell_name plan) first_number (power_of_two b) (line_gates o b) (letters l ∷ letters m ∷ [])
      (λ k lt. told_pair (cell_name plan) (Pn o b k) (Pi o b k) (letters l) (letters m) (ap (λ (c : LineKind). letters (gate_name c k)) is ∙ ap letters (gate k) ∙ number_letters l k (few k lt))
      (ap (λ (c : LineKind). letters (inv_name c k)) is ∙ ap letters (inv k) ∙ number_letters m k (few k lt)) off)
      (λ k lt. (
        ap (λ (c : LineKind). first_number (gate_name c k)) is ∙ ap first_number (gate k) ∙ number_is l k none (few k lt),
        (ap (λ (c : LineKind). first_number (inv_name c k)) is ∙ ap first_number (inv k) ∙ number_is m k none' (few k lt), tt),
      ))

  abbrev choice_kinds : List (List ℕ)
  choice_kinds = codes "xsn" ∷ codes "xsi" ∷ []

  choice_told : (m : ℕ) → plan.col_bits ≡ m → AreToldCells (choice_gates m) choice_kinds
  choice_told zero e = told_none (cell_name plan) choice_kinds
  choice_told (suc m) e =
      gates_told 0 (suc m) Column (codes "xsn") (codes "xsi") (column plan.col_bits 0 plan.groups refl (omega (arith, e))) (λ k. refl) (λ k. refl) (λ k lt. few_choices plan p k (subst (λ (n : ℕ). k < power_of_two n) (sym e) lt)) refl refl refl

  abbrev group_kinds : List (List ℕ)
  group_kinds = codes "xpn_" ∷ codes "xpi_" ∷ []

  -- the gates of the predecode lines, group by group
  record AreGroups (bs : List ℕ) (from g : ℕ) : Type 0 where
    pub told : AreToldCells (groups_gates bs from) group_kinds
    pub later : AllByRecursion (λ c. g ≤ first_number (cell_name plan c)) (groups_gates bs from)

  module _ (b o g : ℕ) (is : line_kind plan o ≡ Group g) (g_few : g < 2 ^ 64) (few : (k : ℕ) → k < power_of_two b → k < 2 ^ 64) where
    abbrev IsOfGroup : LogicCell → Type 0
    IsOfGroup c = first_number (cell_name plan c) ≡ g

    group_of : AllByRecursion IsOfGroup (gates o b)
    group_of = all_tabulate_lists IsOfGroup (power_of_two b) (line_gates o b) (λ k lt. (
      ap (λ (c : LineKind). first_number (gate_name c k)) is ∙ ap first (numbers_are (codes "xpn") g k refl g_few (few k lt)),
      (ap (λ (c : LineKind). first_number (inv_name c k)) is ∙ ap first (numbers_are (codes "xpi") g k refl g_few (few k lt)), tt),
    ))

    group_told : AreToldCells (gates o b) group_kinds
    group_told = told_lists (cell_name plan) second_number (power_of_two b) (line_gates o b) group_kinds
        (λ k lt. told_pair (cell_name plan) (Pn o b k) (Pi o b k) (codes "xpn_") (codes "xpi_") (ap (λ (c : LineKind). letters (gate_name c k)) is ∙ numbers_letters (codes "xpn") g k g_few (few k lt))
        (ap (λ (c : LineKind). letters (inv_name c k)) is ∙ numbers_letters (codes "xpi") g k g_few (few k lt)) refl)
        (λ k lt. (
          ap (λ (c : LineKind). second_number (gate_name c k)) is ∙ ap (λ (ns : List ℕ). first (rest ns)) (numbers_are (codes "xpn") g k refl g_few (few k lt)),
          (ap (λ (c : LineKind). second_number (inv_name c k)) is ∙ ap (λ (ns : List ℕ). first (rest ns)) (numbers_are (codes "xpi") g k refl g_few (few k lt)), tt),
        ))

  groups_are : (bs : List ℕ) (from g : ℕ) → AllByRecursion IsGroupSize bs → g + length bs ≤ 3 → ((o : ℕ) → from ≤ o → line_kind plan o ≡ line_kind_in bs from g o) → AreGroups bs from g
  groups_are [] from g sizes few are = record { told = told_none (cell_name plan) group_kinds; later = tt }
  groups_are (b ∷ bs) from g sizes few are =
      let some = (size_small b sizes.0).0 in
      let own : line_kind plan from ≡ Group g = are from (omega arith) ∙ ap (λ (t : Bool). cond t (Group g) (line_kind_in bs (from + b) (suc g) from)) (nat_same from) in
      let more = groups_are bs (from + b) (suc g) sizes.1 (omega arith)
      (λ o past. are o (omega arith) ∙ ap (λ (t : Bool). cond t (Group g) (line_kind_in bs (from + b) (suc g) o)) (nat_other o from (λ same. omega (arith, some, same)))) in
      let g_few : g < 2 ^ 64 = omega arith in
      let k_few = λ (k : ℕ) (lt : k < power_of_two b). let eight = few_of b sizes.0 in let small : k < 2 ^ 64 = omega (arith, eight) in small in
      let here = group_of b from g own g_few k_few in
      record {
        told =
            told_more (cell_name plan) first_number g (gates from b) (groups_gates bs (from + b)) group_kinds (group_told b from g own g_few k_few) more.told here
            (all_follow (λ c. suc g ≤ first_number (cell_name plan c)) (λ c. g < first_number (cell_name plan c)) (groups_gates bs (from + b)) (λ c le. omega (arith, le)) more.later);
        later =
            all_append (λ c. g ≤ first_number (cell_name plan c)) (gates from b) (groups_gates bs (from + b))
            (all_follow (λ c. first_number (cell_name plan c) ≡ g) (λ c. g ≤ first_number (cell_name plan c)) (gates from b) (λ c e. omega (arith, e)) here)
            (all_follow (λ c. suc g ≤ first_number (cell_name plan c)) (λ c. g ≤ first_number (cell_name plan c)) (groups_gates bs (from + b)) (λ c le. omega (arith, le)) more.later);
      }

  groups_told : AreToldCells (groups_gates plan.groups plan.col_bits) group_kinds
  groups_told = (groups_are plan.groups plan.col_bits 0 p.sizes (let few = few_groups plan p in omega (arith, few)) (λ o past. behind plan.col_bits o plan.groups past)).told

  few_address : (i : ℕ) → i < addr_bits plan → i < 2 ^ 64
  few_address i lt = let e = (bounds plan p).address in omega (arith, e, lt)

  few_masks : (m : ℕ) → m < plan.masks → m < 2 ^ 64
  few_masks m lt = let e = (bounds plan p).masks in omega (arith, e, lt)

  abbrev address_kinds : List (List ℕ)
  address_kinds = codes "xad" ∷ codes "xai" ∷ []

  address_told : AreToldCells (tabulate_lists (addr_bits plan) address_cells) address_kinds
  address_told = told_lists (cell_name plan) first_number (addr_bits plan) address_cells address_kinds
      (λ i lt. let few = few_address i lt in told_pair (cell_name plan) (Ad i) (Ai i) (codes "xad") (codes "xai") (number_letters (codes "xad") i few) (number_letters (codes "xai") i few) refl)
      (λ i lt. let few = few_address i lt in (number_is (codes "xad") i refl few, (number_is (codes "xai") i refl few, tt)))

  -- the choices of banks and the enables of each
  abbrev choice_of_bank_kinds : List (List ℕ)
  choice_of_bank_kinds = codes "xbn" ∷ codes "xbi" ∷ []

  abbrev control_kinds : List (List ℕ)
  control_kinds = codes "xln" ∷ codes "xli" ∷ codes "xkn" ∷ codes "xki" ∷ []

  bank_line_kind : line_kind plan (bank_bit plan) ≡ Bank
  bank_line_kind = behind plan.col_bits (bank_bit plan) plan.groups (omega arith) ∙ past_groups plan.groups plan.col_bits 0 (bank_bit plan) p.sizes (omega arith)

  controls_told : (n : ℕ) → ((b : ℕ) → b < n → b < 2 ^ 64) → AreToldCells (tabulate_lists n bank_cells) control_kinds
  controls_told n few = told_lists (cell_name plan) first_number n bank_cells control_kinds
      (λ b lt. let f = few b lt in
      told_both (cell_name plan) (Ln b ∷ Li b ∷ []) (Kn b ∷ Ki b ∷ []) (codes "xln" ∷ codes "xli" ∷ []) (codes "xkn" ∷ codes "xki" ∷ [])
      (told_pair (cell_name plan) (Ln b) (Li b) (codes "xln") (codes "xli") (number_letters (codes "xln") b f) (number_letters (codes "xli") b f) refl)
      (told_pair (cell_name plan) (Kn b) (Ki b) (codes "xkn") (codes "xki") (number_letters (codes "xkn") b f) (number_letters (codes "xki") b f) refl) refl)
      (λ b lt. let f = few b lt in (number_is (codes "xln") b refl f, (number_is (codes "xli") b refl f, (number_is (codes "xkn") b refl f, (number_is (codes "xki") b refl f, tt)))))

  banks_told : (n : ℕ) → ((b : ℕ) → b < power_of_two n → b < 2 ^ 64) → AreToldCells (banks_cells plan n) (choice_of_bank_kinds ++ control_kinds)
  banks_told zero few = told_none (cell_name plan) (choice_of_bank_kinds ++ control_kinds)
  banks_told (suc n) few =
      told_both (cell_name plan) (gates (bank_bit plan) (suc n)) (tabulate_lists (power_of_two (suc n)) bank_cells) choice_of_bank_kinds control_kinds
      (gates_told (bank_bit plan) (suc n) Bank (codes "xbn") (codes "xbi") bank_line_kind (λ k. refl) (λ k. refl) few refl refl refl) (controls_told (power_of_two (suc n)) few) refl

  -- the write enables
  abbrev enable_kinds : List (List ℕ)
  enable_kinds = codes "xgn_" ∷ codes "xgi_" ∷ []

  gates_of : (n k : ℕ) → ((b : ℕ) → b < n → b < 2 ^ 64) → ((m : ℕ) → m < k → m < 2 ^ 64) → AreToldCells (tabulate_lists n (λ b. tabulate_lists k (enable_gates b))) enable_kinds
  gates_of n k few masks = told_lists (cell_name plan) first_number n (λ b. tabulate_lists k (enable_gates b)) enable_kinds
      (λ b lt. told_lists (cell_name plan) second_number k (enable_gates b) enable_kinds
      (λ m less. let f = few b lt in let f' = masks m less in
      told_pair (cell_name plan) (Gn b m) (Gi b m) (codes "xgn_") (codes "xgi_") (numbers_letters (codes "xgn") b m f f') (numbers_letters (codes "xgi") b m f f') refl)
      (λ m less. let f = few b lt in let f' = masks m less in (
        ap (λ (ns : List ℕ). first (rest ns)) (numbers_are (codes "xgn") b m refl f f'),
        (ap (λ (ns : List ℕ). first (rest ns)) (numbers_are (codes "xgi") b m refl f f'), tt),
      )))
      (λ b lt. all_tabulate_lists (λ c. first_number (cell_name plan c) ≡ b) k (enable_gates b) (λ m less. let f = few b lt in let f' = masks m less in
      (ap first (numbers_are (codes "xgn") b m refl f f'), (ap first (numbers_are (codes "xgi") b m refl f f'), tt))))

  enables_told : (n k enables : ℕ) → ((b : ℕ) → b < power_of_two n → b < 2 ^ 64) → ((m : ℕ) → m < enables → m < 2 ^ 64) → AreToldCells (enable_cells n k enables) enable_kinds
  enables_told zero zero enables few masks = told_none (cell_name plan) enable_kinds
  enables_told zero (suc k) enables few masks = gates_of 1 enables few masks
  enables_told (suc n) k enables few masks = gates_of (power_of_two (suc n)) enables few masks

  -- behind the data bits, and behind clock and control
  abbrev late_kinds : List (List ℕ)
  late_kinds = codes "xdm" ∷ ((choice_of_bank_kinds ++ control_kinds) ++ enable_kinds)

  abbrev gate_kinds : List (List ℕ)
  gate_kinds = address_kinds ++ (choice_kinds ++ (group_kinds ++ (codes "xdd" ∷ late_kinds)))

  abbrev fixed_kinds : ℕ → List (List ℕ)
  fixed_kinds w = kinds_of (cell_name plan) (fixed_cells w)

  fixed_told : (w : ℕ) → AreToldCells (fixed_cells w) (fixed_kinds w)
  fixed_told zero = told_list (cell_name plan) (fixed_cells 0) refl
  fixed_told (suc w) = told_list (cell_name plan) (fixed_cells (suc w)) refl

  fixed_apart : (w : ℕ) → apart (fixed_kinds w) gate_kinds ≡ true
  fixed_apart zero = refl
  fixed_apart (suc w) = refl

  pub cells_differ : DifferBy (cell_name plan) (logic_cells plan)
  cells_differ =
      let k4 = codes "xdd" ∷ late_kinds in
      let k3 = group_kinds ++ k4 in
      let k2 = choice_kinds ++ k3 in
      let enables = enable_cells plan.bank_bits plan.masks (enables_of plan) in
      let c6 = banks_cells plan plan.bank_bits ++ enables in
      let c5 = tabulate plan.masks Dm ++ c6 in
      let c4 = tabulate (inputs_of plan) Dd ++ c5 in
      let c3 = groups_gates plan.groups plan.col_bits ++ c4 in
      let c2 = choice_gates plan.col_bits ++ c3 in
      let c1 = tabulate_lists (addr_bits plan) address_cells ++ c2 in
      (told_both (cell_name plan) (fixed_cells plan.write_size) c1 (fixed_kinds plan.write_size) gate_kinds (fixed_told plan.write_size)
      (told_both (cell_name plan) (tabulate_lists (addr_bits plan) address_cells) c2 address_kinds k2 address_told
      (told_both (cell_name plan) (choice_gates plan.col_bits) c3 choice_kinds k3 (choice_told plan.col_bits refl)
      (told_both (cell_name plan) (groups_gates plan.groups plan.col_bits) c4 group_kinds k4 groups_told
      (told_both (cell_name plan) (tabulate (inputs_of plan) Dd) c5 (codes "xdd" ∷ []) late_kinds (numbered (cell_name plan) (inputs_of plan) Dd (codes "xdd") (codes "xdd" ∷ []) (λ k. refl) (few_inputs plan p) refl refl)
      (told_both (cell_name plan) (tabulate plan.masks Dm) c6 (codes "xdm" ∷ []) ((choice_of_bank_kinds ++ control_kinds) ++ enable_kinds) (numbered (cell_name plan) plan.masks Dm (codes "xdm") (codes "xdm" ∷ []) (λ k. refl) few_masks refl refl)
      (told_both (cell_name plan) (banks_cells plan plan.bank_bits) enables (choice_of_bank_kinds ++ control_kinds) enable_kinds (banks_told plan.bank_bits (few_banks plan p))
      (enables_told plan.bank_bits plan.masks (enables_of plan) (few_banks plan p) (few_written plan p)) refl) refl) refl) refl) refl) refl) (fixed_apart plan.write_size)).differ

  -- The subcircuits

  module _ (cell : Role → List ℕ) (bits : BitCells) (n : List ℕ) where
    abbrev AreDifferent : List Instance → Type 0
    AreDifferent is = DifferBy name_of_instance is

    pub logic_instances_differ : AreDifferent (logic_instances plan cell)
    logic_instances_differ = differ_map name_of_instance (logic_cell plan cell) (logic_cells plan) cells_differ

    pub row_instances_differ : (r : ℕ) → AreDifferent (row_instances plan cell bits r)
    row_instances_differ r =
        (told_both name_of_instance (row_nand plan cell ∷ row_driver cell ∷ []) (tabulate (columns_of plan) (row_bit bits r)) (codes "xnand" ∷ codes "xdrv" ∷ []) (codes "xb" ∷ []) (told_list name_of_instance (row_nand plan cell ∷ row_driver cell ∷ []) refl)
        (numbered name_of_instance (columns_of plan) (row_bit bits r) (codes "xb") (codes "xb" ∷ []) (λ k. refl) (few_columns plan p) refl refl) refl).differ

    pub array_instances_differ : AreDifferent (array_instances plan bits n)
    array_instances_differ = (numbered name_of_instance (bank_rows plan) (array_row plan bits n) (codes "xr") (codes "xr" ∷ []) (λ k. refl) (few_rows plan p) refl refl).differ

    pub pre_instances_differ : AreDifferent (pre_instances plan cell)
    pre_instances_differ = (numbered name_of_instance (columns_of plan) (pre_column cell) (codes "xp") (codes "xp" ∷ []) (λ k. refl) (few_columns plan p) refl refl).differ

    abbrev link_kinds : List (List ℕ)
    link_kinds = codes "xt" ∷ codes "xm" ∷ []

    links_told : (m : ℕ) → AreTold name_of_instance (data_links plan cell m) link_kinds
    links_told zero = numbered name_of_instance (columns_of plan) (data_tie cell) (codes "xt") link_kinds (λ k. refl) (few_columns plan p) refl refl
    links_told (suc m) = numbered name_of_instance (columns_of plan) (data_mux plan cell) (codes "xm") link_kinds (λ k. refl) (few_columns plan p) refl refl

    pub data_instances_differ : AreDifferent (data_instances plan cell)
    data_instances_differ =
        (told_both name_of_instance (tabulate (inputs_of plan) (data_write plan cell)) (tabulate plan.word_size (data_sense plan cell) ++ data_links plan cell plan.col_bits) (codes "xw" ∷ []) (codes "xs" ∷ link_kinds)
        (numbered name_of_instance (inputs_of plan) (data_write plan cell) (codes "xw") (codes "xw" ∷ []) (λ k. refl) (few_inputs plan p) refl refl)
        (told_both name_of_instance (tabulate plan.word_size (data_sense plan cell)) (data_links plan cell plan.col_bits) (codes "xs" ∷ []) link_kinds
        (numbered name_of_instance plan.word_size (data_sense plan cell) (codes "xs") (codes "xs" ∷ []) (λ k. refl) (few_words plan p) refl refl) (links_told plan.col_bits) refl) refl).differ

    pub bank_instances_differ : AreDifferent (bank_instances plan n)
    bank_instances_differ = (told_list name_of_instance (bank_instances plan n) refl).differ

    bank_letters : (k b : ℕ) → b < power_of_two k → b < 2 ^ 64 → among (codes "xbank" ∷ []) (letters (bank_name k b)) ≡ true
    bank_letters zero b lt few = refl
    bank_letters (suc k) b lt few = ap (among (codes "xbank" ∷ [])) (number_letters (codes "xbank") b few)

    bank_number : (k b : ℕ) → b < power_of_two k → b < 2 ^ 64 → first_number (bank_name k b) ≡ b
    bank_number zero b lt few = omega arith
    bank_number (suc k) b lt few = number_is (codes "xbank") b refl few

    pub top_instances_differ : AreDifferent (top_instances plan n)
    top_instances_differ =
        (told_both name_of_instance (top_logic plan n ∷ []) (tabulate (banks_of plan) (top_bank plan n)) (codes "xlogic" ∷ []) (codes "xbank" ∷ []) (told_list name_of_instance (top_logic plan n ∷ []) refl)
        (told_tabulate name_of_instance first_number (banks_of plan) (top_bank plan n) (codes "xbank" ∷ []) (λ b lt. bank_letters plan.bank_bits b lt (few_banks plan p b lt)) (λ b lt. bank_number plan.bank_bits b lt (few_banks plan p b lt))) refl).differ
