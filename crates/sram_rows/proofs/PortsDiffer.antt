-- The ports of each written subcircuit differ.
use Rattle.std.proofs.Common.{◌≡◌, ◌⊎◌, inl, inr, ℕ, zero, suc, ◌<◌, ◌≤◌, ◌^◌, List, [], ◌∷◌, ◌++◌, ◌+◌, true, None, length, refl, sym, ap, subst, ◌∙◌, arith}
use Rattle.std.specs.Prelude.{codes}
use Rattle.std.specs.List.{AllByRecursion}
use Rattle.row_laws.proofs.LookLaws.{all_append}
use Rattle.cell_roles.specs.Roles.{supplies}
use Rattle.sram_netlist.specs.Organization.{Organization, IsBuildable, written_bits, inputs_of, IsGroupSize, power_of_two, words_per_row, columns_of, banks_of, addr_bits}
use Rattle.sram_netlist.specs.Netlist.{enable_count, enable_at, wlen_at, sen_at}
use Rattle.sram_netlist.specs.Names.{with_number, with_numbers, with_index, net_name}
use Rattle.sram_netlist.specs.InstanceList.{tabulate, tabulate_lists}
use Rattle.sram_netlist.proofs.Bounds.{bounds}
use Rattle.sram_netlist.proofs.NamesTell.{letters, runs, first, rest}
use Rattle.sram_deck.specs.Deck.{web_ports, row_inputs, predecode_lines, predecode_lines_from, column_bit_lines, all_bit_lines, column_choices, enable_name, write_enables, data_inputs, data_outputs, port_bits, sen_name, bank_enables, macro_inputs, bank_control_names, row_ports, array_ports, pre_ports, data_ports, bank_ports, logic_ports, top_ports}
use Rattle.sram_rows.proofs.DifferLaws.{among, apart, distinct, kinds_of, DifferBy, AreTold, told_none, told_one, told_both, told_more, told_lists, told_tabulate, told_pair, told_list, all_follow}
use Rattle.sram_rows.proofs.NumberedNames.{number_letters, numbers_letters, index_letters, first_number, second_number, has_no_digit, number_is, numbers_are, index_is}
use Rattle.sram_rows.proofs.PlainNames.{few_columns, few_words, few_inputs, few_written, few_choices}
use Rattle.sram_rows.proofs.PlainNetNames.{few_banks}
use Rattle.sram_rows.proofs.Segments.{few_of, few_groups, all_tabulate}

abbrev pub AreToldNames : List (List ℕ) → List (List ℕ) → Type 0
AreToldNames ns ks = AreTold (λ (n : List ℕ). n) ns ks

-- Families of names

pub numbered : (n : ℕ) (ls : List ℕ) (ks : List (List ℕ)) → ((k : ℕ) → k < n → k < 2 ^ 64) → has_no_digit ls ≡ true → among ks (letters ls) ≡ true → AreToldNames (tabulate n (with_number ls)) ks
numbered n ls ks few none e = told_tabulate (λ (n : List ℕ). n) first_number n (with_number ls) ks (λ k lt. ap (among ks) (number_letters ls k (few k lt)) ∙ e) (λ k lt. number_is ls k none (few k lt))

indexed : (n : ℕ) (ls : List ℕ) (ks : List (List ℕ)) → ((k : ℕ) → k < n → k < 2 ^ 64) → ((more : List ℕ) → runs None (ls ++ (91 ∷ more)) ≡ 0 ∷ runs None more) → among ks (letters ls ++ (91 ∷ 93 ∷ [])) ≡ true → AreToldNames (port_bits n ls) ks
indexed n ls ks few one e = told_tabulate (λ (n : List ℕ). n) second_number n (with_index ls) ks (λ k lt. ap (among ks) (index_letters ls k (few k lt)) ∙ e) (λ k lt. index_is ls k one (few k lt))

abbrev line_kinds : List (List ℕ)
line_kinds = codes "p_" ∷ []

-- the lines, group by group
record AreLines (bs : List ℕ) (g : ℕ) : Type 0 where
  pub told : AreToldNames (predecode_lines_from bs g) line_kinds
  pub later : AllByRecursion (λ n. g ≤ first_number n) (predecode_lines_from bs g)

lines_are : (bs : List ℕ) (g : ℕ) → AllByRecursion IsGroupSize bs → g + length bs ≤ 3 → AreLines bs g
lines_are [] g sizes few = record { told = told_none (λ (n : List ℕ). n) line_kinds; later = tt }
lines_are (b ∷ bs) g sizes few =
    let more = lines_are bs (suc g) sizes.1 (omega arith) in
    let g_few : g < 2 ^ 64 = omega arith in
    let k_few = λ (k : ℕ) (lt : k < power_of_two b). let eight = few_of b sizes.0 in let small : k < 2 ^ 64 = omega (arith, eight) in small in
    let here : AllByRecursion (λ n. first_number n ≡ g) (tabulate (power_of_two b) (with_numbers (codes "p") g)) =
    all_tabulate (λ n. first_number n ≡ g) (power_of_two b) (with_numbers (codes "p") g) (λ k lt. ap first (numbers_are (codes "p") g k refl g_few (k_few k lt))) in
    let own : AreToldNames (tabulate (power_of_two b) (with_numbers (codes "p") g)) line_kinds =
    told_tabulate (λ (n : List ℕ). n) second_number (power_of_two b) (with_numbers (codes "p") g) line_kinds (λ k lt. ap (among line_kinds) (numbers_letters (codes "p") g k g_few (k_few k lt)))
    (λ k lt. ap (λ (ns : List ℕ). first (rest ns)) (numbers_are (codes "p") g k refl g_few (k_few k lt))) in
    record {
      told =
          told_more (λ (n : List ℕ). n) first_number g (tabulate (power_of_two b) (with_numbers (codes "p") g)) (predecode_lines_from bs (suc g)) line_kinds own more.told here
          (all_follow (λ n. suc g ≤ first_number n) (λ n. g < first_number n) (predecode_lines_from bs (suc g)) (λ n le. omega (arith, le)) more.later);
      later =
          all_append (λ n. g ≤ first_number n) (tabulate (power_of_two b) (with_numbers (codes "p") g)) (predecode_lines_from bs (suc g))
          (all_follow (λ n. first_number n ≡ g) (λ n. g ≤ first_number n) (tabulate (power_of_two b) (with_numbers (codes "p") g)) (λ n e. omega (arith, e)) here)
          (all_follow (λ n. suc g ≤ first_number n) (λ n. g ≤ first_number n) (predecode_lines_from bs (suc g)) (λ n le. omega (arith, le)) more.later);
    }

module _ (plan : Organization) (p : IsBuildable plan) where
  lines_told : AreToldNames (predecode_lines plan) line_kinds
  lines_told = (lines_are plan.groups 0 p.sizes (let few = few_groups plan p in omega (arith, few))).told

  abbrev bit_kinds : List (List ℕ)
  bit_kinds = codes "bl" ∷ codes "br" ∷ []

  bit_lines_told : AreToldNames (all_bit_lines plan) bit_kinds
  bit_lines_told = told_lists (λ (n : List ℕ). n) first_number (columns_of plan) column_bit_lines bit_kinds
      (λ c lt. let few = few_columns plan p c lt in
      told_pair (λ (n : List ℕ). n) (with_number (codes "bl") c) (with_number (codes "br") c) (codes "bl") (codes "br") (number_letters (codes "bl") c few) (number_letters (codes "br") c few) refl)
      (λ c lt. let few = few_columns plan p c lt in (number_is (codes "bl") c refl few, (number_is (codes "br") c refl few, tt)))

  abbrev choice_kinds : List (List ℕ)
  choice_kinds = codes "sel" ∷ []

  choices_by : (m : ℕ) → plan.col_bits ≡ m → AreToldNames (column_choices m) choice_kinds
  choices_by zero e = told_none (λ (n : List ℕ). n) choice_kinds
  choices_by (suc m) e = numbered (power_of_two (suc m)) (codes "sel") choice_kinds (λ k lt. few_choices plan p k (subst_words k lt)) refl refl
    where
      subst_words : (k : ℕ) → k < power_of_two (suc m) → k < words_per_row plan
      subst_words k lt = subst (λ (n : ℕ). k < power_of_two n) (sym e) lt

  choices_told : AreToldNames (column_choices plan.col_bits) choice_kinds
  choices_told = choices_by plan.col_bits refl

  inputs_told : AreToldNames (data_inputs plan) (codes "d" ∷ [])
  inputs_told = numbered (inputs_of plan) (codes "d") (codes "d" ∷ []) (few_inputs plan p) refl refl

  outputs_told : AreToldNames (data_outputs plan) (codes "o" ∷ [])
  outputs_told = numbered plan.word_size (codes "o") (codes "o" ∷ []) (few_words plan p) refl refl

  abbrev enable_kinds : List (List ℕ)
  enable_kinds = codes "wen" ∷ codes "en" ∷ []

  enables_by : (w masks : ℕ) → ((m : ℕ) → m < written_bits w (enable_count masks) → m < 2 ^ 64) → AreToldNames (tabulate (written_bits w (enable_count masks)) (enable_name masks)) enable_kinds
  enables_by zero masks few = told_none (λ (n : List ℕ). n) enable_kinds
  enables_by (suc w) zero few = told_one (λ (n : List ℕ). n) (codes "wen") enable_kinds refl
  enables_by (suc w) (suc n) few = numbered (suc n) (codes "en") enable_kinds few refl refl

  enables_told : AreToldNames (write_enables plan) enable_kinds
  enables_told = enables_by plan.write_size plan.masks (few_written plan p)

  abbrev supply_kinds : List (List ℕ)
  supply_kinds = codes "vdd" ∷ codes "gnd" ∷ []

  supplies_told : AreToldNames supplies supply_kinds
  supplies_told = told_list (λ (n : List ℕ). n) supplies refl

  both : (xs ys : List (List ℕ)) (ks ls : List (List ℕ)) → AreToldNames xs ks → AreToldNames ys ls → apart ks ls ≡ true → AreToldNames (xs ++ ys) (ks ++ ls)
  both = told_both (λ (n : List ℕ). n)

  -- the enables of each bank
  abbrev control_kinds : List (List ℕ)
  control_kinds = codes "wlen" ∷ codes "wen" ∷ codes "we_" ∷ codes "sen" ∷ []

  abbrev writes_in : ℕ → ℕ → ℕ → ℕ → List (List ℕ)
  writes_in w n k b = tabulate (written_bits w (enable_count k)) (λ m. net_name plan (enable_at n k b m))

  abbrev controls_in : ℕ → ℕ → ℕ → ℕ → List (List ℕ)
  controls_in w n k b = net_name plan (wlen_at n b) ∷ (writes_in w n k b ++ (net_name plan (sen_at n b) ∷ []))

  wlen_told : (n b : ℕ) → b < 2 ^ 64 → AreToldNames (net_name plan (wlen_at n b) ∷ []) (codes "wlen" ∷ [])
  wlen_told zero b few = told_one (λ (n : List ℕ). n) (codes "wlen") (codes "wlen" ∷ []) refl
  wlen_told (suc n) b few = told_one (λ (n : List ℕ). n) (with_number (codes "wlen") b) (codes "wlen" ∷ []) (ap (among (codes "wlen" ∷ [])) (number_letters (codes "wlen") b few))

  sen_told : (n b : ℕ) → b < 2 ^ 64 → AreToldNames (net_name plan (sen_at n b) ∷ []) (codes "sen" ∷ [])
  sen_told zero b few = told_one (λ (n : List ℕ). n) (codes "sen") (codes "sen" ∷ []) refl
  sen_told (suc n) b few = told_one (λ (n : List ℕ). n) (with_number (codes "sen") b) (codes "sen" ∷ []) (ap (among (codes "sen" ∷ [])) (number_letters (codes "sen") b few))

  abbrev write_kinds : List (List ℕ)
  write_kinds = codes "wen" ∷ codes "we_" ∷ []

  masked_told : (n b : ℕ) → b < 2 ^ 64 → ((m : ℕ) → m < n → m < 2 ^ 64) → AreToldNames (tabulate n (with_numbers (codes "we") b)) write_kinds
  masked_told n b few masks =
      told_tabulate (λ (n : List ℕ). n) second_number n (with_numbers (codes "we") b) write_kinds (λ m lt. ap (among write_kinds) (numbers_letters (codes "we") b m few (masks m lt)))
      (λ m lt. ap (λ (ns : List ℕ). first (rest ns)) (numbers_are (codes "we") b m refl few (masks m lt)))

  writes_told : (w n k b : ℕ) → b < 2 ^ 64 → ((m : ℕ) → m < written_bits w (enable_count k) → m < 2 ^ 64) → AreToldNames (writes_in w n k b) write_kinds
  writes_told zero n k b few masks = told_none (λ (n : List ℕ). n) write_kinds
  writes_told (suc w) zero zero b few masks = told_one (λ (n : List ℕ). n) (codes "wen") write_kinds refl
  writes_told (suc w) zero (suc k) b few masks = masked_told (suc k) b few masks
  writes_told (suc w) (suc n) k b few masks = masked_told (enable_count k) b few masks

  controls_told : (w n k b : ℕ) → b < 2 ^ 64 → ((m : ℕ) → m < written_bits w (enable_count k) → m < 2 ^ 64) → AreToldNames (controls_in w n k b) control_kinds
  controls_told w n k b few masks =
      both (net_name plan (wlen_at n b) ∷ []) (writes_in w n k b ++ (net_name plan (sen_at n b) ∷ [])) (codes "wlen" ∷ []) (write_kinds ++ (codes "sen" ∷ [])) (wlen_told n b few)
      (both (writes_in w n k b) (net_name plan (sen_at n b) ∷ []) write_kinds (codes "sen" ∷ []) (writes_told w n k b few masks) (sen_told n b few) refl) refl

  -- each has the number of its bank, or none
  abbrev IsOfBank : ℕ → List ℕ → Type 0
  IsOfBank b n = first_number n ≡ b

  masked_of : (n b : ℕ) → b < 2 ^ 64 → ((m : ℕ) → m < n → m < 2 ^ 64) → AllByRecursion (IsOfBank b) (tabulate n (with_numbers (codes "we") b))
  masked_of n b few masks = all_tabulate (IsOfBank b) n (with_numbers (codes "we") b) (λ m lt. ap first (numbers_are (codes "we") b m refl few (masks m lt)))

  writes_of : (w n k b : ℕ) → b < power_of_two n → b < 2 ^ 64 → ((m : ℕ) → m < written_bits w (enable_count k) → m < 2 ^ 64) → AllByRecursion (IsOfBank b) (writes_in w n k b)
  writes_of zero n k b lt few masks = tt
  writes_of (suc w) zero zero b lt few masks = (omega arith, tt)
  writes_of (suc w) zero (suc k) b lt few masks = masked_of (suc k) b few masks
  writes_of (suc w) (suc n) k b lt few masks = masked_of (enable_count k) b few masks

  wlen_of : (n b : ℕ) → b < power_of_two n → b < 2 ^ 64 → IsOfBank b (net_name plan (wlen_at n b))
  wlen_of zero b lt few = omega arith
  wlen_of (suc n) b lt few = number_is (codes "wlen") b refl few

  sen_of : (n b : ℕ) → b < power_of_two n → b < 2 ^ 64 → IsOfBank b (net_name plan (sen_at n b))
  sen_of zero b lt few = omega arith
  sen_of (suc n) b lt few = number_is (codes "sen") b refl few

  banks_told : AreToldNames (tabulate_lists (banks_of plan) (bank_control_names plan)) control_kinds
  banks_told = told_lists (λ (n : List ℕ). n) first_number (banks_of plan) (bank_control_names plan) control_kinds
      (λ b lt. controls_told plan.write_size plan.bank_bits plan.masks b (few_banks plan p b lt) (few_written plan p))
      (λ b lt. let few = few_banks plan p b lt in (
        wlen_of plan.bank_bits b lt few,
        all_append (IsOfBank b) (bank_enables plan b) (sen_name plan b ∷ []) (writes_of plan.write_size plan.bank_bits plan.masks b lt few (few_written plan p)) (sen_of plan.bank_bits b lt few, tt),
      ))

  -- The lists

  row_inputs_told : (groups : List ℕ) → (length groups ≡ 2) ⊎ (length groups ≡ 3) → AreToldNames (row_inputs 97 groups) (codes "a" ∷ codes "b" ∷ codes "c" ∷ [])
  row_inputs_told [] (inl e) = absurd (omega (arith, e))
  row_inputs_told [] (inr e) = absurd (omega (arith, e))
  row_inputs_told (a ∷ []) (inl e) = absurd (omega (arith, e))
  row_inputs_told (a ∷ []) (inr e) = absurd (omega (arith, e))
  row_inputs_told (a ∷ b ∷ []) e = both (codes "a" ∷ codes "b" ∷ []) [] (codes "a" ∷ codes "b" ∷ []) (codes "c" ∷ []) (told_list (λ (n : List ℕ). n) (codes "a" ∷ codes "b" ∷ []) refl) (told_none (λ (n : List ℕ). n) (codes "c" ∷ [])) refl
  row_inputs_told (a ∷ b ∷ c ∷ []) e = told_list (λ (n : List ℕ). n) (codes "a" ∷ codes "b" ∷ codes "c" ∷ []) refl
  row_inputs_told (a ∷ b ∷ c ∷ d ∷ ds) (inl e) = absurd (omega (arith, e))
  row_inputs_told (a ∷ b ∷ c ∷ d ∷ ds) (inr e) = absurd (omega (arith, e))

  words : (ns : List (List ℕ)) → distinct (kinds_of (λ (n : List ℕ). n) ns) ≡ true → AreToldNames ns (kinds_of (λ (n : List ℕ). n) ns)
  words = told_list (λ (n : List ℕ). n)

  -- bit lines and supplies, behind wlen
  abbrev wlen_tail : List (List ℕ)
  wlen_tail = codes "wlen" ∷ (all_bit_lines plan ++ supplies)

  abbrev wlen_tail_kinds : List (List ℕ)
  wlen_tail_kinds = codes "wlen" ∷ (bit_kinds ++ supply_kinds)

  wlen_tail_told : AreToldNames wlen_tail wlen_tail_kinds
  wlen_tail_told =
      both (codes "wlen" ∷ []) (all_bit_lines plan ++ supplies) (codes "wlen" ∷ []) (bit_kinds ++ supply_kinds) (words (codes "wlen" ∷ []) refl)
      (both (all_bit_lines plan) supplies bit_kinds supply_kinds bit_lines_told supplies_told refl) refl

  pub row_differ : DifferBy (λ n. n) (row_ports plan)
  row_differ = (both (row_inputs 97 plan.groups) wlen_tail (codes "a" ∷ codes "b" ∷ codes "c" ∷ []) wlen_tail_kinds (row_inputs_told plan.groups p.groups) wlen_tail_told refl).differ

  pub array_differ : DifferBy (λ n. n) (array_ports plan)
  array_differ = (both (predecode_lines plan) wlen_tail line_kinds wlen_tail_kinds lines_told wlen_tail_told refl).differ

  pub pre_differ : DifferBy (λ n. n) (pre_ports plan)
  pre_differ =
      (both (all_bit_lines plan) (codes "clkb" ∷ supplies) bit_kinds (codes "clkb" ∷ supply_kinds) bit_lines_told
      (both (codes "clkb" ∷ []) supplies (codes "clkb" ∷ []) supply_kinds (words (codes "clkb" ∷ []) refl) supplies_told refl) refl).differ

  abbrev outputs_tail : List (List ℕ)
  outputs_tail = data_outputs plan ++ supplies

  abbrev outputs_kinds : List (List ℕ)
  outputs_kinds = codes "o" ∷ supply_kinds

  outputs_tail_told : AreToldNames outputs_tail outputs_kinds
  outputs_tail_told = both (data_outputs plan) supplies (codes "o" ∷ []) supply_kinds outputs_told supplies_told refl

  pub data_differ : DifferBy (λ n. n) (data_ports plan)
  data_differ =
      let k4 = codes "sen" ∷ outputs_kinds in
      let k3 = enable_kinds ++ k4 in
      let k2 = codes "d" ∷ k3 in
      let k1 = choice_kinds ++ k2 in
      let p4 = codes "sen" ∷ outputs_tail in
      let p3 = write_enables plan ++ p4 in
      let p2 = data_inputs plan ++ p3 in
      let p1 = column_choices plan.col_bits ++ p2 in
      (both (all_bit_lines plan) p1 bit_kinds k1 bit_lines_told
      (both (column_choices plan.col_bits) p2 choice_kinds k2 choices_told
      (both (data_inputs plan) p3 (codes "d" ∷ []) k3 inputs_told
      (both (write_enables plan) p4 enable_kinds k4 enables_told (both (codes "sen" ∷ []) outputs_tail (codes "sen" ∷ []) outputs_kinds (words (codes "sen" ∷ []) refl) outputs_tail_told refl) refl) refl) refl) refl).differ

  pub bank_differ : DifferBy (λ n. n) (bank_ports plan)
  bank_differ =
      let front = codes "wlen" ∷ codes "sen" ∷ codes "clkb" ∷ [] in
      let k3 = enable_kinds ++ outputs_kinds in
      let k2 = codes "d" ∷ k3 in
      let k1 = choice_kinds ++ k2 in
      let p3 = write_enables plan ++ outputs_tail in
      let p2 = data_inputs plan ++ p3 in
      let p1 = column_choices plan.col_bits ++ p2 in
      (both (predecode_lines plan) (front ++ p1) line_kinds (front ++ k1) lines_told
      (both front p1 front k1 (words front refl)
      (both (column_choices plan.col_bits) p2 choice_kinds k2 choices_told
      (both (data_inputs plan) p3 (codes "d" ∷ []) k3 inputs_told (both (write_enables plan) outputs_tail enable_kinds outputs_kinds enables_told outputs_tail_told refl) refl) refl) refl) refl).differ

  -- the ports that the logic row and the memory share, before others
  abbrev clocks : ℕ → List (List ℕ)
  clocks w = codes "clk0" ∷ codes "csb0" ∷ web_ports w

  abbrev clock_kinds : List (List ℕ)
  clock_kinds = codes "clk" ∷ codes "csb" ∷ codes "web" ∷ []

  clocks_told : (w : ℕ) → AreToldNames (clocks w) clock_kinds
  clocks_told zero = both (codes "clk0" ∷ codes "csb0" ∷ []) [] (codes "clk" ∷ codes "csb" ∷ []) (codes "web" ∷ []) (words (codes "clk0" ∷ codes "csb0" ∷ []) refl) (told_none (λ (n : List ℕ). n) (codes "web" ∷ [])) refl
  clocks_told (suc w) = words (codes "clk0" ∷ codes "csb0" ∷ codes "web0" ∷ []) refl

  few_masks : (k : ℕ) → k < plan.masks → k < 2 ^ 64
  few_masks k lt = let e = (bounds plan p).masks in omega (arith, e, lt)

  few_address : (k : ℕ) → k < addr_bits plan → k < 2 ^ 64
  few_address k lt = let e = (bounds plan p).address in omega (arith, e, lt)

  -- clocks, masks, address and data, before others
  macro_told : (more : List (List ℕ)) (ks : List (List ℕ)) → AreToldNames more ks → apart clock_kinds (codes "wmask[]" ∷ codes "addr[]" ∷ codes "din[]" ∷ ks) ≡ true → apart (codes "wmask[]" ∷ []) (codes "addr[]" ∷ codes "din[]" ∷ ks) ≡ true
      → apart (codes "addr[]" ∷ []) (codes "din[]" ∷ ks) ≡ true → apart (codes "din[]" ∷ []) ks ≡ true → AreToldNames (macro_inputs plan more) (clock_kinds ++ (codes "wmask[]" ∷ codes "addr[]" ∷ codes "din[]" ∷ ks))
  macro_told more ks told a b c d =
      let p2 = port_bits (inputs_of plan) (codes "din0") ++ more in
      let p1 = port_bits (addr_bits plan) (codes "addr0") ++ p2 in
      let p0 = port_bits plan.masks (codes "wmask0") ++ p1 in
      both (clocks plan.write_size) p0 clock_kinds (codes "wmask[]" ∷ codes "addr[]" ∷ codes "din[]" ∷ ks) (clocks_told plan.write_size)
      (both (port_bits plan.masks (codes "wmask0")) p1 (codes "wmask[]" ∷ []) (codes "addr[]" ∷ codes "din[]" ∷ ks) (indexed plan.masks (codes "wmask0") (codes "wmask[]" ∷ []) few_masks (λ more. refl) refl)
      (both (port_bits (addr_bits plan) (codes "addr0")) p2 (codes "addr[]" ∷ []) (codes "din[]" ∷ ks) (indexed (addr_bits plan) (codes "addr0") (codes "addr[]" ∷ []) few_address (λ more. refl) refl)
      (both (port_bits (inputs_of plan) (codes "din0")) more (codes "din[]" ∷ []) ks (indexed (inputs_of plan) (codes "din0") (codes "din[]" ∷ []) (few_inputs plan p) (λ more. refl) refl) told d) c) b) a

  abbrev pub logic_kinds : List (List ℕ)
  logic_kinds = clock_kinds ++ (codes "wmask[]" ∷ codes "addr[]" ∷ codes "din[]" ∷ codes "clkb" ∷ (control_kinds ++ (choice_kinds ++ (line_kinds ++ (codes "d" ∷ supply_kinds)))))

  pub logic_told : AreToldNames (logic_ports plan) logic_kinds
  logic_told =
      let k4 = codes "d" ∷ supply_kinds in
      let k3 = line_kinds ++ k4 in
      let k2 = choice_kinds ++ k3 in
      let k1 = control_kinds ++ k2 in
      let p4 = data_inputs plan ++ supplies in
      let p3 = predecode_lines plan ++ p4 in
      let p2 = column_choices plan.col_bits ++ p3 in
      let p1 = tabulate_lists (banks_of plan) (bank_control_names plan) ++ p2 in
      macro_told (codes "clkb" ∷ p1) (codes "clkb" ∷ k1)
      (both (codes "clkb" ∷ []) p1 (codes "clkb" ∷ []) k1 (words (codes "clkb" ∷ []) refl)
      (both (tabulate_lists (banks_of plan) (bank_control_names plan)) p2 control_kinds k2 banks_told
      (both (column_choices plan.col_bits) p3 choice_kinds k3 choices_told
      (both (predecode_lines plan) p4 line_kinds k4 lines_told (both (data_inputs plan) supplies (codes "d" ∷ []) supply_kinds inputs_told supplies_told refl) refl) refl) refl) refl) refl refl refl refl

  pub logic_differ : DifferBy (λ n. n) (logic_ports plan)
  logic_differ = logic_told.differ

  pub top_differ : DifferBy (λ n. n) (top_ports plan)
  top_differ =
      (macro_told (port_bits plan.word_size (codes "dout0") ++ supplies) (codes "dout[]" ∷ supply_kinds)
      (both (port_bits plan.word_size (codes "dout0")) supplies (codes "dout[]" ∷ []) supply_kinds (indexed plan.word_size (codes "dout0") (codes "dout[]" ∷ []) (few_words plan p) (λ more. refl) refl) supplies_told refl) refl refl refl refl).differ
