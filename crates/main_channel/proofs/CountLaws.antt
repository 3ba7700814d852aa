-- How many cells and ports there are.
use Rattle.std.proofs.Common.{◌≡◌, ◌⊎◌, inl, inr, ℕ, zero, suc, ◌+◌, ◌*◌, ◌≤◌, List, [], ◌∷◌, ◌++◌, length, flat_map, sym, subst, le_trans, length-append, arith}
use Rattle.std.proofs.lemmas.Nat.{mul-le}
use Rattle.std.specs.List.{AllByRecursion}
use Rattle.sram_netlist.specs.Organization.{Organization, inputs_of, IsBuildable, IsGroupSize, power_of_two, total_bits, addr_bits, bank_bit}
use Rattle.sram_netlist.specs.Instances.{Dd, Dm}
use Rattle.sram_netlist.specs.Netlist.{enable_count, enables_of}
use Rattle.sram_netlist.specs.InstanceList.{numbers_from, tabulate, tabulate_lists, fixed_cells, address_cells, line_gates, gates, choice_gates, groups_gates, bank_cells, banks_cells, enable_gates, enable_cells, logic_cells}
use Rattle.sram_netlist.proofs.Bounds.{bounds, written_most, twice_up}
use Rattle.std.specs.Prelude.{codes}
use Rattle.sram_netlist.specs.Names.{with_number, with_numbers}
use Rattle.sram_deck.specs.Deck.{predecode_lines, predecode_lines_from, column_choices, wlen_name, sen_name}
use Rattle.main_channel.specs.Names.{port_count, rail_names}
use Rattle.main_channel.proofs.TableLaws.{count_numbers, count_tabulated}

count_lists : {A : Type 0} (xs : List ℕ) (f : ℕ → List A) (m : ℕ) → ((x : ℕ) → length (f x) ≤ m) → length (flat_map f xs) ≤ length xs * m
count_lists [] f m few = omega arith
count_lists (x ∷ xs) f m few =
    let here = few x in
    let rest = count_lists xs f m few in
    let all = length-append (f x) (flat_map f xs) in
    omega (arith, here, rest, all)

count_all : {A : Type 0} (n : ℕ) (f : ℕ → List A) (m most : ℕ) → n ≤ most → ((x : ℕ) → length (f x) ≤ m) → length (tabulate_lists n f) ≤ most * m
count_all n f m most small few =
    le_trans (count_lists (numbers_from 0 n) f m few) (mul-le (length (numbers_from 0 n)) m most m (subst (λ (k : ℕ). k ≤ most) (sym (count_numbers 0 n)) small) (omega arith))

few_bits : (b : ℕ) → IsGroupSize b → b ≤ 3
few_bits b (inl e) = omega (arith, e)
few_bits b (inr e) = omega (arith, e)

eight : (b : ℕ) → b ≤ 3 → power_of_two b ≤ 8
eight b few = twice_up b 3 few

few_gates : (o b : ℕ) → b ≤ 3 → length (gates o b) ≤ 16
few_gates o b few = count_all (power_of_two b) (line_gates o b) 2 8 (eight b few) (λ k. omega arith)

few_choices : (m : ℕ) → m ≤ 3 → length (choice_gates m) ≤ 16
few_choices zero few = omega arith
few_choices (suc m) few = few_gates 0 (suc m) few

few_group_gates : (bs : List ℕ) (o : ℕ) → AllByRecursion IsGroupSize bs → length (groups_gates bs o) ≤ length bs * 16
few_group_gates [] o sizes = omega arith
few_group_gates (b ∷ bs) o sizes =
    let here = few_gates o b (few_bits b sizes.0) in
    let rest = few_group_gates bs (o + b) sizes.1 in
    let all = length-append (gates o b) (groups_gates bs (o + b)) in
    omega (arith, here, rest, all)

few_total : (bs : List ℕ) → AllByRecursion IsGroupSize bs → total_bits bs ≤ length bs * 3
few_total [] sizes = omega arith
few_total (b ∷ bs) sizes = let few = few_bits b sizes.0 in let rest = few_total bs sizes.1 in omega (arith, few, rest)

few_banks : (n : ℕ) → n ≤ 2 → power_of_two n ≤ 4
few_banks n few = twice_up n 2 few

few_bank_cells : (plan : Organization) (n : ℕ) → n ≤ 2 → length (banks_cells plan n) ≤ 32
few_bank_cells plan zero few = omega arith
few_bank_cells plan (suc n) few =
    let lines = few_gates (bank_bit plan) (suc n) (omega (arith, few)) in
    let enables = count_all (power_of_two (suc n)) bank_cells 4 4 (few_banks (suc n) few) (λ k. omega arith) in
    let all = length-append (gates (bank_bit plan) (suc n)) (tabulate_lists (power_of_two (suc n)) bank_cells) in
    omega (arith, lines, enables, all)

few_enables_of : (count bank : ℕ) → count ≤ 256 → length (tabulate_lists count (enable_gates bank)) ≤ 512
few_enables_of count bank few = count_all count (enable_gates bank) 2 256 few (λ m. omega arith)

few_enables : (n masks enables : ℕ) → n ≤ 2 → enables ≤ 256 → length (enable_cells n masks enables) ≤ 2048
few_enables zero zero enables few small = omega arith
few_enables zero (suc masks) enables few small = le_trans (count_all 1 (λ (bank : ℕ). tabulate_lists enables (enable_gates bank)) 512 4 (omega arith) (λ bank. few_enables_of enables bank small)) (omega arith)
few_enables (suc n) masks enables few small =
    count_all (power_of_two (suc n)) (λ (bank : ℕ). tabulate_lists enables (enable_gates bank)) 512 4 (few_banks (suc n) few) (λ bank. few_enables_of enables bank small)

few_fixed : (w : ℕ) → length (fixed_cells w) ≤ 14
few_fixed zero = omega arith
few_fixed (suc w) = omega arith

pub few_groups : (groups : List ℕ) → (length groups ≡ 2) ⊎ (length groups ≡ 3) → length groups ≤ 3
few_groups groups (inl two) = omega (arith, two)
few_groups groups (inr three) = omega (arith, three)

pub few_address : (plan : Organization) → IsBuildable plan → addr_bits plan ≤ 14
few_address plan is =
    let groups = few_groups plan.groups is.groups in
    let total = few_total plan.groups is.sizes in
    let banks = is.banks in
    let choices = is.choices in
    omega (arith, groups, total, banks, choices)

both : {A : Type 0} (xs ys : List A) (m n : ℕ) → length xs ≤ m → length ys ≤ n → length (xs ++ ys) ≤ m + n
both xs ys m n few more = let all = length-append xs ys in omega (arith, few, more, all)

pub few_cells : (plan : Organization) → IsBuildable plan → length (logic_cells plan) ≤ 2700
few_cells plan is =
    let groups = few_groups plan.groups is.groups in
    let address = count_all (addr_bits plan) address_cells 2 14 (few_address plan is) (λ i. omega arith) in
    let gates_few = few_group_gates plan.groups plan.col_bits is.sizes in
    let words = count_tabulated (inputs_of plan) Dd in
    let few_of_words = (bounds plan is).words in
    let inputs = written_most plan.write_size plan.word_size in
    let enables = (bounds plan is).enables in
    let enabled = written_most plan.write_size (enable_count plan.masks) in
    let masks = count_tabulated plan.masks Dm in
    let few_of_masks = (bounds plan is).masks in
    le_trans (both (fixed_cells plan.write_size) _ 14 2686 (few_fixed plan.write_size)
    (both (tabulate_lists (addr_bits plan) address_cells) _ 28 2658 address
    (both (choice_gates plan.col_bits) _ 16 2642 (few_choices plan.col_bits is.choices)
    (both (groups_gates plan.groups plan.col_bits) _ 48 2594 (omega (arith, gates_few, groups))
    (both (tabulate (inputs_of plan) Dd) _ 256 2338 (omega (arith, words, few_of_words, inputs))
    (both (tabulate plan.masks Dm) _ 256 2082 (omega (arith, masks, few_of_masks))
    (both (banks_cells plan plan.bank_bits) (enable_cells plan.bank_bits plan.masks (enables_of plan)) 34 2048 (le_trans (few_bank_cells plan plan.bank_bits is.banks) (omega arith))
    (few_enables plan.bank_bits plan.masks (enables_of plan) is.banks (omega (arith, enables, enabled)))))))))) (omega arith)

pub few_ports : (plan : Organization) → IsBuildable plan → port_count plan ≤ 800
few_ports plan is =
    let address = few_address plan is in
    let words = (bounds plan is).words in
    let masks = (bounds plan is).masks in
    let inputs = written_most plan.write_size plan.word_size in
    let web = written_most plan.write_size 1 in
    omega (arith, address, words, masks, inputs, web)

abbrev lines_in : ℕ → ℕ → List (List ℕ)
lines_in b g = tabulate (power_of_two b) (with_numbers (codes "p") g)

few_lines : (bs : List ℕ) (g : ℕ) → AllByRecursion IsGroupSize bs → length (predecode_lines_from bs g) ≤ length bs * 8
few_lines [] g sizes = omega arith
few_lines (b ∷ bs) g sizes =
    let here = eight b (few_bits b sizes.0) in
    let count = count_tabulated (power_of_two b) (with_numbers (codes "p") g) in
    let rest = few_lines bs (suc g) sizes.1 in
    let all = length-append (lines_in b g) (predecode_lines_from bs (suc g)) in
    omega (arith, here, count, rest, all)

few_choice_lines : (m : ℕ) → m ≤ 3 → length (column_choices m) ≤ 8
few_choice_lines zero few = omega arith
few_choice_lines (suc m) few = let here = eight (suc m) few in let count = count_tabulated (power_of_two (suc m)) (with_number (codes "sel")) in omega (arith, here, count)

pub few_rails : (plan : Organization) (b : ℕ) → IsBuildable plan → length (rail_names plan b) ≤ 64
few_rails plan b is =
    let lines = few_lines plan.groups 0 is.sizes in
    let groups = few_groups plan.groups is.groups in
    let choices = few_choice_lines plan.col_bits is.choices in
    let all = length-append (predecode_lines plan) (wlen_name plan b ∷ sen_name plan b ∷ codes "clkb" ∷ column_choices plan.col_bits) in
    omega (arith, lines, groups, choices, all)
