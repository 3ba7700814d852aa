-- The names in the written subcircuits have plain bytes.
use Rattle.std.proofs.Common.{◌≡◌, ◌⊎◌, inl, inr, ℕ, zero, suc, ◌*◌, ◌/◌, ◌%◌, ◌<◌, ◌^◌, [], ◌∷◌, ◌++◌, refl, arith}
use Rattle.std.specs.Prelude.{codes}
use Rattle.std.specs.List.{AllByRecursion}
use Rattle.std.proofs.lemmas.Nat.{div_below}
use Rattle.sram_netlist.specs.Organization.{Organization, inputs_of, columns_of, bank_rows, words_per_row, written_bits, IsBuildable}
use Rattle.cell_roles.specs.Roles.{supplies}
use Rattle.sram_netlist.specs.Netlist.{mask_of, enable_count, enables_of}
use Rattle.sram_netlist.specs.Names.{with_number}
use Rattle.sram_netlist.proofs.Bounds.{bounds, written_fits, at_least, twice_above}
use Rattle.row_laws.proofs.LookLaws.{all_append}
use Rattle.sram_deck.specs.Deck.{predecode_lines, all_bit_lines, column_choices, write_enables, data_inputs, data_outputs, enable_name, lo_name, ro_name, array_ports, pre_ports, data_ports, row_lines_from}
use Rattle.sram_rows.proofs.DigitLaws.{IsPlain, plain_tail}
use Rattle.sram_rows.proofs.Segments.{all_tabulate, of_bit_lines, all_choices, lines_plain, row_lines_plain}

pub lo_plain : (m i : ℕ) → i < 2 ^ 64 → IsPlain (lo_name m i)
lo_plain zero i few = plain_tail i few [] refl
lo_plain (suc m) i few = plain_tail i few [] refl

pub ro_plain : (m i : ℕ) → i < 2 ^ 64 → IsPlain (ro_name m i)
ro_plain zero i few = plain_tail i few [] refl
ro_plain (suc m) i few = plain_tail i few [] refl

pub enable_plain : (masks m : ℕ) → m < 2 ^ 64 → IsPlain (enable_name masks m)
enable_plain zero m few = refl
enable_plain (suc n) m few = plain_tail m few [] refl

pub supplies_plain : AllByRecursion IsPlain supplies
supplies_plain = (refl, (refl, tt))

-- what is written is some of all
pub inputs_within : (plan : Organization) (i : ℕ) → i < inputs_of plan → i < plan.word_size
inputs_within plan i lt = written_fits plan.write_size plan.word_size i lt

pub enables_within : (plan : Organization) (m : ℕ) → m < enables_of plan → m < enable_count plan.masks
enables_within plan m lt = written_fits plan.write_size (enable_count plan.masks) m lt

module _ (plan : Organization) (p : IsBuildable plan) where
  pub few_columns : (c : ℕ) → c < columns_of plan → c < 2 ^ 64
  few_columns c lt = let e = (bounds plan p).columns in omega (arith, e, lt)

  pub few_rows : (r : ℕ) → r < bank_rows plan → r < 2 ^ 64
  few_rows r lt = let e = (bounds plan p).rows in omega (arith, e, lt)

  pub few_words : (i : ℕ) → i < plan.word_size → i < 2 ^ 64
  few_words i lt = let e = (bounds plan p).words in omega (arith, e, lt)

  pub few_enables : (m : ℕ) → m < enable_count plan.masks → m < 2 ^ 64
  few_enables m lt = let e = (bounds plan p).enables in omega (arith, e, lt)

  pub few_choices : (k : ℕ) → k < words_per_row plan → k < 2 ^ 64
  few_choices k lt = let e = (bounds plan p).choices in omega (arith, e, lt)

  pub some_choices : 0 < words_per_row plan
  some_choices = let t = twice_above plan.col_bits in omega (arith, t)

  -- the word's bit of a column, and a column of a word's bit
  pub bit_of_column : (c : ℕ) → c < columns_of plan → c / words_per_row plan < plan.word_size
  bit_of_column c lt = div_below c (words_per_row plan) plan.word_size some_choices lt

  pub choice_of_column : (c : ℕ) → c % words_per_row plan < words_per_row plan
  choice_of_column c = let some = some_choices in omega (arith, some)

  pub column_of_bit : (i : ℕ) → i < plan.word_size → i < columns_of plan
  column_of_bit i lt = let k = at_least plan.word_size (words_per_row plan) some_choices in omega (arith, k, lt)

  mask_by : (m s i w : ℕ) → (m ≡ 0) ⊎ ((0 < s) × (m * s ≡ w)) → i < w → mask_of m s i < enable_count m
  mask_by zero s i w h lt = omega arith
  mask_by (suc m) s i w (inl e) lt = absurd (omega (arith, e))
  mask_by (suc m) s i w (inr h) lt = div_below i s (suc m) h.0 (let e = h.1 in omega (arith, e, lt))

  pub mask_few : (i : ℕ) → i < plan.word_size → mask_of plan.masks plan.write_size i < enable_count plan.masks
  mask_few i lt = mask_by plan.masks plan.write_size i plan.word_size p.masks lt

  pub few_inputs : (i : ℕ) → i < inputs_of plan → i < 2 ^ 64
  few_inputs i lt = few_words i (inputs_within plan i lt)

  pub few_written : (m : ℕ) → m < enables_of plan → m < 2 ^ 64
  few_written m lt = few_enables m (enables_within plan m lt)

  mask_written : (s i m : ℕ) → i < written_bits s plan.word_size → m < enable_count plan.masks → m < written_bits s (enable_count plan.masks)
  mask_written zero i m lt few = absurd (omega arith)
  mask_written (suc s) i m lt few = few

  pub written_mask_few : (i : ℕ) → i < inputs_of plan → mask_of plan.masks plan.write_size i < enables_of plan
  written_mask_few i lt = mask_written plan.write_size i (mask_of plan.masks plan.write_size i) lt (mask_few i (inputs_within plan i lt))

  pub bl_plain : (c : ℕ) → c < columns_of plan → IsPlain (with_number (codes "bl") c)
  bl_plain c lt = plain_tail c (few_columns c lt) [] refl

  pub br_plain : (c : ℕ) → c < columns_of plan → IsPlain (with_number (codes "br") c)
  br_plain c lt = plain_tail c (few_columns c lt) [] refl

  pub d_plain : (i : ℕ) → i < plan.word_size → IsPlain (with_number (codes "d") i)
  d_plain i lt = plain_tail i (few_words i lt) [] refl

  pub o_plain : (i : ℕ) → i < plan.word_size → IsPlain (with_number (codes "o") i)
  o_plain i lt = plain_tail i (few_words i lt) [] refl

  pub sel_plain : (k : ℕ) → k < words_per_row plan → IsPlain (with_number (codes "sel") k)
  sel_plain k lt = plain_tail k (few_choices k lt) [] refl

  pub bit_lines_plain : AllByRecursion IsPlain (all_bit_lines plan)
  bit_lines_plain = of_bit_lines IsPlain plan bl_plain br_plain

  -- bit lines and supplies, behind wlen
  pub tail_plain : AllByRecursion IsPlain (codes "wlen" ∷ (all_bit_lines plan ++ supplies))
  tail_plain = (refl, all_append IsPlain (all_bit_lines plan) supplies bit_lines_plain supplies_plain)

  pub array_plain : AllByRecursion IsPlain (array_ports plan)
  array_plain = all_append IsPlain (predecode_lines plan) (codes "wlen" ∷ (all_bit_lines plan ++ supplies)) (lines_plain plan p) tail_plain

  -- the nodes of a row
  pub row_nodes_plain : (r : ℕ) → AllByRecursion IsPlain (row_lines_from plan.groups 0 r ++ (codes "wlen" ∷ (all_bit_lines plan ++ supplies)))
  row_nodes_plain r = all_append IsPlain (row_lines_from plan.groups 0 r) (codes "wlen" ∷ (all_bit_lines plan ++ supplies)) (row_lines_plain plan r p) tail_plain

  pub pre_plain : AllByRecursion IsPlain (pre_ports plan)
  pre_plain = all_append IsPlain (all_bit_lines plan) (codes "clkb" ∷ supplies) bit_lines_plain (refl, supplies_plain)

  pub choices_plain : AllByRecursion IsPlain (column_choices plan.col_bits)
  choices_plain = all_choices IsPlain plan.col_bits sel_plain

  pub data_bits_plain : AllByRecursion IsPlain (data_inputs plan)
  data_bits_plain = all_tabulate IsPlain (inputs_of plan) (with_number (codes "d")) (λ i lt. d_plain i (inputs_within plan i lt))

  pub enables_plain : AllByRecursion IsPlain (write_enables plan)
  enables_plain = all_tabulate IsPlain (enables_of plan) (enable_name plan.masks) (λ m lt. enable_plain plan.masks m (few_written m lt))

  pub outputs_plain : AllByRecursion IsPlain (data_outputs plan)
  outputs_plain = all_tabulate IsPlain plan.word_size (with_number (codes "o")) o_plain

  pub data_plain : AllByRecursion IsPlain (data_ports plan)
  data_plain =
      all_append IsPlain (all_bit_lines plan) (column_choices plan.col_bits ++ (data_inputs plan ++ (write_enables plan ++ (codes "sen" ∷ (data_outputs plan ++ supplies))))) bit_lines_plain
      (all_append IsPlain (column_choices plan.col_bits) (data_inputs plan ++ (write_enables plan ++ (codes "sen" ∷ (data_outputs plan ++ supplies)))) choices_plain
      (all_append IsPlain (data_inputs plan) (write_enables plan ++ (codes "sen" ∷ (data_outputs plan ++ supplies))) data_bits_plain
      (all_append IsPlain (write_enables plan) (codes "sen" ∷ (data_outputs plan ++ supplies)) enables_plain (refl, all_append IsPlain (data_outputs plan) supplies outputs_plain supplies_plain))))
