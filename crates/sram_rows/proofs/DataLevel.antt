-- The write and sense cells and the multiplexers or ties: what they flatten to, where the names are seen as the nets of bank b.
use Rattle.std.proofs.Common.{◌≡◌, ℕ, zero, suc, ◌/◌, ◌%◌, ◌<◌, List, [], ◌∷◌, ◌++◌, map, Option, refl, sym, ap, subst, ◌∙◌, arith}
use Rattle.std.specs.Prelude.{codes}
use Rattle.std.proofs.lemmas.List.{map-append}
use Rattle.netlist.specs.declared.deck.Instance.{Instance}
use Rattle.spice_netlist.specs.declared.resolved.ResolvedSubckt.{ResolvedSubckt}
use Rattle.spice_netlist.specs.Resolved.{resolved_instance}
use Rattle.spice_netlist.specs.Walk.{visits_in, visits_by, FlatNet}
use Rattle.row_laws.specs.Flattens.{Flattens}
use Rattle.row_laws.proofs.FlatLaws.{flat_each, flat_instances}
use Rattle.sram_netlist.specs.Organization.{Organization, inputs_of, columns_of, words_per_row, IsBuildable}
use Rattle.sram_netlist.specs.Instances.{LeafInstance, WriteAt, SenseAt, MuxAt, TieAt}
use Rattle.sram_netlist.specs.Nets.{D, Dout, Line, Bl, Br}
use Rattle.cell_roles.specs.declared.role.Role.{Role}
use Rattle.cell_roles.specs.declared.role.Role.TheVariants.{Mux, Tie, Sense, Write}
use Rattle.sram_netlist.specs.Netlist.{lo_net, ro_net, enable_at, enables_of, mask_of, sen_at, role}
use Rattle.sram_netlist.specs.Names.{with_number, full_name, to_bank}
use Rattle.sram_netlist.specs.BitCells.{BitCells}
use Rattle.sram_netlist.specs.InstanceList.{numbers_from, tabulate, column_cells, data_leaves}
use Rattle.sram_deck.specs.Deck.{enable_name, lo_name, ro_name, data_write, data_sense, data_mux, data_tie, data_links, data_instances}
use Rattle.sram_rows.specs.Rows.{cell_at}
use Rattle.sram_rows.proofs.DigitLaws.{plain_tail, plain_low}
use Rattle.sram_rows.proofs.PlainNames.{few_columns, few_words, inputs_within, few_written, written_mask_few, bl_plain, br_plain, d_plain, o_plain, sel_plain, lo_plain, ro_plain, enable_plain, bit_of_column, choice_of_column}
use Rattle.sram_rows.proofs.Segments.{all_numbers}
use Rattle.sram_rows.proofs.LeafInstances.{HasLeaf, HasLeaves, row_of, below, IsLeafOf, leaf_flat, by_name}

-- what is seen from the top of the names in it
pub record DataSees (plan : Organization) (b : ℕ) (see : FlatNet → List ℕ) : Type 0 where
  pub bl : (c : ℕ) → c < columns_of plan → by_name see (with_number (codes "bl") c) ≡ full_name plan (Bl b c)
  pub br : (c : ℕ) → c < columns_of plan → by_name see (with_number (codes "br") c) ≡ full_name plan (Br b c)
  pub sel : (k : ℕ) → 0 < plan.col_bits → k < words_per_row plan → by_name see (with_number (codes "sel") k) ≡ full_name plan (Line 0 plan.col_bits k)
  pub d : (i : ℕ) → i < inputs_of plan → by_name see (with_number (codes "d") i) ≡ full_name plan (D i)
  pub enable : (m : ℕ) → m < enables_of plan → by_name see (enable_name plan.masks m) ≡ full_name plan (enable_at plan.bank_bits plan.masks b m)
  pub lo : (i : ℕ) → i < plan.word_size → by_name see (lo_name plan.col_bits i) ≡ full_name plan (lo_net plan.col_bits b i)
  pub ro : (i : ℕ) → i < plan.word_size → by_name see (ro_name plan.col_bits i) ≡ full_name plan (ro_net plan.col_bits b i)
  pub o : (i : ℕ) → i < plan.word_size → by_name see (with_number (codes "o") i) ≡ full_name plan (Dout i)
  pub sen : by_name see (codes "sen") ≡ full_name plan (sen_at plan.bank_bits b)
  pub vdd : by_name see (codes "vdd") ≡ codes "vdd"
  pub gnd : by_name see (codes "gnd") ≡ codes "gnd"

abbrev pub to_data : Organization → ℕ → List ℕ
to_data plan b = to_bank plan b ++ (codes "xdata" ++ (47 ∷ []))

module _ (plan : Organization) (p : IsBuildable plan) (cell : Role → List ℕ) (bits : BitCells) (subckts : List ResolvedSubckt) (find : List ℕ → Option ℕ) (leaf : HasLeaves plan cell bits subckts find) (d b : ℕ) (see : FlatNet → List ℕ) (s : DataSees plan b see) where
  write_is : (i : ℕ) → i < inputs_of plan → IsLeafOf plan cell bits (to_data plan b) see (data_write plan cell i) (WriteAt b i)
  write_is i lt =
      let inside = inputs_within plan i lt in
      let few = few_words plan p i inside in
      let l = plain_tail i few [] refl in
      let m = mask_of plan.masks plan.write_size i in
      let there = written_mask_few plan p i lt in
      record {
        of = refl;
        named = plain_low _ l;
        there = refl;
        nets = λ j. (ap (by_name see) (plain_low _ (d_plain plan p i inside)) ∙ s.d i lt) j ∷ (ap (by_name see) (plain_low _ (lo_plain plan.col_bits i few)) ∙ s.lo i inside) j ∷ (ap (by_name see) (plain_low _ (ro_plain plan.col_bits i few)) ∙ s.ro i inside) j
            ∷ (ap (by_name see) (plain_low _ (enable_plain plan.masks m (few_written plan p m there))) ∙ s.enable m there) j ∷ s.vdd j ∷ s.gnd j ∷ [];
        sized = refl;
      }

  sense_is : (i : ℕ) → i < plan.word_size → IsLeafOf plan cell bits (to_data plan b) see (data_sense plan cell i) (SenseAt b i)
  sense_is i lt =
      let few = few_words plan p i lt in
      let l = plain_tail i few [] refl in
      record {
        of = refl;
        named = plain_low _ l;
        there = refl;
        nets = λ j. (ap (by_name see) (plain_low _ (lo_plain plan.col_bits i few)) ∙ s.lo i lt) j ∷ (ap (by_name see) (plain_low _ (ro_plain plan.col_bits i few)) ∙ s.ro i lt) j ∷ (ap (by_name see) (plain_low _ (o_plain plan p i lt)) ∙ s.o i lt) j ∷ s.sen j ∷ s.vdd j ∷ s.gnd j ∷ [];
        sized = refl;
      }

  tie_is : (c : ℕ) → c < columns_of plan → IsLeafOf plan cell bits (to_data plan b) see (data_tie cell c) (TieAt b c)
  tie_is c lt =
      let l = plain_tail c (few_columns plan p c lt) [] refl in
      record {
        of = refl;
        named = plain_low _ l;
        there = refl;
        nets = λ j. (ap (by_name see) (plain_low _ (bl_plain plan p c lt)) ∙ s.bl c lt) j ∷ (ap (by_name see) (plain_low _ (br_plain plan p c lt)) ∙ s.br c lt) j ∷ s.vdd j ∷ s.gnd j ∷ [];
        sized = refl;
      }

  mux_is : (m : ℕ) → plan.col_bits ≡ suc m → (c : ℕ) → c < columns_of plan → IsLeafOf plan cell bits (to_data plan b) see (data_mux plan cell c) (MuxAt b c)
  mux_is m some c lt =
      let l = plain_tail c (few_columns plan p c lt) [] refl in
      let i = c / words_per_row plan in
      let k = c % words_per_row plan in
      let inside : i < plan.word_size = bit_of_column plan p c lt in
      let choice : k < words_per_row plan = choice_of_column plan p c in
      let few = few_words plan p i inside in
      record {
        of = refl;
        named = plain_low _ l;
        there = refl;
        nets = λ j. (ap (by_name see) (plain_low _ (bl_plain plan p c lt)) ∙ s.bl c lt) j ∷ (ap (by_name see) (plain_low _ (br_plain plan p c lt)) ∙ s.br c lt) j
            ∷ (ap (by_name see) (plain_low _ (lo_plain (suc m) i few)) ∙ ap (λ (n : ℕ). by_name see (lo_name n i)) (sym some) ∙ s.lo i inside) j
            ∷ (ap (by_name see) (plain_low _ (ro_plain (suc m) i few)) ∙ ap (λ (n : ℕ). by_name see (ro_name n i)) (sym some) ∙ s.ro i inside) j
            ∷ (ap (by_name see) (plain_low _ (sel_plain plan p k choice)) ∙ s.sel k (omega (arith, some)) choice) j ∷ s.vdd j ∷ s.gnd j ∷ [];
        sized = refl;
      }

  abbrev Of : Instance → LeafInstance → Type 0
  Of i index = Flattens (row_of plan cell bits) subckts (to_data plan b) see (visits_in subckts (below subckts d) (resolved_instance find i) (resolved_instance find i).index) (index ∷ [])

  each_flat : (n : ℕ) (at : ℕ → Instance) (index : ℕ → LeafInstance) → ((i : ℕ) → HasLeaf subckts find (cell_at plan cell bits (index i)) (role plan (index i))) → ((i : ℕ) → i < n → IsLeafOf plan cell bits (to_data plan b) see (at i) (index i))
      → Flattens (row_of plan cell bits) subckts (to_data plan b) see (visits_by subckts (below subckts d) (map (resolved_instance find) (tabulate n at))) (tabulate n index)
  each_flat n at index has is =
      flat_each (row_of plan cell bits) subckts (to_data plan b) see (below subckts d) (resolved_instance find) at index (numbers_from 0 n)
      (all_numbers (λ i. Of (at i) (index i)) 0 n (λ i from lt. leaf_flat plan cell bits subckts find d (to_data plan b) see (at i) (index i) (has i) (is i (omega arith))))

  links_flat : (m : ℕ) → plan.col_bits ≡ m → Flattens (row_of plan cell bits) subckts (to_data plan b) see (visits_by subckts (below subckts d) (map (resolved_instance find) (data_links plan cell m))) (column_cells m b (columns_of plan))
  links_flat zero e = each_flat (columns_of plan) (data_tie cell) (TieAt b) (λ c. leaf.role_cell Tie) tie_is
  links_flat (suc m) e = each_flat (columns_of plan) (data_mux plan cell) (MuxAt b) (λ c. leaf.role_cell Mux) (mux_is m e)

  pub data_flat : Flattens (row_of plan cell bits) subckts (to_data plan b) see (visits_by subckts (below subckts d) (map (resolved_instance find) (data_instances plan cell))) (data_leaves plan b)
  data_flat =
      let f = below subckts d in
      let writes = tabulate (inputs_of plan) (data_write plan cell) in
      let senses = tabulate plan.word_size (data_sense plan cell) in
      let others = data_links plan cell plan.col_bits in
      subst (λ ps. Flattens (row_of plan cell bits) subckts (to_data plan b) see (visits_by subckts f ps) (data_leaves plan b)) (sym (map-append (resolved_instance find) writes (senses ++ others)))
      (flat_instances (row_of plan cell bits) subckts (to_data plan b) see f (map (resolved_instance find) writes) (map (resolved_instance find) (senses ++ others)) (tabulate (inputs_of plan) (WriteAt b)) (tabulate plan.word_size (SenseAt b) ++ column_cells plan.col_bits b (columns_of plan))
      (each_flat (inputs_of plan) (data_write plan cell) (WriteAt b) (λ i. leaf.role_cell Write) write_is)
      (subst (λ ps. Flattens (row_of plan cell bits) subckts (to_data plan b) see (visits_by subckts f ps) (tabulate plan.word_size (SenseAt b) ++ column_cells plan.col_bits b (columns_of plan))) (sym (map-append (resolved_instance find) senses others))
      (flat_instances (row_of plan cell bits) subckts (to_data plan b) see f (map (resolved_instance find) senses) (map (resolved_instance find) others) (tabulate plan.word_size (SenseAt b)) (column_cells plan.col_bits b (columns_of plan))
      (each_flat plan.word_size (data_sense plan cell) (SenseAt b) (λ i. leaf.role_cell Sense) sense_is) (links_flat plan.col_bits refl))))
