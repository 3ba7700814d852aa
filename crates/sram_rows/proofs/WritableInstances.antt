-- The instances of each written subcircuit can be written.
use Rattle.std.proofs.Common.{◌≡◌, inl, ℕ, zero, suc, ◌<◌, ◌^◌, ◌/◌, ◌%◌, List, [], ◌∷◌, ◌++◌, map, refl, sym, subst, arith}
use Rattle.std.specs.Prelude.{codes}
use Rattle.std.specs.List.{AllByRecursion}
use Rattle.std.specs.Fmt.{decimal}
use Rattle.std.proofs.lemmas.List.{length-append}
use Rattle.netlist.specs.declared.deck.Instance.{Instance}
use Rattle.spice_text.specs.Writable.{IsName, IsNameByte, BeginsWithX, IsWritableInstance, instance_name, Differ}
use Rattle.row_laws.proofs.LookLaws.{all_append, all_map}
use Rattle.cell_roles.specs.declared.role.Role.{Role}
use Rattle.cell_roles.specs.declared.role.Role.TheVariants.{Precharge, Mux, Tie, Sense, Write, Driver}
use Rattle.cell_roles.specs.Roles.{supplies}
use Rattle.sram_netlist.specs.Organization.{Organization, inputs_of, IsBuildable, words_per_row, bank_rows, columns_of, banks_of}
use Rattle.sram_netlist.specs.Nets.{Net}
use Rattle.sram_netlist.specs.Instances.{LogicCell, Ad, Ai, Dd, Dm, Pn, Pi, Ln, Li, Kn, Ki, Gn, Gi, Clki, Csd, Wed, Csi, Wei, Wln, Wli, Wrn, Wri, Rdn, Rdi, Dlay, Senn, Seni}
use Rattle.sram_netlist.specs.Netlist.{mask_of, logic_cell_ports, row_gate, logic_role}
use Rattle.sram_netlist.specs.Names.{LineKind, Column, Group, Bank, line_kind, gate_name, inv_name, cell_name, bank_name, net_name}
use Rattle.sram_netlist.specs.InstanceList.{tabulate, logic_cells}
use Rattle.sram_netlist.specs.BitCells.{BitCells, Alike, Apart, row_name}
use Rattle.sram_deck.specs.Deck.{row_inputs, row_bit, row_instances, array_row, array_instances, pre_column, pre_instances, data_write, data_sense, data_mux, data_tie, data_links, data_instances, bank_instances, logic_cell, logic_instances, top_bank, top_instances}
use Rattle.sram_rows.specs.Writing.{AreBitNames}
use Rattle.sram_rows.proofs.DigitLaws.{IsPlain, plain_low, plain_name, plain_tail, name_bytes}
use Rattle.sram_rows.proofs.DifferLaws.{DifferBy, differ_names, all_follow}
use Rattle.sram_rows.proofs.InstancesDiffer.{name_of_instance}
use Rattle.sram_rows.proofs.PlainNames.{few_columns, few_rows, few_words, inputs_within, few_enables, lo_plain, ro_plain, bl_plain, br_plain, d_plain, o_plain, sel_plain, enable_plain, mask_few, bit_of_column, choice_of_column, supplies_plain, array_plain, pre_plain, data_plain, row_nodes_plain}
use Rattle.sram_rows.proofs.PlainPorts.{logic_plain, bank_name_plain, bank_nodes_plain}
use Rattle.sram_rows.proofs.PlainNetNames.{name_plain}
use Rattle.sram_rows.proofs.LogicCells.{IsGood, cells_in, ports_good, cell_name_plain}
use Rattle.sram_rows.proofs.RowLevel.{inputs_plain}
use Rattle.sram_rows.proofs.Segments.{all_tabulate}
use Rattle.sram_netlist.specs.Membership.{HasLogicCell}

-- a name of plain bytes that begins with x, nodes of plain bytes, and the name of a subcircuit
pub record IsPlainInstance (i : Instance) : Type 0 where
  pub name : IsPlain i.name
  pub begins : BeginsWithX i.name
  pub nodes : AllByRecursion IsPlain i.nodes
  pub refers : IsName i.of

pub plain_names : (ns : List (List ℕ)) → AllByRecursion IsPlain ns → AllByRecursion IsName ns
plain_names ns all = all_follow IsPlain IsName ns plain_name all

pub plain_instances : (is : List Instance) → AllByRecursion IsPlainInstance is → AllByRecursion IsWritableInstance is
plain_instances is all = all_follow IsPlainInstance IsWritableInstance is (λ i h. record { name = plain_name i.name h.name; begins = h.begins; nodes = plain_names i.nodes h.nodes; refers = h.refers }) all

names_low : (is : List Instance) → AllByRecursion IsPlainInstance is → map instance_name is ≡ map name_of_instance is
names_low [] all = refl
names_low (i ∷ is) all = λ k. plain_low i.name all.0.name k ∷ names_low is all.1 k

pub instances_differ : (is : List Instance) → AllByRecursion IsPlainInstance is → DifferBy name_of_instance is → Differ (map instance_name is)
instances_differ is all d = subst Differ (sym (names_low is all)) (differ_names name_of_instance is d)

-- the name of a written subcircuit
pub name_behind : (n s : List ℕ) → IsName n → AllByRecursion IsNameByte s → IsName (n ++ s)
name_behind n s name bytes = record { some = let long = length-append n s in let some = name.some in omega (arith, long, some); bytes = all_append IsNameByte n s name.bytes bytes }

gate_begins : (κ : LineKind) (k : ℕ) → BeginsWithX (gate_name κ k)
gate_begins Column k = inl refl
gate_begins (Group g) k = inl refl
gate_begins Bank k = inl refl

inv_begins : (κ : LineKind) (k : ℕ) → BeginsWithX (inv_name κ k)
inv_begins Column k = inl refl
inv_begins (Group g) k = inl refl
inv_begins Bank k = inl refl

cell_begins : (plan : Organization) (c : LogicCell) → BeginsWithX (cell_name plan c)
cell_begins plan (Pn o b k) = gate_begins (line_kind plan o) k
cell_begins plan (Pi o b k) = inv_begins (line_kind plan o) k
cell_begins plan Clki = inl refl
cell_begins plan Csd = inl refl
cell_begins plan Wed = inl refl
cell_begins plan Csi = inl refl
cell_begins plan Wei = inl refl
cell_begins plan Wln = inl refl
cell_begins plan Wli = inl refl
cell_begins plan Wrn = inl refl
cell_begins plan Wri = inl refl
cell_begins plan Rdn = inl refl
cell_begins plan Rdi = inl refl
cell_begins plan Dlay = inl refl
cell_begins plan Senn = inl refl
cell_begins plan Seni = inl refl
cell_begins plan (Ad i) = inl refl
cell_begins plan (Ai i) = inl refl
cell_begins plan (Dd i) = inl refl
cell_begins plan (Dm m) = inl refl
cell_begins plan (Ln b) = inl refl
cell_begins plan (Li b) = inl refl
cell_begins plan (Kn b) = inl refl
cell_begins plan (Ki b) = inl refl
cell_begins plan (Gn b m) = inl refl
cell_begins plan (Gi b m) = inl refl

bank_begins : (k b : ℕ) → BeginsWithX (bank_name k b)
bank_begins zero b = inl refl
bank_begins (suc k) b = inl refl

-- the name of a row's subcircuit
pub row_behind : (bits : BitCells) (n : List ℕ) (r : ℕ) → r < 2 ^ 64 → IsName n → IsName (row_name bits n r)
row_behind (Alike of) n r few name = name_behind n (codes "_row") name (name_bytes (codes "_row") refl)
row_behind (Apart of) n r few name = name_behind (n ++ codes "_row") (decimal r ++ []) (name_behind n (codes "_row") name (name_bytes (codes "_row") refl)) (name_bytes (decimal r ++ []) (plain_tail r few [] refl))

module _ (plan : Organization) (p : IsBuildable plan) (cell : Role → List ℕ) (bits : BitCells) (n : List ℕ) (cells : (r : Role) → IsName (cell r)) (bit_names : AreBitNames plan bits) (name : IsName n) where
  abbrev ArePlain : List Instance → Type 0
  ArePlain is = AllByRecursion IsPlainInstance is

  pub row_plain_instances : (r : ℕ) → r < bank_rows plan → ArePlain (row_instances plan cell bits r)
  row_plain_instances r lt_r = (
    record {
      name = refl;
      begins = inl refl;
      nodes = all_append IsPlain (row_inputs 97 plan.groups) (codes "zb" ∷ supplies) (inputs_plain plan.groups p.groups) (refl, supplies_plain);
      refers = cells (row_gate plan.groups);
    },
    (
      record { name = refl; begins = inl refl; nodes = (refl, (refl, (refl, supplies_plain))); refers = cells Driver },
      all_tabulate IsPlainInstance (columns_of plan) (row_bit bits r) (λ c lt. record { name = plain_tail c (few_columns plan p c lt) [] refl; begins = inl refl; nodes = (bl_plain plan p c lt, (br_plain plan p c lt, (refl, supplies_plain))); refers = bit_names r c lt_r lt }),
    ),
  )

  pub array_plain_instances : ArePlain (array_instances plan bits n)
  array_plain_instances = all_tabulate IsPlainInstance (bank_rows plan) (array_row plan bits n) (λ r lt. record {
    name = plain_tail r (few_rows plan p r lt) [] refl;
    begins = inl refl;
    nodes = row_nodes_plain plan p r;
    refers = row_behind bits n r (few_rows plan p r lt) name;
  })

  pub pre_plain_instances : ArePlain (pre_instances plan cell)
  pre_plain_instances = all_tabulate IsPlainInstance (columns_of plan) (pre_column cell) (λ c lt. record { name = plain_tail c (few_columns plan p c lt) [] refl; begins = inl refl; nodes = (bl_plain plan p c lt, (br_plain plan p c lt, (refl, supplies_plain))); refers = cells Precharge })

  links_plain : (m : ℕ) → plan.col_bits ≡ m → ArePlain (data_links plan cell m)
  links_plain zero e = all_tabulate IsPlainInstance (columns_of plan) (data_tie cell) (λ c lt. record { name = plain_tail c (few_columns plan p c lt) [] refl; begins = inl refl; nodes = (bl_plain plan p c lt, (br_plain plan p c lt, supplies_plain)); refers = cells Tie })
  links_plain (suc m) e = all_tabulate IsPlainInstance (columns_of plan) (data_mux plan cell) (λ c lt.
      let i = c / words_per_row plan in
      let few = few_words plan p i (bit_of_column plan p c lt) in
      record {
        name = plain_tail c (few_columns plan p c lt) [] refl;
        begins = inl refl;
        nodes = (bl_plain plan p c lt, (br_plain plan p c lt, (plain_tail i few [] refl, (plain_tail i few [] refl, (sel_plain plan p (c % words_per_row plan) (choice_of_column plan p c), supplies_plain)))));
        refers = cells Mux;
      })

  pub data_plain_instances : ArePlain (data_instances plan cell)
  data_plain_instances =
      all_append IsPlainInstance (tabulate (inputs_of plan) (data_write plan cell)) (tabulate plan.word_size (data_sense plan cell) ++ data_links plan cell plan.col_bits)
      (all_tabulate IsPlainInstance (inputs_of plan) (data_write plan cell) (λ i some. let lt = inputs_within plan i some in let few = few_words plan p i lt in let m = mask_of plan.masks plan.write_size i in record {
        name = plain_tail i few [] refl;
        begins = inl refl;
        nodes = (d_plain plan p i lt, (lo_plain plan.col_bits i few, (ro_plain plan.col_bits i few, (enable_plain plan.masks m (few_enables plan p m (mask_few plan p i lt)), supplies_plain))));
        refers = cells Write;
      }))
      (all_append IsPlainInstance (tabulate plan.word_size (data_sense plan cell)) (data_links plan cell plan.col_bits)
      (all_tabulate IsPlainInstance plan.word_size (data_sense plan cell) (λ i lt. let few = few_words plan p i lt in record {
        name = plain_tail i few [] refl;
        begins = inl refl;
        nodes = (lo_plain plan.col_bits i few, (ro_plain plan.col_bits i few, (o_plain plan p i lt, (refl, supplies_plain))));
        refers = cells Sense;
      })) (links_plain plan.col_bits refl))

  pub bank_plain_instances : ArePlain (bank_instances plan n)
  bank_plain_instances = (
    record { name = refl; begins = inl refl; nodes = array_plain plan p; refers = name_behind n (codes "_array") name (name_bytes (codes "_array") refl) },
    (
      record { name = refl; begins = inl refl; nodes = pre_plain plan p; refers = name_behind n (codes "_pre") name (name_bytes (codes "_pre") refl) },
      (record { name = refl; begins = inl refl; nodes = data_plain plan p; refers = name_behind n (codes "_data") name (name_bytes (codes "_data") refl) }, tt),
    ),
  )

  nodes_of : (xs : List Net) → AllByRecursion (IsGood plan) xs → AllByRecursion IsPlain (map (net_name plan) xs)
  nodes_of xs all = all_map IsPlain (net_name plan) xs (all_follow (IsGood plan) (λ x. IsPlain (net_name plan x)) xs (λ x good. name_plain plan p x good.has) all)

  pub logic_plain_instances : ArePlain (logic_instances plan cell)
  logic_plain_instances = all_map IsPlainInstance (logic_cell plan cell) (logic_cells plan) (all_follow (HasLogicCell plan) (λ c. IsPlainInstance (logic_cell plan cell c)) (logic_cells plan)
      (λ c h. record { name = cell_name_plain plan p c h; begins = cell_begins plan c; nodes = nodes_of (logic_cell_ports plan c) (ports_good plan c h); refers = cells (logic_role plan c) }) (cells_in plan))

  pub top_plain_instances : ArePlain (top_instances plan n)
  top_plain_instances = (
    record { name = refl; begins = inl refl; nodes = logic_plain plan p; refers = name_behind n (codes "_logic") name (name_bytes (codes "_logic") refl) },
    all_tabulate IsPlainInstance (banks_of plan) (top_bank plan n) (λ b lt. record {
      name = bank_name_plain plan p plan.bank_bits b lt;
      begins = bank_begins plan.bank_bits b;
      nodes = bank_nodes_plain plan p b lt;
      refers = name_behind n (codes "_bank") name (name_bytes (codes "_bank") refl);
    }),
  )
