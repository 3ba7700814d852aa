-- Each pin is on a net of the plan.
use Rattle.std.proofs.Common.{◌≡◌, inl, inr, ℕ, zero, suc, ◌+◌, ◌/◌, ◌<◌, List, [], ◌∷◌, ◌++◌, map, refl, arith}
use Rattle.std.specs.List.{AllByRecursion}
use Rattle.row_laws.proofs.LookLaws.{all_append}
use Rattle.sram_netlist.specs.Organization.{Organization, inputs_of, bank_rows, columns_of, banks_of, words_per_row, IsBuildable}
use Rattle.sram_netlist.specs.Nets.{Net, Zb}
use Rattle.sram_netlist.specs.Instances.{LogicCell, LeafInstance, BitAt, PrechargeAt, WriteAt, SenseAt, MuxAt, TieAt, LogicAt}
use Rattle.sram_netlist.specs.Membership.{IsNameable, IsGroup, HasLogicCell}
use Rattle.sram_netlist.specs.Netlist.{row_lines, high_bits, lo_net, ro_net, wlen_at, sen_at, enable_at, enable_count, mask_of, supply_nets, ports, logic_cell_ports}
use Rattle.sram_netlist.specs.InstanceList.{tabulate, tabulate_lists, row_leaves, column_cells, data_leaves, bank_leaves, logic_cells, leaf_instances}
use Rattle.sram_rows.proofs.Segments.{all_tabulate, all_tabulate_lists, low_few}
use Rattle.sram_rows.proofs.PlainNames.{inputs_within, mask_few, bit_of_column, choice_of_column, column_of_bit}
use Rattle.sram_rows.proofs.LogicCells.{IsGood, cells_in, ports_good}

abbrev pub HaveNets : Organization → List Net → Type 0
HaveNets plan xs = AllByRecursion (IsNameable plan) xs

goods : (plan : Organization) (xs : List Net) → AllByRecursion (IsGood plan) xs → HaveNets plan xs
goods plan [] all = tt
goods plan (x ∷ xs) all = (all.0.has, goods plan xs all.1)

lines_have : (plan : Organization) (bs : List ℕ) (from r : ℕ) → ((o b : ℕ) → IsGroup bs from o b → IsGroup plan.groups plan.col_bits o b) → HaveNets plan (row_lines bs from r)
lines_have plan [] from r are = tt
lines_have plan (b ∷ bs) from r are = ((inr (inl (are from b (inl (refl, refl)))), low_few b r), lines_have plan bs (from + b) (high_bits b r) (λ o c g. are o c (inr g)))

wlen_has : (plan : Organization) (n b : ℕ) → b < banks_of plan → IsNameable plan (wlen_at n b)
wlen_has plan zero b lt = tt
wlen_has plan (suc n) b lt = lt

sen_has : (plan : Organization) (n b : ℕ) → b < banks_of plan → IsNameable plan (sen_at n b)
sen_has plan zero b lt = tt
sen_has plan (suc n) b lt = lt

enable_has : (plan : Organization) (n k b m : ℕ) → b < banks_of plan → m < enable_count plan.masks → IsNameable plan (enable_at n k b m)
enable_has plan zero zero b m lt few = tt
enable_has plan zero (suc k) b m lt few = (lt, few)
enable_has plan (suc n) k b m lt few = (lt, few)

module _ (plan : Organization) (p : IsBuildable plan) (b : ℕ) (lt_b : b < banks_of plan) where
  lo_has : (m i : ℕ) → i < plan.word_size → IsNameable plan (lo_net m b i)
  lo_has zero i lt = (lt_b, column_of_bit plan p i lt)
  lo_has (suc m) i lt = (lt_b, lt)

  ro_has : (m i : ℕ) → i < plan.word_size → IsNameable plan (ro_net m b i)
  ro_has zero i lt = (lt_b, column_of_bit plan p i lt)
  ro_has (suc m) i lt = (lt_b, lt)

  abbrev Have : LeafInstance → Type 0
  Have x = HaveNets plan (ports plan x)

  row_has : (r : ℕ) → r < bank_rows plan → AllByRecursion Have (row_leaves plan b r)
  row_has r lt = (
    all_append (IsNameable plan) (row_lines plan.groups plan.col_bits r) (Zb b r ∷ supply_nets) (lines_have plan plan.groups plan.col_bits r (λ o c g. g)) ((lt_b, lt), (tt, (tt, tt))),
    (
      ((lt_b, lt), (wlen_has plan plan.bank_bits b lt_b, ((lt_b, lt), (tt, (tt, tt))))),
      all_tabulate Have (columns_of plan) (BitAt b r) (λ c few. ((lt_b, few), ((lt_b, few), ((lt_b, lt), (tt, (tt, tt)))))),
    ),
  )

  links_has : (m : ℕ) → plan.col_bits ≡ m → AllByRecursion Have (column_cells m b (columns_of plan))
  links_has zero e = all_tabulate Have (columns_of plan) (TieAt b) (λ c lt. ((lt_b, lt), ((lt_b, lt), (tt, (tt, tt)))))
  links_has (suc m) e = all_tabulate Have (columns_of plan) (MuxAt b) (λ c lt.
      let inside = bit_of_column plan p c lt in
      ((lt_b, lt), ((lt_b, lt), (lo_has plan.col_bits (c / words_per_row plan) inside, (ro_has plan.col_bits (c / words_per_row plan) inside, ((inl ((refl, refl), omega (arith, e)), choice_of_column plan p c), (tt, (tt, tt))))))))

  bank_has : AllByRecursion Have (bank_leaves plan b)
  bank_has =
      all_append Have (tabulate_lists (bank_rows plan) (row_leaves plan b)) (tabulate (columns_of plan) (PrechargeAt b) ++ data_leaves plan b) (all_tabulate_lists Have (bank_rows plan) (row_leaves plan b) row_has)
      (all_append Have (tabulate (columns_of plan) (PrechargeAt b)) (data_leaves plan b) (all_tabulate Have (columns_of plan) (PrechargeAt b) (λ c lt. ((lt_b, lt), ((lt_b, lt), (tt, (tt, (tt, tt)))))))
      (all_append Have (tabulate (inputs_of plan) (WriteAt b)) (tabulate plan.word_size (SenseAt b) ++ column_cells plan.col_bits b (columns_of plan))
      (all_tabulate Have (inputs_of plan) (WriteAt b) (λ i some. let lt = inputs_within plan i some in (lt, (lo_has plan.col_bits i lt, (ro_has plan.col_bits i lt, (enable_has plan plan.bank_bits plan.masks b (mask_of plan.masks plan.write_size i) lt_b (mask_few plan p i lt), (tt, (tt, tt))))))))
      (all_append Have (tabulate plan.word_size (SenseAt b)) (column_cells plan.col_bits b (columns_of plan))
      (all_tabulate Have plan.word_size (SenseAt b) (λ i lt. (lo_has plan.col_bits i lt, (ro_has plan.col_bits i lt, (lt, (sen_has plan plan.bank_bits b lt_b, (tt, (tt, tt))))))))
      (links_has plan.col_bits refl))))

logic_has : (plan : Organization) (cs : List LogicCell) → AllByRecursion (HasLogicCell plan) cs → AllByRecursion (λ x. HaveNets plan (ports plan x)) (map LogicAt cs)
logic_has plan [] all = tt
logic_has plan (c ∷ cs) all = (goods plan (logic_cell_ports plan c) (ports_good plan c all.0), logic_has plan cs all.1)

pub leaves_have : (plan : Organization) → IsBuildable plan → AllByRecursion (λ x. HaveNets plan (ports plan x)) (leaf_instances plan)
leaves_have plan p =
    all_append (λ x. HaveNets plan (ports plan x)) (map LogicAt (logic_cells plan)) (tabulate_lists (banks_of plan) (bank_leaves plan)) (logic_has plan (logic_cells plan) (cells_in plan))
    (all_tabulate_lists (λ x. HaveNets plan (ports plan x)) (banks_of plan) (bank_leaves plan) (λ b lt. bank_has plan p b lt))
