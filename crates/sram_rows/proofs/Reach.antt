-- What the memory reaches: each reference is to a subcircuit that stands before.
use Rattle.std.proofs.Common.{◌≡◌, ◌⊎◌, inl, inr, ℕ, zero, suc, ◌+◌, ◌-◌, ◌<◌, ◌≤◌, List, [], ◌∷◌, ◌++◌, length, Option, None, Some, refl, sym, ap, subst, ◌∙◌, arith}
use Rattle.std.specs.Prelude.{codes, Contains}
use Rattle.std.specs.List.{cons_option, AllByRecursion}
use Rattle.std.proofs.lemmas.Bool.{cases_lt}
use Rattle.std.proofs.lemmas.Option.{same_Some}
use Rattle.or_geom.proofs.ListLaws.{contains_none, contains_cases, all_contained}
use Rattle.netlist.specs.declared.deck.Subckt.{Subckt}
use Rattle.netlist.specs.declared.deck.Instance.{Instance}
use Rattle.reference_graph.specs.Reaches.{RefersTo, IsPath, IsAcyclic}
use Rattle.spice_netlist.specs.declared.resolved.ResolvedSubckt.{ResolvedSubckt}
use Rattle.spice_netlist.specs.declared.resolved.ResolvedInstance.{ResolvedInstance}
use Rattle.spice_text.specs.Words.{lower}
use Rattle.spice_netlist.specs.Resolved.{resolved_instance, instances_at, subckt_references, graph}
use Rattle.spice_netlist.specs.Faults.{AreAllThere}
use Rattle.spice_netlist.proofs.WalkLaws.{refers_references}
use Rattle.row_laws.proofs.LookLaws.{all_append, all_map, all_any}
use Rattle.sram_netlist.specs.Organization.{Organization, inputs_of, bank_rows, columns_of, banks_of, IsBuildable}
use Rattle.cell_roles.specs.declared.role.Role.{Role}
use Rattle.sram_netlist.specs.Netlist.{row_gate, logic_role}
use Rattle.cell_roles.specs.declared.role.Role.TheVariants.{Bitcell, Precharge, Mux, Tie, Sense, Write, Driver}
use Rattle.sram_netlist.specs.BitCells.{BitCells, bit_cell}
use Rattle.sram_netlist.specs.InstanceList.{tabulate, logic_cells}
use Rattle.sram_deck.specs.Deck.{made_subckt, row_subckt, array_ports, pre_ports, data_ports, bank_ports, logic_ports, row_nand, row_driver, row_bit, row_instances, array_row, array_instances, pre_column, pre_instances, data_write, data_sense, data_mux, data_tie, data_links, data_instances, bank_array, bank_pre, bank_data, bank_instances, logic_cell, logic_instances, top_bank, top_logic, top_instances}
use Rattle.sram_rows.specs.Rows.{HasCellOf, AreLeavesFor}
use Rattle.sram_rows.proofs.Segments.{all_tabulate}
use Rattle.sram_rows.proofs.LeafInstances.{HasLeaf}
use Rattle.sram_rows.proofs.SubcktInstances.{HasSubckt}
use Rattle.sram_rows.proofs.WrittenSubckts.{find, subckts, count, found, leaf_found, leaf_below, leaf_of, row_place, array_place, pre_place, data_place, bank_place, logic_place, row_cell, array_cell, pre_cell, data_cell, bank_cell, logic_cell as logic_row, top_has}
use Rattle.sram_rows.proofs.RowKinds.{row_kind, kinds_few, kind_among, kind_is, some_rows, IsWrittenAt, written_long}

module _ (plan : Organization) (p : IsBuildable plan) (cell : Role → List ℕ) (bits : BitCells) (ends : List (List ℕ)) (leaves : List Subckt) (n : List ℕ) (kit : AreLeavesFor plan cell bits ends leaves n) (top : List ℕ) (is_top : top ≡ lower n) where
  abbrev base : ℕ
  base = length leaves

  abbrev bs : List ResolvedSubckt
  bs = subckts plan p cell bits ends leaves n kit top is_top

  abbrev at : List ℕ → Option ℕ
  at = find plan p cell bits ends leaves n kit top is_top

  -- how many of the rows' subcircuits there are, which stand before the others
  abbrev rows : ℕ
  rows = count plan p cell bits ends leaves n kit top is_top

  -- a leaf, or one of the written subcircuits
  abbrev IsGood : ℕ → Type 0
  IsGood k = (instances_at bs k ≡ []) ⊎ ((j : ℕ) × (j < rows + 6) × (k ≡ base + j))

  -- the part is an instance of one that stands before
  record IsBelow (k : ℕ) (instance : ResolvedInstance) : Type 0 where
    pub to : ℕ
    pub there : instance.index ≡ Some to
    pub before : to < k
    pub good : IsGood to

  abbrev Below : ℕ → Instance → Type 0
  Below k i = IsBelow k (resolved_instance at i)

  cell_good : (name : List ℕ) (r : Role) (k : ℕ) (i : Instance) → HasCellOf leaves name r → Contains ends name → base ≤ k → i.of ≡ name → Below k i
  cell_good name r k i has ends_there le of =
      let lt = leaf_below plan p cell bits ends leaves n kit top is_top name has.index has.there in
      let here = leaf_found plan p cell bits ends leaves n kit top is_top name has.index has.there in
      let l : HasLeaf bs at name r = leaf_of plan p cell bits ends leaves n kit top is_top name r has ends_there in
      let one : l.index ≡ has.index = same_Some l.index has.index (sym l.there ∙ here) in
      record { to = has.index; there = ap (λ (c : List ℕ). at (lower c)) of ∙ here; before = omega (arith, lt, le); good = inl (ap (instances_at bs) (sym one) ∙ l.bare) }

  leaf_good : (r : Role) (k : ℕ) (i : Instance) → base ≤ k → i.of ≡ cell r → Below k i
  leaf_good r k i le of = cell_good (cell r) r k i (kit.roles r) (kit.ended r) le of

  abbrev Place : ℕ → Subckt → Type 0
  Place j s = IsWrittenAt plan p cell bits n j s

  place_found : (j : ℕ) (s : Subckt) → Place j s → at (lower s.name) ≡ Some (base + j)
  place_found j s place = found plan p cell bits ends leaves n kit top is_top j s place

  place_within : (j : ℕ) (s : Subckt) → Place j s → j < rows + 6
  place_within j s place = let lt = place.within in let long = written_long plan p cell bits n in omega (arith, lt, long)

  place_good : (j k : ℕ) (s : Subckt) (i : Instance) → Place j s → base + j < k → i.of ≡ s.name → Below k i
  place_good j k s i place lt of = record { to = base + j; there = ap (λ (c : List ℕ). at (lower c)) of ∙ place_found j s place; before = lt; good = inr (j, place_within j s place, refl) }

  row_good : (r k : ℕ) → r < bank_rows plan → base ≤ k → AllByRecursion (Below k) (row_instances plan cell bits r)
  row_good r k lt_r le = (
    leaf_good (row_gate plan.groups) k (row_nand plan cell) le refl,
    (
      leaf_good Driver k (row_driver cell) le refl,
      all_tabulate (Below k) (columns_of plan) (row_bit bits r) (λ c lt. let of = kit.of_bits r c lt_r lt in cell_good (bit_cell bits r c) Bitcell k (row_bit bits r c) of.is of.ends_there le refl),
    ),
  )

  array_good : (k : ℕ) → base + rows ≤ k → AllByRecursion (Below k) (array_instances plan bits n)
  array_good k le = all_tabulate (Below k) (bank_rows plan) (array_row plan bits n) (λ r few.
      let among = kind_among bits (bank_rows plan) r few in
      place_good (row_kind bits r) k (row_subckt plan cell bits n r) (array_row plan bits n r) (row_place plan p cell bits ends leaves n kit top is_top r few) (omega (arith, among, le)) refl)

  pre_good : (k : ℕ) → base ≤ k → AllByRecursion (Below k) (pre_instances plan cell)
  pre_good k le = all_tabulate (Below k) (columns_of plan) (pre_column cell) (λ c lt. leaf_good Precharge k (pre_column cell c) le refl)

  links_good : (k m : ℕ) → base ≤ k → AllByRecursion (Below k) (data_links plan cell m)
  links_good k zero le = all_tabulate (Below k) (columns_of plan) (data_tie cell) (λ c lt. leaf_good Tie k (data_tie cell c) le refl)
  links_good k (suc m) le = all_tabulate (Below k) (columns_of plan) (data_mux plan cell) (λ c lt. leaf_good Mux k (data_mux plan cell c) le refl)

  data_good : (k : ℕ) → base ≤ k → AllByRecursion (Below k) (data_instances plan cell)
  data_good k le =
      all_append (Below k) (tabulate (inputs_of plan) (data_write plan cell)) (tabulate plan.word_size (data_sense plan cell) ++ data_links plan cell plan.col_bits)
      (all_tabulate (Below k) (inputs_of plan) (data_write plan cell) (λ i lt. leaf_good Write k (data_write plan cell i) le refl))
      (all_append (Below k) (tabulate plan.word_size (data_sense plan cell)) (data_links plan cell plan.col_bits)
      (all_tabulate (Below k) plan.word_size (data_sense plan cell) (λ i lt. leaf_good Sense k (data_sense plan cell i) le refl)) (links_good k plan.col_bits le))

  abbrev made : List ℕ → List (List ℕ) → List Instance → Subckt
  made s ports instances = made_subckt (n ++ s) ports instances

  bank_good : (k : ℕ) → base + (rows + 2) < k → AllByRecursion (Below k) (bank_instances plan n)
  bank_good k lt = (
    place_good (rows + 0) k (made (codes "_array") (array_ports plan) (array_instances plan bits n)) (bank_array plan n) (array_place plan p cell bits ends leaves n kit top is_top) (omega (arith, lt)) refl,
    (
      place_good (rows + 1) k (made (codes "_pre") (pre_ports plan) (pre_instances plan cell)) (bank_pre plan n) (pre_place plan p cell bits ends leaves n kit top is_top) (omega (arith, lt)) refl,
      (place_good (rows + 2) k (made (codes "_data") (data_ports plan) (data_instances plan cell)) (bank_data plan n) (data_place plan p cell bits ends leaves n kit top is_top) lt refl, tt),
    ),
  )

  logic_good : (k : ℕ) → base ≤ k → AllByRecursion (Below k) (logic_instances plan cell)
  logic_good k le = all_map (Below k) (logic_cell plan cell) (logic_cells plan) (all_any (λ c. Below k (logic_cell plan cell c)) (logic_cells plan) (λ c. leaf_good (logic_role plan c) k (logic_cell plan cell c) le refl))

  top_good : (k : ℕ) → base + (rows + 4) < k → AllByRecursion (Below k) (top_instances plan n)
  top_good k lt = (
    place_good (rows + 4) k (made (codes "_logic") (logic_ports plan) (logic_instances plan cell)) (top_logic plan n) (logic_place plan p cell bits ends leaves n kit top is_top) lt refl,
    all_tabulate (Below k) (banks_of plan) (top_bank plan n) (λ b few. place_good (rows + 3) k (made (codes "_bank") (bank_ports plan) (bank_instances plan n)) (top_bank plan n b) (bank_place plan p cell bits ends leaves n kit top is_top) (omega (arith, lt)) refl),
  )

  -- the parts of a written subcircuit
  parts_of : (j : ℕ) (s : Subckt) → Place j s → HasSubckt bs at s.name s.ports s.instances → AllByRecursion (Below (base + j)) s.instances → AllByRecursion (IsBelow (base + j)) (instances_at bs (base + j))
  parts_of j s place c all =
      let one : c.index ≡ base + j = same_Some c.index (base + j) (sym c.there ∙ place_found j s place) in
      subst (AllByRecursion (IsBelow (base + j))) (sym (ap (instances_at bs) (sym one) ∙ c.has)) (all_map (IsBelow (base + j)) (resolved_instance at) s.instances all)

  rows_good : (j : ℕ) → j < rows → AllByRecursion (IsBelow (base + j)) (instances_at bs (base + j))
  rows_good j lt =
      let few = kinds_few bits (bank_rows plan) (some_rows plan) in
      let lt_j : j < bank_rows plan = omega (arith, few, lt) in
      subst (λ (k : ℕ). AllByRecursion (IsBelow (base + k)) (instances_at bs (base + k))) (kind_is bits (bank_rows plan) j lt)
      (parts_of (row_kind bits j) (row_subckt plan cell bits n j) (row_place plan p cell bits ends leaves n kit top is_top j lt_j) (row_cell plan p cell bits ends leaves n kit top is_top j lt_j) (row_good j (base + row_kind bits j) lt_j (omega arith)))

  others_good : (i : ℕ) → i < 6 → AllByRecursion (IsBelow (base + (rows + i))) (instances_at bs (base + (rows + i)))
  others_good zero lt =
      parts_of (rows + 0) (made (codes "_array") (array_ports plan) (array_instances plan bits n)) (array_place plan p cell bits ends leaves n kit top is_top) (array_cell plan p cell bits ends leaves n kit top is_top) (array_good (base + (rows + 0)) (omega arith))
  others_good (suc zero) lt =
      parts_of (rows + 1) (made (codes "_pre") (pre_ports plan) (pre_instances plan cell)) (pre_place plan p cell bits ends leaves n kit top is_top) (pre_cell plan p cell bits ends leaves n kit top is_top) (pre_good (base + (rows + 1)) (omega arith))
  others_good (suc (suc zero)) lt =
      parts_of (rows + 2) (made (codes "_data") (data_ports plan) (data_instances plan cell)) (data_place plan p cell bits ends leaves n kit top is_top) (data_cell plan p cell bits ends leaves n kit top is_top) (data_good (base + (rows + 2)) (omega arith))
  others_good (suc (suc (suc zero))) lt =
      parts_of (rows + 3) (made (codes "_bank") (bank_ports plan) (bank_instances plan n)) (bank_place plan p cell bits ends leaves n kit top is_top) (bank_cell plan p cell bits ends leaves n kit top is_top) (bank_good (base + (rows + 3)) (omega arith))
  others_good (suc (suc (suc (suc zero)))) lt =
      parts_of (rows + 4) (made (codes "_logic") (logic_ports plan) (logic_instances plan cell)) (logic_place plan p cell bits ends leaves n kit top is_top) (logic_row plan p cell bits ends leaves n kit top is_top) (logic_good (base + (rows + 4)) (omega arith))
  others_good (suc (suc (suc (suc (suc zero))))) lt =
      subst (AllByRecursion (IsBelow (base + (rows + 5)))) (sym (top_has plan p cell bits ends leaves n kit top is_top)) (all_map (IsBelow (base + (rows + 5))) (resolved_instance at) (top_instances plan n) (top_good (base + (rows + 5)) (omega arith)))
  others_good (suc (suc (suc (suc (suc (suc i)))))) lt = absurd (omega arith)

  written_good : (j : ℕ) → j < rows + 6 → AllByRecursion (IsBelow (base + j)) (instances_at bs (base + j))
  written_good j lt = by (cases_lt j rows)
    where
      by : (j < rows) ⊎ (rows ≤ j) → AllByRecursion (IsBelow (base + j)) (instances_at bs (base + j))
      by (inl before) = rows_good j before
      by (inr behind) = subst (λ (k : ℕ). AllByRecursion (IsBelow (base + k)) (instances_at bs (base + k))) (omega (arith, behind)) (others_good (j - rows) (omega (arith, behind, lt)))

  instances_below : (k : ℕ) → IsGood k → AllByRecursion (IsBelow k) (instances_at bs k)
  instances_below k (inl none) = subst (AllByRecursion (IsBelow k)) (sym none) tt
  instances_below k (inr h) = subst (λ (i : ℕ). AllByRecursion (IsBelow i) (instances_at bs i)) (sym h.2) (written_good h.0 h.1)

  -- what they refer to
  among : (k to : ℕ) (ps : List ResolvedInstance) → AllByRecursion (IsBelow k) ps → Contains (subckt_references ps) to → IsGood to × (to < k)
  among k to [] all h = absurd (contains_none to h)
  among k to (q ∷ ps) all h = by (contains_cases all.0.to (subckt_references ps) to (subst (λ (o : Option ℕ). Contains (cons_option o (subckt_references ps)) to) all.0.there h)) (among k to ps all.1)
    where
      by : (to ≡ all.0.to) ⊎ Contains (subckt_references ps) to → (Contains (subckt_references ps) to → IsGood to × (to < k)) → IsGood to × (to < k)
      by (inl e) more = (subst IsGood (sym e) all.0.good, let lt = all.0.before in omega (arith, e, lt))
      by (inr later) more = more later

  step : (k to : ℕ) → IsGood k → RefersTo (graph bs) k to → IsGood to × (to < k)
  step k to good refers = among k to (instances_at bs k) (instances_below k good) (subst (λ (xs : List ℕ). Contains xs to) (refers_references bs k) refers)

  along : (k : ℕ) (path : List ℕ) (to : ℕ) → IsGood k → IsPath (graph bs) k path to → IsGood to × (to ≤ k)
  along k [] to good leads = (subst IsGood (sym leads) good, omega (arith, leads))
  along k (next ∷ path) to good leads =
      let s = step k next good leads.0 in
      let r = along next path to s.0 leads.1 in
      let a = s.1 in
      let b = r.1 in
      (r.0, omega (arith, a, b))

  good_top : IsGood (base + (rows + 5))
  good_top = inr (rows + 5, omega arith, refl)

  pub acyclic : IsAcyclic (graph bs) (base + (rows + 5))
  acyclic node reached itself =
      let good = (along (base + (rows + 5)) reached.path node good_top reached.leads).0 in
      let s = step node itself.next good itself.leads.0 in
      let r = along itself.next itself.rest node s.0 itself.leads.1 in
      let a = s.1 in
      let b = r.1 in
      omega (arith, a, b)

  pub there : AreAllThere bs (base + (rows + 5))
  there name u =
      let good = (along (base + (rows + 5)) u.reached.path u.index good_top u.reached.leads).0 in
      let instance = all_contained (IsBelow u.index) (instances_at bs u.index) u.missing.instance (instances_below u.index good) u.missing.stands in
      let some : Some instance.to ≡ None = sym instance.there ∙ u.missing.missing in
      cc
