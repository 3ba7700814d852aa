-- How many instances a plan has.
use Rattle.std.proofs.Common.{◌≡◌, ℕ, zero, suc, ◌+◌, ◌*◌, ◌≤◌, List, [], ◌∷◌, ◌++◌, length, map, refl, ap, subst, ◌∙◌, arith}
use Rattle.std.specs.List.{flat_map, AllByRecursion}
use Rattle.std.proofs.lemmas.List.{length-map, length-append}
use Rattle.row_laws.specs.Flattens.{zip_rows}
use Rattle.sram_netlist.specs.Organization.{Organization, inputs_of, power_of_two, bank_rows, columns_of, banks_of, bank_bit, addr_bits, IsBuildable, IsGroupSize}
use Rattle.sram_netlist.specs.Instances.{LeafInstance, LogicAt, PrechargeAt, WriteAt, SenseAt, MuxAt, TieAt, BitAt, Dd, Dm}
use Rattle.cell_roles.specs.declared.role.Role.{Role}
use Rattle.cell_roles.specs.Roles.{role_ports}
use Rattle.cell_roles.specs.declared.role.Role.TheVariants.{Bitcell, Precharge, Mux, Tie, Sense, Write, RowNand2, RowNand3, Driver, Nand2, Nand3, Inv, Dff, Delay}
use Rattle.spice_text.specs.Words.{lower}
use Rattle.sram_netlist.specs.Names.{leaf_path, full_name}
use Rattle.sram_netlist.specs.Netlist.{enable_count, enables_of, role, ports}
use Rattle.sram_netlist.specs.BitCells.{BitCells}
use Rattle.sram_netlist.specs.InstanceList.{numbers_from, tabulate, tabulate_lists, row_leaves, column_cells, data_leaves, bank_leaves, fixed_cells, address_cells, line_gates, gates, groups_gates, choice_gates, bank_cells, banks_cells, enable_gates, enable_cells, logic_cells, leaf_instances}
use Rattle.sram_netlist.proofs.Bounds.{bounds, written_most, twice_up}
use Rattle.sram_rows.specs.Rows.{cell_at}
use Rattle.sram_rows.proofs.Segments.{few_of, few_groups}
use Rattle.sram_rows.proofs.LeafInstances.{row_of}

pub span_long : (k n : ℕ) → length (numbers_from k n) ≡ n
span_long k zero = refl
span_long k (suc n) = ap suc (span_long (suc k) n)

pub each_long : {X : Type 0} (n : ℕ) (f : ℕ → X) → length (tabulate n f) ≡ n
each_long n f = length-map (numbers_from 0 n) f ∙ span_long 0 n

flat_few : {X Y : Type 0} (f : X → List Y) (m : ℕ) (xs : List X) → ((x : X) → length (f x) ≤ m) → length (flat_map f xs) ≤ length xs * m
flat_few f m [] h = omega arith
flat_few f m (x ∷ xs) h =
    let long = length-append (f x) (flat_map f xs) in
    let one = h x in
    let more = flat_few f m xs h in
    let e : suc (length xs) * m ≡ m + length xs * m = omega arith in
    omega (arith, long, one, more, e)

eachs_few : {X : Type 0} (n : ℕ) (f : ℕ → List X) (m : ℕ) → ((j : ℕ) → length (f j) ≤ m) → length (tabulate_lists n f) ≤ n * m
eachs_few n f m h = subst (λ (k : ℕ). length (tabulate_lists n f) ≤ k * m) (span_long 0 n) (flat_few f m (numbers_from 0 n) h)

gates_few : (o b : ℕ) → length (gates o b) ≤ power_of_two b * 2
gates_few o b = eachs_few (power_of_two b) (line_gates o b) 2 (λ k. omega arith)

choice_few : (m : ℕ) → m ≤ 3 → length (choice_gates m) ≤ 16
choice_few zero h = omega arith
choice_few (suc m) h = let g = gates_few 0 (suc m) in let t = twice_up (suc m) 3 h in omega (arith, g, t)

groups_few : (bs : List ℕ) (o : ℕ) → AllByRecursion IsGroupSize bs → length (groups_gates bs o) ≤ length bs * 16
groups_few [] o sizes = omega arith
groups_few (b ∷ bs) o sizes =
    let g = gates_few o b in
    let f = few_of b sizes.0 in
    let more = groups_few bs (o + b) sizes.1 in
    let long = length-append (gates o b) (groups_gates bs (o + b)) in
    omega (arith, g, f, more, long)

banks_few : (plan : Organization) (n : ℕ) → n ≤ 2 → length (banks_cells plan n) ≤ 24
banks_few plan zero h = omega arith
banks_few plan (suc n) h =
    let g = gates_few (bank_bit plan) (suc n) in
    let t = twice_up (suc n) 2 h in
    let c = eachs_few (power_of_two (suc n)) bank_cells 4 (λ b. omega arith) in
    let long = length-append (gates (bank_bit plan) (suc n)) (tabulate_lists (power_of_two (suc n)) bank_cells) in
    omega (arith, g, t, c, long)

bank_enables_few : (k b : ℕ) → k ≤ 256 → length (tabulate_lists k (enable_gates b)) ≤ 512
bank_enables_few k b h = let e = eachs_few k (enable_gates b) 2 (λ m. omega arith) in omega (arith, e)

enables_few : (n k enables : ℕ) → n ≤ 2 → enables ≤ 256 → length (enable_cells n k enables) ≤ 2048
enables_few zero zero enables h few = omega arith
enables_few zero (suc k) enables h few = let e = eachs_few 1 (λ b. tabulate_lists enables (enable_gates b)) 512 (λ b. bank_enables_few enables b few) in omega (arith, e)
enables_few (suc n) k enables h few =
    let e = eachs_few (power_of_two (suc n)) (λ b. tabulate_lists enables (enable_gates b)) 512 (λ b. bank_enables_few enables b few) in
    let t = twice_up (suc n) 2 h in
    omega (arith, e, t)

-- clock and control
fixed_few : (w : ℕ) → length (fixed_cells w) ≤ 14
fixed_few zero = omega arith
fixed_few (suc w) = omega arith

cells_few : (plan : Organization) → IsBuildable plan → length (logic_cells plan) ≤ 4000
cells_few plan p =
    let bd = bounds plan p in
    let enables = enable_cells plan.bank_bits plan.masks (enables_of plan) in
    let banks = banks_cells plan plan.bank_bits ++ enables in
    let masks = tabulate plan.masks Dm ++ banks in
    let words = tabulate (inputs_of plan) Dd ++ masks in
    let groups = groups_gates plan.groups plan.col_bits ++ words in
    let choices = choice_gates plan.col_bits ++ groups in
    let address = tabulate_lists (addr_bits plan) address_cells in
    let fixed = fixed_cells plan.write_size in
    let l1 = length-append fixed (address ++ choices) in
    let l2 = length-append address choices in
    let l3 = length-append (choice_gates plan.col_bits) groups in
    let l4 = length-append (groups_gates plan.groups plan.col_bits) words in
    let l5 = length-append (tabulate (inputs_of plan) Dd) masks in
    let l6 = length-append (tabulate plan.masks Dm) banks in
    let l7 = length-append (banks_cells plan plan.bank_bits) enables in
    let a = eachs_few (addr_bits plan) address_cells 2 (λ i. omega arith) in
    let c = choice_few plan.col_bits p.choices in
    let g = groups_few plan.groups plan.col_bits p.sizes in
    let three = few_groups plan p in
    let d = each_long (inputs_of plan) Dd in
    let m = each_long plan.masks Dm in
    let b = banks_few plan plan.bank_bits p.banks in
    let few = written_most plan.write_size (enable_count plan.masks) in
    let few_enables = bd.enables in
    let e = enables_few plan.bank_bits plan.masks (enables_of plan) p.banks (omega (arith, few, few_enables)) in
    let few_fixed = fixed_few plan.write_size in
    let few_inputs = written_most plan.write_size plan.word_size in
    let few_address = bd.address in
    let few_words = bd.words in
    let few_masks = bd.masks in
    omega (arith, l1, l2, l3, l4, l5, l6, l7, a, c, g, three, d, m, b, e, few_fixed, few_inputs, few_address, few_words, few_masks)

row_few : (plan : Organization) (b r : ℕ) → columns_of plan ≤ 256 → length (row_leaves plan b r) ≤ 258
row_few plan b r few = let e = each_long (columns_of plan) (BitAt b r) in omega (arith, e, few)

links_few : (m b n : ℕ) → n ≤ 256 → length (column_cells m b n) ≤ 256
links_few zero b n few = let e = each_long n (TieAt b) in omega (arith, e, few)
links_few (suc m) b n few = let e = each_long n (MuxAt b) in omega (arith, e, few)

bank_few : (plan : Organization) (b : ℕ) → IsBuildable plan → length (bank_leaves plan b) ≤ 67072
bank_few plan b p =
    let bd = bounds plan p in
    let columns = bd.columns in
    let rows = bd.rows in
    let words = bd.words in
    let r = eachs_few (bank_rows plan) (row_leaves plan b) 258 (λ r. row_few plan b r columns) in
    let c = each_long (columns_of plan) (PrechargeAt b) in
    let w = each_long (inputs_of plan) (WriteAt b) in
    let few_inputs = written_most plan.write_size plan.word_size in
    let s = each_long plan.word_size (SenseAt b) in
    let l = links_few plan.col_bits b (columns_of plan) columns in
    let l1 = length-append (tabulate_lists (bank_rows plan) (row_leaves plan b)) (tabulate (columns_of plan) (PrechargeAt b) ++ data_leaves plan b) in
    let l2 = length-append (tabulate (columns_of plan) (PrechargeAt b)) (data_leaves plan b) in
    let l3 = length-append (tabulate (inputs_of plan) (WriteAt b)) (tabulate plan.word_size (SenseAt b) ++ column_cells plan.col_bits b (columns_of plan)) in
    let l4 = length-append (tabulate plan.word_size (SenseAt b)) (column_cells plan.col_bits b (columns_of plan)) in
    omega (arith, r, c, w, s, l, l1, l2, l3, l4, columns, rows, words, few_inputs)

pub leaves_few_all : (plan : Organization) → IsBuildable plan → length (leaf_instances plan) ≤ 300000
leaves_few_all plan p =
    let c = cells_few plan p in
    let long = length-map (logic_cells plan) LogicAt in
    let banks = (bounds plan p).banks in
    let b = eachs_few (banks_of plan) (bank_leaves plan) 67072 (λ b. bank_few plan b p) in
    let l = length-append (map LogicAt (logic_cells plan)) (tabulate_lists (banks_of plan) (bank_leaves plan)) in
    omega (arith, c, long, banks, b, l)

-- how many pins they have
zip_few : (leaf_path leaf : List ℕ) (ps ns : List (List ℕ)) → length (zip_rows leaf_path leaf ps ns) ≤ length ps
zip_few leaf_path leaf [] ns = omega arith
zip_few leaf_path leaf (q ∷ ps) [] = omega arith
zip_few leaf_path leaf (q ∷ ps) (n ∷ ns) = let h = zip_few leaf_path leaf ps ns in omega (arith, h)

ports_few : (r : Role) → length (role_ports r) ≤ 7
ports_few Bitcell = omega arith
ports_few Precharge = omega arith
ports_few Mux = omega arith
ports_few Tie = omega arith
ports_few Sense = omega arith
ports_few Write = omega arith
ports_few RowNand2 = omega arith
ports_few RowNand3 = omega arith
ports_few Driver = omega arith
ports_few Nand2 = omega arith
ports_few Nand3 = omega arith
ports_few Inv = omega arith
ports_few Dff = omega arith
ports_few Delay = omega arith

pins_few : (plan : Organization) (cell : Role → List ℕ) (bits : BitCells) (x : LeafInstance) → length (row_of plan cell bits x) ≤ 7
pins_few plan cell bits x =
    let z = zip_few (leaf_path plan x) (lower (cell_at plan cell bits x)) (role_ports (role plan x)) (map (full_name plan) (ports plan x)) in
    let f = ports_few (role plan x) in
    omega (arith, z, f)

pub rows_few : (plan : Organization) (cell : Role → List ℕ) (bits : BitCells) → IsBuildable plan → length (flat_map (row_of plan cell bits) (leaf_instances plan)) ≤ 2100000
rows_few plan cell bits p =
    let few = leaves_few_all plan p in
    let rows = flat_few (row_of plan cell bits) 7 (leaf_instances plan) (pins_few plan cell bits) in
    omega (arith, few, rows)
