-- The leaf instances of a memory, counted.
use Rattle.std.proofs.Common.{◌≡◌, ℕ, zero, suc, ◌+◌, ◌*◌, ◌≤◌, List, [], ◌∷◌, ◌++◌, length, map, cond, refl, sym, ap, subst, ◌∙◌, arith}
use Rattle.std.specs.List.{flat_map, AllByRecursion}
use Rattle.std.proofs.lemmas.List.{length-map, length-append}
use Rattle.sram_netlist.specs.Organization.{Organization, power_of_two, bank_rows, columns_of, banks_of, bank_bit, addr_bits, IsGroupSize, IsBuildable, inputs_of}
use Rattle.sram_netlist.specs.Instances.{LogicAt, PrechargeAt, WriteAt, SenseAt, MuxAt, TieAt, BitAt, Dd, Dm}
use Rattle.sram_netlist.specs.Netlist.{enable_count, enables_of}
use Rattle.sram_netlist.specs.InstanceList.{numbers_from, tabulate, tabulate_lists, row_leaves, column_cells, data_leaves, bank_leaves, fixed_cells, address_cells, line_gates, gates, groups_gates, choice_gates, bank_cells, banks_cells, enable_gates, enable_cells, logic_cells, leaf_instances}
use Rattle.std.proofs.lemmas.Bool.{le-leb}
use Rattle.std.proofs.lemmas.Nat.{mul-le}
use Rattle.sram_netlist.proofs.Bounds.{size_small, bounds, written_most}
use Rattle.sram_rows.proofs.Counts.{each_long, leaves_few_all}
use Rattle.sram_plan.specs.PlanNumbers.{used_groups}
use Rattle.macro_build.specs.Counts.{line_gate_count, groups_count, enable_cell_count}

flat_long : {X Y : Type 0} (f : X → List Y) (m : ℕ) (xs : List X) → ((x : X) → length (f x) ≡ m) → length (flat_map f xs) ≡ length xs * m
flat_long f m [] h = omega arith
flat_long f m (x ∷ xs) h =
    let long = length-append (f x) (flat_map f xs) in
    let one = h x in
    let more = flat_long f m xs h in
    let e : suc (length xs) * m ≡ m + length xs * m = omega arith in
    omega (arith, long, one, more, e)

lists_long : {X : Type 0} (n : ℕ) (f : ℕ → List X) (m : ℕ) → ((j : ℕ) → length (f j) ≡ m) → length (tabulate_lists n f) ≡ n * m
lists_long n f m h =
    let long : length (numbers_from 0 n) ≡ n = sym (length-map (numbers_from 0 n) (λ (k : ℕ). k)) ∙ each_long n (λ (k : ℕ). k) in
    flat_long f m (numbers_from 0 n) h ∙ ap (λ (k : ℕ). k * m) long

gates_long : (o b : ℕ) → length (gates o b) ≡ 2 * power_of_two b
gates_long o b = let e = lists_long (power_of_two b) (line_gates o b) 2 (λ k. refl) in omega (arith, e)

choice_long : (m : ℕ) → length (choice_gates m) ≡ line_gate_count m
choice_long zero = refl
choice_long (suc m) = gates_long 0 (suc m)

used_more : (b : ℕ) (bs : List ℕ) → used_groups (suc b ∷ bs) ≡ suc b ∷ used_groups bs
used_more b bs = ap (λ v. cond v (suc b ∷ used_groups bs) (used_groups bs)) (le-leb 1 (suc b) (omega arith))

group_long : (b : ℕ) (bs : List ℕ) (o : ℕ) → length (groups_gates (used_groups bs) (o + suc b)) ≡ groups_count bs → length (groups_gates (suc b ∷ used_groups bs) o) ≡ groups_count (suc b ∷ bs)
group_long b bs o more =
    let long = length-append (gates o (suc b)) (groups_gates (used_groups bs) (o + suc b)) in
    let g = gates_long o (suc b) in
    omega (arith, long, g, more)

pub groups_long : (bs : List ℕ) (o : ℕ) → length (groups_gates (used_groups bs) o) ≡ groups_count bs
groups_long [] o = refl
groups_long (zero ∷ bs) o = let more = groups_long bs o in omega (arith, more)
groups_long (suc b ∷ bs) o =
    subst (λ (l : List ℕ). length (groups_gates l o) ≡ groups_count (suc b ∷ bs)) (sym (used_more b bs)) (group_long b bs o (groups_long bs (o + suc b)))

-- the groups that are used are small, and so are all
pub groups_small : (bs : List ℕ) → AllByRecursion IsGroupSize (used_groups bs) → AllByRecursion (λ b. b ≤ 3) bs
groups_small [] h = tt
groups_small (zero ∷ bs) h = (omega arith, groups_small bs h)
groups_small (suc b ∷ bs) h =
    let all : AllByRecursion IsGroupSize (suc b ∷ used_groups bs) = subst (AllByRecursion IsGroupSize) (used_more b bs) h in
    ((size_small (suc b) all.0).1, groups_small bs all.1)

banks_long : (plan : Organization) (n : ℕ) → length (banks_cells plan n) ≡ 3 * line_gate_count n
banks_long plan zero = refl
banks_long plan (suc n) =
    let g = gates_long (bank_bit plan) (suc n) in
    let c = lists_long (power_of_two (suc n)) bank_cells 4 (λ b. refl) in
    let long = length-append (gates (bank_bit plan) (suc n)) (tabulate_lists (power_of_two (suc n)) bank_cells) in
    omega (arith, g, c, long)

bank_enables_long : (k b : ℕ) → length (tabulate_lists k (enable_gates b)) ≡ 2 * k
bank_enables_long k b = let e = lists_long k (enable_gates b) 2 (λ m. refl) in omega (arith, e)

enables_long : (n k enables : ℕ) → length (enable_cells n k enables) ≡ enable_cell_count n k enables
enables_long zero zero enables = refl
enables_long zero (suc k) enables = let e = lists_long 1 (λ b. tabulate_lists enables (enable_gates b)) (2 * enables) (λ b. bank_enables_long enables b) in omega (arith, e)
enables_long (suc n) k enables = lists_long (power_of_two (suc n)) (λ b. tabulate_lists enables (enable_gates b)) (2 * enables) (λ b. bank_enables_long enables b)

-- the cells of the logic row
pub logic_long : (plan : Organization) (gs : List ℕ) → plan.groups ≡ used_groups gs
    → length (logic_cells plan) ≡ length (fixed_cells plan.write_size) + 2 * addr_bits plan + line_gate_count plan.col_bits + groups_count gs + inputs_of plan + plan.masks + 3 * line_gate_count plan.bank_bits
    + enable_cell_count plan.bank_bits plan.masks (enables_of plan)
logic_long plan gs same =
    let enables = enable_cells plan.bank_bits plan.masks (enables_of plan) in
    let banks = banks_cells plan plan.bank_bits ++ enables in
    let masks = tabulate plan.masks Dm ++ banks in
    let words = tabulate (inputs_of plan) Dd ++ masks in
    let groups = groups_gates plan.groups plan.col_bits ++ words in
    let choices = choice_gates plan.col_bits ++ groups in
    let address = tabulate_lists (addr_bits plan) address_cells in
    let l1 = length-append (fixed_cells plan.write_size) (address ++ choices) in
    let l2 = length-append address choices in
    let l3 = length-append (choice_gates plan.col_bits) groups in
    let l4 = length-append (groups_gates plan.groups plan.col_bits) words in
    let l5 = length-append (tabulate (inputs_of plan) Dd) masks in
    let l6 = length-append (tabulate plan.masks Dm) banks in
    let l7 = length-append (banks_cells plan plan.bank_bits) enables in
    let a = lists_long (addr_bits plan) address_cells 2 (λ i. refl) in
    let c = choice_long plan.col_bits in
    let g : length (groups_gates plan.groups plan.col_bits) ≡ groups_count gs = ap (λ (bs : List ℕ). length (groups_gates bs plan.col_bits)) same ∙ groups_long gs plan.col_bits in
    let d = each_long (inputs_of plan) Dd in
    let m = each_long plan.masks Dm in
    let b = banks_long plan plan.bank_bits in
    let e = enables_long plan.bank_bits plan.masks (enables_of plan) in
    omega (arith, l1, l2, l3, l4, l5, l6, l7, a, c, g, d, m, b, e)

links_long : (m b n : ℕ) → length (column_cells m b n) ≡ n
links_long zero b n = each_long n (TieAt b)
links_long (suc m) b n = each_long n (MuxAt b)

row_long : (plan : Organization) (b r : ℕ) → length (row_leaves plan b r) ≡ columns_of plan + 2
row_long plan b r = let e = each_long (columns_of plan) (BitAt b r) in omega (arith, e)

-- the leaf instances of a bank
pub bank_long : (plan : Organization) (b : ℕ) → length (bank_leaves plan b) ≡ bank_rows plan * (columns_of plan + 2) + 2 * columns_of plan + (inputs_of plan + plan.word_size)
bank_long plan b =
    let r = lists_long (bank_rows plan) (row_leaves plan b) (columns_of plan + 2) (λ r. row_long plan b r) in
    let c = each_long (columns_of plan) (PrechargeAt b) in
    let w = each_long (inputs_of plan) (WriteAt b) in
    let s = each_long plan.word_size (SenseAt b) in
    let l = links_long plan.col_bits b (columns_of plan) in
    let l1 = length-append (tabulate_lists (bank_rows plan) (row_leaves plan b)) (tabulate (columns_of plan) (PrechargeAt b) ++ data_leaves plan b) in
    let l2 = length-append (tabulate (columns_of plan) (PrechargeAt b)) (data_leaves plan b) in
    let l3 = length-append (tabulate (inputs_of plan) (WriteAt b)) (tabulate plan.word_size (SenseAt b) ++ column_cells plan.col_bits b (columns_of plan)) in
    let l4 = length-append (tabulate plan.word_size (SenseAt b)) (column_cells plan.col_bits b (columns_of plan)) in
    omega (arith, r, c, w, s, l, l1, l2, l3, l4)

-- those of the logic row and of all banks
pub leaves_long : (plan : Organization) → length (leaf_instances plan) ≡ length (logic_cells plan) + banks_of plan * length (bank_leaves plan 0)
leaves_long plan =
    let long = length-map (logic_cells plan) LogicAt in
    let b = lists_long (banks_of plan) (bank_leaves plan) (length (bank_leaves plan 0)) (λ b. bank_long plan b ∙ sym (bank_long plan 0)) in
    let l = length-append (map LogicAt (logic_cells plan)) (tabulate_lists (banks_of plan) (bank_leaves plan)) in
    omega (arith, long, b, l)

-- the gates of the groups that were looked at and those of the rest are those of all
pub record AreCounted (groups : List ℕ) (count : ℕ) (rest : List ℕ) : Type 0 where
  pub is : count + groups_count rest ≡ groups_count groups
  pub small : AllByRecursion (λ b. b ≤ 3) rest
  pub few : count + 16 * length rest ≤ 48

-- What the code adds up

pub logic_total : (plan : Organization) (gs : List ℕ) (fixed address choices groups words masks banks enables : ℕ) → plan.groups ≡ used_groups gs → fixed ≡ length (fixed_cells plan.write_size)
    → address ≡ addr_bits plan → choices ≡ line_gate_count plan.col_bits → groups ≡ groups_count gs → words ≡ inputs_of plan → masks ≡ plan.masks
    → banks ≡ line_gate_count plan.bank_bits → enables ≡ enable_cell_count plan.bank_bits plan.masks (enables_of plan)
    → fixed + 2 * address + (choices + groups) + (words + masks) + 3 * banks + enables ≡ length (logic_cells plan)
logic_total plan gs fixed address choices groups words masks banks enables same f a c g w m b e =
    let x : fixed + 2 * address + (choices + groups) + (words + masks) + 3 * banks + enables
    ≡ length (fixed_cells plan.write_size) + 2 * addr_bits plan + line_gate_count plan.col_bits + groups_count gs + inputs_of plan + plan.masks + 3 * line_gate_count plan.bank_bits
    + enable_cell_count plan.bank_bits plan.masks (enables_of plan)
    = omega (arith, f, a, c, g, w, m, b, e) in
    x ∙ sym (logic_long plan gs same)

-- what the code has of a bank
pub record AreBankNumbers (plan : Organization) (rows columns inputs words : ℕ) : Type 0 where
  pub rows_are : rows ≡ bank_rows plan
  pub columns_are : columns ≡ columns_of plan
  pub inputs_are : inputs ≡ inputs_of plan
  pub words_are : words ≡ plan.word_size

pub bank_total : (plan : Organization) (rows columns inputs words : ℕ) → AreBankNumbers plan rows columns inputs words
    → (b : ℕ) → rows * (columns + 2) + 2 * columns + (inputs + words) ≡ length (bank_leaves plan b)
bank_total plan rows columns inputs words are b =
    (λ i. are.rows_are i * (are.columns_are i + 2) + 2 * are.columns_are i + (are.inputs_are i + are.words_are i)) ∙ sym (bank_long plan b)

pub bank_small : (plan : Organization) (rows columns inputs words : ℕ) → IsBuildable plan → AreBankNumbers plan rows columns inputs words
    → rows * (columns + 2) + 2 * columns + (inputs + words) ≤ 67072
bank_small plan rows columns inputs words p are =
    let bd = bounds plan p in
    let r = are.rows_are in
    let c = are.columns_are in
    let n = are.inputs_are in
    let w = are.words_are in
    let few_rows = bd.rows in
    let few_columns = bd.columns in
    let few_words = bd.words in
    let few_inputs = written_most plan.write_size plan.word_size in
    let product = mul-le rows (columns + 2) 256 258 (omega (arith, few_rows, r)) (omega (arith, few_columns, c)) in
    omega (arith, product, few_columns, few_words, few_inputs, c, n, w)

pub leaves_total : (plan : Organization) (logic banks bank : ℕ) → logic ≡ length (logic_cells plan) → banks ≡ banks_of plan → bank ≡ length (bank_leaves plan 0)
    → logic + banks * bank ≡ length (leaf_instances plan)
leaves_total plan logic banks bank l n b =
    ap (λ (k : ℕ). k + banks * bank) l ∙ (ap (λ (k : ℕ). length (logic_cells plan) + k * bank) n
    ∙ (ap (λ (k : ℕ). length (logic_cells plan) + banks_of plan * k) b ∙ sym (leaves_long plan)))

pub leaves_small : (plan : Organization) (logic banks bank : ℕ) → IsBuildable plan → logic ≡ length (logic_cells plan) → banks ≡ banks_of plan → bank ≡ length (bank_leaves plan 0)
    → logic + banks * bank ≤ 300000
leaves_small plan logic banks bank p l n b = subst (λ (k : ℕ). k ≤ 300000) (sym (leaves_total plan logic banks bank l n b)) (leaves_few_all plan p)

pub enables_small : (plan : Organization) (banks enables : ℕ) → IsBuildable plan → banks ≡ banks_of plan → enables ≡ enables_of plan → banks * (2 * enables) ≤ 2048
enables_small plan banks enables p b e =
    let bd = bounds plan p in
    let few_banks = bd.banks in
    let few = bd.enables in
    let most = written_most plan.write_size (enable_count plan.masks) in
    mul-le banks (2 * enables) 4 512 (omega (arith, b, few_banks)) (omega (arith, e, few, most))
