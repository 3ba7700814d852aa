-- The cells of the logic row, side by side.
use Rattle.std.proofs.Common.{◌≡◌, ◌⊎◌, inl, inr, ℕ, zero, suc, ◌+◌, ◌*◌, ◌≤◌, ◌<◌, pos, List, [], ◌∷◌, ◌++◌, map, length, drop, get_or, flat_map, refl, ap, sym, subst, le_trans, ◌∙◌, append_assoc, append-nil, length-append, arith}
use Rattle.std.proofs.lemmas.List.{length-map, drop_all}
use Rattle.std.proofs.lemmas.Nat.{mul-le}
use Rattle.std.specs.List.{AllByRecursion}
use Rattle.or_geom.proofs.ListLaws.{rest_at}
use Rattle.netlist.specs.declared.deck.Instance.{Instance}
use Rattle.cell_roles.specs.declared.role.Role.{Role}
use Rattle.cell_builder.specs.declared.cell.PlacedInstance.{PlacedInstance}
use Rattle.cell_builder.specs.Additions.{instance_at}
use Rattle.sram_netlist.specs.Organization.{Organization, IsBuildable, IsGroupSize, power_of_two, total_bits, addr_bits, words_per_row, bank_bit, written_bits, inputs_of}
use Rattle.sram_netlist.specs.Instances.{LogicCell, LogicAt, Dd, Dm}
use Rattle.sram_netlist.specs.Netlist.{logic_role, enable_count, enables_of}
use Rattle.sram_netlist.specs.InstanceList.{numbers_from, tabulate, tabulate_lists, fixed_cells, address_cells, line_gates, gates, choice_gates, groups_gates, bank_cells, banks_cells, enable_gates, enable_cells, logic_cells}
use Rattle.sram_deck.specs.Deck.{logic_cell, logic_instances}
use Rattle.row_decoder.specs.declared.gate.LogicGate.{LogicGate}
use Rattle.row_decoder.specs.Gates.{logic_gate}
use Rattle.port_lists.proofs.TabulateLaws.{few_lines, some_lines, map_append}
use Rattle.floorplan.proofs.PlaceLaws.{few_powers}
use Rattle.macro_layout.specs.LayoutKit.{LayoutKit}
use Rattle.macro_layout.specs.Places.{upright, total_width}
use Rattle.macro_layout.specs.Cells.{leaf_in_cell, side_by_side}
use Rattle.control_logic.specs.declared.row.LogicRow.{LogicRow}
use Rattle.control_logic.specs.LogicPart.{IsLogicRow}

-- How many cells there are

count_numbers : (k n : ℕ) → length (numbers_from k n) ≡ n
count_numbers k zero = refl
count_numbers k (suc n) = ap suc (count_numbers (suc k) n)

count_tabulated : {A : Type 0} (n : ℕ) (f : ℕ → A) → length (tabulate n f) ≡ n
count_tabulated n f = length-map (numbers_from 0 n) f ∙ count_numbers 0 n

count_lists : {A : Type 0} (xs : List ℕ) (f : ℕ → List A) (m : ℕ) → ((x : ℕ) → length (f x) ≤ m) → length (flat_map f xs) ≤ length xs * m
count_lists [] f m few = omega arith
count_lists (x ∷ xs) f m few =
    let here = few x in
    let rest = count_lists xs f m few in
    let all = length-append (f x) (flat_map f xs) in
    omega (arith, here, rest, all)

count_all : {A : Type 0} (n : ℕ) (f : ℕ → List A) (m most : ℕ) → n ≤ most → ((x : ℕ) → length (f x) ≤ m) → length (tabulate_lists n f) ≤ most * m
count_all n f m most small few =
    le_trans (count_lists (numbers_from 0 n) f m few) (mul-le (length (numbers_from 0 n)) m most m (subst (λ (k : ℕ). k ≤ most) (sym (count_numbers 0 n)) small) (omega arith))

few_gates : (o b : ℕ) → b ≤ 7 → length (gates o b) ≤ 256
few_gates o b few = count_all (power_of_two b) (line_gates o b) 2 128 (few_lines b few) (λ k. omega arith)

few_choices : (m : ℕ) → m ≤ 3 → length (choice_gates m) ≤ 256
few_choices zero few = omega arith
few_choices (suc m) few = few_gates 0 (suc m) (omega (arith, few))

few_bits : (b : ℕ) → IsGroupSize b → b ≤ 3
few_bits b (inl e) = omega (arith, e)
few_bits b (inr e) = omega (arith, e)

few_group_gates : (bs : List ℕ) (o : ℕ) → AllByRecursion IsGroupSize bs → length (groups_gates bs o) ≤ length bs * 256
few_group_gates [] o sizes = omega arith
few_group_gates (b ∷ bs) o sizes =
    let few = few_bits b sizes.0 in
    let here = few_gates o b (omega (arith, few)) in
    let rest = few_group_gates bs (o + b) sizes.1 in
    let all = length-append (gates o b) (groups_gates bs (o + b)) in
    omega (arith, here, rest, all)

few_total : (bs : List ℕ) → AllByRecursion IsGroupSize bs → total_bits bs ≤ length bs * 3
few_total [] sizes = omega arith
few_total (b ∷ bs) sizes = let few = few_bits b sizes.0 in let rest = few_total bs sizes.1 in omega (arith, few, rest)

few_bank_cells : (plan : Organization) (n : ℕ) → n ≤ 2 → length (banks_cells plan n) ≤ 272
few_bank_cells plan zero few = omega arith
few_bank_cells plan (suc n) few =
    let lines = few_gates (bank_bit plan) (suc n) (omega (arith, few)) in
    let enables = count_all (power_of_two (suc n)) bank_cells 4 4 (few_powers (suc n) few) (λ k. omega arith) in
    let all = length-append (gates (bank_bit plan) (suc n)) (tabulate_lists (power_of_two (suc n)) bank_cells) in
    omega (arith, lines, enables, all)

few_written : (write_size n : ℕ) → written_bits write_size n ≤ n
few_written zero n = omega arith
few_written (suc write_size) n = omega arith

few_counted : (masks : ℕ) → masks ≤ 256 → enable_count masks ≤ 256
few_counted zero few = omega arith
few_counted (suc masks) few = few

few_enables_of : (count bank : ℕ) → count ≤ 256 → length (tabulate_lists count (enable_gates bank)) ≤ 512
few_enables_of count bank few = count_all count (enable_gates bank) 2 256 few (λ m. omega arith)

few_enables : (n masks enables : ℕ) → n ≤ 2 → enables ≤ 256 → length (enable_cells n masks enables) ≤ 2048
few_enables zero zero enables few small = omega arith
few_enables zero (suc masks) enables few small = le_trans (count_all 1 (λ (bank : ℕ). tabulate_lists enables (enable_gates bank)) 512 4 (omega arith) (λ bank. few_enables_of enables bank small)) (omega arith)
few_enables (suc n) masks enables few small =
    count_all (power_of_two (suc n)) (λ (bank : ℕ). tabulate_lists enables (enable_gates bank)) 512 4 (few_powers (suc n) few) (λ bank. few_enables_of enables bank small)

few_fixed : (write_size : ℕ) → length (fixed_cells write_size) ≤ 14
few_fixed zero = omega arith
few_fixed (suc write_size) = omega arith

few_words : (plan : Organization) → IsBuildable plan → plan.word_size ≤ 256
few_words plan is =
    le_trans (mul-le-one plan.word_size (words_per_row plan) (some_lines plan.col_bits)) is.columns where
      mul-le-one : (a b : ℕ) → 0 < b → a ≤ a * b
      mul-le-one a zero some = absurd (omega (arith, some))
      mul-le-one a (suc b) some = omega arith

few_masks : (plan : Organization) → IsBuildable plan → plan.masks ≤ 256
few_masks plan is = by is.masks where
  by : (plan.masks ≡ 0) ⊎ ((0 < plan.write_size) × (plan.masks * plan.write_size ≡ plan.word_size)) → plan.masks ≤ 256
  by (inl none) = omega (arith, none)
  by (inr some) = le_trans (mul-le-one plan.masks plan.write_size some.0) (subst (λ (n : ℕ). n ≤ 256) (sym some.1) (few_words plan is)) where
    mul-le-one : (a b : ℕ) → 0 < b → a ≤ a * b
    mul-le-one a zero least = absurd (omega (arith, least))
    mul-le-one a (suc b) least = omega arith

few_groups : (plan : Organization) → IsBuildable plan → length plan.groups ≤ 3
few_groups plan is = by is.groups where
  by : (length plan.groups ≡ 2) ⊎ (length plan.groups ≡ 3) → length plan.groups ≤ 3
  by (inl two) = omega (arith, two)
  by (inr three) = omega (arith, three)

both : {A : Type 0} (xs ys : List A) (m n : ℕ) → length xs ≤ m → length ys ≤ n → length (xs ++ ys) ≤ m + n
both xs ys m n few more = let all = length-append xs ys in omega (arith, few, more, all)

pub few_cells : (plan : Organization) → IsBuildable plan → length (logic_cells plan) ≤ 8192
few_cells plan is =
    let groups = few_groups plan is in
    let total = few_total plan.groups is.sizes in
    let banks = is.banks in
    let choices = is.choices in
    let address = count_all (addr_bits plan) address_cells 2 14 (omega (arith, groups, total, banks, choices)) (λ i. omega arith) in
    let gates_few = few_group_gates plan.groups plan.col_bits is.sizes in
    let inputs = count_tabulated (inputs_of plan) Dd in
    let few_of_inputs = le_trans (few_written plan.write_size plan.word_size) (few_words plan is) in
    let masks = count_tabulated plan.masks Dm in
    let few_of_masks = few_masks plan is in
    let few_of_enables = le_trans (few_written plan.write_size (enable_count plan.masks)) (few_counted plan.masks few_of_masks) in
    le_trans (both (fixed_cells plan.write_size) _ 14 4128 (few_fixed plan.write_size)
    (both (tabulate_lists (addr_bits plan) address_cells) _ 28 4100 address
    (both (choice_gates plan.col_bits) _ 256 3844 (few_choices plan.col_bits choices)
    (both (groups_gates plan.groups plan.col_bits) _ 768 3076 (omega (arith, gates_few, groups))
    (both (tabulate (inputs_of plan) Dd) _ 256 2820 (omega (arith, inputs, few_of_inputs))
    (both (tabulate plan.masks Dm) _ 256 2564 (omega (arith, masks, few_of_masks))
    (both (banks_cells plan plan.bank_bits) (enable_cells plan.bank_bits plan.masks (enables_of plan)) 272 2292 (few_bank_cells plan plan.bank_bits banks)
    (le_trans (few_enables plan.bank_bits plan.masks (enables_of plan) banks few_of_enables) (omega arith))))))))) (omega arith)

pub few_roles : (plan : Organization) → IsBuildable plan → (roles : List Role) → roles ≡ map (logic_role plan) (logic_cells plan) → length roles ≤ 8192
few_roles plan is roles are =
    let few = few_cells plan is in
    let same : length roles ≡ length (logic_cells plan) = ap length are ∙ length-map (logic_cells plan) (logic_role plan) in
    omega (arith, few, same)

pub same_count : (plan : Organization) (cell : Role → List ℕ) (gates : List Instance) (roles : List Role) → gates ≡ logic_instances plan cell → roles ≡ map (logic_role plan) (logic_cells plan) → length roles ≡ length gates
same_count plan cell gates roles gates_are roles_are =
    ap length roles_are ∙ (length-map (logic_cells plan) (logic_role plan) ∙ sym (ap length gates_are ∙ length-map (logic_cells plan) (logic_cell plan cell)))

-- The row of the listed gates

map_map : {A B C : Type 0} (g : B → C) (f : A → B) (xs : List A) → map g (map f xs) ≡ map (λ x. g (f x)) xs
map_map g f [] = refl
map_map {C = C} g f (x ∷ xs) = ap (λ (l : List C). g (f x) ∷ l) (map_map g f xs)

map_same : {A : Type 0} (xs : List A) → map (λ x. x) xs ≡ xs
map_same [] = refl
map_same {A = A} (x ∷ xs) = ap (λ (l : List A). x ∷ l) (map_same xs)

pub mapped_more : {A B : Type 0} (f : A → B) (xs : List A) (now new : List B) (x : A) → now ≡ map f xs → new ≡ now ++ f x ∷ [] → new ≡ map f (xs ++ x ∷ [])
mapped_more {B = B} f xs now new x before added = added ∙ (ap (λ (l : List B). l ++ f x ∷ []) before ∙ sym (map_append f xs (x ∷ [])))

pub mapped_all : {A B : Type 0} (f : A → B) (xs all : List A) (now : List B) → now ≡ map f xs → map (λ x. x) xs ≡ all → now ≡ map f all
mapped_all f xs all now is same = is ∙ ap (map f) (sym (map_same xs) ∙ same)

pub row_is : (plan : Organization) (cell : Role → List ℕ) (list : List LogicGate) (row : LogicRow) → list ≡ map (logic_gate plan cell) (logic_cells plan)
    → row.gates.items ≡ map (λ (g : LogicGate). g.instance) list → row.roles.items ≡ map (λ (g : LogicGate). g.role) list → IsLogicRow plan cell row
row_is plan cell list row is gates roles = record {
  gates = gates ∙ (ap (map (λ (g : LogicGate). g.instance)) is ∙ map_map (λ (g : LogicGate). g.instance) (logic_gate plan cell) (logic_cells plan));
  roles = roles ∙ (ap (map (λ (g : LogicGate). g.role)) is ∙ map_map (λ (g : LogicGate). g.role) (logic_gate plan cell) (logic_cells plan));
}

-- Placing them

-- the cells of gates with these roles, side by side from x on
abbrev pub placed_from : (Role → ℕ) → ℕ → List Instance → List Role → List PlacedInstance
placed_from width x [] roles = []
placed_from width x (g ∷ gs) [] = []
placed_from width x (g ∷ gs) (r ∷ rs) = instance_at g.name g.of (upright (pos x) (pos 0)) ∷ placed_from width (x + width r) gs rs

placed_are : (plan : Organization) (kit : LayoutKit) (x : ℕ) (cells : List LogicCell) → placed_from kit.width x (map (logic_cell plan kit.cell) cells) (map (logic_role plan) cells) ≡ side_by_side plan kit x cells
placed_are plan kit x [] = refl
placed_are plan kit x (c ∷ cs) = ap (λ (l : List PlacedInstance). leaf_in_cell plan kit (LogicAt c) (pos x) (pos 0) ∷ l) (placed_are plan kit (x + kit.width (logic_role plan c)) cs)

-- so many of the gates are placed, and the next begins at x
pub record ArePlaced (width : Role → ℕ) (gates : List Instance) (roles : List Role) (placed : List PlacedInstance) (k x : ℕ) : Type 0 where
  pub all : placed ++ placed_from width x (drop k gates) (drop k roles) ≡ placed_from width 0 gates roles
  pub few : x ≤ 65536 * k

pub one_placed : (width : Role → ℕ) (gates : List Instance) (roles : List Role) (placed more : List PlacedInstance) (k x w : ℕ) (gate : Instance) (role : Role) (made : PlacedInstance) → ArePlaced width gates roles placed k x
    → length roles ≡ length gates → k < length gates → gate ≡ get_or gates k gate → role ≡ get_or roles k role → made ≡ instance_at gate.name gate.of (upright (pos x) (pos 0)) → more ≡ placed ++ made ∷ []
    → w ≡ width role → w ≤ 65536 → ArePlaced width gates roles more (k + 1) (x + w)
one_placed width gates roles placed more k x w gate role made are same less at plays is added wide small =
    let first = rest_at gates k gate less at in
    let second = rest_at roles k role (omega (arith, same, less)) plays in
    let few = are.few in
    record {
      all = (λ i. (added ∙ ap (λ (p : PlacedInstance). placed ++ p ∷ []) is) i ++ placed_from width (x + wide i) (drop (k + 1) gates) (drop (k + 1) roles))
          ∙ (append_assoc placed (instance_at gate.name gate.of (upright (pos x) (pos 0)) ∷ []) (placed_from width (x + width role) (drop (k + 1) gates) (drop (k + 1) roles))
          ∙ ((λ i. placed ++ placed_from width x (sym first i) (sym second i)) ∙ are.all));
      few = omega (arith, few, small);
    }

pub all_placed : (plan : Organization) (kit : LayoutKit) (gates : List Instance) (roles : List Role) (placed : List PlacedInstance) (k x : ℕ) → ArePlaced kit.width gates roles placed k x → length gates ≤ k
    → gates ≡ logic_instances plan kit.cell → roles ≡ map (logic_role plan) (logic_cells plan) → placed ≡ side_by_side plan kit 0 (logic_cells plan)
all_placed plan kit gates roles placed k x are end gates_are roles_are =
    sym (append-nil placed) ∙ (ap (λ (l : List Instance). placed ++ placed_from kit.width x l (drop k roles)) (sym (drop_all k gates end))
    ∙ (are.all ∙ ((λ i. placed_from kit.width 0 (gates_are i) (roles_are i)) ∙ placed_are plan kit 0 (logic_cells plan))))

-- Adding up their widths

-- the width of cells of these roles
abbrev pub width_of_all : (Role → ℕ) → List Role → ℕ
width_of_all width [] = 0
width_of_all width (r ∷ rs) = width r + width_of_all width rs

widths_are : (plan : Organization) (kit : LayoutKit) (cells : List LogicCell) → width_of_all kit.width (map (logic_role plan) cells) ≡ total_width plan kit cells
widths_are plan kit [] = refl
widths_are plan kit (c ∷ cs) = ap (λ (n : ℕ). kit.width (logic_role plan c) + n) (widths_are plan kit cs)

-- the widths of so many of the roles are added up
pub record AreAdded (width : Role → ℕ) (roles : List Role) (k x : ℕ) : Type 0 where
  pub all : x + width_of_all width (drop k roles) ≡ width_of_all width roles
  pub few : x ≤ 65536 * k
  pub within : k ≤ length roles

pub all_added : (plan : Organization) (kit : LayoutKit) (roles : List Role) (k x : ℕ) → AreAdded kit.width roles k x → length roles ≤ k → roles ≡ map (logic_role plan) (logic_cells plan) → x ≡ total_width plan kit (logic_cells plan)
all_added plan kit roles k x are end roles_are =
    let all = are.all in
    let none = ap (width_of_all kit.width) (drop_all k roles end) in
    let sum = ap (width_of_all kit.width) roles_are ∙ widths_are plan kit (logic_cells plan) in
    omega (arith, all, none, sum)

pub few_added : (width : Role → ℕ) (roles : List Role) (k x : ℕ) → AreAdded width roles k x → length roles ≤ 8192 → x ≤ 536870912
few_added width roles k x are small = let few = are.few in let within = are.within in omega (arith, few, within, small)
