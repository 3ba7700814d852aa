-- The roles of the cells of the logic row: those that stand side by side do so too in the row of a word of two bits.
use Rattle.std.proofs.Common.{◌≡◌, inl, inr, ℕ, zero, suc, ◌+◌, ◌*◌, ◌<◌, List, [], ◌∷◌, ◌++◌, map, flat_map, length, refl, sym, ap, subst, ◌∙◌, append_assoc, arith}
use Rattle.std.specs.List.{AllByRecursion}
use Rattle.std.proofs.lemmas.List.{map-append}
use Rattle.cell_roles.specs.declared.role.Role.{Role}
use Rattle.cell_roles.specs.declared.role.Role.TheVariants.{Nand2, Nand3, Inv, Dff}
use Rattle.sram_netlist.specs.Organization.{Organization, inputs_of, power_of_two, bank_bit, addr_bits, written_bits}
use Rattle.sram_netlist.specs.Instances.{LogicCell, Dd, Dm, Gn}
use Rattle.sram_netlist.specs.Nets.{Control, Wen}
use Rattle.sram_netlist.specs.Netlist.{logic_role, gate_of, enable_count, enables_of, bank_input, mask_input}
use Rattle.sram_netlist.specs.InstanceList.{numbers_from, tabulate, tabulate_lists, fixed_cells, address_cells, line_gates, gates, choice_gates, groups_gates, bank_cells, banks_cells, enable_gates, enable_cells, logic_cells}
use Rattle.route_laws.proofs.ColumnLaws.{some_power}
use Rattle.spacing_laws.proofs.PathLaws.{IsPath, PairIn, copies, turns, AreTurnsOf, same_pairs}
use Rattle.row_laws.proofs.LookLaws.{all_append}
use Rattle.sram_netlist.proofs.Bounds.{written_all}

-- The organisation of the window that is looked at for a plan: words of two bits, with a mask for each bit where the plan has masks.

abbrev pub model_masks : ℕ → ℕ
model_masks zero = 0
model_masks (suc masks) = 2

abbrev pub model_write : ℕ → ℕ
model_write zero = 2
model_write (suc masks) = 1

abbrev pub model : Organization → Organization
model plan = record { word_size = 2; write_size = model_write plan.masks; masks = model_masks plan.masks; bank_bits = plan.bank_bits; col_bits = plan.col_bits; groups = plan.groups }

abbrev pub kinds : Organization → List Role
kinds plan = map (logic_role plan) (logic_cells plan)

-- What both have in front

abbrev front : Organization → List LogicCell
front plan = fixed_cells plan.write_size ++ (tabulate_lists (addr_bits plan) address_cells ++ (choice_gates plan.col_bits ++ groups_gates plan.groups plan.col_bits))

SameKind : Organization → Organization → LogicCell → Type 0
SameKind plan other c = logic_role plan c ≡ logic_role other c

pub all_flat : {X : Type 0} (P : X → Type 0) (f : ℕ → List X) (ns : List ℕ) → ((k : ℕ) → AllByRecursion P (f k)) → AllByRecursion P (flat_map f ns)
all_flat P f [] each = tt
all_flat P f (n ∷ ns) each = all_append P (f n) (flat_map f ns) (each n) (all_flat P f ns each)

gates_same : (plan other : Organization) (o b : ℕ) → AllByRecursion (SameKind plan other) (gates o b)
unfolding SameKind
gates_same plan other o b = all_flat (SameKind plan other) (line_gates o b) (numbers_from 0 (power_of_two b)) (λ k. (refl, (refl, tt)))

choice_same : (plan other : Organization) (n : ℕ) → AllByRecursion (SameKind plan other) (choice_gates n)
choice_same plan other zero = tt
choice_same plan other (suc n) = gates_same plan other 0 (suc n)

groups_same : (plan other : Organization) (bs : List ℕ) (o : ℕ) → AllByRecursion (SameKind plan other) (groups_gates bs o)
groups_same plan other [] o = tt
groups_same plan other (b ∷ bs) o = all_append (SameKind plan other) (gates o b) (groups_gates bs (o + b)) (gates_same plan other o b) (groups_same plan other bs (o + b))

fixed_same : (plan other : Organization) (w : ℕ) → AllByRecursion (SameKind plan other) (fixed_cells w)
unfolding SameKind
fixed_same plan other zero = (refl, (refl, (refl, (refl, (refl, (refl, (refl, (refl, tt))))))))
fixed_same plan other (suc w) = (refl, (refl, (refl, (refl, (refl, (refl, (refl, (refl, (refl, (refl, (refl, (refl, (refl, (refl, tt))))))))))))))

address_same : (plan other : Organization) (n : ℕ) → AllByRecursion (SameKind plan other) (tabulate_lists n address_cells)
unfolding SameKind
address_same plan other n = all_flat (SameKind plan other) address_cells (numbers_from 0 n) (λ k. (refl, (refl, tt)))

banks_same : (plan other whose : Organization) (n : ℕ) → AllByRecursion (SameKind plan other) (banks_cells whose n)
unfolding SameKind
banks_same plan other whose zero = tt
banks_same plan other whose (suc n) =
    all_append (SameKind plan other) (gates (bank_bit whose) (suc n)) (tabulate_lists (power_of_two (suc n)) bank_cells) (gates_same plan other (bank_bit whose) (suc n))
    (all_flat (SameKind plan other) bank_cells (numbers_from 0 (power_of_two (suc n))) (λ k. (refl, (refl, (refl, (refl, tt))))))

front_same : (plan other whose : Organization) → AllByRecursion (SameKind plan other) (front whose)
front_same plan other whose =
    let P = SameKind plan other in
    let groups = groups_gates whose.groups whose.col_bits in
    let choices = choice_gates whose.col_bits in
    let address = tabulate_lists (addr_bits whose) address_cells in
    all_append P (fixed_cells whose.write_size) (address ++ (choices ++ groups)) (fixed_same plan other whose.write_size)
    (all_append P address (choices ++ groups) (address_same plan other (addr_bits whose))
    (all_append P choices groups (choice_same plan other whose.col_bits) (groups_same plan other whose.groups whose.col_bits)))

map_same : (plan other : Organization) (cells : List LogicCell) → AllByRecursion (SameKind plan other) cells → map (logic_role plan) cells ≡ map (logic_role other) cells
unfolding SameKind
map_same plan other [] same = refl
map_same plan other (c ∷ cs) same = λ i. same.0 i ∷ map_same plan other cs same.1 i

-- The flip-flops of data and masks

data_copies : (plan : Organization) (k n : ℕ) → map (logic_role plan) (map Dd (numbers_from k n)) ≡ copies Dff n
data_copies plan k zero = refl
data_copies plan k (suc n) = ap (λ (l : List Role). Dff ∷ l) (data_copies plan (suc k) n)

mask_copies : (plan : Organization) (k n : ℕ) → map (logic_role plan) (map Dm (numbers_from k n)) ≡ copies Dff n
mask_copies plan k zero = refl
mask_copies plan k (suc n) = ap (λ (l : List Role). Dff ∷ l) (mask_copies plan (suc k) n)

copies_more : {T : Type 0} (d : T) (n m : ℕ) (l : List T) → copies d n ++ (copies d m ++ l) ≡ copies d (n + m) ++ l
copies_more d zero m l = ap (λ (k : ℕ). copies d k ++ l) (omega arith)
copies_more {T} d (suc n) m l = let e : suc (n + m) ≡ suc n + m = omega arith in ap (λ (r : List T). d ∷ r) (copies_more d n m l) ∙ ap (λ (k : ℕ). copies d k ++ l) e

-- The write enables

abbrev enable_kind : ℕ → ℕ → Role
enable_kind zero zero = Inv
enable_kind zero (suc masks) = Nand2
enable_kind (suc n) zero = Nand2
enable_kind (suc n) (suc masks) = Nand3

abbrev turn_count : ℕ → ℕ → ℕ → ℕ
turn_count zero zero enables = 0
turn_count zero (suc masks) enables = 1 * enables
turn_count (suc n) masks enables = power_of_two (suc n) * enables

enable_gate : (plan : Organization) (n masks bank m : ℕ) → gate_of (length (Control Wen ∷ (bank_input plan n bank ++ mask_input masks m))) ≡ enable_kind n masks
enable_gate plan zero zero bank m = refl
enable_gate plan zero (suc masks) bank m = refl
enable_gate plan (suc n) zero bank m = refl
enable_gate plan (suc n) (suc masks) bank m = refl

AreOfKind : Organization → Role → Type 0
AreOfKind plan g = (bank m : ℕ) → logic_role plan (Gn bank m) ≡ g

mask_turns : (plan : Organization) (g : Role) (bank k n : ℕ) → AreOfKind plan g → map (logic_role plan) (flat_map (enable_gates bank) (numbers_from k n)) ≡ turns g Inv n
unfolding AreOfKind
mask_turns plan g bank k zero is = refl
mask_turns plan g bank k (suc n) is = λ i. is bank k i ∷ Inv ∷ mask_turns plan g bank (suc k) n is i

turns_more : {T : Type 0} (a b : T) (n m : ℕ) → turns a b n ++ turns a b m ≡ turns a b (n + m)
turns_more a b zero m = ap (turns a b) (omega arith)
turns_more {T} a b (suc n) m = let e : suc (n + m) ≡ suc n + m = omega arith in ap (λ (l : List T). a ∷ b ∷ l) (turns_more a b n m) ∙ ap (turns a b) e

bank_turns : (plan : Organization) (g : Role) (enables k n : ℕ) → AreOfKind plan g → map (logic_role plan) (flat_map (λ bank. tabulate_lists enables (enable_gates bank)) (numbers_from k n)) ≡ turns g Inv (n * enables)
bank_turns plan g enables k zero is = let e : 0 ≡ 0 * enables = omega arith in ap (turns g Inv) e
bank_turns plan g enables k (suc n) is =
    let e : enables + n * enables ≡ suc n * enables = grind arith in
    map-append (logic_role plan) (tabulate_lists enables (enable_gates k)) (flat_map (λ bank. tabulate_lists enables (enable_gates bank)) (numbers_from (suc k) n))
    ∙ ((λ i. mask_turns plan g k 0 enables is i ++ bank_turns plan g enables (suc k) n is i) ∙ (turns_more g Inv enables (n * enables) ∙ ap (turns g Inv) e))

enable_turns : (plan : Organization) (g : Role) (n masks enables : ℕ) → AreOfKind plan g → map (logic_role plan) (enable_cells n masks enables) ≡ turns g Inv (turn_count n masks enables)
enable_turns plan g zero zero enables is = refl
enable_turns plan g zero (suc masks) enables is = bank_turns plan g enables 0 1 is
enable_turns plan g (suc n) masks enables is = bank_turns plan g enables 0 (power_of_two (suc n)) is

of_kind : (plan : Organization) → AreOfKind plan (enable_kind plan.bank_bits plan.masks)
unfolding AreOfKind
of_kind plan bank m = enable_gate plan plan.bank_bits plan.masks bank m

-- The whole row

abbrev form : List Role → ℕ → List Role → Role → ℕ → List Role
form xs n ys a k = xs ++ (copies Dff n ++ (ys ++ turns a Inv k))

four_joined : {X : Type 0} (a b c d e : List X) → a ++ (b ++ (c ++ (d ++ e))) ≡ (a ++ (b ++ (c ++ d))) ++ e
four_joined {X} a b c d e =
    sym (append_assoc a (b ++ (c ++ d)) e ∙ ap (λ (l : List X). a ++ l) (append_assoc b (c ++ d) e ∙ ap (λ (l : List X). b ++ l) (append_assoc c d e)))

kinds_form : (plan : Organization) → kinds plan ≡ form (map (logic_role plan) (front plan)) (inputs_of plan + plan.masks) (map (logic_role plan) (banks_cells plan plan.bank_bits)) (enable_kind plan.bank_bits plan.masks) (turn_count plan.bank_bits plan.masks (enables_of plan))
kinds_form plan =
    let r = logic_role plan in
    let banks = banks_cells plan plan.bank_bits in
    let enables = enable_cells plan.bank_bits plan.masks (enables_of plan) in
    let data_ = tabulate (inputs_of plan) Dd in
    let masks = tabulate plan.masks Dm in
    let ends = turns (enable_kind plan.bank_bits plan.masks) Inv (turn_count plan.bank_bits plan.masks (enables_of plan)) in
    ap (map r) (four_joined (fixed_cells plan.write_size) (tabulate_lists (addr_bits plan) address_cells) (choice_gates plan.col_bits) (groups_gates plan.groups plan.col_bits) (data_ ++ (masks ++ (banks ++ enables))))
    ∙ (map-append r (front plan) (data_ ++ (masks ++ (banks ++ enables)))
    ∙ ap (λ (l : List Role). map r (front plan) ++ l)
    (map-append r data_ (masks ++ (banks ++ enables))
    ∙ ((λ i. data_copies plan 0 (inputs_of plan) i ++ (map-append r masks (banks ++ enables)
    ∙ (λ j. mask_copies plan 0 plan.masks j ++ (map-append r banks enables ∙ ap (λ (l : List Role). map r banks ++ l) (enable_turns plan (enable_kind plan.bank_bits plan.masks) plan.bank_bits plan.masks (enables_of plan) (of_kind plan))) j)) i)
    ∙ copies_more Dff (inputs_of plan) plan.masks (map r banks ++ ends))))

-- The model's row

fixed_written : (w : ℕ) → 0 < w → fixed_cells w ≡ fixed_cells 1
fixed_written zero some = absurd (omega (arith, some))
fixed_written (suc w) some = refl

pub some_written : (masks : ℕ) → 0 < model_write masks
some_written zero = omega arith
some_written (suc masks) = omega arith

model_front : (plan : Organization) → 0 < plan.write_size → front (model plan) ≡ front plan
model_front plan some =
    ap (λ (l : List LogicCell). l ++ (tabulate_lists (addr_bits plan) address_cells ++ (choice_gates plan.col_bits ++ groups_gates plan.groups plan.col_bits)))
    (fixed_written (model_write plan.masks) (some_written plan.masks) ∙ sym (fixed_written plan.write_size some))

model_banks : (plan : Organization) (n : ℕ) → banks_cells (model plan) n ≡ banks_cells plan n
model_banks plan zero = refl
model_banks plan (suc n) = refl

model_kind : (n masks : ℕ) → enable_kind n (model_masks masks) ≡ enable_kind n masks
model_kind zero zero = refl
model_kind zero (suc masks) = refl
model_kind (suc n) zero = refl
model_kind (suc n) (suc masks) = refl

some_times : (a b : ℕ) → 0 < a → 0 < b → 0 < a * b
some_times zero b less more = absurd (omega (arith, less))
some_times (suc a) zero less more = absurd (omega (arith, more))
some_times (suc a) (suc b) less more = let e : suc a * suc b ≡ suc b + a * suc b = grind arith in omega (arith, e)

model_turns : (n masks : ℕ) → AreTurnsOf (turn_count n masks (enable_count masks)) (turn_count n (model_masks masks) (written_bits (model_write masks) (enable_count (model_masks masks))))
model_turns zero zero = inl refl
model_turns zero (suc masks) = inr (omega arith, omega arith)
model_turns (suc n) zero = inl refl
model_turns (suc n) (suc masks) = let some = some_power (suc n) in inr (some_times (power_of_two (suc n)) (suc masks) some (omega arith), omega (arith, some))

-- Each two cells that stand side by side have the roles of two that do in the model's row.
pub model_path : (plan : Organization) → 0 < plan.write_size → 0 < plan.word_size → IsPath (PairIn (kinds (model plan))) (kinds plan)
model_path plan some bits =
    let other = model plan in
    let xs = map (logic_role plan) (front plan) in
    let ys = map (logic_role plan) (banks_cells plan plan.bank_bits) in
    let a = enable_kind plan.bank_bits plan.masks in
    let k = turn_count plan.bank_bits plan.masks (enables_of plan) in
    let l = turn_count plan.bank_bits (model_masks plan.masks) (enables_of other) in
    let same_front : map (logic_role other) (front other) ≡ xs = ap (map (logic_role other)) (model_front plan some) ∙ map_same other plan (front plan) (front_same other plan plan) in
    let same_banks : map (logic_role other) (banks_cells other plan.bank_bits) ≡ ys = ap (map (logic_role other)) (model_banks plan plan.bank_bits) ∙ map_same other plan (banks_cells plan plan.bank_bits) (banks_same other plan plan plan.bank_bits) in
    let counted : turn_count plan.bank_bits plan.masks (enable_count plan.masks) ≡ k = ap (turn_count plan.bank_bits plan.masks) (sym (written_all plan.write_size (enable_count plan.masks) some)) in
    let turned : AreTurnsOf k l = subst (λ (c : ℕ). AreTurnsOf c l) counted (model_turns plan.bank_bits plan.masks) in
    let inputs = written_all plan.write_size plan.word_size some in
    let ins = written_all (model_write plan.masks) 2 (some_written plan.masks) in
    subst (λ (rs : List Role). IsPath (PairIn (kinds other)) rs) (sym (kinds_form plan))
    (subst (λ (rs : List Role). IsPath (PairIn rs) (form xs (inputs_of plan + plan.masks) ys a k)) (sym (kinds_form other ∙ (λ i. form (same_front i) (inputs_of other + model_masks plan.masks) (same_banks i) (model_kind plan.bank_bits plan.masks i) l)))
    (same_pairs xs Dff ys a Inv (inputs_of plan + plan.masks) (inputs_of other + model_masks plan.masks) k l (omega (arith, inputs, bits)) (omega (arith, ins)) turned))
