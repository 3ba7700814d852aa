-- Places in a row.
use Rattle.std.proofs.Common.{◌≡◌, ℕ, zero, suc, ◌*◌, ◌<◌, ◌≤◌, pos, ℤ, List, ◌∷◌, [], ◌++◌, ap, sym, subst, le_trans, ◌∙◌, append_assoc, arith}
use Rattle.std.proofs.lemmas.Nat.{mul-le}
use Rattle.cell_builder.specs.declared.cell.PlacedInstance.{PlacedInstance}
use Rattle.cell_builder.specs.declared.cell.DrawnCell.{DrawnCell}
use Rattle.cell_builder.specs.Additions.{instance_at}
use Rattle.sram_netlist.specs.Numbers.{PlanNumbers, ArePlanNumbers}
use Rattle.sram_netlist.specs.Organization.{power_of_two}
use Rattle.port_lists.proofs.NumberLaws.{columns_are, rows_are, banks_are}
use Rattle.macro_layout.specs.Places.{upright}
use Rattle.macro_layout.specs.Cells.{bare_cell}

-- an instance at an equal x
pub at_same : (made : PlacedInstance) (name of : List ℕ) (x at : ℕ) (y : ℤ) → made ≡ instance_at name of (upright (pos x) y) → x ≡ at → made ≡ instance_at name of (upright (pos at) y)
at_same made name of x at y is same = is ∙ ap (λ (n : ℕ). instance_at name of (upright (pos n) y)) same

-- an instance of an equal cell at an equal x
pub of_same_cell : (made : PlacedInstance) (name of cell : List ℕ) (x at : ℕ) (y : ℤ) → made ≡ instance_at name of (upright (pos x) y) → of ≡ cell → x ≡ at → made ≡ instance_at name cell (upright (pos at) y)
of_same_cell made name of cell x at y is alike same = is ∙ (λ i. instance_at name (alike i) (upright (pos (same i)) y))

pub few_columns : (n : PlanNumbers) → ArePlanNumbers n → n.columns ≤ 256
few_columns n are = subst (λ (k : ℕ). k ≤ 256) (sym (columns_are n are)) are.plan.columns

pub few_rows : (n : PlanNumbers) → ArePlanNumbers n → n.rows ≤ 256
few_rows n are = subst (λ (k : ℕ). k ≤ 256) (sym (rows_are n are)) are.plan.rows

pub few_powers : (n : ℕ) → n ≤ 2 → power_of_two n ≤ 4
few_powers zero few = omega arith
few_powers (suc zero) few = omega arith
few_powers (suc (suc zero)) few = omega arith
few_powers (suc (suc (suc n))) few = absurd (omega (arith, few))

pub few_banks : (n : PlanNumbers) → ArePlanNumbers n → n.banks ≤ 4
few_banks n are = subst (λ (k : ℕ). k ≤ 4) (sym (banks_are n are)) (few_powers n.bank_bits are.plan.banks)

-- the first column of a bit of the word
pub few_before : (n : PlanNumbers) → ArePlanNumbers n → (bit : ℕ) → bit < n.word_size → bit * n.wpr ≤ 256
few_before n are bit below =
    le_trans (mul-le bit n.wpr n.word_size n.wpr (omega (arith, below)) (omega arith)) (subst (λ (k : ℕ). k ≤ 256) are.columns (few_columns n are))

-- a cell of instances that were added to none
pub cell_from_none : (cell : DrawnCell) (name : List ℕ) (none all added : List PlacedInstance) → cell ≡ bare_cell name all → none ≡ [] → all ≡ none ++ added → cell ≡ bare_cell name added
cell_from_none cell name none all added is empty more = is ∙ ap (bare_cell name) (more ∙ ap (λ (l : List PlacedInstance). l ++ added) empty)

-- the same by an equal name
pub of_same_name : (cell : DrawnCell) (made name : List ℕ) (all : List PlacedInstance) → cell ≡ bare_cell made all → made ≡ name → cell ≡ bare_cell name all
of_same_name cell made name all is same = is ∙ ap (λ (n : List ℕ). bare_cell n all) same

-- two instances, and then others
pub cell_from_two : (cell : DrawnCell) (name : List ℕ) (none one two all added : List PlacedInstance) (a first b second : PlacedInstance) → cell ≡ bare_cell name all → none ≡ [] → one ≡ none ++ a ∷ []
    → two ≡ one ++ b ∷ [] → all ≡ two ++ added → a ≡ first → b ≡ second → cell ≡ bare_cell name (first ∷ (second ∷ added))
cell_from_two cell name none one two all added a first b second is empty push_one push_two more is_first is_second =
    is ∙ ap (bare_cell name) (more ∙ (ap (λ (l : List PlacedInstance). l ++ added) (push_two ∙ ap (λ (l : List PlacedInstance). l ++ b ∷ []) (push_one ∙ ap (λ (l : List PlacedInstance). l ++ a ∷ []) empty))
    ∙ (λ i. is_first i ∷ (is_second i ∷ added))))

-- three lists of instances
pub cell_from_lists : (cell : DrawnCell) (name : List ℕ) (none one two all first second third : List PlacedInstance) → cell ≡ bare_cell name all → none ≡ [] → one ≡ none ++ first → two ≡ one ++ second
    → all ≡ two ++ third → cell ≡ bare_cell name (first ++ (second ++ third))
cell_from_lists cell name none one two all first second third is empty add_first add_second add_third =
    is ∙ ap (bare_cell name) (add_third ∙ (ap (λ (l : List PlacedInstance). l ++ third) (add_second ∙ ap (λ (l : List PlacedInstance). l ++ second) (add_first ∙ ap (λ (l : List PlacedInstance). l ++ first) empty))
    ∙ append_assoc first second third))

-- the same at an equal y
pub at_same_spot : (made : PlacedInstance) (name of : List ℕ) (x at : ℕ) (y height : ℤ) → made ≡ instance_at name of (upright (pos x) y) → x ≡ at → y ≡ height → made ≡ instance_at name of (upright (pos at) height)
at_same_spot made name of x at y height is same level = is ∙ (λ i. instance_at name of (upright (pos (same i)) (level i)))
