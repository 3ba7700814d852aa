-- The gates of banks and of write enables.
use Rattle.std.proofs.Common.{◌≡◌, ℕ, zero, suc, ◌+◌, ◌-◌, ◌≤◌, List, [], ◌∷◌, ◌++◌, length, map, refl, ap, sym, ◌∙◌, append_assoc, arith}
use Rattle.std.specs.Prelude.{codes}
use Rattle.std.specs.List.{AllByRecursion}
use Rattle.cell_roles.specs.declared.role.Role.{Role}
use Rattle.cell_roles.specs.declared.role.Role.TheVariants.{Nand2, Inv}
use Rattle.sram_netlist.specs.Organization.{Organization, IsGroupSize, power_of_two, bank_bit}
use Rattle.sram_netlist.specs.Instances.{LogicCell}
use Rattle.sram_netlist.specs.Names.{LineKind, Bank, line_kind, line_name, net_name, with_number}
use Rattle.sram_netlist.specs.Netlist.{bank_input}
use Rattle.sram_netlist.specs.InstanceList.{tabulate_lists, gates, bank_cells, banks_cells}
use Rattle.row_decoder.specs.declared.gate.LogicGate.{LogicGate}
use Rattle.row_decoder.specs.Gates.{gate_of_role, logic_gate}
use Rattle.control_logic.specs.BankGates.{bank_word_line_gates, bank_sense_gates}
use Rattle.port_lists.proofs.TabulateLaws.{map_append}
use Rattle.row_decoder.proofs.KindLaws.{few_bits_more}

-- a bank's gates, where it is known that the lines of the highest bits choose banks
abbrev named_gates : (cell : Role → List ℕ) (b : ℕ) (kind : LineKind) → List LogicGate
named_gates cell b kind =
    gate_of_role cell Nand2 (with_number (codes "xln") b) (codes "wlen" ∷ line_name kind b ∷ with_number (codes "lb") b ∷ [])
    ∷ gate_of_role cell Inv (with_number (codes "xli") b) (with_number (codes "lb") b ∷ with_number (codes "wlen") b ∷ [])
    ∷ gate_of_role cell Nand2 (with_number (codes "xkn") b) (codes "sen" ∷ line_name kind b ∷ with_number (codes "kb") b ∷ [])
    ∷ gate_of_role cell Inv (with_number (codes "xki") b) (with_number (codes "kb") b ∷ with_number (codes "sen") b ∷ [])
    ∷ []

pub bank_gates_are : (plan : Organization) (cell : Role → List ℕ) (b : ℕ) (now mid new : List LogicGate) → line_kind plan (bank_bit plan) ≡ Bank
    → mid ≡ now ++ bank_word_line_gates cell b → new ≡ mid ++ bank_sense_gates cell b → new ≡ now ++ map (logic_gate plan cell) (bank_cells b)
bank_gates_are plan cell b now mid new known first second =
    second ∙ (ap (λ (l : List LogicGate). l ++ bank_sense_gates cell b) first ∙ (append_assoc now (bank_word_line_gates cell b) (bank_sense_gates cell b)
    ∙ ap (λ (kind : LineKind). now ++ named_gates cell b kind) (sym known)))

pub no_banks : (plan : Organization) (n : ℕ) → n ≡ 0 → banks_cells plan n ≡ []
no_banks plan zero none = refl
no_banks plan (suc n) none = absurd (omega (arith, none))

pub some_banks : (plan : Organization) (n : ℕ) → (n ≡ 0 → ⊥) → banks_cells plan n ≡ gates (bank_bit plan) n ++ tabulate_lists (power_of_two n) bank_cells
some_banks plan zero some = absurd (some refl)
some_banks plan (suc n) some = refl

-- the lines of the banks, and then their enables
pub banks_are_all : (g : LogicCell → LogicGate) (plan : Organization) (n low : ℕ) (old now new : List LogicGate) → (n ≡ 0 → ⊥) → low ≡ bank_bit plan → now ≡ old ++ map g (gates low n)
    → new ≡ now ++ map g (tabulate_lists (power_of_two n) bank_cells) → new ≡ old ++ map g (banks_cells plan n)
banks_are_all g plan n low old now new some at lines enables =
    enables ∙ (ap (λ (l : List LogicGate). l ++ map g (tabulate_lists (power_of_two n) bank_cells)) (lines ∙ ap (λ (o : ℕ). old ++ map g (gates o n)) at)
    ∙ (append_assoc old (map g (gates (bank_bit plan) n)) (map g (tabulate_lists (power_of_two n) bank_cells))
    ∙ ap (λ (l : List LogicGate). old ++ l) (sym (ap (λ (cs : List LogicCell). map g cs) (some_banks plan n some) ∙ map_append g (gates (bank_bit plan) n) (tabulate_lists (power_of_two n) bank_cells)))))

pub low_is : (plan : Organization) (bits all low : ℕ) → all ≡ bank_bit plan + bits → low ≡ all - bits → low ≡ bank_bit plan
low_is plan bits all low is at = omega (arith, is, at)

pub bank_bit_few : (plan : Organization) → AllByRecursion IsGroupSize plan.groups → length plan.groups ≤ 3 → plan.col_bits ≤ 3 → bank_bit plan ≤ 12
bank_bit_few plan sizes few choices = let total = few_bits_more plan.groups sizes in omega (arith, total, few, choices)

pub bank_input_is : (plan : Organization) (n b : ℕ) → (n ≡ 0 → ⊥) → line_kind plan (bank_bit plan) ≡ Bank → map (net_name plan) (bank_input plan n b) ≡ with_number (codes "e") b ∷ []
bank_input_is plan zero b some known = absurd (some refl)
bank_input_is plan (suc n) b some known = ap (λ (kind : LineKind). line_name kind b ∷ []) known
