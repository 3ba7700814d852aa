-- The words of a data file are those that a memory of one bank holds.
use Rattle.std.proofs.Common.{◌≡◌, ℕ, ◌*◌, ◌^◌, List, ap, ◌∙◌, arith}
use Rattle.sram_netlist.specs.Numbers.{ArePlanNumbers}
use Rattle.sram_netlist.specs.Organization.{bank_rows, words_per_row}
use Rattle.sram_plan.specs.declared.numbers.Plan.{Plan}
use Rattle.sram_plan.specs.PlanNumbers.{numbers_of, organization, read_only_plan}
use Rattle.port_lists.specs.Contents.{AreHeldBy}
use Rattle.port_lists.specs.Held.Held.{Fixed}
use Rattle.port_lists.proofs.NumberLaws.{rows_are, words_are}
use Rattle.rom_data.specs.Words.{AreRomWords}

pub words_held : (plan : Plan) (words : List ℕ) → ArePlanNumbers (numbers_of plan) → plan.bank_bits ≡ 0 → AreRomWords plan words → AreHeldBy (organization (read_only_plan plan)) (Fixed words)
words_held plan words numbers one_bank are =
    let banks = numbers.banks ∙ ap (λ (b : ℕ). 2 ^ b) one_bank in
    let rows = rows_are (numbers_of plan) numbers in
    let wpr = words_are (numbers_of plan) numbers in
    let org = organization plan in
    let once : 1 * (bank_rows org * words_per_row org) ≡ bank_rows org * words_per_row org = omega arith in
    are.count ∙ (numbers.words ∙ ((λ i. banks i * (rows i * wpr i)) ∙ once))
