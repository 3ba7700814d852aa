-- The gates of one bank, by the names of its nets.
use Rattle.std.specs.Prelude.{ℕ, List, [], ◌∷◌, codes}
use Rattle.cell_roles.specs.declared.role.Role.{Role}
use Rattle.cell_roles.specs.declared.role.Role.TheVariants.{Nand2, Inv}
use Rattle.sram_netlist.specs.Names.{with_number}
use Rattle.row_decoder.specs.declared.gate.LogicGate.{LogicGate}
use Rattle.row_decoder.specs.Gates.{gate_of_role}
use Rattle.control_logic.specs.declared.enables.EnableNames.{EnableNames}

-- those of one enable, which a NAND and an inverter make
abbrev pub bank_enable_gates : (Role → List ℕ) → EnableNames → ℕ → List LogicGate
bank_enable_gates cell names b =
    gate_of_role cell Nand2 (with_number names.nand.now b) (names.enable.now ∷ with_number (codes "e") b ∷ with_number names.complement.now b ∷ [])
    ∷ gate_of_role cell Inv (with_number names.inverter.now b) (with_number names.complement.now b ∷ with_number names.enable.now b ∷ [])
    ∷ []

-- its word line enable, and its sense enable
abbrev pub bank_word_line_gates : (Role → List ℕ) → ℕ → List LogicGate
bank_word_line_gates cell b =
    gate_of_role cell Nand2 (with_number (codes "xln") b) (codes "wlen" ∷ with_number (codes "e") b ∷ with_number (codes "lb") b ∷ [])
    ∷ gate_of_role cell Inv (with_number (codes "xli") b) (with_number (codes "lb") b ∷ with_number (codes "wlen") b ∷ [])
    ∷ []

abbrev pub bank_sense_gates : (Role → List ℕ) → ℕ → List LogicGate
bank_sense_gates cell b =
    gate_of_role cell Nand2 (with_number (codes "xkn") b) (codes "sen" ∷ with_number (codes "e") b ∷ with_number (codes "kb") b ∷ [])
    ∷ gate_of_role cell Inv (with_number (codes "xki") b) (with_number (codes "kb") b ∷ with_number (codes "sen") b ∷ [])
    ∷ []
