-- The gates that a memory has only where something is written.
use Rattle.std.specs.Prelude.{ℕ, zero, suc, List, [], ◌∷◌}
use Rattle.row_decoder.specs.declared.gate.LogicGate.{LogicGate}

-- the gate, or none; by the bits of a write
abbrev pub where_written : ℕ → LogicGate → List LogicGate
where_written zero gate = []
where_written (suc write_size) gate = gate ∷ []
