-- The gates of clock and control of both kinds of memory.
use Rattle.std.proofs.Common.{◌≡◌, ℕ, zero, suc, List, [], ◌∷◌, ◌++◌, map, refl, ap, ◌∙◌, append_assoc}
use Rattle.sram_netlist.specs.Instances.{LogicCell, Clki, Csd, Wed, Csi, Wei, Wln, Wli, Wrn, Wri, Rdn, Rdi, Dlay, Senn, Seni}
use Rattle.sram_netlist.specs.InstanceList.{fixed_cells}
use Rattle.row_decoder.specs.declared.gate.LogicGate.{LogicGate}
use Rattle.control_logic.specs.ControlGates.{where_written}

-- one list behind another
pub behind : {A : Type 0} (old now new xs ys : List A) → now ≡ old ++ xs → new ≡ now ++ ys → new ≡ old ++ (xs ++ ys)
behind {A = A} old now new xs ys first second = second ∙ (ap (λ (l : List A). l ++ ys) first ∙ append_assoc old xs ys)

-- in their order, where g is the gate of a cell
abbrev pub control_gates : (LogicCell → LogicGate) → ℕ → List LogicGate
control_gates g n =
    (g Clki ∷ []) ++ ((g Csd ∷ []) ++ (where_written n (g Wed) ++ ((g Csi ∷ []) ++ (where_written n (g Wei) ++ ((g Wln ∷ []) ++ ((g Wli ∷ []) ++ (where_written n (g Wrn) ++ (where_written n (g Wri)
    ++ (where_written n (g Rdn) ++ (where_written n (g Rdi) ++ ((g Dlay ∷ []) ++ ((g Senn ∷ []) ++ (g Seni ∷ [])))))))))))))

pub gates_are : (g : LogicCell → LogicGate) (n : ℕ) → control_gates g n ≡ map g (fixed_cells n)
gates_are g zero = refl
gates_are g (suc n) = refl
