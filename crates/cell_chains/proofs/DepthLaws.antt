-- A top has one depth.
use Rattle.std.proofs.Common.{◌≡◌, ℕ, List, arith}
use Rattle.gds_library.specs.declared.library.Structure.{Structure}
use Rattle.cell_chains.specs.Chains.{IsDepth}

-- two depths of a top are the same
pub depth_is_one : (structs : List Structure) (top : List ℕ) (a b : ℕ) → IsDepth structs top a → IsDepth structs top b → a ≡ b
depth_is_one structs top a b p q =
    let up = p.most q.chain q.end q.leads in
    let down = q.most p.chain p.end p.leads in
    omega (arith, up, down, p.long, q.long)
