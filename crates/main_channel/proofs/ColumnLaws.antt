-- Columns before a bit.
use Rattle.std.proofs.Common.{◌≡◌, ℕ, ◌*◌, ◌<◌, ◌≤◌, le_trans, arith}
use Rattle.std.proofs.lemmas.Nat.{mul-le}

-- the columns before a bit of the word
pub few_columns : (bit words wide width : ℕ) → bit < words → wide ≡ width → words * width ≤ 256 → bit * wide ≤ 256
few_columns bit words wide width less same few = le_trans (mul-le bit wide words width (omega (arith, less)) (omega (arith, same))) few
