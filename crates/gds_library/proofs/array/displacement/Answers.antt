use Rattle.std.proofs.Common.{arith, ◌≡◌, ℤ, ◌-ℤ◌, FitsSigned}
use Rattle.std.specs.Int.{w32, w64}
use Rattle.std.proofs.lemmas.Int.{ints, to_z-of_z}
use mir.Val.{to_z, of_z}
use Rattle.gds_library.proofs.array.displacement.Goals as goal

-- a difference of 32-bit numbers fits 64 bits
difference : (a b : ℤ) → FitsSigned w32 a → FitsSigned w32 b
    → to_z w64 (of_z w64 (to_z w64 (of_z w64 a) -ℤ to_z w64 (of_z w64 b))) ≡ a -ℤ b
difference a b f g =
    let fa : FitsSigned w64 a = omega (arith, ints) in
    let gb : FitsSigned w64 b = omega (arith, ints) in
    let h : FitsSigned w64 (a -ℤ b) = omega (arith, ints) in
    rw (to_z-of_z w64 a fa, to_z-of_z w64 b gb) (to_z-of_z w64 (a -ℤ b) h)

pub returns : goal.returns
returns c =
    let x = difference c.args.to.x c.args.from.x c.requires.to.x c.requires.from.x in
    let y = difference c.args.to.y c.args.from.y c.requires.to.y c.requires.from.y in
    λ i. record { x = x i; y = y i }
