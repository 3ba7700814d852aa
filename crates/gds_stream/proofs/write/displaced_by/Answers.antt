use Rattle.std.proofs.Common.{arith, ◌≡◌, ℤ, ◌+ℤ◌, ◌*ℤ◌, FitsSigned, subst, sym, ◌∙◌}
use Rattle.std.specs.Int.{w16, w32, w64}
use Rattle.std.proofs.lemmas.Int.{ints, to_z-of_z}
use mir.Val.{to_z, of_z}
use Rattle.gds_records.specs.Values.{IsShort}
use Rattle.gds_stream.proofs.write.displaced_by.Goals as goal

-- what is added to a 32-bit number and makes one fits 64 bits
sum : (a m p : ℤ) → FitsSigned w32 a → FitsSigned w64 m → FitsSigned w64 p → FitsSigned w32 (a +ℤ m *ℤ p)
    → to_z w64 (of_z w64 (to_z w64 (of_z w64 a) +ℤ to_z w64 (of_z w64 (to_z w64 (of_z w64 m) *ℤ to_z w64 (of_z w64 p))))) ≡ a +ℤ m *ℤ p
sum a m p fa fm fp fs =
    let wide : FitsSigned w64 a = omega (arith, ints) in
    let product : FitsSigned w64 (m *ℤ p) = omega (arith, ints) in
    let all : FitsSigned w64 (a +ℤ m *ℤ p) = omega (arith, ints) in
    rw (to_z-of_z w64 a wide, to_z-of_z w64 m fm, to_z-of_z w64 p fp, to_z-of_z w64 (m *ℤ p) product) (to_z-of_z w64 (a +ℤ m *ℤ p) all)

pub returns-clause-is : goal.returns-clause-is
returns-clause-is c =
    let fx : FitsSigned w64 c.args.pitch.x = omega (arith, ints) in
    let fy : FitsSigned w64 c.args.pitch.y = omega (arith, ints) in
    let fits : FitsSigned w16 c.args.count = omega (arith, ints) in
    let wide : FitsSigned w64 c.args.count = omega (arith, ints) in
    let from = c.from-times.ensures ∙ to_z-of_z w16 c.args.count fits in
    let x = sum c.args.at.x c.args.count c.args.pitch.x c.requires.from.x wide fx c.requires.to.x in
    let y = sum c.args.at.y c.args.count c.args.pitch.y c.requires.from.y wide fy c.requires.to.y in
    (λ i. record {
      x = to_z w64 (of_z w64 (to_z w64 (of_z w64 c.args.at.x) +ℤ to_z w64 (of_z w64 (to_z w64 (of_z w64 (from i)) *ℤ to_z w64 (of_z w64 c.args.pitch.x)))));
      y = to_z w64 (of_z w64 (to_z w64 (of_z w64 c.args.at.y) +ℤ to_z w64 (of_z w64 (to_z w64 (of_z w64 (from i)) *ℤ to_z w64 (of_z w64 c.args.pitch.y)))));
    }) ∙ (λ i. record { x = x i; y = y i })

pub returns-clause-short : goal.returns-clause-short
returns-clause-short c = subst IsShort (sym (returns-clause-is c)) c.requires.to
