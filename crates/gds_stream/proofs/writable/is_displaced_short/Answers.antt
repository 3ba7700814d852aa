use Rattle.std.proofs.Common.{arith, ◌≡◌, ℤ, ◌+ℤ◌, ◌*ℤ◌, FitsSigned, refl, subst, sym}
use Rattle.std.specs.Int.{w16, w32, w64}
use Rattle.std.proofs.lemmas.Int.{ints, to_z-of_z}
use mir.Val.{to_z, of_z}
use Rattle.gds_stream.proofs.writable.is_displaced_short.Goals as goal

-- numbers that fit stay as they are
same : (a n p : ℤ) → FitsSigned w64 a → FitsSigned w16 n → FitsSigned w64 p
    → to_z w64 (of_z w64 a) +ℤ to_z w16 (of_z w16 n) *ℤ to_z w64 (of_z w64 p) ≡ a +ℤ n *ℤ p
same a n p fa fn fp = rw (to_z-of_z w64 a fa, to_z-of_z w16 n fn, to_z-of_z w64 p fp) refl

pub returns : goal.returns
returns c =
    let ax : FitsSigned w64 c.args.at.x = omega (arith, ints) in
    let ay : FitsSigned w64 c.args.at.y = omega (arith, ints) in
    let px : FitsSigned w64 c.args.pitch.x = omega (arith, ints) in
    let py : FitsSigned w64 c.args.pitch.y = omega (arith, ints) in
    let x = same c.args.at.x c.args.count c.args.pitch.x ax c.ranges.count px in
    let y = same c.args.at.y c.args.count c.args.pitch.y ay c.ranges.count py in (
      λ yes. record {
        x = subst (λ (z : ℤ). FitsSigned w32 z) x (c.leads_within.ensures.0 c.if-not-leads_within.false);
        y = subst (λ (z : ℤ). FitsSigned w32 z) y (c.leads_within-2.ensures.0 yes);
      },
      λ short. c.leads_within-2.ensures.1 (subst (λ (z : ℤ). FitsSigned w32 z) (sym y) short.y),
    )
