use Rattle.std.proofs.Common.{arith, ◌≡◌, ℤ, ◌+ℤ◌, ◌*ℤ◌, FitsSigned, subst, sym, ◌∙◌}
use Rattle.std.specs.Int.{w16, w32, w64}
use Rattle.std.proofs.lemmas.Int.{ints, to_z-of_z}
use mir.Val.{to_z, of_z}
use Rattle.gds_stream.proofs.writable.leads_within.Goals as goal

pub returns : goal.returns
returns c =
    let n = c.args.count in
    let narrow = c.from.ensures ∙ to_z-of_z w16 n c.ranges.count in
    let wide : FitsSigned w64 n = omega (arith, ints, c.ranges.count) in
    let by : c.in-Some.by ≡ n *ℤ c.args.pitch = c.in-Some.ensures.1
    ∙ (λ i. to_z w64 (of_z w64 (narrow i)) *ℤ to_z-of_z w64 c.args.pitch c.ranges.pitch i)
    ∙ (λ i. to_z-of_z w64 n wide i *ℤ c.args.pitch) in
    let fits_by : FitsSigned w64 c.in-Some.by =
    subst (λ (z : ℤ). FitsSigned w64 z) (sym c.in-Some.ensures.1) c.in-Some.ensures.0 in
    let to : c.in-Some-checked_add.to ≡ c.args.from +ℤ n *ℤ c.args.pitch = c.in-Some-checked_add.ensures.1
    ∙ (λ i. to_z-of_z w64 c.args.from c.ranges.from i +ℤ to_z-of_z w64 c.in-Some.by fits_by i)
    ∙ (λ i. c.args.from +ℤ by i) in
    let fits_to : FitsSigned w64 c.in-Some-checked_add.to =
    subst (λ (z : ℤ). FitsSigned w64 z) (sym c.in-Some-checked_add.ensures.1) c.in-Some-checked_add.ensures.0 in
    let same = to_z-of_z w64 c.in-Some-checked_add.to fits_to ∙ to in (
      λ yes. subst (λ (z : ℤ). FitsSigned w32 z) same (c.fits.ensures.0 yes),
      λ fits. c.fits.ensures.1 (subst (λ (z : ℤ). FitsSigned w32 z) (sym same) fits),
    )
