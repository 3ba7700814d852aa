-- The first two pins of the top, or else of the bottom.
use Rattle.std.proofs.Common.{inl, inr, w64, FitsSigned, rules, refl}
use Rattle.std.proofs.lemmas.Int.{to_z-of_z}
use Rattle.channel_router.proofs.close.refuse_close_pins.Goals as goal

pub returns-in-Some-clause-fault : goal.returns-in-Some-clause-fault
returns-in-Some-clause-fault c =
    let fits_first : FitsSigned w64 c.in-Some.first = search rules in
    let fits_second : FitsSigned w64 c.in-Some.second = search rules in
    rw (to_z-of_z w64 c.in-Some.first fits_first, to_z-of_z w64 c.in-Some.second fits_second)
    (inl (refl, rw (c.in-Some.is, c.as_slice.ensures) at c.in_ok-first.ensures))

pub returns-in-Some-2-clause-fault : goal.returns-in-Some-2-clause-fault
returns-in-Some-2-clause-fault c =
    let fits_first : FitsSigned w64 c.in-Some-2.first = search rules in
    let fits_second : FitsSigned w64 c.in-Some-2.second = search rules in
    rw (to_z-of_z w64 c.in-Some-2.first fits_first, to_z-of_z w64 c.in-Some-2.second fits_second)
    (inr (refl, rw (c.in_default.is, c.as_slice.ensures) at c.in_ok-first.ensures, rw (c.in-Some-2.is, c.as_slice-2.ensures) at c.in_ok-first-2.ensures))

pub returns-clause-apart : goal.returns-clause-apart
returns-clause-apart c = λ close. elim close [
  | inl top ↦ (rw (c.in_default.is, c.as_slice.ensures) at c.in_ok-first.ensures) top
  | inr bottom ↦ (rw (c.in_default-2.is, c.as_slice-2.ensures) at c.in_ok-first-2.ensures) bottom
]
