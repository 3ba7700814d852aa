-- What tests that let lines pass tell of it.
use Rattle.std.proofs.Common.{◌≡◌, Bool, true, false, cond, Result, Ok, Err, refl, subst}
use Rattle.spice_text.specs.declared.fault.SpiceFault.{SpiceFault}
use Rattle.spice_text.specs.Subcircuits.{BegunSubckt, DeckSoFar, with_current, map_ok}

abbrev pub ok : DeckSoFar → Result DeckSoFar SpiceFault
ok r = Ok r

pub passed : (P : DeckSoFar → Type 0) (r r2 : DeckSoFar) → P r → ok r ≡ ok r2 → P r2
passed P r r2 h e = let same : r ≡ r2 = cc in subst P same h

pub two_tests : (P : DeckSoFar → Type 0) (u v : Bool) (e : SpiceFault) (r r2 : DeckSoFar) → (u ≡ false → v ≡ false → P r) → cond u (Err e) (cond v (Err e) (Ok r)) ≡ Ok r2 → P r2
two_tests P true v e r r2 h is = absurd cc
two_tests P false true e r r2 h is = absurd cc
two_tests P false false e r r2 h is = passed P r r2 (h refl refl) is

pub one_pass : (P : DeckSoFar → Type 0) (v : Bool) (e : SpiceFault) (r r2 : DeckSoFar) → P r → cond v (Ok r) (Err e) ≡ Ok r2 → P r2
one_pass P true e r r2 h is = passed P r r2 h is
one_pass P false e r r2 h is = absurd cc

pub mapped_test : (P : DeckSoFar → Type 0) (v : Bool) (e : SpiceFault) (r r2 : DeckSoFar) (o : BegunSubckt) → (v ≡ false → P (with_current r o)) → map_ok (with_current r) (cond v (Err e) (Ok o)) ≡ Ok r2 → P r2
mapped_test P true e r r2 o h is = absurd cc
mapped_test P false e r r2 o h is = passed P (with_current r o) r2 (h refl) is
