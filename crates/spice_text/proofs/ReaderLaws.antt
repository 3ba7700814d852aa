-- An `.ENDS`, by whether a subcircuit is open.
use Rattle.std.proofs.Common.{◌≡◌, List, ℕ, true, false, cond, Option, Some, None, Ok, Err, refl, ap}
use Rattle.spice_text.specs.declared.fault.SpiceFault.TheVariants as fault
use Rattle.spice_text.specs.Lines.{TextLine}
use Rattle.spice_text.specs.Statements as says
use Rattle.spice_text.specs.Subcircuits.{BegunSubckt, DeckSoFar, with_closed}
use Rattle.spice_text.specs.Steps.{step, step_at}
use Rattle.spice_text.specs.ReaderViews.{is_ended_by, closed, closed_at}

ended_at : (current : Option BegunSubckt) (d : DeckSoFar) (line : TextLine) (words : List (List ℕ)) → is_ended_by current words ≡ true → step_at current d line (says.End words) ≡ Ok (closed_at current d)
ended_at None d line words is = absurd cc
ended_at (Some o) d line words is = ap (λ b. cond b (Ok (with_closed d o)) (Err (fault.Unclosed line.number))) is

open_at : (current : Option BegunSubckt) (d : DeckSoFar) (line : TextLine) (words : List (List ℕ)) → is_ended_by current words ≡ false → step_at current d line (says.End words) ≡ Err (fault.Unclosed line.number)
open_at None d line words not = refl
open_at (Some o) d line words not = ap (λ b. cond b (Ok (with_closed d o)) (Err (fault.Unclosed line.number))) not

pub step_ended : (d : DeckSoFar) (line : TextLine) (words : List (List ℕ)) → is_ended_by d.current words ≡ true → step d line (says.End words) ≡ Ok (closed d)
step_ended d line words is = ended_at d.current d line words is

pub step_open : (d : DeckSoFar) (line : TextLine) (words : List (List ℕ)) → is_ended_by d.current words ≡ false → step d line (says.End words) ≡ Err (fault.Unclosed line.number)
step_open d line words not = open_at d.current d line words not
