-- Logical lines to subcircuits, and the deck that a text is.
use Rattle.std.specs.Prelude.{ℕ, List, [], ◌∷◌, length, position, not, Bool, ◌||◌, ◌&&◌, nat_le, ◌==◌, if◌then◌else◌, Option, Some, None, Result, Ok, Err}
use Rattle.netlist.specs.declared.deck.Deck.{Deck}
use Rattle.netlist.specs.declared.deck.Subckt.{Subckt}
use Rattle.spice_text.specs.declared.fault.SpiceFault.{SpiceFault}
use Rattle.spice_text.specs.declared.fault.SpiceFault.TheVariants as fault
use Rattle.spice_text.specs.Lines.{TextLine, lines_of}
use Rattle.spice_text.specs.LogicalLines.{logical_lines}
use Rattle.spice_text.specs.Statements.{statement_of}
use Rattle.spice_text.specs.Subcircuits.{BegunSubckt, DeckSoFar}
use Rattle.spice_text.specs.Steps.{step, stops}

-- the end of the text
abbrev pub finished : ℕ → List Subckt → Option BegunSubckt → Result Deck SpiceFault
finished used done None = Ok (record { subckts = done; used = used })
finished used done (Some o) = Err (fault.Unclosed o.line)

abbrev pub then_lines : (DeckSoFar → Result Deck SpiceFault) → Result DeckSoFar SpiceFault → Result Deck SpiceFault
then_lines f (Ok d) = f d
then_lines f (Err e) = Err e

-- the deck of these lines after others, where the text has so many bytes
abbrev pub deck_after : ℕ → DeckSoFar → List TextLine → Result Deck SpiceFault
deck_after size d [] = finished size d.done d.current
deck_after size d (line ∷ lines) =
    if stops d.current (statement_of line.text) then finished line.before d.done d.current else (
    then_lines (λ next. deck_after size next lines) (step d line (statement_of line.text)))

abbrev pub start : DeckSoFar
start = record { done = []; current = None }

-- a byte of a text: 20 to 7E, tab, CR or LF
abbrev pub is_text_byte : ℕ → Bool
is_text_byte b = (nat_le 32 b && nat_le b 126) || ((b == 9) || ((b == 10) || (b == 13)))

abbrev pub unless_foreign : Option ℕ → Result Deck SpiceFault → Result Deck SpiceFault
unless_foreign None result = result
unless_foreign (Some index) result = Err (fault.NotAscii index)

-- the deck that a text is, or its first fault
abbrev pub deck : List ℕ → Result Deck SpiceFault
deck bytes = unless_foreign (position (λ b. not (is_text_byte b)) bytes) (deck_after (length bytes) start (logical_lines (lines_of bytes)))
