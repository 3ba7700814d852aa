-- What a logical line does to the subcircuits before it, and which line breaks them.
use Rattle.std.specs.Prelude.{ℕ, Bool, true, false, if◌then◌else◌, Option, Some, None, Result, Ok, Err}
use Rattle.spice_text.specs.declared.fault.SpiceFault.{SpiceFault}
use Rattle.spice_text.specs.declared.fault.SpiceFault.TheVariants as fault
use Rattle.spice_text.specs.Lines.{TextLine}
use Rattle.spice_text.specs.Statements.{LineMeaning}
use Rattle.spice_text.specs.Statements as says
use Rattle.spice_text.specs.Subcircuits.{BegunSubckt, DeckSoFar, begun, instance_added, kept_raw, closed_by, with_current, with_closed, map_ok}

-- a line outside every subcircuit
abbrev pub outside : DeckSoFar → ℕ → LineMeaning → Result DeckSoFar SpiceFault
outside d line says.Refused = Err (fault.Refused line)
outside d line (says.Begin words) = begun d.done line words
outside d line (says.End words) = Err (fault.Unclosed line)
outside d line says.Continuation = Err (fault.BadLine line)
outside d line says.Stop = Ok d
outside d line says.Command = Ok d
outside d line (says.Instance words) = Err (fault.OutsideSubckt line)
outside d line says.Other = Err (fault.OutsideSubckt line)

-- a line in a subcircuit
abbrev pub inside : DeckSoFar → BegunSubckt → TextLine → LineMeaning → Result DeckSoFar SpiceFault
inside d o line says.Refused = Err (fault.Refused line.number)
inside d o line (says.Begin words) = Err (fault.Unclosed line.number)
inside d o line (says.End words) = if closed_by words o.subckt.name then Ok (with_closed d o) else Err (fault.Unclosed line.number)
inside d o line says.Continuation = Err (fault.BadLine line.number)
inside d o line (says.Instance words) = map_ok (with_current d) (instance_added o line.number words)
inside d o line says.Stop = Ok (with_current d (kept_raw o line.text))
inside d o line says.Command = Ok (with_current d (kept_raw o line.text))
inside d o line says.Other = Ok (with_current d (kept_raw o line.text))

abbrev pub step_at : Option BegunSubckt → DeckSoFar → TextLine → LineMeaning → Result DeckSoFar SpiceFault
step_at None d line says = outside d line.number says
step_at (Some o) d line says = inside d o line says

abbrev pub step : DeckSoFar → TextLine → LineMeaning → Result DeckSoFar SpiceFault
step d line says = step_at d.current d line says

-- `.END` outside every subcircuit ends the text
abbrev pub stops : Option BegunSubckt → LineMeaning → Bool
stops None says.Stop = true
stops None says = false
stops (Some o) says = false
