use Rattle.std.proofs.Common.{take}
use Rattle.device_entries.specs.Lines.{AreLineEntries}
use Rattle.device_entries.proofs.lines.line_entries.Given as goal

-- the entries of the lines so far
abbrev pub invariant-loop-place : goal.invariant-loop-place
invariant-loop-place l = AreLineEntries (take l.place l.lines) l.entries
