use Rattle.std.proofs.Common.{◌≡◌, drop, []}
use Rattle.spice_text.specs.Subcircuits.{has_repeat}
use Rattle.spice_text.proofs.reading.repeats.Given as goal

abbrev pub invariant-loop-name : goal.invariant-loop-name
invariant-loop-name l = has_repeat l.seen (drop l.name-index l.names) ≡ has_repeat [] l.names
