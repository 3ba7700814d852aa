use Rattle.std.proofs.Common.{◌≡◌, drop, map, []}
use Rattle.spice_text.specs.Words.{lower}
use Rattle.spice_text.specs.Subcircuits.{has_repeat}
use Rattle.spice_text.proofs.writable.names_repeat.Given as goal

abbrev pub invariant-loop-name : goal.invariant-loop-name
invariant-loop-name l = has_repeat l.seen (map lower (drop l.name-index l.names)) ≡ has_repeat [] (map lower l.names)
