use Rattle.std.proofs.Common.{◌≡◌, drop, map, []}
use Rattle.spice_text.specs.Writable.{subckt_name}
use Rattle.spice_text.specs.Subcircuits.{has_repeat}
use Rattle.spice_text.proofs.writable.subckts_repeat.Given as goal

abbrev pub invariant-loop-subckt : goal.invariant-loop-subckt
invariant-loop-subckt l = has_repeat l.seen (map subckt_name (drop l.subckt-index l.subckts)) ≡ has_repeat [] (map subckt_name l.subckts)
