use Rattle.std.proofs.Common.{◌≡◌, drop}
use Rattle.std.specs.List.{list_all}
use Rattle.spice_text.specs.WritableTests.{is_writable}
use Rattle.spice_text.proofs.writable.are_writable.Given as goal

abbrev pub invariant-loop-subckt : goal.invariant-loop-subckt
invariant-loop-subckt l = list_all is_writable (drop l.subckt-index l.subckts) ≡ list_all is_writable l.subckts
