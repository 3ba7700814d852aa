use Rattle.std.proofs.Common.{◌≡◌, drop, map, []}
use Rattle.spice_text.specs.Writable.{instance_name}
use Rattle.spice_text.specs.Subcircuits.{has_repeat}
use Rattle.spice_text.proofs.writable.instances_repeat.Given as goal

abbrev pub invariant-loop-instance : goal.invariant-loop-instance
invariant-loop-instance l = has_repeat l.seen (map instance_name (drop l.instance-index l.instances)) ≡ has_repeat [] (map instance_name l.instances)
