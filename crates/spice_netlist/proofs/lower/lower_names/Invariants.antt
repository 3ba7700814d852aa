use Rattle.std.proofs.Common.{◌≡◌, map, take}
use Rattle.spice_text.specs.Words.{lower}
use Rattle.spice_netlist.proofs.lower.lower_names.Given as goal

abbrev pub invariant-loop-name : goal.invariant-loop-name
invariant-loop-name l = l.lowered.items ≡ map lower (take l.name-index l.names)
