use Rattle.std.proofs.Common.{◌≡◌, ◌++◌, map, length}
use Rattle.main_channel.specs.Names.{output_name, AreGates}
use Rattle.main_channel.proofs.gates.add_outputs.Given as goal

abbrev pub invariant-loop-gate : goal.invariant-loop-gate
invariant-loop-gate l = record {
  names : l.names.items ++ map output_name l.rest ≡ l.fn.names.items ++ map output_name l.gates;
  gates : AreGates l.rest;
}

abbrev pub decreases-loop-gate : goal.decreases-loop-gate
decreases-loop-gate l = length l.rest
