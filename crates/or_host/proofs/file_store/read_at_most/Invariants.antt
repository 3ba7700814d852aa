use Rattle.std.proofs.Common.{◌≤◌, length}
use Rattle.or_host.proofs.file_store.read_at_most.Given as goal

abbrev pub invariant-loop : goal.invariant-loop
invariant-loop g l = length l.bytes.items ≤ l.limit
