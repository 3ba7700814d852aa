use Rattle.std.proofs.Common.{◌≡◌, ◌++◌, length}
use Rattle.std.specs.Prelude.{flat_map}
use Rattle.std.specs.List.{AllByRecursion}
use Rattle.gds_records.specs.Bytes.{records_bytes}
use Rattle.gds_library.specs.Writable.{IsWritableCell}
use Rattle.gds_stream.specs.Written.{AreShortNumbers}
use Rattle.gds_stream.specs.Canonical.{structure_records}
use Rattle.gds_stream.proofs.write.write_gds.Given as goal

abbrev pub invariant-loop-structure : goal.invariant-loop-structure
invariant-loop-structure l = record {
  bytes : l.out.items ++ records_bytes (flat_map structure_records l.rest) ≡ l.initial.out.items ++ records_bytes (flat_map structure_records l.lib.structs);
  writable : AllByRecursion IsWritableCell l.rest;
  numbers : AllByRecursion AreShortNumbers l.rest → AllByRecursion AreShortNumbers l.lib.structs;
}

abbrev pub decreases-loop-structure : goal.decreases-loop-structure
decreases-loop-structure l = length l.rest
