use Rattle.std.proofs.Common.{◌≡◌, ◌++◌, length}
use Rattle.std.specs.Prelude.{flat_map}
use Rattle.std.specs.List.{AllByRecursion}
use Rattle.gds_records.specs.Bytes.{records_bytes}
use Rattle.gds_library.specs.Writable.{IsWritableElement}
use Rattle.gds_stream.specs.Written.{HasShortNumbers}
use Rattle.gds_stream.specs.Canonical.{element_records}
use Rattle.gds_stream.proofs.write.write_structure.Given as goal

abbrev pub invariant-loop-element : goal.invariant-loop-element
invariant-loop-element l = record {
  bytes : l.out.items ++ records_bytes (flat_map element_records l.rest) ≡ l.initial.out.items ++ records_bytes (flat_map element_records l.structure.elements);
  writable : AllByRecursion IsWritableElement l.rest;
  numbers : AllByRecursion HasShortNumbers l.rest → AllByRecursion HasShortNumbers l.structure.elements;
}

abbrev pub decreases-loop-element : goal.decreases-loop-element
decreases-loop-element l = length l.rest
