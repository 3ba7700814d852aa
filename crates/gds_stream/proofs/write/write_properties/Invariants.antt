use Rattle.std.proofs.Common.{◌≡◌, ◌++◌, length}
use Rattle.std.specs.Prelude.{flat_map}
use Rattle.std.specs.List.{AllByRecursion}
use Rattle.gds_records.specs.Bytes.{records_bytes}
use Rattle.gds_library.specs.Writable.{IsWritableProp}
use Rattle.gds_stream.specs.Written.{HasShortAttribute}
use Rattle.gds_stream.specs.Canonical.{property_records}
use Rattle.gds_stream.proofs.write.write_properties.Given as goal

abbrev pub invariant-loop-prop : goal.invariant-loop-prop
invariant-loop-prop l = record {
  bytes : l.out.items ++ records_bytes (flat_map property_records l.rest) ≡ l.initial.out.items ++ records_bytes (flat_map property_records l.props);
  writable : AllByRecursion IsWritableProp l.rest;
  fits : AllByRecursion HasShortAttribute l.rest → AllByRecursion HasShortAttribute l.props;
}

abbrev pub decreases-loop-prop : goal.decreases-loop-prop
decreases-loop-prop l = length l.rest
