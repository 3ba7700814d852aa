use Rattle.std.proofs.Common.{◌≡◌, None, length}
use Rattle.gds_records.specs.Bytes.{records_of}
use Rattle.gds_library.specs.ReadFault.{wanted_before}
use Rattle.gds_library.proofs.read.points_wanted.Given as goal

abbrev pub invariant-records : goal.invariant-records
invariant-records l = wanted_before l.left l.wanted (records_of l.rest) ≡ wanted_before l.left None (records_of l.bytes)

abbrev pub decreases-records : goal.decreases-records
decreases-records l = length l.rest
