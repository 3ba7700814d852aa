use Rattle.std.proofs.Common.{◌-◌, length}
use Rattle.gds_records.specs.Bytes.{records_of}
use Rattle.gds_records.specs.declared.code.TheConstants.{ENDEL}
use Rattle.gds_records.proofs.UntilLaws.{GoesOn}
use Rattle.gds_library.specs.ReadElements.{property_at, properties_at}
use Rattle.gds_library.proofs.property.properties_from.Given as goal

abbrev pub invariant-loop : goal.invariant-loop
invariant-loop l = GoesOn (λ seen. property_at) ENDEL l.items (length l.bytes - l.counter) (records_of l.rest)
    (properties_at (records_of l.bytes))
