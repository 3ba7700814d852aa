use Rattle.std.proofs.Common.{◌-◌, length}
use Rattle.gds_records.specs.Bytes.{records_of}
use Rattle.gds_records.specs.declared.code.TheConstants.{ENDLIB}
use Rattle.gds_records.proofs.UntilLaws.{GoesOn}
use Rattle.gds_library.specs.ReadLibrary.{structure_at, structures_at, AreStructureNames}
use Rattle.gds_library.proofs.structure.structures_from.Given as goal

abbrev pub invariant-loop : goal.invariant-loop
invariant-loop l = AreStructureNames l.names l.items
    × GoesOn structure_at ENDLIB l.items (length l.bytes - l.counter) (records_of l.rest)
    (structures_at (records_of l.bytes))
