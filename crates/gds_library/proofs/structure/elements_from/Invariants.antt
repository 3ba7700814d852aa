use Rattle.std.proofs.Common.{◌≡◌, ◌-◌, List, length, Option}
use Rattle.gds_records.specs.Bytes.{records_of}
use Rattle.gds_records.specs.declared.code.TheConstants.{ENDSTR}
use Rattle.gds_records.proofs.UntilLaws.{GoesOn}
use Rattle.gds_library.specs.declared.library.Element.{Element}
use Rattle.gds_library.specs.Grammar.{kept_elements}
use Rattle.gds_library.specs.ReadElements.{item_at}
use Rattle.gds_library.specs.ReadLibrary.{items_at}
use Rattle.gds_library.proofs.structure.elements_from.Given as goal

abbrev pub invariant-loop : goal.invariant-loop
invariant-loop l =
    (front : List (Option Element)) × (kept_elements front ≡ l.items)
    × GoesOn (λ seen. item_at) ENDSTR front (length l.bytes - l.counter) (records_of l.rest)
    (items_at (records_of l.bytes))
