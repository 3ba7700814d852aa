use Rattle.std.proofs.Common.{[], ◌++◌, subst, sym, ap, ◌∙◌}
use Rattle.std.specs.Prelude.{flat_map}
use Rattle.std.specs.List.{AllByRecursion}
use Rattle.gds_records.specs.Bytes.{records_bytes}
use Rattle.gds_records.specs.declared.code.TheConstants.{ENDLIB}
use Rattle.gds_records.specs.Writing.{record_with}
use Rattle.gds_library.specs.Grammar.{Spells}
use Rattle.gds_library.specs.Writable.{IsWritableCell, IsWritable}
use Rattle.gds_stream.specs.Written.{AreShortNumbers, head_records}
use Rattle.gds_stream.specs.Canonical.{structure_records, library_records}
use Rattle.gds_stream.specs.Turned.{turned_library}
use Rattle.gds_stream.proofs.CanonicalLaws.{canonical_spells}
use Rattle.gds_stream.proofs.AppendLaws.{none_left, goes_on, all_added, one_more_added, added}
use Rattle.gds_stream.proofs.write.write_gds.Goals as goal

pub loop-structure-preserved : goal.loop-structure-preserved
loop-structure-preserved c =
    let structure = c.in-Some.structure.now in
    let others = c.in-Some.others.now in
    let parts = c.in-Some.ensures.cases.0 in
    let all = subst (AllByRecursion IsWritableCell) parts c.loop-structure.invariant.writable in
    record {
      bytes = goes_on _ c.loop-structure.out.items _ (structure_records structure) (flat_map structure_records others)
          (ap (λ l. c.loop-structure.out.items ++ records_bytes (flat_map structure_records l)) (sym parts) ∙ c.loop-structure.invariant.bytes)
          c.in_ok-write_structure.ensures.bytes;
      writable = all.1;
      numbers = λ rest. c.loop-structure.invariant.numbers (subst (AllByRecursion AreShortNumbers) (sym parts) (c.in_ok-write_structure.ensures.numbers, rest));
    }

pub returns-clause-bytes : goal.returns-clause-bytes
returns-clause-bytes c =
    let lib = c.args.lib.now in
    let none = none_left c.loop-structure.rest.now c.in_default.ensures.cases in
    let structures = all_added c.write_head.new.out.items c.loop-structure.out.items (flat_map structure_records lib.structs)
    (ap (λ l. c.loop-structure.out.items ++ records_bytes (flat_map structure_records l)) (sym none) ∙ c.loop-structure.invariant.bytes) in
    one_more_added _ _ _ (head_records lib.name ++ flat_map structure_records lib.structs) (record_with ENDLIB [])
    (added _ _ _ (head_records lib.name) (flat_map structure_records lib.structs) c.in_ok-write_head.ensures structures)
    c.in_ok-append_record.ensures
    ∙ ap (λ l. l ++ records_bytes (library_records lib)) c.new-out.ensures.items

pub returns-clause-spells : goal.returns-clause-spells
returns-clause-spells c =
    let lib = c.args.lib.now in
    let none = none_left c.loop-structure.rest.now c.in_default.ensures.cases in
    let numbers = c.loop-structure.invariant.numbers (subst (AllByRecursion AreShortNumbers) (sym none) tt) in
    let w : IsWritable lib = record { name = c.requires.name; names = c.requires.names; cells = c.requires.cells } in
    subst (λ bytes. Spells bytes (turned_library lib)) (sym (returns-clause-bytes c)) (canonical_spells lib w numbers)
