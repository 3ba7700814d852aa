use Rattle.std.proofs.Common.{[], ◌∷◌, ◌++◌, subst, sym, ap, ◌∙◌}
use Rattle.std.specs.Prelude.{flat_map}
use Rattle.std.specs.List.{AllByRecursion}
use Rattle.gds_records.specs.Bytes.{records_bytes}
use Rattle.gds_records.specs.declared.code.TheConstants.{BGNSTR, STRNAME, ENDSTR}
use Rattle.gds_records.specs.Writing.{text_bytes, record_with}
use Rattle.gds_library.specs.Writable.{IsWritableElement}
use Rattle.gds_stream.specs.Written.{HasShortNumbers}
use Rattle.gds_stream.specs.Canonical.{no_dates, element_records}
use Rattle.gds_stream.proofs.AppendLaws.{none_left, goes_on, all_added, one_added, one_more_added, added}
use Rattle.gds_stream.proofs.write.write_structure.Goals as goal

pub loop-element-preserved : goal.loop-element-preserved
loop-element-preserved c =
    let element = c.in-Some.element.now in
    let others = c.in-Some.others.now in
    let parts = c.in-Some.ensures.cases.0 in
    let all = subst (AllByRecursion IsWritableElement) parts c.loop-element.invariant.writable in
    record {
      bytes = goes_on _ c.loop-element.out.items _ (element_records element) (flat_map element_records others)
          (ap (λ l. c.loop-element.out.items ++ records_bytes (flat_map element_records l)) (sym parts) ∙ c.loop-element.invariant.bytes)
          c.in_ok-write_element.ensures.bytes;
      writable = all.1;
      numbers = λ rest. c.loop-element.invariant.numbers (subst (AllByRecursion HasShortNumbers) (sym parts) (c.in_ok-write_element.ensures.numbers, rest));
    }

pub returns-clause-bytes : goal.returns-clause-bytes
returns-clause-bytes c =
    let s = c.args.structure.now in
    let first = record_with BGNSTR no_dates in
    let name = record_with STRNAME (text_bytes s.name) in
    let none = none_left c.loop-element.rest.now c.in_default.ensures.cases in
    let elements = all_added c.append_name.new.out.items c.loop-element.out.items (flat_map element_records s.elements)
    (ap (λ l. c.loop-element.out.items ++ records_bytes (flat_map element_records l)) (sym none) ∙ c.loop-element.invariant.bytes) in
    let head = one_more_added _ _ _ (first ∷ []) name (one_added _ _ first c.in_ok-append_record.ensures) c.in_ok-append_name.ensures in
    one_more_added _ _ _ (first ∷ name ∷ flat_map element_records s.elements) (record_with ENDSTR [])
    (added _ _ _ (first ∷ name ∷ []) (flat_map element_records s.elements) head elements) c.in_ok-append_record-2.ensures
