use Rattle.std.proofs.Common.{[], ◌++◌, subst, sym, ap, ◌∙◌}
use Rattle.std.specs.Prelude.{flat_map}
use Rattle.std.specs.List.{AllByRecursion}
use Rattle.gds_records.specs.Bytes.{records_bytes}
use Rattle.gds_records.specs.declared.code.TheConstants.{ENDEL}
use Rattle.gds_records.specs.Writing.{record_with}
use Rattle.gds_library.specs.Writable.{IsWritableProp}
use Rattle.gds_stream.specs.Written.{HasShortAttribute}
use Rattle.gds_stream.specs.Canonical.{property_records}
use Rattle.gds_stream.proofs.AppendLaws.{none_left, goes_on, all_added, one_more_added}
use Rattle.gds_stream.proofs.write.write_properties.Goals as goal

pub loop-prop-preserved : goal.loop-prop-preserved
loop-prop-preserved c =
    let prop = c.in-Some.prop.now in
    let others = c.in-Some.others.now in
    let parts = c.in-Some.ensures.cases.0 in
    let all = subst (AllByRecursion IsWritableProp) parts c.loop-prop.invariant.writable in
    record {
      bytes = goes_on _ c.loop-prop.out.items _ (property_records prop) (flat_map property_records others)
          (ap (λ l. c.loop-prop.out.items ++ records_bytes (flat_map property_records l)) (sym parts) ∙ c.loop-prop.invariant.bytes)
          c.in_ok-write_property.ensures.bytes;
      writable = all.1;
      fits = λ rest. c.loop-prop.invariant.fits (subst (AllByRecursion HasShortAttribute) (sym parts) (c.in_ok-write_property.ensures.fits, rest));
    }

pub returns-clause-bytes : goal.returns-clause-bytes
returns-clause-bytes c =
    let none = c.in_default.ensures.cases in
    one_more_added _ _ _ (flat_map property_records c.args.props.now) (record_with ENDEL [])
    (all_added _ c.loop-prop.out.items _
    (ap (λ l. c.loop-prop.out.items ++ records_bytes (flat_map property_records l)) (sym (none_left c.loop-prop.rest.now none))
    ∙ c.loop-prop.invariant.bytes)) c.in_ok-append_record.ensures
