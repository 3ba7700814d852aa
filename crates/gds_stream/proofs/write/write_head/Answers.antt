use Rattle.std.proofs.Common.{[], ◌∷◌}
use Rattle.gds_records.specs.declared.code.TheConstants.{HEADER, BGNLIB, LIBNAME, UNITS}
use Rattle.gds_records.specs.Writing.{text_bytes, record_with}
use Rattle.gds_stream.specs.Canonical.{version, no_dates, nanometres}
use Rattle.gds_stream.proofs.AppendLaws.{one_added, one_more_added}
use Rattle.gds_stream.proofs.write.write_head.Goals as goal

pub returns : goal.returns
returns c =
    let header = record_with HEADER version in
    let dates = record_with BGNLIB no_dates in
    let name = record_with LIBNAME (text_bytes c.args.name.now) in
    one_more_added _ _ _ (header ∷ dates ∷ name ∷ []) (record_with UNITS nanometres)
    (one_more_added _ _ _ (header ∷ dates ∷ []) name
    (one_more_added _ _ _ (header ∷ []) dates (one_added _ _ header c.in_ok-append_record.ensures) c.in_ok-append_record-2.ensures)
    c.in_ok-append_name.ensures)
    c.in_ok-append_record-3.ensures
