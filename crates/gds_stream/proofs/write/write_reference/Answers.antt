use Rattle.std.proofs.Common.{[], ◌∷◌}
use Rattle.gds_records.specs.declared.code.TheConstants.{SNAME}
use Rattle.gds_records.specs.Writing.{text_bytes, record_with}
use Rattle.gds_stream.specs.Canonical.{orient_records}
use Rattle.gds_stream.proofs.AppendLaws.{one_added, one_more_added, added}
use Rattle.gds_stream.proofs.write.write_reference.Goals as goal

pub returns : goal.returns
returns c =
    let first = record_with c.args.code [] in
    let name = record_with SNAME (text_bytes c.args.name.now) in
    added _ _ _ (first ∷ name ∷ []) (orient_records c.args.orient)
    (one_more_added _ _ _ (first ∷ []) name (one_added _ _ first c.in_ok-append_record.ensures) c.in_ok-append_name.ensures)
    c.in_ok-write_orient.ensures
