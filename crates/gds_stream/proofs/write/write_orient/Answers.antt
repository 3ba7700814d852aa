use Rattle.std.proofs.Common.{[], ◌∷◌, ◌++◌, sym, ap, ◌∙◌}
use Rattle.gds_records.specs.declared.code.TheConstants.{STRANS}
use Rattle.gds_records.specs.Bytes.{records_bytes}
use Rattle.gds_records.specs.Writing.{record_with}
use Rattle.gds_library.specs.declared.limits.TheConstants.{MIRRORED}
use Rattle.gds_stream.specs.Canonical.{orient_records}
use Rattle.gds_stream.proofs.AppendLaws.{none_added, one_added, ok_weaker}
use Rattle.gds_stream.proofs.write.write_orient.Goals as goal

pub returns-in-R0 : goal.returns-in-R0
returns-in-R0 c =
    none_added c.args.out.now.items ∙ ap (λ o. c.args.out.now.items ++ records_bytes (orient_records o)) (sym c.in-R0.is)

pub returns-in-MX : goal.returns-in-MX
returns-in-MX c =
    ok_weaker c.append_record.result _ _
    (λ h. one_added _ _ (record_with STRANS (MIRRORED ∷ 0 ∷ [])) h
    ∙ ap (λ o. c.args.out.now.items ++ records_bytes (orient_records o)) (sym c.in-MX.is)) c.append_record.ensures
