use Rattle.std.proofs.Common.{◌++◌, ap, ◌∙◌}
use Rattle.gds_records.specs.Bytes.{records_bytes}
use Rattle.gds_library.specs.Writable.{props_of}
use Rattle.gds_stream.specs.Written.{body_records}
use Rattle.gds_stream.specs.Canonical.{end_records}
use Rattle.gds_stream.proofs.AppendLaws.{added, body_and_end}
use Rattle.gds_stream.proofs.write.write_element.Goals as goal

pub returns-clause-bytes : goal.returns-clause-bytes
returns-clause-bytes c =
    let element = c.args.element.now in
    added _ _ _ (body_records element) (end_records (props_of element)) c.in_ok-write_body.ensures.bytes
    (c.in_ok-write_properties.ensures.bytes ∙ ap (λ l. c.write_body.new.out.items ++ records_bytes (end_records l)) c.properties_of.ensures)
    ∙ ap (λ l. c.args.out.now.items ++ records_bytes l) (body_and_end element)
