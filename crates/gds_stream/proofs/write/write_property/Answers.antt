use Rattle.std.proofs.Common.{[], ◌∷◌, ◌++◌, ap, ◌∙◌, arith}
use Rattle.std.specs.Prelude.{FitsSigned}
use Rattle.std.specs.Int.{w16}
use Rattle.std.proofs.lemmas.Int.{ints}
use Rattle.gds_records.specs.declared.code.TheConstants.{PROPATTR, PROPVALUE}
use Rattle.gds_records.specs.Bytes.{record_bytes}
use Rattle.gds_records.specs.Writing.{int16_bytes, text_bytes, record_with}
use Rattle.gds_stream.proofs.AppendLaws.{one_added, one_more_added, kept_16}
use Rattle.gds_stream.proofs.write.write_property.Goals as goal

pub returns-clause-bytes : goal.returns-clause-bytes
returns-clause-bytes c =
    let attr = record_with PROPATTR (int16_bytes c.args.prop.now.attr) in
    let fits : FitsSigned w16 c.args.prop.now.attr = omega (arith, ints) in
    one_more_added _ _ _ (attr ∷ []) (record_with PROPVALUE (text_bytes c.args.prop.now.value))
    (one_added _ _ attr (c.in_ok-append_int16.ensures.bytes
    ∙ ap (λ z. c.args.out.now.items ++ record_bytes (record_with PROPATTR (int16_bytes z))) (kept_16 c.args.prop.now.attr fits)))
    c.in_ok-append_name.ensures
