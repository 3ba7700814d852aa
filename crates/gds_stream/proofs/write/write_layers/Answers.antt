use Rattle.std.proofs.Common.{[], ◌∷◌, ◌++◌, ap, ◌∙◌, arith}
use Rattle.std.specs.Prelude.{FitsSigned}
use Rattle.std.specs.Int.{w16}
use Rattle.std.proofs.lemmas.Int.{ints}
use Rattle.gds_records.specs.declared.code.TheConstants.{LAYER}
use Rattle.gds_records.specs.Bytes.{record_bytes}
use Rattle.gds_records.specs.Writing.{int16_bytes, record_with}
use Rattle.gds_stream.proofs.AppendLaws.{one_added, one_more_added, kept_16}
use Rattle.gds_stream.proofs.write.write_layers.Goals as goal

pub returns-clause-bytes : goal.returns-clause-bytes
returns-clause-bytes c =
    let first = record_with c.args.code [] in
    let layer = record_with LAYER (int16_bytes c.args.layer) in
    let kind = record_with c.args.second (int16_bytes c.args.kind) in
    let fits_layer : FitsSigned w16 c.args.layer = omega (arith, ints) in
    let fits_kind : FitsSigned w16 c.args.kind = omega (arith, ints) in
    one_more_added _ _ _ (first ∷ layer ∷ []) kind
    (one_more_added _ _ _ (first ∷ []) layer (one_added _ _ first c.in_ok-append_record.ensures)
    (c.in_ok-append_int16.ensures.bytes
    ∙ ap (λ z. c.append_record.new.out.items ++ record_bytes (record_with LAYER (int16_bytes z))) (kept_16 c.args.layer fits_layer)))
    (c.in_ok-append_int16-2.ensures.bytes
    ∙ ap (λ z. c.append_int16.new.out.items ++ record_bytes (record_with c.args.second (int16_bytes z))) (kept_16 c.args.kind fits_kind))
