use Rattle.std.proofs.Common.{[], ◌∷◌, ◌++◌, ap, ◌∙◌, arith}
use Rattle.std.specs.Prelude.{FitsSigned}
use Rattle.std.specs.Int.{w16, w32}
use Rattle.std.proofs.lemmas.Int.{ints}
use Rattle.gds_records.specs.declared.code.TheConstants.{PATHTYPE, WIDTH, XY}
use Rattle.gds_records.specs.Bytes.{record_bytes}
use Rattle.gds_records.specs.Writing.{int16_bytes, int32_bytes, points_bytes, record_with}
use Rattle.gds_stream.proofs.AppendLaws.{one_added, one_more_added, kept_16, kept_32}
use Rattle.gds_stream.proofs.write.write_track.Goals as goal

pub returns : goal.returns
returns c =
    let kind = record_with PATHTYPE (int16_bytes c.args.kind) in
    let width = record_with WIDTH (int32_bytes c.args.width) in
    let fits_kind : FitsSigned w16 c.args.kind = omega (arith, ints) in
    let fits_width : FitsSigned w32 c.args.width = omega (arith, ints) in
    one_more_added _ _ _ (kind ∷ width ∷ []) (record_with XY (points_bytes c.args.points.now))
    (one_more_added _ _ _ (kind ∷ []) width
    (one_added _ _ kind (c.in_ok-append_int16.ensures.bytes
    ∙ ap (λ z. c.args.out.now.items ++ record_bytes (record_with PATHTYPE (int16_bytes z))) (kept_16 c.args.kind fits_kind)))
    (c.in_ok-append_int32.ensures
    ∙ ap (λ z. c.append_int16.new.out.items ++ record_bytes (record_with WIDTH (int32_bytes z))) (kept_32 c.args.width fits_width)))
    c.in_ok-write_points.ensures
