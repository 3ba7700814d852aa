use Rattle.std.proofs.Common.{[], ◌∷◌, ◌++◌, refl, ap, ◌∙◌, append_assoc, arith}
use Rattle.std.specs.Prelude.{FitsSigned}
use Rattle.std.specs.Int.{w16}
use Rattle.std.proofs.lemmas.Int.{ints}
use Rattle.gds_records.specs.declared.code.TheConstants.{COLROW, XY}
use Rattle.gds_records.specs.Writing.{int16_bytes, point_bytes, points_bytes, record_with}
use Rattle.gds_library.specs.Values.{displaced}
use Rattle.gds_stream.proofs.AppendLaws.{headed, three_added, one_added, one_more_added, kept_16}
use Rattle.gds_stream.proofs.write.write_lattice.Goals as goal

pub returns : goal.returns
returns c =
    let at = c.args.place.at in
    let by_columns = displaced at c.args.columns c.args.across in
    let by_rows = displaced at c.args.rows c.args.down in
    let fits_columns : FitsSigned w16 c.args.columns = omega (arith, ints) in
    let fits_rows : FitsSigned w16 c.args.rows = omega (arith, ints) in
    let columns = kept_16 c.args.columns fits_columns in
    let rows = kept_16 c.args.rows fits_rows in
    let first = c.in_ok-extend_from_slice.ensures.items
    ∙ ap (λ l. c.append_head.new.out.items ++ l) (c.to_be_bytes.ensures ∙ ap int16_bytes columns) in
    let second = c.in_ok-extend_from_slice-2.ensures.items
    ∙ ap (λ l. c.extend_from_slice.new.self.items ++ l) (c.to_be_bytes-2.ensures ∙ ap int16_bytes rows) in
    let counts = second ∙ ap (λ l. l ++ int16_bytes c.args.rows) first
    ∙ append_assoc c.append_head.new.out.items (int16_bytes c.args.columns) (int16_bytes c.args.rows) in
    let content = int16_bytes c.args.columns ++ int16_bytes c.args.rows in
    let points = three_added _ (point_bytes at) (point_bytes by_columns) (point_bytes by_rows) _ _ _ c.in_ok-append_point.ensures
    (c.in_ok-append_point-2.ensures ∙ ap (λ p. c.append_point.new.out.items ++ point_bytes p)
    (c.displaced_by-by_columns.ensures.is ∙ ap (λ n. displaced at n c.args.across) columns))
    (c.in_ok-append_point-3.ensures ∙ ap (λ p. c.append_point-2.new.out.items ++ point_bytes p)
    (c.displaced_by-by_rows.ensures.is ∙ ap (λ n. displaced at n c.args.down) rows)) in
    one_more_added _ _ _ (record_with COLROW content ∷ []) (record_with XY (points_bytes (at ∷ by_columns ∷ by_rows ∷ [])))
    (one_added _ _ (record_with COLROW content) (headed _ _ _ COLROW 4 content refl c.in_ok-append_head.ensures counts))
    (headed _ _ _ XY 24 (points_bytes (at ∷ by_columns ∷ by_rows ∷ [])) refl c.in_ok-append_head-2.ensures points)
