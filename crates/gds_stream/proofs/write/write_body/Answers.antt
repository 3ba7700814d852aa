use Rattle.std.proofs.Common.{[], ◌∷◌, ◌++◌, sym, ap, ◌∙◌, rules}
use Rattle.std.specs.Prelude.{FitsSigned}
use Rattle.std.specs.Int.{w16, w32}
use Rattle.gds_records.specs.declared.code.TheConstants.{BOUNDARY, PATH, SREF, AREF, TEXT, DATATYPE, TEXTTYPE, XY, STRING, PATHTYPE, WIDTH, SNAME}
use Rattle.gds_records.specs.Bytes.{record_bytes, records_bytes}
use Rattle.gds_records.specs.Writing.{int16_bytes, int32_bytes, points_bytes, text_bytes, record_with}
use Rattle.gds_stream.specs.Canonical.{layered_records, orient_records, closed_ring}
use Rattle.gds_stream.specs.Turned.{turned_ring}
use Rattle.gds_stream.specs.Written.{body_records, lattice_records}
use Rattle.gds_stream.proofs.AppendLaws.{one_more_added, added, kept_16, kept_32}
use Rattle.gds_stream.proofs.write.write_body.Goals as goal

pub returns-in_ok-write_ring-in-Boundary-clause-bytes : goal.returns-in_ok-write_ring-in-Boundary-clause-bytes
returns-in_ok-write_ring-in-Boundary-clause-bytes c =
    let b = c.in-Boundary in
    let out = c.args.out.now.items in
    let fits_layer : FitsSigned w16 b.layer = search rules in
    let fits_kind : FitsSigned w16 b.datatype = search rules in
    let layer = kept_16 b.layer fits_layer in
    let kind = kept_16 b.datatype fits_kind in
    one_more_added _ _ _ (layered_records BOUNDARY DATATYPE b.layer b.datatype []) (record_with XY (points_bytes (closed_ring (turned_ring b.points))))
    (c.in_ok-write_layers-in-Boundary.ensures.bytes ∙ (λ i. out ++ records_bytes (layered_records BOUNDARY DATATYPE (layer i) (kind i) [])))
    (c.in_ok-write_ring-in-Boundary.ensures
    ∙ ap (λ ps. c.write_layers.new.out.items ++ record_bytes (record_with XY (points_bytes (closed_ring (turned_ring ps))))) c.as_slice.ensures)
    ∙ ap (λ e. out ++ records_bytes (body_records e)) (sym b.is)

pub returns-in_ok-write_track-in-Path-clause-bytes : goal.returns-in_ok-write_track-in-Path-clause-bytes
returns-in_ok-write_track-in-Path-clause-bytes c =
    let p = c.in-Path in
    let out = c.args.out.now.items in
    let fits_layer : FitsSigned w16 p.layer = search rules in
    let fits_datatype : FitsSigned w16 p.datatype = search rules in
    let fits_kind : FitsSigned w16 p.kind = search rules in
    let fits_width : FitsSigned w32 p.width = search rules in
    let layer = kept_16 p.layer fits_layer in
    let datatype = kept_16 p.datatype fits_datatype in
    let kind = kept_16 p.kind fits_kind in
    let width = kept_32 p.width fits_width in
    let points = c.as_slice-in-Path.ensures in
    added _ _ _ (layered_records PATH DATATYPE p.layer p.datatype [])
    (record_with PATHTYPE (int16_bytes p.kind) ∷ record_with WIDTH (int32_bytes p.width) ∷ record_with XY (points_bytes p.points) ∷ [])
    (c.in_ok-write_layers-in-Path.ensures.bytes ∙ (λ i. out ++ records_bytes (layered_records PATH DATATYPE (layer i) (datatype i) [])))
    (c.in_ok-write_track-in-Path.ensures ∙ (λ i. c.write_layers-in-Path.new.out.items ++ records_bytes
    (record_with PATHTYPE (int16_bytes (kind i)) ∷ record_with WIDTH (int32_bytes (width i)) ∷ record_with XY (points_bytes (points i)) ∷ [])))
    ∙ ap (λ e. out ++ records_bytes (body_records e)) (sym p.is)

pub returns-in_ok-write_points-in-Sref-clause-bytes : goal.returns-in_ok-write_points-in-Sref-clause-bytes
returns-in_ok-write_points-in-Sref-clause-bytes c =
    let r = c.in-Sref in
    let out = c.args.out.now.items in
    one_more_added _ _ _ (record_with SREF [] ∷ record_with SNAME (text_bytes r.name) ∷ orient_records r.place.orient) (record_with XY (points_bytes (r.place.at ∷ [])))
    c.in_ok-write_reference-in-Sref.ensures c.in_ok-write_points-in-Sref.ensures
    ∙ ap (λ e. out ++ records_bytes (body_records e)) (sym r.is)

pub returns-in_ok-write_lattice-in-Aref-clause-bytes : goal.returns-in_ok-write_lattice-in-Aref-clause-bytes
returns-in_ok-write_lattice-in-Aref-clause-bytes c =
    let r = c.in-Aref in
    let out = c.args.out.now.items in
    let fits_columns : FitsSigned w16 r.columns = search rules in
    let fits_rows : FitsSigned w16 r.rows = search rules in
    let columns = kept_16 r.columns fits_columns in
    let rows = kept_16 r.rows fits_rows in
    added _ _ _ (record_with AREF [] ∷ record_with SNAME (text_bytes r.name) ∷ orient_records r.place.orient)
    (lattice_records r.place r.columns r.rows r.across r.down) c.in_ok-write_reference-in-Aref.ensures
    (c.in_ok-write_lattice-in-Aref.ensures
    ∙ (λ i. c.write_reference-in-Aref.new.out.items ++ records_bytes (lattice_records r.place (columns i) (rows i) r.across r.down)))
    ∙ ap (λ e. out ++ records_bytes (body_records e)) (sym r.is)

pub returns-in_ok-append_name-in-Text-clause-bytes : goal.returns-in_ok-append_name-in-Text-clause-bytes
returns-in_ok-append_name-in-Text-clause-bytes c =
    let t = c.in-Text in
    let out = c.args.out.now.items in
    let fits_layer : FitsSigned w16 t.layer = search rules in
    let fits_kind : FitsSigned w16 t.texttype = search rules in
    let layer = kept_16 t.layer fits_layer in
    let kind = kept_16 t.texttype fits_kind in
    one_more_added _ _ _ (layered_records TEXT TEXTTYPE t.layer t.texttype (record_with XY (points_bytes (t.at ∷ [])) ∷ [])) (record_with STRING (text_bytes t.string))
    (one_more_added _ _ _ (layered_records TEXT TEXTTYPE t.layer t.texttype []) (record_with XY (points_bytes (t.at ∷ [])))
    (c.in_ok-write_layers-in-Text.ensures.bytes ∙ (λ i. out ++ records_bytes (layered_records TEXT TEXTTYPE (layer i) (kind i) [])))
    c.in_ok-write_points-in-Text.ensures)
    c.in_ok-append_name-in-Text.ensures
    ∙ ap (λ e. out ++ records_bytes (body_records e)) (sym t.is)
