use Rattle.std.proofs.Common.{◌+◌, ◌*◌, List, ◌++◌, length, ap, ◌∙◌}
use Rattle.or_geom.specs.declared.shape.Point.{Point}
use Rattle.gds_records.specs.declared.code.TheConstants.{XY}
use Rattle.gds_records.specs.Writing.{points_bytes}
use Rattle.gds_stream.specs.Canonical.{closed_ring}
use Rattle.gds_stream.specs.Turned.{turned_ring}
use Rattle.gds_stream.proofs.AppendLaws.{headed, ring_of, ring_length}
use Rattle.gds_stream.proofs.write.write_ring.Goals as goal

pub returns : goal.returns
returns c =
    let corners = c.args.corners.now in
    let first = c.in-Some.first.now in
    let others = c.in-Some.others.now in
    let before = c.split_at.result.0.now in
    let ring = ring_of corners c.split_at.result.1.now before first others c.lowest_index.result c.goes_right.result
    c.lowest_index.ensures.is c.split_at.ensures.back c.split_at.ensures.front c.in-Some.ensures.cases.0 c.goes_right.ensures in
    headed _ _ _ XY (8 * length corners + 8) (points_bytes (closed_ring (turned_ring corners))) (ring_length corners c.requires.simple.four)
    c.in_ok-append_head.ensures
    (c.in_ok-append_closed.ensures ∙ ap (λ (l : List Point). c.append_head.new.out.items ++ points_bytes (closed_ring l)) ring)
