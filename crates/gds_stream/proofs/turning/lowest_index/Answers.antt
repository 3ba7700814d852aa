use Rattle.std.proofs.Common.{◌≡◌, ◌+◌, List, ◌∷◌, length, sym, subst, ◌∙◌, arith}
use Rattle.or_geom.specs.declared.shape.Point.{Point}
use Rattle.gds_stream.specs.Turned as turn
use Rattle.gds_stream.proofs.LowestLaws.{index_among, lower_next, other_next}
use Rattle.gds_stream.proofs.turning.lowest_index.Goals as goal
use Rattle.gds_stream.proofs.turning.lowest_index.Goals.{then-is_lower, else-is_lower}

pub loop-corner-preserved : goal.loop-corner-preserved
loop-corner-preserved c =
    let corner = c.in-Some-split_first.corner.now in
    let after = c.in-Some-split_first.after.now in
    let lowest = c.loop-corner.lowest in
    let index = c.loop-corner.index in
    let next = c.loop-corner.next in
    let parts : c.loop-corner.rest.now ≡ corner ∷ after = c.in-Some-split_first.ensures.cases.0 in
    let size : length after + 1 ≡ length c.loop-corner.rest.now = c.in-Some-split_first.ensures.cases.1 in
    let so_far : turn.lowest_index c.args.corners.now ≡ index_among lowest (corner ∷ after) index next =
    subst (λ (l : List Point). turn.lowest_index c.args.corners.now ≡ index_among lowest l index next) parts
    c.loop-corner.invariant.index in
    elim c.if-is_lower.branch [
      | then-is_lower w ↦ record {
        index = so_far ∙ lower_next lowest corner after index next (sym c.is_lower.ensures ∙ w.if-is_lower.true)
            ∙ sym (λ i. index_among (w.lowest-is i) after (w.index-is i) (next + 1));
        rest = omega arith;
        within = omega arith;
      }
      | else-is_lower w ↦ record {
        index = so_far ∙ other_next lowest corner after index next (sym c.is_lower.ensures ∙ w.if-is_lower.false)
            ∙ sym (λ i. index_among (w.lowest-is i) after (w.index-is i) (next + 1));
        rest = omega arith;
        within = omega arith;
      }
    ]
