use Rattle.std.proofs.Common.{◌∙◌, sym, get_or}
use Rattle.std.proofs.lemmas.List.{drop_all}
use Rattle.or_geom.specs.Place.{IsNearPoint}
use Rattle.or_geom.proofs.AddsLaws.{adds_one}
use Rattle.or_geom.proofs.GatheringLaws.{gather_goes_on, gather_ends}
use Rattle.or_geom.proofs.PlaceLaws.{origin}
use Rattle.cell_hierarchy.specs.Placed.{PointGives}
use Rattle.cell_hierarchy.proofs.OwnLaws.{all_got_or, rest_or}
use Rattle.cell_hierarchy.proofs.own.add_points.Goals as goal

pub point_at-requires-clause-point : goal.point_at-requires-clause-point
point_at-requires-clause-point c = all_got_or IsNearPoint c.args.points.now c.loop-p.p-index origin c.requires.near c.loop-p-test.true

pub loop-p-preserved : goal.loop-p-preserved
loop-p-preserved c =
    let i = c.loop-p.p-index in
    gather_goes_on (PointGives c.args.place) _ _ _ (get_or c.args.points.now i origin) _ _ _ (rest_or c.args.points.now i origin c.loop-p-test.true) c.loop-p.invariant
    (adds_one _ _ _ _ c.in_ok-push.ensures.items c.point_at.ensures (λ q m. m ∙ sym c.point_at.ensures))

pub returns : goal.returns
returns c = gather_ends _ _ _ _ _ (drop_all c.loop-p.p-index c.args.points.now c.loop-p-test.false) c.loop-p.invariant
