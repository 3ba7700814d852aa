use Rattle.std.proofs.Common.{◌≡◌, [], refl, get_or}
use Rattle.std.proofs.lemmas.List.{drop_all}
use Rattle.or_geom.specs.Place.{IsNearPoint}
use Rattle.or_geom.proofs.AddsLaws.{adds_one}
use Rattle.or_geom.proofs.GatheringLaws.{gather_goes_on, gather_ends}
use Rattle.cell_hierarchy.specs.Placed.{LabelGives}
use Rattle.cell_hierarchy.specs.Plain.{plain_label}
use Rattle.cell_hierarchy.specs.declared.flat.Label.{Label}
use Rattle.cell_hierarchy.proofs.OwnLaws.{all_got_or, rest_or, no_label, map_pushed, label_given, label_given_once}
use Rattle.cell_hierarchy.proofs.own.add_labels.Goals as goal

pub point_at-requires-clause-point : goal.point_at-requires-clause-point
point_at-requires-clause-point c = all_got_or (λ (label : Label). IsNearPoint label.at) c.args.labels.now c.loop-label.label-index no_label c.requires.near c.loop-label-test.true

pub loop-label-preserved : goal.loop-label-preserved
loop-label-preserved c =
    let i = c.loop-label.label-index in
    let own : Label = get_or c.args.labels.now i no_label in
    let made : Label = record { path = c.args.at.now.path; name = own.name; layer = own.layer; at = c.point_at.result } in
    let bare = all_got_or (λ (label : Label). label.path.now ≡ []) c.args.labels.now i no_label c.requires.own c.loop-label-test.true in
    let given = label_given c.args.at.now.path.now c.args.at.now.place own made bare refl refl refl c.point_at.ensures in
    gather_goes_on (LabelGives c.args.at.now.path.now c.args.at.now.place) _ _ _ own _ _ _ (rest_or c.args.labels.now i no_label c.loop-label-test.true) c.loop-label.invariant
    (adds_one _ _ (plain_label made) _ (map_pushed plain_label _ _ made c.in_ok-push.ensures.items) given (λ l m. label_given_once c.args.at.now.path.now c.args.at.now.place own l (plain_label made) m given))

pub returns : goal.returns
returns c = gather_ends _ _ _ _ _ (drop_all c.loop-label.label-index c.args.labels.now c.loop-label-test.false) c.loop-label.invariant
