use Rattle.std.proofs.Common.{map, refl, arith}
use Rattle.std.proofs.lemmas.List.{length-map}
use Rattle.std.proofs.lemmas.Option.{slice_get_within, slice_get_read}
use Rattle.net_extractor.specs.declared.difference.NetDiff.TheVariants.{Unlabelled, Stranger}
use Rattle.net_extractor.specs.PlainNets.{plain_net}
use Rattle.net_extractor.proofs.DifferenceLaws.{alike, differ, unlabelled, stranger, conflict_first, conflict_within}
use Rattle.net_extractor.proofs.PinLaws.{labelled_all}
use Rattle.net_extractor.proofs.comparison.first_difference.Goals as goal

pub returns-in-Unlabelled-clause-none : goal.returns-in-Unlabelled-clause-none
returns-in-Unlabelled-clause-none c =
    let lack = rw c.in-Unlabelled.is at c.requires.nets in
    differ (map plain_net c.args.labels.now) c.args.pins.now (Unlabelled c.in_ok-pin-in-Unlabelled.pin)
    (unlabelled (map plain_net c.args.labels.now) c.args.pins.now c.in-Unlabelled.place c.index-pins-place.result c.in_ok-pin-in-Unlabelled.pin lack
    (slice_get_read c.args.pins.now _ c.in-Unlabelled.place c.index-pins-place.result refl (slice_get_within c.args.pins.now c.in-Unlabelled.place lack.pin lack.first.here) c.index-pins-place.is) c.in_ok-pin-in-Unlabelled.ensures)

pub returns-in-Unlabelled-clause-first : goal.returns-in-Unlabelled-clause-first
returns-in-Unlabelled-clause-first c =
    let lack = rw c.in-Unlabelled.is at c.requires.nets in
    unlabelled (map plain_net c.args.labels.now) c.args.pins.now c.in-Unlabelled.place c.index-pins-place.result c.in_ok-pin-in-Unlabelled.pin lack
    (slice_get_read c.args.pins.now _ c.in-Unlabelled.place c.index-pins-place.result refl (slice_get_within c.args.pins.now c.in-Unlabelled.place lack.pin lack.first.here) c.index-pins-place.is) c.in_ok-pin-in-Unlabelled.ensures

pub label_name-requires : goal.label_name-requires
label_name-requires c =
    let s = rw c.in-Some.is at c.requires.stranger in
    let sized = length-map c.args.labels.now plain_net in
    let lt = slice_get_within (map plain_net c.args.labels.now) c.in-Some.place s.label s.first.here in
    omega (arith, sized, lt)

pub returns-in-Some-clause-none : goal.returns-in-Some-clause-none
returns-in-Some-clause-none c =
    let s = rw c.in-Some.is at c.requires.stranger in
    differ (map plain_net c.args.labels.now) c.args.pins.now (Stranger c.in_ok-pin.pin)
    (stranger (map plain_net c.args.labels.now) c.args.pins.now c.in-Some.place s.label c.in_ok-pin.pin (labelled_all (map plain_net c.args.labels.now) c.args.pins.now c.in-All.nets.items (rw c.in-All.is at c.requires.nets)) s s.first.here (c.in_ok-pin.ensures s.label s.first.here))

pub returns-in-Some-clause-first : goal.returns-in-Some-clause-first
returns-in-Some-clause-first c =
    let s = rw c.in-Some.is at c.requires.stranger in
    stranger (map plain_net c.args.labels.now) c.args.pins.now c.in-Some.place s.label c.in_ok-pin.pin (labelled_all (map plain_net c.args.labels.now) c.args.pins.now c.in-All.nets.items (rw c.in-All.is at c.requires.nets)) s s.first.here (c.in_ok-pin.ensures s.label s.first.here)

pub returns-in_default-conflict-clause-none : goal.returns-in_default-conflict-clause-none
returns-in_default-conflict-clause-none c =
    alike (map plain_net c.args.labels.now) c.args.pins.now
    (record { labelled = labelled_all (map plain_net c.args.labels.now) c.args.pins.now c.in-All.nets.items (rw c.in-All.is at c.requires.nets); placed = rw c.in_default.is at c.requires.stranger })
    (rw c.in_default-conflict.is at c.in_ok-conflict.ensures)

pub named-requires : goal.named-requires
named-requires c = conflict_within (map plain_net c.args.labels.now) c.args.pins.now c.in-Some-conflict.conflict (rw c.in-Some-conflict.is at c.in_ok-conflict.ensures)

pub returns-clause-none : goal.returns-clause-none
returns-clause-none c =
    differ (map plain_net c.args.labels.now) c.args.pins.now c.in_ok-difference.difference
    (conflict_first (map plain_net c.args.labels.now) c.args.pins.now c.in-Some-conflict.conflict c.in_ok-difference.difference
    (record { labelled = labelled_all (map plain_net c.args.labels.now) c.args.pins.now c.in-All.nets.items (rw c.in-All.is at c.requires.nets); placed = rw c.in_default.is at c.requires.stranger })
    (rw c.in-Some-conflict.is at c.in_ok-conflict.ensures) c.in_ok-difference.ensures)

pub returns-clause-first : goal.returns-clause-first
returns-clause-first c =
    conflict_first (map plain_net c.args.labels.now) c.args.pins.now c.in-Some-conflict.conflict c.in_ok-difference.difference
    (record { labelled = labelled_all (map plain_net c.args.labels.now) c.args.pins.now c.in-All.nets.items (rw c.in-All.is at c.requires.nets); placed = rw c.in_default.is at c.requires.stranger })
    (rw c.in-Some-conflict.is at c.in_ok-conflict.ensures) c.in_ok-difference.ensures
