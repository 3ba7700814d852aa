use Rattle.std.proofs.Common.{List, map, take, sym, subst}
use Rattle.std.proofs.lemmas.List.{take_all}
use Rattle.cell_hierarchy.specs.declared.flat.Label.{Label}
use Rattle.cell_hierarchy.specs.Plain.{plain_label}
use Rattle.element_drawing.specs.PlainLabel.{PlainLabel}
use Rattle.drawn_devices.proofs.NameLaws.{AreNamesOf, IsGivenBy, labels_more, names_skip, names_more, no_names}
use Rattle.drawn_devices.proofs.names.names_of.Goals as goal

pub loop-index-init : goal.loop-index-init
loop-index-init c = no_names c.args.cell.now _ c.new-names.ensures

pub loop-index-preserved-in_default : goal.loop-index-preserved-in_default
loop-index-preserved-in_default c =
    let i = c.loop-index.index in
    let label = c.label_at-label.result in
    let labels = map plain_label (take i c.args.labels.now) in
    let given = subst (IsGivenBy c.args.cell.now (plain_label label)) c.in_default.is c.in_ok-name.ensures in
    subst (λ (ls : List PlainLabel). AreNamesOf c.args.cell.now ls c.loop-index.names) (sym (labels_more c.args.labels.now i label c.label_at-label.ensures))
    (names_skip c.args.cell.now labels (plain_label label) c.loop-index.names given c.loop-index.invariant)

pub loop-index-preserved : goal.loop-index-preserved
loop-index-preserved c =
    let i = c.loop-index.index in
    let label = c.label_at-label.result in
    let labels = map plain_label (take i c.args.labels.now) in
    let given = subst (IsGivenBy c.args.cell.now (plain_label label)) c.in-Some.is c.in_ok-name.ensures in
    subst (λ (ls : List PlainLabel). AreNamesOf c.args.cell.now ls c.push.new.self) (sym (labels_more c.args.labels.now i label c.label_at-label.ensures))
    (names_more c.args.cell.now labels (plain_label label) c.loop-index.names c.push.new.self c.in-Some.name c.in_ok-push.ensures.ok given c.loop-index.invariant)

pub returns : goal.returns
returns c = subst (λ (ls : List Label). AreNamesOf c.args.cell.now (map plain_label ls) c.loop-index.names) (take_all c.loop-index.index c.args.labels.now c.loop-index-test.false) c.loop-index.invariant
