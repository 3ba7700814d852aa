use Rattle.std.proofs.Common.{refl, map, take, subst, sym, arith, ◌++◌, ◌∷◌, [], List}
use Rattle.element_drawing.specs.PlainLabel.{PlainLabel}
use Rattle.cell_hierarchy.specs.Plain.{plain_label}
use Rattle.leaf_nets.specs.Numbers.{IsPinBinding}
use Rattle.leaf_nets.proofs.LabelLaws.{not_of_pin}
use Rattle.std.proofs.lemmas.List.{length-map}
use Rattle.leaf_nets.proofs.TakeLaws.{taken_more, taken_whole, mapped_at}
use Rattle.leaf_nets.proofs.pin.pin_binding.Goals as goal
use Rattle.leaf_nets.proofs.pin.pin_binding.Goals.{then-is_label_of, else-is_label_of}

pub loop-index-preserved : goal.loop-index-preserved
loop-index-preserved c =
    let shapes = c.args.bins.now in
    let nets = c.args.nets.now in
    let labels = map plain_label c.args.labels.now in
    let pin = c.args.pin.now in
    let i = c.loop-index.index in
    let label = plain_label c.label_at-label.result in
    let front = taken_more labels i label (mapped_at plain_label c.args.labels.now i c.label_at-label.result c.label_at-label.ensures) in
    subst (λ (l : List PlainLabel). IsPinBinding shapes nets l pin c.if-is_label_of.found) (sym front) (elim c.if-is_label_of.branch [
      | then-is_label_of w ↦ subst (IsPinBinding shapes nets (take i labels ++ label ∷ []) pin) (sym w.found-is) (w.with_net-found.ensures shapes nets (take i labels) pin label c.loop-index.invariant (w.if-is_label_of.ensures.0 refl) w.net_of.ensures)
      | else-is_label_of w ↦ subst (IsPinBinding shapes nets (take i labels ++ label ∷ []) pin) (sym w.found-is) (not_of_pin shapes nets (take i labels) pin label c.loop-index.found (λ h. let yes = w.if-is_label_of.ensures.1 h in absurd cc) c.loop-index.invariant)
    ])

pub returns : goal.returns
returns c =
    let labels = map plain_label c.args.labels.now in
    let done = c.loop-index-test.false in
    let sized = length-map c.args.labels.now plain_label in
    subst (λ (l : List PlainLabel). IsPinBinding c.args.bins.now c.args.nets.now l c.args.pin.now c.loop-index.found) (taken_whole labels c.loop-index.index (omega (arith, done, sized))) c.loop-index.invariant
