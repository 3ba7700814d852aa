use Rattle.std.proofs.Common.{◌∙◌, map, refl}
use Rattle.leaf_shapes.specs.Demands.{plain_demand}
use Rattle.leaf_shapes.specs.Pins.{drawing_of}
use Rattle.leaf_shapes.proofs.PinLaws.{missing, off_layer, off_edge}
use Rattle.leaf_shapes.proofs.pins.pin_fault.Goals as goal

pub returns-then-not-has_candidate : goal.returns-then-not-has_candidate
returns-then-not-has_candidate c = λ size lacks.
    missing (drawing_of c.args.wire.now size c.args.bins.now c.args.labels.now) (map plain_demand c.args.demands.now) c.args.pin.now c.in-Ok.name (c.in-Ok.ensures ∙ c.as_bytes.ensures.value) lacks
    (λ h. let yes = c.if-not-has_candidate.ensures.1 h in absurd cc)

pub returns-then-is_off_layer : goal.returns-then-is_off_layer
returns-then-is_off_layer c = λ size lacks.
    off_layer (drawing_of c.args.wire.now size c.args.bins.now c.args.labels.now) (map plain_demand c.args.demands.now) c.args.pin.now c.in-Ok.name (c.in-Ok.ensures ∙ c.as_bytes.ensures.value) lacks
    (λ none. none (c.if-not-has_candidate.ensures.0 refl)) (c.if-is_off_layer.ensures.0 refl)

pub returns : goal.returns
returns c = λ size lacks.
    off_edge (drawing_of c.args.wire.now size c.args.bins.now c.args.labels.now) (map plain_demand c.args.demands.now) c.args.pin.now c.in-Ok.name (c.in-Ok.ensures ∙ c.as_bytes.ensures.value) lacks
    (λ none. none (c.if-not-has_candidate.ensures.0 refl)) (λ off. let yes = c.if-is_off_layer.ensures.1 off in absurd cc)
