use Rattle.std.proofs.Common.{ℕ, map, refl, subst}
use Rattle.std.specs.Prelude.{IsTrue, ◌↔◌}
use Rattle.cell_hierarchy.specs.Plain.{plain_label}
use Rattle.leaf_shapes.specs.declared.candidate.WantedShape.TheVariants.{OnLayer}
use Rattle.leaf_shapes.specs.Candidates.{HasCandidate}
use Rattle.leaf_shapes.specs.Demands.{metal_layer}
use Rattle.leaf_shapes.specs.Wanted.{IsWanted}
use Rattle.leaf_shapes.proofs.PinLaws.{negated}
use Rattle.leaf_shapes.proofs.pins.lacks_layer.Goals as goal

pub returns : goal.returns
returns c =
    let Has : ℕ → Type 0 = λ layer. HasCandidate (IsWanted (OnLayer layer)) c.args.bins.now (map plain_label c.args.labels.now) c.args.pin.now in
    let there : IsTrue c.has_candidate.result ↔ Has (metal_layer c.args.wire.now c.args.demand.metal) = subst (λ (layer : ℕ). IsTrue c.has_candidate.result ↔ Has layer) c.layer-layer.ensures c.has_candidate.ensures in
    let none = negated c.has_candidate.result (Has (metal_layer c.args.wire.now c.args.demand.metal)) there in (
      λ yes. record { of = c.if-not-is_same.ensures.0 refl; none = none.0 yes },
      λ lacks. none.1 lacks.none,
    )
