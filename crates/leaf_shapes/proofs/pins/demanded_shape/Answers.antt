use Rattle.std.proofs.Common.{◌≡◌, ℕ, ℤ, map, subst, to_z, of_z, w64, arith}
use Rattle.std.specs.Prelude.{MatchOption}
use Rattle.std.proofs.lemmas.Int.{ints}
use Rattle.cell_hierarchy.specs.Plain.{plain_label}
use Rattle.leaf_shapes.specs.declared.candidate.WantedShape.TheVariants.{Fitting}
use Rattle.leaf_shapes.specs.Candidates.{NoCandidate, IsFirstCandidate}
use Rattle.leaf_shapes.specs.Wanted.{IsWanted}
use Rattle.leaf_shapes.proofs.pins.demanded_shape.Goals as goal

pub returns : goal.returns
returns c =
    let width : to_z w64 (of_z w64 c.args.wire.now.width) ≡ c.args.wire.now.width = omega (arith, ints) in
    let Found : ℕ → ℤ → Type 0 = λ layer w. MatchOption c.first_candidate.result
    (NoCandidate (IsWanted (Fitting layer c.args.demand.fit c.args.size w)) c.args.bins.now (map plain_label c.args.labels.now) c.args.demand.pin.now)
    (IsFirstCandidate (IsWanted (Fitting layer c.args.demand.fit c.args.size w)) c.args.bins.now (map plain_label c.args.labels.now) c.args.demand.pin.now) in
    subst (λ (layer : ℕ). Found layer c.args.wire.now.width) c.layer.ensures (subst (λ (w : ℤ). Found c.layer.result w) width c.first_candidate.ensures)
