use Rattle.std.proofs.Common.{ℕ, List, refl, sym, subst}
use Rattle.std.specs.Prelude.{Contains}
use Rattle.kit_rules.proofs.joints.is_wire_joint.Goals as goal

pub returns-then-not-are_no_cuts : goal.returns-then-not-are_no_cuts
returns-then-not-are_no_cuts c = (
  (λ t. absurd cc),
  (λ joint. let t = c.if-not-are_no_cuts.ensures.1 (λ layer h cut. joint.no_cut layer (subst (λ (l : List ℕ). Contains l layer) c.as_slice.ensures h) cut) in absurd cc),
)

pub returns : goal.returns
returns c = (
  (λ t. record {
    no_metal = λ h. let m = c.if-is_metal.ensures.1 h in absurd cc;
    no_cut = λ layer h cut. c.if-not-are_no_cuts.ensures.0 refl layer (subst (λ (l : List ℕ). Contains l layer) (sym c.as_slice.ensures) h) cut;
    beside = c.joins_beside.ensures.0 t;
  }),
  (λ joint. c.joins_beside.ensures.1 joint.beside),
)
