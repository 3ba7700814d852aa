use Rattle.std.proofs.Common.{◌≡◌, ℕ, List, Some, sym, ap, subst, ◌∙◌, arith}
use Rattle.std.specs.Prelude.{Contains}
use Rattle.kit_rules.proofs.joints.is_beside_at.Goals as goal

pub returns : goal.returns
returns c =
    let same = c.as_slice.ensures in
    let equal = c.if-layer_at-connect.false in
    let cut : c.layer_at.result ≡ c.args.connect.now.cut = omega (arith, equal) in (
      (λ t is layer h. c.are_beside.ensures.0 t layer (subst (λ (l : List ℕ). Contains l layer) (sym same) h)),
      (λ at. c.are_beside.ensures.1 (λ layer h. at (c.layer_at.ensures ∙ ap Some cut) layer (subst (λ (l : List ℕ). Contains l layer) same h))),
    )
