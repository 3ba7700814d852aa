use Rattle.std.proofs.Common.{◌≡◌, to_z, of_z, w64, inl, inr, sym, subst, arith}
use Rattle.std.proofs.lemmas.Int.{to_z-of_z}
use Rattle.kit_rules.specs.WireRules.{IsOwnSpace}
use Rattle.kit_rules.proofs.PlaceLaws.{not_by, clash_not}
use Rattle.kit_rules.proofs.rules.is_wire_space.Goals as goal

pub returns : goal.returns
returns c =
    let read : to_z w64 (of_z w64 c.args.min) ≡ c.args.min = grind (arith, to_z-of_z) in (
      (λ passes. inl (
        (λ h. let t = c.if-is_wire_layer.ensures.1 h in absurd cc),
        (λ h. clash_not c.is_wire_layer-2.result (c.is_wire_layer-2.ensures.1 h) passes),
      )),
      (λ h. elim h [
        | inl out ↦ not_by c.is_wire_layer-2.result (λ t. out.1 (c.is_wire_layer-2.ensures.0 t))
        | inr own ↦ let t = c.if-is_own_space.ensures.1 (subst (IsOwnSpace c.args.wire.now c.args.layer c.args.other) (sym read) own) in absurd cc
      ]),
    )
