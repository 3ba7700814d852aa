use Rattle.std.proofs.Common.{rules, ◌≡◌, ℤ, to_z, of_z, w64, sym, subst}
use Rattle.tech_rules.specs.declared.tech.Rule.TheVariants.{Space}
use Rattle.kit_rules.specs.WireRules.{IsWireRule}
use Rattle.kit_rules.proofs.rules.is_wire_rule.Goals as goal

pub returns-in-Space : goal.returns-in-Space
returns-in-Space c =
    let read : to_z w64 (of_z w64 c.in-Space.min) ≡ c.in-Space.min = search rules in (
      (λ t. subst (IsWireRule c.args.wire.now) (sym c.in-Space.is) (subst (λ (z : ℤ). IsWireRule c.args.wire.now (Space c.in-Space.layer c.in-Space.other z)) read (c.is_wire_space.ensures.0 t))),
      (λ h. c.is_wire_space.ensures.1 (subst (λ (z : ℤ). IsWireRule c.args.wire.now (Space c.in-Space.layer c.in-Space.other z)) (sym read) (subst (IsWireRule c.args.wire.now) c.in-Space.is h))),
    )
