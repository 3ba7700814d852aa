use Rattle.std.proofs.Common.{◌≡◌, refl, ◌∙◌}
use Rattle.or_geom.proofs.GatheringLaws.{among_found}
use Rattle.cell_roles.specs.LeafRoles.{leaf_role_name}
use Rattle.tech_rules.specs.declared.tech.RoleName.{RoleName}
use Rattle.role_tables.proofs.read.names_cell.Goals as goal

pub returns-then-is : goal.returns-then-is
returns-then-is c = (
  λ _. among_found (λ (entry : RoleName). entry.role ≡ leaf_role_name c.args.role) c.args.entries.now c.loop-entry.entry-index c.entry-item.result
      c.loop-entry-test.true c.entry-item.is (c.if-is.ensures.0 refl ∙ c.as_bytes.ensures.value ∙ c.name.ensures),
  λ _. refl,
)
