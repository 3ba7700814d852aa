use Rattle.std.specs.Str.{bytes_eq}
use Rattle.tech_rules.specs.declared.tech.RoleName.{RoleName}
use Rattle.kit_rules.proofs.FindLaws.{IsLeft}
use Rattle.kit_rules.proofs.layout.cell_named_for.Given as goal

abbrev pub invariant-loop-entry : goal.invariant-loop-entry
invariant-loop-entry l = IsLeft (λ (entry : RoleName). bytes_eq entry.role l.name) l.roles l.entry-index
