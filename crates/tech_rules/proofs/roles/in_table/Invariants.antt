use Rattle.std.proofs.Common.{◌≡◌, [], drop, map, filter}
use Rattle.toml_keys.specs.Fault.{in_turn}
use Rattle.toml_keys.specs.Keys.{has_key}
use Rattle.toml_keys.specs.Section.{section_of}
use Rattle.tech_rules.specs.Fault.{tech_faults}
use Rattle.tech_rules.proofs.roles.in_table.Given as goal

abbrev pub invariant-loop-role : goal.invariant-loop-role
invariant-loop-role g l =
    in_turn (λ _ role. g.R.OfRole.of_role (section_of tech_faults l.section) role) l.found (filter (λ role. has_key (section_of tech_faults l.section) role) (map (λ t. t.now) (drop l.role-index l.names)))
    ≡ in_turn (λ _ role. g.R.OfRole.of_role (section_of tech_faults l.section) role) [] (filter (λ role. has_key (section_of tech_faults l.section) role) (map (λ t. t.now) l.names))
