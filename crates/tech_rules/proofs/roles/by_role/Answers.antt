use Rattle.std.proofs.Common.{◌≡◌, Bool, true, [], Result, Ok, sym, ◌∙◌}
use Rattle.std.specs.Prelude.{if◌then◌else◌}
use Rattle.toml_keys.specs.Fault.{◌>>=◌, MatchesUnless}
use Rattle.toml_keys.specs.Keys.{has_key, section_under}
use Rattle.toml_keys.specs.Section.{section_of}
use Rattle.tech_rules.specs.declared.fault.TechFault.{TechFault}
use Rattle.tech_rules.specs.declared.fault.TechFault.TheVariants.{Memory}
use Rattle.tech_rules.specs.Fault.{tech_faults}
use Rattle.tech_rules.specs.Roles.{of_roles, role_names}
use Rattle.tech_rules.proofs.roles.by_role.Goals as goal

-- what is said of a table that is there
of_table : {A B : Type 0} (has : Bool) (found : Result A TechFault) (f : A → Result B TechFault) (none : Result B TechFault) (table : A) (result : Result B TechFault)
    → has ≡ true → found ≡ Ok table → MatchesUnless Memory result (f table)
    → MatchesUnless Memory result (if has then (found >>= f) else none)
of_table has found f none table result is made given = rw (is, made) given

pub returns : goal.returns
returns g c =
    let document = section_of tech_faults c.args.document.now in
    let key = c.args.key.now in
    of_table (has_key document key) (section_under document key) (λ r. of_roles g.R.OfRole.of_role r role_names) (Ok []) _ _
    (sym c.has.ensures ∙ c.if-not-has.false) c.in_ok-section.ensures c.in_table.ensures
