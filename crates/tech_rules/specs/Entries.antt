-- Entries of a technology: what one table of an array says, such as a rule.
use Rattle.std.specs.Prelude.{ℕ, List, length, Result}
use Rattle.toml.specs.Data.{Data}
use Rattle.toml_keys.specs.Keys.{Section, item_section}
use Rattle.tech_rules.specs.declared.fault.TechFault.{TechFault}

-- what one table under the key says, after these entries
abbrev pub entry_after : {E : Type 0} → (Section TechFault → Result E TechFault) → Section TechFault → List ℕ → List E → Data → Result E TechFault
entry_after read document key before d = read (item_section document key (length before) d)
