-- Bounds of what is measured.
use Rattle.std.specs.Prelude.{ℤ, pos, ◌≤ℤ◌}
use Rattle.tech_rules.specs.declared.tech.Rule.{Rule}
use Rattle.tech_rules.specs.declared.tech.Rule.TheVariants.{Width, Space, Enclose}

-- what the minimum of a rule may be
pub record IsMinimum (min : ℤ) : Type 0 where
  pub positive : pos 1 ≤ℤ min
  pub bounded : min ≤ℤ pos 1048576

-- the rule's minimum is one
abbrev pub HasMinimum : Rule → Type 0
HasMinimum (Width layer min) = IsMinimum min
HasMinimum (Space layer other min) = IsMinimum min
HasMinimum (Enclose layer by min) = IsMinimum min
