-- Rules and shapes have one report.
use Rattle.std.specs.Prelude.{◌≡◌, All, List}
use Rattle.or_geom.specs.declared.shape.Shape.{Shape}
use Rattle.or_geom.specs.Reachable.{AreReachable}
use Rattle.tech_rules.specs.declared.tech.Rule.{Rule}
use Rattle.tile_checker.specs.declared.violation.Violation.{Violation}
use Rattle.tile_checker.specs.Minimum.{HasMinimum}
use Rattle.tile_checker.specs.RuleReport.{IsReport}

-- two reports of the rules over the shapes are the same
abbrev pub ReportsAreUnique : Type 0
ReportsAreUnique = (rules : List Rule) (shapes : List Shape) (a b : List Violation) → IsReport rules shapes a → IsReport rules shapes b → a ≡ b

-- there is a report, where minimums and coordinates are ones that files may give
abbrev pub ReportsAreThere : Type 0
ReportsAreThere = (rules : List Rule) (shapes : List Shape) → All HasMinimum rules → AreReachable shapes → (report : List Violation) × IsReport rules shapes report
