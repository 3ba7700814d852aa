-- The report: all that breaks the rules, in order, each once.
use Rattle.std.specs.Prelude.{◌≡◌, List, [], ◌∷◌, slice_get, Contains, MatchOption, Option, Some, None}
use Rattle.std.specs.List.Sorted.{IsStrictlySortedBy}
use Rattle.std.specs.Ordering.{ordering_then, nat_cmp}
use Rattle.std.specs.declared.cmp.Ordering.{Ordering}
use Rattle.std.specs.declared.cmp.Ordering.TheVariants.{Less}
use Rattle.std.specs.Option.{option_cmp}
use Rattle.or_geom.specs.declared.shape.Shape.{Shape}
use Rattle.or_geom.specs.ShapeOrder.{shape_order}
use Rattle.tech_rules.specs.declared.tech.Rule.{Rule}
use Rattle.tile_checker.specs.declared.violation.Violation.{Violation}
use Rattle.tile_checker.specs.Breaks.{Breaks}

-- where there is a second shape, it is one of the shapes and comes after the first
abbrev pub IsLater : List Shape → Shape → Option Shape → Type 0
IsLater shapes a None = Unit {0}
IsLater shapes a (Some b) = Contains shapes b × (shape_order a b ≡ Less)

-- the rule of this number is broken by the first shape, or by the two
pub record IsViolation (rules : List Rule) (shapes : List Shape) (v : Violation) : Type 0 where
  pub rule : Rule
  pub numbered : slice_get rules v.rule ≡ Some rule
  pub first : Contains shapes v.first
  pub second : IsLater shapes v.first v.second
  pub breaks : Breaks rule shapes v.first v.second

-- by the rule's number, the first shape and the second
abbrev pub violation_order : Violation → Violation → Ordering
violation_order v w = ordering_then (nat_cmp v.rule w.rule) (ordering_then (shape_order v.first w.first) (option_cmp shape_order v.second w.second))

-- The list has all violations, in order, each once.
pub record IsReport (rules : List Rule) (shapes : List Shape) (violations : List Violation) : Type 0 where
  pub rises : IsStrictlySortedBy violation_order violations
  pub only : (v : Violation) → Contains violations v → IsViolation rules shapes v
  pub each : (v : Violation) → IsViolation rules shapes v → Contains violations v

-- the first entry of the report; none where the report is empty
abbrev pub IsFirstOfReport : List Rule → List Shape → Option Violation → Type 0
IsFirstOfReport rules shapes found = MatchOption found (IsReport rules shapes []) (λ first. (more : List Violation) × IsReport rules shapes (first ∷ more))
