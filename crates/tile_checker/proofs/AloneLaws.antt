-- Rules that are broken by a shape alone.
use Rattle.std.proofs.Common.{List, Some}
use Rattle.or_geom.specs.declared.shape.Shape.{Shape}
use Rattle.tech_rules.specs.declared.tech.Rule.{Rule}
use Rattle.tile_checker.specs.Breaks.{Breaks}

-- no two shapes break the rule
abbrev pub IsForOne : Rule → List Shape → Type 0
IsForOne rule shapes = (a b : Shape) → Breaks rule shapes a (Some b) → ⊥
