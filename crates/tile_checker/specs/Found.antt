-- What the loops over the shapes find.
use Rattle.std.specs.Prelude.{◌≡◌, ◌⊎◌, ℕ, List, Contains}
use Rattle.or_geom.specs.declared.shape.Rect.{Rect}
use Rattle.or_geom.specs.declared.shape.Shape.{Shape}
use Rattle.or_geom.specs.Covered.{IsCovered}
use Rattle.or_geom.specs.Gap.{IsGapBox}
use Rattle.tech_rules.specs.declared.tech.Rule.{Rule}
use Rattle.tile_checker.specs.declared.violation.Violation.{Violation}
use Rattle.tile_checker.specs.declared.space.SpaceRule.{SpaceRule}
use Rattle.tile_checker.specs.Breaks.{AreNear, Breaks}
use Rattle.tile_checker.specs.RuleReport.{IsLater}

-- the gap of two shapes of one layer is covered by these rectangles
pub record IsGapCoveredIn (rects : List Rect) (a b : Shape) : Type 0 where
  pub one_layer : a.layer ≡ b.layer
  pub gap : Rect
  pub is : IsGapBox a.rect b.rect gap
  pub covered : IsCovered gap rects

-- one of the shapes lies on each of the rule's layers
abbrev pub AreOnLayersOf : SpaceRule → Shape → Shape → Type 0
AreOnLayersOf rule a b = ((a.layer ≡ rule.layer) × (b.layer ≡ rule.other)) ⊎ ((a.layer ≡ rule.other) × (b.layer ≡ rule.layer))

-- two shapes break a space rule, where the rectangles are those of its first layer
pub record IsSpaceFound (rule : SpaceRule) (rects : List Rect) (a b : Shape) : Type 0 where
  pub on : AreOnLayersOf rule a b
  pub near : AreNear rule.min.value a.rect b.rect
  pub bare : IsGapCoveredIn rects a b → ⊥

-- a violation of the rule of this number
pub record IsViolationOf (number : ℕ) (rule : Rule) (shapes : List Shape) (v : Violation) : Type 0 where
  pub numbered : v.rule ≡ number
  pub first : Contains shapes v.first
  pub second : IsLater shapes v.first v.second
  pub breaks : Breaks rule shapes v.first v.second
