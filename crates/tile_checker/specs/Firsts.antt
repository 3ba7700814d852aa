-- What is found from one first shape.
use Rattle.std.specs.Prelude.{◌≡◌, ◌⊎◌, ℕ, ◌<◌, ℤ, ◌≤ℤ◌, List, Contains, slice_get, length, Some}
use Rattle.or_geom.specs.declared.shape.Rect.{Rect}
use Rattle.or_geom.specs.declared.shape.Shape.{Shape}
use Rattle.tech_rules.specs.declared.tech.Rule.{Rule}
use Rattle.shape_bins.specs.declared.clear.ClearBox.{ClearBox}
use Rattle.shape_bins.specs.Clear.{HasClearance}
use Rattle.shape_bins.specs.Hits.{IsNearShape}
use Rattle.shape_bins.specs.Layers.{IsCoveredBy}
use Rattle.or_geom.specs.Containing.{HoldsRect}
use Rattle.tile_checker.specs.declared.violation.Violation.{Violation}
use Rattle.tile_checker.specs.declared.space.SpaceRule.{SpaceRule}
use Rattle.tile_checker.specs.Breaks.{AreNear}
use Rattle.tile_checker.specs.Found.{AreOnLayersOf, IsViolationOf}
use Rattle.tile_checker.specs.declared.first.First.{First}

-- the shape stands at its place
abbrev pub IsAt : List Shape → First → Type 0
IsAt shapes first = slice_get shapes first.place ≡ Some first.shape

-- a violation of the rule of this number, whose first shape is this one
pub record IsFrom (number : ℕ) (rule : Rule) (shapes : List Shape) (first : First) (v : Violation) : Type 0 where
  pub of : v.first ≡ first.shape
  pub violation : IsViolationOf number rule shapes v

-- the layer whose shapes may break a space rule together with those of this layer
abbrev pub IsPartner : SpaceRule → ℕ → ℕ → Type 0
IsPartner rule layer partner = ((layer ≡ rule.layer) × (partner ≡ rule.other)) ⊎ ((layer ≡ rule.other) × (partner ≡ rule.layer))

-- no such layer but lesser ones, whose shapes come before those of this layer
abbrev pub HasNoPartner : SpaceRule → ℕ → Type 0
HasNoPartner rule layer = (partner : ℕ) → IsPartner rule layer partner → partner < layer

-- a shape stands at the place that lies with this one on the rule's layers
pub record IsPartnerAt (rule : SpaceRule) (shapes : List Shape) (a : Shape) (place : ℕ) : Type 0 where
  pub shape : Shape
  pub there : slice_get shapes place ≡ Some shape
  pub on : AreOnLayersOf rule a shape

abbrev pub ArePartners : SpaceRule → List Shape → Shape → List ℕ → Type 0
ArePartners rule shapes a places = (place : ℕ) → Contains places place → IsPartnerAt rule shapes a place

abbrev pub ArePlaces : List Shape → List ℕ → Type 0
ArePlaces shapes places = (place : ℕ) → Contains places place → place < length shapes

-- a box that the shape's layer covers and that holds the shape
pub record IsFilledAround (shapes : List Shape) (a : Shape) (box : Rect) : Type 0 where
  pub holds : HoldsRect box a.rect
  pub covered : IsCoveredBy a.layer shapes box

-- such a box with its clearance
pub record IsClearAround (shapes : List Shape) (a : Shape) (box : ClearBox) : Type 0 where
  pub around : IsFilledAround shapes a box.rect
  pub clear : HasClearance shapes a.layer box.rect box.clearance

-- the shape lies in such a box whose clearance isn't less than the minimum
pub record LiesClear (min : ℤ) (shapes : List Shape) (a : Shape) : Type 0 where
  pub box : ClearBox
  pub around : IsClearAround shapes a box
  pub enough : min ≤ℤ box.clearance

-- two shapes of one layer lie in a box that the layer covers
pub record LieInOneBox (shapes : List Shape) (a b : Shape) : Type 0 where
  pub one_layer : a.layer ≡ b.layer
  pub box : Rect
  pub first : IsFilledAround shapes a box
  pub second : HoldsRect box b.rect

-- it can't be that two shapes are nearer than the minimum and lie in no such box
abbrev pub AreHarmless : ℤ → List Shape → Shape → Shape → Type 0
AreHarmless min shapes a b = AreNear min a.rect b.rect → (LieInOneBox shapes a b → ⊥) → ⊥

-- shapes of the layer that meet the area stand at the places; any that are left out are harmless
pub record ArePartnersIn (min : ℤ) (shapes : List Shape) (layer : ℕ) (a : Shape) (area : Rect) (places : List ℕ) : Type 0 where
  pub only : (place : ℕ) → Contains places place → IsNearShape shapes layer area place
  pub each : (place : ℕ) (b : Shape) → slice_get shapes place ≡ Some b → IsNearShape shapes layer area place → Contains places place ⊎ AreHarmless min shapes a b
