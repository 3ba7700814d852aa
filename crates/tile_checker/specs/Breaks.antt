-- What breaks a rule.
use Rattle.std.specs.Prelude.{◌≡◌, ◌⊎◌, ℕ, ℤ, ◌≤ℤ◌, ◌<ℤ◌, ◌+ℤ◌, ◌-ℤ◌, ◌*ℤ◌, List, Contains, Option, Some, None}
use Rattle.or_geom.specs.declared.shape.Rect.{Rect}
use Rattle.or_geom.specs.declared.shape.Shape.{Shape}
use Rattle.or_geom.specs.Joined.{AreJoined}
use Rattle.or_geom.specs.Covered.{IsCovered}
use Rattle.or_geom.specs.Distance.{IsLeastDist2}
use Rattle.or_geom.specs.Gap.{IsGapBox}
use Rattle.tech_rules.specs.declared.tech.Rule.{Rule}
use Rattle.tech_rules.specs.declared.tech.Rule.TheVariants.{Width, Space, Enclose}
use Rattle.or_geom.specs.Containing.{HoldsRect}
use Rattle.shape_bins.specs.Layers.{rects_on, IsCoveredBy}

-- both sides of the box are at least so long
pub record IsAsWide (min : ℤ) (box : Rect) : Type 0 where
  pub wide : min ≤ℤ (box.x2 -ℤ box.x1)
  pub tall : min ≤ℤ (box.y2 -ℤ box.y1)

-- some box contains the rectangle, has both sides at least so long, and is covered
pub record HasWidth (rects : List Rect) (min : ℤ) (r : Rect) : Type 0 where
  pub box : Rect
  pub holds : HoldsRect box r
  pub as_wide : IsAsWide min box
  pub covered : IsCovered box rects

-- a width rule is broken by a shape of its layer that has no such box, covered by the layer
pub record BreaksWidth (layer : ℕ) (min : ℤ) (shapes : List Shape) (a : Shape) : Type 0 where
  pub on : a.layer ≡ layer
  pub narrow : HasWidth (rects_on layer shapes) min a.rect → ⊥

-- not joined, and nearer than the minimum
pub record AreNear (min : ℤ) (a b : Rect) : Type 0 where
  pub apart : AreJoined a b → ⊥
  pub distance : ℤ
  pub is : IsLeastDist2 a b distance
  pub near : distance <ℤ (min *ℤ min)

-- on one layer, which covers their gap box
pub record IsGapCovered (shapes : List Shape) (a b : Shape) : Type 0 where
  pub one_layer : a.layer ≡ b.layer
  pub gap : Rect
  pub is : IsGapBox a.rect b.rect gap
  pub covered : IsCoveredBy a.layer shapes gap

-- a space rule is broken by two shapes, one of each of its layers, that are near and whose gap isn't covered
pub record BreaksSpace (layer other : ℕ) (min : ℤ) (shapes : List Shape) (a b : Shape) : Type 0 where
  pub on : ((a.layer ≡ layer) × (b.layer ≡ other)) ⊎ ((a.layer ≡ other) × (b.layer ≡ layer))
  pub near : AreNear min a.rect b.rect
  pub bare : IsGapCovered shapes a b → ⊥

-- the rectangle, grown on all sides
pub record IsGrown (by : ℤ) (r grown : Rect) : Type 0 where
  pub left : grown.x1 ≡ r.x1 -ℤ by
  pub right : grown.x2 ≡ r.x2 +ℤ by
  pub low : grown.y1 ≡ r.y1 -ℤ by
  pub high : grown.y2 ≡ r.y2 +ℤ by

-- an enclose rule is broken by a shape of its layer that, grown by the minimum, none of the listed layers covers
pub record BreaksEnclose (layer : ℕ) (by : List ℕ) (min : ℤ) (shapes : List Shape) (a : Shape) : Type 0 where
  pub on : a.layer ≡ layer
  pub bare : (other : ℕ) (grown : Rect) → Contains by other → IsGrown min a.rect grown → IsCoveredBy other shapes grown → ⊥

-- the rule is broken by a shape alone, or by two
abbrev pub Breaks : Rule → List Shape → Shape → Option Shape → Type 0
Breaks (Width layer min) shapes a None = BreaksWidth layer min shapes a
Breaks (Width layer min) shapes a (Some b) = ⊥
Breaks (Space layer other min) shapes a None = ⊥
Breaks (Space layer other min) shapes a (Some b) = BreaksSpace layer other min shapes a b
Breaks (Enclose layer by min) shapes a None = BreaksEnclose layer by min shapes a
Breaks (Enclose layer by min) shapes a (Some b) = ⊥
