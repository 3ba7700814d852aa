-- Tiles of the plane, and which of them owns a violation.
use Rattle.std.specs.Prelude.{◌≡◌, ◌⊎◌, ℕ, ℤ, pos, ◌^◌, ◌<◌, ◌≤ℤ◌, ◌<ℤ◌, ◌-ℤ◌, List, [], ◌∷◌, Contains, slice_get, Option, Some, None}
use Rattle.std.specs.Int.{int_max}
use Rattle.or_geom.specs.declared.shape.Point.{Point}
use Rattle.or_geom.specs.declared.shape.Rect.{Rect}
use Rattle.or_geom.specs.declared.shape.Shape.{Shape}
use Rattle.or_geom.specs.Covered.{HasCell, HasCellInSome, IsCovered}
use Rattle.or_geom.specs.Distance.{IsReachable}
use Rattle.tech_rules.specs.declared.tech.Rule.{Rule}
use Rattle.tech_rules.specs.declared.tech.Rule.TheVariants.{Width, Space, Enclose}
use Rattle.shape_bins.specs.Layers.{rects_on}
use Rattle.shape_bins.specs.Meets.{Meet}
use Rattle.tile_checker.specs.declared.violation.Violation.{Violation}
use Rattle.tile_checker.specs.declared.space.SpaceRule.{SpaceRule}
use Rattle.tile_checker.specs.declared.first.First.{First}
use Rattle.tile_checker.specs.Breaks.{Breaks}
use Rattle.tile_checker.specs.Frame.{point}
use Rattle.tile_checker.specs.RuleReport.{IsLater, IsViolation}
use Rattle.tile_checker.specs.Found.{IsSpaceFound, IsViolationOf}
use Rattle.tile_checker.specs.Firsts.{IsFrom, ArePlaces}

abbrev pub minimum : Rule → ℤ
minimum (Width layer min) = min
minimum (Space layer other min) = min
minimum (Enclose layer by min) = min

-- the lower left corner of what the first shape, grown by the minimum, has in common with the second; of the first shape where there is no second
abbrev pub corner : ℤ → Shape → Option Shape → Point
corner min a None = point a.rect.x1 a.rect.y1
corner min a (Some b) = point (int_max (a.rect.x1 -ℤ min) b.rect.x1) (int_max (a.rect.y1 -ℤ min) b.rect.y1)

-- a tile owns what breaks a rule if it has this corner: its left and lower sides belong to it, its right and upper sides to the next tiles
abbrev pub Owns : Rect → Rule → Shape → Option Shape → Type 0
Owns tile rule a b = HasCell tile (corner (minimum rule) a b).x (corner (minimum rule) a b).y

-- a unit cell lies in no two of the rectangles
abbrev pub AreDisjoint : List Rect → Type 0
AreDisjoint [] = Unit {0}
AreDisjoint (t ∷ ts) = ((x y : ℤ) → HasCell t x y → HasCellInSome ts x y → ⊥) × AreDisjoint ts

-- the area has the unit cells at the shapes' lower left corners
abbrev pub HasCorners : Rect → List Shape → Type 0
HasCorners area shapes = (s : Shape) → Contains shapes s → HasCell area s.rect.x1 s.rect.y1

-- rectangles that cover the area and are apart
pub record IsTiling (area : Rect) (tiles : List Rect) : Type 0 where
  pub covered : IsCovered area tiles
  pub apart : AreDisjoint tiles
  pub reach : (t : Rect) → Contains tiles t → IsReachable t

-- tiles over an area with the shapes' lower left corners
pub record AreTiles (shapes : List Shape) (tiles : List Rect) : Type 0 where
  pub area : Rect
  pub corners : HasCorners area shapes
  pub tiling : IsTiling area tiles

-- what a tile's side may be
pub record IsTileSide (side : ℤ) : Type 0 where
  pub positive : pos 1 ≤ℤ side
  pub bounded : side ≤ℤ pos (2 ^ 41)

-- rows of cells of the area
pub record AreCellRows (area : Rect) (low high : ℤ) : Type 0 where
  pub from : area.y1 ≤ℤ low
  pub some : low <ℤ high
  pub to : high ≤ℤ area.y2

-- Tiles were added that have the area's cells in these rows, and no cells of other rows. All are apart if those before lie below.
pub record IsRowAdded (area : Rect) (low high : ℤ) (old new : List Rect) : Type 0 where
  pub kept : (x y : ℤ) → HasCellInSome old x y → HasCellInSome new x y
  pub covered : (x y : ℤ) → HasCell area x y → low ≤ℤ y → y <ℤ high → HasCellInSome new x y
  pub only : (x y : ℤ) → HasCellInSome new x y → HasCellInSome old x y ⊎ (y <ℤ high)
  pub apart : ((x y : ℤ) → HasCellInSome old x y → y <ℤ low) → AreDisjoint old → AreDisjoint new
  pub reach : ((t : Rect) → Contains old t → IsReachable t) → (t : Rect) → Contains new t → IsReachable t

-- a violation of the rule of this number that the tile owns
pub record IsViolationIn (number : ℕ) (rule : Rule) (shapes : List Shape) (tile : Rect) (v : Violation) : Type 0 where
  pub violation : IsViolationOf number rule shapes v
  pub owned : Owns tile rule v.first v.second

-- of one of the rules
pub record IsFoundIn (rules : List Rule) (shapes : List Shape) (tile : Rect) (v : Violation) : Type 0 where
  pub violation : IsViolation rules shapes v
  pub owned : Owns tile violation.rule v.first v.second

-- a violation from this first shape that the tile owns
pub record IsFromIn (number : ℕ) (rule : Rule) (shapes : List Shape) (tile : Rect) (first : First) (v : Violation) : Type 0 where
  pub from : IsFrom number rule shapes first v
  pub owned : Owns tile rule v.first v.second

-- from the first shape at this place
pub record IsFromPlace (number : ℕ) (rule : Rule) (shapes : List Shape) (tile : Rect) (place : ℕ) (v : Violation) : Type 0 where
  pub at : slice_get shapes place ≡ Some v.first
  pub is : IsViolationIn number rule shapes tile v

-- the place of a shape stands in the list
pub record IsShapeListed (shapes : List Shape) (places : List ℕ) (a : Shape) : Type 0 where
  pub place : ℕ
  pub among : Contains places place
  pub there : slice_get shapes place ≡ Some a

-- The first shapes of all that breaks the rule and the tile owns stand at some of the places. Of two shapes the first is the one that comes before the other.
pub record AreFirstPlaces (rule : Rule) (shapes : List Shape) (tile : Rect) (places : List ℕ) : Type 0 where
  pub inside : ArePlaces shapes places
  pub each : (a : Shape) (b : Option Shape) → Contains shapes a → IsLater shapes a b → Breaks rule shapes a b → Owns tile rule a b → IsShapeListed shapes places a

-- what meets the rectangle so that the lower left corner of what both share lies in the tile meets the part as well
abbrev pub IsPartIn : Rect → Rect → Rect → Type 0
IsPartIn tile rect part = (b : Rect) → Meet b rect → HasCell tile (int_max rect.x1 b.x1) (int_max rect.y1 b.y1) → Meet b part

-- the shape at a later place breaks the rule together with the first, the tile owns this, and it is their violation
pub record IsPairAt (rule : SpaceRule) (shapes : List Shape) (tile : Rect) (first : First) (place : ℕ) (v : Violation) : Type 0 where
  pub second : Shape
  pub there : slice_get shapes place ≡ Some second
  pub later : first.place < place
  pub is : v ≡ record { rule = rule.number; first = first.shape; second = Some second }
  pub found : IsSpaceFound rule (rects_on rule.layer shapes) first.shape second
  pub owned : HasCell tile (corner rule.min.value first.shape (Some second)).x (corner rule.min.value first.shape (Some second)).y
