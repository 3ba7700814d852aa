-- Open and shut sides, by the strips along them.
use Rattle.std.proofs.Common.{◌≡◌, ◌↔◌, ℕ, ℤ, pos, ◌<ℤ◌, ◌+ℤ◌, List, arith, Bool, true, false, not, refl}
use Rattle.std.specs.Prelude.{Option, None, Some, MatchOption, is_some}
use Rattle.std.specs.Int.{int_max}
use Rattle.std.proofs.lemmas.Int.{ints, clamps}
use Rattle.or_geom.specs.declared.shape.Point.{Point}
use Rattle.or_geom.specs.declared.shape.Rect.{Rect}
use Rattle.or_geom.specs.declared.shape.Shape.{Shape}
use Rattle.or_geom.specs.Covered.{IsCovered}
use Rattle.or_geom.proofs.ListLaws.{contained_at}
use Rattle.shape_bins.specs.declared.query.Query.TheVariants.{Overlaps}
use Rattle.shape_bins.specs.Hits.{IsHit, NoHitFrom}
use Rattle.shape_bins.specs.Layers.{rects_on}
use Rattle.shape_bins.specs.Meets.{Overlap}
use Rattle.shape_bins.proofs.CoverLaws.{shape_over}
use Rattle.label_binding.proofs.PlaceLaws.{at_contained}
use Rattle.tech_rules.specs.declared.tech.Tech.{Tech}
use Rattle.tech_rules.specs.Touch.{ShareArea}
use Rattle.drawn_devices.specs.declared.drawn.Flow.{Flow}
use Rattle.drawn_devices.specs.declared.drawn.Flow.TheVariants.{Across, Upward}
use Rattle.drawn_devices.specs.declared.drawn.Side.{Side}
use Rattle.drawn_devices.specs.declared.drawn.Side.TheVariants.{Left, Right, Below, Above}
use Rattle.drawn_devices.specs.CutShapes.{AreCutShapes}
use Rattle.drawn_devices.specs.Diffusion.{IsActive}
use Rattle.drawn_devices.specs.Sides.{IsColumn, IsRow, IsStrip, IsOpen, IsShut}
use Rattle.drawn_devices.proofs.LayerLaws.{lies_by}

-- rectangles that overlap have a unit cell in common
pub overlap_shares : (a b : Rect) → Overlap a b → ShareArea a b
overlap_shares a b o =
    let wide_a : a.x1 <ℤ a.x2 = a.wide in
    let tall_a : a.y1 <ℤ a.y2 = a.tall in
    let wide_b : b.x1 <ℤ b.x2 = b.wide in
    let tall_b : b.y1 <ℤ b.y2 = b.tall in
    record {
      x = int_max a.x1 b.x1;
      y = int_max a.y1 b.y1;
      in_a = record { left = omega (arith, ints, clamps); right = omega (arith, ints, clamps, o.right); low = omega (arith, ints, clamps); high = omega (arith, ints, clamps, o.high) };
      in_b = record { left = omega (arith, ints, clamps); right = omega (arith, ints, clamps, o.left); low = omega (arith, ints, clamps); high = omega (arith, ints, clamps, o.low) };
    }

pub shares_overlap : (a b : Rect) → ShareArea a b → Overlap a b
shares_overlap a b s = record {
  left = omega (arith, ints, s.in_a.left, s.in_b.right);
  right = omega (arith, ints, s.in_b.left, s.in_a.right);
  low = omega (arith, ints, s.in_a.low, s.in_b.high);
  high = omega (arith, ints, s.in_b.low, s.in_a.high);
}

-- the columns and rows beside a box
pub strip_left : (x : ℤ) (area r : Rect) → IsColumn x area r → x +ℤ pos 1 ≡ area.x1 → IsStrip Left area r
strip_left x area r i at cell = (
  λ h. (omega (arith, ints, h.left, h.right, i.left, i.right), record { from = omega (arith, ints, h.low, i.low); below = omega (arith, ints, h.high, i.high) }),
  λ a. record { left = omega (arith, ints, a.0, i.left); right = omega (arith, ints, a.0, i.right); low = omega (arith, ints, a.1.from, i.low); high = omega (arith, ints, a.1.below, i.high) },
)

pub strip_right : (area r : Rect) → IsColumn area.x2 area r → IsStrip Right area r
strip_right area r i cell = (
  λ h. (omega (arith, ints, h.left, h.right, i.left, i.right), record { from = omega (arith, ints, h.low, i.low); below = omega (arith, ints, h.high, i.high) }),
  λ a. record { left = omega (arith, ints, a.0, i.left); right = omega (arith, ints, a.0, i.right); low = omega (arith, ints, a.1.from, i.low); high = omega (arith, ints, a.1.below, i.high) },
)

pub strip_below : (y : ℤ) (area r : Rect) → IsRow y area r → y +ℤ pos 1 ≡ area.y1 → IsStrip Below area r
strip_below y area r i at cell = (
  λ h. (omega (arith, ints, h.low, h.high, i.low, i.high), record { from = omega (arith, ints, h.left, i.left); below = omega (arith, ints, h.right, i.right) }),
  λ a. record { left = omega (arith, ints, a.1.from, i.left); right = omega (arith, ints, a.1.below, i.right); low = omega (arith, ints, a.0, i.low); high = omega (arith, ints, a.0, i.high) },
)

pub strip_above : (area r : Rect) → IsRow area.y2 area r → IsStrip Above area r
strip_above area r i cell = (
  λ h. (omega (arith, ints, h.low, h.high, i.low, i.high), record { from = omega (arith, ints, h.left, i.left); below = omega (arith, ints, h.right, i.right) }),
  λ a. record { left = omega (arith, ints, a.1.from, i.left); right = omega (arith, ints, a.1.below, i.right); low = omega (arith, ints, a.0, i.low); high = omega (arith, ints, a.0, i.high) },
)

-- every cell of the strip lies on the cut layer
pub open_by_strip : (tech : Tech) (shapes cut : List Shape) (layer : ℕ) (area strip : Rect) (side : Side) → AreCutShapes tech.devices shapes cut → IsActive tech.devices layer → IsStrip side area strip → IsCovered strip (rects_on layer cut) ↔ IsOpen tech shapes layer area side
open_by_strip tech shapes cut layer area strip side are active strips = (
  λ covered cell along. (are.diffused layer cell active).0 (covered cell.x cell.y ((strips cell).1 along)),
  λ opens x y h. let cell : Point = record { x = x; y = y } in (are.diffused layer cell active).1 (opens cell ((strips cell).0 h)),
)

-- no shape of the cut layer shares area with the strip
pub none_shut : (tech : Tech) (shapes cut : List Shape) (layer : ℕ) (area strip : Rect) (side : Side) → AreCutShapes tech.devices shapes cut → IsActive tech.devices layer → IsStrip side area strip → NoHitFrom cut layer (Overlaps strip) 0
    → IsShut tech shapes layer area side
none_shut tech shapes cut layer area strip side are active strips none cell along diffuse =
    let over = shape_over layer cut cell.x cell.y ((are.diffused layer cell active).1 diffuse) in
    let share : ShareArea over.shape.rect strip = record { x = cell.x; y = cell.y; in_a = over.holds; in_b = (strips cell).1 along } in
    none over.there.0 (omega arith) (record { shape = over.shape; there = at_contained cut over.shape over.there; on = over.on; fits = shares_overlap over.shape.rect strip share })

-- one does
pub some_not_shut : (tech : Tech) (shapes cut : List Shape) (layer : ℕ) (area strip : Rect) (side : Side) (place : ℕ) → AreCutShapes tech.devices shapes cut → IsActive tech.devices layer → IsStrip side area strip → IsHit cut layer (Overlaps strip) place
    → IsShut tech shapes layer area side → ⊥
some_not_shut tech shapes cut layer area strip side place are active strips hit shut =
    let share = overlap_shares hit.shape.rect strip hit.fits in
    let cell : Point = record { x = share.x; y = share.y } in
    shut cell ((strips cell).0 share.in_b) ((are.diffused layer cell active).0 (lies_by cut layer cell hit.shape (contained_at cut place hit.shape hit.there) hit.on share.in_a))

pub shut_by_strip : (tech : Tech) (shapes cut : List Shape) (layer : ℕ) (area strip : Rect) (side : Side) (found : Option ℕ) (shut : Bool) → AreCutShapes tech.devices shapes cut → IsActive tech.devices layer → IsStrip side area strip
    → MatchOption found (NoHitFrom cut layer (Overlaps strip) 0) (IsHit cut layer (Overlaps strip)) → is_some found ≡ not shut → (shut ≡ true) ↔ IsShut tech shapes layer area side
shut_by_strip tech shapes cut layer area strip side None true are active strips none is = (λ yes. none_shut tech shapes cut layer area strip side are active strips none, λ s. refl)
shut_by_strip tech shapes cut layer area strip side None false are active strips none is = absurd cc
shut_by_strip tech shapes cut layer area strip side (Some place) true are active strips hit is = absurd cc
shut_by_strip tech shapes cut layer area strip side (Some place) false are active strips hit is = (λ yes. absurd cc, λ s. absurd (some_not_shut tech shapes cut layer area strip side place are active strips hit s))

-- neither flow
pub no_flow : (P : Flow → Type 0) → (P Across → ⊥) → (P Upward → ⊥) → (flow : Flow) → P flow → ⊥
no_flow P across upward Across h = across h
no_flow P across upward Upward h = upward h
