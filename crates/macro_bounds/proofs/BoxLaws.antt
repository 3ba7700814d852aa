-- Boxes and cuts on the layers of wires, within a bound.
use Rattle.std.proofs.Common.{◌≡◌, ◌⊎◌, inl, inr, ℕ, ◌<◌, ◌≤◌, ℤ, pos, ◌+ℤ◌, ◌≤ℤ◌, List, [], ◌∷◌, length, sym, subst, arith}
use Rattle.std.specs.Prelude.{Contains, slice_index}
use Rattle.std.specs.List.{AllByRecursion}
use Rattle.std.proofs.lemmas.Int.{ints}
use Rattle.std.proofs.lemmas.List.{get_or_default}
use Rattle.std.proofs.lemmas.List.Elements.{All-contains}
use Rattle.or_geom.specs.declared.shape.Shape.{Shape}
use Rattle.or_geom.proofs.ListLaws.{contains_first, contains_later}
use Rattle.tech_rules.specs.declared.tech.Layer.{Layer}
use Rattle.tech_rules.specs.declared.tech.Wire.{Wire}
use Rattle.tech_rules.specs.Facts.{IsWire, IsLayerIndex}
use Rattle.wire_drawing.specs.Drawing.{IsBox, IsVia}
use Rattle.tech_rules.specs.WireRules.{margin}
use Rattle.tech_rules.proofs.WireLaws.{two_margins, margin_positive}
use Rattle.macro_bounds.specs.Near.{IsCoordinate, IsWireShape, IsSevenLayerWire, ListedShapesAreNear, GreaterBoundsHold, NearShapesHaveLayers}

-- what holds of each that stands in a list holds of all
pub all_listed : {X : Type 0} (P : X → Type 0) (xs : List X) → ((x : X) → Contains xs x → P x) → AllByRecursion P xs
all_listed P [] each = tt
all_listed P (x ∷ xs) each = (each x (contains_first x xs), all_listed P xs (λ y there. each y (contains_later x xs y there)))

-- layers

item_at : (xs : List ℕ) (k : ℕ) → k < length xs → Contains xs (slice_index xs k)
item_at xs k lt = (k, lt, get_or_default xs k (slice_index xs k) 0 lt)

pub metal : (wire : Wire) (k : ℕ) → IsSevenLayerWire wire → k < 4 → Contains wire.metals (slice_index wire.metals k) ⊎ Contains wire.cuts (slice_index wire.metals k)
metal wire k w lt = let four = w.four in inl (item_at wire.metals k (omega (arith, four, lt)))

cut : (wire : Wire) (k : ℕ) → IsSevenLayerWire wire → k < 3 → Contains wire.metals (slice_index wire.cuts k) ⊎ Contains wire.cuts (slice_index wire.cuts k)
cut wire k w lt = let three = w.three in inr (item_at wire.cuts k (omega (arith, three, lt)))

-- the four sides of a box
pub record AreSides (most : ℕ) (x1 y1 x2 y2 : ℤ) : Type 0 where
  pub left : IsCoordinate most x1
  pub low : IsCoordinate most y1
  pub right : IsCoordinate most x2
  pub high : IsCoordinate most y2

pub box_near : (wire : Wire) (most layer : ℕ) (x1 y1 x2 y2 : ℤ) (s : Shape) → Contains wire.metals layer ⊎ Contains wire.cuts layer → AreSides most x1 y1 x2 y2 → IsBox layer x1 y1 x2 y2 s → IsWireShape wire most s
box_near wire most layer x1 y1 x2 y2 s on near box = record {
  on = subst (λ (l : ℕ). Contains wire.metals l ⊎ Contains wire.cuts l) (sym box.on) on;
  left = subst (IsCoordinate most) (sym box.left) near.left;
  low = subst (IsCoordinate most) (sym box.low) near.low;
  right = subst (IsCoordinate most) (sym box.right) near.right;
  high = subst (IsCoordinate most) (sym box.high) near.high;
}

-- a coordinate that leaves room for a wire's width
pub record LeavesWidth (most : ℕ) (z : ℤ) : Type 0 where
  pub above : pos 0 ≤ℤ (z +ℤ pos most)
  pub below : (z +ℤ pos 65536) ≤ℤ pos most

pub roomy : (most : ℕ) (z : ℤ) → LeavesWidth most z → IsCoordinate most z
roomy most z room = let low = room.above in let high = room.below in record { above = low; below = omega (arith, ints, high) }

pub wider : (most : ℕ) (z w : ℤ) → LeavesWidth most z → pos 1 ≤ℤ w → w ≤ℤ pos 65536 → IsCoordinate most (z +ℤ w)
wider most z w room from to = let low = room.above in let high = room.below in record { above = omega (arith, ints, low, from); below = omega (arith, ints, high, to) }

behind_margin : (most : ℕ) (z w m c : ℤ) → LeavesWidth most z → w ≡ c +ℤ (m +ℤ m) → pos 1 ≤ℤ m → pos 1 ≤ℤ c → w ≤ℤ pos 65536 → IsCoordinate most (z +ℤ m) × IsCoordinate most ((z +ℤ m) +ℤ c)
behind_margin most z w m c room parts from some to =
    let low = room.above in
    let high = room.below in
    (record { above = omega (arith, ints, low, from); below = omega (arith, ints, high, parts, some, from, to) }, record { above = omega (arith, ints, low, from, some); below = omega (arith, ints, high, parts, from, to) })

-- a cut
pub via_near : (wire : Wire) (most k : ℕ) (x y : ℤ) (s : Shape) → IsSevenLayerWire wire → k < 3 → LeavesWidth most x → LeavesWidth most y → IsVia wire k x y s → IsWireShape wire most s
via_near wire most k x y s w lt room_x room_y is =
    let parts = two_margins wire w.sizes in
    let from = margin_positive wire w.sizes in
    let a = behind_margin most x wire.width (margin wire) wire.cut room_x parts from w.sizes.cut.from w.sizes.width.to in
    let b = behind_margin most y wire.width (margin wire) wire.cut room_y parts from w.sizes.cut.from w.sizes.width.to in
    box_near wire most (slice_index wire.cuts k) (x +ℤ margin wire) (y +ℤ margin wire) ((x +ℤ margin wire) +ℤ wire.cut) ((y +ℤ margin wire) +ℤ wire.cut) s (cut wire k w lt) (record { left = a.0; low = b.0; right = a.1; high = b.1 }) is

-- lists of near shapes

pub listed_shapes_are_near : ListedShapesAreNear
listed_shapes_are_near wire most shapes each = all_listed (IsWireShape wire most) shapes each

coordinate_within : (few most : ℕ) (z : ℤ) → few ≤ most → IsCoordinate few z → IsCoordinate most z
coordinate_within few most z le near = let low = near.above in let high = near.below in record { above = omega (arith, ints, le, low); below = omega (arith, ints, le, high) }

pub greater_bounds_hold : GreaterBoundsHold
greater_bounds_hold wire few most s le near = record {
  on = near.on;
  left = coordinate_within few most s.rect.x1 le near.left;
  low = coordinate_within few most s.rect.y1 le near.low;
  right = coordinate_within few most s.rect.x2 le near.right;
  high = coordinate_within few most s.rect.y2 le near.high;
}

pub on_layer : (layers : List Layer) (wire : Wire) (layer : ℕ) → IsWire layers wire → Contains wire.metals layer ⊎ Contains wire.cuts layer → layer < length layers
on_layer layers wire layer is (inl metal) = All-contains (IsLayerIndex layers) wire.metals layer is.metals metal
on_layer layers wire layer is (inr cut) = All-contains (IsLayerIndex layers) wire.cuts layer is.cuts cut

pub near_shapes_have_layers : NearShapesHaveLayers
near_shapes_have_layers layers wire most [] is near = tt
near_shapes_have_layers layers wire most (s ∷ shapes) is near = (on_layer layers wire s.layer is near.0.on, near_shapes_have_layers layers wire most shapes is near.1)
