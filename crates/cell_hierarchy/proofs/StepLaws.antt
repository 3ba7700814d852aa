-- Steps of one length that lead from a short coordinate to another, and some of them.
use Rattle.std.proofs.Common.{◌≡◌, ℕ, zero, suc, ◌+◌, ◌-◌, ◌<◌, ◌≤◌, ◌^◌, ℤ, pos, negsuc, ◌+ℤ◌, ◌*ℤ◌, ◌≤ℤ◌, w32, w64, FitsSigned, to_z, of_z, sym, ap, subst, ◌∙◌, arith}
use Rattle.std.proofs.lemmas.Int.{ints, to_z-of_z}
use Rattle.or_geom.specs.declared.shape.Point.{Point}
use Rattle.or_geom.specs.declared.place.Place.{Place}
use Rattle.or_geom.specs.Place.{IsWithin, IsNearPoint}
use Rattle.or_geom.proofs.PlaceLaws.{same_point}
use Rattle.cell_hierarchy.specs.Grid.{IsShortWay, IsWritableGrid, IsSpotOf, place_in}
use Rattle.cell_hierarchy.specs.declared.grid.ItemGrid.{ItemGrid}
use Rattle.cell_hierarchy.specs.declared.grid.Spot.{Spot}

more : (c : ℕ) (z : ℤ) → pos (suc c) *ℤ z ≡ z +ℤ (pos c *ℤ z)
more c z = omega (arith, ints)

none : (z : ℤ) → pos 0 *ℤ z ≡ pos 0
none z = omega (arith, ints)

rises : (c : ℕ) (z : ℤ) → pos 0 ≤ℤ z → pos 0 ≤ℤ (pos c *ℤ z)
rises zero z up = let n = none z in omega (arith, ints)
rises (suc c) z up = let h = rises c z up in let m = more c z in omega (arith, ints)

falls : (c : ℕ) (z : ℤ) → z ≤ℤ pos 0 → (pos c *ℤ z) ≤ℤ pos 0
falls zero z down = let n = none z in omega (arith, ints)
falls (suc c) z down = let h = falls c z down in let m = more c z in omega (arith, ints)

both : (c d : ℕ) (z : ℤ) → pos (c + d) *ℤ z ≡ (pos c *ℤ z) +ℤ (pos d *ℤ z)
both zero d z = let n = none z in omega (arith, ints)
both (suc c) d z = let h = both c d z in let m = more c z in let k = more (c + d) z in omega (arith, ints)

-- the way of some of the steps, and what it is a part of
record IsPart (at way whole : ℤ) : Type 0 where
  pub above : pos 0 ≤ℤ (way +ℤ pos (2 ^ 32))
  pub below : way ≤ℤ pos (2 ^ 32)
  pub short : FitsSigned w32 (at +ℤ way)

up_part : (at way rest whole : ℤ) → whole ≡ way +ℤ rest → pos 0 ≤ℤ way → pos 0 ≤ℤ rest → FitsSigned w32 at → FitsSigned w32 (at +ℤ whole) → IsPart at way whole
up_part at way rest whole e a b f g = record { above = omega (arith, ints); below = omega (arith, ints); short = omega (arith, ints) }

down_part : (at way rest whole : ℤ) → whole ≡ way +ℤ rest → way ≤ℤ pos 0 → rest ≤ℤ pos 0 → FitsSigned w32 at → FitsSigned w32 (at +ℤ whole) → IsPart at way whole
down_part at way rest whole e a b f g = record { above = omega (arith, ints); below = omega (arith, ints); short = omega (arith, ints) }

is_part : (at z : ℤ) (c d : ℕ) → FitsSigned w32 at → FitsSigned w32 (at +ℤ (pos (c + d) *ℤ z)) → IsPart at (pos c *ℤ z) (pos (c + d) *ℤ z)
is_part at (pos m) c d f g =
    let up : pos 0 ≤ℤ pos m = omega (arith, ints) in
    up_part at (pos c *ℤ pos m) (pos d *ℤ pos m) (pos (c + d) *ℤ pos m) (both c d (pos m)) (rises c (pos m) up) (rises d (pos m) up) f g
is_part at (negsuc m) c d f g =
    let down : negsuc m ≤ℤ pos 0 = omega (arith, ints) in
    down_part at (pos c *ℤ negsuc m) (pos d *ℤ negsuc m) (pos (c + d) *ℤ negsuc m) (both c d (negsuc m)) (falls c (negsuc m) down) (falls d (negsuc m) down) f g

part : (at z : ℤ) (c n : ℕ) → c ≤ n → FitsSigned w32 at → FitsSigned w32 (at +ℤ (pos n *ℤ z)) → IsPart at (pos c *ℤ z) (pos n *ℤ z)
part at z c n le f g =
    let e : c + (n - c) ≡ n = omega arith in
    subst (λ (m : ℕ). IsPart at (pos c *ℤ z) (pos m *ℤ z)) e (is_part at z c (n - c) f (subst (λ (m : ℕ). FitsSigned w32 (at +ℤ (pos m *ℤ z))) (sym e) g))

one : (z : ℤ) → pos 1 *ℤ z ≡ z
one z = omega (arith, ints)

pub short_way : (at z : ℤ) (c n : ℕ) → c < n → FitsSigned w32 at → FitsSigned w32 (at +ℤ (pos n *ℤ z)) → IsShortWay c z
short_way at z c n lt f g =
    let way = part at z c n (omega arith) f g in
    let step = subst (λ (s : ℤ). IsPart at s (pos n *ℤ z)) (one z) (part at z 1 n (omega arith) f g) in
    record { way_above = way.above; way_below = way.below; step_above = step.above; step_below = step.below }

pub short_end : (at z : ℤ) (c n : ℕ) → c < n → FitsSigned w32 at → FitsSigned w32 (at +ℤ (pos n *ℤ z)) → FitsSigned w32 (at +ℤ (pos c *ℤ z))
short_end at z c n lt f g = (part at z c n (omega arith) f g).short

-- what the code computes
pub way_is : (count : ℕ) (length n : ℤ) → IsShortWay count length → FitsSigned w64 n → n ≡ pos count → to_z w64 (of_z w64 n) *ℤ to_z w64 (of_z w64 length) ≡ pos count *ℤ length
way_is count length n way f e =
    let fits : FitsSigned w64 length = omega (arith, ints, way.step_above, way.step_below) in
    ap (λ (m : ℤ). m *ℤ to_z w64 (of_z w64 length)) (to_z-of_z w64 n f ∙ e) ∙ ap (λ (m : ℤ). pos count *ℤ m) (to_z-of_z w64 length fits)

pub way_fits : (count : ℕ) (length : ℤ) → IsShortWay count length → FitsSigned w64 (pos count *ℤ length)
way_fits count length way = omega (arith, ints, way.way_above, way.way_below)

pub from_fits : (from : ℤ) → FitsSigned w32 from → FitsSigned w64 from
from_fits from f = omega (arith, ints)

pub end_fits : (from : ℤ) (count : ℕ) (length : ℤ) → FitsSigned w32 from → IsShortWay count length → FitsSigned w64 (from +ℤ (pos count *ℤ length))
end_fits from count length f way = omega (arith, ints, way.way_above, way.way_below)

pub end_is : (from : ℤ) (count : ℕ) (length product : ℤ) → FitsSigned w32 from → IsShortWay count length → product ≡ pos count *ℤ length
    → to_z w64 (of_z w64 from) +ℤ to_z w64 (of_z w64 product) ≡ from +ℤ (pos count *ℤ length)
end_is from count length product f way e =
    ap (λ (m : ℤ). m +ℤ to_z w64 (of_z w64 product)) (to_z-of_z w64 from (from_fits from f))
    ∙ ap (λ (m : ℤ). from +ℤ m) (ap (λ (m : ℤ). to_z w64 (of_z w64 m)) e ∙ to_z-of_z w64 (pos count *ℤ length) (way_fits count length way))

pub near_end : (x y : ℤ) (c d : ℕ) (u v : ℤ) → FitsSigned w32 x → FitsSigned w32 y → IsShortWay c u → IsShortWay d v → IsWithin (2 ^ 33) (record { x = x +ℤ (pos c *ℤ u); y = y +ℤ (pos d *ℤ v) })
near_end x y c d u v f g a b =
    let a1 = a.way_above in let a2 = a.way_below in let b1 = b.way_above in let b2 = b.way_below in
    record { x_above = omega (arith, ints); x_below = omega (arith, ints); y_above = omega (arith, ints); y_below = omega (arith, ints) }

-- the ways of an array's items
pub across_x : (grid : ItemGrid) (spot : Spot) → IsWritableGrid grid → IsSpotOf grid spot → IsShortWay spot.column grid.across.x
across_x grid spot w s = short_way grid.place.at.x grid.across.x spot.column grid.columns s.in_columns w.at.x w.by_columns.x

pub across_y : (grid : ItemGrid) (spot : Spot) → IsWritableGrid grid → IsSpotOf grid spot → IsShortWay spot.column grid.across.y
across_y grid spot w s = short_way grid.place.at.y grid.across.y spot.column grid.columns s.in_columns w.at.y w.by_columns.y

pub down_x : (grid : ItemGrid) (spot : Spot) → IsWritableGrid grid → IsSpotOf grid spot → IsShortWay spot.row grid.down.x
down_x grid spot w s = short_way grid.place.at.x grid.down.x spot.row grid.rows s.in_rows w.at.x w.by_rows.x

pub down_y : (grid : ItemGrid) (spot : Spot) → IsWritableGrid grid → IsSpotOf grid spot → IsShortWay spot.row grid.down.y
down_y grid spot w s = short_way grid.place.at.y grid.down.y spot.row grid.rows s.in_rows w.at.y w.by_rows.y

pub end_x : (grid : ItemGrid) (spot : Spot) → IsWritableGrid grid → IsSpotOf grid spot → FitsSigned w32 (grid.place.at.x +ℤ (pos spot.column *ℤ grid.across.x))
end_x grid spot w s = short_end grid.place.at.x grid.across.x spot.column grid.columns s.in_columns w.at.x w.by_columns.x

pub end_y : (grid : ItemGrid) (spot : Spot) → IsWritableGrid grid → IsSpotOf grid spot → FitsSigned w32 (grid.place.at.y +ℤ (pos spot.column *ℤ grid.across.y))
end_y grid spot w s = short_end grid.place.at.y grid.across.y spot.column grid.columns s.in_columns w.at.y w.by_columns.y

pub near_in : (grid : ItemGrid) (spot : Spot) → IsWritableGrid grid → IsSpotOf grid spot → IsWithin (2 ^ 33) (place_in grid spot.column spot.row).at
near_in grid spot w s =
    near_end (grid.place.at.x +ℤ (pos spot.column *ℤ grid.across.x)) (grid.place.at.y +ℤ (pos spot.column *ℤ grid.across.y)) spot.row spot.row grid.down.x grid.down.y (end_x grid spot w s) (end_y grid spot w s)
    (down_x grid spot w s) (down_y grid spot w s)

pub place_is : (grid : ItemGrid) (spot : Spot) (ax ay x y : ℤ) → ax ≡ grid.place.at.x +ℤ (pos spot.column *ℤ grid.across.x) → ay ≡ grid.place.at.y +ℤ (pos spot.column *ℤ grid.across.y)
    → x ≡ ax +ℤ (pos spot.row *ℤ grid.down.x) → y ≡ ay +ℤ (pos spot.row *ℤ grid.down.y)
    → ◌≡◌ {A = Place} (record { orient = grid.place.orient; at = record { x = x; y = y } }) (place_in grid spot.column spot.row)
place_is grid spot ax ay x y ex ey fx fy =
    ap (λ (p : Point). record { orient = grid.place.orient; at = p })
    (same_point (record { x = x; y = y }) (place_in grid spot.column spot.row).at (fx ∙ ap (λ (m : ℤ). m +ℤ (pos spot.row *ℤ grid.down.x)) ex) (fy ∙ ap (λ (m : ℤ). m +ℤ (pos spot.row *ℤ grid.down.y)) ey))

pub near_point : (p : Point) → IsWithin (2 ^ 33) p → IsNearPoint p
near_point p w = record { x = record { above = omega (arith, ints); below = omega (arith, ints) }; y = record { above = omega (arith, ints); below = omega (arith, ints) } }

-- a short coordinate and a step as the code passes them on
pub way_seen : (count : ℕ) (length : ℤ) → IsShortWay count length → IsShortWay count (to_z w64 (of_z w64 length))
way_seen count length way =
    let fits : FitsSigned w64 length = omega (arith, ints, way.step_above, way.step_below) in
    subst (λ (m : ℤ). IsShortWay count m) (sym (to_z-of_z w64 length fits)) way

pub short_seen : (from : ℤ) → FitsSigned w32 from → FitsSigned w32 (to_z w64 (of_z w64 from))
short_seen from f = subst (λ (m : ℤ). FitsSigned w32 m) (sym (to_z-of_z w64 from (from_fits from f))) f

pub end_seen : (from : ℤ) (count : ℕ) (length end : ℤ) → FitsSigned w32 from → IsShortWay count length → end ≡ to_z w64 (of_z w64 from) +ℤ (pos count *ℤ to_z w64 (of_z w64 length)) → end ≡ from +ℤ (pos count *ℤ length)
end_seen from count length end f way e =
    let fits : FitsSigned w64 length = omega (arith, ints, way.step_above, way.step_below) in
    e ∙ (ap (λ (m : ℤ). m +ℤ (pos count *ℤ to_z w64 (of_z w64 length))) (to_z-of_z w64 from (from_fits from f)) ∙ ap (λ (m : ℤ). from +ℤ (pos count *ℤ m)) (to_z-of_z w64 length fits))

pub kept : (end : ℤ) → FitsSigned w64 end → to_z w64 (of_z w64 end) ≡ end
kept end f = to_z-of_z w64 end f
