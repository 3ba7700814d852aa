-- How far shapes go that were moved.
use Rattle.std.proofs.Common.{◌≡◌, ℕ, ◌+◌, ◌^◌, ◌≤◌, ℤ, pos, negsuc, ◌+ℤ◌, ◌≤ℤ◌, ◌<ℤ◌, refl, sym, subst, arith}
use Rattle.std.specs.Prelude.{unsigned_abs}
use Rattle.std.specs.Int.{int_max, int_min}
use Rattle.std.proofs.lemmas.Int.{ints, clamps}
use Rattle.or_geom.specs.declared.shape.Point.{Point}
use Rattle.or_geom.specs.declared.shape.Rect.{Rect}
use Rattle.or_geom.specs.declared.shape.Shape.{Shape}
use Rattle.or_geom.specs.declared.place.Place.{Place}
use Rattle.or_geom.specs.Place.{IsNearPoint, IsWithin, turned, placed, low_corner, high_corner, IsBetween}
use Rattle.or_geom.proofs.PlaceLaws.{turned_within, plus_within}
use Rattle.gds_records.specs.Values.{IsShort}
use Rattle.gds_library.specs.declared.library.Element.{Element}
use Rattle.gds_library.specs.declared.library.Element.TheVariants.{Boundary, Path, Sref, Aref, Text}
use Rattle.gds_library.specs.Writable.{IsWritableElement, IsWritableArray}
use Rattle.element_drawing.specs.OwnShapes.{IsRectWithin, IsShapeWithin}
use Rattle.cell_chains.specs.Instances.{Item, HasItem, item_place}
use Rattle.cell_hierarchy.specs.FlatSet.{IsMoved}
use Rattle.cell_hierarchy.specs.declared.grid.ItemGrid.{ItemGrid}
use Rattle.cell_hierarchy.proofs.StepLaws.{near_in}

pub placed_within : (m n : ℕ) (place : Place) (p : Point) → IsWithin m p → IsWithin n place.at → IsWithin (m + n) (placed place p)
placed_within m n place p v w =
    let sum : n + m ≡ m + n = omega arith in
    subst (λ (k : ℕ). IsWithin k (placed place p)) sum (plus_within n m place.at (turned place.orient p) w (turned_within place.orient m p v))

low_within : (n : ℕ) (a b x : ℤ) → x ≡ int_min a b → pos 0 ≤ℤ (a +ℤ pos n) → pos 0 ≤ℤ (b +ℤ pos n) → pos 0 ≤ℤ (x +ℤ pos n)
low_within n a b x e p q = omega (arith, ints, clamps)

low_below : (n : ℕ) (a b x : ℤ) → x ≡ int_min a b → a ≤ℤ pos n → b ≤ℤ pos n → x ≤ℤ pos n
low_below n a b x e p q = omega (arith, ints, clamps)

high_within : (n : ℕ) (a b x : ℤ) → x ≡ int_max a b → pos 0 ≤ℤ (a +ℤ pos n) → pos 0 ≤ℤ (b +ℤ pos n) → pos 0 ≤ℤ (x +ℤ pos n)
high_within n a b x e p q = omega (arith, ints, clamps)

high_below : (n : ℕ) (a b x : ℤ) → x ≡ int_max a b → a ≤ℤ pos n → b ≤ℤ pos n → x ≤ℤ pos n
high_below n a b x e p q = omega (arith, ints, clamps)

between_within : (n : ℕ) (a b : Point) (r : Rect) → IsWithin n a → IsWithin n b → IsBetween a b r → IsRectWithin n r
between_within n a b r v w h = record {
  low = record { x_above = low_within n a.x b.x r.x1 h.x1 v.x_above w.x_above; x_below = low_below n a.x b.x r.x1 h.x1 v.x_below w.x_below; y_above = low_within n a.y b.y r.y1 h.y1 v.y_above w.y_above; y_below = low_below n a.y b.y r.y1 h.y1 v.y_below w.y_below };
  high = record { x_above = high_within n a.x b.x r.x2 h.x2 v.x_above w.x_above; x_below = high_below n a.x b.x r.x2 h.x2 v.x_below w.x_below; y_above = high_within n a.y b.y r.y2 h.y2 v.y_above w.y_above; y_below = high_below n a.y b.y r.y2 h.y2 v.y_below w.y_below };
}

pub moved_within : (m n : ℕ) (place : Place) (inner s : Shape) → IsWithin n place.at → IsShapeWithin m inner → IsMoved place inner s → IsShapeWithin (m + n) s
moved_within m n place inner s near w moved =
    between_within (m + n) (placed place (low_corner inner.rect)) (placed place (high_corner inner.rect)) s.rect (placed_within m n place (low_corner inner.rect) w.low near) (placed_within m n place (high_corner inner.rect) w.high near) moved.image

pub further : (m n : ℕ) (p : Point) → m ≤ n → IsWithin m p → IsWithin n p
further m n p le w = record { x_above = omega (arith, ints); x_below = omega (arith, ints); y_above = omega (arith, ints); y_below = omega (arith, ints) }

pub shape_further : (m n : ℕ) (s : Shape) → m ≤ n → IsShapeWithin m s → IsShapeWithin n s
shape_further m n s le w = record { low = further m n _ le w.low; high = further m n _ le w.high }

pub short_within : (p : Point) → IsShort p → IsWithin (2 ^ 33) p
short_within p s = let x = s.x in let y = s.y in record { x_above = omega (arith, ints); x_below = omega (arith, ints); y_above = omega (arith, ints); y_below = omega (arith, ints) }

pub by_size : (z : ℤ) → pos 1 ≤ℤ z → z ≡ pos (unsigned_abs z)
by_size (pos m) up = refl
by_size (negsuc m) up = absurd (omega (arith, ints))

-- where an item of an array stands
grid_near : (grid : ItemGrid) (columns rows : ℤ) → columns ≡ pos grid.columns → rows ≡ pos grid.rows → IsWritableArray grid.place columns rows grid.across grid.down → (column row : ℕ) → pos column <ℤ columns → pos row <ℤ rows
    → IsWithin (2 ^ 33) (item_place grid.place column row grid.across grid.down).at
grid_near grid columns rows ec er w column row in_columns in_rows =
    let v = subst (λ (m : ℤ). IsWritableArray grid.place (pos grid.columns) m grid.across grid.down) er (subst (λ (m : ℤ). IsWritableArray grid.place m rows grid.across grid.down) ec w) in
    near_in grid (record { column = column; row = row }) v (record { in_columns = omega (arith, ints); in_rows = omega (arith, ints) })

array_near : (place : Place) (columns rows : ℤ) (across down : Point) (column row : ℕ) → IsWritableArray place columns rows across down → pos column <ℤ columns → pos row <ℤ rows → IsWithin (2 ^ 33) (item_place place column row across down).at
array_near place columns rows across down column row w in_columns in_rows =
    grid_near (record { place = place; columns = unsigned_abs columns; rows = unsigned_abs rows; across = across; down = down }) columns rows (by_size columns w.some_columns) (by_size rows w.some_rows) w column row in_columns in_rows

pub item_near : (n : ℕ) (e : Element) (item : Item) → IsWritableElement e → HasItem n e item → IsWithin (2 ^ 33) item.place.at
item_near n (Boundary layer datatype points props) item w h = absurd h
item_near n (Path layer datatype kind width points props) item w h = absurd h
item_near n (Sref name place props) item w h = subst (λ (p : Place). IsWithin (2 ^ 33) p.at) (sym h.placed) (short_within place.at w.body.at)
item_near n (Aref name place columns rows across down props) item w h = subst (λ (p : Place). IsWithin (2 ^ 33) p.at) (sym h.placed) (array_near place columns rows across down h.column h.row w.body.1 h.in_columns h.in_rows)
item_near n (Text layer texttype at string props) item w h = absurd h

pub near_point : (p : Point) → IsWithin (2 ^ 39) p → IsNearPoint p
near_point p w = record { x = record { above = omega (arith, ints); below = omega (arith, ints) }; y = record { above = omega (arith, ints); below = omega (arith, ints) } }

pub short_near : (p : Point) → IsShort p → IsNearPoint p
short_near p s = near_point p (further (2 ^ 33) (2 ^ 39) p (omega arith) (short_within p s))
