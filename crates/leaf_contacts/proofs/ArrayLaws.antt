-- The ways and ends of an array's items are short.
use Rattle.std.proofs.Common.{◌≡◌, ℕ, ◌+◌, ◌-◌, ◌<◌, ◌≤◌, ◌^◌, ℤ, pos, negsuc, ◌+ℤ◌, ◌*ℤ◌, ◌≤ℤ◌, w16, w32, FitsSigned, to_z, of_z, refl, sym, ap, ◌∙◌, arith}
use Rattle.std.specs.Prelude.{unsigned_abs}
use Rattle.std.proofs.lemmas.Int.{ints, to_z-of_z}
use Rattle.or_geom.specs.declared.shape.Point.{Point}
use Rattle.or_geom.specs.declared.place.Place.{Place}
use Rattle.or_geom.specs.Place.{IsWithin}
use Rattle.or_geom.proofs.PlaceLaws.{same_point}
use Rattle.gds_library.specs.Writable.{IsWritableArray}
use Rattle.cell_chains.specs.Instances.{item_place}
use Rattle.cell_hierarchy.specs.Grid.{IsShortWay}
use Rattle.cell_hierarchy.proofs.StepLaws.{short_way, short_end, near_end}
use Rattle.leaf_contacts.specs.declared.references.Grid.{Grid}

abbrev pub IsWritableOf : Grid → Type 0
IsWritableOf grid = IsWritableArray grid.place (pos grid.columns) (pos grid.rows) grid.across grid.down

pub across_x : (grid : Grid) (column : ℕ) → IsWritableOf grid → column < grid.columns → IsShortWay column grid.across.x
across_x grid column w lt = short_way grid.place.at.x grid.across.x column grid.columns lt w.at.x w.by_columns.x

pub across_y : (grid : Grid) (column : ℕ) → IsWritableOf grid → column < grid.columns → IsShortWay column grid.across.y
across_y grid column w lt = short_way grid.place.at.y grid.across.y column grid.columns lt w.at.y w.by_columns.y

pub down_x : (grid : Grid) (row : ℕ) → IsWritableOf grid → row < grid.rows → IsShortWay row grid.down.x
down_x grid row w lt = short_way grid.place.at.x grid.down.x row grid.rows lt w.at.x w.by_rows.x

pub down_y : (grid : Grid) (row : ℕ) → IsWritableOf grid → row < grid.rows → IsShortWay row grid.down.y
down_y grid row w lt = short_way grid.place.at.y grid.down.y row grid.rows lt w.at.y w.by_rows.y

pub end_x : (grid : Grid) (column : ℕ) → IsWritableOf grid → column < grid.columns → FitsSigned w32 (grid.place.at.x +ℤ (pos column *ℤ grid.across.x))
end_x grid column w lt = short_end grid.place.at.x grid.across.x column grid.columns lt w.at.x w.by_columns.x

pub end_y : (grid : Grid) (column : ℕ) → IsWritableOf grid → column < grid.columns → FitsSigned w32 (grid.place.at.y +ℤ (pos column *ℤ grid.across.y))
end_y grid column w lt = short_end grid.place.at.y grid.across.y column grid.columns lt w.at.y w.by_columns.y

abbrev pub place_of_item : Grid → ℕ → ℕ → Place
place_of_item grid column row = item_place grid.place column row grid.across grid.down

pub near_in : (grid : Grid) (column row : ℕ) → IsWritableOf grid → column < grid.columns → row < grid.rows → IsWithin (2 ^ 33) (place_of_item grid column row).at
near_in grid column row w in_columns in_rows =
    near_end (grid.place.at.x +ℤ (pos column *ℤ grid.across.x)) (grid.place.at.y +ℤ (pos column *ℤ grid.across.y)) row row grid.down.x grid.down.y (end_x grid column w in_columns) (end_y grid column w in_columns) (down_x grid row w in_rows)
    (down_y grid row w in_rows)

pub place_is : (grid : Grid) (column row : ℕ) (ax ay x y : ℤ) → ax ≡ grid.place.at.x +ℤ (pos column *ℤ grid.across.x) → ay ≡ grid.place.at.y +ℤ (pos column *ℤ grid.across.y)
    → x ≡ ax +ℤ (pos row *ℤ grid.down.x) → y ≡ ay +ℤ (pos row *ℤ grid.down.y)
    → ◌≡◌ {A = Place} (record { orient = grid.place.orient; at = record { x = x; y = y } }) (place_of_item grid column row)
place_is grid column row ax ay x y ex ey fx fy =
    ap (λ (p : Point). record { orient = grid.place.orient; at = p })
    (same_point (record { x = x; y = y }) (place_of_item grid column row).at (fx ∙ ap (λ (m : ℤ). m +ℤ (pos row *ℤ grid.down.x)) ex) (fy ∙ ap (λ (m : ℤ). m +ℤ (pos row *ℤ grid.down.y)) ey))

-- a number of 16 bits that is positive, as the code passes its size on
by_size : (z : ℤ) → pos 1 ≤ℤ z → z ≡ pos (unsigned_abs z)
by_size (pos m) up = refl
by_size (negsuc m) up = absurd (omega (arith, ints))

pub whole_abs : (z : ℤ) (n : ℕ) → pos 1 ≤ℤ z → z ≤ℤ pos 32767 → n ≡ unsigned_abs (to_z w16 (of_z w16 z)) → z ≡ pos n
whole_abs z n up down e =
    let fits : FitsSigned w16 z = omega (arith, ints) in
    by_size z up ∙ sym (ap pos (e ∙ ap unsigned_abs (to_z-of_z w16 z fits)))
